-- Laws of a call, in which neither what it is lent nor the number of the causes occurs.
-- Assumes nothing.
use Rattle.std.specs.Prelude.{List, refl, ◌≡◌, ℕ, Err, Ok}
use Rattle.refusal.specs.Refusal.{Validity}
use Rattle.refusal.specs.declared.Refusal.{Refusal}
use Rattle.call.specs.Call.{Answer, Buffers, Called, buffers, called, unless_refused}

module _ {B : Type 0} (before : B) (done : Called Answer B) where
  -- `refused_leaves`: a call that is refused answers its refusal, and everything that it was lent is as it was
  pub refused_leaves : (v : Validity) (r : Refusal) → v ≡ Err r → unless_refused v before done ≡ called (Err r) before
  refused_leaves v r e = rw e

  -- a call that passes its tests does what it does
  pub good_does : (v : Validity) → v ≡ Ok tt → unless_refused v before done ≡ done
  good_does v e = rw e

  -- what holds of a call, by what its tests say
  pub by_tests :
      (P : Called Answer B → Type 0) (v : Validity) → ((r : Refusal) → v ≡ Err r → P (called (Err r) before)) → (v ≡ Ok tt → P done)
      → P (unless_refused v before done)
  by_tests P (Err r) leaves does = leaves r refl
  by_tests P (Ok u) leaves does = does refl

-- a call is its answer and what was lent
pub called_is : {A B : Type 0} {answer : A} {lent : B} (x : Called A B) → answer ≡ x.answer → lent ≡ x.lent → called answer lent ≡ x
called_is x a l = λ i. called (a i) (l i)

pub buffers_are : {m b rep : List ℕ} (x : Buffers) → m ≡ x.memory → b ≡ x.image → rep ≡ x.report → buffers m b rep ≡ x
buffers_are x m b rep = λ i. buffers (m i) (b i) (rep i)
