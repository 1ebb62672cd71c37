-- The answer of an exported call in one number: the refusal's number × 2^32 + P, or what the call gives.
-- Assumes nothing.
use Rattle.std.specs.Prelude.{◌≡◌, ℕ, ◌%◌, ◌*◌, ◌+◌, ◌/◌, ◌<◌, ◌≤◌, Err, Ok}
use Rattle.std.proofs.Common.{ap, arith}
use Rattle.call.specs.Call.{Answer, Called, called}
use Rattle.refusal.specs.Laws.{number_positive}
use Rattle.refusal.specs.Refusal.{cause_number}
use Rattle.refusal.specs.declared.Refusal.{Refusal}

abbrev pub packed : Answer → ℕ
packed (Err r) = cause_number r.cause * 4294967296 + r.place
packed (Ok given) = given

-- a call as C sees it
abbrev pub packed_call : {B : Type 0} → Called Answer B → Called ℕ B
packed_call c = called (packed c.answer) c.lent

-- the refusal's number, or 0 where nothing is refused
abbrev pub refusal_number : Answer → ℕ
refusal_number (Err r) = cause_number r.cause
refusal_number (Ok given) = 0

-- P, or what is given
abbrev pub told : Answer → ℕ
told (Err r) = r.place
told (Ok given) = given

-- the number tells the answer, in its upper and in its lower half; that of a refusal is at least 2^32, and no other is
pub record Unpacked (n : ℕ) (x : Answer) : Type 0 where
  pub upper : n / 4294967296 ≡ refusal_number x
  pub lower : n % 4294967296 ≡ told x
  pub refused : (r : Refusal) → x ≡ Err r → 4294967296 ≤ n

pub unpacked : (x : Answer) → told x < 4294967296 → Unpacked (packed x) x
unpacked (Err r) h =
    record { upper = omega arith; lower = omega arith; refused = λ s e. omega (arith, number_positive r.cause) }
unpacked (Ok given) h =
    record { upper = omega arith; lower = omega arith; refused = λ s e. let z : ◌≡◌ {A = ℕ} 0 1 = cc in absurd (omega arith) }

-- a call whose answer was packed
pub packed_is : {B : Type 0} {x : Answer} {lent : B} {n : ℕ} (c : Called Answer B) → n ≡ packed x → called x lent ≡ c → called n lent ≡ packed_call c
packed_is c e d = rw e (ap packed_call d)
