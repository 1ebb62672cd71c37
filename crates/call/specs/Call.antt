-- A call: what it answers, and what it leaves of what it was lent, whatever that is. Demand 1: "an answer that ends: a run within its steps, or
-- one of eight numbered refusals with memory, state and report untouched"; document 02, 5/14: "Demand 1's list and the table take each new
-- refusal, with P=0 and every lent buffer as it was".
-- Assumes nothing.
use Rattle.std.specs.Prelude.{List, ℕ, Err, Ok, Result}
use Rattle.std.specs.Result.{result_unwrap_or}
use Rattle.refusal.specs.Refusal.{Validity}
use Rattle.refusal.specs.declared.Refusal.{Refusal}

-- what a call answers: the number that it gives, or a refusal
abbrev pub Answer : Type 0
Answer = Result ℕ Refusal

-- the answer, of type A, and what was lent, as the call leaves it: buffers and numbers, in a type B for each kind of call
pub record Called (A B : Type 0) : Type 0 where
  pub answer : A
  pub lent : B

abbrev pub called : {A B : Type 0} → A → B → Called A B
called answer lent = record { answer = answer; lent = lent }

-- A call is its tests and what it does. Refused, it answers the refusal, and what was lent is as `before` has it: "Left as it was".
abbrev pub unless_refused : {B : Type 0} → Validity → B → Called Answer B → Called Answer B
unless_refused (Err r) before done = called (Err r) before
unless_refused (Ok u) before done = done

-- what a run, a card and a view are lent, but for the card
pub record Buffers : Type 0 where
  pub memory : List ℕ
  pub image : List ℕ
  pub report : List ℕ

abbrev pub buffers : List ℕ → List ℕ → List ℕ → Buffers
buffers memory image report = record { memory = memory; image = image; report = report }

abbrev pub Call : Type 0
Call = Called Answer Buffers

-- the number that a call gives, or 0 if it is refused
abbrev pub given_by : Answer → ℕ
given_by answer = result_unwrap_or answer 0
