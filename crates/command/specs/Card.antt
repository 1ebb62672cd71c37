-- A bench card as a list of commands, and its tests. Document 01: "A card is tested whole before its first command acts."; "An empty card is
-- good."; the table of refusals, 4 to 7.
-- Assumes nothing.
use Rattle.std.specs.Prelude.{cond, List, [], ◌∷◌, suc, zero, ℕ, ◌+◌, leb, drop, length, Err, None, Ok, Some}
use Rattle.refusal.specs.Refusal.{Validity, refused}
use Rattle.refusal.specs.declared.Cause.TheVariants.{CardLength}
use Rattle.command.specs.Command.{Standing, parsed_of}
use Rattle.command.specs.declared.Command.{Command}
use Rattle.command.specs.declared.Command.TheVariants.{Byte, Entry, Flag, Lines, Mmu, Register, Run, Time}

-- the most bytes that a card has
abbrev pub card_size : ℕ
card_size = 4096

-- what is read of a card: its commands, to its end or to the first bad one, and the validity on it
pub record Reading : Type 0 where
  pub commands : List Command
  pub validity : Validity

abbrev pub reading : List Command → Validity → Reading
reading xs v = record { commands = xs; validity = v }

-- what stands at a position, and what is read from the next one on
abbrev pub read_by : Standing → (ℕ → Reading) → Reading
read_by (Ok None) rest = reading [] (Ok tt)
read_by (Err r) rest = reading [] (Err r)
read_by (Ok (Some p)) rest = reading (p.command ∷ (rest p.next).commands) (rest p.next).validity

-- at most `n` commands from position `at` on
unfoldable pub read_at_most : ℕ → List ℕ → ℕ → Reading
read_at_most zero card at = reading [] (Ok tt)
read_at_most (suc n) card at = read_by (parsed_of at (drop at card)) (read_at_most n card)

-- the commands from position `at` on: a card has no more commands than bytes
unfoldable pub read_from : List ℕ → ℕ → Reading
read_from card at = read_at_most (length card) card at

-- a whole card: refusals 4 to 7
unfoldable pub reading_of : List ℕ → Reading
reading_of card = cond (leb (length card) card_size) (read_from card 0) (reading [] (refused CardLength 0))

-- 1 for a run
abbrev pub is_run : Command → ℕ
is_run (Byte a v) = 0
is_run (Register n v) = 0
is_run (Lines lines v) = 0
is_run (Run n) = 1
is_run (Entry k bits) = 0
is_run (Mmu on) = 0
is_run (Flag w) = 0
is_run (Time ms) = 0

-- how many of the commands are runs
unfoldable pub runs_in : List Command → ℕ
runs_in [] = 0
runs_in (x ∷ xs) = is_run x + runs_in xs
