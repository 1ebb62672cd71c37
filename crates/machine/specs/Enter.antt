-- Kernel entry. Document 01, "Faults in order": "Entry copies FLAG, sets E=0 and P=1, pushes PC and the copy on SSP, loads PC from
-- FFE0h + 2 × number."
-- Assumes nothing.
use Rattle.std.specs.Prelude.{cond, List, ℕ, ◌%◌, ◌*◌, eqb}
use Rattle.memory.specs.Memory.{word_at}
use Rattle.status.specs.Flag.{kernel_flags}
use Rattle.status.specs.Saved.{pushed}
use Rattle.word.specs.Word.{minus, plus}
use Rattle.machine.specs.Flag.{flag_of}
use Rattle.machine.specs.State.{with_condition, with_pc, with_flags, with_pending, with_stack}
use Rattle.machine.specs.declared.Condition.TheVariants as condition
use Rattle.machine.specs.declared.Event.{Event}
use Rattle.machine.specs.declared.Event.TheVariants.{Entered, Lost}
use Rattle.machine.specs.declared.State.{State}

-- a step: the next state, the memory after it and what it did
pub record Outcome : Type 0 where
  pub state : State
  pub memory : List ℕ
  pub event : Event

-- where the vectors begin
abbrev pub vectors : ℕ
vectors = 0xffe0

-- the vector of an entry
abbrev pub vector_of : ℕ → ℕ
vector_of number = plus vectors (2 * number)

-- the state in the handler, whose address is `handler`
abbrev pub in_kernel : State → ℕ → State
in_kernel st handler = with_pc (with_stack (with_flags st (kernel_flags st.flags)) (minus st.ssp 4) st.usp) handler

-- the entry with a number, `saved` being the PC that is pushed
abbrev pub entered : State → ℕ → ℕ → List ℕ → Outcome
entered st number saved m =
    let m' : List ℕ = pushed st.ssp st.flags saved m in
    record { state = in_kernel st (word_at m' (vector_of number)); memory = m'; event = Entered number saved (flag_of st) }

-- "If SSP is odd the machine is lost instead: one step, 0 states; the condition changes"
abbrev pub lost : State → List ℕ → Outcome
lost st m = record { state = with_condition st condition.Lost; memory = m; event = Lost }

-- The entry, with `pending` the lines that are left, or the loss.
unfoldable pub enter_of : State → ℕ → ℕ → ℕ → List ℕ → Outcome
enter_of st pending number saved m = cond (eqb (st.ssp % 2) 1) (lost st m) (entered (with_pending st pending) number saved m)
