-- A look at the fault record. Document 02, 1/14: "it must show the fault cause and leave it there". It works in any condition of the machine.
-- Assumes nothing.
use Rattle.fault.specs.Fault.{looked}
use Rattle.machine.specs.State.{with_fault}
use Rattle.machine.specs.declared.Looked.{Looked}
use Rattle.machine.specs.declared.State.{State}

-- the record, and the state after the look: the reader of the fault record that does not consume
abbrev pub look_of : State → Looked
look_of st = record { given = (looked st.fault).given; state = with_fault st (looked st.fault).left }
