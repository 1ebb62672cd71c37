-- What a fault of an access notes in the state.
-- Assumes nothing.
use Rattle.std.specs.Prelude.{ℕ}
use Rattle.mmu.specs.declared.Fault.{Fault}
use Rattle.fault.specs.Fault.{record_after}
use Rattle.machine.specs.State.{with_fault}
use Rattle.machine.specs.declared.State.{State}

abbrev pub noted : Fault → ℕ → State → State
noted why a st = with_fault st (record_after why a st.fault)
