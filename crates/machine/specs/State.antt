-- The state of document 01, "Registers and state image", and of document 02, 2/14, "The two timers", with some of its fields replaced.
-- Assumes nothing.
use Rattle.std.specs.Prelude.{Bool, List, ℕ}
use Rattle.status.specs.Flag.{flags_with}
use Rattle.machine.specs.declared.Condition.{Condition}
use Rattle.fault.specs.declared.FaultRecord.{FaultRecord}
use Rattle.status.specs.declared.Flags.{Flags}
use Rattle.timer.specs.declared.Timers.{Timers}
use Rattle.machine.specs.declared.Ports.{Ports}
use Rattle.machine.specs.declared.State.{State}

-- a state by its fields
abbrev pub state_with : List ℕ → ℕ → ℕ → ℕ → Flags → ℕ → Ports → Bool → Condition → FaultRecord → List ℕ → Timers → State
state_with regs ssp usp pc flags pending ports mmu condition fault tlb timers =
    record {
      regs = regs;
      ssp = ssp;
      usp = usp;
      pc = pc;
      flags = flags;
      pending = pending;
      ports = ports;
      mmu = mmu;
      condition = condition;
      fault = fault;
      tlb = tlb;
      timers = timers;
    }

-- G0 to G11 and FP
abbrev pub with_regs : State → List ℕ → State
with_regs s x = state_with x s.ssp s.usp s.pc s.flags s.pending s.ports s.mmu s.condition s.fault s.tlb s.timers

-- SSP and USP
abbrev pub with_stack : State → ℕ → ℕ → State
with_stack s a b = state_with s.regs a b s.pc s.flags s.pending s.ports s.mmu s.condition s.fault s.tlb s.timers

abbrev pub with_pc : State → ℕ → State
with_pc s x = state_with s.regs s.ssp s.usp x s.flags s.pending s.ports s.mmu s.condition s.fault s.tlb s.timers

abbrev pub with_flags : State → Flags → State
with_flags s x = state_with s.regs s.ssp s.usp s.pc x s.pending s.ports s.mmu s.condition s.fault s.tlb s.timers

abbrev pub with_pending : State → ℕ → State
with_pending s x = state_with s.regs s.ssp s.usp s.pc s.flags x s.ports s.mmu s.condition s.fault s.tlb s.timers

abbrev pub with_ports : State → Ports → State
with_ports s x = state_with s.regs s.ssp s.usp s.pc s.flags s.pending x s.mmu s.condition s.fault s.tlb s.timers

abbrev pub with_mmu : State → Bool → State
with_mmu s x = state_with s.regs s.ssp s.usp s.pc s.flags s.pending s.ports x s.condition s.fault s.tlb s.timers

abbrev pub with_condition : State → Condition → State
with_condition s x = state_with s.regs s.ssp s.usp s.pc s.flags s.pending s.ports s.mmu x s.fault s.tlb s.timers

abbrev pub with_fault : State → FaultRecord → State
with_fault s x = state_with s.regs s.ssp s.usp s.pc s.flags s.pending s.ports s.mmu s.condition x s.tlb s.timers

abbrev pub with_tlb : State → List ℕ → State
with_tlb s x = state_with s.regs s.ssp s.usp s.pc s.flags s.pending s.ports s.mmu s.condition s.fault x s.timers

abbrev pub with_timers : State → Timers → State
with_timers s x = state_with s.regs s.ssp s.usp s.pc s.flags s.pending s.ports s.mmu s.condition s.fault s.tlb x

-- V, C, S and Z
abbrev pub with_arithmetic : State → Bool → Bool → Bool → Bool → State
with_arithmetic st v c s z = with_flags st (flags_with st.flags v c s z)

abbrev pub with_input : State → ℕ → State
with_input st byte = with_ports st (record { input = byte; output = st.ports.output })

abbrev pub with_output : State → ℕ → State
with_output st byte = with_ports st (record { input = st.ports.input; output = byte })
