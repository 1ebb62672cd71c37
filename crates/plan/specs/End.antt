-- The last tests of an instruction whose accesses are done. Document 01, "Faults in order" and "Results and flags".
-- Assumes nothing.
use Rattle.std.specs.Prelude.{Bool, cond, ℕ, ◌+◌, eqb}
use Rattle.decode.specs.declared.Flow.{Flow}
use Rattle.decode.specs.declared.Flow.TheVariants as flow
use Rattle.alu.specs.Alu.{places}
use Rattle.plan.specs.declared.Plan.{Plan}
use Rattle.plan.specs.declared.Plan.TheVariants.{Perform, Trap}
use Rattle.plan.specs.declared.Ready.{Ready}
use Rattle.plan.specs.declared.Trap.TheVariants as trap

-- it goes ahead, with PC after it and its states
abbrev pub performs : Ready → ℕ → ℕ → Plan
performs x pc states =
    Perform
    (record {
      code = x.code;
      rd = x.rd;
      held = x.held;
      source = x.source;
      port = x.address;
      pc = pc;
      states = states;
      store = x.store;
    })

-- The last tests. `pc` is the instruction's own, and `jumps` says whether a jump is taken. "Jump 5 taken, 4 not." "RETI takes FLAG, then PC".
-- "SVC is 15", with the following PC. "zero divisor (12)". "Shift by n: ... plus n."
unfoldable pub end_of : Flow → Ready → ℕ → Bool → Plan
end_of flow.Next x pc jumps = performs x x.following x.cost
end_of flow.Jump x pc jumps = cond jumps (performs x x.address (x.cost + 1)) (performs x x.following x.cost)
end_of flow.Call x pc jumps = performs x x.address x.cost
end_of flow.Return x pc jumps = performs x x.source x.cost
end_of flow.Resume x pc jumps = performs x x.second x.cost
end_of flow.Trap x pc jumps = Trap trap.ServiceCall x.following
end_of flow.Divide x pc jumps = cond (eqb x.source 0) (Trap trap.ZeroDivisor pc) (performs x x.following x.cost)
end_of flow.Shift x pc jumps = performs x x.following (x.cost + places x.source)
