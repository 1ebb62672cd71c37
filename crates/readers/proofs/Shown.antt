-- A look after a kernel entry for an access that failed: after 11 the record has its address and its cause bit, after 10 its page.
-- Assumes nothing.
use Rattle.std.specs.Prelude.{List, ◌≡◌, refl, ℕ, suc, zero, ◌<◌}
use Rattle.std.proofs.Common.{ap, ◌∙◌, arith}
use Rattle.std.specs.Int.Bits.{bit_and, bit_or}
use Rattle.counting.specs.Statement.{ByEntry}
use Rattle.counting.proofs.Theorem.{counted}
use Rattle.fault.specs.Fault.{record_after}
use Rattle.fault.specs.declared.FaultRecord.{FaultRecord}
use Rattle.machine.specs.Plan.{plan_of}
use Rattle.machine.specs.Run.{iterate, run_of}
use Rattle.machine.specs.Step.{step_of}
use Rattle.machine.specs.declared.Ending.TheVariants as ending
use Rattle.machine.specs.declared.Event.TheVariants as event
use Rattle.machine.specs.declared.State.{State}
use Rattle.mmu.specs.Access.{violation}
use Rattle.mmu.specs.Answers.{cause_bit, fault_number}
use Rattle.mmu.specs.declared.Fault.{Fault}
use Rattle.mmu.specs.declared.Fault.TheVariants.{Missing, Odd, Refused}
use Rattle.plan.specs.declared.Plan.TheVariants.{Violation}
use Rattle.roundtrip.specs.Statement.{GoodState}
use Rattle.roundtrip.proofs.Steps.{step_good}
use Rattle.readers.specs.Numbers.{ByAccess, plan_access, plan_small}
use Rattle.readers.specs.Statement.{Last, RunShows, Shows, StepShows}
use Rattle.readers.specs.Stopped.{Misses, RunMisses, RunNumber, StepMisses, Stores}
use Rattle.readers.proofs.Stops.{run_stopped, step_stops}

-- ---- an entry, by its number

iterate_good : (k : ℕ) (st : State) (m : List ℕ) → GoodState st → GoodState (iterate k st m).state
unfolding iterate
iterate_good zero st m g = g
iterate_good (suc k) st m g = iterate_good k (step_of st m).state (step_of st m).memory (step_good st m g)

-- what the record shows of a step that entered with a number, from a good state
abbrev Shown : ℕ → (State → List ℕ → FaultRecord → Type 0) → Type 0
Shown number Claim =
    (st : State) (m : List ℕ) (r : FaultRecord) (saved flag : ℕ) → GoodState st → Stores (ending.Entered number saved flag) st m r
    → Claim st m r

-- it shows after the step, and after a run whose last step it was
module _ (number : ℕ) (Claim : State → List ℕ → FaultRecord → Type 0) (shown : Shown number Claim) where
  step_by :
      (st : State) (m : List ℕ) (saved flag : ℕ) → GoodState st → (step_of st m).event ≡ event.Entered number saved flag
      → Claim st m (step_of st m).state.fault
  step_by st m saved flag g e = shown st m _ saved flag g (rw e at (step_stops st m))

  run_by :
      (n : ℕ) (st : State) (m : List ℕ) (saved flag : ℕ) → GoodState st → (run_of n st m).ending ≡ ending.Entered number saved flag
      → Last Claim st m (run_of n st m).steps (run_of n st m).state.fault
  run_by n st m saved flag g e =
      let x : ByEntry st m (run_of n st m).steps (event.Entered number saved flag) = rw e at (counted n st m).ended in
      record {
        last = x.last;
        counted = x.counted;
        shows = shown _ _ _ saved flag (iterate_good x.last st m g) (rw (e, x.counted) at (run_stopped n st m));
      }

-- ---- an entry with 11

-- what holds of each cause
by_cause : (P : ℕ → Type 0) → P 0 → P 1 → P 2 → P 3 → (c : ℕ) → c < 4 → P c
by_cause P p q r s zero h = p
by_cause P p q r s (suc zero) h = q
by_cause P p q r s (suc (suc zero)) h = r
by_cause P p q r s (suc (suc (suc zero))) h = s
by_cause P p q r s (suc (suc (suc (suc c)))) h = absurd (omega arith)

-- a bit that is added is there
abbrev Added : Fault → ℕ → Type 0
Added why c = bit_and (bit_or c (cause_bit why)) (cause_bit why) ≡ cause_bit why

added : (why : Fault) (c : ℕ) → c < 4 → Added why c
added Odd = by_cause (Added Odd) refl refl refl refl
added Missing = by_cause (Added Missing) refl refl refl refl
added Refused = by_cause (Added Refused) refl refl refl refl

-- "Fault 11 stores its address and adds its cause bit"
recorded_eleven :
    (why : Fault) (a : ℕ) (r : FaultRecord) → fault_number why ≡ 11
    → record_after why a r ≡ record { violation = a; cause = bit_or r.cause (cause_bit why); missed = r.missed }
recorded_eleven Odd a r e = refl
recorded_eleven Missing a r e = absurd (omega arith)
recorded_eleven Refused a r e = refl

shows : Shown 11 Shows
shows st m r saved flag g s =
    let x : ByAccess 11 (plan_of st m).plan = plan_access 11 (omega arith) (omega arith) st m g.lines s.plan in
    rw (s.stored, x.failed, recorded_eleven x.why x.address st.fault x.number_is)
    (record {
      why = x.why;
      address = x.address;
      failed = x.failed;
      number = x.number_is;
      violation = refl;
      bit = added x.why st.fault.cause g.causes;
      cause = refl;
      missed = refl;
    })

pub step_shows : StepShows
step_shows = step_by 11 Shows shows

pub run_shows : RunShows
run_shows = run_by 11 Shows shows

-- ---- an entry with 10

is_missing : (why : Fault) → fault_number why ≡ 10 → why ≡ Missing
is_missing Odd e = absurd (omega arith)
is_missing Missing e = refl
is_missing Refused e = absurd (omega arith)

misses : Shown 10 Misses
misses st m r saved flag g s =
    let x : ByAccess 10 (plan_of st m).plan = plan_access 10 (omega arith) (omega arith) st m g.lines s.plan in
    let failed : (plan_of st m).plan ≡ Violation (violation Missing x.address) =
    x.failed ∙ ap (λ (why : Fault). Violation (violation why x.address)) (is_missing x.why x.number_is)
    in
    rw (s.stored, failed) (record { address = x.address; failed = failed; missed = refl; violation = refl; cause = refl })

pub step_misses : StepMisses
step_misses = step_by 10 Misses misses

pub run_misses : RunMisses
run_misses = run_by 10 Misses misses

-- ---- the number of an entry

pub run_number : RunNumber
run_number n st m number saved flag g e =
    (run_by number (λ (s : State) (l : List ℕ) (r : FaultRecord). number < 255) (λ s l r saved flag g x. plan_small number s l g.lines x.plan) n st m
    saved flag g e).shows
