-- Instructions one after the other, none of which enters the kernel or stops the machine; and runs by such parts.
-- Assumes nothing.
use Rattle.std.specs.Prelude.{Bool, false, true, ◌&&◌, List, ◌≡◌, suc, ℕ, ◌%◌, ◌+◌}
use Rattle.std.proofs.Common.{ap, ◌∙◌, add-zero, arith}
use Rattle.machine.specs.Plan.{interrupted}
use Rattle.machine.specs.Run.{go_from, run_from, through_from}
use Rattle.machine.specs.Step.{step_of}
use Rattle.machine.specs.declared.Condition.TheVariants.{Running}
use Rattle.machine.specs.declared.State.{State}
use Rattle.mmu.specs.declared.Right.TheVariants.{Execute}
use Rattle.pages.specs.Accesses.{Reads}
use Rattle.word.specs.declared.Width.TheVariants.{Word}
use Rattle.refinement.specs.Statement.{MapOf, did, hot_state}
use Rattle.hot.specs.Conditions.{top_of}
use Rattle.hot.specs.Tells.{Told, stopped}
use Rattle.refinement.proofs.Carried.{carried}
use Rattle.hot.specs.declared.Hot.{Hot}

-- `steps` instructions in `states` states
pub data Goes (st : State) (m : List ℕ) : ℕ → ℕ → State → List ℕ → Type 0 where
  none : Goes st m 0 0 st m
  more :
      {steps states n : ℕ} {st' st'' : State} {m' m'' : List ℕ} → Goes st m steps states st' m' → st'.condition ≡ Running
      → step_of st' m' ≡ did st'' m'' n → Goes st m (steps + 1) (states + n) st'' m''

on :
    (through : Bool) (left : ℕ) (st st' : State) (m m' : List ℕ) (k t n : ℕ) → st.condition ≡ Running → step_of st m ≡ did st' m' n
    → go_from through (suc left) st m k t ≡ go_from through left st' m' (k + 1) (t + n)
unfolding run_from through_from
on true left st st' m m' k t n c e = rw (e, c)
on false left st st' m m' k t n c e = rw (e, c)

goes_run_from :
    (through : Bool) {st : State} {m : List ℕ} {steps states : ℕ} {st' : State} {m' : List ℕ} → Goes st m steps states st' m' → (left k t : ℕ)
    → go_from through (left + steps) st m k t ≡ go_from through left st' m' (k + steps) (t + states)
goes_run_from through none left k t = rw (add-zero left, add-zero k, add-zero t)
goes_run_from through {st = st} {m = m} (more {steps} {states} {n} {st'} {st''} {m'} {m''} g c e) left k t =
    let a : left + (steps + 1) ≡ suc left + steps = omega arith in
    let x : k + steps + 1 ≡ k + (steps + 1) = omega arith in
    let y : t + states + n ≡ t + (states + n) = omega arith in
    ap (λ (q : ℕ). go_from through q st m k t) a
    ∙ goes_run_from through g (suc left) k t
    ∙ on through left st' st'' m' m'' (k + steps) (t + states) n c e
    ∙ rw (x, y)

pub goes_run :
    (through : Bool) {st st' : State} {m m' : List ℕ} {steps states : ℕ} → Goes st m steps states st' m' → (left k t : ℕ)
    → go_from through (left + steps) st m k t ≡ go_from through left st' m' (k + steps) (t + states)
goes_run through g left k t = goes_run_from through g left k t

-- ---- the loop

-- a machine that runs, with no interrupt due, not both S and Z, and an even PC
pub record Ready (b : State) : Type 0 where
  pub running : b.condition ≡ Running
  pub calm : interrupted b ≡ false
  pub apart : (b.flags.s && b.flags.z) ≡ false
  pub even : b.pc % 2 ≡ 0

-- `steps` instructions on every such machine whose pages the map gives, with E, P and I of FLAG as in `top`
pub record Leads (top : ℕ) (map rs m : List ℕ) (h : Hot) (steps states : ℕ) (rs' m' : List ℕ) (h' : Hot) : Type 0 where
  pub goes : (b : State) → Ready b → MapOf b map → top ≡ top_of b.flags → Goes (hot_state b rs h) m steps states (hot_state b rs' h') m'

pub no_step : {top : ℕ} {map rs m : List ℕ} {h : Hot} → Leads top map rs m h 0 0 rs m h
no_step = record { goes = λ b ready maps same. none }

module _ {top : ℕ} {map rs m : List ℕ} {h : Hot} {steps states : ℕ} {rs' m' : List ℕ} {h' : Hot} (l : Leads top map rs m h steps states rs' m' h') where
  pub one_more :
      {w : ℕ} {rs'' m'' : List ℕ} {r : Hot} → Reads map m' Execute Word h'.pc w → Told top map rs' m' h' w rs'' m'' r → (r.cost ≡ 0 → ⊥)
      → Leads top map rs m h (steps + 1) (states + r.cost) rs'' m'' r
  one_more {w} {rs''} {m''} {r} f t n =
      record {
        goes = λ b ready maps same.
            more (l.goes b ready maps same) ready.running (carried b top map rs' m' h' w rs'' m'' r ready.calm maps same f t n);
      }

  pub no_more :
      {w : ℕ} {rs'' m'' : List ℕ} {r : Hot} → Told top map rs' m' h' w rs'' m'' r → r.cost ≡ 0 → Leads top map rs m h steps states rs'' m'' r
  no_more t e = let k = stopped t e in record { goes = λ b ready maps same. rw (k.0, k.1, k.2) (l.goes b ready maps same) }
