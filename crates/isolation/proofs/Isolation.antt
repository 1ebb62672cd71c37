-- Demand 3: two runs of a user program on memories that differ only in frames that it may neither read nor execute share every answer.
-- Assumes nothing.
use Rattle.std.specs.Prelude.{false, List, ◌≡◌, refl, ℕ, suc, zero, ◌+◌, get_or, length}
use Rattle.std.proofs.Common.{inl, inr, ⊎_elim, subst, ◌∙◌}
use Rattle.std.proofs.Math.Path.{ap}
use Rattle.image.specs.Image.{image_of}
use Rattle.machine.specs.Answers.{states_of}
use Rattle.machine.specs.Enter.{Outcome}
use Rattle.machine.specs.Run.{Ran, ran, run_from, run_of, unless_entered, unless_stopped}
use Rattle.machine.specs.Step.{step_of}
use Rattle.machine.specs.declared.Condition.{Condition}
use Rattle.machine.specs.declared.Condition.TheVariants as condition
use Rattle.machine.specs.declared.Ending.{Ending}
use Rattle.machine.specs.declared.Ending.TheVariants as ending
use Rattle.machine.specs.declared.Event.{Event}
use Rattle.machine.specs.declared.Event.TheVariants as event
use Rattle.machine.specs.declared.State.{State}
use Rattle.mmu.specs.declared.Right.TheVariants.{Write}
use Rattle.report.specs.Report.{report_of}
use Rattle.word.specs.Word.{upper}
use Rattle.isolation.proofs.Confidentiality.{confidentiality}
use Rattle.isolation.proofs.Integrity.{integrity}
use Rattle.isolation.specs.OneStep.{Confined, Indistinct, Keeps, KeepsBy, ending_of}
use Rattle.isolation.specs.Statement.{Alike, Isolation, Shared, Spared, UserMode, AtHandler, but_handler}

-- ---- two steps from one state

-- both did e, and left the states s and s' and the memories n and n'
pub record StepShared (st : State) (m m' : List ℕ) (e : Event) (s s' : State) (n n' : List ℕ) : Type 0 where
  pub kept : KeepsBy e st s
  pub state : but_handler (ending_of e) s ≡ but_handler (ending_of e) s'
  pub handler : AtHandler (ending_of e) s n
  pub handler' : AtHandler (ending_of e) s' n'
  pub long : length n ≡ 65536
  pub long' : length n' ≡ 65536
  pub memory : (a : ℕ) → get_or m a 0 ≡ get_or m' a 0 → get_or n a 0 ≡ get_or n' a 0
  pub spared : Spared st (ending_of e) m n
  pub spared' : Spared st (ending_of e) m' n'

abbrev pub Stepped : State → List ℕ → List ℕ → Outcome → Outcome → Type 0
Stepped st m m' o o' = StepShared st m m' o.event o.state o'.state o.memory o'.memory

both_steps :
    (st : State) (m m' : List ℕ) → Alike st.tlb m m' → (o o' : Outcome) → Confined st m o → Confined st m' o' → Indistinct m m' o o'
    → Stepped st m m' o o'
both_steps st m m' alike o o' c c' i =
    record {
      kept = c.kept;
      state = rw i.told (rw i.told at i.state);
      handler = i.handler;
      handler' = rw i.told i.handler';
      long = c.long ∙ alike.long;
      long' = c'.long ∙ alike.long';
      memory = i.memory;
      spared = c.spared;
      spared' = rw i.told c'.spared;
    }

pub stepped : (st : State) (m m' : List ℕ) → UserMode st → Alike st.tlb m m' → Stepped st m m' (step_of st m) (step_of st m')
stepped st m m' u alike =
    both_steps st m m' alike (step_of st m) (step_of st m') (integrity st m u) (integrity st m' u) (confidentiality st m m' u alike)

-- ---- a run that ends where it is

module _ (st : State) (m m' : List ℕ) (alike : Alike st.tlb m m') (n t : ℕ) where
  ends : (x : Ending) → AtHandler x st m → AtHandler x st m' → Shared st m m' (ran st m n t x) (ran st m' n t x)
  ends x h h' =
      record {
        report = refl;
        image = refl;
        handler = h;
        handler' = h';
        long = alike.long;
        long' = alike.long';
        memory = λ a e. e;
        spared = λ a w. inl refl;
        spared' = λ a w. inl refl;
      }

  unless_stopped_lem : (c : Condition) (r r' : Ran) → Shared st m m' r r' → Shared st m m' (unless_stopped c st m n t r) (unless_stopped c st m' n t r')
  unless_stopped_lem condition.Running r r' h = h
  unless_stopped_lem condition.Halted r r' h = ends ending.Halted tt tt
  unless_stopped_lem condition.Lost r r' h = ends ending.Lost tt tt

-- ---- a run that goes on after a step

-- two runs of these steps share what is asked, wherever they start
abbrev Runs : ℕ → Type 0
Runs left =
    (n t : ℕ) (st : State) (m m' : List ℕ) → UserMode st → Alike st.tlb m m' → Shared st m m' (run_from left st m n t) (run_from left st m' n t)

-- what is left of a run after the step that did e
abbrev rest : ℕ → ℕ → ℕ → Event → State → List ℕ → Ran
rest left n t e s m = unless_entered e s m (n + 1) (t + states_of e) (run_from left s m (n + 1) (t + states_of e))

module _ (left : ℕ) (ih : Runs left) (st : State) (m m' : List ℕ) (u : UserMode st) (alike : Alike st.tlb m m') where
  -- what is spared from after a step on is spared from before it on
  spared_before :
      (c : Condition) (s : State) → Keeps st false st.ssp c s → (m n : List ℕ) → Spared st ending.Spent m n → (r : Ran)
      → Spared s r.ending n r.memory → Spared st r.ending m r.memory
  spared_before c s k m n w r h a q =
      ⊎_elim (λ e. inl (⊎_elim (λ e'. e ∙ e') (λ (z : ⊥). absurd z) (w a q))) (λ p. inr (rw k.stack at p))
      (h a (k.rights Write (upper a) ∙ q))

  -- where the state is the same, and neither step pushed
  goes_on :
      (c : Condition) (s s' : State) (n n' : List ℕ) → Keeps st false st.ssp c s → s ≡ s' → length n ≡ 65536 → length n' ≡ 65536
      → ((a : ℕ) → get_or m a 0 ≡ get_or m' a 0 → get_or n a 0 ≡ get_or n' a 0) → Spared st ending.Spent m n → Spared st ending.Spent m' n'
      → (i t : ℕ) → Shared st m m' (run_from left s n i t) (run_from left s' n' i t)
  goes_on c s s' n n' k q long long' memory w w' i t =
      rw (← q)
      (record {
        report = later.report;
        image = later.image;
        handler = later.handler;
        handler' = later.handler';
        long = later.long;
        long' = later.long';
        memory = λ a e. later.memory a (memory a e);
        spared = spared_before c s k m n w (run_from left s n i t) later.spared;
        spared' = spared_before c s k m' n' w' (run_from left s n' i t) later.spared';
      })
    where
      later : Shared s n n' (run_from left s n i t) (run_from left s n' i t)
      later =
          ih i t s n n' (record { user = k.privilege; no_ports = k.ports ∙ u.no_ports; mmu_on = k.mmu ∙ u.mmu_on })
          (record { long = long; long' = long'; same = λ a h v. memory a (alike.same a h (simp k.rights at v)) })

  after :
      (n t : ℕ) (e : Event) (s s' : State) (m₁ m₁' : List ℕ) → StepShared st m m' e s s' m₁ m₁'
      → Shared st m m' (rest left n t e s m₁) (rest left n t e s' m₁')
  unfolding report_of
  after n t (event.Executed cost) s s' m₁ m₁' x =
      goes_on _ s s' m₁ m₁' x.kept x.state x.long x.long' x.memory x.spared x.spared' (n + 1) (t + cost)
  after n t (event.Entered number pc flag) s s' m₁ m₁' x =
      record {
        report = refl;
        image = ap image_of x.state;
        handler = x.handler;
        handler' = x.handler';
        long = x.long;
        long' = x.long';
        memory = x.memory;
        spared = x.spared;
        spared' = x.spared';
      }
  after n t event.Halted s s' m₁ m₁' x = absurd x.kept
  after n t event.Lost s s' m₁ m₁' x =
      goes_on _ s s' m₁ m₁' x.kept x.state x.long x.long' x.memory x.spared x.spared' (n + 1) (t + 0)

  after_steps :
      (n t : ℕ) (o o' : Outcome) → o.event ≡ o'.event → Stepped st m m' o o'
      → Shared st m m' (rest left n t o.event o.state o.memory) (rest left n t o'.event o'.state o'.memory)
  after_steps n t o o' told x =
      subst (λ (e : Event). Shared st m m' (rest left n t o.event o.state o.memory) (rest left n t e o'.state o'.memory)) told
      (after n t o.event o.state o'.state o.memory o'.memory x)

-- ---- the runs

runs : (left : ℕ) → Runs left
unfolding run_from
runs zero n t st m m' u alike = unless_stopped_lem st m m' alike n t st.condition _ _ (ends st m m' alike n t ending.Spent tt tt)
runs (suc left) n t st m m' u alike =
    unless_stopped_lem st m m' alike n t st.condition _ _
    (after_steps left (runs left) st m m' u alike n t (step_of st m) (step_of st m') (confidentiality st m m' u alike).told (stepped st m m' u alike))

pub isolated : Isolation
unfolding run_of
isolated n st m m' u alike = runs n 0 0 st m m' u alike
