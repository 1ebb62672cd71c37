-- What steps, runs and cards without 08 do to the timers.
-- Assumes nothing.
use Rattle.std.specs.Prelude.{Bool, false, List, [], ◌∷◌, ◌⊎◌, ◌≡◌, eqb, ltb}
use Rattle.std.proofs.Math.Bool.{true}
use Rattle.std.proofs.lemmas.Bool.{false≢true, eqb-false}
use Rattle.std.proofs.Math.Logic.{inl, inr}
use Rattle.std.proofs.Common.{⊎_elim, ap, subst, sym, ◌∙◌, arith, eqb-true}
use Rattle.std.proofs.Math.Path.{refl}
use Prim.Native.Nat.{ℕ, suc, zero, ◌<◌}
use Rattle.card.specs.Effect.{Effect, effect_of, execute_of}
use Rattle.command.specs.Card.{is_run}
use Rattle.command.specs.declared.Command.{Command}
use Rattle.command.specs.declared.Command.TheVariants.{Byte, Entry, Flag, Lines, Mmu, Register, Run, Time}
use Rattle.counting.proofs.Theorem.{counted}
use Rattle.decode.specs.Code.{IN, OUT}
use Rattle.machine.specs.Enter.{Outcome, enter_of}
use Rattle.machine.specs.Execute.{after_operation, body_of}
use Rattle.machine.specs.Fault.{noted}
use Rattle.machine.specs.Kept.{plan_keeps}
use Rattle.machine.specs.Plan.{plan_of}
use Rattle.machine.specs.Run.{iterate, run_of}
use Rattle.machine.specs.State.{with_pc}
use Rattle.machine.specs.Step.{commit, step_of}
use Rattle.machine.specs.StepLaws.{body_by, enter_by}
use Rattle.machine.specs.declared.Planned.{Planned}
use Rattle.machine.specs.declared.State.{State}
use Rattle.plan.specs.declared.Operation.{Operation}
use Rattle.plan.specs.declared.Plan.{Plan}
use Rattle.plan.specs.declared.Plan.TheVariants.{Interrupt, Perform, Trap, Violation}
use Rattle.settings.specs.Settings.{with_register}
use Rattle.timer.specs.Laws.{in_by}
use Rattle.timer.specs.Port.{after_in_at, after_out_at, control_port, fired_cleared, period_set}
use Rattle.timer.specs.Port.{timer0_port, timer1_port, timers_after_in, timers_after_out}
use Rattle.timer.specs.declared.Timer.{Timer}
use Rattle.timer.specs.declared.Timers.{Timers}
use Rattle.word.specs.Cases.{either, rest, this}
use Rattle.times.specs.Cards.{CardStill, QuietCard, QuietCommand}
use Rattle.times.specs.NoTime.{CardNoTime, CardSets, CommandSets, NoTime, RunNoTime, RunSets, SetsWithin, WithoutTime}
use Rattle.times.specs.Statement.{QuietRun, RunStill, StepSets, StepTimers, Still}
use Rattle.times.specs.Statement.{period_port, sets_at, sets_period, timer_of, timers_by}

-- ---- a step

-- an instruction that is neither IN nor OUT
other_timers : (st : State) (op : Operation) → (op.code ≡ IN → ⊥) → (op.code ≡ OUT → ⊥) → (body_of st op).timers ≡ st.timers
other_timers st op i o =
    body_by (λ (s : State). s.timers ≡ st.timers) st op
    (record {
      load = refl;
      compare = refl;
      compute = refl;
      push = refl;
      pop = refl;
      return = refl;
      input = λ e. absurd (i e);
      output = λ e. absurd (o e);
      resume = λ e. refl;
      halt = λ e. refl;
      nothing = refl;
    })

in_timers : (st : State) (op : Operation) → op.code ≡ IN → (body_of st op).timers ≡ timers_by (Perform op) st.timers
unfolding body_of
in_timers st op e = rw e

out_timers : (st : State) (op : Operation) → op.code ≡ OUT → (body_of st op).timers ≡ timers_by (Perform op) st.timers
unfolding body_of
out_timers st op e = rw e

body_timers : (st : State) (op : Operation) → (body_of st op).timers ≡ timers_by (Perform op) st.timers
body_timers st op = by (eqb op.code IN) (eqb op.code OUT) refl refl
  where
    by : (i o : Bool) → eqb op.code IN ≡ i → eqb op.code OUT ≡ o → (body_of st op).timers ≡ timers_by (Perform op) st.timers
    by true o e f = in_timers st op (eqb-true op.code IN e)
    by false true e f = out_timers st op (eqb-true op.code OUT f)
    by false false e f = rw (e, f) (other_timers st op (eqb-false _ _ e) (eqb-false _ _ f))

enter_timers : (st : State) (pending number saved : ℕ) (m : List ℕ) → (enter_of st pending number saved m).state.timers ≡ st.timers
enter_timers st pending number saved m = enter_by (λ (o : Outcome). o.state.timers ≡ st.timers) st pending number saved m refl refl

commit_timers : (x : Plan) (st : State) (m : List ℕ) → (commit x st m).state.timers ≡ timers_by x st.timers
unfolding commit after_operation
commit_timers (Interrupt line) st m = enter_timers st _ _ _ m
commit_timers (Violation v) st m = enter_timers (noted v.fault v.address st) _ _ _ m
commit_timers (Trap why saved) st m = enter_timers st _ _ _ m
commit_timers (Perform op) st m = body_timers (with_pc st op.pc) op

pub step_timers : StepTimers
unfolding step_of
step_timers st m =
    let p : Planned = plan_of st m in
    commit_timers p.plan p.state m
    ∙ ap (timers_by p.plan) (plan_keeps (λ (s : State). s.timers ≡ st.timers) (λ s k right h. h) st m refl)

-- ---- no time, where no period is set

pub same : (t : Timer) → Still t t
same t = record { count = refl; period = refl; fired = λ f. f }

cleared : (t : Timer) → Still t (fired_cleared t)
cleared t = record { count = refl; period = refl; fired = λ f. absurd (false≢true f) }

-- IN, and OUT but to the port that sets the period
module _ (first : ℕ) (t : Timer) (port : ℕ) where
  in_still : Still t (after_in_at first t port)
  in_still = in_by (Still t) first t port (same t) (cleared t)

  out_still : (v : ℕ) → eqb port first ≡ false → Still t (after_out_at first t port v)
  unfolding after_out_at
  out_still v e =
      rw e (either (Still t) (eqb port (control_port first)) (λ _. record { count = refl; period = refl; fired = λ f. f }) (λ _. same t))

by_still : (k : Bool) (x : Plan) (ts : Timers) → sets_period k x ≡ false → Still (timer_of k ts) (timer_of k (timers_by x ts))
by_still k (Interrupt line) ts e = same (timer_of k ts)
by_still k (Violation v) ts e = same (timer_of k ts)
by_still k (Trap why saved) ts e = same (timer_of k ts)
by_still k (Perform op) ts e =
    either (λ (x : Timers). Still (timer_of k ts) (timer_of k x)) (eqb op.code IN) (λ _. at_in k)
    (λ _. either (λ (x : Timers). Still (timer_of k ts) (timer_of k x)) (eqb op.code OUT) (λ o. at_out k (rw o at e)) (λ _. same (timer_of k ts)))
  where
    at_in : (k : Bool) → Still (timer_of k ts) (timer_of k (timers_after_in ts op.port))
    at_in false = in_still timer0_port ts.timer0 op.port
    at_in true = in_still timer1_port ts.timer1 op.port

    at_out : (k : Bool) → eqb op.port (period_port k) ≡ false → Still (timer_of k ts) (timer_of k (timers_after_out ts op.port op.held))
    at_out false e = out_still timer0_port ts.timer0 op.port op.held e
    at_out true e = out_still timer1_port ts.timer1 op.port op.held e

sets : (k : Bool) (ts : Timers) (v : ℕ) → timer_of k (timers_after_out ts (period_port k) v) ≡ period_set (timer_of k ts) v
unfolding after_out_at
sets false ts v = refl
sets true ts v = refl

pub step_sets : StepSets
step_sets k st m op p c port = rw (step_timers st m, p, c, port) (sets k st.timers op.held)

-- ---- no time, be the period set or not

pub unset : {Set : Type 0} {t u : Timer} → (Set → ⊥) → Still t u → NoTime Set t u
unset none s = record { fired = s.fired; count = inl (none, s.count); period = λ _. s.period }

still : {Set : Type 0} {t u : Timer} → (Set → ⊥) → NoTime Set t u → Still t u
still none x =
    record { count = ⊎_elim (λ kept. kept.1) (λ reset. absurd (none reset.0)) x.count; period = x.period none; fired = x.fired }

-- that it was set, said in other words
pub restated : {S T : Type 0} {t u : Timer} → (S → T) → (T → S) → NoTime S t u → NoTime T t u
restated to from x =
    record {
      fired = x.fired;
      count = ⊎_elim (λ kept. inl (λ s. kept.0 (from s), kept.1)) (λ reset. inr (to reset.0, reset.1)) x.count;
      period = λ none. x.period (λ s. none (to s));
    }

-- a plan that sets it
by_set : (k : Bool) (x : Plan) (ts : Timers) → sets_period k x ≡ true → NoTime (Unit {0}) (timer_of k ts) (timer_of k (timers_by x ts))
by_set k (Interrupt line) ts e = absurd (false≢true e)
by_set k (Violation v) ts e = absurd (false≢true e)
by_set k (Trap why saved) ts e = absurd (false≢true e)
by_set k (Perform op) ts e =
    let code : op.code ≡ OUT = eqb-true _ _ (this (eqb op.code OUT) _ e) in
    let port : op.port ≡ period_port k = eqb-true _ _ (rest (eqb op.code OUT) _ e) in
    rw (code, port, sets k ts op.held) (record { fired = λ f. f; count = inr (tt, refl); period = λ none. absurd (none tt) })

by_no_time : (k : Bool) (x : Plan) (ts : Timers) → NoTime (sets_period k x ≡ true) (timer_of k ts) (timer_of k (timers_by x ts))
by_no_time k x ts = by (sets_period k x) refl
  where
    by : (b : Bool) → sets_period k x ≡ b → NoTime (sets_period k x ≡ true) (timer_of k ts) (timer_of k (timers_by x ts))
    by true e = restated (λ _. e) (λ _. tt) (by_set k x ts e)
    by false e = unset (λ f. false≢true (sym e ∙ f)) (by_still k x ts e)

step_no_time :
    (k : Bool) (st : State) (m : List ℕ)
    → NoTime (sets_period k (plan_of st m).plan ≡ true) (timer_of k st.timers) (timer_of k (step_of st m).state.timers)
step_no_time k st m = rw (step_timers st m) (by_no_time k (plan_of st m).plan st.timers)

-- ---- a run

pub onward : {S T : Type 0} {t u v : Timer} → NoTime S t u → NoTime T u v → NoTime (S ⊎ T) t v
onward a b =
    record {
      fired = λ f. a.fired (b.fired f);
      count =
          ⊎_elim
          (λ kept. ⊎_elim (λ before. inl (⊎_elim before.0 kept.0, kept.1 ∙ before.1))
          (λ reset. inr (inl reset.0, kept.1 ∙ reset.1)) a.count)
          (λ reset. inr (inr reset.0, reset.1)) b.count;
      period = λ none. b.period (λ s. none (inr s)) ∙ a.period (λ s. none (inl s));
    }

-- the first step sets the period, or a later one
module _ (k : Bool) (n : ℕ) (st : State) (m : List ℕ) where
  abbrev FirstOrLater : Type 0
  FirstOrLater = (sets_period k (plan_of st m).plan ≡ true) ⊎ SetsWithin k n (step_of st m).state (step_of st m).memory

  some : FirstOrLater → SetsWithin k (suc n) st m
  unfolding iterate
  some (inl e) = record { number = 0; within = omega arith; sets = e }
  some (inr s) = record { number = suc s.number; within = omega arith; sets = s.sets }

  which : SetsWithin k (suc n) st m → FirstOrLater
  unfolding iterate
  which s = by s.number s.within s.sets
    where
      by : (i : ℕ) → i < suc n → sets_at k i st m ≡ true → FirstOrLater
      by zero l e = inl e
      by (suc i) l e = inr (record { number = i; within = omega arith; sets = e })

pub iterate_no_time :
    (k : Bool) (n : ℕ) (st : State) (m : List ℕ)
    → NoTime (SetsWithin k n st m) (timer_of k st.timers) (timer_of k (iterate n st m).state.timers)
unfolding iterate
iterate_no_time k zero st m = unset (λ s. omega (arith, s.within)) (same (timer_of k st.timers))
iterate_no_time k (suc n) st m =
    let o : Outcome = step_of st m in
    restated (some k n st m) (which k n st m) (onward (step_no_time k st m) (iterate_no_time k n o.state o.memory))

pub run_no_time : RunNoTime
run_no_time k n st m = rw (counted n st m).stepped.state (iterate_no_time k (run_of n st m).steps st m)

quiet_run : (k : Bool) (n : ℕ) (st : State) (m : List ℕ) → QuietRun k n st m → RunSets k n st m → ⊥
quiet_run k n st m h s = false≢true (sym (h s.number s.within) ∙ s.sets)

pub run_still : RunStill
run_still k n st m h = still (quiet_run k n st m h) (run_no_time k n st m)

-- ---- a card

register_timers : (st : State) (n v : ℕ) → (with_register st n v).timers ≡ st.timers
unfolding with_register
register_timers st n v =
    let P : State → Type 0 = λ (s : State). s.timers ≡ st.timers in
    either P (ltb n 13) (λ _. refl) (λ _. either P (eqb n 13) (λ _. refl) (λ _. either P (eqb n 14) (λ _. refl) (λ _. refl)))

module _ (k : Bool) where
  -- a command that is no run sets no period
  no_run : (x : Command) (st : State) (m : List ℕ) (t : Timer) → is_run x ≡ 0 → NoTime (CommandSets k x st m) t t
  no_run x st m t e = unset (λ s. omega (arith, e, ap is_run s.run)) (same t)

  command_no_time :
      (x : Command) (st : State) (m : List ℕ) → ((ms : ℕ) → x ≡ Time ms → ⊥)
      → NoTime (CommandSets k x st m) (timer_of k st.timers) (timer_of k (effect_of x st m).state.timers)
  unfolding effect_of
  command_no_time (Run n) st m h = restated (λ s. record { allowance = n; run = refl; sets = s }) back (run_no_time k n st m)
    where
      back : CommandSets k (Run n) st m → RunSets k n st m
      back s = let e : s.allowance ≡ n = cc in rw e at s.sets
  command_no_time (Time ms) st m h = absurd (h ms refl)
  command_no_time (Byte a v) st m h = no_run (Byte a v) st m _ refl
  command_no_time (Register n v) st m h = rw (register_timers st n v) (no_run (Register n v) st m (timer_of k st.timers) refl)
  command_no_time (Lines lines v) st m h = no_run (Lines lines v) st m _ refl
  command_no_time (Entry e bits) st m h = no_run (Entry e bits) st m _ refl
  command_no_time (Mmu on) st m h = no_run (Mmu on) st m _ refl
  command_no_time (Flag w) st m h = no_run (Flag w) st m _ refl

pub card_no_time : CardNoTime
unfolding CardSets WithoutTime execute_of
card_no_time k [] st m h = unset (λ s. s) (same _)
card_no_time k (x ∷ xs) st m h =
    let done : Effect = effect_of x st m in
    onward (command_no_time k x st m h.0) (card_no_time k xs done.state done.memory h.1)

-- commands without 08, none of whose runs sets the period
quiet_without : (k : Bool) (xs : List Command) (st : State) (m : List ℕ) → QuietCard k xs st m → WithoutTime xs
unfolding QuietCard WithoutTime
quiet_without k [] st m h = tt
quiet_without k (x ∷ xs) st m h = (λ ms e. subst (λ (c : Command). QuietCommand k c st m) e h.0, quiet_without k xs _ _ h.1)

quiet_card : (k : Bool) (xs : List Command) (st : State) (m : List ℕ) → QuietCard k xs st m → CardSets k xs st m → ⊥
unfolding QuietCard CardSets
quiet_card k [] st m h s = s
quiet_card k (x ∷ xs) st m h (inl s) =
    quiet_run k s.allowance st m (subst (λ (c : Command). QuietCommand k c st m) s.run h.0) s.sets
quiet_card k (x ∷ xs) st m h (inr s) = quiet_card k xs _ _ h.1 s

pub card_still : CardStill
card_still k xs st m h = still (quiet_card k xs st m h) (card_no_time k xs st m (quiet_without k xs st m h))
