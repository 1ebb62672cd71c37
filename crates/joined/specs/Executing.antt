-- Commands one after the other: some commands and then others do what all of them do.
-- Assumes nothing.
use Rattle.std.specs.Prelude.{List, [], ◌++◌, ◌∷◌, refl, ◌≡◌, ℕ, ◌+◌}
use Rattle.std.proofs.Common.{append_assoc, ap, ◌∙◌, arith}
use Rattle.command.specs.Card.{runs_in}
use Rattle.card.specs.Effect.{Effect, effect_of, behind, execute_of}
use Rattle.command.specs.declared.Command.{Command}
use Rattle.machine.specs.declared.State.{State}

-- the runs of both
pub runs_both : (xs ys : List Command) → runs_in (xs ++ ys) ≡ runs_in xs + runs_in ys
unfolding runs_in
runs_both [] ys = omega arith
runs_both (x ∷ xs) ys = omega (arith, runs_both xs ys)

-- some commands effect from where others left state and memory
abbrev pub onward : List Command → Effect → Effect
onward ys p = behind p.reports (execute_of ys p.state p.memory)

behind_behind : (r q : List ℕ) (p : Effect) → behind r (behind q p) ≡ behind (r ++ q) p
behind_behind r q p = rw append_assoc

pub execute_both : (xs ys : List Command) (st : State) (m : List ℕ) → execute_of (xs ++ ys) st m ≡ onward ys (execute_of xs st m)
unfolding execute_of
execute_both [] ys st m = refl
execute_both (x ∷ xs) ys st m =
    let done : Effect = effect_of x st m in
    let p : Effect = execute_of xs done.state done.memory in
    ap (behind done.reports) (execute_both xs ys done.state done.memory)
    ∙ behind_behind done.reports p.reports (execute_of ys p.state p.memory)
