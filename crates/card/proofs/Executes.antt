-- What a command's call leaves, and the loop that executes a card's commands.
-- Assumes nothing.
use mathlib.Core.List.{[], ◌∷◌, append_assoc, append-nil, List, ◌++◌}
use mathlib.Core.Path.{ap, refl, sym, ◌∙◌, ◌≡◌}
use Prim.Native.Nat.{ℕ, ◌*◌, ◌+◌, ◌≤◌}
use native.Mathlib.Nat.{add-zero}
use native.Mathlib.Omega.{arith}
use lib.ListN.{drop, length, length-append, length-drop, take, take-append-drop}
use lib.Seq.{drop_at, drop-drop, length-take-le, take_at}
use Rattle.machine.specs.declared.State.{State}
use Rattle.report.specs.Layout.{report_size}
use Rattle.command.specs.Card.{is_run, read_from, runs_in}
use Rattle.card.specs.Effect.{behind, Effect, effect, effect_of, execute_of}
use Rattle.card.specs.Inside.{replaced}
use Rattle.card.specs.Laws.{reports_long}
use Rattle.card.specs.declared.effects.Progress.{Progress}
use Rattle.command.specs.declared.Command.{Command}
use Rattle.command.specs.Turns.{Turn}

abbrev pub progress : State → ℕ → Progress
progress st filled = record { state = st; filled = filled }

-- ---- a command

-- the answer, the memory and the report after a command, as its contract has them
abbrev pub Did : Command → State → List ℕ → List ℕ → ℕ → Progress → List ℕ → List ℕ → Type 0
Did x st m rep filled a m' rep' = record {
  answer : a ≡ progress (effect_of x st m).state (filled + report_size * is_run x);
  memory : m' ≡ (effect_of x st m).memory;
  report : rep' ≡ replaced rep filled (report_size * is_run x) (effect_of x st m).reports;
}

-- a command that is no run writes no report
module _ {x y : Command} (st : State) {st' : State} (m : List ℕ) {m' : List ℕ} (rep : List ℕ) (filled : ℕ) where
  pub silent : x ≡ y → is_run y ≡ 0 → effect_of y st m ≡ effect st' m' [] → Did x st m rep filled (progress st' filled) m' rep
  silent e z f = rw (e, f, z, add-zero filled) (record { answer = refl; memory = refl; report = sym (take-append-drop filled rep) })

-- ---- the loop

-- the commands of a whole card
pub of_card : {b card : List ℕ} {at : ℕ} → b ≡ card → at ≡ 0 → (read_from b at).commands ≡ (read_from card 0).commands
of_card e z = rw (e, z)

-- a command is the first of those that are left
pub taken :
    {b card : List ℕ} {at next : ℕ} {x : Command} → b ≡ card → Turn card at x next
    → (read_from card at).commands ≡ x ∷ (read_from b next).commands
taken e turn = rw (e, turn.read)

-- the invariant: the commands `xs` but for those that are left, `ys`, are done, their reports are in the report's first `filled` bytes
pub record Executing (xs : List Command) (st₀ : State) (m₀ rep₀ : List ℕ) (ys : List Command) (filled : ℕ) (st : State) (m rep : List ℕ) : Type 0 where
  pub whole : execute_of xs st₀ m₀ ≡ behind (take filled rep) (execute_of ys st m)
  pub kept : drop filled rep ≡ drop filled rep₀
  pub long : length rep ≡ length rep₀
  pub total : report_size * runs_in xs ≡ filled + report_size * runs_in ys
  pub room : report_size * runs_in xs ≤ length rep₀

module _ {xs : List Command} {st₀ : State} {m₀ rep₀ : List ℕ} {ys : List Command} {filled : ℕ} {st : State} {m rep : List ℕ}
    (so_far : Executing xs st₀ m₀ rep₀ ys filled st m rep) where
  abbrev all : Effect
  all = execute_of xs st₀ m₀

  -- nothing more is read
  pub ended :
      ys ≡ []
      → (st ≡ all.state) × ((m ≡ all.memory) × (rep ≡ all.reports ++ drop (report_size * runs_in xs) rep₀))
  unfolding execute_of runs_in
  ended e =
      let done : all ≡ effect st m (take filled rep ++ []) = so_far.whole ∙ rw e in
      let total : report_size * runs_in xs ≡ filled = so_far.total ∙ rw e (add-zero filled) in
      rw (done, total, append-nil, ← so_far.kept) (refl, (refl, sym (take-append-drop filled rep)))

  module _ {x : Command} {next : List Command} (turn : ys ≡ x ∷ next) where
    abbrev filled' : ℕ
    filled' = filled + report_size * is_run x

    more : runs_in ys ≡ is_run x + runs_in next
    unfolding runs_in
    more = rw turn

    -- there is room for its report
    pub room_next : filled' ≤ length rep
    room_next = omega (arith, more)

    abbrev done : Effect
    done = effect_of x st m

    -- the reports so far
    abbrev front : List ℕ
    front = take filled rep ++ done.reports

    front_long : length front ≡ filled'
    front_long =
        length-append (take filled rep) done.reports
        ∙ omega (arith, length-take-le filled rep (omega (arith, room_next)), reports_long x st m)

    after : execute_of ys st m ≡ behind done.reports (execute_of next done.state done.memory)
    unfolding execute_of
    after = rw turn

    abbrev rep' : List ℕ
    rep' = front ++ drop filled' rep

    on : Executing xs st₀ m₀ rep₀ next filled' done.state done.memory rep'
    on =
        let here : take filled' rep' ≡ front = take_at front (drop filled' rep) filled' front_long in
        let behind-it : drop filled' rep' ≡ drop filled' rep = drop_at front (drop filled' rep) filled' front_long in
        let far : drop filled' rep ≡ drop filled' rep₀ =
        sym (drop-drop (report_size * is_run x) filled rep)
        ∙ ap (drop (report_size * is_run x)) so_far.kept
        ∙ drop-drop (report_size * is_run x) filled rep₀ in
        record {
          whole = rw (here, append_assoc) (so_far.whole ∙ rw after);
          kept = behind-it ∙ far;
          long = length-append front (drop filled' rep) ∙ omega (arith, front_long, length-drop filled' rep, room_next);
          total = omega (arith, more);
          room = so_far.room;
        }

    -- the command is done
    pub goes_on :
        {a : Progress} {mem report : List ℕ} → Did x st m rep filled a mem report
        → Executing xs st₀ m₀ rep₀ next a.filled a.state mem report
    goes_on did = rw (did.answer, did.memory, did.report, ← append_assoc) on
