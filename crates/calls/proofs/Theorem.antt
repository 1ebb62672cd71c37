-- Demand 3 on calls: `Isolation`, of two runs, carried over to the buffers of two calls.
-- Assumes nothing.
use Rattle.std.specs.Prelude.{Bool, false, true, ◌⊎◌, ◌≡◌, ℕ, ◌%◌, ◌+◌, ◌/◌, eqb, length, set, Err, Ok}
use mathlib.Core.List.{List, ◌++◌}
use Rattle.std.proofs.Math.Logic.{inl, inr, ⊎_elim}
use Rattle.std.proofs.Math.Path.{ap, refl, sym}
use Rattle.std.proofs.Common.{subst, ◌∙◌, arith, eqb-true, get_or-set_other}
use Rattle.std.proofs.lemmas.Bool.{eqb-false}
use Rattle.std.proofs.Math.ListN.{drop, get_or}
use Rattle.image.specs.Decode.{state_from}
use Rattle.layout.specs.Entries.{entry_bytes}
use Rattle.image.specs.Image.{image_of}
use Rattle.layout.specs.Layout.{pc_at, ssp_at}
use Rattle.isolation.proofs.Isolation.{isolated}
use Rattle.isolation.specs.Statement as runs
use Rattle.machine.specs.Answers.{ending_entered, ending_number}
use Rattle.machine.specs.Enter.{vector_of}
use Rattle.machine.specs.Run.{Ran, run_of}
use Rattle.machine.specs.State.{with_pc}
use Rattle.machine.specs.declared.Ending.{Ending}
use Rattle.machine.specs.declared.Ending.TheVariants as ending
use Rattle.machine.specs.declared.State.{State}
use Rattle.memory.specs.Memory.{word_at}
use Rattle.refusal.specs.declared.Refusal.{Refusal}
use Rattle.report.specs.Layout.{report_size}
use Rattle.report.specs.Report.{report_of}
use Rattle.roundtrip.proofs.Good.{image_long_lem, rejoined, spelled_out_lem, spelled_out, word_back}
use Rattle.roundtrip.proofs.Runs.{run_sound, sound_decoded}
use Rattle.roundtrip.specs.Statement.{Bytes, GoodState, Ranged, Sound}
use Rattle.direct.specs.Call.{ran_call, run_call}
use Rattle.call.specs.Call.{buffers}
use Rattle.call.specs.Laws.{refused_leaves}
use Rattle.call.specs.Valid.{run_valid}
use Rattle.call.specs.Passed.{passed}
use Rattle.endian.specs.Bytes.{word_bytes, word_from}
use Rattle.calls.specs.Statement.{AtHandler, Enters, Given, IsolatedCalls, PcByte, Shared, Spared, refused_call}

-- ---- PC in an image

-- another PC changes its two bytes
pc_bytes : (st : State) (v : ℕ) → GoodState st → image_of (with_pc st v) ≡ set (set (image_of st) pc_at (v / 256 % 256)) (pc_at + 1) (v % 256)
unfolding image_of word_bytes entry_bytes
pc_bytes st v g =
    subst (λ (s : State). image_of (with_pc s v) ≡ set (set (image_of s) pc_at (v / 256 % 256)) (pc_at + 1) (v % 256)) (spelled_out_lem st g) computed
  where
    computed : image_of (with_pc (spelled_out st) v) ≡ set (set (image_of (spelled_out st)) pc_at (v / 256 % 256)) (pc_at + 1) (v % 256)
    computed = refl

pc_from : (st : State) → GoodState st → word_from (image_of st) pc_at ≡ rejoined st.pc
unfolding image_of word_bytes entry_bytes
pc_from st g = subst (λ (s : State). word_from (image_of s) pc_at ≡ rejoined st.pc) (spelled_out_lem st g) computed
  where
    computed : word_from (image_of (spelled_out st)) pc_at ≡ rejoined st.pc
    computed = refl

-- a byte of an image is PC's or another
pc_or_not : (k : ℕ) → PcByte k ⊎ ((k ≡ pc_at → ⊥) × (k ≡ pc_at + 1 → ⊥))
pc_or_not k = by (eqb k pc_at) (eqb k (pc_at + 1)) refl refl
  where
    by : (t u : Bool) → eqb k pc_at ≡ t → eqb k (pc_at + 1) ≡ u → PcByte k ⊎ ((k ≡ pc_at → ⊥) × (k ≡ pc_at + 1 → ⊥))
    by true u e f = inl (inl (eqb-true k pc_at e))
    by false true e f = inl (inr (eqb-true k (pc_at + 1) f))
    by false false e f = inr (eqb-false k pc_at e, eqb-false k (pc_at + 1) f)

-- ---- by the ending of a run

abbrev IsEntry : Ending → Type 0
IsEntry x = ending_number x ≡ 1

-- bytes of the image that the handler's address has no part in
but_handler_lem :
    (x : Ending) (st : State) → GoodState st → (k : ℕ)
    → (get_or (image_of st) k 0 ≡ get_or (image_of (runs.but_handler x st)) k 0) ⊎ (IsEntry x × PcByte k)
but_handler_lem ending.Spent st g k = inl refl
but_handler_lem (ending.Entered number pc flag) st g k =
    ⊎_elim (λ p. inr (refl, p))
    (λ n.
    inl
    (sym (ap (λ (l : List ℕ). get_or l k 0) (pc_bytes st 0 g)
    ∙ get_or-set_other (set (image_of st) pc_at 0) (pc_at + 1) k 0 0 n.1
    ∙ get_or-set_other (image_of st) pc_at k 0 0 n.0)))
    (pc_or_not k)
but_handler_lem ending.Halted st g k = inl refl
but_handler_lem ending.Lost st g k = inl refl

at_handler :
    (x : Ending) (st : State) (m : List ℕ) → GoodState st → Ranged st → runs.AtHandler x st m → IsEntry x
    → word_from (image_of st) pc_at ≡ word_at m (vector_of (ending_entered x))
at_handler ending.Spent st m g r h e = absurd (omega arith)
at_handler (ending.Entered number pc flag) st m g r h e = pc_from st g ∙ word_back st.pc r.next ∙ h
at_handler ending.Halted st m g r h e = absurd (omega arith)
at_handler ending.Lost st m g r h e = absurd (omega arith)

pushed_by : (x : Ending) (ssp a : ℕ) → runs.PushedAt x ssp a → IsEntry x × runs.Pushed ssp a
pushed_by ending.Spent ssp a h = absurd h
pushed_by (ending.Entered number pc flag) ssp a h = (refl, h)
pushed_by ending.Halted ssp a h = absurd h
pushed_by ending.Lost ssp a h = absurd h

-- ---- two calls that pass their tests

module _ (b rep : List ℕ) where
  spared_by : (m : List ℕ) (r : Ran) → runs.Spared (state_from b) r.ending m r.memory → Spared b m (ran_call r rep)
  unfolding state_from report_of
  spared_by m r h a w = ⊎_elim (λ e. inl e) (λ p. inr (pushed_by r.ending (word_from b ssp_at) a p)) (h a w)

  handler_by : (r : Ran) → Sound r.state → runs.AtHandler r.ending r.state r.memory → Enters (ran_call r rep) → AtHandler (ran_call r rep)
  unfolding report_of
  handler_by r s h e = at_handler r.ending r.state r.memory s.good s.ranged h e

  shared_by :
      (m m' : List ℕ) (r r' : Ran) → Sound r.state → Sound r'.state → runs.Shared (state_from b) m m' r r' → Shared m m' b (ran_call r rep) (ran_call r' rep)
  unfolding report_of
  shared_by m m' r r' s s' h =
      let same : ending_number r.ending ≡ ending_number r'.ending = ap (λ (l : List ℕ). get_or l 0 0) h.report in
      record {
        answer = refl;
        report = ap (λ (l : List ℕ). l ++ drop report_size rep) h.report;
        image_long = image_long_lem r.state s.good;
        image_long' = image_long_lem r'.state s'.good;
        image = λ k.
            ⊎_elim
            (λ e.
            ⊎_elim (λ e'. inl (e ∙ ap (λ (l : List ℕ). get_or l k 0) h.image ∙ sym e')) (λ p. inr (same ∙ p.0, p.1))
            (but_handler_lem r'.ending r'.state s'.good k))
            (λ p. inr p)
            (but_handler_lem r.ending r.state s.good k);
        handler = handler_by r s h.handler;
        handler' = handler_by r' s' h.handler';
        memory_long = h.long;
        memory_long' = h.long';
        memory = h.memory;
        spared = spared_by m r h.spared;
        spared' = spared_by m' r' h.spared';
      }

-- ---- the calls

module _ (m m' b : List ℕ) (n : ℕ) (rep : List ℕ) (long : length m ≡ length m') where
  abbrev st : State
  st = state_from b

  refuses :
      (r : Refusal) → run_valid (length m) b (length rep) ≡ Err r
      → (run_call m b n rep ≡ refused_call r m b rep) × (run_call m' b n rep ≡ refused_call r m' b rep)
  unfolding run_call
  refuses r e = (refused_leaves (buffers m b rep) _ _ r e, refused_leaves (buffers m' b rep) _ _ r (rw long at e))

  shares : run_valid (length m) b (length rep) ≡ Ok tt → Given m m' b → Shared m m' b (run_call m b n rep) (run_call m' b n rep)
  unfolding run_call
  shares e g =
      rw (← long, e)
      (shared_by b rep m m' (run_of n st m) (run_of n st m') (sound m g.memory_bytes) (sound m' g.memory_bytes')
      (isolated n st m m' g.user g.alike))
    where
      sound : (l : List ℕ) → Bytes l → Sound (run_of n st l).state
      sound l h =
          let start : Sound st = sound_decoded b g.image_bytes (passed (length m) b (length rep) e).machine.image.fields in
          (run_sound (length l) n st l (record { sound = start; bytes = h; sized = refl })).sound

pub isolated_calls : IsolatedCalls
isolated_calls m m' b n rep long = record { refused = refuses m m' b n rep long; passed = shares m m' b n rep long }
