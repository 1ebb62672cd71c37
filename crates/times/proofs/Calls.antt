-- The timers' bytes of the image, in calls.
-- Assumes nothing.
use Rattle.std.specs.Prelude.{false, List, ◌≡◌, refl, ℕ, length}
use Rattle.std.proofs.Common.{ap, subst, sym, ◌∙◌}
use Rattle.std.proofs.Math.ListN.{drop}
use Rattle.direct.specs.Call.{run_call}
use Rattle.endian.specs.Bytes.{word_bytes}
use Rattle.image.specs.Decode.{state_from}
use Rattle.image.specs.Image.{image_of, timers_bytes}
use Rattle.layout.specs.Entries.{entry_bytes}
use Rattle.call.specs.Passed.{ImageGood, passed}
use Rattle.layout.specs.Layout.{timer0_at}
use Rattle.machine.specs.Run.{run_of}
use Rattle.machine.specs.declared.State.{State}
use Rattle.call.specs.Call.{Call, buffers}
use Rattle.call.specs.Laws.{by_tests}
use Rattle.roundtrip.proofs.Good.{good_decoded, spelled_out_lem, spelled_out}
use Rattle.roundtrip.specs.Images.{encoded}
use Rattle.roundtrip.proofs.Runs.{run_good}
use Rattle.roundtrip.specs.Statement.{Bytes, GoodState}
use Rattle.call.specs.Valid.{run_valid}
use Rattle.times.specs.Statement.{UserCall}
use Rattle.times.proofs.Users.{user_timers}

-- the timers stand at the end of the image
timers_last : (st : State) → GoodState st → drop timer0_at (image_of st) ≡ timers_bytes st.timers
unfolding image_of word_bytes entry_bytes
timers_last st g = subst (λ (s : State). drop timer0_at (image_of s) ≡ timers_bytes s.timers) (spelled_out_lem st g) last
  where
    last : drop timer0_at (image_of (spelled_out st)) ≡ timers_bytes st.timers
    last = refl

module _ (m b rep : List ℕ) (n : ℕ) (bytes : Bytes b) (p : (state_from b).flags.p ≡ false) (i : (state_from b).flags.i ≡ false) where
  run_image : ImageGood b → drop timer0_at (image_of (run_of n (state_from b) m).state) ≡ drop timer0_at b
  run_image good =
      let g : GoodState (state_from b) = good_decoded b bytes good.fields in
      timers_last _ (run_good n (state_from b) m g)
      ∙ ap timers_bytes (user_timers n (state_from b) m p i)
      ∙ sym (timers_last (state_from b) g)
      ∙ ap (drop timer0_at) (encoded b good.size bytes good.fields)

  user_image : drop timer0_at (run_call m b n rep).lent.image ≡ drop timer0_at b
  unfolding run_call
  user_image =
      by_tests (buffers m b rep) _ (λ (c : Call). drop timer0_at c.lent.image ≡ drop timer0_at b) (run_valid (length m) b (length rep)) (λ r e. refl)
      (λ e. run_image (passed (length m) b (length rep) e).machine.image)

pub user_call : UserCall
user_call = user_image
