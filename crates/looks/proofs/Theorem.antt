-- Looks at the fault record, on calls: what is shown of states, carried over to the images.
-- Assumes nothing.
use Rattle.std.specs.Prelude.{List, ◌⊎◌, ◌≡◌, refl, ℕ, suc, zero, ◌+◌, ◌≤◌, get_or, length, Err, Ok}
use Rattle.std.proofs.Common.{⊎_elim, ap, sym, ◌∙◌, arith}
use Rattle.calls.specs.Statement as isolated
use Rattle.calls.proofs.Theorem.{isolated_calls}
use Rattle.direct.specs.Call.{ran_call, run_call}
use Rattle.fault.specs.declared.FaultRecord.{FaultRecord}
use Rattle.image.specs.Decode.{state_from}
use Rattle.image.specs.Image.{image_of}
use Rattle.call.specs.Passed.{ImageGood, MachineGood, Passed, image_good_lem, image_passes, passed, passes}
use Rattle.layout.specs.Layout.{cause_at, missed_at, violation_at}
use Rattle.call.specs.Valid.{image_valid, run_valid}
use Rattle.look.specs.Call.{fault_call, fault_word}
use Rattle.machine.specs.Answers.{ending_entered, ending_number}
use Rattle.machine.specs.Run.{Ran, run_of}
use Rattle.machine.specs.Through.{later}
use Rattle.machine.specs.declared.Ending.{Ending}
use Rattle.machine.specs.declared.Ending.TheVariants as ending
use Rattle.machine.specs.declared.State.{State}
use Rattle.readers.specs.Between.{look_within}
use Rattle.readers.proofs.Shown.{run_shows}
use Rattle.readers.specs.Statement.{looked_between}
use Rattle.call.specs.Call.{Answer, Call, Called, buffers}
use Rattle.call.specs.Laws.{by_tests, good_does}
use Rattle.report.specs.Layout.{report_size}
use Rattle.report.specs.Report.{flag_shown, pc_shown, report_of}
use Rattle.roundtrip.proofs.Good.{good_encodes, image_long_lem}
use Rattle.roundtrip.proofs.Ranged.{decoded, image_bytes_lem, ranged_decoded}
use Rattle.roundtrip.proofs.Runs.{run_sound, sound_decoded}
use Rattle.roundtrip.specs.Images.{encoded}
use Rattle.roundtrip.specs.Statement.{Byte, Sound, SoundMachine, Word}
use Rattle.looks.specs.Statement.{AsOne, CallShows, CallsBetween, CallsWithin, Given, IsolatedLooks, LookAfter, LookImage, LookKeeps, LookParts, Parts, looked_calls, record_in}
use Rattle.refusal.specs.Refusal.{Validity}

-- ---- one look

pub look_keeps : LookKeeps
unfolding fault_call
look_keeps b = by_tests b _ (λ (c : Called Answer (List ℕ)). c.lent ≡ b) (image_valid b) (λ r e. refl) (λ e. refl)

-- a look that passes its tests, by the bytes of the image
look_bytes : (b : List ℕ) → image_valid b ≡ Ok tt → (fault_call b).answer ≡ Ok (fault_word (record_in b))
unfolding fault_call state_from
look_bytes b e = rw e

-- a record whose numbers fit can be read back
parts_of : (r : FaultRecord) → Byte r.cause → Byte r.missed → Word r.violation → Parts r (Ok (fault_word r))
parts_of r c m v = record { number = fault_word r; done = refl; small = omega arith; cause = omega arith; missed = omega arith; violation = omega arith }

pub look_parts : LookParts
unfolding state_from
look_parts b bytes e =
    rw (look_bytes b e) (parts_of (record_in b) (bytes cause_at) (bytes missed_at) (ranged_decoded b bytes).refused)

pub look_image : LookImage
look_image b bytes e = let good : ImageGood b = image_good_lem b e in encoded b good.size bytes good.fields ∙ sym (look_keeps b)

-- ---- what a run leaves

module _ (m b : List ℕ) (n : ℕ) (rep : List ℕ) (g : Given m b rep) where
  abbrev done : Ran
  done = run_of n (state_from b) m

  pub call_is : run_call m b n rep ≡ ran_call done rep
  unfolding run_call
  call_is = good_does (buffers m b rep) _ _ g.passed

  tested : Passed (length m) b (length rep)
  tested = passed (length m) b (length rep) g.passed

  pub start : Sound (state_from b)
  start = sound_decoded b g.image_bytes tested.machine.image.fields

  left : SoundMachine (length m) done.state done.memory
  left = run_sound (length m) n (state_from b) m (record { sound = start; bytes = g.memory_bytes; sized = refl })

  left_good : ImageGood (image_of done.state)
  left_good = record { size = image_long_lem done.state left.sound.good; fields = good_encodes done.state left.sound.good }

  left_passes : image_valid (image_of done.state) ≡ Ok tt
  left_passes = image_passes _ left_good

  -- can be handed to another call
  left_given : (rep' : List ℕ) → report_size ≤ length rep' → Given done.memory (image_of done.state) rep'
  left_given rep' room =
      let machine : MachineGood (length done.memory) (image_of done.state) =
      record { memory = left.sized ∙ tested.machine.memory; image = left_good }
      in
      record {
        memory_bytes = left.bytes;
        image_bytes = image_bytes_lem done.state left.sound.good left.sound.ranged;
        passed = passes _ _ _ (record { machine = machine; room = room });
      }

  back : state_from (image_of done.state) ≡ done.state
  back = decoded done.state left.sound.good left.sound.ranged

  look_left : (fault_call (run_call m b n rep).lent.image).answer ≡ Ok (fault_word done.state.fault)
  unfolding fault_call
  look_left = rw (call_is, left_passes, back)

  -- its answer has the parts of the record
  pub left_parts : Parts done.state.fault (fault_call (run_call m b n rep).lent.image).answer
  left_parts =
      let s : Sound done.state = left.sound in
      let cause : Byte done.state.fault.cause = omega (arith, s.good.causes) in
      rw look_left (parts_of done.state.fault cause s.ranged.page s.ranged.refused)

pub look_after : LookAfter
look_after = look_left

-- ---- the ending, by the report's bytes

-- the ending of these numbers, with the PC and the FLAG that were saved
abbrev pub ending_from : ℕ → ℕ → ℕ → ℕ → Ending
ending_from zero number pc flag = ending.Spent
ending_from (suc zero) number pc flag = ending.Entered number pc flag
ending_from (suc (suc zero)) number pc flag = ending.Halted
ending_from (suc (suc (suc k))) number pc flag = ending.Lost

numbered : (x : Ending) → x ≡ ending_from (ending_number x) (ending_entered x) (pc_shown x 0) (flag_shown x 0)
numbered ending.Spent = refl
numbered (ending.Entered number pc flag) = refl
numbered ending.Halted = refl
numbered ending.Lost = refl

pub ending_told :
    (x : Ending) (way number : ℕ) → ending_number x ≡ way → ending_entered x ≡ number
    → x ≡ ending_from way number (pc_shown x 0) (flag_shown x 0)
ending_told x way number e f = rw (← e, ← f) (numbered x)

-- ---- a look between two calls

pub calls_between : CallsBetween
calls_between m b n k rep rep' =
    let c : Call = run_call m b n rep in
    ap (λ (image : List ℕ). run_call c.lent.memory image k rep') (look_keeps c.lent.image)

module _ (m b : List ℕ) (n k : ℕ) (rep rep' : List ℕ) (g : Given m b rep) (room : report_size ≤ length rep') where
  -- the second run, on what the first and the look left
  last_is : looked_calls m b n k rep rep' ≡ ran_call (looked_between n k (state_from b) m) rep'
  last_is =
      calls_between m b n k rep rep'
      ∙ rw (call_is m b n rep g)
      (call_is _ _ k rep' (left_given m b n rep g rep' room)
      ∙ ap (λ (s : State). ran_call (run_of k s (run_of n (state_from b) m).memory) rep') (back m b n rep g))

  whole_is :
      (run_of n (state_from b) m).ending ≡ ending.Spent
      → run_call m b (n + k) rep ≡ ran_call (later n (run_of n (state_from b) m).states (looked_between n k (state_from b) m)) rep
  whole_is e = call_is m b (n + k) rep g ∙ ap (λ (r : Ran). ran_call r rep) (look_within n k (state_from b) m e)

  within :
      ending_number (run_of n (state_from b) m).ending ≡ 0
      → AsOne (run_call m b (n + k) rep) (looked_calls m b n k rep rep') n (run_of n (state_from b) m).states (looked_between n k (state_from b) m)
      rep rep'
  within e =
      rw (whole_is (ending_told (run_of n (state_from b) m).ending 0 _ e refl), last_is)
      (record { answer = refl; memory = refl; image = refl; report = refl; last_report = refl })

pub calls_within : CallsWithin
unfolding report_of
calls_within m b n k rep rep' g room e = within m b n k rep rep' g room (rw (call_is m b n rep g) at e)

-- ---- a look after an entry with 11

pub call_shows : CallShows
unfolding report_of
call_shows m b n rep g e f =
    let r : Ran = run_of n (state_from b) m in
    let entered = ending_told r.ending 1 11 (rw (call_is m b n rep g) at e) (rw (call_is m b n rep g) at f) in
    record {
      given = r.state.fault;
      parts = left_parts m b n rep g;
      shows = run_shows n (state_from b) m (pc_shown r.ending 0) (flag_shown r.ending 0) (start m b n rep g).good entered;
    }

-- ---- demand 3

-- the bytes of the record are not PC's
not_pc :
    (c c' : Call) (k : ℕ) → (get_or c.lent.image k 0 ≡ get_or c'.lent.image k 0) ⊎ (isolated.Enters c × isolated.PcByte k) → violation_at ≤ k
    → get_or c.lent.image k 0 ≡ get_or c'.lent.image k 0
not_pc c c' k h l = ⊎_elim (λ e. e) (λ p. absurd (⊎_elim (λ e. omega arith) (λ e. omega arith) p.1)) h

module _ (m m' b : List ℕ) (n : ℕ) (rep : List ℕ) (g : isolated.Given m m' b) where
  abbrev c : Call
  c = run_call m b n rep

  abbrev c' : Call
  c' = run_call m' b n rep

  long : length m ≡ length m'
  long = g.alike.long ∙ sym g.alike.long'

  both : isolated.Together m m' b rep c c'
  both = isolated_calls m m' b n rep long

  passed_alike : run_valid (length m) b (length rep) ≡ Ok tt → (fault_call c.lent.image).answer ≡ (fault_call c'.lent.image).answer
  passed_alike e =
      let given : Given m b rep = record { memory_bytes = g.memory_bytes; image_bytes = g.image_bytes; passed = e } in
      let given' : Given m' b rep = record { memory_bytes = g.memory_bytes'; image_bytes = g.image_bytes; passed = rw (← long) e } in
      let same : (k : ℕ) → violation_at ≤ k → get_or c.lent.image k 0 ≡ get_or c'.lent.image k 0 = λ k. not_pc c c' k ((both.passed e g).image k) in
      look_bytes c.lent.image (rw (call_is m b n rep given) (left_passes m b n rep given))
      ∙ rw (same cause_at (omega arith), same missed_at (omega arith), same violation_at (omega arith), same (violation_at + 1) (omega arith))
      (sym (look_bytes c'.lent.image (rw (call_is m' b n rep given') (left_passes m' b n rep given'))))

  alike_by : (v : Validity) → run_valid (length m) b (length rep) ≡ v → (fault_call c.lent.image).answer ≡ (fault_call c'.lent.image).answer
  alike_by (Ok u) e = passed_alike e
  alike_by (Err r) e = let refused = both.refused r e in rw (refused.0, refused.1)

  looks_alike : (fault_call c.lent.image).answer ≡ (fault_call c'.lent.image).answer
  looks_alike = alike_by (run_valid (length m) b (length rep)) refl

pub isolated_looks : IsolatedLooks
isolated_looks = looks_alike
