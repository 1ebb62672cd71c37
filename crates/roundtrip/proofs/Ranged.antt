-- Ranged states, whose numbers fit their fields: the state of an image of bytes is one, and the image of such a state is of bytes and
-- decodes to the state itself.
-- Assumes nothing.
use Rattle.std.specs.Prelude.{Bool, false, true, List, [], ◌++◌, ◌∷◌, ◌≡◌, refl, ℕ, suc, zero, ◌+◌, ◌*◌, ◌/◌, ◌%◌, ◌<◌, eqb}
use Rattle.std.proofs.Common.{subst, arith}
use mir.Val.{bool_byte}
use Rattle.image.specs.Decode.{condition_from, state_from, timer_from}
use Rattle.layout.specs.Entries.{tlb_entries_from, entry_bytes}
use Rattle.image.specs.Image.{image_of}
use Rattle.layout.specs.Layout.{input_at, missed_at, output_at, pc_at, regs_at, ssp_at, timer0_at, timer1_at, tlb_at, usp_at, violation_at}
use Rattle.machine.specs.Answers.{condition_number}
use Rattle.machine.specs.Flag.{flag_of}
use Rattle.machine.specs.declared.Condition.{Condition}
use Rattle.machine.specs.declared.Condition.TheVariants.{Halted, Lost, Running}
use Rattle.machine.specs.declared.State.{State}
use Rattle.endian.specs.Bytes.{word_bytes, word_from, words_from}
use Rattle.roundtrip.specs.Each.{each_append, each_cons}
use Rattle.roundtrip.proofs.Good.{bit_small, condition_small, flag_bits_lem, spelled_out_lem, spelled_out, word_back}
use Rattle.roundtrip.specs.Statement.{Byte, Bytes, Decoded, Each, EntryFits, GoodState, Ranged, Word}
use Rattle.roundtrip.specs.Timers.{TimerFits}

-- ---- the state of an image

module _ (b : List ℕ) (small : Bytes b) where
  word_from_lem : (at : ℕ) → Word (word_from b at)
  word_from_lem at = omega (arith, small at, small (at + 1))

  words_from_lem : (n at : ℕ) → Each Word (words_from b at n)
  words_from_lem zero at k = omega arith
  words_from_lem (suc n) at zero = word_from_lem at
  words_from_lem (suc n) at (suc k) = words_from_lem n (at + 2) k

  entries_from : (n at : ℕ) → Each EntryFits (tlb_entries_from b at n)
  entries_from zero at k = omega arith
  entries_from (suc n) at zero = omega (arith, small at, small (at + 1), small (at + 2))
  entries_from (suc n) at (suc k) = entries_from n (at + 3) k

  timer_from_lem : (at : ℕ) → TimerFits (timer_from b at)
  timer_from_lem at = record { count = word_from_lem _; period = word_from_lem _; control = word_from_lem _ }

  pub ranged_decoded : Ranged (state_from b)
  unfolding state_from
  ranged_decoded =
      record {
        words = words_from_lem 13 regs_at;
        system = word_from_lem ssp_at;
        user = word_from_lem usp_at;
        next = word_from_lem pc_at;
        read = small input_at;
        written = small output_at;
        refused = word_from_lem violation_at;
        page = small missed_at;
        entries = entries_from 8 tlb_at;
        clocks = (timer_from_lem timer0_at, timer_from_lem timer1_at);
      }

-- ---- the bytes of an image

-- under a name that does not unfold, so that the list is found from it
record AllBytes (l : List ℕ) : Type 0 where
  each : Bytes l

none : AllBytes []
none = record { each = λ k. omega arith }

more : {x : ℕ} {xs : List ℕ} → x < 256 → AllBytes xs → AllBytes (x ∷ xs)
more {x} {xs} p h = record { each = each_cons Byte x xs p h.each }

joint : {a b : List ℕ} → AllBytes a → AllBytes b → AllBytes (a ++ b)
joint {a} {b} h g = record { each = each_append Byte a b h.each g.each }

byte : (n : ℕ) → n % 256 < 256
byte n = omega arith

word_bytes_lem : (ws : List ℕ) → AllBytes (word_bytes ws)
unfolding word_bytes
word_bytes_lem [] = none
word_bytes_lem (w ∷ ws) = more (byte (w / 256)) (more (byte w) (word_bytes_lem ws))

entry_bytes_lem : (es : List ℕ) → AllBytes (entry_bytes es)
unfolding entry_bytes
entry_bytes_lem [] = none
entry_bytes_lem (e ∷ es) = more (byte (e / 65536)) (more (byte (e / 256)) (more (byte e) (entry_bytes_lem es)))

pub image_bytes_lem : (st : State) → GoodState st → Ranged st → Bytes (image_of st)
unfolding image_of
image_bytes_lem st g r =
    let on : bool_byte st.mmu < 256 = omega (arith, bit_small st.mmu) in
    let condition : condition_number st.condition < 256 = omega (arith, condition_small st.condition) in
    let cause : st.fault.cause < 256 = omega (arith, g.causes) in
    let all : AllBytes (image_of st) = search (none, more, joint, word_bytes_lem, entry_bytes_lem, r) depth 12 in
    all.each

-- ---- the state of the image of a state

entry_back : (e : ℕ) → EntryFits e → e / 65536 % 256 * 65536 + e / 256 % 256 * 256 + e % 256 ≡ e
entry_back e h = omega arith

bool_back : (t : Bool) → eqb (bool_byte t) 1 ≡ t
bool_back true = refl
bool_back false = refl

condition_back : (x : Condition) → condition_from (condition_number x) ≡ x
unfolding condition_from
condition_back Running = refl
condition_back Halted = refl
condition_back Lost = refl

pub decoded : Decoded
unfolding state_from image_of word_bytes entry_bytes
decoded st g r = subst (λ (s : State). state_from (image_of s) ≡ s) (spelled_out_lem st g) same
  where
    same : state_from (image_of (spelled_out st)) ≡ spelled_out st
    same =
        let f = flag_bits_lem st.flags in
        let flag : Word (flag_of st) = omega (arith, f.0) in
        let lines : Word st.pending = omega (arith, g.lines) in
        let fired0 : Word (bool_byte st.timers.timer0.fired) = omega (arith, bit_small st.timers.timer0.fired) in
        let fired1 : Word (bool_byte st.timers.timer1.fired) = omega (arith, bit_small st.timers.timer1.fired) in
        simp (
          word_back,
          entry_back,
          bool_back,
          condition_back,
          flag,
          lines,
          f.2,
          f.3,
          f.4,
          f.5,
          f.6,
          f.7,
          f.8,
          r.words,
          r.system,
          r.user,
          r.next,
          r.refused,
          r.entries,
          fired0,
          fired1,
          r.clocks.0.count,
          r.clocks.0.period,
          r.clocks.0.control,
          r.clocks.1.count,
          r.clocks.1.period,
          r.clocks.1.control,
        )
