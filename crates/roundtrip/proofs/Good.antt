-- Good states: the image of a good state is good, and a good image decodes to a good state.
-- Assumes nothing.
use Rattle.std.specs.Prelude.{Bool, false, true, ◌&&◌, List, ◌≡◌, refl, ℕ, suc, zero, ◌+◌, ◌*◌, ◌/◌, ◌%◌, ◌<◌, ltb, get_or, length}
use Rattle.std.proofs.Common.{subst, arith, eq-eqb, eqb-true, lt-ltb}
use mir.Val.{bool_byte}
use Rattle.layout.specs.Entries.{tlb_entries_from, entry_bytes}
use Rattle.image.specs.Decode.{state_from, timer_from}
use Rattle.image.specs.Image.{image_of}
use Rattle.layout.specs.Layout.{count_in, image_size, period_in, timer0_at, timer1_at, tlb_at}
use Rattle.layout.specs.TimerLaws.{control_bits, control_good_lem}
use Rattle.layout.specs.Valid.{all_zeros, control_good, count_good, flag_good, good_image, pending_good, timer_good, zeros_good}
use Rattle.machine.specs.Answers.{condition_number}
use Rattle.status.specs.Flag.{flag_word, word_of}
use Rattle.machine.specs.Spelled.{spelled, whole}
use Rattle.machine.specs.State.{with_regs, with_tlb}
use Rattle.machine.specs.declared.Condition.{Condition}
use Rattle.machine.specs.declared.Condition.TheVariants.{Halted, Lost, Running}
use Rattle.status.specs.declared.Flags.{Flags}
use Rattle.machine.specs.declared.State.{State}
use Rattle.timer.specs.declared.Timer.{Timer}
use Rattle.endian.specs.Bytes.{word_bytes, word_from}
use Rattle.word.specs.Cases.{both, rest, this}
use Rattle.word.specs.Word.{bit, wrap}
use Rattle.roundtrip.specs.Images.{Fields, TimerFields, fields}
use Rattle.roundtrip.specs.Statement.{Bytes, Each, GoodEncodes, GoodState, Word, Zeros}
use Rattle.roundtrip.specs.Timers.{GoodTimer}

-- ---- the image of a good state

-- a state, its registers and TLB spelled out
abbrev pub spelled_out : State → State
spelled_out st = with_tlb (with_regs st (spelled st.regs 0 13)) (spelled st.tlb 0 8)

pub spelled_out_lem : (st : State) → GoodState st → spelled_out st ≡ st
spelled_out_lem st g = rw (← (whole st.regs 13 g.thirteen), ← (whole st.tlb 8 g.eight))

pub image_long_lem : (st : State) → GoodState st → length (image_of st) ≡ image_size
unfolding image_of word_bytes entry_bytes
image_long_lem st g = subst (λ (s : State). length (image_of s) ≡ image_size) (spelled_out_lem st g) long
  where
    long : length (image_of (spelled_out st)) ≡ image_size
    long = refl

pub bit_small : (t : Bool) → bool_byte t < 2
bit_small true = omega arith
bit_small false = omega arith

pub condition_small : (x : Condition) → condition_number x < 3
condition_small Running = omega arith
condition_small Halted = omega arith
condition_small Lost = omega arith

-- a number from its two bytes
abbrev pub rejoined : ℕ → ℕ
rejoined w = w / 256 % 256 * 256 + w % 256

pub word_back : (w : ℕ) → Word w → rejoined w ≡ w
word_back w h = omega arith

-- FLAG is of eight bits, bit 4 is 0, and the others are the flags
pub flag_bits_lem :
    (f : Flags) → let w : ℕ = word_of f in
    (w < 256) × (w / 16 % 2 ≡ 0) × (bit 7 w ≡ bool_byte f.e) × (bit 6 w ≡ bool_byte f.p) × (bit 5 w ≡ bool_byte f.i)
    × (bit 3 w ≡ bool_byte f.v) × (bit 2 w ≡ bool_byte f.c) × (bit 1 w ≡ bool_byte f.s) × (bit 0 w ≡ bool_byte f.z)
unfolding flag_word
flag_bits_lem f =
    omega (
      arith,
      bit_small f.e,
      bit_small f.p,
      bit_small f.i,
      bit_small f.v,
      bit_small f.c,
      bit_small f.s,
      bit_small f.z,
    )

flag_good_lem : (f : Flags) → flag_good (rejoined (word_of f)) ≡ true
unfolding flag_good
flag_good_lem f =
    let b = flag_bits_lem f in
    rw (word_back (word_of f) (omega (arith, b.0))) (both _ _ (lt-ltb _ _ b.0) (eq-eqb _ _ b.1))

lines_good : (w : ℕ) → w < 1024 → pending_good (rejoined w) ≡ true
unfolding pending_good
lines_good w h = rw (word_back w (omega arith)) (lt-ltb w 1024 h)

zeros_good_lem : (e : ℕ) → Zeros e → zeros_good (e / 256 % 256) ≡ true
unfolding zeros_good
zeros_good_lem e h = eq-eqb (e / 256 % 256 / 32 % 4) 0 (omega arith)

-- the words of a timer
timer_good_lem :
    (t : Timer) → GoodTimer t
    → (count_good (rejoined t.count) (rejoined t.period) && (control_good (rejoined t.control) && ltb (rejoined (bool_byte t.fired)) 2)) ≡ true
timer_good_lem t g =
    let words : (w : ℕ) → rejoined w ≡ wrap w = λ w. omega arith in
    let bits : rejoined t.control % 32768 / 2 ≡ 0 = omega (arith, control_bits t.control g.control) in
    let count : count_good (rejoined t.count) (rejoined t.period) ≡ true = rw (words t.count, words t.period) g.count in
    both _ _ count
    (both _ _ (control_good_lem (rejoined t.control) bits) (lt-ltb (rejoined (bool_byte t.fired)) 2 (omega (arith, bit_small t.fired))))

pub good_encodes : GoodEncodes
unfolding timer_good good_image image_of word_bytes entry_bytes all_zeros
good_encodes st g = subst (λ (s : State). good_image (image_of s) ≡ true) (spelled_out_lem st g) good
  where
    at : (k : ℕ) → zeros_good (get_or st.tlb k 0 / 256 % 256) ≡ true
    at k = zeros_good_lem (get_or st.tlb k 0) (g.zeros k)

    zeros : all_zeros (image_of (spelled_out st)) tlb_at 8 ≡ true
    zeros = simp at

    good : good_image (image_of (spelled_out st)) ≡ true
    good =
        both _ _ (flag_good_lem st.flags)
        (both _ _ (lines_good st.pending (omega (arith, g.lines)))
        (both _ _ (lt-ltb _ _ (bit_small st.mmu))
        (both _ _ (lt-ltb _ _ (condition_small st.condition))
        (both _ _ (lt-ltb _ _ g.causes)
        (both _ _ zeros
        (both _ _ (timer_good_lem st.timers.timer0 g.timers.0)
        (timer_good_lem st.timers.timer1 g.timers.1)))))))

-- ---- the state of a good image

zeros_from : (b : List ℕ) → Bytes b → (n at : ℕ) → all_zeros b at n ≡ true → Each Zeros (tlb_entries_from b at n)
unfolding all_zeros zeros_good
zeros_from b small zero at h k = refl
zeros_from b small (suc n) at h zero =
    let z : get_or b (at + 1) 0 / 32 % 4 ≡ 0 = eqb-true _ _ (this (zeros_good (get_or b (at + 1) 0)) _ h) in
    omega (arith, small (at + 2))
zeros_from b small (suc n) at h (suc k) = zeros_from b small n (at + 3) (rest (zeros_good (get_or b (at + 1) 0)) _ h) k

timer_decoded : (b : List ℕ) → Bytes b → (at : ℕ) → TimerFields b at → GoodTimer (timer_from b at)
timer_decoded b small at f =
    let word : (k : ℕ) → wrap (word_from b k) ≡ word_from b k = λ k. omega (arith, small k, small (k + 1)) in
    record { count = rw (word (at + count_in), word (at + period_in)) f.count; control = f.control }

pub good_decoded : (b : List ℕ) → Bytes b → good_image b ≡ true → GoodState (state_from b)
unfolding state_from
good_decoded b small g =
    let f : Fields b = fields b g in
    record {
      thirteen = refl;
      lines = f.lines;
      causes = f.cause;
      eight = refl;
      zeros = zeros_from b small 8 tlb_at f.zeros;
      timers = (timer_decoded b small timer0_at f.timer0, timer_decoded b small timer1_at f.timer1);
    }
