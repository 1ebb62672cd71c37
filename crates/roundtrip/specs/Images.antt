-- A good image, decoded and encoded, is itself, byte for byte.
-- Assumes nothing.
use Rattle.std.specs.Prelude.{Bool, cond, false, true, List, ◌≡◌, refl, ℕ, suc, ◌+◌, ◌*◌, ◌/◌, ◌%◌, ◌^◌, ◌<◌, eqb, ltb}
use Rattle.std.proofs.Common.{sym, ◌∙◌, div-one, pow-suc, arith, eqb-true, ltb-true}
use Rattle.std.proofs.Math.Nat.{div-div-eq-div-mul}
use Rattle.std.proofs.lemmas.Bool.{eqb-false}
use mir.Val.{bool_byte}
use Rattle.image.specs.Decode.{condition_from, state_from}
use Rattle.layout.specs.Entries.{entry_bytes}
use Rattle.image.specs.Image.{image_of}
use Rattle.layout.specs.Layout.{
  cause_at,
  condition_at,
  control_in,
  count_in,
  fired_in,
  flag_at,
  image_size,
  mmu_at,
  pending_at,
  period_in,
  timer0_at,
  timer1_at,
  tlb_at,
}
use Rattle.layout.specs.Valid.{all_zeros, control_good, count_good, flag_good, good_image, pending_good, timer_good}
use Rattle.machine.specs.Answers.{condition_number}
use Rattle.status.specs.Flag.{flag_word}
use Rattle.machine.specs.Spelled.{spelled, whole}
use Rattle.machine.specs.declared.Condition.TheVariants.{Halted, Lost, Running}
use Rattle.endian.specs.Bytes.{byte_from, word_bytes, word_from}
use Rattle.word.specs.Cases.{rest, this}
use Rattle.word.specs.Word.{bit, is_set}
use Rattle.roundtrip.specs.Statement.{Encoded}

-- ---- the tests of an image

-- the timer at an offset
pub record TimerFields (b : List ℕ) (at : ℕ) : Type 0 where
  pub count : count_good (word_from b (at + count_in)) (word_from b (at + period_in)) ≡ true
  pub control : control_good (word_from b (at + control_in)) ≡ true
  pub fired : word_from b (at + fired_in) < 2

timer_fields : (b : List ℕ) (at : ℕ) → timer_good b at ≡ true → TimerFields b at
unfolding timer_good
timer_fields b at g =
    let counted = count_good (word_from b (at + count_in)) (word_from b (at + period_in)) in
    let g1 = rest counted _ g in
    record {
      count = this counted _ g;
      control = this (control_good (word_from b (at + control_in))) _ g1;
      fired = ltb-true _ _ (rest (control_good (word_from b (at + control_in))) _ g1);
    }

pub record Fields (b : List ℕ) : Type 0 where
  pub flag : word_from b flag_at < 256
  pub gap : word_from b flag_at / 16 % 2 ≡ 0
  pub lines : word_from b pending_at < 1024
  pub mmu : byte_from b mmu_at < 2
  pub condition : byte_from b condition_at < 3
  pub cause : byte_from b cause_at < 4
  pub zeros : all_zeros b tlb_at 8 ≡ true
  pub timer0 : TimerFields b timer0_at
  pub timer1 : TimerFields b timer1_at

pub fields : (b : List ℕ) → good_image b ≡ true → Fields b
unfolding good_image flag_good pending_good
fields b g =
    let g0 = this (flag_good (word_from b flag_at)) _ g in
    let g1 = rest (flag_good (word_from b flag_at)) _ g in
    let g2 = rest (pending_good (word_from b pending_at)) _ g1 in
    let g3 = rest (ltb (byte_from b mmu_at) 2) _ g2 in
    let g4 = rest (ltb (byte_from b condition_at) 3) _ g3 in
    let g5 = rest (ltb (byte_from b cause_at) 4) _ g4 in
    let g6 = rest (all_zeros b tlb_at 8) _ g5 in
    record {
      flag = ltb-true _ _ (this (ltb (word_from b flag_at) 256) _ g0);
      gap = eqb-true _ _ (rest (ltb (word_from b flag_at) 256) _ g0);
      lines = ltb-true _ _ (this (pending_good (word_from b pending_at)) _ g1);
      mmu = ltb-true _ _ (this (ltb (byte_from b mmu_at) 2) _ g2);
      condition = ltb-true _ _ (this (ltb (byte_from b condition_at) 3) _ g3);
      cause = ltb-true _ _ (this (ltb (byte_from b cause_at) 4) _ g4);
      zeros = this (all_zeros b tlb_at 8) _ g5;
      timer0 = timer_fields b timer0_at (this (timer_good b timer0_at) _ g6);
      timer1 = timer_fields b timer1_at (rest (timer_good b timer0_at) _ g6);
    }

-- ---- the bytes of numbers

high : (a b : ℕ) → a < 256 → b < 256 → (a * 256 + b) / 256 % 256 ≡ a
high a b p q = omega arith

low : (a b : ℕ) → b < 256 → (a * 256 + b) % 256 ≡ b
low a b q = omega arith

top : (a b c : ℕ) → a < 256 → b < 256 → c < 256 → (a * 65536 + b * 256 + c) / 65536 % 256 ≡ a
top a b c p q r = omega arith

middle : (a b c : ℕ) → b < 256 → c < 256 → (a * 65536 + b * 256 + c) / 256 % 256 ≡ b
middle a b c q r = omega arith

bottom : (a b c : ℕ) → c < 256 → (a * 65536 + b * 256 + c) % 256 ≡ c
bottom a b c r = omega arith

-- ---- single bits, the condition, FLAG

bit_back : (n : ℕ) → n < 2 → bool_byte (eqb n 1) ≡ n
bit_back n h = by (eqb n 1) refl
  where
    by : (t : Bool) → eqb n 1 ≡ t → bool_byte t ≡ n
    by true e = sym (eqb-true n 1 e)
    by false e = let other : n ≡ 1 → ⊥ = eqb-false n 1 e in omega arith

condition_back : (n : ℕ) → n < 3 → condition_number (condition_from n) ≡ n
unfolding condition_from
condition_back n h = by (eqb n 0) (eqb n 1) refl refl
  where
    by : (t u : Bool) → eqb n 0 ≡ t → eqb n 1 ≡ u → condition_number (cond t Running (cond u Halted Lost)) ≡ n
    by true u e f = sym (eqb-true n 0 e)
    by false true e f = sym (eqb-true n 1 f)
    by false false e f =
        let running : n ≡ 0 → ⊥ = eqb-false n 0 e in
        let halted : n ≡ 1 → ⊥ = eqb-false n 1 f in
        omega arith

-- what is left of a number from bit k on: bit k, and what is left from the next on
halved : (w k : ℕ) → w / 2 ^ k ≡ bit k w + 2 * (w / 2 ^ suc k)
halved w k = rw (pow-suc 2 k, ← (div-div-eq-div-mul w (2 ^ k) 2)) (omega arith)

-- a number of eight bits, bit 4 being 0, is the sum of the others
summed :
    (one left : ℕ → ℕ) → ((k : ℕ) → left k ≡ one k + 2 * left (suc k)) → one 4 ≡ 0 → left 8 ≡ 0
    → 128 * one 7 + 64 * one 6 + 32 * one 5 + 8 * one 3 + 4 * one 2 + 2 * one 1 + one 0 ≡ left 0
summed one left h g e = omega (arith, h 0, h 1, h 2, h 3, h 4, h 5, h 6, h 7)

bit_small : (n : ℕ) → n % 2 < 2
bit_small n = omega arith

flag_back :
    (w : ℕ) → w < 256 → w / 16 % 2 ≡ 0
    → flag_word (is_set 7 w) (is_set 6 w) (is_set 5 w) (is_set 3 w) (is_set 2 w) (is_set 1 w) (is_set 0 w) ≡ w
unfolding flag_word
flag_back w h g =
    simp (bit_back, bit_small)
    (summed (λ (k : ℕ). bit k w) (λ (k : ℕ). w / 2 ^ k) (halved w) g (omega arith) ∙ div-one w)

-- ---- the image

pub encoded : Encoded
unfolding image_of state_from word_bytes entry_bytes
encoded b long small g =
    let f : Fields b = fields b g in
    let e : image_of (state_from b) ≡ spelled b 0 image_size =
    simp (flag_back _ f.flag f.gap, bit_back _ f.mmu, condition_back _ f.condition, bit_back _ f.timer0.fired, bit_back _ f.timer1.fired, high, low, top, middle, bottom, small) in
    e ∙ sym (whole b image_size (omega arith))
