-- Registers, and the fields of a first word as words: 65,536 and above is no word.
-- Assumes nothing.
use Rattle.std.specs.Prelude.{Bool, cond, false, true, ◌&&◌, List, refl, ◌≡◌, ℕ, ◌%◌, ◌<◌, eqb, ltb, pos, ◌*ℤ◌, get_or}
use Rattle.std.proofs.Common.{arith, eqb-true, ltb-true}
use Rattle.decode.specs.Decode.{rx_field}
use Rattle.word.specs.Signed.{signed4, word}
use Rattle.word.specs.Word.{plus, upper}

-- the mode in a first word
abbrev pub mode_of : ℕ → ℕ
mode_of w = upper w % 8

-- a register below 14, by its number; the others are not among the registers here
unfoldable pub register_value : List ℕ → ℕ → ℕ
register_value rs n = cond (ltb n 14) (get_or rs n 0) 65536

-- Rs or Rx: of number 15 the address `next` of the following instruction
unfoldable pub rx_value : List ℕ → ℕ → ℕ → ℕ
rx_value rs next n = cond (eqb n 15) next (register_value rs n)

-- a displacement plus Rx, where both are words
unfoldable pub indexed_address : List ℕ → ℕ → ℕ → ℕ → ℕ
indexed_address rs next d w =
    let x = rx_value rs next (rx_field w) in cond (ltb d 65536 && ltb x 65536) (plus d x) 65536

-- What follows from a word that one of these gave, as the laws at the end have it.

-- a register below 14 was read
pub record RegRead (rs : List ℕ) (n x : ℕ) : Type 0 where
  pub low : n < 14
  pub value : x ≡ get_or rs n 0

-- Rs or Rx was read: a register below 14, or number 15
pub data RxRead (rs : List ℕ) (next n x : ℕ) : Type 0 where
  listed : RegRead rs n x → RxRead rs next n x
  following : n ≡ 15 → x ≡ next → RxRead rs next n x

-- the four-bit immediate as a word
abbrev pub short_of : ℕ → ℕ
short_of n = word (signed4 n)

-- a displacement and Rx were added
pub record IndexedPlace (rs : List ℕ) (next d w a : ℕ) : Type 0 where
  pub below : d < 65536
  pub index : ℕ
  pub read : RxRead rs next (rx_field w) index
  pub value : a ≡ plus d index

-- FP plus twice D4
abbrev pub frame_place : List ℕ → ℕ → ℕ
frame_place rs w = plus (get_or rs 12 0) (word (signed4 (rx_field w) *ℤ pos 2))

-- ---- what a word tells that was answered

register_by : (rs : List ℕ) (n : ℕ) (t : Bool) → ltb n 14 ≡ t → cond t (get_or rs n 0) 65536 < 65536 → RegRead rs n (cond t (get_or rs n 0) 65536)
register_by rs n true e l = record { low = ltb-true n 14 e; value = refl }
register_by rs n false e l = absurd (omega arith)

pub register_read : {rs : List ℕ} {n x : ℕ} → x ≡ register_value rs n → x < 65536 → RegRead rs n x
unfolding register_value
register_read {rs} {n} e = rw e (register_by rs n (ltb n 14) refl)

rx_by :
    (rs : List ℕ) (next n : ℕ) (t : Bool) → eqb n 15 ≡ t → cond t next (register_value rs n) < 65536
    → RxRead rs next n (cond t next (register_value rs n))
rx_by rs next n true e l = following (eqb-true n 15 e) refl
rx_by rs next n false e l = listed (register_read refl l)

pub rx_read : {rs : List ℕ} {next n x : ℕ} → x ≡ rx_value rs next n → x < 65536 → RxRead rs next n x
unfolding rx_value
rx_read {rs} {next} {n} e = rw e (rx_by rs next n (eqb n 15) refl)

indexed_by :
    (rs : List ℕ) (next d w : ℕ) (s t : Bool) → ltb d 65536 ≡ s → ltb (rx_value rs next (rx_field w)) 65536 ≡ t
    → cond (s && t) (plus d (rx_value rs next (rx_field w))) 65536 < 65536
    → IndexedPlace rs next d w (cond (s && t) (plus d (rx_value rs next (rx_field w))) 65536)
indexed_by rs next d w true true e f l =
    record { below = ltb-true d 65536 e; index = rx_value rs next (rx_field w); read = rx_read refl (ltb-true _ 65536 f); value = refl }
indexed_by rs next d w true false e f l = absurd (omega arith)
indexed_by rs next d w false t e f l = absurd (omega arith)

pub indexed_place : {rs : List ℕ} {next d w a : ℕ} → a ≡ indexed_address rs next d w → a < 65536 → IndexedPlace rs next d w a
unfolding indexed_address
indexed_place {rs} {next} {d} {w} e = rw e (indexed_by rs next d w _ _ refl refl)
