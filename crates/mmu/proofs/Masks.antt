-- The bits of an entry, by `&` and `|`.
-- Assumes nothing.
use Rattle.std.specs.Prelude.{not, bit_and, bit_or, ◌≡◌, ℕ, ◌^◌, ◌/◌, suc, zero, ◌*◌, ◌+◌, ◌<◌, eqb}
use Rattle.std.specs.Int.{bit_at}
use Rattle.std.specs.Int.Bits.{or_add_and}
use Rattle.std.proofs.Common.{ap, arith, cond, eq-eqb, refl, sym, ◌∙◌}
use Rattle.std.proofs.lemmas.Nat.{pow_pos}
use Rattle.std.proofs.lemmas.Nat.Bits.{and_pow, bit_at-lt}
use Rattle.word.specs.Bits.{or_assoc}
use Rattle.word.specs.Word.{is_set}
use Rattle.mmu.specs.Entry.{marked, marks, with_bit}
use Rattle.mmu.specs.Lookup.{has_page}
use Rattle.mmu.specs.declared.Right.{Right}
use Rattle.mmu.specs.declared.Right.TheVariants.{Execute, Read, Write}

-- at a bit that is 0 or 1
tests : (b p : ℕ) → b < 2 → 0 < p → not (eqb (b * p) 0) ≡ eqb b 1
tests zero p l q = grind arith
tests (suc zero) p l q = grind arith
tests (suc (suc b)) p l q = absurd (omega arith)

pub tested : (n k : ℕ) → not (eqb (bit_and n (2 ^ k)) 0) ≡ is_set k n
tested n k = rw and_pow (tests (bit_at n k) (2 ^ k) (bit_at-lt n k) (pow_pos k))

joins : (b p n x : ℕ) → b < 2 → x + b * p ≡ n + p → x ≡ cond (eqb b 1) n (n + p)
joins zero p n x l e = omega arith
joins (suc zero) p n x l e = omega arith
joins (suc (suc b)) p n x l e = absurd (omega arith)

pub joined : (n k : ℕ) → bit_or n (2 ^ k) ≡ with_bit k n
joined n k = joins (bit_at n k) (2 ^ k) n _ (bit_at-lt n k) (rw (← and_pow n k) (or_add_and n (2 ^ k)))

pub marks_joined : (right : Right) (n : ℕ) → bit_or n (marks right) ≡ marked right n
marks_joined Read n = joined n 12
marks_joined Execute n = joined n 12
marks_joined Write n = ap (bit_or n) refl ∙ sym (or_assoc n (2 ^ 12) (2 ^ 11)) ∙ rw (joined n 12) (joined (with_bit 12 n) 11)

-- a page, and V by a mask
pub page_held : (page entry : ℕ) → entry / 65536 ≡ page → not (eqb (bit_and entry 32768) 0) ≡ has_page page entry
page_held page entry e = rw (eq-eqb (entry / 65536) page e) (tested entry 15)
