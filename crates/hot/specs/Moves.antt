-- What the turns tell, by what was found on the way.
-- Assumes nothing.
use Rattle.std.specs.Prelude.{false, true, List, refl, ◌≡◌, ℕ, ◌%◌, ◌*◌, ◌+◌, ◌/◌, ◌<◌, get_or, length, set}
use Rattle.std.proofs.Common.{◌∙◌, arith, length-set}
use Rattle.decode.specs.Code.{CALL, JUMP, NO, PUSH, RET, ST}
use Rattle.decode.specs.Decode.{rd_field}
use Rattle.jump.specs.Jump.{condition_of}
use Rattle.mmu.specs.declared.Right.TheVariants.{Execute, Read}
use Rattle.pages.specs.Accesses.{Reads, Wrote}
use Rattle.word.specs.declared.Width.{Width}
use Rattle.word.specs.declared.Width.TheVariants.{Word}
use Rattle.status.specs.Flag.{holds}
use Rattle.word.specs.Word.{minus, plus, upper}
use Rattle.source.specs.Fields.{mode_of}
use Rattle.source.specs.Sources.{Named, SourceIs, by_frame, by_index, by_register, by_register_byte, by_second}
use Rattle.hot.specs.Tells.{Added, Led, Operates, Stored, Stores, Target, Tells, s_of, to, z_of}
use Rattle.hot.specs.Tells.{act, acts_on, called, done, goes, halts, idled, jumped, leads, operated, passed, popped, pushed, returned, stay, stays, stop, stored}
use Rattle.hot.specs.declared.Hot.{Hot}
use Rattle.source.specs.declared.operand.Source.{Source}

-- the address of the following instruction is even
named_even : {rs map m : List ℕ} {pc w mode a next : ℕ} {width : Width} → pc % 2 ≡ 0 → Named rs map m pc w mode a next width → next % 2 ≡ 0
named_even e (by_second n f) = omega arith
named_even e (by_index n f p) = omega arith
named_even e (by_frame n f) = omega arith
named_even e (by_register n p) = omega arith
named_even e (by_register_byte n p) = omega arith

module _ (map rs : List ℕ) (size : length rs ≡ 16) (m : List ℕ) (h : Hot) (w : ℕ) (even : h.pc % 2 ≡ 0) where
  at_thirteen : (x : ℕ) → length (set rs 13 x) ≡ 16
  at_thirteen x = length-set rs 13 x ∙ size

  module _ {add : ℕ} (small : mode_of w < 2) (ad : Added rs (mode_of w) h.pc w add) (d : ℕ) (fetched : Reads map m Execute Word (plus h.pc 2) d) where
    target : Target map rs m h w d add
    target = record { small = small; added = ad; fetched = fetched }

    module _ (code : w / 2048 ≡ JUMP) (n : rd_field w ≡ 13 → ⊥) where
      pub jump_tells :
          d < 65536 → (a : ℕ) → a ≡ plus d add → holds (condition_of (rd_field w) h.v h.c (s_of h) (z_of h)) ≡ true → {r : Hot} → Led h a 5 r
          → Tells map rs m h w rs m r
      jump_tells l a q t (halts z) = stop z refl refl
      jump_tells l a q t (leads v z) = rw z (done (omega arith) (omega arith) v size size (jumped code n target l q t refl refl refl))

      pub pass_tells : (next : ℕ) → next ≡ plus h.pc 4 → holds (condition_of (rd_field w) h.v h.c (s_of h) (z_of h)) ≡ false → Tells map rs m h w rs m (to h next 4)
      pass_tells next q t = done (omega arith) (omega arith) (omega arith) size size (passed code n target q t refl refl refl)

    pub call_tells :
        w / 2048 ≡ CALL → d < 65536 → (a : ℕ) → a ≡ plus d add → a % 2 ≡ 0 → (next : ℕ) → next ≡ plus h.pc 4 → (sp : ℕ) → sp ≡ minus (get_or rs 13 0) 2
        → {m' : List ℕ} → Wrote map m Word sp next m' → Tells map rs m h w (set rs 13 sp) m' (to h a 6)
    call_tells code l a q v next k sp e x = done (omega arith) (omega arith) v size (at_thirteen sp) (called code target l q k e x refl refl)

  module _ (next : ℕ) (n : next ≡ plus h.pc 2) where
    pub no_tells : upper w ≡ NO * 8 → Tells map rs m h w rs m (to h next 3)
    no_tells e = done (omega arith) (omega arith) (omega arith) size size (idled e n refl refl refl)

    pub push_tells :
        upper w ≡ PUSH * 8 → rd_field w < 14 → (sp : ℕ) → sp ≡ minus (get_or rs 13 0) 2 → {m' : List ℕ} → Wrote map m Word sp (get_or rs (rd_field w) 0) m'
        → Tells map rs m h w (set rs 13 sp) m' (to h next 5)
    push_tells e low sp q x = done (omega arith) (omega arith) (omega arith) size (at_thirteen sp) (pushed e low n q x refl refl)

    pub pop_tells :
        upper w ≡ PUSH * 8 + 4 → rd_field w < 14 → (sp x : ℕ) → sp ≡ plus (get_or rs 13 0) 2 → Reads map m Read Word (get_or rs 13 0) x
        → Tells map rs m h w (set (set rs 13 sp) (rd_field w) x) m (to h next 6)
    pop_tells e low sp x q r =
        done (omega arith) (omega arith) (omega arith) size (length-set (set rs 13 sp) (rd_field w) x ∙ at_thirteen sp) (popped e low n q r refl refl refl)

  pub ret_tells :
      upper w ≡ RET * 8 → (sp x : ℕ) → x % 2 ≡ 0 → sp ≡ plus (get_or rs 13 0) 2 → Reads map m Read Word (get_or rs 13 0) x → Tells map rs m h w (set rs 13 sp) m (to h x 6)
  ret_tells e sp x v q r = done (omega arith) (omega arith) v size (at_thirteen sp) (returned e q r refl refl refl)

  pub store_tells :
      w / 2048 ≡ ST → (mode : ℕ) → mode_of w ≡ mode → {cost : ℕ} → Stores mode cost → 0 < cost → cost < 65536 → {width : Width} {m' : List ℕ} {r : Hot} {a next : ℕ}
      → (a < 65536 → Named rs map m h.pc w mode a next width) → Stored map rs m h w width a next cost m' r → Tells map rs m h w rs m' r
  store_tells code mode is s above below named (stays z p) = stop z refl p
  store_tells code mode is s above below named (goes e low x) =
      let n = named x.placed.below in
      rw e (done above below (named_even even n) size size (stored code is s low n x refl refl))

-- LD and ADD to SHRL
pub operate_tells :
    {rs map m rs' : List ℕ} {h r : Hot} {w : ℕ} {x : Source} → Operates rs h w x rs' r → SourceIs rs map m h.pc w x → Tells map rs m h w rs' m r
operate_tells (stay z p) s = stop z p refl
operate_tells (act l k n e low v a) s = done l k (rw (acts_on a) s.even) n e (operated low (s.valued v) a refl)
