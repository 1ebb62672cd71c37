-- What one turn of the loop tells: the instruction of the first word was not carried out, and nothing has changed; or it was, by accesses that the
-- map gives.
-- Assumes nothing.
use Rattle.std.specs.Prelude.{Bool, false, true, List, refl, ◌≡◌, ℕ, ◌%◌, ◌*◌, ◌+◌, ◌/◌, ◌<◌, get_or, length, set}
use Rattle.std.proofs.Common.{ap, ◌∙◌, arith}
use Rattle.alu.specs.Alu.{places, sign_of, sub_of, zero_of}
use Rattle.alu.specs.declared.Alu.{Alu}
use Rattle.decode.specs.Code.{CALL, CMP, JUMP, LD, NO, PUSH, RET, ST}
use Rattle.decode.specs.Decode.{rd_field}
use Rattle.decode.specs.declared.Flow.TheVariants as flow
use Rattle.jump.specs.Jump.{condition_of}
use Rattle.mmu.specs.declared.Right.TheVariants.{Execute, Read}
use Rattle.pages.specs.Accesses.{Reads, Wrote}
use Rattle.word.specs.declared.Width.{Width}
use Rattle.word.specs.declared.Width.TheVariants.{Word}
use Rattle.plan.specs.Result.{alu_of}
use Rattle.status.specs.Flag.{holds}
use Rattle.word.specs.Word.{minus, plus, upper}
use Rattle.source.specs.Fields.{RxRead, mode_of}
use Rattle.source.specs.Rows.{Computes, add_cost, load_cost}
use Rattle.source.specs.Sources.{Named, Valued}
use Rattle.hot.specs.Conditions.{flag_bits}
use Rattle.hot.specs.declared.Hot.{Hot}
use Rattle.source.specs.declared.operand.Source.{Source}

-- S and Z
abbrev pub s_of : Hot → Bool
s_of h = sign_of h.result

abbrev pub z_of : Hot → Bool
z_of h = zero_of h.result

-- to another address, in these states
abbrev pub to : Hot → ℕ → ℕ → Hot
to h pc cost = record { pc = pc; v = h.v; c = h.c; result = h.result; cost = cost }

-- not carried out: nothing but the count of its states
abbrev pub stop_of : Hot → Hot
stop_of h = to h h.pc 0

-- the flags of a result
abbrev pub flagged : Alu → ℕ → ℕ → Hot
flagged a pc cost = record { pc = pc; v = a.v; c = a.c; result = a.value; cost = cost }

-- ---- LD and ADD to SHRL, with an operand

-- what they do to the registers and the flags
pub data Acts (rs : List ℕ) (h : Hot) (w : ℕ) (x : Source) (rs' : List ℕ) (r : Hot) : Type 0 where
  load : w / 2048 ≡ LD → rs' ≡ set rs (rd_field w) x.value → r ≡ to h x.next (load_cost (mode_of w)) → Acts rs h w x rs' r
  compare :
      (a : Alu) → w / 2048 ≡ CMP → a ≡ sub_of (get_or rs (rd_field w) 0) x.value → rs' ≡ rs → r ≡ flagged a x.next (add_cost (mode_of w) + 0)
      → Acts rs h w x rs' r
  compute :
      {code extra : ℕ} (a : Alu) → Computes code flow.Next extra → (code ≡ CMP → ⊥) → w / 2048 ≡ code
      → a ≡ alu_of code (get_or rs (rd_field w) 0) x.value → rs' ≡ set rs (rd_field w) a.value
      → r ≡ flagged a x.next (add_cost (mode_of w) + extra) → Acts rs h w x rs' r
  divide :
      {code extra : ℕ} (a : Alu) → Computes code flow.Divide extra → (code ≡ CMP → ⊥) → w / 2048 ≡ code → (x.value ≡ 0 → ⊥)
      → a ≡ alu_of code (get_or rs (rd_field w) 0) x.value → rs' ≡ set rs (rd_field w) a.value
      → r ≡ flagged a x.next (add_cost (mode_of w) + extra) → Acts rs h w x rs' r
  shift :
      {code extra : ℕ} (a : Alu) → Computes code flow.Shift extra → (code ≡ CMP → ⊥) → w / 2048 ≡ code
      → a ≡ alu_of code (get_or rs (rd_field w) 0) x.value → rs' ≡ set rs (rd_field w) a.value
      → r ≡ flagged a x.next (add_cost (mode_of w) + extra + places x.value) → Acts rs h w x rs' r

-- what the operation stage tells
pub data Operates (rs : List ℕ) (h : Hot) (w : ℕ) (x : Source) (rs' : List ℕ) (r : Hot) : Type 0 where
  stay : r ≡ stop_of h → rs' ≡ rs → Operates rs h w x rs' r
  act :
      0 < r.cost → r.cost < 65536 → length rs ≡ 16 → length rs' ≡ 16 → rd_field w < 14 → x.value < 65536 → Acts rs h w x rs' r
      → Operates rs h w x rs' r

-- a division
pub data Divided (rs : List ℕ) (h : Hot) (d b : ℕ) (a : Alu) (pc cost : ℕ) (rs' : List ℕ) (r : Hot) : Type 0 where
  by_zero : r ≡ stop_of h → rs' ≡ rs → Divided rs h d b a pc cost rs' r
  quotient : (b ≡ 0 → ⊥) → r ≡ flagged a pc cost → rs' ≡ set rs d a.value → Divided rs h d b a pc cost rs' r

-- ---- the instructions that move

-- what is added to the second word in mode 0 and in mode 1
pub data Added (rs : List ℕ) (mode pc w r : ℕ) : Type 0 where
  none : mode ≡ 0 → r ≡ 0 → Added rs mode pc w r
  one : (mode ≡ 0 → ⊥) → RxRead rs (plus pc 4) (w % 16) r → Added rs mode pc w r

-- to an address, if that is even
pub data Led (h : Hot) (pc cost : ℕ) (r : Hot) : Type 0 where
  halts : r ≡ stop_of h → Led h pc cost r
  leads : pc % 2 ≡ 0 → r ≡ to h pc cost → Led h pc cost r

-- Rd stored at an address, and on to the next instruction
pub data Stored (map rs m : List ℕ) (h : Hot) (w : ℕ) (width : Width) (a next cost : ℕ) (m' : List ℕ) (r : Hot) : Type 0 where
  stays : r ≡ stop_of h → m' ≡ m → Stored map rs m h w width a next cost m' r
  goes : r ≡ to h next cost → rd_field w < 14 → Wrote map m width a (get_or rs (rd_field w) 0) m' → Stored map rs m h w width a next cost m' r

-- ST in its modes, with its states
pub data Stores : ℕ → ℕ → Type 0 where
  direct : Stores 0 6
  indexed : Stores 1 6
  framed : Stores 3 6
  indirect : Stores 6 5
  byte_indirect : Stores 7 5

-- the second word of a jump or of CALL, and what is added to it
pub record Target (map rs m : List ℕ) (h : Hot) (w d add : ℕ) : Type 0 where
  pub small : mode_of w < 2
  pub added : Added rs (mode_of w) h.pc w add
  pub fetched : Reads map m Execute Word (plus h.pc 2) d

-- ---- an instruction

pub data Turned (map rs m : List ℕ) (h : Hot) (w : ℕ) (rs' m' : List ℕ) (r : Hot) : Type 0 where
  jumped :
      {d add a : ℕ} → w / 2048 ≡ JUMP → (rd_field w ≡ 13 → ⊥) → Target map rs m h w d add → d < 65536 → a ≡ plus d add
      → holds (condition_of (rd_field w) h.v h.c (s_of h) (z_of h)) ≡ true → rs' ≡ rs → m' ≡ m → r ≡ to h a 5 → Turned map rs m h w rs' m' r
  passed :
      {d add next : ℕ} → w / 2048 ≡ JUMP → (rd_field w ≡ 13 → ⊥) → Target map rs m h w d add → next ≡ plus h.pc 4
      → holds (condition_of (rd_field w) h.v h.c (s_of h) (z_of h)) ≡ false → rs' ≡ rs → m' ≡ m → r ≡ to h next 4 → Turned map rs m h w rs' m' r
  called :
      {d add a next sp : ℕ} → w / 2048 ≡ CALL → Target map rs m h w d add → d < 65536 → a ≡ plus d add → next ≡ plus h.pc 4
      → sp ≡ minus (get_or rs 13 0) 2 → Wrote map m Word sp next m' → rs' ≡ set rs 13 sp → r ≡ to h a 6 → Turned map rs m h w rs' m' r
  idled : {next : ℕ} → upper w ≡ NO * 8 → next ≡ plus h.pc 2 → rs' ≡ rs → m' ≡ m → r ≡ to h next 3 → Turned map rs m h w rs' m' r
  pushed :
      {next sp : ℕ} → upper w ≡ PUSH * 8 → rd_field w < 14 → next ≡ plus h.pc 2 → sp ≡ minus (get_or rs 13 0) 2
      → Wrote map m Word sp (get_or rs (rd_field w) 0) m' → rs' ≡ set rs 13 sp → r ≡ to h next 5 → Turned map rs m h w rs' m' r
  popped :
      {next sp x : ℕ} → upper w ≡ PUSH * 8 + 4 → rd_field w < 14 → next ≡ plus h.pc 2 → sp ≡ plus (get_or rs 13 0) 2
      → Reads map m Read Word (get_or rs 13 0) x → rs' ≡ set (set rs 13 sp) (rd_field w) x → m' ≡ m → r ≡ to h next 6 → Turned map rs m h w rs' m' r
  returned :
      {sp x : ℕ} → upper w ≡ RET * 8 → sp ≡ plus (get_or rs 13 0) 2 → Reads map m Read Word (get_or rs 13 0) x → rs' ≡ set rs 13 sp → m' ≡ m
      → r ≡ to h x 6 → Turned map rs m h w rs' m' r
  stored :
      {mode cost a next : ℕ} {width : Width} → w / 2048 ≡ ST → mode_of w ≡ mode → Stores mode cost → rd_field w < 14
      → Named rs map m h.pc w mode a next width → Wrote map m width a (get_or rs (rd_field w) 0) m' → rs' ≡ rs → r ≡ to h next cost
      → Turned map rs m h w rs' m' r
  operated :
      {x : Source} → rd_field w < 14 → Valued rs map m h.pc w (mode_of w) x.value x.next → Acts rs h w x rs' r → m' ≡ m
      → Turned map rs m h w rs' m' r

pub data Tells (map rs m : List ℕ) (h : Hot) (w : ℕ) (rs' m' : List ℕ) (r : Hot) : Type 0 where
  stop : r ≡ stop_of h → rs' ≡ rs → m' ≡ m → Tells map rs m h w rs' m' r
  done :
      0 < r.cost → r.cost < 65536 → r.pc % 2 ≡ 0 → length rs ≡ 16 → length rs' ≡ 16 → Turned map rs m h w rs' m' r → Tells map rs m h w rs' m' r

-- the same with LD Rd,FLAG, `top` being E, P and I in their places in FLAG
pub data Told (top : ℕ) (map rs m : List ℕ) (h : Hot) (w : ℕ) (rs' m' : List ℕ) (r : Hot) : Type 0 where
  plain : Tells map rs m h w rs' m' r → Told top map rs m h w rs' m' r
  flag_held :
      {next : ℕ} → upper w ≡ ST * 8 + 4 → rd_field w < 14 → length rs ≡ 16 → length rs' ≡ 16 → next ≡ plus h.pc 2 → next % 2 ≡ 0
      → rs' ≡ set rs (rd_field w) (top + flag_bits h.v h.c (s_of h) (z_of h)) → m' ≡ m → r ≡ to h next 4 → Told top map rs m h w rs' m' r

module _ {top : ℕ} {map rs m : List ℕ} {h : Hot} {w : ℕ} {rs' m' : List ℕ} {r : Hot} where
  pub stopped : Told top map rs m h w rs' m' r → r.cost ≡ 0 → (r ≡ stop_of h) × (rs' ≡ rs) × (m' ≡ m)
  stopped (plain (stop z p q)) e = (z, p, q)
  stopped (plain (done l k v n s t)) e = absurd (omega arith)
  stopped (flag_held f low n s x v p q z) e = let k : ◌≡◌ {A = ℕ} 4 0 = rw z at e in absurd (omega arith)

  pub small : Told top map rs m h w rs' m' r → r.cost < 65536
  small (plain (stop z p q)) = rw z (omega arith)
  small (plain (done l k v n s t)) = k
  small (flag_held f low n s x v p q z) = rw z (omega arith)

  pub sized : length rs ≡ 16 → Told top map rs m h w rs' m' r → length rs' ≡ 16
  sized e (plain (stop z p q)) = ap length p ∙ e
  sized e (plain (done l k v n s t)) = s
  sized e (flag_held f low n s x v p q z) = s

  -- PC stays even
  pub evened : h.pc % 2 ≡ 0 → Told top map rs m h w rs' m' r → r.pc % 2 ≡ 0
  evened e (plain (stop z p q)) = rw z e
  evened e (plain (done l k v n s t)) = v
  evened e (flag_held f low n s x v p q z) = rw z v

-- an operation leads to the following instruction
pub acts_on : {rs : List ℕ} {h : Hot} {w : ℕ} {x : Source} {rs' : List ℕ} {r : Hot} → Acts rs h w x rs' r → r.pc ≡ x.next
acts_on (load e p q) = rw q refl
acts_on (compare a e c p q) = rw q refl
acts_on (compute a c n e t p q) = rw q refl
acts_on (divide a c n e z t p q) = rw q refl
acts_on (shift a c n e t p q) = rw q refl
