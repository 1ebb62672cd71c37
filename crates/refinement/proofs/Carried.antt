-- What a turn tells of the machine: the instruction is the machine's step.
-- Assumes nothing.
use Rattle.std.specs.Prelude.{List, refl, ◌≡◌, ℕ, ◌+◌, ◌<◌, length}
use Rattle.std.proofs.Common.{◌∙◌, arith}
use Rattle.decode.specs.Decode.{rd_field, rx_field}
use Rattle.machine.specs.Flag.{flag_of}
use Rattle.machine.specs.Register.{reg_of}
use Rattle.machine.specs.declared.State.{State}
use Rattle.mmu.specs.declared.Right.TheVariants.{Execute}
use Rattle.pages.specs.Accesses.{Reads}
use Rattle.pages.specs.Maps.{access_granted}
use Rattle.status.specs.Flag.{flag_word}
use Rattle.word.specs.declared.Width.{Width}
use Rattle.word.specs.declared.Width.TheVariants.{Word}
use Rattle.word.specs.Word.{plus}
use Rattle.source.specs.Fields.{RxRead, mode_of}
use Rattle.source.specs.Sources.{Named, Valued, by_frame, by_index, by_register, by_register_byte, by_second, field, held, loaded, second}
use Rattle.hot.specs.Conditions.{flag_bits, top_of}
use Rattle.hot.specs.Tells.{Acts, Added, Tells, Told, Turned, s_of, z_of}
use Rattle.hot.specs.Tells.{called, compare, compute, divide, done, flag_held, idled, jumped, load, none, one, operated, passed, plain, popped, pushed, returned, shift, stop, stored}
use Rattle.hot.specs.declared.Hot.{Hot}
use Rattle.source.specs.declared.operand.Source.{Source}
use Rattle.refinement.specs.Statement.{InstructionIsStep, MapOf, hot_state}
use Rattle.refinement.specs.Fetch.{begins}
use Rattle.refinement.specs.Hot.{reg_hot, rx_hot}
use Rattle.refinement.specs.Operands as operands
use Rattle.refinement.specs.Operands.{Addressed, Second, Sourced, memory_read}
use Rattle.refinement.proofs.Operations.{Does}
use Rattle.refinement.proofs.Operations.{call_does, compare_does, divide_does, flag_does, jump_does, load_does, next_does}
use Rattle.refinement.proofs.Operations.{no_does, pass_does, pop_does, push_does, ret_does, shift_does, store_does}
use Rattle.refinement.specs.Opens.{opens_call, opens_jump, opens_store}
use Rattle.refinement.specs.Results.{ByValue, difference_by_value, result_by_value}

-- ---- operands

module _ (b : State) {map : List ℕ} (maps : MapOf b map) (rs m : List ℕ) (h : Hot) (w : ℕ) where
  abbrev st : State
  st = hot_state b rs h

  second_of : {x : ℕ} → Reads map m Execute Word (plus h.pc 2) x → Second st m x
  second_of r = record { at = r.at; grants = access_granted maps r.placed; value = r.value }

  in_register : (next a : ℕ) → RxRead rs next (rx_field w) a → a ≡ reg_of st next (rx_field w)
  in_register next = rx_hot b rs h.pc h.v h.c (s_of h) (z_of h) next (rx_field w)

  addressed : {mode a next : ℕ} {width : Width} → Named rs map m h.pc w mode a next width → Addressed st m w mode a next width
  addressed {a} {next} (by_second n f) = operands.direct st m w a next (second_of f) n
  addressed {a} {next} (by_index {d} n f p) =
      operands.indexed st m w d p.index a next (second_of f) (in_register next p.index p.read) p.value n
  addressed {a} {next} (by_frame n f) =
      operands.framed st m w a next (rw (reg_hot b rs h.pc h.v h.c (s_of h) (z_of h) next 12 (omega arith)) f) n
  addressed {a} {next} (by_register n p) = operands.indirect st m w a next (in_register next a p) n
  addressed {a} {next} (by_register_byte n p) = operands.byte_indirect st m w a next (in_register next a p) n

  sourced : {mode x next : ℕ} → Valued rs map m h.pc w mode x next → Sourced st m w mode x next
  sourced {mode} {x} {next} (loaded {a} {width} p r) =
      memory_read st m w width mode a x next r.at (addressed p) (access_granted maps r.placed) r.value
  sourced {x} {next} (second n f) = operands.immediate st m w x next (second_of f) n
  sourced {x} {next} (held n r) = operands.register st m w x next (in_register next x r) n
  sourced {x} {next} (field n f) = operands.short st m w x next f n

  -- ---- the target of a jump and of CALL

  module _ {mode : ℕ} (small : mode < 2) (d next : ℕ) (s : Second st m d) (n : next ≡ plus h.pc 4) where
    at_next : {add : ℕ} → RxRead rs (plus h.pc 4) (rx_field w) add → add ≡ reg_of st next (rx_field w)
    at_next {add} r = rw n (in_register _ add r)

    at_target : {add : ℕ} → Added rs mode h.pc w add → d < 65536 → (a : ℕ) → a ≡ plus d add → Addressed st m w mode a next Word
    at_target (none e z) l a q = let k : a ≡ d = omega arith in rw (e, k) (operands.direct st m w d next s n)
    at_target {add} (one f r) l a q =
        let e : mode ≡ 1 = omega (arith, f) in
        rw e (operands.indexed st m w d add a next s (at_next r) q n)

    some_target : {add : ℕ} → Added rs mode h.pc w add → (a : ℕ) × Addressed st m w mode a next Word
    some_target (none e z) = (d, rw e (operands.direct st m w d next s n))
    some_target {add} (one f r) =
        let e : mode ≡ 1 = omega (arith, f) in
        (plus d add, rw e (operands.indexed st m w d add (plus d add) next s (at_next r) refl n))

  -- ---- instructions

  module _ (size : length rs ≡ 16) where
    acted :
        {x : Source} {rs' : List ℕ} {r : Hot} → rd_field w < 14 → Valued rs map m h.pc w (mode_of w) x.value x.next → Acts rs h w x rs' r
        → Does b rs h m w rs' r.pc r.v r.c (s_of r) (z_of r) m r.cost
    acted {x} low v (load e p q) =
        rw (p, q) (load_does b rs size h m w low (mode_of w) (omega arith) x.value x.next (sourced v) (omega arith))
    acted {x} low v (compare a e c p q) =
        let b' : ByValue a = rw c (difference_by_value _ _) in
        rw (p, q, ← b'.s, ← b'.z)
        (compare_does b rs size h m w low (mode_of w) (omega arith) x.value x.next (sourced v) (omega arith) a c)
    acted {x} low v (compute a c n e t p q) =
        let b' : ByValue a = rw t (result_by_value _ _ _) in
        rw (p, q, ← b'.s, ← b'.z)
        (next_does b rs size h m w low (mode_of w) (omega arith) x.value x.next (sourced v) a t n (omega arith) c)
    acted {x} low v (divide a c n e z t p q) =
        let b' : ByValue a = rw t (result_by_value _ _ _) in
        rw (p, q, ← b'.s, ← b'.z)
        (divide_does b rs size h m w low (mode_of w) (omega arith) x.value x.next (sourced v) a t n (omega arith) c z)
    acted {x} low v (shift a c n e t p q) =
        let b' : ByValue a = rw t (result_by_value _ _ _) in
        rw (p, q, ← b'.s, ← b'.z)
        (shift_does b rs size h m w low (mode_of w) (omega arith) x.value x.next (sourced v) a t n (omega arith) c)

    turned : {rs' m' : List ℕ} {r : Hot} → Turned map rs m h w rs' m' r → Does b rs h m w rs' r.pc r.v r.c (s_of r) (z_of r) m' r.cost
    turned (jumped {d} {a} code n t l q c p y z) =
        rw (p, y, z)
        (jump_does b rs size h m w (omega arith) (at_target t.small d _ (second_of t.fetched) refl t.added l a q)
        (opens_jump (mode_of w) t.small) n c)
    turned (passed {d} {next} code n t q c p y z) =
        rw (p, y, z)
        (pass_does b rs size h m w (omega arith) (some_target t.small d next (second_of t.fetched) q t.added).1
        (opens_jump (mode_of w) t.small) n c)
    turned (called {d} {a} {next} {sp} code t l q k e x p z) =
        rw (p, z, x.memory)
        (call_does b rs size h m w (omega arith) (at_target t.small d next (second_of t.fetched) k t.added l a q)
        (opens_call (mode_of w) t.small) sp x.at e (access_granted maps x.placed))
    turned (idled {next} e n p y z) = rw (p, y, z) (no_does b rs size h m w next n e)
    turned (pushed {next} {sp} e low n q x p z) =
        rw (p, z, x.memory) (push_does b rs size h m w next n e low sp x.at q (access_granted maps x.placed))
    turned (popped {next} {sp} {x} e low n q f p y z) =
        rw (p, y, z) (pop_does b rs size h m w next n e low f.at sp x (access_granted maps f.placed) f.value q)
    turned (returned {sp} {x} e q f p y z) =
        rw (p, y, z) (ret_does b rs size h m w _ refl e f.at sp x (access_granted maps f.placed) f.value q)
    turned (stored {width} code is s low a x p z) =
        rw (p, z, x.memory)
        (store_does b rs size h m w low (omega arith) (opens_store s) width (addressed a) x.at (access_granted maps x.placed))
    turned (operated low v a y) = rw y (acted low v a)

-- ---- what a turn tells

tells :
    {map rs m : List ℕ} {h : Hot} {w : ℕ} {rs' m' : List ℕ} {r : Hot} → Tells map rs m h w rs' m' r → (r.cost ≡ 0 → ⊥) → (b : State) → MapOf b map
    → Does b rs h m w rs' r.pc r.v r.c (s_of r) (z_of r) m' r.cost
tells (stop z p q) n b maps = absurd (n (rw z))
tells {rs} {m} {h} {w} (done l k v size s t) n b maps = turned b maps rs m h w size t

-- FLAG, of its two parts
whole_flag : (b : State) (rs : List ℕ) (h : Hot) {top : ℕ} → top ≡ top_of b.flags → top + flag_bits h.v h.c (s_of h) (z_of h) ≡ flag_of (hot_state b rs h)
unfolding flag_word
whole_flag b rs h e = omega arith

-- the same with LD Rd,FLAG
told :
    {top : ℕ} {map rs m : List ℕ} {h : Hot} {w : ℕ} {rs' m' : List ℕ} {r : Hot} → Told top map rs m h w rs' m' r → (r.cost ≡ 0 → ⊥) → (b : State)
    → MapOf b map → top ≡ top_of b.flags → Does b rs h m w rs' r.pc r.v r.c (s_of r) (z_of r) m' r.cost
told (plain t) n b maps e = tells t n b maps
told {top} {rs} {m} {h} {w} (flag_held {next} f low size s x v p q z) n b maps e =
    rw (z, q, p) (flag_does b rs size h m w next x f low (top + flag_bits h.v h.c (s_of h) (z_of h)) (whole_flag b rs h e))

pub carried : InstructionIsStep
carried b top map rs m h w rs' m' r calm maps same f t n =
    begins (hot_state b rs h) m f.at w calm (access_granted maps f.placed) f.value ∙ told t n b maps same
