-- Laws of a state whose registers, PC and arithmetic flags stand beside it.
-- Assumes nothing.
use Rattle.std.specs.Prelude.{Bool, List, [], ◌++◌, ◌∷◌, refl, ◌≡◌, ℕ, ◌<◌, ltb, get_or, length, set, take}
use Rattle.std.proofs.Math.Bool.{false, true}
use Rattle.std.proofs.Common.{ap, ◌∙◌, arith, get_or-take}
use Rattle.std.proofs.Math.Path.{sym}
use Rattle.std.proofs.Math.Seq.{get_or-set_other, get_or-set_same, take-set-lt}
use Rattle.std.proofs.lemmas.List.{take-set-le}
use borrow.Author.Tests.{ltb-false, ltb-true, ne_eqb}
use Rattle.machine.specs.Register.{reg_in, reg_of, regs_after, sp_in, sp_of, ssp_after, ssp_with, usp_after, usp_with, with_reg, with_sp}
use Rattle.machine.specs.State.{with_regs}
use Rattle.machine.specs.Spelled.{spelled, whole}
use Rattle.machine.specs.declared.State.{State}
use Rattle.source.specs.Fields.{RxRead, following, listed}
use Rattle.refinement.specs.Statement.{hot}

ssp_same : (p : Bool) (a b : ℕ) → ssp_with p a (sp_in p a b) ≡ a
unfolding sp_in ssp_with
ssp_same true a b = refl
ssp_same false a b = refl

usp_same : (p : Bool) (a b : ℕ) → usp_with p b (sp_in p a b) ≡ b
unfolding sp_in usp_with
usp_same true a b = refl
usp_same false a b = refl

pub first_thirteen : (rs : List ℕ) → length rs ≡ 16 → take 13 rs ≡ spelled rs 0 13
first_thirteen rs l = ap (λ (xs : List ℕ). take 13 xs) (whole rs 16 l)

-- a state spread out is the state
abbrev pub sixteen : List ℕ → ℕ → List ℕ
sixteen l sp = spelled l 0 13 ++ (sp ∷ 0 ∷ 0 ∷ [])

pub spread_out :
    (st : State) (sp : ℕ) → length st.regs ≡ 13 → sp ≡ sp_of st
    → hot st (sixteen st.regs sp) st.pc st.flags.v st.flags.c st.flags.s st.flags.z ≡ st
spread_out st sp l x = rw (x, ssp_same, usp_same) (λ i. with_regs st (sym (whole st.regs 13 l) i))

sp_in_lem : (p : Bool) (a b x : ℕ) → sp_in p (ssp_with p a x) (usp_with p b x) ≡ x
unfolding sp_in ssp_with usp_with
sp_in_lem true a b x = refl
sp_in_lem false a b x = refl

ssp_twice : (p : Bool) (a x y : ℕ) → ssp_with p (ssp_with p a x) y ≡ ssp_with p a y
unfolding ssp_with
ssp_twice true a x y = refl
ssp_twice false a x y = refl

usp_twice : (p : Bool) (a x y : ℕ) → usp_with p (usp_with p a x) y ≡ usp_with p a y
unfolding usp_with
usp_twice true a x y = refl
usp_twice false a x y = refl

module _ (b : State) (rs : List ℕ) (pc : ℕ) (v c s z : Bool) where
  pub sp_hot : sp_of (hot b rs pc v c s z) ≡ get_or rs 13 0
  sp_hot = sp_in_lem b.flags.p b.ssp b.usp (get_or rs 13 0)

  module _ (next : ℕ) where
    reg_by : (n : ℕ) → n < 14 → (t : Bool) → ltb n 13 ≡ t → reg_of (hot b rs pc v c s z) next n ≡ get_or rs n 0
    unfolding reg_in
    reg_by n h true e = let l : n < 13 = ltb-true n 13 e in rw (e, get_or-take)
    reg_by n h false e = let q : n ≡ 13 = omega (arith, ltb-false n 13 e) in rw q sp_hot

    pub reg_hot : (n : ℕ) → n < 14 → reg_of (hot b rs pc v c s z) next n ≡ get_or rs n 0
    reg_hot n h = reg_by n h _ refl

    pub rx_hot : (n x : ℕ) → RxRead rs next n x → x ≡ reg_of (hot b rs pc v c s z) next n
    unfolding reg_in
    rx_hot n x (listed r) = r.value ∙ sym (reg_hot n r.low)
    rx_hot n x (following e q) = rw e q

  module _ (size : length rs ≡ 16) where
    with_by : (n x : ℕ) → n < 14 → (t : Bool) → ltb n 13 ≡ t → with_reg (hot b rs pc v c s z) n x ≡ hot b (set rs n x) pc v c s z
    unfolding regs_after ssp_after usp_after
    with_by n x h true e =
        let low : n < 13 = ltb-true n 13 e in
        rw (e, ne_eqb n 13 (λ q. omega arith), take-set-lt 13 rs n x low, get_or-set_other rs n 13 x 0 (λ q. omega arith))
    with_by n x h false e =
        let q : n ≡ 13 = omega (arith, ltb-false n 13 e) in
        rw q (rw (take-set-le 13 rs 13 x (omega arith), get_or-set_same rs 13 x 0 (omega arith), ssp_twice, usp_twice))

    pub with_hot : (n x : ℕ) → n < 14 → with_reg (hot b rs pc v c s z) n x ≡ hot b (set rs n x) pc v c s z
    with_hot n x h = with_by n x h _ refl

    pub sp_with_hot : (x : ℕ) → with_sp (hot b rs pc v c s z) x ≡ hot b (set rs 13 x) pc v c s z
    sp_with_hot x = rw (take-set-le 13 rs 13 x (omega arith), get_or-set_same rs 13 x 0 (omega arith), ssp_twice, usp_twice)
