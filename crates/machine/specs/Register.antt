-- Registers by their numbers. Document 01: "0-11 G0-G11, 12 FP, 13 SP (SSP if P=1, USP if P=0), 14 USP, 15 PC".
-- Assumes nothing.
use Rattle.std.specs.Prelude.{Bool, cond, List, ℕ, eqb, ltb, get_or, set}
use Rattle.machine.specs.State.{with_regs, with_stack}
use Rattle.machine.specs.declared.State.{State}

-- register 13
unfoldable pub sp_in : Bool → ℕ → ℕ → ℕ
sp_in p ssp usp = cond p ssp usp

abbrev pub sp_of : State → ℕ
sp_of st = sp_in st.flags.p st.ssp st.usp

-- The value of register n, `following` being the address of the following instruction. Document 02, 4/14: "Register 15 as Rs or Rx now gives the
-- address of the following instruction, counting the second word."
unfoldable pub reg_in : Bool → ℕ → ℕ → List ℕ → ℕ → ℕ → ℕ
reg_in p ssp usp regs following n =
    cond (ltb n 13) (get_or regs n 0) (cond (eqb n 13) (sp_in p ssp usp) (cond (eqb n 14) usp following))

abbrev pub reg_of : State → ℕ → ℕ → ℕ
reg_of st following n = reg_in st.flags.p st.ssp st.usp st.regs following n

-- SSP and USP with SP replaced by a value
unfoldable pub ssp_with : Bool → ℕ → ℕ → ℕ
ssp_with p ssp v = cond p v ssp

unfoldable pub usp_with : Bool → ℕ → ℕ → ℕ
usp_with p usp v = cond p usp v

abbrev pub with_sp : State → ℕ → State
with_sp st v = with_stack st (ssp_with st.flags.p st.ssp v) (usp_with st.flags.p st.usp v)

-- G0-G11 and FP, SSP and USP, with register n replaced by a value. No instruction writes number 15: here it stands for USP.
unfoldable pub regs_after : List ℕ → ℕ → ℕ → List ℕ
regs_after regs n v = cond (ltb n 13) (set regs n v) regs

unfoldable pub ssp_after : Bool → ℕ → ℕ → ℕ → ℕ
ssp_after p ssp n v = cond (eqb n 13) (ssp_with p ssp v) ssp

unfoldable pub usp_after : Bool → ℕ → ℕ → ℕ → ℕ
usp_after p usp n v = cond (ltb n 13) usp (cond (eqb n 13) (usp_with p usp v) v)

abbrev pub with_reg : State → ℕ → ℕ → State
with_reg st n v =
    with_regs (with_stack st (ssp_after st.flags.p st.ssp n v) (usp_after st.flags.p st.usp n v)) (regs_after st.regs n v)
