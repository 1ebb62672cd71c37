-- In user mode without I/O privilege only a plain instruction, one that needs no privilege, is let through.
-- Assumes nothing.
use Rattle.std.specs.Prelude.{false, true, Some, ◌≡◌, ℕ}
use Rattle.std.proofs.lemmas.Bool.{false≢true}
use Rattle.decode.specs.Decode.{first_of}
use Rattle.decode.specs.Laws.{guarded, plain}
use Rattle.decode.proofs.Laws.{shape_guarded}
use Rattle.decode.specs.declared.Privilege.{Privilege}
use Rattle.decode.specs.declared.Privilege.TheVariants.{Anyone, Kernel, Ports}
use Rattle.decode.specs.declared.Shape.{Shape}
use Rattle.machine.specs.Plan.{permitted}
use Rattle.status.specs.Flag.{permitted_in}
use Rattle.machine.specs.declared.State.{State}

allowed : (x : Privilege) (code : ℕ) → permitted_in x false false ≡ true → guarded x code ≡ true → plain code ≡ true
allowed Anyone code e g = g
allowed Ports code e g = absurd (false≢true e)
allowed Kernel code e g = absurd (false≢true e)

pub plain_here :
    (st : State) → st.flags.p ≡ false → st.flags.i ≡ false → (w : ℕ) (shape : Shape) → Some shape ≡ first_of w
    → permitted st shape.privilege ≡ true → plain shape.code ≡ true
plain_here st p i w shape d e = allowed shape.privilege shape.code (rw (p, i) at e) (shape_guarded w shape d)
