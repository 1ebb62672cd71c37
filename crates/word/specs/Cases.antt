-- What a test chooses, and the parts of a conjunction.
-- Assumes nothing.
use Rattle.std.specs.Prelude.{◌≡◌, Bool, true, false, cond, ◌&&◌, refl}

-- a statement about what a test chooses holds if it holds of both, each where the test says so
pub either : {A : Type 0} (P : A → Type 0) (b : Bool) {x y : A} → (b ≡ true → P x) → (b ≡ false → P y) → P (cond b x y)
either P true f g = f refl
either P false f g = g refl

pub both : (a b : Bool) → a ≡ true → b ≡ true → (a && b) ≡ true
both a b p q = rw (p, q)

pub this : (a b : Bool) → (a && b) ≡ true → a ≡ true
this true b h = refl
this false b h = h

pub rest : (a b : Bool) → (a && b) ≡ true → b ≡ true
rest true b h = h
rest false true h = refl
rest false false h = h
