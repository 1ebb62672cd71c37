-- Jump conditions. Document 01, "Instruction words": "Jump conditions by Rd".
-- Assumes nothing.
use Rattle.std.specs.Prelude.{Bool, false, not, true, ◌||◌, List, [], ◌∷◌, ℕ, get_or, Option, None, Some}
use Rattle.std.specs.Bool.{beq}

-- S≠V
abbrev pub less : Bool → Bool → Bool
less v s = not (beq s v)

-- The conditions in the order of their numbers: "0 Z, 1 C, 2 S, 3 V, 4 not(Z or S≠V), 5 S=V, 6 Z or S≠V, 7 S≠V, 8-Bh the opposites of 0-3,
-- Ch not(Z or C), Eh Z or C, Fh always; Dh is undefined".
abbrev pub conditions : Bool → Bool → Bool → Bool → List (Option Bool)
conditions v c s z =
    Some z
    ∷ Some c
    ∷ Some s
    ∷ Some v
    ∷ Some (not (z || less v s))
    ∷ Some (beq s v)
    ∷ Some (z || less v s)
    ∷ Some (less v s)
    ∷ Some (not z)
    ∷ Some (not c)
    ∷ Some (not s)
    ∷ Some (not v)
    ∷ Some (not (z || c))
    ∷ None
    ∷ Some (z || c)
    ∷ Some true
    ∷ []

-- A number past Fh is no condition, and is undefined too.
unfoldable pub condition_of : ℕ → Bool → Bool → Bool → Bool → Option Bool
condition_of code v c s z = get_or (conditions v c s z) code None

abbrev pub is_undefined : Option Bool → Bool
is_undefined None = true
is_undefined (Some b) = false

-- Whether a number is no condition, whatever the flags are.
unfoldable pub condition_undefined : ℕ → Bool
condition_undefined code = is_undefined (condition_of code false false false false)
