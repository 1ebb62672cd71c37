-- The word FLAG. Document 01, "Registers and state image": "FLAG is 0000 0000 EPI0 VCSZ".
-- Assumes nothing.
use Rattle.std.specs.Prelude.{Bool, false, true, ◌||◌, ℕ, ◌*◌, ◌+◌, Option, None, Some}
use mir.Val.{bool_byte}
use Rattle.decode.specs.declared.Privilege.{Privilege}
use Rattle.decode.specs.declared.Privilege.TheVariants.{Anyone, Kernel, Ports}
use Rattle.jump.specs.Jump.{condition_of}
use Rattle.word.specs.Word.{is_set}
use Rattle.status.specs.declared.Flags.{Flags}

-- `bool_byte` is 1 of a flag that is set, and 0 of one that is not
unfoldable pub flag_word : Bool → Bool → Bool → Bool → Bool → Bool → Bool → ℕ
flag_word e p i v c s z =
    128 * bool_byte e + 64 * bool_byte p + 32 * bool_byte i + 8 * bool_byte v + 4 * bool_byte c + 2 * bool_byte s + bool_byte z

-- flags as a word
abbrev pub word_of : Flags → ℕ
word_of f = flag_word f.e f.p f.i f.v f.c f.s f.z

-- flags from a word: "only the bits EPI and VCSZ are kept"
abbrev pub flags_from : ℕ → Flags
flags_from w =
    record { e = is_set 7 w; p = is_set 6 w; i = is_set 5 w; v = is_set 3 w; c = is_set 2 w; s = is_set 1 w; z = is_set 0 w }

-- V, C, S and Z replaced
abbrev pub flags_with : Flags → Bool → Bool → Bool → Bool → Flags
flags_with f v c s z = record { e = f.e; p = f.p; i = f.i; v = v; c = c; s = s; z = z }

-- an entry "sets E=0 and P=1"
abbrev pub kernel_flags : Flags → Flags
kernel_flags f = record { e = false; p = true; i = f.i; v = f.v; c = f.c; s = f.s; z = f.z }

-- "RETI and HALT need P=1; IN and OUT need P=1 or I=1 (H)."
abbrev pub permitted_in : Privilege → Bool → Bool → Bool
permitted_in Anyone p i = true
permitted_in Ports p i = p || i
permitted_in Kernel p i = p

-- a condition that is undefined does not hold
abbrev pub holds : Option Bool → Bool
holds (Some b) = b
holds None = false

-- a jump is taken, by the condition of this number
abbrev pub taken_on : ℕ → Bool → Bool → Bool → Bool → Bool
taken_on n v c s z = holds (condition_of n v c s z)
