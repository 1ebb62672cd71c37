-- Laws of the decoding: what a test says of every row in each of its modes holds of each first byte and of each defined first word. One such
-- test: an instruction for anyone is none that a privilege guards.
-- Assumes nothing.
use Rattle.std.specs.Prelude.{Bool, not, true, ◌&&◌, ◌||◌, refl, ◌≡◌, ℕ, ◌+◌, eqb, Option, None, Some}
use mathlib.Core.List.{List, [], ◌∷◌}
use Rattle.std.proofs.Math.Path.{subst}
use Rattle.std.proofs.Common.{sym}
use Rattle.word.specs.Cases.{either, rest, this}
use Rattle.word.specs.Word.{upper}
use Rattle.decode.specs.Code.{HALT, IN, OUT, RETI}
use Rattle.decode.specs.Decode.{first_in, first_of, rd_bad, rd_field, shape_of}
use Rattle.decode.specs.Instructions.{Row, rows}
use Rattle.decode.specs.Opcode.{Opcode, in_modes, in_rows, known, mode_bits, opcode_of, unknown}
use Rattle.decode.specs.declared.Privilege.{Privilege}
use Rattle.decode.specs.declared.Privilege.TheVariants.{Anyone, Kernel, Ports}
use Rattle.decode.specs.declared.Shape.{Shape}

-- ---- a test of every row in each of its modes

module _ (test : Row → ℕ → Bool) where
  unfoldable pub in_each_mode : Row → List ℕ → Bool
  in_each_mode r [] = true
  in_each_mode r (m ∷ ms) = test r m && in_each_mode r ms

  unfoldable pub in_each_row : List Row → Bool
  in_each_row [] = true
  in_each_row (r ∷ rs) = in_each_mode r r.modes && in_each_row rs

  -- an opcode, and a first word, of which it holds
  abbrev pub OpcodeHas : Opcode → Type 0
  OpcodeHas unknown = Unit {0}
  OpcodeHas (known r m) = test r m ≡ true

  pub record Decoded (w : ℕ) (shape : Shape) : Type 0 where
    pub row : Row
    pub mode : ℕ
    pub has : test row mode ≡ true
    pub is : shape ≡ shape_of row mode w

  abbrev FirstHas : ℕ → Option Shape → Type 0
  FirstHas w None = Unit {0}
  FirstHas w (Some shape) = Decoded w shape

  in_modes_lem : (byte : ℕ) (r : Row) (ms : List ℕ) (other : Opcode) → in_each_mode r ms ≡ true → OpcodeHas other → OpcodeHas (in_modes byte r ms other)
  unfolding in_each_mode in_modes
  in_modes_lem byte r [] other t h = h
  in_modes_lem byte r (m ∷ ms) other t h =
      either OpcodeHas (eqb byte (r.byte + mode_bits m)) (λ _. this (test r m) (in_each_mode r ms) t)
      (λ _. in_modes_lem byte r ms other (rest (test r m) (in_each_mode r ms) t) h)

  in_rows_lem : (byte : ℕ) (rs : List Row) → in_each_row rs ≡ true → OpcodeHas (in_rows byte rs)
  unfolding in_each_row in_rows
  in_rows_lem byte [] t = tt
  in_rows_lem byte (r ∷ rs) t =
      in_modes_lem byte r r.modes (in_rows byte rs) (this (in_each_mode r r.modes) (in_each_row rs) t)
      (in_rows_lem byte rs (rest (in_each_mode r r.modes) (in_each_row rs) t))

  module _ (all : in_each_row rows ≡ true) where
    pub opcode_has : (byte : ℕ) → OpcodeHas (opcode_of byte)
    unfolding opcode_of
    opcode_has byte = in_rows_lem byte rows all

    first_has : (o : Opcode) (w : ℕ) → OpcodeHas o → FirstHas w (first_in o w)
    first_has unknown w h = tt
    first_has (known r m) w h =
        either (FirstHas w) (rd_bad r.rd (rd_field w)) (λ _. tt)
        (λ _. record { row = r; mode = m; has = h; is = refl })

    pub decoded_has : (w : ℕ) (shape : Shape) → Some shape ≡ first_of w → Decoded w shape
    unfolding first_of
    decoded_has w shape e = subst (FirstHas w) (sym e) (first_has (opcode_of (upper w)) w (opcode_has (upper w)))

-- ---- privilege

-- none of IN, OUT, RETI and HALT
abbrev pub plain : ℕ → Bool
plain code = not (eqb code IN || (eqb code OUT || (eqb code RETI || eqb code HALT)))

abbrev pub guarded : Privilege → ℕ → Bool
guarded Anyone code = plain code
guarded Ports code = true
guarded Kernel code = true
