-- The mode of an operand: "0 direct [Dsp], 1 indexed [Dsp+Rx], 2 immediate, 3 [FP + 2 × D4], 4 register, 5 four-bit immediate, 6 [Rx], 7 byte at
-- [Rx]". A single byte has the one mode `no_operand`.
-- Assumes nothing.
use Rattle.std.specs.Prelude.{true, refl, ◌≡◌, min, ℕ, ◌≤◌, eqb}
use Rattle.std.proofs.Common.{ap, sym, ◌∙◌, arith, eqb-true}
use Rattle.std.proofs.Math.Nat.{min-eq_right}
use Rattle.std.proofs.lemmas.Bool.{eqb-false}
use Rattle.word.specs.Cases.{either}
use Rattle.decode.specs.Decode.{operand_of}
use Rattle.decode.specs.Instructions.{no_operand}
use Rattle.decode.specs.declared.Operand.{Operand}
use Rattle.decode.specs.declared.Operand.TheVariants.{ByteIndirect, Direct, Frame, Immediate, Indexed, Indirect, Nothing, Register, Short}

abbrev pub mode_number : Operand → ℕ
mode_number (Direct address) = 0
mode_number (Indexed address rx) = 1
mode_number (Immediate value) = 2
mode_number (Frame offset) = 3
mode_number (Register rx) = 4
mode_number (Short value) = 5
mode_number (Indirect rx) = 6
mode_number (ByteIndirect rx) = 7
mode_number Nothing = no_operand

-- the operand in a mode has that mode's number; there is none past the eight modes
pub mode_number_lem : (mode rx second : ℕ) → mode_number (operand_of mode rx second) ≡ min mode no_operand
unfolding operand_of
mode_number_lem mode rx second =
    either Is (eqb mode 0) (at 0 refl) (λ n0.
    either Is (eqb mode 1) (at 1 refl) (λ n1.
    either Is (eqb mode 2) (at 2 refl) (λ n2.
    either Is (eqb mode 3) (at 3 refl) (λ n3.
    either Is (eqb mode 4) (at 4 refl) (λ n4.
    either Is (eqb mode 5) (at 5 refl) (λ n5.
    either Is (eqb mode 6) (at 6 refl) (λ n6.
    either Is (eqb mode 7) (at 7 refl) (λ n7.
    let past0 : 1 ≤ mode = omega (arith, eqb-false mode 0 n0) in
    let past1 : 2 ≤ mode = omega (arith, eqb-false mode 1 n1) in
    let past2 : 3 ≤ mode = omega (arith, eqb-false mode 2 n2) in
    let past3 : 4 ≤ mode = omega (arith, eqb-false mode 3 n3) in
    let past4 : 5 ≤ mode = omega (arith, eqb-false mode 4 n4) in
    let past5 : 6 ≤ mode = omega (arith, eqb-false mode 5 n5) in
    let past6 : 7 ≤ mode = omega (arith, eqb-false mode 6 n6) in
    let past7 : 8 ≤ mode = omega (arith, eqb-false mode 7 n7) in
    sym (min-eq_right past7)))))))))
  where
    Is : Operand → Type 0
    Is o = mode_number o ≡ min mode no_operand

    at : (k : ℕ) → k ≡ min k no_operand → eqb mode k ≡ true → k ≡ min mode no_operand
    at k e t = e ∙ ap (λ (n : ℕ). min n no_operand) (sym (eqb-true mode k t))
