-- How a row writes the fields of a state and the words of memory.
-- Assumes nothing.
use Rattle.std.specs.Prelude.{cond, List, [], ◌∷◌, suc, zero, ℕ, ◌+◌, eqb}

infix 70 ◌≔◌
-- `FLAG ≔ 0x4f`: the field FLAG of the state is 004Fh. `0x10 ≔ 0x1d01`: the word of memory at 0010h is 1D01h.
pub data Setting : Type 0 where
  ◌≔◌ : ℕ → ℕ → Setting

-- the fields that rows name, by their places in the state image
abbrev pub G0 : ℕ
G0 = 0

abbrev pub G1 : ℕ
G1 = 1

abbrev pub FP : ℕ
FP = 12

abbrev pub SSP : ℕ
SSP = 13

abbrev pub USP : ℕ
USP = 14

abbrev pub PC : ℕ
PC = 15

abbrev pub FLAG : ℕ
FLAG = 16

abbrev pub PENDING : ℕ
PENDING = 17

abbrev pub INPUT : ℕ
INPUT = 18

abbrev pub OUTPUT : ℕ
OUTPUT = 19

abbrev pub MMU : ℕ
MMU = 20

abbrev pub CONDITION : ℕ
CONDITION = 21

abbrev pub VIOLATION : ℕ
VIOLATION = 22

abbrev pub CAUSE : ℕ
CAUSE = 23

abbrev pub MISSED : ℕ
MISSED = 24

-- TLB entries 0 and 1
abbrev pub ENTRY : ℕ
ENTRY = 25

abbrev pub ENTRY1 : ℕ
ENTRY1 = 26

-- the words of Timer0 and of Timer1
abbrev pub COUNT0 : ℕ
COUNT0 = 33

abbrev pub PERIOD0 : ℕ
PERIOD0 = 34

abbrev pub CONTROL0 : ℕ
CONTROL0 = 35

abbrev pub FIRED0 : ℕ
FIRED0 = 36

abbrev pub COUNT1 : ℕ
COUNT1 = 37

abbrev pub PERIOD1 : ℕ
PERIOD1 = 38

abbrev pub CONTROL1 : ℕ
CONTROL1 = 39

abbrev pub FIRED1 : ℕ
FIRED1 = 40

-- the first value that is set for a field, or 0
unfoldable pub value_of : List Setting → ℕ → ℕ
value_of [] n = 0
value_of (k ≔ v ∷ xs) n = cond (eqb k n) v (value_of xs n)

-- the values of `n` fields from `k` on
unfoldable pub values_of : List Setting → ℕ → ℕ → List ℕ
values_of xs k zero = []
values_of xs k (suc n) = value_of xs k ∷ values_of xs (k + 1) n
