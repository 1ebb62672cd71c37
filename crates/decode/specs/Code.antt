-- The numbers of the instructions: the first byte's upper five bits, but that LD Rd,FLAG, POP and RETI, which share theirs with ST,
-- PUSH and RET, have numbers that are free.
-- Assumes nothing.
use Rattle.std.specs.Prelude.{ℕ}

abbrev pub NO : ℕ
NO = 0

abbrev pub LD : ℕ
LD = 1

abbrev pub ST : ℕ
ST = 2

abbrev pub ADD : ℕ
ADD = 3

abbrev pub SUB : ℕ
SUB = 4

abbrev pub CMP : ℕ
CMP = 5

abbrev pub AND : ℕ
AND = 6

abbrev pub OR : ℕ
OR = 7

abbrev pub XOR : ℕ
XOR = 8

abbrev pub ADDS : ℕ
ADDS = 9

abbrev pub MUL : ℕ
MUL = 10

abbrev pub DIV : ℕ
DIV = 11

abbrev pub MOD : ℕ
MOD = 12

-- LD Rd,FLAG
abbrev pub LDFLAG : ℕ
LDFLAG = 15

abbrev pub SHLA : ℕ
SHLA = 16

abbrev pub SHLL : ℕ
SHLL = 17

abbrev pub SHRA : ℕ
SHRA = 18

abbrev pub SHRL : ℕ
SHRL = 19

-- a jump, whose condition is in the field Rd
abbrev pub JUMP : ℕ
JUMP = 20

abbrev pub CALL : ℕ
CALL = 21

abbrev pub IN : ℕ
IN = 22

abbrev pub OUT : ℕ
OUT = 23

abbrev pub PUSH : ℕ
PUSH = 24

abbrev pub POP : ℕ
POP = 25

abbrev pub RET : ℕ
RET = 26

abbrev pub RETI : ℕ
RETI = 27

abbrev pub SVC : ℕ
SVC = 30

abbrev pub HALT : ℕ
HALT = 31
