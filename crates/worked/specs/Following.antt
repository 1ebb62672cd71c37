-- Rows about register 15: document 02, 4/14, "Images that read the PC".
-- Assumes nothing.
use Rattle.std.specs.Prelude.{List, [], ◌∷◌, ℕ}
use Rattle.machine.specs.declared.Event.TheVariants.{Entered, Executed}
use Rattle.worked.specs.Fields.{CAUSE, ENTRY, FLAG, G0, INPUT, OUTPUT, PC, SSP, Setting, VIOLATION, ◌≔◌}
use Rattle.worked.specs.Rows.{Row, kernel, paged, row}

-- kernel mode, the instruction being at 0100h
abbrev at0100 : List Setting
at0100 = PC ≔ 0x100 ∷ kernel

-- the word at 0100h is undefined
abbrev undefined : ℕ → Row
undefined w =
    row at0100 (0x100 ≔ w ∷ []) (SSP ≔ 0xfc ∷ PC ≔ 0x20e0 ∷ []) (0xfe ≔ 0x100 ∷ 0xfc ≔ 0x4f ∷ []) (Entered 14 0x100 0x4f)

unfoldable pub following : List Row
following =
    -- "Register 15 as Rs ... now gives the address of the following instruction": LD G0,PC
    row at0100 (0x100 ≔ 0x0c0f ∷ []) (G0 ≔ 0x102 ∷ PC ≔ 0x102 ∷ []) [] (Executed 4)
    -- and of ADD to SHRL: ADD G0,PC
    ∷ row (G0 ≔ 1 ∷ at0100) (0x100 ≔ 0x1c0f ∷ []) (G0 ≔ 0x103 ∷ PC ≔ 0x102 ∷ FLAG ≔ 0x40 ∷ []) [] (Executed 5)
    -- "or Rx", "counting the second word": LD G0,[10h+PC], and ST G0,[10h+PC]
    ∷ row at0100 (0x100 ≔ 0x090f ∷ 0x102 ≔ 0x10 ∷ 0x110 ≔ 0x1111 ∷ 0x112 ≔ 0x2222 ∷ 0x114 ≔ 0x3333 ∷ []) (G0 ≔ 0x3333 ∷ PC ≔ 0x104 ∷ []) [] (Executed 7)
    ∷ row (G0 ≔ 0x1234 ∷ at0100) (0x100 ≔ 0x110f ∷ 0x102 ≔ 0x10 ∷ []) (PC ≔ 0x104 ∷ []) (0x114 ≔ 0x1234 ∷ []) (Executed 6)
    -- Rx of [Rx]: LD G0,[PC], and ST G0,[PC]
    ∷ row at0100 (0x100 ≔ 0x0e0f ∷ 0x102 ≔ 0xabcd ∷ []) (G0 ≔ 0xabcd ∷ PC ≔ 0x102 ∷ []) [] (Executed 6)
    ∷ row (G0 ≔ 0x1234 ∷ at0100) (0x100 ≔ 0x160f ∷ []) (PC ≔ 0x102 ∷ []) (0x102 ≔ 0x1234 ∷ []) (Executed 5)
    -- Rx of the byte at [Rx]: LD G0, and ST G0, the byte at [PC]
    ∷ row at0100 (0x100 ≔ 0x0f0f ∷ 0x102 ≔ 0xabcd ∷ []) (G0 ≔ 0xab ∷ PC ≔ 0x102 ∷ []) [] (Executed 6)
    ∷ row (G0 ≔ 0x1234 ∷ at0100) (0x100 ≔ 0x170f ∷ 0x102 ≔ 0xabcd ∷ []) (PC ≔ 0x102 ∷ []) (0x102 ≔ 0x34cd ∷ []) (Executed 5)
    -- the target of a jump, and of CALL: JMP [10h+PC], CALL [10h+PC]
    ∷ row at0100 (0x100 ≔ 0xa1ff ∷ 0x102 ≔ 0x10 ∷ []) (PC ≔ 0x114 ∷ []) [] (Executed 5)
    ∷ row at0100 (0x100 ≔ 0xa90f ∷ 0x102 ≔ 0x10 ∷ []) (SSP ≔ 0xfe ∷ PC ≔ 0x114 ∷ []) (0xfe ≔ 0x104 ∷ []) (Executed 6)
    -- the port of IN, and of OUT: IN G0,[PC] and OUT G0,[PC] at 0016h, whose port is 18h
    ∷ row (INPUT ≔ 0x5a ∷ PC ≔ 0x16 ∷ kernel) (0x16 ≔ 0xb60f ∷ []) (G0 ≔ 0x5a ∷ PC ≔ 0x18 ∷ []) [] (Executed 6)
    ∷ row (G0 ≔ 0x1234 ∷ PC ≔ 0x16 ∷ kernel) (0x16 ≔ 0xbe0f ∷ []) (PC ≔ 0x18 ∷ OUTPUT ≔ 0x34 ∷ []) [] (Executed 5)
    -- the following address wraps: LD G0,PC at FFFEh; LD G0,[200h+PC] at FFFCh, and at FFFEh with its second word at 0000h
    ∷ row (G0 ≔ 0xffff ∷ PC ≔ 0xfffe ∷ kernel) (0xfffe ≔ 0x0c0f ∷ []) (G0 ≔ 0 ∷ PC ≔ 0 ∷ []) [] (Executed 4)
    ∷ row (PC ≔ 0xfffc ∷ kernel) (0xfffc ≔ 0x090f ∷ 0xfffe ≔ 0x200 ∷ 0x200 ≔ 0x1234 ∷ []) (G0 ≔ 0x1234 ∷ PC ≔ 0 ∷ []) [] (Executed 7)
    ∷ row (PC ≔ 0xfffe ∷ kernel) (0xfffe ≔ 0x090f ∷ 0 ≔ 0x200 ∷ 0x202 ≔ 0x1234 ∷ []) (G0 ≔ 0x1234 ∷ PC ≔ 2 ∷ []) [] (Executed 7)
    -- "As Rd, in PUSH and in POP it remains undefined": ADD PC,G0; LD PC,G0; CMP PC,G0; ST PC,[G0]; LD PC,FLAG; OUT PC,[G0]; PUSH PC; POP PC
    ∷ undefined 0x1cf0
    ∷ undefined 0x0cf0
    ∷ undefined 0x2cf0
    ∷ undefined 0x16f0
    ∷ undefined 0x14f0
    ∷ undefined 0xbef0
    ∷ undefined 0xc0f0
    ∷ undefined 0xc4f0
    -- under the MMU the logical address: LD G0,PC at 1200h, whose word is at 3400h
    ∷ row paged (0x3400 ≔ 0x0c0f ∷ []) (G0 ≔ 0x1202 ∷ PC ≔ 0x1202 ∷ ENTRY ≔ 0x129534 ∷ []) [] (Executed 4)
    -- and the access by it is tested like any: LD G0,[PC] is granted; ST G0,[PC] is not, the entry giving no right to write
    ∷ row paged (0x3400 ≔ 0x0e0f ∷ 0x3402 ≔ 0xabcd ∷ []) (G0 ≔ 0xabcd ∷ PC ≔ 0x1202 ∷ ENTRY ≔ 0x129534 ∷ []) [] (Executed 6)
    ∷ row paged (0x3400 ≔ 0x160f ∷ [])
    (SSP ≔ 0xfc ∷ PC ≔ 0x20b0 ∷ FLAG ≔ 0x4f ∷ VIOLATION ≔ 0x1202 ∷ CAUSE ≔ 1 ∷ ENTRY ≔ 0x129534 ∷ []) (0xfe ≔ 0x1200 ∷ 0xfc ≔ 0x0f ∷ []) (Entered 11 0x1200 0x0f)
    ∷ []
