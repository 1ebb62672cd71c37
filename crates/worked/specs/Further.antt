-- Further rows: the misreadings that document 01 names, and rules that a wrong machine is likely to break.
-- Assumes nothing.
use Rattle.std.specs.Prelude.{List, [], ◌∷◌}
use Rattle.machine.specs.declared.Event.TheVariants.{Entered, Executed, Halted, Lost}
use Rattle.worked.specs.Fields.{CAUSE, CONDITION, ENTRY, ENTRY1, FLAG, G0, G1, INPUT, MISSED, MMU, OUTPUT, PC, PENDING, SSP, USP, VIOLATION, ◌≔◌}
use Rattle.worked.specs.Rows.{Row, kernel, paged, row, user}

-- "Misreadings met so far"
unfoldable pub misreadings : List Row
misreadings =
    -- "C after a shift taken from the last bit moved out": SHRL G0,2 moves a 1 out last, and C is the old bottom bit
    row (G0 ≔ 0x0002 ∷ FLAG ≔ 0x4e ∷ kernel) (0x10 ≔ 0x9d02 ∷ []) (G0 ≔ 0 ∷ FLAG ≔ 0x41 ∷ PC ≔ 0x12 ∷ []) [] (Executed 7)
    -- the same to the left: SHLL G0,2, and C is the old top bit
    ∷ row (G0 ≔ 0x4000 ∷ FLAG ≔ 0x4e ∷ kernel) (0x10 ≔ 0x8d02 ∷ []) (G0 ≔ 0 ∷ FLAG ≔ 0x41 ∷ PC ≔ 0x12 ∷ []) [] (Executed 7)
    -- "the TLB searched before the odd address is tested": LD G0,[G1] at 4001h, whose page has no entry
    ∷ row (G1 ≔ 0x4001 ∷ MISSED ≔ 0x77 ∷ paged) (0x3400 ≔ 0x0e01 ∷ [])
    (SSP ≔ 0xfc ∷ PC ≔ 0x20b0 ∷ FLAG ≔ 0x4f ∷ VIOLATION ≔ 0x4001 ∷ CAUSE ≔ 2 ∷ ENTRY ≔ 0x129534 ∷ []) (0xfe ≔ 0x1200 ∷ 0xfc ≔ 0x0f ∷ []) (Entered 11 0x1200 0x0f)
    -- "the saved FLAG showing P=1 after a user fault": HALT in user mode
    ∷ row user (0x10 ≔ 0xff00 ∷ [])
    (SSP ≔ 0xfc ∷ PC ≔ 0x20d0 ∷ FLAG ≔ 0x4f ∷ []) (0xfe ≔ 0x10 ∷ 0xfc ≔ 0x0f ∷ []) (Entered 13 0x10 0x0f)
    -- "A4h kept after IN": IN G0,A4h
    ∷ row (CAUSE ≔ 3 ∷ kernel) (0x10 ≔ 0xb000 ∷ 0x12 ≔ 0x00a4 ∷ []) (G0 ≔ 3 ∷ PC ≔ 0x14 ∷ CAUSE ≔ 0 ∷ []) [] (Executed 7)
    ∷ []

-- "Results and flags"
unfoldable pub results : List Row
results =
    -- "CMP keeps Rd": CMP G0,G1
    row (G0 ≔ 1 ∷ G1 ≔ 2 ∷ FLAG ≔ 0x49 ∷ kernel) (0x10 ≔ 0x2c01 ∷ []) (FLAG ≔ 0x46 ∷ PC ≔ 0x12 ∷ []) [] (Executed 5)
    -- "AND, OR, XOR, MUL, DIV, MOD: V=C=0, unsigned": AND, OR, XOR and MOD G0,G1
    ∷ row (G0 ≔ 0xf0f0 ∷ G1 ≔ 0x8ff0 ∷ FLAG ≔ 0x4d ∷ kernel) (0x10 ≔ 0x3401 ∷ []) (G0 ≔ 0x80f0 ∷ FLAG ≔ 0x42 ∷ PC ≔ 0x12 ∷ []) [] (Executed 5)
    ∷ row (G0 ≔ 0xf0f0 ∷ G1 ≔ 0x0ff0 ∷ FLAG ≔ 0x4d ∷ kernel) (0x10 ≔ 0x3c01 ∷ []) (G0 ≔ 0xfff0 ∷ FLAG ≔ 0x42 ∷ PC ≔ 0x12 ∷ []) [] (Executed 5)
    ∷ row (G0 ≔ 0x1234 ∷ G1 ≔ 0x1234 ∷ FLAG ≔ 0x4e ∷ kernel) (0x10 ≔ 0x4401 ∷ []) (G0 ≔ 0 ∷ FLAG ≔ 0x41 ∷ PC ≔ 0x12 ∷ []) [] (Executed 5)
    ∷ row (G0 ≔ 0xffff ∷ G1 ≔ 0x0010 ∷ kernel) (0x10 ≔ 0x6401 ∷ []) (G0 ≔ 0x000f ∷ FLAG ≔ 0x40 ∷ PC ≔ 0x12 ∷ []) [] (Executed 71)
    -- "Shifts go by the source's lower four bits", "8,8,6,8,6,5,7,7 plus n": SHLA G0,G1 by 13h
    ∷ row (G0 ≔ 1 ∷ G1 ≔ 0x13 ∷ kernel) (0x10 ≔ 0x8401 ∷ []) (G0 ≔ 8 ∷ FLAG ≔ 0x40 ∷ PC ≔ 0x12 ∷ []) [] (Executed 9)
    -- "Jump 5 taken, 4 not": jumps on Z, and on not Z
    ∷ row kernel (0x10 ≔ 0xa000 ∷ 0x12 ≔ 0x1234 ∷ []) (PC ≔ 0x1234 ∷ []) [] (Executed 5)
    ∷ row kernel (0x10 ≔ 0xa080 ∷ 0x12 ≔ 0x1234 ∷ []) (PC ≔ 0x14 ∷ []) [] (Executed 4)
    -- "A byte read is extended by zeros": LD G0, the byte at [G1]
    ∷ row (G0 ≔ 0xffff ∷ G1 ≔ 0x201 ∷ kernel) (0x10 ≔ 0x0f01 ∷ 0x200 ≔ 0xabcd ∷ []) (G0 ≔ 0x00cd ∷ PC ≔ 0x12 ∷ []) [] (Executed 6)
    -- "a byte store writes the lower half": ST G0, the byte at [G1]
    ∷ row (G0 ≔ 0x1234 ∷ G1 ≔ 0x200 ∷ kernel) (0x10 ≔ 0x1701 ∷ 0x200 ≔ 0xabcd ∷ []) (PC ≔ 0x12 ∷ []) (0x200 ≔ 0x34cd ∷ []) (Executed 5)
    -- "PUSH SP stores the old SP", and "lower SP by 2"
    ∷ row kernel (0x10 ≔ 0xc0d0 ∷ []) (SSP ≔ 0xfe ∷ PC ≔ 0x12 ∷ []) (0xfe ≔ 0x100 ∷ []) (Executed 5)
    -- "POP SP ends with the popped value"
    ∷ row kernel (0x10 ≔ 0xc4d0 ∷ 0x100 ≔ 0x1234 ∷ []) (SSP ≔ 0x1234 ∷ PC ≔ 0x12 ∷ []) [] (Executed 6)
    -- "so does number 14 if P=0 (H)", and PUSH USP stores the old USP
    ∷ row user (0x10 ≔ 0xc4e0 ∷ 0x200 ≔ 0x1234 ∷ []) (USP ≔ 0x1234 ∷ PC ≔ 0x12 ∷ []) [] (Executed 6)
    ∷ row user (0x10 ≔ 0xc0e0 ∷ []) (USP ≔ 0x1fe ∷ PC ≔ 0x12 ∷ []) (0x1fe ≔ 0x200 ∷ []) (Executed 5)
    -- "CALL pushes the following instruction's address", and RET
    ∷ row kernel (0x10 ≔ 0xa800 ∷ 0x12 ≔ 0x1234 ∷ []) (SSP ≔ 0xfe ∷ PC ≔ 0x1234 ∷ []) (0xfe ≔ 0x14 ∷ []) (Executed 6)
    ∷ row kernel (0x10 ≔ 0xd000 ∷ 0x100 ≔ 0x1234 ∷ []) (SSP ≔ 0x102 ∷ PC ≔ 0x1234 ∷ []) [] (Executed 6)
    -- "RETI takes FLAG, then PC, both from SSP, which rises by 4; only the bits EPI and VCSZ are kept"
    ∷ row kernel (0x10 ≔ 0xd400 ∷ 0x100 ≔ 0xffb5 ∷ 0x102 ≔ 0x1234 ∷ []) (SSP ≔ 0x104 ∷ PC ≔ 0x1234 ∷ FLAG ≔ 0xa5 ∷ []) [] (Executed 9)
    -- "HALT sets condition 1, PC going to the following instruction"
    ∷ row kernel (0x10 ≔ 0xff00 ∷ []) (PC ≔ 0x12 ∷ CONDITION ≔ 1 ∷ []) [] Halted
    -- "One-word instruction at FFFEh: next PC 0000h": LD G0,7
    ∷ row (PC ≔ 0xfffe ∷ kernel) (0xfffe ≔ 0x0d07 ∷ []) (G0 ≔ 7 ∷ PC ≔ 0 ∷ []) [] (Executed 4)
    -- an instruction of two words there has its second word at 0000h: LD G0,1234h
    ∷ row (PC ≔ 0xfffe ∷ kernel) (0xfffe ≔ 0x0a00 ∷ 0 ≔ 0x1234 ∷ []) (G0 ≔ 0x1234 ∷ PC ≔ 2 ∷ []) [] (Executed 5)
    ∷ []

-- "MMU"
unfoldable pub pages : List Row
pages =
    -- "Each granted access sets its R-bit", and a read no D: LD G0,[G1]
    row (G1 ≔ 0x1210 ∷ paged) (0x3400 ≔ 0x0e01 ∷ 0x3410 ≔ 0x1234 ∷ []) (G0 ≔ 0x1234 ∷ PC ≔ 0x1202 ∷ ENTRY ≔ 0x129534 ∷ []) [] (Executed 6)
    -- "each granted write also D": ST G0,[G1], the entry giving the right
    ∷ row (G0 ≔ 0x1234 ∷ G1 ≔ 0x1210 ∷ ENTRY ≔ 0x128734 ∷ paged) (0x3400 ≔ 0x1601 ∷ []) (PC ≔ 0x1202 ∷ ENTRY ≔ 0x129f34 ∷ [])
    (0x3410 ≔ 0x1234 ∷ []) (Executed 5)
    -- "The lowest-numbered valid entry with the page serves (H)", though entry 1 would give the right: the same store
    ∷ row (G1 ≔ 0x1210 ∷ ENTRY1 ≔ 0x128734 ∷ paged) (0x3400 ≔ 0x1601 ∷ [])
    (SSP ≔ 0xfc ∷ PC ≔ 0x20b0 ∷ FLAG ≔ 0x4f ∷ VIOLATION ≔ 0x1210 ∷ CAUSE ≔ 1 ∷ ENTRY ≔ 0x129534 ∷ []) (0xfe ≔ 0x1200 ∷ 0xfc ≔ 0x0f ∷ []) (Entered 11 0x1200 0x0f)
    -- fault 10 "stores the page", and no address or cause: LD G0,[G1] at 4000h
    ∷ row (G1 ≔ 0x4000 ∷ VIOLATION ≔ 0x1111 ∷ CAUSE ≔ 1 ∷ paged) (0x3400 ≔ 0x0e01 ∷ [])
    (SSP ≔ 0xfc ∷ PC ≔ 0x20a0 ∷ FLAG ≔ 0x4f ∷ MISSED ≔ 0x40 ∷ ENTRY ≔ 0x129534 ∷ []) (0xfe ≔ 0x1200 ∷ 0xfc ≔ 0x0f ∷ []) (Entered 10 0x1200 0x0f)
    -- ports: "18h: IN input byte, OUT lower half to output byte"
    ∷ row (G0 ≔ 0xffff ∷ INPUT ≔ 0x5a ∷ kernel) (0x10 ≔ 0xb000 ∷ 0x12 ≔ 0x0018 ∷ []) (G0 ≔ 0x5a ∷ PC ≔ 0x14 ∷ []) [] (Executed 7)
    ∷ row (G0 ≔ 0x1234 ∷ kernel) (0x10 ≔ 0xb800 ∷ 0x12 ≔ 0x0018 ∷ []) (PC ≔ 0x14 ∷ OUTPUT ≔ 0x34 ∷ []) [] (Executed 6)
    -- "bit 0 of OUT switches the MMU"
    ∷ row (G0 ≔ 0x1235 ∷ kernel) (0x10 ≔ 0xb800 ∷ 0x12 ≔ 0x00a2 ∷ []) (PC ≔ 0x14 ∷ MMU ≔ 1 ∷ []) [] (Executed 6)
    -- "82h + 4 × k its lower 16 bits (bits 14, 13 stored as 0)"
    ∷ row (G0 ≔ 0xffff ∷ ENTRY ≔ 0x120000 ∷ kernel) (0x10 ≔ 0xb800 ∷ 0x12 ≔ 0x0082 ∷ []) (PC ≔ 0x14 ∷ ENTRY ≔ 0x129fff ∷ []) [] (Executed 6)
    -- "Any other port ... reads 0": 0118h
    ∷ row (G0 ≔ 0xffff ∷ INPUT ≔ 0x5a ∷ kernel) (0x10 ≔ 0xb000 ∷ 0x12 ≔ 0x0118 ∷ []) (G0 ≔ 0 ∷ PC ≔ 0x14 ∷ []) [] (Executed 7)
    -- with I=1, IN G0,[G1] from 82h shows the R-bit of its own fetch
    ∷ row (G1 ≔ 0x82 ∷ FLAG ≔ 0x2f ∷ paged) (0x3400 ≔ 0xb601 ∷ []) (G0 ≔ 0x9534 ∷ PC ≔ 0x1202 ∷ ENTRY ≔ 0x129534 ∷ []) [] (Executed 6)
    -- and OUT G0,[G1] to it leaves the bits that it wrote
    ∷ row (G0 ≔ 0x8534 ∷ G1 ≔ 0x82 ∷ FLAG ≔ 0x2f ∷ paged) (0x3400 ≔ 0xbe01 ∷ []) (PC ≔ 0x1202 ∷ []) [] (Executed 5)
    ∷ []

-- "Faults in order"
unfoldable pub entries : List Row
entries =
    -- "if E=1 and a line is pending, the lowest is cleared and entered": lines 3 and 5
    row (FLAG ≔ 0xcf ∷ PENDING ≔ 0x28 ∷ kernel) (0x10 ≔ 0xff00 ∷ [])
    (SSP ≔ 0xfc ∷ PC ≔ 0x2030 ∷ FLAG ≔ 0x4f ∷ PENDING ≔ 0x20 ∷ []) (0xfe ≔ 0x10 ∷ 0xfc ≔ 0xcf ∷ []) (Entered 3 0x10 0xcf)
    -- with E=0 the instruction is carried out: NO
    ∷ row (PENDING ≔ 0x28 ∷ kernel) [] (PC ≔ 0x12 ∷ []) [] (Executed 3)
    -- "The saved PC is ... the following one for SVC"
    ∷ row user (0x10 ≔ 0xf000 ∷ [])
    (SSP ≔ 0xfc ∷ PC ≔ 0x20f0 ∷ FLAG ≔ 0x4f ∷ []) (0xfe ≔ 0x12 ∷ 0xfc ≔ 0x0f ∷ []) (Entered 15 0x12 0x0f)
    -- the vector is read after the pushes: a stack over the vectors gives the pushed PC
    ∷ row (SSP ≔ 0 ∷ kernel) (0x10 ≔ 0xf000 ∷ [])
    (SSP ≔ 0xfffc ∷ PC ≔ 0x12 ∷ []) (0xfffe ≔ 0x12 ∷ 0xfffc ≔ 0x4f ∷ []) (Entered 15 0x12 0x4f)
    -- "undefined (14), privilege (13)" in this order: IN in user mode, with 15 as Rd
    ∷ row user (0x10 ≔ 0xb0f0 ∷ [])
    (SSP ≔ 0xfc ∷ PC ≔ 0x20e0 ∷ FLAG ≔ 0x4f ∷ []) (0xfe ≔ 0x10 ∷ 0xfc ≔ 0x0f ∷ []) (Entered 14 0x10 0x0f)
    -- "zero divisor (12)": DIV G0,G1
    ∷ row (G0 ≔ 7 ∷ kernel) (0x10 ≔ 0x5c01 ∷ [])
    (SSP ≔ 0xfc ∷ PC ≔ 0x20c0 ∷ []) (0xfe ≔ 0x10 ∷ 0xfc ≔ 0x4f ∷ []) (Entered 12 0x10 0x4f)
    -- "If SSP is odd the machine is lost instead: one step, 0 states; the condition changes": SVC
    ∷ row (SSP ≔ 0x101 ∷ kernel) (0x10 ≔ 0xf000 ∷ []) (CONDITION ≔ 2 ∷ []) [] Lost
    -- "with what the faulting instruction's own accesses did", the cause bit being added: PUSH
    ∷ row (SSP ≔ 0x101 ∷ CAUSE ≔ 1 ∷ kernel) (0x10 ≔ 0xc000 ∷ []) (CONDITION ≔ 2 ∷ VIOLATION ≔ 0xff ∷ CAUSE ≔ 3 ∷ []) [] Lost
    -- "An interrupt's line stays pending (H)"
    ∷ row (SSP ≔ 0x101 ∷ FLAG ≔ 0xcf ∷ PENDING ≔ 0x28 ∷ kernel) [] (CONDITION ≔ 2 ∷ []) [] Lost
    ∷ []
