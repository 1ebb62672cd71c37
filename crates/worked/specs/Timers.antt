-- Rows about the timers: document 02, 2/14, "The two timers". A step takes no time, so a started timer's count stays.
-- Assumes nothing.
use Rattle.std.specs.Prelude.{List, [], ◌∷◌}
use Rattle.machine.specs.declared.Event.TheVariants.{Entered, Executed}
use Rattle.worked.specs.Fields.{CONTROL0, CONTROL1, COUNT0, COUNT1, FIRED0, FIRED1, PERIOD0, PERIOD1}
use Rattle.worked.specs.Fields.{FLAG, G0, G1, PC, SSP, Setting, ◌≔◌}
use Rattle.worked.specs.Rows.{Row, kernel, row, user}

-- both timers started, and fired; Timer1 interrupts
abbrev timed : List Setting → List Setting
timed xs =
    COUNT0 ≔ 0x123 ∷ PERIOD0 ≔ 0x456 ∷ CONTROL0 ≔ 1 ∷ FIRED0 ≔ 1 ∷ COUNT1 ≔ 0x78 ∷ PERIOD1 ≔ 0x9a ∷ CONTROL1 ≔ 0x8001 ∷ FIRED1 ≔ 1 ∷ xs

unfoldable pub timers : List Row
timers =
    -- "Ports 00h and 04h read the count", and leave fired: IN G0,00h, and IN G0,[G1] from 04h
    row (timed kernel) (0x10 ≔ 0xb000 ∷ 0x12 ≔ 0x00 ∷ []) (G0 ≔ 0x123 ∷ PC ≔ 0x14 ∷ []) [] (Executed 7)
    ∷ row (G1 ≔ 0x04 ∷ timed kernel) (0x10 ≔ 0xb601 ∷ []) (G0 ≔ 0x78 ∷ PC ≔ 0x12 ∷ []) [] (Executed 6)
    -- "and set the period, which zeroes the count", and keeps fired: OUT G0,00h, and OUT G0,04h of 0
    ∷ row (G0 ≔ 0xffff ∷ timed kernel) (0x10 ≔ 0xb800 ∷ 0x12 ≔ 0x00 ∷ []) (PC ≔ 0x14 ∷ COUNT0 ≔ 0 ∷ PERIOD0 ≔ 0xffff ∷ []) [] (Executed 6)
    ∷ row (timed kernel) (0x10 ≔ 0xb800 ∷ 0x12 ≔ 0x04 ∷ []) (PC ≔ 0x14 ∷ COUNT1 ≔ 0 ∷ PERIOD1 ≔ 0 ∷ []) [] (Executed 6)
    -- "02h and 06h read fired in bit 15, clearing it", the other timer's staying: IN G0,02h, and IN G0,06h, which gives 0 where fired is clear
    ∷ row (timed kernel) (0x10 ≔ 0xb000 ∷ 0x12 ≔ 0x02 ∷ []) (G0 ≔ 0x8000 ∷ PC ≔ 0x14 ∷ FIRED0 ≔ 0 ∷ []) [] (Executed 7)
    ∷ row (timed kernel) (0x10 ≔ 0xb000 ∷ 0x12 ≔ 0x06 ∷ []) (G0 ≔ 0x8000 ∷ PC ≔ 0x14 ∷ FIRED1 ≔ 0 ∷ []) [] (Executed 7)
    ∷ row (G0 ≔ 0xffff ∷ FIRED1 ≔ 0 ∷ timed kernel) (0x10 ≔ 0xb000 ∷ 0x12 ≔ 0x06 ∷ []) (G0 ≔ 0 ∷ PC ≔ 0x14 ∷ []) [] (Executed 7)
    -- "and set control (bit 15 interrupt, bit 0 start, others stored as 0)", the count staying: OUT G0,02h, and OUT G0,06h of 7FFEh
    ∷ row (G0 ≔ 0xffff ∷ timed kernel) (0x10 ≔ 0xb800 ∷ 0x12 ≔ 0x02 ∷ []) (PC ≔ 0x14 ∷ CONTROL0 ≔ 0x8001 ∷ []) [] (Executed 6)
    ∷ row (G0 ≔ 0x7ffe ∷ timed kernel) (0x10 ≔ 0xb800 ∷ 0x12 ≔ 0x06 ∷ []) (PC ≔ 0x14 ∷ CONTROL1 ≔ 0 ∷ []) [] (Executed 6)
    -- "Any other port, odd ones included, reads 0": IN G0,01h
    ∷ row (G0 ≔ 0xffff ∷ timed kernel) (0x10 ≔ 0xb000 ∷ 0x12 ≔ 0x01 ∷ []) (G0 ≔ 0 ∷ PC ≔ 0x14 ∷ []) [] (Executed 7)
    -- "IN and OUT need P=1 or I=1 (H)": IN G0,02h in user mode leaves the timers
    ∷ row (timed user) (0x10 ≔ 0xb000 ∷ 0x12 ≔ 0x02 ∷ [])
    (SSP ≔ 0xfc ∷ PC ≔ 0x20d0 ∷ FLAG ≔ 0x4f ∷ []) (0xfe ≔ 0x10 ∷ 0xfc ≔ 0x0f ∷ []) (Entered 13 0x10 0x0f)
    ∷ []
