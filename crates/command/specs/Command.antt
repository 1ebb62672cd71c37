-- The commands of a bench card. Document 01, "Bench card and its listing": "Commands of one byte, operands upper byte first: 01 address(2)
-- byte(1); 02 register 0-15 (1; 13 is SSP), value(2); 03 lines(2), input byte(1), lines added to pending; 04 allowance(2), a run; 05 entry
-- 0-7 (1), bits(3); 06 MMU 0/1 (1); 07 FLAG(2). Lines, FLAG and entry bits are bounded as in refusal 3." Document 02, 2/14:
-- "Card command 08 with a two-byte number of milliseconds".
-- Assumes nothing.
use Rattle.std.specs.Prelude.{Bool, cond, ◌&&◌, List, ℕ, ◌+◌, eqb, leb, ltb, length, Err, None, Ok, Option, Result, Some}
use Rattle.layout.specs.Entries.{entry_from}
use Rattle.layout.specs.Valid.{flag_good, pending_good, zeros_good}
use Rattle.refusal.specs.declared.Cause.{Cause}
use Rattle.refusal.specs.declared.Cause.TheVariants.{CommandBeyond, CommandShort, CommandUnknown}
use Rattle.endian.specs.Bytes.{byte_from, word_from}
use Rattle.command.specs.declared.Command.{Command}
use Rattle.command.specs.declared.Command.TheVariants.{Byte, Entry, Flag, Lines, Mmu, Register, Run, Time}
use Rattle.command.specs.declared.Parsed.{Parsed}
use Rattle.refusal.specs.declared.Refusal.{Refusal}

-- the commands' bytes
abbrev pub byte_command : ℕ
byte_command = 1

abbrev pub register_command : ℕ
register_command = 2

abbrev pub lines_command : ℕ
lines_command = 3

abbrev pub run_command : ℕ
run_command = 4

abbrev pub entry_command : ℕ
entry_command = 5

abbrev pub mmu_command : ℕ
mmu_command = 6

abbrev pub flag_command : ℕ
flag_command = 7

abbrev pub time_command : ℕ
time_command = 8

-- how many bytes of operands a command has; 0 for a byte that is no command, since every command has some
unfoldable pub operands_of : ℕ → ℕ
operands_of n =
    cond (eqb n byte_command) 3
    (cond (eqb n register_command) 3
    (cond (eqb n lines_command) 3
    (cond (eqb n run_command) 2
    (cond (eqb n entry_command) 4
    (cond (eqb n mmu_command) 1
    (cond (eqb n flag_command) 2
    (cond (eqb n time_command) 2
    0)))))))

-- the number of a command
abbrev pub command_number : Command → ℕ
command_number (Byte a v) = byte_command
command_number (Register n v) = register_command
command_number (Lines lines v) = lines_command
command_number (Run n) = run_command
command_number (Entry k bits) = entry_command
command_number (Mmu on) = mmu_command
command_number (Flag w) = flag_command
command_number (Time ms) = time_command

-- the operands within their values; `b` holds the command's own byte first
unfoldable pub good_of : ℕ → List ℕ → Bool
good_of n b =
    cond (eqb n register_command) (ltb (byte_from b 1) 16)
    (cond (eqb n lines_command) (pending_good (word_from b 1))
    (cond (eqb n entry_command) (ltb (byte_from b 1) 8 && zeros_good (byte_from b 3))
    (cond (eqb n mmu_command) (ltb (byte_from b 1) 2)
    (cond (eqb n flag_command) (flag_good (word_from b 1))
    Bool.true))))

-- a command with its operands
unfoldable pub command_of : ℕ → List ℕ → Command
command_of n b =
    cond (eqb n byte_command) (Byte (word_from b 1) (byte_from b 3))
    (cond (eqb n register_command) (Register (byte_from b 1) (word_from b 2))
    (cond (eqb n lines_command) (Lines (word_from b 1) (byte_from b 3))
    (cond (eqb n run_command) (Run (word_from b 1))
    (cond (eqb n entry_command) (Entry (byte_from b 1) (entry_from b 2))
    (cond (eqb n mmu_command) (Mmu (eqb (byte_from b 1) 1))
    (cond (eqb n flag_command) (Flag (word_from b 1))
    (Time (word_from b 1))))))))

-- what stands at a position of a card
abbrev pub Standing : Type 0
Standing = Result (Option Parsed) Refusal

-- nothing: the card ends there
abbrev pub ends : Standing
ends = Ok None

-- a command, and the position of the next
abbrev pub reads : Command → ℕ → Standing
reads x next = Ok (Some (record { command = x; next = next }))

-- a bad command, by its cause and its place
abbrev pub refusal : Cause → ℕ → Refusal
refusal cause at = record { cause = cause; place = at }

abbrev pub bad : Cause → ℕ → Standing
bad cause at = Err (refusal cause at)

-- What stands at position `at` of a card, `b` being the card from there on. "first bad command: unknown byte", "its operands cut short",
-- "its operand beyond its values": the causes in this order, each with the position of the command's first byte.
unfoldable pub parsed_of : ℕ → List ℕ → Standing
parsed_of at b =
    cond (eqb (length b) 0) ends
    (cond (eqb (operands_of (byte_from b 0)) 0) (bad CommandUnknown at)
    (cond (leb (length b) (operands_of (byte_from b 0))) (bad CommandShort at)
    (cond (good_of (byte_from b 0) b) (reads (command_of (byte_from b 0) b) (at + (1 + operands_of (byte_from b 0))))
    (bad CommandBeyond at))))
