-- The number of a kind of command.
-- Assumes nothing.
use Rattle.std.specs.Prelude.{ℕ}
use Rattle.command.specs.Command.{byte_command, entry_command, flag_command, lines_command, mmu_command, register_command, run_command, time_command}
use Rattle.command.specs.declared.kind.Kind.{Kind}
use Rattle.command.specs.declared.kind.Kind.TheVariants as kind

abbrev pub kind_number : Kind → ℕ
kind_number kind.Byte = byte_command
kind_number kind.Register = register_command
kind_number kind.Lines = lines_command
kind_number kind.Run = run_command
kind_number kind.Entry = entry_command
kind_number kind.Mmu = mmu_command
kind_number kind.Flag = flag_command
kind_number kind.Time = time_command
