-- What the functions of this crate say of a card's commands, whatever its tests say, and of a report.
-- Assumes nothing.
use Rattle.std.specs.Prelude.{List, ◌++◌, ℕ, ◌*◌, ◌+◌, drop, take}
use Rattle.command.specs.Card.{read_from, runs_in}
use Rattle.command.specs.declared.Command.{Command}
use Rattle.command.specs.declared.commands.Commands.{Commands}
use Rattle.image.specs.Decode.{state_from}
use Rattle.machine.specs.declared.State.{State}
use Rattle.report.specs.Layout.{report_size}
use Rattle.card.specs.Effect.{Effect, execute_of}

-- the commands that are left, to the card's end or to the first bad one
abbrev pub commands_of : Commands → List Command
commands_of s = (read_from s.card.now s.at).commands

-- what they do
abbrev pub card_effect : Commands → State → List ℕ → Effect
card_effect s st m = execute_of (commands_of s) st m

-- the same from an image
abbrev pub image_effect : Commands → List ℕ → List ℕ → Effect
image_effect s b m = card_effect s (state_from b) m

-- the report bytes that they fill
abbrev pub filled_of : Commands → ℕ
filled_of s = report_size * runs_in (commands_of s)

-- a report with other bytes in the place of n from `at` on
abbrev pub replaced : List ℕ → ℕ → ℕ → List ℕ → List ℕ
replaced rep at n bytes = take at rep ++ (bytes ++ drop (at + n) rep)
