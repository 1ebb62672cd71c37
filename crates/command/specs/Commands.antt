-- What the commands of a card are, one after the other.
-- Assumes nothing.
use Rattle.std.specs.Prelude.{◌≡◌, ◌-◌, [], length, Err, None, Ok, Option, Result, Some}
use Rattle.std.specs.Iterator.{Count, at_most}
use Rattle.refusal.specs.declared.Refusal.{Refusal}
use Rattle.command.specs.Card.{read_from, reading}
use Rattle.command.specs.Turns.{Turn}
use Rattle.command.specs.declared.Command.{Command}
use Rattle.command.specs.declared.commands.Commands.{Commands}

-- the end of the card, the command at the position and the position of the next, or the bad command at the position
abbrev pub Stands : Commands → Option (Result Command Refusal) → Commands → Type 0
Stands s None t = read_from s.card.now s.at ≡ reading [] (Ok tt)
Stands s (Some (Ok x)) t = Turn s.card.now s.at x t.at
Stands s (Some (Err r)) t = read_from s.card.now s.at ≡ reading [] (Err r)

-- of the same card
abbrev pub Gives : Commands → Option (Result Command Refusal) → Commands → Type 0
Gives s x t = (t.card.now ≡ s.card.now) × Stands s x t

-- each has at least one byte
abbrev pub left : Commands → Count
left s = at_most (length s.card.now - s.at)
