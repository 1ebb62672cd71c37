-- The operands of the commands that are read of a card of bytes are within their values.
-- Assumes nothing.
use Rattle.std.specs.Prelude.{true, List, [], ◌∷◌, refl, ◌≡◌, suc, zero, ℕ, ◌%◌, ◌+◌, ◌/◌, ◌<◌, ◌≤◌, leb, ltb, drop, length, Err, None, Ok, Some}
use Rattle.std.proofs.Common.{subst, arith, get_or-drop}
use borrow.Author.Tests.{eqb-true, ltb-true}
use Rattle.std.proofs.Math.ListN.{get_or}
use Rattle.command.specs.Card.{Reading, card_size, read_by, read_from, reading_of}
use Rattle.command.specs.Command.{Standing, command_of, good_of, operands_of, parsed_of, reads}
use Rattle.command.specs.Laws.{read_on}
use Rattle.command.specs.declared.Command.{Command}
use Rattle.command.specs.declared.Command.TheVariants.{Byte, Entry, Flag, Lines, Mmu, Register, Run, Time}
use Rattle.layout.specs.Valid.{pending_good, zeros_good}
use Rattle.endian.specs.Bytes.{byte_from}
use Rattle.word.specs.Cases.{either, rest}
use Rattle.roundtrip.specs.Statement.{Bytes, EntryFits, Zeros}
use Rattle.command.specs.Whole.{Whole, by_number, whole}
use Rattle.joined.specs.Reading.{further}

-- the operands that come into the state or into memory fit there
abbrev pub Fits : Command → Type 0
Fits (Byte a v) = v < 256
Fits (Register n v) = v < 65536
Fits (Lines lines v) = (lines < 1024) × (v < 256)
Fits (Run n) = Unit {0}
Fits (Entry k bits) = Zeros bits × EntryFits bits
Fits (Mmu on) = Unit {0}
Fits (Flag w) = Unit {0}
Fits (Time ms) = Unit {0}

abbrev pub AllFit : List Command → Type 0
AllFit [] = Unit {0}
AllFit (x ∷ xs) = Fits x × AllFit xs

-- ---- a command

module _ (b : List ℕ) (small : Bytes b) where
  abbrev Fitting : ℕ → Type 0
  Fitting n = good_of n b ≡ true → Fits (command_of n b)

  fitting : (n : ℕ) → 0 < operands_of n → Fitting n
  unfolding good_of command_of pending_good zeros_good
  fitting =
      by_number Fitting
      (λ h. small 3)
      (λ h. omega (arith, small 2, small 3))
      (λ h. (ltb-true _ _ h, small 3))
      (λ h. tt)
      (λ h. let z : get_or b 3 0 / 32 % 4 ≡ 0 = eqb-true _ _ (rest (ltb (byte_from b 1) 8) _ h) in
      (omega (arith, small 4), omega (arith, small 2, small 3, small 4)))
      (λ h. tt)
      (λ h. tt)
      (λ h. tt)

  parsed_fits : (at : ℕ) (x : Command) (next : ℕ) → parsed_of at b ≡ reads x next → Fits x
  parsed_fits at x next e =
      let w : Whole at b x next = whole at b x next e in
      subst Fits w.is (fitting (byte_from b 0) w.known w.good)

-- ---- a card

module _ (card : List ℕ) (small : Bytes card) where
  drop_small : (at : ℕ) → Bytes (drop at card)
  drop_small at k = rw get_or-drop (small (at + k))

  read_by_lem :
      (p : Standing) → ((x : Command) (next : ℕ) → p ≡ reads x next → Fits x × AllFit (read_from card next).commands)
      → AllFit (read_by p (read_from card)).commands
  read_by_lem (Ok None) h = tt
  read_by_lem (Err r) h = tt
  read_by_lem (Ok (Some p)) h = h p.command p.next refl

  -- with `n` bytes left at most
  read_fits : (n at : ℕ) → length card ≤ at + n → AllFit (read_from card at).commands
  read_fits zero at h = rw (read_on card at) (read_by_lem (parsed_of at (drop at card)) (λ x next e. absurd (omega (arith, further card at x next e))))
  read_fits (suc n) at h =
      rw (read_on card at) (read_by_lem (parsed_of at (drop at card))
      (λ x next e. (parsed_fits (drop at card) (drop_small at) at x next e, read_fits n next (omega (arith, further card at x next e)))))

  -- all of them, be the card good or not
  pub card_fits : AllFit (reading_of card).commands
  unfolding reading_of
  card_fits = either (λ (r : Reading). AllFit r.commands) (leb (length card) card_size) (λ _. read_fits (length card) 0 (omega arith)) (λ _. tt)
