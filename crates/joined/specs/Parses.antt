-- A whole command at a position of a card: it stays what it is if more bytes come behind it, and another position changes nothing but the
-- positions that are named.
-- Assumes nothing.
use Rattle.std.specs.Prelude.{Bool, false, true, List, ◌++◌, refl, ◌≡◌, ℕ, ◌+◌, ◌<◌, eqb, leb, get_or, length, Err, None, Ok, Some}
use Rattle.std.proofs.Common.{ap₂, ◌∙◌, add_assoc, arith, length-append}
use Rattle.std.proofs.Math.ListN.{get_or-append}
use Rattle.command.specs.Command.{Standing, command_of, good_of, operands_of, parsed_of, reads}
use Rattle.command.specs.Whole.{Whole, by_number, parsed, picked, whole}
use Rattle.command.specs.declared.Command.{Command}
use Rattle.endian.specs.Bytes.{byte_from}
use Rattle.refusal.specs.declared.Refusal.{Refusal}

-- ---- more bytes behind it

module _ (b d : List ℕ) where
  same : (k : ℕ) → k < length b → get_or (b ++ d) k 0 ≡ get_or b k 0
  same k h = get_or-append b d 0 k h

  -- a command whose operands are all there
  abbrev Alike : ℕ → Type 0
  Alike n = operands_of n < length b → (good_of n (b ++ d) ≡ good_of n b) × (command_of n (b ++ d) ≡ command_of n b)

  alike : (n : ℕ) → 0 < operands_of n → Alike n
  unfolding operands_of good_of command_of
  alike =
      by_number Alike
      (λ h. (refl, cc (same 1 (omega arith), same 2 (omega arith), same 3 (omega arith))))
      (λ h. (cc (same 1 (omega arith)), cc (same 1 (omega arith), same 2 (omega arith), same 3 (omega arith))))
      (λ h. (cc (same 1 (omega arith), same 2 (omega arith)), cc (same 1 (omega arith), same 2 (omega arith), same 3 (omega arith))))
      (λ h. (refl, cc (same 1 (omega arith), same 2 (omega arith))))
      (λ h. (
        cc (same 1 (omega arith), same 3 (omega arith)),
        cc (same 1 (omega arith), same 2 (omega arith), same 3 (omega arith), same 4 (omega arith)),
      ))
      (λ h. (cc (same 1 (omega arith)), cc (same 1 (omega arith))))
      (λ h. (cc (same 1 (omega arith), same 2 (omega arith)), cc (same 1 (omega arith), same 2 (omega arith))))
      (λ h. (refl, cc (same 1 (omega arith), same 2 (omega arith))))

  pub parsed_before : (at : ℕ) (x : Command) (next : ℕ) → parsed_of at b ≡ reads x next → parsed_of at (b ++ d) ≡ reads x next
  parsed_before at x next e =
      let w : Whole at b x next = whole at b x next e in
      let first : byte_from (b ++ d) 0 ≡ byte_from b 0 = same 0 (omega arith) in
      let k = alike (byte_from b 0) w.known w.within in
      let long : operands_of (byte_from b 0) < length (b ++ d) = omega (arith, length-append b d) in
      parsed at (b ++ d) (byte_from b 0) first w.known long (k.0 ∙ w.good) ∙ ap₂ reads (k.1 ∙ w.is) w.on

-- ---- at another position

abbrev pub moved_refusal : ℕ → Refusal → Refusal
moved_refusal k r = record { cause = r.cause; place = k + r.place }

abbrev pub moved_parsed : ℕ → Standing → Standing
moved_parsed k (Ok None) = Ok None
moved_parsed k (Err r) = Err (moved_refusal k r)
moved_parsed k (Ok (Some p)) = reads p.command (k + p.next)

module _ (k at : ℕ) (b : List ℕ) where
  moved_by : (t u v w : Bool) → picked (k + at) b t u v w ≡ moved_parsed k (picked at b t u v w)
  moved_by true u v w = refl
  moved_by false true v w = refl
  moved_by false false true w = refl
  moved_by false false false true = rw add_assoc
  moved_by false false false false = refl

  pub moved_parsed_lem : parsed_of (k + at) b ≡ moved_parsed k (parsed_of at b)
  unfolding parsed_of
  moved_parsed_lem =
      moved_by (eqb (length b) 0) (eqb (operands_of (byte_from b 0)) 0) (leb (length b) (operands_of (byte_from b 0))) (good_of (byte_from b 0) b)
