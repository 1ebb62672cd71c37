-- The numbers with which a plan enters the kernel: only an access that fails has 10 or 11, and none is FFh.
-- Assumes nothing.
use Rattle.std.specs.Prelude.{List, ◌⊎◌, ◌≡◌, refl, ℕ, suc, zero, ◌%◌, ◌/◌, ◌<◌, ◌≤◌, ◌^◌}
use Rattle.std.proofs.Common.{inl, inr, ⊎_elim, pow-suc, arith}
use Rattle.std.specs.Int.Count.{trailing_of_zero, count_trailing_zeros, under}
use Rattle.machine.specs.Kept.{fetch_keeps}
use Rattle.machine.specs.Plan.{plan_of}
use Rattle.machine.specs.PlanLaws.{Ends, operand_by, plan_by}
use Rattle.machine.specs.declared.Planned.{Planned}
use Rattle.machine.specs.declared.State.{State}
use Rattle.mmu.specs.Access.{violation}
use Rattle.mmu.specs.Answers.{fault_number}
use Rattle.mmu.specs.declared.Fault.{Fault}
use Rattle.mmu.specs.declared.Fault.TheVariants.{Missing, Odd, Refused}
use Rattle.plan.specs.declared.Plan.{Plan}
use Rattle.plan.specs.declared.Plan.TheVariants.{Violation}
use Rattle.status.specs.Pending.{lowest_line}
use Rattle.readers.specs.Stopped.{EntersWith}

-- ---- lines

-- a digit more
under_small : (d t j k : ℕ) → (t < j) ⊎ (t ≡ k) → (under d t < suc j) ⊎ (under d t ≡ suc k)
under_small zero t j k h = ⊎_elim (λ l. inl (omega arith)) (λ e. inr (omega arith)) h
under_small (suc d) t j k h = inl (omega arith)

-- the zeros below the lowest 1 of a number of j digits are fewer than j, or it is 0
zeros_small : (k j n : ℕ) → j ≤ k → n < 2 ^ j → (count_trailing_zeros k n < j) ⊎ (count_trailing_zeros k n ≡ k)
unfolding count_trailing_zeros
zeros_small k zero n l h = let z : n ≡ 0 = omega arith in inr (rw z (trailing_of_zero k))
zeros_small zero (suc j) n l h = absurd (omega arith)
zeros_small (suc k) (suc j) n l h =
    under_small (n % 2) (count_trailing_zeros k (n / 2)) j k (zeros_small k j (n / 2) (omega arith) (omega (arith, pow-suc 2 j)))

-- ---- plans

-- a plan to enter with a number, because an access failed
pub record ByAccess (number : ℕ) (x : Plan) : Type 0 where
  pub why : Fault
  pub address : ℕ
  pub failed : x ≡ Violation (violation why address)
  pub number_is : fault_number why ≡ number

module _ (number : ℕ) (low : 10 ≤ number) (high : number < 12) where
  -- lines are 0 to 9
  line_other : (lines : ℕ) → lines < 1024 → lowest_line lines ≡ number → ⊥
  line_other lines h e = ⊎_elim (λ l. omega arith) (λ s. omega arith) (zeros_small 16 10 lines (omega arith) h)

  abbrev Claim : Plan → Type 0
  Claim x = EntersWith number x → ByAccess number x

  failed_access : (why : Fault) (a : ℕ) → Claim (Violation (violation why a))
  failed_access why a e = record { why = why; address = a; failed = refl; number_is = e }

  ends_access : (code : ℕ) → Ends Claim code
  ends_access code =
      record { performs = λ op e h. absurd h; fails = failed_access; traps = λ trap saved l h e. absurd (omega arith) }

  pub plan_access : (st : State) (m : List ℕ) → st.pending < 1024 → Claim (plan_of st m).plan
  plan_access st m h =
      plan_by m (λ (s : State). s.pending < 1024) (λ (x : Planned). Claim x.plan)
      (record {
        fetch = λ s a l. fetch_keeps (λ (s : State). s.pending < 1024) (λ s k right g. g) s a l;
        interrupt = λ s l e. absurd (line_other s.pending l e);
        first = λ s l why. failed_access why _;
        second = λ s l why. failed_access why _;
        undefined = λ s l e. absurd (omega arith);
        denied = λ s l e. absurd (omega arith);
        short = λ s l w shape d e. operand_by Claim s m _ _ (ends_access _);
        long = λ s l w shape d e at. operand_by Claim s m _ _ (ends_access _);
      })
      st h

-- ---- no number is FFh

fault_small : (why : Fault) → fault_number why < 255
fault_small Odd = omega arith
fault_small Missing = omega arith
fault_small Refused = omega arith

module _ (number : ℕ) where
  abbrev Small : Plan → Type 0
  Small x = EntersWith number x → number < 255

  ends_small : (code : ℕ) → Ends Small code
  ends_small code =
      record { performs = λ op e h. absurd h; fails = λ why a e. omega (arith, fault_small why); traps = λ trap saved l h e. omega arith }

  line_small : (lines : ℕ) → lines < 1024 → lowest_line lines ≡ number → number < 255
  line_small lines h e = ⊎_elim (λ l. omega arith) (λ s. omega arith) (zeros_small 16 10 lines (omega arith) h)

  pub plan_small : (st : State) (m : List ℕ) → st.pending < 1024 → Small (plan_of st m).plan
  plan_small st m h =
      plan_by m (λ (s : State). s.pending < 1024) (λ (x : Planned). Small x.plan)
      (record {
        fetch = λ s a l. fetch_keeps (λ (s : State). s.pending < 1024) (λ s k right g. g) s a l;
        interrupt = λ s l e. line_small s.pending l e;
        first = λ s l why e. omega (arith, fault_small why);
        second = λ s l why e. omega (arith, fault_small why);
        undefined = λ s l e. omega arith;
        denied = λ s l e. omega arith;
        short = λ s l w shape d e. operand_by Small s m _ _ (ends_small _);
        long = λ s l w shape d e at. operand_by Small s m _ _ (ends_small _);
      })
      st h
