-- Which images are good. Document 01, the table of refusals: "image field beyond its values: FLAG, pending, MMU, condition, cause, TLB zeros".
-- Document 02, 2/14: "Refusal 2 now tests for 84 and refusal 3 covers control, fired, a count ...".
-- Assumes nothing.
use Rattle.std.specs.Prelude.{Bool, cond, true, ◌&&◌, List, suc, zero, ℕ, ◌%◌, ◌+◌, ◌/◌, eqb, ltb, get_or}
use Rattle.endian.specs.Bytes.{byte_from, word_from}
use Rattle.layout.specs.Layout.{cause_at, condition_at, control_in, count_in, fired_in, flag_at, mmu_at, pending_at, period_in, timer0_at, timer1_at, tlb_at}

-- "FLAG is 0000 0000 EPI0 VCSZ"
unfoldable pub flag_good : ℕ → Bool
flag_good w = ltb w 256 && eqb (w / 16 % 2) 0

-- "pending lines (word, bit n is interrupt n, 0-9)"
unfoldable pub pending_good : ℕ → Bool
pending_good w = ltb w 1024

-- "two zeros", bits 14 and 13 of a TLB entry: bits 6 and 5 of its middle byte
unfoldable pub zeros_good : ℕ → Bool
zeros_good middle = eqb (middle / 32 % 4) 0

-- the zeros of `n` entries from an offset on
unfoldable pub all_zeros : List ℕ → ℕ → ℕ → Bool
all_zeros b at zero = true
all_zeros b at (suc n) = zeros_good (get_or b (at + 1) 0) && all_zeros b (at + 3) n

-- "control (bit 15 interrupt, bit 0 start, others stored as 0)": bits 14 to 1 are 0
unfoldable pub control_good : ℕ → Bool
control_good w = eqb (w % 32768 / 2) 0

-- "a count not below a non-zero period, and a non-zero count with period 0" are beyond
unfoldable pub count_good : ℕ → ℕ → Bool
count_good count period = cond (eqb period 0) (eqb count 0) (ltb count period)

-- "four words per timer ...: count, period, control, fired (0/1)": the timer at an offset, started or not
unfoldable pub timer_good : List ℕ → ℕ → Bool
timer_good b at =
    count_good (word_from b (at + count_in)) (word_from b (at + period_in))
    && (control_good (word_from b (at + control_in))
    && ltb (word_from b (at + fired_in)) 2)

-- a good image: every field within its values
unfoldable pub good_image : List ℕ → Bool
good_image b =
    flag_good (word_from b flag_at)
    && (pending_good (word_from b pending_at)
    && (ltb (byte_from b mmu_at) 2
    && (ltb (byte_from b condition_at) 3
    && (ltb (byte_from b cause_at) 4
    && (all_zeros b tlb_at 8
    && (timer_good b timer0_at
    && timer_good b timer1_at))))))
