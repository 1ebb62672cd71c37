-- Laws of words: which signed number a word or a field is, and that what wraps is a word.
-- Assumes nothing.
use Rattle.std.specs.Prelude.{◌≡◌, ℕ, ◌-◌, ◌%◌, ◌<◌, ◌≤◌, Bool, true, false, ◌⊎◌, ℤ, pos, negsuc, nat_lt, refl}
use Rattle.std.proofs.Common.{inl, inr, ⊎_elim, ap, arith, le-ltb, lt-ltb, ltb-false, ltb-true}
use Rattle.std.specs.Int.Signed.{mag}
use Rattle.std.specs.Int.{w16}
use mir.ValLaws.{of_z_fits, to_z-Fits}
use Rattle.word.specs.Signed.{signed, signed4, word}
use Rattle.word.specs.Word.{wrap}

pub order : (m n : ℕ) → (m < n) ⊎ (n ≤ m)
order m n = by (nat_lt m n) refl
  where
    by : (t : Bool) → nat_lt m n ≡ t → (m < n) ⊎ (n ≤ m)
    by true e = inl (ltb-true m n e)
    by false e = inr (ltb-false m n e)

-- words as signed numbers
pub signed_low : (a : ℕ) → a < 32768 → signed a ≡ pos a
signed_low a h = rw (lt-ltb a 32768 h)

pub signed_high : (a : ℕ) → 32768 ≤ a → signed a ≡ negsuc (65535 - a)
signed_high a h = rw (le-ltb a 32768 h) (ap negsuc (omega arith))

pub signed_mag : (a : ℕ) → a < 65536 → mag (signed a) < 32768
signed_mag a h = (to_z-Fits w16 a (record { fits = h })).sfits

pub word_fits : (z : ℤ) → mag z < 32768 → word z < 65536
word_fits z h = (of_z_fits w16 z (record { sfits = h })).fits

-- four-bit fields as signed numbers
pub signed4_low : (n : ℕ) → n % 16 < 8 → signed4 n ≡ pos (n % 16)
unfolding signed4
signed4_low n h = rw (lt-ltb (n % 16) 8 h)

pub signed4_high : (n : ℕ) → 8 ≤ n % 16 → signed4 n ≡ negsuc (15 - n % 16)
unfolding signed4
signed4_high n h = rw (le-ltb (n % 16) 8 h)

pub signed4_mag : (n : ℕ) → mag (signed4 n) < 8
signed4_mag n =
    ⊎_elim (λ h. rw (signed4_low n h) h) (λ h. rw (signed4_high n h) (omega arith))
    (order (n % 16) 8)

pub signed4_word : (n : ℕ) → word (signed4 n) < 65536
signed4_word n = word_fits (signed4 n) (omega (arith, signed4_mag n))

pub wrap_fits : (n : ℕ) → wrap n < 65536
wrap_fits n = omega arith
