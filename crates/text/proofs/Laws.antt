-- Laws of decimal digits: which number they say, and how many they are.
-- Assumes nothing.
use Rattle.std.specs.Prelude.{Bool, cond, false, true, refl, ◌≡◌, ◌≢◌, suc, zero, ℕ, ◌%◌, ◌*◌, ◌+◌, ◌-◌, ◌/◌, ◌<◌, ◌^◌, ◌≤◌, ltb, length}
use mathlib.Core.List.{List, [], foldl-append, ◌++◌, ◌∷◌}
use Rattle.std.proofs.Common.{⊎_elim, eq-zero-or-pos, sub-one, pow-suc, arith, length-append, le-ltb, lt-ltb, ltb-false, ltb-true}
use Prim.Native.Char.{code}
use Rattle.text.specs.Text.{decimal_of, digit_of}
use Rattle.text.specs.Laws.{decimal_value}

-- a number below 10 is one digit
pub decimal_short : (k n : ℕ) → n < 10 → decimal_of (suc k) n ≡ digit_of n ∷ []
unfolding decimal_of
decimal_short k n h = rw (lt-ltb n 10 h)

-- any other is the digits of its tenth, and one more
pub decimal_long : (k n : ℕ) → 10 ≤ n → decimal_of (suc k) n ≡ decimal_of k (n / 10) ++ (digit_of (n % 10) ∷ [])
unfolding decimal_of
decimal_long k n h = rw (le-ltb n 10 h)

-- both, for any number of digits but none
pub decimal_last : (k n : ℕ) → k ≢ 0 → n < 10 → decimal_of k n ≡ digit_of (n % 10) ∷ []
decimal_last zero n p h = absurd (p refl)
decimal_last (suc k) n p h = let same : n % 10 ≡ n = omega arith in rw (decimal_short k n h, same)

pub decimal_more : (k n : ℕ) → k ≢ 0 → 10 ≤ n → decimal_of k n ≡ decimal_of (k - 1) (n / 10) ++ (digit_of (n % 10) ∷ [])
decimal_more zero n p h = absurd (p refl)
decimal_more (suc k) n p h = rw (decimal_long k n h, sub-one)

digit_value : (d : ℕ) → d < 10 → digit_of d - code "0" ≡ d
digit_value d h = rw (lt-ltb d 10 h) (omega arith)

value_more : (ds : List ℕ) (d : ℕ) → decimal_value (ds ++ (d ∷ [])) ≡ decimal_value ds * 10 + (d - code "0")
value_more ds d = foldl-append (λ (n d : ℕ). n * 10 + (d - code "0")) 0 ds (d ∷ [])

by_ten : (P : Type 0) (n : ℕ) (b : Bool) → ltb n 10 ≡ b → (n < 10 → P) → (10 ≤ n → P) → P
by_ten P n true e f g = f (ltb-true n 10 e)
by_ten P n false e f g = g (ltb-false n 10 e)

pub decimal_value_lem : (k n : ℕ) → n < 10 ^ k → 0 < k → decimal_value (decimal_of k n) ≡ n
decimal_value_lem zero n h p = absurd (omega arith)
decimal_value_lem (suc k) n h p =
    let room : n < 10 ^ k * 10 = rw pow-suc at h in
    by_ten (decimal_value (decimal_of (suc k) n) ≡ n) n (ltb n 10) refl
    (λ (s : n < 10). rw (decimal_short k n s) (omega (arith, digit_value n s)))
    (λ (s : 10 ≤ n).
    let more : 0 < k = ⊎_elim (λ (e : k ≡ 0). absurd (let small : n < 10 ^ 0 * 10 = rw e at room in omega arith)) (λ (q : 0 < k). q) (eq-zero-or-pos k) in
    rw (decimal_long k n s, value_more, decimal_value_lem k (n / 10) (omega arith) more, digit_value (n % 10) (omega arith)) (omega arith))

-- the longer of two
pub cond_bound : (b : Bool) (k : ℕ) (xs ys : List ℕ) → length xs ≤ k → length ys ≤ k → length (cond b xs ys) ≤ k
cond_bound true k xs ys h g = h
cond_bound false k xs ys h g = g

pub decimal_bound : (k n : ℕ) → length (decimal_of k n) ≤ k
unfolding decimal_of
decimal_bound zero n = omega arith
decimal_bound (suc k) n =
    cond_bound (ltb n 10) (suc k) _ _ (omega arith) (simp length-append (omega (arith, decimal_bound k (n / 10))))
