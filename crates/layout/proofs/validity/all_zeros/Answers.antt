-- `layout::validity::all_zeros` meets its contract.
use mathlib.Core.List.{List}
use mathlib.Core.Path.{refl}
use Prim.Native.Nat.{ℕ, suc, zero, ◌+◌, ◌*◌, ◌<◌}
use native.Mathlib.Omega.{arith}
use borrow.Author.Rules.{rules}
use lib.ListN.{get_or, take, drop}
use Rattle.std.proofs.Math.Path.{ap, ap₂}
use Rattle.std.proofs.Common.{◌∙◌}
use Rattle.std.specs.Prelude.{◌≡◌, ◌&&◌}
use Rattle.std.specs.List.{list_all}
use Rattle.std.specs.Simd.{first_chunks}
use Rattle.std.proofs.lemmas.Iterator.{YieldsList-from_slice}
use Rattle.std.proofs.lemmas.Iterator.Search.{all_from_yields_List}
use Rattle.std.proofs.lemmas.List.{get_or-take, get_or-drop}
use Rattle.layout.specs.Layout.{tlb_at}
use Rattle.layout.specs.Valid.{all_zeros, zeros_good}
use Rattle.layout.proofs.validity.all_zeros.Goals as goal

-- the entries of `xs`, which are those of `b` from an offset on
by_entries : (b xs : List ℕ) (n at : ℕ) → ((k : ℕ) → k < 3 * n → get_or xs k 0 ≡ get_or b (at + k) 0)
    → list_all (λ e. zeros_good (get_or e 1 0)) (first_chunks 3 n xs) ≡ all_zeros b at n
unfolding all_zeros
by_entries b xs zero at h = refl
by_entries b xs (suc n) at h =
    ap₂ ◌&&◌
    (ap zeros_good (get_or-take 3 xs 1 0 (omega arith) ∙ h 1 (omega arith)))
    (by_entries b (drop 3 xs) n (at + 3) (λ k below.
    get_or-drop 3 xs k 0 ∙ h (3 + k) (omega (arith, below)) ∙ ap (λ (i : ℕ). get_or b i 0) (omega arith)))

pub returns : goal.returns
returns c =
    let b = c.args.image.now in
    let xs = take 24 (drop tlb_at b) in
    all_from_yields_List (λ e. zeros_good (get_or e 1 0)) _ _ _ c.all.ensures.ran
    (YieldsList-from_slice (first_chunks 3 8 xs) (search rules)) (λ x r q k. search rules)
    ∙ by_entries b xs 8 tlb_at (λ k below. get_or-take 24 (drop tlb_at b) k 0 (omega (arith, below)) ∙ get_or-drop tlb_at b k 0)
