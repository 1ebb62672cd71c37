-- `pages::map::usable` meets its contract.
use Rattle.std.proofs.Common.{Bool, true, false, refl, sym, ◌∙◌, ◌&&◌, ◌≡◌, ℕ, ◌+◌, ◌<◌, arith, cond, eqb, eq-eqb, ne_eqb}
use Rattle.mmu.specs.Entry.{gives, marked, with_bit}
use Rattle.mmu.specs.Marks.{usable_in}
use Rattle.mmu.specs.declared.Right.{Right}
use Rattle.mmu.specs.declared.Right.TheVariants.{Execute, Read, Write}
use Rattle.word.specs.Word.{is_set}
use Rattle.pages.proofs.map.usable.Goals as goal

-- an entry with a mark is the entry, where the mark stands
one_mark : (e m : ℕ) (b : Bool) → 0 < m → eqb (cond b e (e + m)) e ≡ b
one_mark e m true l = eq-eqb _ _ refl
one_mark e m false l = ne_eqb _ _ (λ p. omega (arith, p, l))

added : (e : ℕ) (b : Bool) → eqb (cond b (e + 4096) (e + 4096 + 2048)) e ≡ false
added e true = ne_eqb _ _ (λ p. omega (arith, p))
added e false = ne_eqb _ _ (λ p. omega (arith, p))

two_marks : (e : ℕ) (b : Bool) → eqb (with_bit 11 (cond b e (e + 4096))) e ≡ (b && is_set 11 e)
two_marks e true = one_mark e 2048 (is_set 11 e) (omega arith)
two_marks e false = added e (is_set 11 (e + 4096))

has_marks : (right : Right) (e : ℕ) → gives right e ≡ true → eqb (marked right e) e ≡ usable_in right e
unfolding usable_in
has_marks Read e g = rw g (one_mark e 4096 (is_set 12 e) (omega arith))
has_marks Write e g = rw g (two_marks e (is_set 12 e))
has_marks Execute e g = rw g (one_mark e 4096 (is_set 12 e) (omega arith))

lacks : (right : Right) (e : ℕ) → gives right e ≡ false → false ≡ usable_in right e
unfolding usable_in
lacks Read e g = rw g
lacks Write e g = rw g
lacks Execute e g = rw g

pub returns-then-gives : goal.returns-then-gives
returns-then-gives c = rw c.marked.ensures (has_marks c.args.right c.args.entry (sym c.gives.ensures ∙ c.if-gives.true))

pub returns-else-gives : goal.returns-else-gives
returns-else-gives c = c.if-gives.false ∙ lacks c.args.right c.args.entry (sym c.gives.ensures ∙ c.if-gives.false)
