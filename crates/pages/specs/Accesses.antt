-- What the accesses by a map answer: 65,536 and above is no word and no place.
-- Assumes nothing.
use Rattle.std.specs.Prelude.{Bool, false, true, List, ◌≡◌, ℕ}
use Rattle.std.proofs.lemmas.Bool.{false≢true}
use Rattle.std.proofs.Common.{sym, ◌∙◌}
use Rattle.memory.specs.Memory.{read_at, write_at}
use Rattle.mmu.specs.declared.Right.{Right}
use Rattle.mmu.specs.declared.Right.TheVariants as right
use Rattle.word.specs.declared.Width.{Width}
use Rattle.pages.specs.Maps.{Placed}

-- x is read
pub record Reads (map m : List ℕ) (right : Right) (width : Width) (a x : ℕ) : Type 0 where
  pub at : ℕ
  pub placed : Placed map right width a at
  pub value : x ≡ read_at width m at

-- v is written
pub record Wrote (map m : List ℕ) (width : Width) (a v : ℕ) (m' : List ℕ) : Type 0 where
  pub at : ℕ
  pub placed : Placed map right.Write width a at
  pub memory : m' ≡ write_at width m at v

-- it is written, or not
pub data Writes (map m : List ℕ) (width : Width) (a v : ℕ) (m' : List ℕ) (ok : Bool) : Type 0 where
  refused : ok ≡ false → m' ≡ m → Writes map m width a v m' ok
  written : ok ≡ true → Wrote map m width a v m' → Writes map m width a v m' ok

module _ {map m : List ℕ} {width : Width} {a v : ℕ} {m' : List ℕ} {ok : Bool} where
  pub wrote : Writes map m width a v m' ok → ok ≡ true → Wrote map m width a v m'
  wrote (refused f p) e = absurd (false≢true (sym f ∙ e))
  wrote (written t x) e = x

  pub not_wrote : Writes map m width a v m' ok → ok ≡ false → m' ≡ m
  not_wrote (refused f p) e = p
  not_wrote (written t x) e = absurd (false≢true (sym e ∙ t))
