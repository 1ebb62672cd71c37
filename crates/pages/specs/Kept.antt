-- Maps that are kept: that of a machine that does not translate, and that of a TLB.
-- Assumes nothing.
use Rattle.std.specs.Prelude.{List, ℕ}
use Rattle.pages.specs.Maps.{SelfTo, ShowsFrom}

-- the first is that of a machine that does not translate, the second that of the TLB `origin`
abbrev pub Kept : (origin plain translated : List ℕ) → Type 0
Kept origin plain translated = SelfTo 256 plain × ShowsFrom origin 0 translated
