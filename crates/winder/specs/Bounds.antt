-- Settings within their bounds: they are those that are taken.
-- Assumes nothing.
use Rattle.std.specs.Prelude.{Bool, ◌&&◌, ◌≡◌, ℕ, ◌*◌, ◌/◌, ◌≤◌, leb, Err, Ok, Result}
use Rattle.std.proofs.Common.{arith, le-leb, leb-true}
use Rattle.refusal.specs.Laws.{Range, between_range, range_between, test_good}
use Rattle.refusal.specs.Refusal.{Validity, between}
use Rattle.refusal.specs.declared.Refusal.{Refusal}
use Rattle.word.specs.Cases.{rest, this}
use Rattle.winder.specs.Call.{settings_good, settings_valid}
use Rattle.winder.specs.declared.Settings.{Settings}

-- each number is within its bounds
pub record InBounds (s : Settings) : Type 0 where
  pub turns : Range 1 999 s.turns
  pub notches : Range 1 64 s.notches
  pub rundown : Range 1 64 s.rundown
  pub ticks : Range 1 65535 s.ticks
  pub steps : Range 1 65535 s.steps

-- what a test says that gives something where it is passed
abbrev pub verdict : {A : Type 0} → Result A Refusal → Validity
verdict (Err r) = Err r
verdict (Ok x) = Ok tt

pub settings_good_lem : (s : Settings) (places : ℕ) → settings_valid s places ≡ Ok tt → InBounds s × (2 * s.ticks ≤ places)
unfolding settings_valid settings_good
settings_good_lem s places e =
    let turns : Bool = between 1 999 s.turns in
    let notches : Bool = between 1 64 s.notches in
    let rundown : Bool = between 1 64 s.rundown in
    let ticks : Bool = between 1 65535 s.ticks in
    let steps : Bool = between 1 65535 s.steps in
    let room : Bool = leb s.ticks (places / 2) in
    let all = (test_good (settings_good s places) (Ok tt) _ e).0 in
    let but1 = rest turns (notches && (rundown && (ticks && (steps && room)))) all in
    let but2 = rest notches (rundown && (ticks && (steps && room))) but1 in
    let but3 = rest rundown (ticks && (steps && room)) but2 in
    let but4 = rest ticks (steps && room) but3 in
    let fits : s.ticks ≤ places / 2 = leb-true s.ticks (places / 2) (rest steps room but4) in (
      record {
        turns = between_range 1 999 s.turns (this turns _ all);
        notches = between_range 1 64 s.notches (this notches _ but1);
        rundown = between_range 1 64 s.rundown (this rundown _ but2);
        ticks = between_range 1 65535 s.ticks (this ticks _ but3);
        steps = between_range 1 65535 s.steps (this steps room but4);
      },
      omega arith,
    )

pub settings_pass : (s : Settings) (places : ℕ) → InBounds s → 2 * s.ticks ≤ places → settings_valid s places ≡ Ok tt
unfolding settings_valid settings_good
settings_pass s places b h =
    rw (
      range_between 1 999 s.turns b.turns,
      range_between 1 64 s.notches b.notches,
      range_between 1 64 s.rundown b.rundown,
      range_between 1 65535 s.ticks b.ticks,
      range_between 1 65535 s.steps b.steps,
      le-leb s.ticks (places / 2) (omega arith),
    )
