-- What a call knows whose memory, image and report are good.
-- Assumes nothing.
use Rattle.std.specs.Prelude.{true, List, ◌≡◌, ℕ, ◌≤◌, eqb, leb, length, Ok}
use Rattle.std.proofs.Common.{eq-eqb, eqb-true, le-leb, leb-true}
use Rattle.layout.specs.Layout.{image_size}
use Rattle.layout.specs.Valid.{good_image}
use Rattle.refusal.specs.Laws.{test_good, then_good}
use Rattle.report.specs.Layout.{report_size}
use Rattle.call.specs.Valid.{image_valid, machine_valid, memory_valid, report_fits, run_valid}

-- an image that passed its tests
pub record ImageGood (b : List ℕ) : Type 0 where
  pub size : length b ≡ image_size
  pub fields : good_image b ≡ true

pub image_good_lem : (b : List ℕ) → image_valid b ≡ Ok tt → ImageGood b
unfolding image_valid
image_good_lem b e =
    let size = test_good (eqb (length b) image_size) _ _ e in
    let fields = test_good (good_image b) _ _ size.1 in
    record { size = eqb-true (length b) image_size size.0; fields = fields.0 }

pub image_passes : (b : List ℕ) → ImageGood b → image_valid b ≡ Ok tt
unfolding image_valid
image_passes b g = rw (eq-eqb (length b) image_size g.size, g.fields)

-- memory and image
pub record MachineGood (long : ℕ) (b : List ℕ) : Type 0 where
  pub memory : long ≡ 65536
  pub image : ImageGood b

pub machine_good : (long : ℕ) (b : List ℕ) → machine_valid long b ≡ Ok tt → MachineGood long b
unfolding memory_valid
machine_good long b e =
    let both = then_good (memory_valid long) (image_valid b) e in
    record { memory = eqb-true long 65536 (test_good (eqb long 65536) _ _ both.0).0; image = image_good_lem b both.1 }

pub machine_passes : (long : ℕ) (b : List ℕ) → MachineGood long b → machine_valid long b ≡ Ok tt
unfolding memory_valid
machine_passes long b g = rw (eq-eqb long 65536 g.memory, image_passes b g.image)

-- the report is long enough
pub report_good : (long needed : ℕ) → report_fits long needed ≡ Ok tt → needed ≤ long
unfolding report_fits
report_good long needed e = leb-true needed long (test_good (leb needed long) (Ok tt) _ e).0

pub report_passes : (long needed : ℕ) → needed ≤ long → report_fits long needed ≡ Ok tt
unfolding report_fits
report_passes long needed h = rw (le-leb needed long h)

-- memory and image, and room for the report of a run
pub record Passed (long : ℕ) (image : List ℕ) (report : ℕ) : Type 0 where
  pub machine : MachineGood long image
  pub room : report_size ≤ report

module _ (long : ℕ) (image : List ℕ) (report : ℕ) where
  pub passed : run_valid long image report ≡ Ok tt → Passed long image report
  passed e =
      let both = then_good (machine_valid long image) (report_fits report report_size) e in
      record { machine = machine_good long image both.0; room = report_good report report_size both.1 }

  pub passes : Passed long image report → run_valid long image report ≡ Ok tt
  passes p = rw (machine_passes long image p.machine) (report_passes report report_size p.room)
