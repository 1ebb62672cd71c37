-- `card::calls::perform` meets its contract.
use mathlib.Core.Path.{ap}
use native.Mathlib.Omega.{arith}
use Rattle.std.specs.Prelude.{Ok}
use Rattle.call.specs.Laws.{buffers_are, called_is}
use Rattle.card.specs.Call.{card_call}
use Rattle.card.specs.Passed.{passed}
use Rattle.card.specs.declared.CallValidity.{CallValidity}
use Rattle.command.specs.Laws.{read_whole, runs_bound}
use Rattle.card.proofs.Executes.{of_card}
use Rattle.card.proofs.calls.perform.Goals as goal

pub unwrap-memory-requires : goal.unwrap-memory-requires
unwrap-memory-requires c =
    let p = passed _ _ _ _ (rw c.validate_card-checked.ensures at c.in_ok-checked.was) in
    c.as_mut_array.ensures.variant.1 p.machine.memory

pub unwrap-image-requires : goal.unwrap-image-requires
unwrap-image-requires c =
    let p = passed _ _ _ _ (rw c.validate_card-checked.ensures at c.in_ok-checked.was) in
    c.as_mut_array-2.ensures.variant.1 p.machine.image.size

pub new-requires : goal.new-requires
new-requires c =
    let p = passed _ _ _ _ (rw c.validate_card-checked.ensures at c.in_ok-checked.was) in
    (read_whole _ p.read).0

pub execute_valid-requires : goal.execute_valid-requires
execute_valid-requires c =
    let p = passed _ _ _ _ (rw c.validate_card-checked.ensures at c.in_ok-checked.was) in
    rw (of_card c.new.ensures.card c.new.ensures.at, ← (read_whole _ p.read).1) p.room

pub overflow_cast-result : goal.overflow_cast-result
overflow_cast-result c =
    omega (arith, ap (λ (x : CallValidity). x.needed) c.validate_card-checked.ensures, runs_bound c.args.card.now)

pub returns : goal.returns
unfolding card_call
returns c =
    let checked = c.validate_card-checked.ensures in
    let whole = (read_whole _ (passed _ _ _ _ (rw checked at c.in_ok-checked.was)).read).1 in
    let did = rw (of_card c.new.ensures.card c.new.ensures.at) at c.execute_valid.ensures in
    let memory = (rw c.unwrap-memory.ensures at c.as_mut_array.ensures.cases).same in
    let image = (rw c.unwrap-image.ensures at c.as_mut_array-2.ensures.cases).same in
    rw (rw checked at c.in_ok-checked.was, whole, ← memory, ← image) (called_is _ (ap Ok (rw (checked, whole))) (buffers_are _ did.memory did.image did.report))
