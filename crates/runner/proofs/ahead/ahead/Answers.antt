-- `runner::ahead::ahead` meets its contract.
use Rattle.runner.specs.Goes.{none}
use Rattle.runner.proofs.ahead.ahead.Goals as goal

pub returns-then-allowance-eq0-clause-goes : goal.returns-then-allowance-eq0-clause-goes
returns-then-allowance-eq0-clause-goes c = none
