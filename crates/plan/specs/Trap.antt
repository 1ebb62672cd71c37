-- The numbers of the traps. Document 01, "Faults in order".
-- Assumes nothing.
use Rattle.std.specs.Prelude.{ℕ}
use Rattle.plan.specs.declared.Trap.{Trap}
use Rattle.plan.specs.declared.Trap.TheVariants.{NotPermitted, ServiceCall, Undefined, ZeroDivisor}

-- "undefined (14), privilege (13)", "zero divisor (12)", "SVC is 15."
abbrev pub zero_divisor : ℕ
zero_divisor = 12

abbrev pub not_permitted : ℕ
not_permitted = 13

abbrev pub undefined_word : ℕ
undefined_word = 14

abbrev pub service_call : ℕ
service_call = 15

abbrev pub trap_number : Trap → ℕ
trap_number ZeroDivisor = zero_divisor
trap_number NotPermitted = not_permitted
trap_number Undefined = undefined_word
trap_number ServiceCall = service_call
