-- What a look at the fault record answers, and the image after it. Document 02, 1/14: "it must show the fault cause and leave it there".
-- Assumes nothing.
use Rattle.std.specs.Prelude.{List, ℕ, ◌*◌, ◌+◌, Ok}
use Rattle.call.specs.Call.{Answer, Called, called, unless_refused}
use Rattle.call.specs.Valid.{image_valid}
use Rattle.fault.specs.declared.FaultRecord.{FaultRecord}
use Rattle.image.specs.Decode.{state_from}
use Rattle.machine.specs.Look.{look_of}

-- the record in one number, 32 bits: cause × 2^24 + missed page × 2^16 + violation address
abbrev pub fault_word : FaultRecord → ℕ
fault_word r = r.cause * 16777216 + r.missed * 65536 + r.violation

-- a look, which is lent the image alone: refusals 2 and 3, else the record; the image is kept
unfoldable pub fault_call : List ℕ → Called Answer (List ℕ)
fault_call b = unless_refused (image_valid b) b (called (Ok (fault_word (look_of (state_from b)).given)) b)
