-- The look at the fault record on calls, by the bytes that they are lent: `fault_call` (look/Call), the contract of `tac_fault`, beside `run_call`
-- (direct/Call). Document 02, 1/14: "a look between two steps changes nothing a later step gives."
-- Assumes nothing.
use Rattle.std.specs.Prelude.{List, ◌++◌, ◌≡◌, ℕ, ◌%◌, ◌+◌, ◌/◌, ◌<◌, ◌≤◌, drop, length, Ok}
use Rattle.calls.specs.Statement as isolated
use Rattle.direct.specs.Call.{run_call}
use Rattle.endian.specs.Bytes.{byte_from, word_from}
use Rattle.fault.specs.declared.FaultRecord.{FaultRecord}
use Rattle.image.specs.Decode.{state_from}
use Rattle.image.specs.Image.{image_of}
use Rattle.layout.specs.Layout.{cause_at, missed_at, violation_at}
use Rattle.call.specs.Valid.{image_valid, run_valid}
use Rattle.look.specs.Call.{fault_call, fault_word}
use Rattle.machine.specs.Answers.{ending_number}
use Rattle.machine.specs.Look.{look_of}
use Rattle.machine.specs.Run.{Ran, run_of}
use Rattle.machine.specs.Through.{later}
use Rattle.machine.specs.declared.Ending.TheVariants as ending
use Rattle.readers.specs.Statement.{LastShows, looked_between}
use Rattle.call.specs.Call.{Answer, Call}
use Rattle.report.specs.Layout.{ending_at, number_at, report_size}
use Rattle.report.specs.Report.{report_of_ran}
use Rattle.roundtrip.specs.Statement.{Bytes}

-- ---- one look

-- `look_keeps`: a look leaves every byte of an image, of whatever length and content, so every call behind it is lent what it would be without
abbrev pub LookKeeps : Type 0
LookKeeps = (b : List ℕ) → (fault_call b).lent ≡ b

-- an answer that gives a record: a number of 32 bits with these parts
pub record Parts (r : FaultRecord) (answer : Answer) : Type 0 where
  pub number : ℕ
  pub done : answer ≡ Ok number
  pub small : number < 4294967296
  pub cause : number / 16777216 ≡ r.cause
  pub missed : number / 65536 % 256 ≡ r.missed
  pub violation : number % 65536 ≡ r.violation

-- the record in the bytes of an image
abbrev pub record_in : List ℕ → FaultRecord
record_in b = record { violation = word_from b violation_at; cause = byte_from b cause_at; missed = byte_from b missed_at }

-- `look_parts`: the parts of the answer of a look that is not refused are the bytes of the image
abbrev pub LookParts : Type 0
LookParts = (b : List ℕ) → Bytes b → image_valid b ≡ Ok tt → Parts (record_in b) (fault_call b).answer

-- `look_image`: and the image is that of the state that the look leaves
abbrev pub LookImage : Type 0
LookImage = (b : List ℕ) → Bytes b → image_valid b ≡ Ok tt → image_of (look_of (state_from b)).state ≡ (fault_call b).lent

-- a call of a run that passes its tests, on bytes
pub record Given (m b rep : List ℕ) : Type 0 where
  pub memory_bytes : Bytes m
  pub image_bytes : Bytes b
  pub passed : run_valid (length m) b (length rep) ≡ Ok tt

-- `look_after`: a look at the image that a run left is one at the state that it left
abbrev pub LookAfter : Type 0
LookAfter =
    (m b : List ℕ) (n : ℕ) (rep : List ℕ) → Given m b rep
    → (fault_call (run_call m b n rep).lent.image).answer ≡ Ok (fault_word (look_of (run_of n (state_from b) m).state).given)

-- a run of n, and a run of k on the memory and the image that it left
abbrev pub calls_apart : List ℕ → List ℕ → ℕ → ℕ → List ℕ → List ℕ → Call
calls_apart m b n k rep rep' = let c : Call = run_call m b n rep in run_call c.lent.memory c.lent.image k rep'

-- the same with a look between them: the second run is lent the image that the look left
abbrev pub looked_calls : List ℕ → List ℕ → ℕ → ℕ → List ℕ → List ℕ → Call
looked_calls m b n k rep rep' = let c : Call = run_call m b n rep in run_call c.lent.memory (fault_call c.lent.image).lent k rep'

-- `calls_between`: the look changes nothing that the second call answers and leaves, whatever the buffers are
abbrev pub CallsBetween : Type 0
CallsBetween = (m b : List ℕ) (n k : ℕ) (rep rep' : List ℕ) → looked_calls m b n k rep rep' ≡ calls_apart m b n k rep rep'

-- `whole` is the call of one run of all the steps, and `last` that of the second run, whose end is r; the first did n steps in `before` states
pub record AsOne (whole last : Call) (n before : ℕ) (r : Ran) (rep rep' : List ℕ) : Type 0 where
  pub answer : whole.answer ≡ last.answer
  pub memory : whole.lent.memory ≡ last.lent.memory
  pub image : whole.lent.image ≡ last.lent.image
  -- the 12 bytes differ in the counts alone, those of the whole being the sums; behind them each report is as it was
  pub report : whole.lent.report ≡ report_of_ran (later n before r) ++ drop report_size rep
  pub last_report : last.lent.report ≡ report_of_ran r ++ drop report_size rep'

-- `calls_within`: where the first run's report says that its allowance is spent, the calls are as one of all the steps
abbrev pub CallsWithin : Type 0
CallsWithin =
    (m b : List ℕ) (n k : ℕ) (rep rep' : List ℕ) → Given m b rep → report_size ≤ length rep'
    → byte_from (run_call m b n rep).lent.report ending_at ≡ ending_number ending.Spent
    → AsOne (run_call m b (n + k) rep) (looked_calls m b n k rep rep') n (run_of n (state_from b) m).states (looked_between n k (state_from b) m)
    rep rep'

-- the answer of a look at the image that a run left gives a record of which this holds
pub record LookShows (m b : List ℕ) (n : ℕ) (rep : List ℕ) (Claim : FaultRecord → Type 0) : Type 0 where
  pub given : FaultRecord
  pub parts : Parts given (fault_call (run_call m b n rep).lent.image).answer
  pub shows : Claim given

-- `call_shows`: where the report says that the kernel was entered with 11, the look at the image shows the access that failed
abbrev pub CallShows : Type 0
CallShows =
    (m b : List ℕ) (n : ℕ) (rep : List ℕ) → Given m b rep → isolated.Enters (run_call m b n rep)
    → byte_from (run_call m b n rep).lent.report number_at ≡ 11
    → LookShows m b n rep (LastShows (state_from b) m (run_of n (state_from b) m).steps)

-- `isolated_looks`: demand 3 of the look. Behind two calls of which `isolated_calls` (calls/Theorem) speaks, refused ones too, the looks have one
-- answer.
abbrev pub IsolatedLooks : Type 0
IsolatedLooks =
    (m m' b : List ℕ) (n : ℕ) (rep : List ℕ) → isolated.Given m m' b
    → (fault_call (run_call m b n rep).lent.image).answer ≡ (fault_call (run_call m' b n rep).lent.image).answer
