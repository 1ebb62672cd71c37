-- A step from a good and ranged state, on a memory of bytes, leads to a ranged state and a memory of bytes, and the numbers that it tells fit.
-- Assumes nothing.
use Rattle.std.specs.Prelude.{Bool, cond, false, true, List, ℕ, eqb, ltb, get_or, set, Option, None, Some}
use Rattle.std.proofs.Common.{arith}
use Rattle.fault.specs.declared.FaultRecord.{FaultRecord}
use Rattle.decode.specs.Code.{HALT}
use Rattle.machine.specs.Enter.{Outcome, enter_of, vector_of}
use Rattle.status.specs.Flag.{word_of}
use Rattle.status.specs.Saved.{pushed}
use Rattle.status.specs.declared.Flags.{Flags}
use Rattle.machine.specs.Execute.{after_operation, body_of, event_of}
use Rattle.plan.specs.Result.{alu_of}
use Rattle.machine.specs.Fault.{noted}
use Rattle.machine.specs.Flag.{flag_of}
use Rattle.machine.specs.Kept.{plan_keeps}
use Rattle.machine.specs.Plan.{plan_of}
use Rattle.machine.specs.Ports.{cause_port, entry_at, entry_shown, entry_written, io_port, is_page_port, is_tlb_port, output_after, port_elsewhere, port_value, record_after_in, tlb_after, tlb_port}
use Rattle.machine.specs.Register.{regs_after, ssp_after, ssp_with, usp_after, usp_with}
use Rattle.machine.specs.State.{with_pc}
use Rattle.machine.specs.Step.{commit, step_of}
use Rattle.machine.specs.StepLaws.{body_by, enter_by}
use Rattle.plan.specs.declared.Operation.{Operation}
use Rattle.plan.specs.Trap.{trap_number}
use Rattle.plan.specs.declared.Plan.{Plan}
use Rattle.plan.specs.declared.Plan.TheVariants.{Interrupt, Perform, Trap, Violation}
use Rattle.machine.specs.declared.State.{State}
use Rattle.mmu.specs.Answers.{fault_number}
use Rattle.memory.specs.Memory.{store_word, stored, write_at}
use Rattle.mmu.specs.declared.Fault.{Fault}
use Rattle.mmu.specs.declared.Fault.TheVariants.{Missing, Odd, Refused}
use Rattle.memory.specs.declared.Store.{Store}
use Rattle.timer.specs.Laws.{in_by, out_by}
use Rattle.timer.specs.Port.{after_in_at, after_out_at, control_stored, fired_word, value_at}
use Rattle.timer.specs.declared.Timer.{Timer}
use Rattle.word.specs.declared.Width.{Width}
use Rattle.word.specs.declared.Width.TheVariants as width
use Rattle.word.specs.Cases.{either}
use Rattle.alu.specs.Laws.{add_of_fits, adds_of_fits, and_of_fits, div_of_fits, mod_of_fits, mul_of_fits, or_of_fits, shl_of_fits, shra_of_fits, shrl_of_fits, sub_of_fits, xor_of_fits}
use Rattle.word.specs.Laws.{wrap_fits}
use Rattle.word.specs.Word.{lower, minus, plus, upper}
use Rattle.alu.specs.declared.Alu.{Alu}
use Rattle.roundtrip.specs.Each.{each_set}
use Rattle.roundtrip.proofs.Fits.{OperationFits, PlanFits, StoreFits, mark_ranged, plan_fits, word_either, word_fits}
use Rattle.roundtrip.proofs.Good.{flag_bits_lem}
use Rattle.roundtrip.specs.Statement.{Byte, Bytes, Each, EntryFits, EventFits, GoodState, Ranged, StepEvent, Word}
use Rattle.roundtrip.specs.Timers.{TimerFits}
use Rattle.roundtrip.proofs.Steps.{plan_good}

-- ---- numbers that an instruction replaces

module _ (p : Bool) (n v : ℕ) (h : Word v) where
  ssp_with_lem : (ssp : ℕ) → Word ssp → Word (ssp_with p ssp v)
  unfolding ssp_with
  ssp_with_lem ssp s = word_either p v ssp h s

  usp_with_lem : (usp : ℕ) → Word usp → Word (usp_with p usp v)
  unfolding usp_with
  usp_with_lem usp s = word_either p usp v s h

  ssp_after_lem : (ssp : ℕ) → Word ssp → Word (ssp_after p ssp n v)
  unfolding ssp_after
  ssp_after_lem ssp s = word_either (eqb n 13) _ ssp (ssp_with_lem ssp s) s

  usp_after_lem : (usp : ℕ) → Word usp → Word (usp_after p usp n v)
  unfolding usp_after
  usp_after_lem usp s = word_either (ltb n 13) usp _ s (word_either (eqb n 13) _ v (usp_with_lem usp s) h)

  regs_after_lem : (regs : List ℕ) → Each Word regs → Each Word (regs_after regs n v)
  unfolding regs_after
  regs_after_lem regs s = either (Each Word) (ltb n 13) (λ _. each_set Word regs n v s h) (λ _. s)

output_after_lem : (output port v : ℕ) → Byte output → Byte (output_after output port v)
unfolding output_after
output_after_lem output port v h = either Byte (eqb port io_port) (λ _. omega arith) (λ _. h)

-- IN keeps the violation address and the missed page
record_fits :
    (fault : FaultRecord) (port : ℕ) → Word fault.violation → Byte fault.missed
    → Word (record_after_in fault port).violation × Byte (record_after_in fault port).missed
unfolding record_after_in
record_fits fault port v p =
    either (λ (r : FaultRecord). Word r.violation × Byte r.missed) (eqb port cause_port) (λ _. (v, p)) (λ _. (v, p))

written_fits : (port e v : ℕ) → EntryFits e → Word v → EntryFits (entry_written port e v)
written_fits port e v f h = either EntryFits (is_page_port port) (λ _. omega arith) (λ _. omega arith)

tlb_after_lem : (tlb : List ℕ) (port v : ℕ) → Word v → Each EntryFits tlb → Each EntryFits (tlb_after tlb port v)
unfolding tlb_after
tlb_after_lem tlb port v h f =
    either (Each EntryFits) (is_tlb_port port)
    (λ _. each_set EntryFits tlb (entry_at port) _ f (written_fits port _ v (f (entry_at port)) h)) (λ _. f)

module _ (first : ℕ) (t : Timer) (port : ℕ) (f : TimerFits t) where
  in_fits : TimerFits (after_in_at first t port)
  in_fits = in_by TimerFits first t port f (search f)

  out_fits : (v : ℕ) → Word v → TimerFits (after_out_at first t port v)
  out_fits v h =
      let none : Word 0 = omega arith in
      let stored : Word (control_stored v) = omega arith in
      out_by TimerFits first t port f v (search f) (search f)

  value_fits : (elsewhere : ℕ) → Word elsewhere → Word (value_at first t elsewhere port)
  unfolding value_at
  value_fits elsewhere h =
      let fired : Word (fired_word t) = word_either t.fired 0x8000 0 (omega arith) (omega arith) in
      search (f, word_either)

-- ---- what an instruction makes

port_fits : (st : State) → GoodState st → Ranged st → (port : ℕ) → Word (port_value st port)
unfolding port_elsewhere tlb_port
port_fits st g r port =
    let input : Word st.ports.input = omega (arith, r.read) in
    let cause : Word st.fault.cause = omega (arith, g.causes) in
    let missed : Word st.fault.missed = omega (arith, r.page) in
    let e : ℕ = get_or st.tlb (entry_at port) 0 in
    let shown : Word (entry_shown port e) = either Word (is_page_port port) (λ _. omega (arith, r.entries (entry_at port))) (λ _. omega arith) in
    let nothing : Word 0 = omega arith in
    search (r.refused, r.clocks.0, r.clocks.1, value_fits, word_either) depth 7

alu_either : (t : Bool) (x y : Alu) → Word x.value → Word y.value → Word (cond t x y).value
alu_either true x y p q = p
alu_either false x y p q = q

alu_fits : (code a b : ℕ) → Word a → Word b → Word (alu_of code a b).value
unfolding alu_of
alu_fits code a b h k =
    search (
      alu_either,
      add_of_fits,
      sub_of_fits,
      and_of_fits,
      or_of_fits,
      xor_of_fits,
      adds_of_fits,
      mul_of_fits,
      div_of_fits,
      mod_of_fits,
      shra_of_fits,
      shrl_of_fits,
      shl_of_fits,
    ) depth 14

body_ranged : (st : State) (op : Operation) → GoodState st → Ranged st → OperationFits op → Ranged (body_of st op)
body_ranged st op g r f =
    let fault = record_fits st.fault op.port r.refused r.page in
    body_by Ranged st op
    (search (
      r,
      fault.0,
      fault.1,
      r.words,
      r.entries,
      r.clocks.0,
      r.clocks.1,
      f,
      ssp_with_lem,
      usp_with_lem,
      ssp_after_lem,
      usp_after_lem,
      regs_after_lem,
      output_after_lem,
      tlb_after_lem,
      in_fits,
      out_fits,
      wrap_fits,
      port_fits st g r,
      alu_fits,
    ) fits 20000)

noted_ranged : (why : Fault) (a : ℕ) → Word a → (st : State) → Ranged st → Ranged (noted why a st)
noted_ranged Odd a h st r = search (r, r.words, r.entries)
noted_ranged Missing a h st r = let page : Byte (upper a) = omega arith in search (r, r.words, r.entries)
noted_ranged Refused a h st r = search (r, r.words, r.entries)

-- ---- memory

word_bytes_lem : (m : List ℕ) (a v : ℕ) → Bytes m → Word v → Bytes (store_word m a v)
word_bytes_lem m a v b h = each_set Byte (set m a (upper v)) (plus a 1) (lower v) (each_set Byte m a (upper v) b (omega arith)) (omega arith)

stored_bytes : (s : Option Store) → StoreFits s → (m : List ℕ) → Bytes m → Bytes (stored s m)
unfolding stored
stored_bytes None h m b = b
stored_bytes (Some s) h m b = by s.width
  where
    by : (w : Width) → Bytes (write_at w m s.address s.value)
    by width.Byte = each_set Byte m s.address (lower s.value) b (omega arith)
    by width.Word = word_bytes_lem m s.address s.value b h

pushed_bytes : (ssp : ℕ) (flags : Flags) (saved : ℕ) → Word (word_of flags) → Word saved → (m : List ℕ) → Bytes m → Bytes (pushed ssp flags saved m)
unfolding pushed
pushed_bytes ssp flags saved f h m b =
    word_bytes_lem (store_word m (minus ssp 2) saved) (minus ssp 4) (word_of flags) (word_bytes_lem m (minus ssp 2) saved b h) f

-- ---- the step

record OutcomeFits (o : Outcome) : Type 0 where
  state : Ranged o.state
  memory : Bytes o.memory
  event : EventFits o.event

told : (op : Operation) → EventFits (event_of op)
unfolding event_of
told op = either EventFits (eqb op.code HALT) (λ _. tt) (λ _. tt)

fault_small : (why : Fault) → Byte (fault_number why)
fault_small Odd = omega arith
fault_small Missing = omega arith
fault_small Refused = omega arith

module _ (m : List ℕ) (b : Bytes m) where
  enter_fits :
      (st : State) (pending number saved : ℕ) → Ranged st → Byte number → Word saved → OutcomeFits (enter_of st pending number saved m)
  enter_fits st pending number saved r low h =
      let flag : Byte (flag_of st) = (flag_bits_lem st.flags).0 in
      let m' : List ℕ = pushed st.ssp st.flags saved m in
      let b' : Bytes m' = pushed_bytes st.ssp st.flags saved (omega arith) h m b in
      enter_by OutcomeFits st pending number saved m
      (record { state = search (r, r.words, r.entries); memory = b; event = tt })
      (record { state = search (r, r.words, r.entries, wrap_fits, word_fits m' b' (vector_of number)); memory = b'; event = (low, h, omega arith) })

  commit_fits : (x : Plan) → PlanFits x → (st : State) → GoodState st → Ranged st → OutcomeFits (commit x st m)
  unfolding commit after_operation
  commit_fits (Interrupt line) f st g r = enter_fits st _ line _ r f r.next
  commit_fits (Violation v) f st g r = enter_fits (noted v.fault v.address st) _ _ _ (noted_ranged v.fault v.address f st r) (fault_small v.fault) r.next
  commit_fits (Trap why saved) f st g r = enter_fits st _ (trap_number why) saved r f.0 f.1
  commit_fits (Perform op) f st g r =
      record {
        state = body_ranged (with_pc st op.pc) op (search (g, g.zeros)) (search (r, r.words, r.entries, f)) f;
        memory = stored_bytes op.store f.store m b;
        event = told op;
      }

module _ (st : State) (m : List ℕ) (g : GoodState st) (r : Ranged st) (b : Bytes m) where
  step_fits : OutcomeFits (step_of st m)
  unfolding step_of
  step_fits =
      commit_fits m b (plan_of st m).plan (plan_fits st m r b) (plan_of st m).state (plan_good st m g)
      (plan_keeps Ranged mark_ranged st m r)

  pub step_ranged : Ranged (step_of st m).state × Bytes (step_of st m).memory
  step_ranged = (step_fits.state, step_fits.memory)

pub step_event : StepEvent
step_event st m g r b = (step_fits st m g r b).event
