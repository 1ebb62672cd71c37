-- A card leaves a good state whose numbers fit, and a memory of bytes, as long as before, if it began with such.
-- Assumes nothing.
use Rattle.std.specs.Prelude.{Bool, refl, ◌≡◌, ℕ, suc, zero, ◌+◌, ◌<◌, eqb, ltb, set}
use mathlib.Core.List.{List, [], ◌∷◌}
use Rattle.std.proofs.Common.{◌∙◌, arith}
use Rattle.std.specs.Int.Bits.{bit_or}
use Rattle.std.proofs.lemmas.Nat.{or_lt}
use Rattle.std.proofs.Math.ListN.{length, length-set}
use Rattle.command.specs.Card.{reading_of}
use Rattle.card.specs.Effect.{Effect, effect_of, execute_of}
use Rattle.settings.specs.Settings.{after_millisecond, after_time, with_lines, with_register}
use Rattle.command.specs.declared.Command.{Command}
use Rattle.command.specs.declared.Command.TheVariants.{Byte, Entry, Flag, Lines, Mmu, Register, Run, Time}
use Rattle.layout.specs.TimerLaws.{count_good_lem}
use Rattle.machine.specs.Flag.{with_flag}
use Rattle.machine.specs.State.{with_mmu, with_tlb}
use Rattle.machine.specs.declared.State.{State}
use Rattle.roundtrip.specs.Each.{each_set}
use Rattle.roundtrip.proofs.Runs.{run_sound}
use Rattle.roundtrip.specs.Statement.{Bytes, Each, EntryFits, GoodState, Ranged, Sound, SoundMachine, Word, Zeros}
use Rattle.roundtrip.specs.Timers.{GoodTimer, TimerFits}
use Rattle.roundtrip.specs.Statement as range
use Rattle.timer.specs.Laws.{lines_small, tick_by}
use Rattle.timer.specs.Time.{lines_raised, raises, ticked}
use Rattle.timer.specs.declared.Timer.{Timer}
use Rattle.word.specs.Cases.{either}
use Rattle.word.specs.Word.{wrap}
use Rattle.joined.specs.Operands.{AllFit, Fits, card_fits}

-- ---- a command

module _ (st : State) (s : Sound st) where
  register_sound : (n v : ℕ) → Word v → Sound (with_register st n v)
  unfolding with_register
  register_sound n v h =
      let g : GoodState st = s.good in
      let r : Ranged st = s.ranged in
      let words : Each Word (set st.regs n v) = each_set Word st.regs n v r.words h in
      let thirteen : length (set st.regs n v) ≡ 13 = length-set st.regs n v ∙ g.thirteen in
      either Sound (ltb n 13) (λ _. record { good = search (g, g.zeros); ranged = search (r, words, r.entries) })
      (λ _. either Sound (eqb n 13) (λ _. record { good = search (g, g.zeros); ranged = search (r, r.words, r.entries) })
      (λ _. either Sound (eqb n 14) (λ _. record { good = search (g, g.zeros); ranged = search (r, r.words, r.entries) })
      (λ _. record { good = search (g, g.zeros); ranged = search (r, r.words, r.entries) })))

  lines_sound : (lines v : ℕ) → lines < 1024 → range.Byte v → Sound (with_lines st lines v)
  lines_sound lines v h k =
      let g : GoodState st = s.good in
      let r : Ranged st = s.ranged in
      let all : bit_or st.pending lines < 1024 = or_lt 10 st.pending lines g.lines h in
      record { good = search (g, g.zeros); ranged = search (r, r.words, r.entries) }

  entry_sound : (k bits : ℕ) → Zeros bits → EntryFits bits → Sound (with_tlb st (set st.tlb k bits))
  entry_sound k bits z h =
      let g : GoodState st = s.good in
      let r : Ranged st = s.ranged in
      let eight : length (set st.tlb k bits) ≡ 8 = length-set st.tlb k bits ∙ g.eight in
      let zeros : Each Zeros (set st.tlb k bits) = each_set Zeros st.tlb k bits g.zeros z in
      let entries : Each EntryFits (set st.tlb k bits) = each_set EntryFits st.tlb k bits r.entries h in
      record { good = search (g, zeros); ranged = search (r, r.words, entries) }

  mmu_sound : (on : Bool) → Sound (with_mmu st on)
  mmu_sound on =
      let g : GoodState st = s.good in
      let r : Ranged st = s.ranged in
      record { good = search (g, g.zeros); ranged = search (r, r.words, r.entries) }

  flag_sound : (w : ℕ) → Sound (with_flag st w)
  flag_sound w =
      let g : GoodState st = s.good in
      let r : Ranged st = s.ranged in
      record { good = search (g, g.zeros); ranged = search (r, r.words, r.entries) }

-- 08: a millisecond keeps a timer's count below its period
tick_sound : (t : Timer) → GoodTimer t × TimerFits t → GoodTimer (ticked t) × TimerFits (ticked t)
tick_sound t h =
    let g : GoodTimer t = h.0 in
    let f : TimerFits t = h.1 in
    tick_by (λ (x : Timer). GoodTimer x × TimerFits x) t h
    (record { count = count_good_lem 0 (wrap t.period) (omega arith); control = g.control }, record { count = omega arith; period = f.period; control = f.control })
    (λ l. (
      record { count = count_good_lem (wrap (t.count + 1)) (wrap t.period) (omega (arith, f.period)); control = g.control },
      record { count = omega (arith, f.period); period = f.period; control = f.control },
    ))

millisecond_sound : (st : State) → Sound st → Sound (after_millisecond st)
millisecond_sound st s =
    let g : GoodState st = s.good in
    let r : Ranged st = s.ranged in
    let first = tick_sound st.timers.timer0 (g.timers.0, r.clocks.0) in
    let second = tick_sound st.timers.timer1 (g.timers.1, r.clocks.1) in
    let all : bit_or st.pending (lines_raised st.timers) < 1024 =
    or_lt 10 st.pending (lines_raised st.timers) g.lines (omega (arith, lines_small (raises st.timers.timer0) (raises st.timers.timer1)))
    in
    record { good = search (g, g.zeros, first.0, second.0); ranged = search (r, r.words, r.entries, first.1, second.1) }

time_sound : (n : ℕ) (st : State) → Sound st → Sound (after_time n st)
unfolding after_time
time_sound zero st s = s
time_sound (suc n) st s = time_sound n (after_millisecond st) (millisecond_sound st s)

module _ (long : ℕ) where
  -- what some commands leave
  abbrev Leaves : Effect → Type 0
  Leaves p = SoundMachine long p.state p.memory

  act_keeps : (x : Command) → Fits x → (st : State) (m : List ℕ) → SoundMachine long st m → Leaves (effect_of x st m)
  unfolding effect_of
  act_keeps (Byte a v) f st m k =
      record { sound = k.sound; bytes = each_set (λ (w : ℕ). w < 256) m a v k.bytes f; sized = length-set m a v ∙ k.sized }
  act_keeps (Register n v) f st m k = record { sound = register_sound st k.sound n v f; bytes = k.bytes; sized = k.sized }
  act_keeps (Lines lines v) f st m k =
      record { sound = lines_sound st k.sound lines v f.0 f.1; bytes = k.bytes; sized = k.sized }
  act_keeps (Run n) f st m k = run_sound long n st m k
  act_keeps (Entry e bits) f st m k =
      record { sound = entry_sound st k.sound e bits f.0 f.1; bytes = k.bytes; sized = k.sized }
  act_keeps (Mmu on) f st m k = record { sound = mmu_sound st k.sound on; bytes = k.bytes; sized = k.sized }
  act_keeps (Flag w) f st m k = record { sound = flag_sound st k.sound w; bytes = k.bytes; sized = k.sized }
  act_keeps (Time ms) f st m k = record { sound = time_sound ms st k.sound; bytes = k.bytes; sized = k.sized }

  execute_keeps : (xs : List Command) → AllFit xs → (st : State) (m : List ℕ) → SoundMachine long st m → Leaves (execute_of xs st m)
  unfolding execute_of
  execute_keeps [] f st m k = k
  execute_keeps (x ∷ xs) f st m k =
      let done : Effect = effect_of x st m in
      execute_keeps xs f.1 done.state done.memory (act_keeps x f.0 st m k)

-- a card's commands, be the card good or not
pub execute_good :
    (card : List ℕ) → Bytes card → (st : State) (m : List ℕ) → Sound st → Bytes m
    → SoundMachine (length m) (execute_of (reading_of card).commands st m).state (execute_of (reading_of card).commands st m).memory
execute_good card small st m s b =
    execute_keeps (length m) (reading_of card).commands (card_fits card small) st m
    (record { sound = s; bytes = b; sized = refl })
