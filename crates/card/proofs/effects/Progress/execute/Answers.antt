-- `card::effects::Progress::execute` meets its contract.
use mathlib.Core.Path.{refl}
use Rattle.card.specs.Effect.{effect_of}
use Rattle.card.proofs.Executes.{silent}
use Rattle.card.proofs.effects.Progress.execute.Goals as goal

pub run-requires : goal.run-requires
run-requires c = rw c.in-Run.is at c.requires

pub returns-in-Byte : goal.returns-in-Byte
unfolding effect_of
returns-in-Byte c = silent _ _ _ _ c.in-Byte.is refl refl

pub returns-in-Register : goal.returns-in-Register
unfolding effect_of
returns-in-Register c = silent _ _ _ _ c.in-Register.is refl (rw c.assign_register-self.ensures)

pub returns-in-Lines : goal.returns-in-Lines
unfolding effect_of
returns-in-Lines c = silent _ _ _ _ c.in-Lines.is refl (rw c.add_lines-self.ensures)

pub returns-in-Entry : goal.returns-in-Entry
unfolding effect_of
returns-in-Entry c = silent _ _ _ _ c.in-Entry.is refl (rw c.set_entry-self.ensures)

pub returns-in-Mmu : goal.returns-in-Mmu
unfolding effect_of
returns-in-Mmu c = silent _ _ _ _ c.in-Mmu.is refl (rw c.set_mmu-self.ensures)

pub returns-in-Flag : goal.returns-in-Flag
unfolding effect_of
returns-in-Flag c = silent _ _ _ _ c.in-Flag.is refl (rw c.load_flag-self.ensures)

pub returns-in-Time : goal.returns-in-Time
unfolding effect_of
returns-in-Time c = silent _ _ _ _ c.in-Time.is refl (rw c.pass_time-self.ensures)

pub returns-in-Run : goal.returns-in-Run
unfolding effect_of
returns-in-Run c = rw c.in-Run.is (record { answer = c.run.ensures.state; memory = c.run.ensures.memory; report = c.run.ensures.report })
