-- What a loop over the ticks has done.
-- Assumes nothing.
use mathlib.Core.List.{List, [], ◌++◌, ◌∷◌}
use Rattle.std.proofs.Math.Path.{ap, ap₂, sym}
use Rattle.std.proofs.Common.{◌∙◌, arith}
use Rattle.std.specs.Prelude.{◌≡◌, drop}
use Prim.Native.Nat.{ℕ, ◌*◌, ◌+◌, ◌≤◌}
use Rattle.std.proofs.Math.ListN.{length}
use Rattle.std.proofs.Math.Seq.{length-sets, sets}
use Rattle.std.proofs.lemmas.List.Edits.{sets-eq}
use Rattle.endian.specs.Bytes.{word_bytes}
use Rattle.endian.specs.Laws.{laid_long, words_behind, words_laid}
use Rattle.winder.specs.Laws.{Bounded, standings_long, standings_plus, tick_bounded, tick_follows, ticks_plus}
use Rattle.winder.specs.Simulation.{Winder, standings, tick_of, ticks_of}
use Rattle.winder.specs.declared.Stage.{Stage}

-- the ticks that lead from `start`, of which none is done, to `at`; what stands after each is in its place
pub record Ticked (w : Winder) (start : Stage) (m₀ places₀ : List ℕ) (at : Stage) (m places : List ℕ) : Type 0 where
  pub stage : at ≡ (ticks_of w at.tick start m₀).stage
  pub memory : m ≡ (ticks_of w at.tick start m₀).memory
  pub written : places ≡ sets places₀ 0 (word_bytes (standings w at.tick start m₀))
  pub bounded : Bounded at

pub ticked_none : {w : Winder} {start : Stage} {m places : List ℕ} → start.tick ≡ 0 → Bounded start → Ticked w start m places start m places
unfolding ticks_of standings word_bytes
ticked_none e b = record { stage = rw e; memory = rw e; written = rw e; bounded = b }

module _ {w : Winder} {start : Stage} {m₀ places₀ : List ℕ} {at : Stage} {m places : List ℕ} (d : Ticked w start m₀ places₀ at m places) where
  pub long : length places ≡ length places₀
  long = ap length d.written ∙ length-sets places₀ 0 (word_bytes (standings w at.tick start m₀))

  -- one tick more
  pub ticked_tick :
      (p : ℕ) (at' : Stage) (m' places' : List ℕ) → at' ≡ (tick_of w at m).stage → m' ≡ (tick_of w at m).memory
      → places' ≡ sets places p (word_bytes (at'.standing ∷ [])) → p ≡ 2 * at.tick
      → Ticked w start m₀ places₀ at' m' places'
  unfolding ticks_of standings
  ticked_tick p at' m' places' e f q place =
      let n : ℕ = at.tick in
      let stood : List ℕ = standings w n start m₀ in
      let number : at'.tick ≡ n + 1 = tick_follows w at m e in
      let here : p ≡ 0 + 2 * length stood = omega (arith, place, standings_long w n start m₀) in
      record {
        stage = e ∙ rw (number, ticks_plus w n 1 start m₀, ← d.stage, ← d.memory);
        memory = f ∙ rw (number, ticks_plus w n 1 start m₀, ← d.stage, ← d.memory);
        written =
            q
            ∙ ap₂ (λ (j : ℕ) (s : Stage). sets places j (word_bytes (s.standing ∷ []))) here e
            ∙ ap (λ (o : List ℕ). sets o (0 + 2 * length stood) (word_bytes (standings w 1 at m))) d.written
            ∙ words_behind places₀ stood (standings w 1 at m) 0
            ∙ ap (λ (s : List ℕ). sets places₀ 0 (word_bytes s))
            (ap₂ (λ (s : Stage) (l : List ℕ). stood ++ standings w 1 s l) d.stage d.memory
            ∙ sym (standings_plus w n 1 start m₀)
            ∙ ap (λ (k : ℕ). standings w k start m₀) (sym number));
        bounded = rw e (tick_bounded w at m d.bounded);
      }

  -- all of them
  pub ticked_all : (n : ℕ) → at.tick ≡ n → 2 * n ≤ length places₀ → places ≡ word_bytes (standings w n start m₀) ++ drop (2 * n) places₀
  ticked_all n e room =
      let stood : List ℕ = standings w n start m₀ in
      let size : length (word_bytes stood) ≡ 2 * n = laid_long words_laid stood ∙ omega (arith, standings_long w n start m₀) in
      let from : 0 + length (word_bytes stood) ≡ 2 * n = omega (arith, size) in
      d.written
      ∙ ap (λ (k : ℕ). sets places₀ 0 (word_bytes (standings w k start m₀))) e
      ∙ sets-eq (word_bytes stood) places₀ 0 (omega (arith, size))
      ∙ rw from
