-- `image::encoder::write_image` meets its contract.
use mathlib.Core.List.{List, append_assoc, ◌++◌}
use mathlib.Core.Path.{sym, ◌∙◌, ◌≡◌}
use Prim.Native.Nat.{ℕ}
use native.Mathlib.Omega.{arith}
use borrow.Author.Rules.{rules}
use lib.ListN.{length, length-append}
use lib.Seq.{sets}
use Rattle.endian.specs.Laws.{laid_long, sets_all, sets_behind, words_laid}
use Rattle.endian.specs.Bytes.{word_bytes}
use Rattle.machine.specs.declared.State.{State}
use Rattle.image.specs.Image.{between_of, image_of, timer_bytes}
use Rattle.layout.specs.Entries.{entry_bytes}
use Rattle.layout.specs.Layout.{image_size, regs_at, ssp_at, timer0_at, timer1_at, tlb_at}
use Rattle.layout.specs.EntryLaws.{entries_laid}
use Rattle.image.proofs.encoder.write_image.Goals as goal

-- registers, the fields between, the TLB and the timers, one behind the other
covered :
    (old : List ℕ) (st : State) {one two three four five : List ℕ} → length old ≡ image_size → length st.regs ≡ 13 → length st.tlb ≡ 8
    → one ≡ sets old regs_at (word_bytes st.regs) → two ≡ sets one ssp_at (between_of st) → three ≡ sets two tlb_at (entry_bytes st.tlb)
    → four ≡ sets three timer0_at (timer_bytes st.timers.timer0) → five ≡ sets four timer1_at (timer_bytes st.timers.timer1)
    → five ≡ image_of st
unfolding image_of word_bytes
covered old st {one} {two} {three} {four} {five} long regs tlb p q r s t =
    let a : List ℕ = word_bytes st.regs in
    let b : List ℕ = a ++ between_of st in
    let e : List ℕ = entry_bytes st.tlb in
    let c : List ℕ = b ++ e in
    let d : List ℕ = timer_bytes st.timers.timer0 in
    let f : List ℕ = timer_bytes st.timers.timer1 in
    let la : length a ≡ 26 = laid_long words_laid st.regs ∙ omega arith in
    let lb : length b ≡ 44 = length-append a (between_of st) ∙ omega arith in
    let le : length e ≡ 24 = laid_long entries_laid st.tlb ∙ omega arith in
    let lc : length c ≡ 68 = length-append b e ∙ omega arith in
    let ld : length (c ++ d) ≡ 76 = length-append c d ∙ omega arith in
    let back = sets_behind b e old tlb_at (sets_behind a (between_of st) old ssp_at p la q) lb r in
    sets_behind (c ++ d) f old timer1_at (sets_behind c d old timer0_at back lc s) ld t
    ∙ sets_all (c ++ d ++ f) old (long ∙ sym (length-append (c ++ d) f ∙ omega arith))
    ∙ append_assoc c d f

pub returns : goal.returns
unfolding image_of
returns c =
    let regs : length c.args.state.regs ≡ 13 = search rules in
    let tlb : length c.args.state.tlb ≡ 8 = search rules in
    covered c.args.image.now c.args.state c.told-image regs tlb
    c.put_elements.ensures c.put_between.ensures c.put_elements-2.ensures c.put_timer.ensures c.put_timer-2.ensures
