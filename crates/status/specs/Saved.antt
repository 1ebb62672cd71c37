-- What a kernel entry saves. Document 01, "Faults in order": "Entry copies FLAG, sets E=0 and P=1, pushes PC and the copy on SSP".
-- Assumes nothing.
use Rattle.std.specs.Prelude.{List, ℕ}
use Rattle.memory.specs.Memory.{store_word}
use Rattle.word.specs.Word.{minus}
use Rattle.status.specs.Flag.{word_of}
use Rattle.status.specs.declared.Flags.{Flags}

-- memory after the pushes: PC at SSP-2, FLAG at SSP-4
unfoldable pub pushed : ℕ → Flags → ℕ → List ℕ → List ℕ
pushed ssp flags saved m = store_word (store_word m (minus ssp 2) saved) (minus ssp 4) (word_of flags)
