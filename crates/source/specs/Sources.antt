-- What the operand stage answers: how an operand's address and its value came about, by its mode.
-- Assumes nothing.
use Rattle.std.specs.Prelude.{List, refl, ◌≡◌, ℕ, ◌%◌, ◌<◌}
use Rattle.std.proofs.Common.{arith}
use Rattle.decode.specs.Decode.{rx_field}
use Rattle.decode.specs.Instructions.{add_states, eight}
use Rattle.decode.specs.Opcode.{states_at}
use Rattle.mmu.specs.declared.Right.TheVariants.{Execute, Read}
use Rattle.pages.specs.Accesses.{Reads}
use Rattle.word.specs.declared.Width.{Width}
use Rattle.word.specs.declared.Width.TheVariants.{Byte, Word}
use Rattle.word.specs.Word.{plus}
use Rattle.source.specs.Fields.{IndexedPlace, RxRead, frame_place, indexed_place, indexed_address, mode_of, rx_read, rx_value, short_of}
use Rattle.source.specs.Rows.{add_cost, below_eight}
use Rattle.source.specs.declared.operand.Source.{Source}

-- of the eight modes only the last is left
pub last_mode :
    (n : ℕ) → n < 8 → (n ≡ 0 → ⊥) → (n ≡ 1 → ⊥) → (n ≡ 2 → ⊥) → (n ≡ 3 → ⊥) → (n ≡ 4 → ⊥) → (n ≡ 5 → ⊥) → (n ≡ 6 → ⊥) → n ≡ 7
last_mode =
    below_eight (λ n. (n ≡ 0 → ⊥) → (n ≡ 1 → ⊥) → (n ≡ 2 → ⊥) → (n ≡ 3 → ⊥) → (n ≡ 4 → ⊥) → (n ≡ 5 → ⊥) → (n ≡ 6 → ⊥) → n ≡ 7)
    (λ a b c d e f g. absurd (a refl)) (λ a b c d e f g. absurd (b refl)) (λ a b c d e f g. absurd (c refl)) (λ a b c d e f g. absurd (d refl))
    (λ a b c d e f g. absurd (e refl)) (λ a b c d e f g. absurd (f refl)) (λ a b c d e f g. absurd (g refl)) (λ a b c d e f g. refl)

-- the address a of an operand, and the address `next` of the following instruction
pub data Named (rs map m : List ℕ) (pc w : ℕ) : ℕ → ℕ → ℕ → Width → Type 0 where
  by_second : {a next : ℕ} → next ≡ plus pc 4 → Reads map m Execute Word (plus pc 2) a → Named rs map m pc w 0 a next Word
  by_index :
      {d a next : ℕ} → next ≡ plus pc 4 → Reads map m Execute Word (plus pc 2) d → IndexedPlace rs next d w a → Named rs map m pc w 1 a next Word
  by_frame : {a next : ℕ} → next ≡ plus pc 2 → a ≡ frame_place rs w → Named rs map m pc w 3 a next Word
  by_register : {a next : ℕ} → next ≡ plus pc 2 → RxRead rs next (w % 16) a → Named rs map m pc w 6 a next Word
  by_register_byte : {a next : ℕ} → next ≡ plus pc 2 → RxRead rs next (w % 16) a → Named rs map m pc w 7 a next Byte

-- its value x
pub data Valued (rs map m : List ℕ) (pc w : ℕ) : ℕ → ℕ → ℕ → Type 0 where
  loaded :
      {mode a x next : ℕ} {width : Width} → Named rs map m pc w mode a next width → Reads map m Read width a x → Valued rs map m pc w mode x next
  second : {x next : ℕ} → next ≡ plus pc 4 → Reads map m Execute Word (plus pc 2) x → Valued rs map m pc w 2 x next
  held : {x next : ℕ} → next ≡ plus pc 2 → RxRead rs next (w % 16) x → Valued rs map m pc w 4 x next
  field : {x next : ℕ} → next ≡ plus pc 2 → x ≡ short_of (rx_field w) → Valued rs map m pc w 5 x next

pub record SourceIs (rs map m : List ℕ) (pc w : ℕ) (r : Source) : Type 0 where
  pub cost : r.cost ≡ add_cost (mode_of w)
  pub even : r.next % 2 ≡ 0
  pub valued : r.value < 65536 → Valued rs map m pc w (mode_of w) r.value r.next

module _ (rs map m : List ℕ) (pc w next : ℕ) where
  -- ---- addresses

  module _ (n : next ≡ plus pc 4) (d : ℕ) (fetch : d < 65536 → Reads map m Execute Word (plus pc 2) d) where
    pub direct_named : d < 65536 → Named rs map m pc w 0 d next Word
    direct_named l = by_second n (fetch l)

    pub indexed_named : (a : ℕ) → a ≡ indexed_address rs next d w → a < 65536 → Named rs map m pc w 1 a next Word
    indexed_named a e l = let p = indexed_place e l in by_index n (fetch p.below) p

  module _ (n : next ≡ plus pc 2) (a : ℕ) where
    pub frame_named : a ≡ frame_place rs w → a < 65536 → Named rs map m pc w 3 a next Word
    frame_named f l = by_frame n f

    module _ (e : a ≡ rx_value rs next (w % 16)) (l : a < 65536) where
      pub indirect_named : Named rs map m pc w 6 a next Word
      indirect_named = by_register n (rx_read e l)

      pub byte_named : Named rs map m pc w 7 a next Byte
      byte_named = by_register_byte n (rx_read e l)

  -- ---- values

  module _ (even : pc % 2 ≡ 0) (x : ℕ) where
    abbrev Is : ℕ → Type 0
    Is cost = SourceIs rs map m pc w (record { value = x; next = next; cost = cost })

    -- what is read at an address
    read_valued :
        {width : Width} {mode a : ℕ} → (a < 65536 → Named rs map m pc w mode a next width) → (x < 65536 → Reads map m Read width a x) → x < 65536
        → Valued rs map m pc w mode x next
    read_valued named read l = let r = read l in loaded (named r.placed.below) r

    module _ (n : next ≡ plus pc 4) (d : ℕ) (fetch : d < 65536 → Reads map m Execute Word (plus pc 2) d) where
      pub direct_source : mode_of w ≡ 0 → (x < 65536 → Reads map m Read Word d x) → Is 7
      unfolding add_cost states_at eight add_states
      direct_source e read = record { cost = rw e; even = omega arith; valued = rw e (read_valued (direct_named n d fetch) read) }

      pub indexed_source : mode_of w ≡ 1 → (a : ℕ) → a ≡ indexed_address rs next d w → (x < 65536 → Reads map m Read Word a x) → Is 7
      unfolding add_cost states_at eight add_states
      indexed_source e a place read = record { cost = rw e; even = omega arith; valued = rw e (read_valued (indexed_named n d fetch a place) read) }

      pub immediate_source : mode_of w ≡ 2 → x ≡ d → Is 5
      unfolding add_cost states_at eight add_states
      immediate_source e q = record { cost = rw e; even = omega arith; valued = rw (e, q) (λ l. second n (fetch l)) }

    module _ (n : next ≡ plus pc 2) where
      pub frame_source : mode_of w ≡ 3 → (a : ℕ) → a ≡ frame_place rs w → (x < 65536 → Reads map m Read Word a x) → Is 7
      unfolding add_cost states_at eight add_states
      frame_source e a f read = record { cost = rw e; even = omega arith; valued = rw e (read_valued (frame_named n a f) read) }

      pub register_source : mode_of w ≡ 4 → x ≡ rx_value rs next (w % 16) → Is 5
      unfolding add_cost states_at eight add_states
      register_source e r = record { cost = rw e; even = omega arith; valued = rw e (λ l. held n (rx_read r l)) }

      pub short_source : mode_of w ≡ 5 → x ≡ short_of (rx_field w) → Is 4
      unfolding add_cost states_at eight add_states
      short_source e f = record { cost = rw e; even = omega arith; valued = rw e (λ l. field n f) }

      pub indirect_source : mode_of w ≡ 6 → (a : ℕ) → a ≡ rx_value rs next (w % 16) → (x < 65536 → Reads map m Read Word a x) → Is 6
      unfolding add_cost states_at eight add_states
      indirect_source e a place read = record { cost = rw e; even = omega arith; valued = rw e (read_valued (indirect_named n a place) read) }

      pub byte_source : mode_of w ≡ 7 → (a : ℕ) → a ≡ rx_value rs next (w % 16) → (x < 65536 → Reads map m Read Byte a x) → Is 6
      unfolding add_cost states_at eight add_states
      byte_source e a place read = record { cost = rw e; even = omega arith; valued = rw e (read_valued (byte_named n a place) read) }
