-- Two good cards handed in one after the other do what they do as one card, the second's bytes behind the first's, as long as the two
-- together are a good card; the reports stand one behind the other.
-- Assumes nothing.
use Rattle.std.specs.Prelude.{true, List, ◌++◌, ◌≡◌, ℕ, ◌+◌, ◌≤◌, drop, length, take, Ok}
use Rattle.card.specs.Call.{card_call, card_valid}
use Rattle.command.specs.Card.{card_size, reading_of}
use Rattle.call.specs.Call.{Call, given_by}
use Rattle.layout.specs.Layout.{image_size}
use Rattle.layout.specs.Valid.{good_image}
use Rattle.roundtrip.specs.Statement.{Bytes}

-- ---- the law, for a memory, an image, two cards and a report

module _ (m b a c rep : List ℕ) where
  -- the first card's call
  abbrev pub first_call : Call
  first_call = card_call m b a rep

  -- the second card's call is handed the memory and the image that the first left, and the report behind the bytes that the first filled
  abbrev pub memory_left : List ℕ
  memory_left = first_call.lent.memory

  abbrev pub image_left : List ℕ
  image_left = first_call.lent.image

  abbrev pub report_left : List ℕ
  report_left = drop (given_by first_call.answer) first_call.lent.report

  abbrev pub second_call : Call
  second_call = card_call memory_left image_left c report_left

  -- the call of both as one card
  abbrev pub joint_call : Call
  joint_call = card_call m b (a ++ c) rep

  -- Memory, image and first card are of bytes, the first card is good, and the joint call passes all its tests: memory, image, the joined
  -- card and room for the reports of both. That the second card is good follows.
  pub record Given : Type 0 where
    pub memory_bytes : Bytes m
    pub image_bytes : Bytes b
    pub card_bytes : Bytes a
    pub first_card : (reading_of a).validity ≡ Ok tt
    pub joint_good : card_valid (length m) b (a ++ c) (length rep) ≡ Ok tt

  -- then
  pub record AsOne : Type 0 where
    -- neither call is refused
    pub first_good : card_valid (length m) b a (length rep) ≡ Ok tt
    pub second_good : card_valid (length memory_left) image_left c (length report_left) ≡ Ok tt
    -- the second call leaves the memory and the image that the joint one does
    pub memory : joint_call.lent.memory ≡ second_call.lent.memory
    pub image : joint_call.lent.image ≡ second_call.lent.image
    -- the joint call fills as many report bytes as the two, with the first's reports and the second's behind them
    pub answer : joint_call.answer ≡ Ok (given_by first_call.answer + given_by second_call.answer)
    pub report : joint_call.lent.report ≡ take (given_by first_call.answer) first_call.lent.report ++ second_call.lent.report

  -- The joint call passes its tests wherever the two calls pass theirs and the cards are together no longer than one may be.
  pub record Apart : Type 0 where
    pub first_good : card_valid (length m) b a (length rep) ≡ Ok tt
    pub second_good : card_valid (length memory_left) image_left c (length report_left) ≡ Ok tt
    pub short : length (a ++ c) ≤ card_size

-- ---- what a card leaves

-- of a call with memory `m`: a memory of bytes as long as that, and an image of bytes that is good
pub record Left (m : List ℕ) (call : Call) : Type 0 where
  pub memory_bytes : Bytes call.lent.memory
  pub memory_long : length call.lent.memory ≡ length m
  pub image_bytes : Bytes call.lent.image
  pub image_long : length call.lent.image ≡ image_size
  pub image_good : good_image call.lent.image ≡ true

-- ---- the theorems

-- `as_one`: two cards whose joint call passes its tests do what they do as one card
abbrev pub TwoAsOne : Type 0
TwoAsOne = (m b a c rep : List ℕ) → Given m b a c rep → AsOne m b a c rep

-- `joint_good_lem`: where the two calls pass their tests so does the joint one
abbrev pub JointGood : Type 0
JointGood = (m b a c rep : List ℕ) → Apart m b a c rep → card_valid (length m) b (a ++ c) (length rep) ≡ Ok tt

-- `card_leaves`: what a card leaves can be handed to another call
abbrev pub CardLeaves : Type 0
CardLeaves =
    (m b card rep : List ℕ) → card_valid (length m) b card (length rep) ≡ Ok tt → Bytes m → Bytes b → Bytes card
    → Left m (card_call m b card rep)
