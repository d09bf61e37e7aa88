-- What is sent is received: under the schedules it was sent with, a sent card is sealed, and what is deciphered of it is the card. Under any key and cipher,
-- whatever the card's records are.
use mathlib.Core.Path.{◌≡◌, refl, sym, ap, ap₂, ◌∙◌}
use mathlib.Core.Bool.{true, false}
use mathlib.Core.List.{List, ◌++◌, append_assoc}
use Prim.Native.Nat.{ℕ, ◌+◌, ◌-◌, ◌*◌, ◌/◌, ◌%◌, ◌≤◌}
use native.Mathlib.Omega.{arith}
use lib.ListN.{length, take, drop, length-append}
use lib.Seq.{take_at, drop_at, take_all}
use borrow.Author.Tests.{le-leb, eq-eqb}
use Rattle.laws.specs.Bytes.{Bytes}
use Rattle.laws.proofs.Words.{Words}
use Rattle.runs.proofs.Same.{same_self}
use Rattle.cbc.specs.Cbc.{answer}
use Rattle.cbc.proofs.Sized.{out_long}
use Rattle.cbc.proofs.Undo.{message_undo}
use Rattle.cmac.specs.Cmac.{cmac}
use Rattle.cipher.specs.Schedule.{bad, enciphered, deciphered}
use Rattle.cipher.specs.declared.Schedule.{Schedule}
use Rattle.demands.proofs.Undo.{block_inverse, enciphered_long}
use Rattle.seal_laws.proofs.WholeWay.{seal_long}
use Rattle.sent_cards.specs.Sent.{is_length, front, last_block, sealed, verdict}
use Rattle.sent_cards.specs.declared.Verdict.TheVariants.{Sealed}
use Rattle.sent_cards.proofs.Verdicts.{is_a_sent_card}
use Rattle.sent_cards_laws.specs.File.{in_front, sent_card, opened}

module _ (one two : Schedule) (good₁ : bad one ≡ false) (good₂ : bad two ≡ false)
    (first card : List ℕ) (block : length first ≡ 16) (slots : length card % 16 ≡ 0) (fits : length card ≤ 4096) where
  abbrev chained : List ℕ
  chained = answer (enciphered one) (deciphered one) 1 first card

  abbrev m : List ℕ
  m = in_front one first card

  abbrev seal : List ℕ
  seal = cmac (enciphered two) m

  abbrev file : List ℕ
  file = sent_card one two first card

  -- ---- how long the parts are
  chained_long : length chained ≡ length card
  unfolding answer
  chained_long = out_long (enciphered one) (deciphered one) (enciphered_long one good₁) 1 first (length card / 16) card ∙ omega arith

  front_long : length m ≡ length card + 16
  unfolding in_front
  front_long = let e = chained_long in length-append first chained ∙ omega arith

  pub file_long : length file ≡ length card + 32
  unfolding sent_card
  file_long =
      let e = front_long in
      let s = seal_long two good₂ m in
      length-append m seal ∙ omega arith

  -- ---- the parts again
  before_seal : length file - 16 ≡ length m
  before_seal = let e = front_long in let f = file_long in omega arith

  front_is : front file ≡ m
  unfolding sent_card
  front_is = ap (λ (n : ℕ). take n file) before_seal ∙ take_at m seal (length m) refl

  seal_is : last_block file ≡ seal
  unfolding sent_card
  seal_is = ap (λ (n : ℕ). drop n file) before_seal ∙ drop_at m seal (length m) refl

  -- ---- the seal is right
  its_length : is_length (length file) ≡ true
  unfolding is_length
  its_length =
      let f = file_long in
      let n : length file % 16 ≡ 0 = omega arith in
      rw (le-leb 32 (length file) (omega arith), le-leb (length file) 4128 (omega arith), eq-eqb (length file % 16) 0 n)

  its_seal : sealed two file ≡ true
  unfolding sealed
  its_seal = rw (good₂, front_is, seal_is) (same_self seal)

  pub sent_sealed : (key : List ℕ) → verdict one two key file ≡ Sealed
  sent_sealed key = sym (is_a_sent_card one two key file its_length its_seal)

  -- ---- the card is the one that was sent. What is asked here is what every value of these types has: bytes below 256
  pub sent_opened : Bytes 288 one.round_keys → Bytes 16 first → Words 8 card → opened one file ≡ card
  unfolding opened in_front sent_card
  sent_opened keys bytes w =
      let whole : take (16 * (length card / 16)) card ≡ card = take_all (16 * (length card / 16)) card (omega arith) in
      ap₂ (λ (c l : List ℕ). answer (enciphered one) (deciphered one) 2 c l)
      (ap (take 16) (append_assoc first chained seal) ∙ take_at first (chained ++ seal) 16 block)
      (ap (drop 16) front_is ∙ drop_at first chained 16 block)
      ∙ message_undo (enciphered one) (deciphered one) (block_inverse one good₁ keys) first card bytes w ∙ whole
