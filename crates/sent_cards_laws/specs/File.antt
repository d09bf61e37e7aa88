-- The file of a sent card (docs/SENT.md): the first block; the card in CBC behind it under the first key; the seal of both under the second.
use Rattle.std.specs.Prelude.{List, ◌++◌, ℕ, take, drop}
use Rattle.cbc.specs.Cbc.{answer}
use Rattle.cmac.specs.Cmac.{cmac}
use Rattle.cipher.specs.Schedule.{enciphered, deciphered}
use Rattle.cipher.specs.declared.Schedule.{Schedule}
use Rattle.sent_cards.specs.Sent.{front}

-- what is sealed
unfoldable pub in_front : (one : Schedule) → (first card : List ℕ) → List ℕ
in_front one first card = first ++ answer (enciphered one) (deciphered one) 1 first card

unfoldable pub sent_card : (one two : Schedule) → (first card : List ℕ) → List ℕ
sent_card one two first card = in_front one first card ++ cmac (enciphered two) (in_front one first card)

-- what is deciphered of a file
unfoldable pub opened : (one : Schedule) → (file : List ℕ) → List ℕ
opened one file = answer (enciphered one) (deciphered one) 2 (take 16 file) (drop 16 (front file))
