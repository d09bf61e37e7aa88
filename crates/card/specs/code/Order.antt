-- The keys of a good card, and a card judged by them.
use Rattle.std.specs.Prelude.{◌≡◌, Option, is_some, IfSome, List, ℕ, ◌+◌, ◌/◌, ◌%◌, ◌≤◌, ◌<◌, length, get_or, take}
use Rattle.card_slots.specs.Card.{slot, good}
use Rattle.card_keys.specs.code.Keys.{key_of}
use Rattle.card_keys.specs.declared.Keys.{Keys}

-- x is the key of a filled slot, whose number is its last byte
pub record Key (card : List ℕ) (x : ℕ) : Type 0 where
  pub inside : x % 256 < length card / 16
  pub is : x ≡ key_of (slot card (x % 256)) (x % 256)
  pub filled : 256 ≤ x
  pub low : x / 256 < 16777216

-- the keys of a good card: each that of a filled slot, none missing, and the pairs rise
pub record Ordered (card keys : List ℕ) : Type 0 where
  pub few : length keys ≤ 256
  pub rises : (u : ℕ) → u + 1 < length keys → get_or keys u 0 / 256 < get_or keys (u + 1) 0 / 256
  pub each : (u : ℕ) → u < length keys → Key card (get_or keys u 0)
  pub all : (i : ℕ) → i < length card / 16 → 256 ≤ key_of (slot card i) i → (u : ℕ) × (u < length keys) × (get_or keys u 0 ≡ key_of (slot card i) i)

-- a card judged: how many keys where it is good, at the front of the places, and none else
pub record JudgesTo (card : List ℕ) (r : Option ℕ) (places : List ℕ) : Type 0 where
  pub answered : is_some r ≡ good card
  pub few : IfSome r (λ n. n ≤ 256)
  pub ordered : IfSome r (λ n. Ordered card (take n places))

-- a card judged: keys where it is good, and none else
pub record JudgesInOrder (card : List ℕ) (r : Option Keys) : Type 0 where
  pub answered : is_some r ≡ good card
  pub ordered : IfSome r (λ k. Ordered card (take k.len k.places))
