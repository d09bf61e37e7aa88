-- What one step through a text gives.
use Rattle.std.specs.Prelude.{◌≡◌, false, List, ◌∷◌, ℕ, suc, ◌+◌, ◌<◌, ◌≤◌, length, drop, get_or}
use Rattle.hex_text.specs.Hex.{white, value, digits, joined}

-- the next digit from a place on stands at `here`
pub record NextDigit (text : List ℕ) (from here : ℕ) : Type 0 where
  pub within : here < length text
  pub digit : white (get_or text here 0) ≡ false
  pub rest : digits (drop from text) ≡ value (get_or text here 0) ∷ digits (drop (here + 1) text)

-- the next two digits from a place on are a byte, and stand before `next`
pub record NextByte (text : List ℕ) (from byte next : ℕ) : Type 0 where
  pub within : next ≤ length text
  pub fewer : length (digits (drop from text)) ≡ suc (suc (length (digits (drop next text))))
  pub rest : joined (digits (drop from text)) ≡ byte ∷ joined (digits (drop next text))
