-- What a received file is judged to be, in the order of docs/SENT.md, 'What is told, and how far'.
use Rattle.std.specs.Prelude.{Bool, false, not, ◌&&◌, Option, None, Some, option_map, unwrap_or, List, ℕ, zero, suc, ◌-◌, ◌*◌, ◌/◌, ◌%◌, eqb, leb, length, take, drop}
use Rattle.laws.specs.Choice.{choose}
use Rattle.runs.specs.Same.{same}
use Rattle.cmac.specs.Cmac.{cmac}
use Rattle.cipher.specs.Schedule.{bad, enciphered}
use Rattle.cipher.specs.Calls.{set_up}
use Rattle.cipher.specs.declared.Schedule.{Schedule}
use Rattle.sent_cards.specs.declared.Verdict.{Verdict}
use Rattle.sent_cards.specs.declared.Verdict.TheVariants.{Sealed, Length, Lengthened, Exchanged, OtherCipher, NotSealed}

-- a first block, a card and a seal: whole blocks, at most 256 of them the card's
unfoldable pub is_length : ℕ → Bool
is_length n = leb 32 n && leb n 4128 && eqb (n % 16) 0

-- ---- a file's last 16 bytes are the seal of all in front of them
abbrev pub front : List ℕ → List ℕ
front file = take (length file - 16) file

abbrev pub last_block : List ℕ → List ℕ
last_block file = drop (length file - 16) file

-- under a schedule; a bad one seals nothing
unfoldable pub sealed : Schedule → List ℕ → Bool
sealed s file = choose (bad s) false (same (last_block file) (cmac (enciphered s) (front file)))

-- ---- what else may be sealed
-- the first of n numbers from k on of which a test holds
abbrev pub first : (ℕ → Bool) → (k n : ℕ) → Option ℕ
first t k zero = None
first t k (suc n) = choose (t k) (Some k) (first t (suc k) n)

-- the number of blocks of the shortest front, but not all, that is a sent card
unfoldable pub sealed_front : Schedule → List ℕ → Option ℕ
sealed_front s file = first (λ n. sealed s (take (n * 16) file)) 2 (length file / 16 - 2)

-- the cipher under which the file is sealed with this key, by the numbers of one digit
unfoldable pub sealed_by : (key file : List ℕ) → Option ℕ
sealed_by key file = first (λ c. sealed (set_up c key).schedule file) 1 9

-- ---- under two keys, of which the second is the seal's
-- of a file that is not sealed under the second
unfoldable pub explained : (one two : Schedule) → (key file : List ℕ) → Verdict
explained one two key file =
    unwrap_or (option_map (λ blocks. Lengthened (blocks * 16)) (sealed_front two file))
    (choose (sealed one file) Exchanged
    (unwrap_or (option_map OtherCipher (sealed_by key file))
    NotSealed))

unfoldable pub verdict : (one two : Schedule) → (key file : List ℕ) → Verdict
verdict one two key file =
    choose (not (is_length (length file))) (Length (length file))
    (choose (sealed two file) Sealed
    (explained one two key file))
