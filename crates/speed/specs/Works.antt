-- What the works of the benchmark answer and write, on any input. They are made of the public calls' definitions.
use Rattle.std.specs.Prelude.{◌≡◌, not, List, [], ◌∷◌, ◌++◌, ℕ, ◌%◌, eqb, ltb, length, drop}
use Rattle.laws.specs.Choice.{choose}
use Rattle.refusals.specs.Refusals.{done, block_length, no_room, first}
use Rattle.cbc.specs.Cbc.{join, whole}
use Rattle.blocks_lent.specs.Ways.{each}
use Rattle.cipher.specs.Calls.{set_up}
use Rattle.stream.specs.Calls.{start, feed, feed_out}
use Rattle.stream.specs.declared.Stream.{Stream}
use Rattle.entry.specs.Entry.{entry_refusal, worked}

-- ---- blocks, each by itself: refused as the C entry refuses a block, then with 11 for an input that is no multiple of 16 bytes, then with 9
unfoldable pub blocks_refusal : ℕ → ℕ → List ℕ → (input room : ℕ) → ℕ
blocks_refusal c d key n room =
    choose (eqb (entry_refusal c d key 16 16) done)
    (first ((not (eqb (n % 16) 0), block_length) ∷ (ltb room n, no_room) ∷ []))
    (entry_refusal c d key 16 16)

unfoldable pub blocks_out : ℕ → ℕ → List ℕ → List ℕ → List ℕ → List ℕ
blocks_out c d key x o =
    choose (eqb (blocks_refusal c d key (length x) (length o)) done) (join (each (worked c d key) (whole x)) ++ drop (length x) o) o

pub record WorksBlocks (cipher direction : ℕ) (key input o : List ℕ) (r : ℕ) (o' : List ℕ) : Type 0 where
  pub answered : r ≡ blocks_refusal cipher direction key (length input) (length o)
  pub left : o' ≡ blocks_out cipher direction key input o

-- ---- a message through a stream: that of set-up and start, refused or not
unfoldable pub begun : ℕ → ℕ → List ℕ → List ℕ → Stream
begun c d key block = (start (set_up c key).schedule d block).stream

-- in one piece
pub record WorksMessage (cipher direction : ℕ) (key first input o : List ℕ) (r : ℕ) (o' : List ℕ) : Type 0 where
  pub answered : r ≡ (feed (begun cipher direction key first) input (length o)).answer
  pub left : o' ≡ feed_out (begun cipher direction key first) input o

-- in pieces of one byte, all to the front of the output, until one is refused
pub record Result : Type 0 where
  pub answer : ℕ
  pub out : List ℕ

abbrev pub by_bytes : Stream → List ℕ → List ℕ → Result
by_bytes s [] o = record { answer = done; out = o }
by_bytes s (b ∷ bs) o =
    choose (eqb (feed s (b ∷ []) (length o)).answer done)
    (by_bytes (feed s (b ∷ []) (length o)).next bs (feed_out s (b ∷ []) o))
    (record { answer = (feed s (b ∷ []) (length o)).answer; out = feed_out s (b ∷ []) o })

pub record WorksBytes (cipher direction : ℕ) (key first input o : List ℕ) (r : ℕ) (o' : List ℕ) : Type 0 where
  pub worked : ◌≡◌ {A = Result} (record { answer = r; out = o' }) (by_bytes (begun cipher direction key first) input o)
