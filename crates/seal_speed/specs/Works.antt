-- What the works of the benchmark on seals answer and write, on any input. They are made of the public calls' definitions.
use Rattle.std.specs.Prelude.{◌≡◌, List, [], ◌∷◌, ℕ, eqb, length}
use Rattle.laws.specs.Choice.{choose}
use Rattle.refusals.specs.Refusals.{done}
use Rattle.cipher.specs.Calls.{set_up}
use Rattle.seal.specs.Calls.{start, feed, write, write_out}
use Rattle.seal.specs.declared.Seal.{Seal}

-- the seal of set-up and start, refused or not
unfoldable pub begun : ℕ → List ℕ → Seal
begun c key = (start (set_up c key).schedule).seal

-- these pieces, until one is refused, and then the seal written
pub record Result : Type 0 where
  pub answer : ℕ
  pub out : List ℕ

abbrev pub in_pieces : Seal → List (List ℕ) → List ℕ → Result
in_pieces s [] o = record { answer = (write s (length o)).answer; out = write_out s o }
in_pieces s (p ∷ ps) o =
    choose (eqb (feed s p).answer done)
    (in_pieces (feed s p).next ps o)
    (record { answer = (feed s p).answer; out = o })

-- in one piece
pub record SealsMessage (cipher : ℕ) (key input o : List ℕ) (r : ℕ) (o' : List ℕ) : Type 0 where
  pub worked : ◌≡◌ {A = Result} (record { answer = r; out = o' }) (in_pieces (begun cipher key) (input ∷ []) o)

-- in pieces of one byte
abbrev pub ones : List ℕ → List (List ℕ)
ones [] = []
ones (b ∷ bs) = (b ∷ []) ∷ ones bs

pub record SealsBytes (cipher : ℕ) (key input o : List ℕ) (r : ℕ) (o' : List ℕ) : Type 0 where
  pub worked : ◌≡◌ {A = Result} (record { answer = r; out = o' }) (in_pieces (begun cipher key) (ones input) o)
