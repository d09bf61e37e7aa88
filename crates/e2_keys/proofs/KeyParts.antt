-- K0 .. K3, the sub-blocks of the full key: what a key has of them, and what it lacks.
use mathlib.Core.Path.{◌≡◌, refl, sym, ◌∙◌}
use mathlib.Core.List.{List, ◌++◌}
use Prim.Native.Nat.{ℕ, ◌+◌, ◌-◌, ◌≤◌, ◌<◌}
use native.Mathlib.Omega.{arith}
use lib.ListN.{length, drop}
use Rattle.laws.specs.Places.{part}
use Rattle.laws.proofs.Parts.{left_half, right_half, part_before, part_behind}
use Rattle.words.specs.KeyLength.{KeyLength}
use Rattle.e2_steps.specs.Steps.{S}
use Rattle.e2_keys.specs.Keys.{g, full_key}

-- what the key has
pub key-part : (key : List ℕ) (a : ℕ) → a + 8 ≤ length key → part 0 a 8 key ≡ part 0 a 8 (full_key key)
unfolding full_key
key-part key a h = sym (part_before 0 a 8 key (drop (length key - 16) (S (S (S g)) ++ S (S (S (S g))))) h)

-- what it lacks
S_long : (x : List ℕ) → length (S x) ≡ 8
unfolding S
S_long x = refl

pub lacks_K2 : (key : List ℕ) → KeyLength (length key) → length key < 24 → S (S (S g)) ≡ part 0 16 8 (full_key key)
unfolding full_key
lacks_K2 key k h =
    sym (part_behind 0 16 0 8 key (S (S (S g)) ++ S (S (S (S g)))) (omega arith) (omega arith)
    ∙ left_half (S (S (S g))) (S (S (S (S g)))) (S_long (S (S g))))

pub lacks_K3 : (key : List ℕ) → KeyLength (length key) → length key < 32 → S (S (S (S g))) ≡ part 0 24 8 (full_key key)
unfolding full_key
lacks_K3 key k h =
    sym (part_behind 0 16 8 8 key (S (S (S g)) ++ S (S (S (S g)))) (omega arith) (omega arith)
    ∙ right_half (S (S (S g))) (S (S (S (S g)))) (S_long (S (S g))) (S_long (S (S (S g)))))
