-- How the code's words hold what the definitions have as lists of bytes.
use Rattle.std.specs.Prelude.{List, [], ◌∷◌, ℕ}
use Rattle.laws.specs.Bytes.{bytes_of}
use Rattle.e2_steps.specs.declared.half.Pair.{Pair}
use Rattle.e2_steps.specs.declared.quad.Quad.{Quad}

-- half a block, and a block
abbrev pub pair_bytes : Pair → List ℕ
pair_bytes x = bytes_of (x.a ∷ x.b ∷ [])

abbrev pub quad_bytes : Quad → List ℕ
quad_bytes w = bytes_of (w.a ∷ w.b ∷ w.c ∷ w.d ∷ [])
