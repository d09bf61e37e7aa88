-- The layout loses nothing: what is laid is spelt again, and what is spelt is laid again.
use mathlib.Core.Path.{◌≡◌, sym, ap, ◌∙◌}
use mathlib.Core.List.{List, ◌++◌}
use Prim.Native.Nat.{ℕ, ◌+◌, ◌^◌, ◌≤◌, ◌<◌}
use native.Mathlib.Omega.{arith}
use lib.ListN.{length, take, drop, length-append, length-drop}
use lib.Seq.{take_at, drop_at, take_all, take-add, length-take-le}
use Rattle.laws.proofs.Words.{Words, words_take, words_drop}
use Rattle.stream_layout.specs.Number.{bytes_in, number_of}
use Rattle.stream_layout.specs.Layout as layout
use Rattle.stream_layout.specs.Layout.{Place, record_length, laid, spelt, at}
use Rattle.stream_layout.specs.declared.Fields.{Fields}
use Rattle.stream_record_laws.proofs.Numbers.{number_of_bytes, bytes_of_number}

-- fields that fit their places
pub record Fit (f : Fields) : Type 0 where
  pub cipher : f.cipher < 256
  pub key_length_lem : f.key_length < 256
  pub direction : f.direction < 256
  pub closed : f.closed < 256
  pub count : f.count < 256 ^ layout.count_width
  pub chain : length f.chain ≡ 16
  pub held : length f.held ≡ 16

pub spelt-laid : (f : Fields) → Fit f → spelt (laid f) ≡ f
unfolding laid spelt
spelt-laid f h =
    let long = h.held in
    rw (
      number_of_bytes 1 f.cipher h.cipher,
      number_of_bytes 1 f.key_length h.key_length_lem,
      number_of_bytes 1 f.direction h.direction,
      number_of_bytes 1 f.closed h.closed,
      number_of_bytes layout.count_width f.count h.count,
      take_at f.chain f.held 16 h.chain,
      drop_at f.chain f.held 16 h.chain,
      take_all 16 f.held (omega arith),
    )

pub laid_long : (f : Fields) → Fit f → length (laid f) ≡ record_length
unfolding laid
laid_long f h =
    let c = h.chain in
    let l = h.held in
    length-append (layout.numbers f ++ f.chain) f.held ∙ rw (length-append (layout.numbers f) f.chain, c, l)

-- ---- and back
module _ (r : List ℕ) (long : length r ≡ record_length) (bytes : Words 8 r) where
  -- the bytes of a number, at its place
  number_at : (p : Place) → p.begins + p.width ≤ length r → bytes_in p.width (number_of (at p r)) ≡ at p r
  number_at p fits =
      let d = length-drop p.begins r in
      bytes_of_number p.width (at p r) (length-take-le p.width (drop p.begins r) (omega arith))
      (words_take 8 p.width (drop p.begins r) (words_drop 8 p.begins r bytes))

  -- all that stands before a place, and what stands there
  up_to : (p : Place) (x : List ℕ) → x ≡ take p.begins r → x ++ at p r ≡ take (p.begins + p.width) r
  up_to p x e = ap (λ (y : List ℕ). y ++ at p r) e ∙ sym (take-add p.begins p.width r)

  up_to_number : (p : Place) → p.begins + p.width ≤ length r → (x : List ℕ) → x ≡ take p.begins r
      → x ++ bytes_in p.width (number_of (at p r)) ≡ take (p.begins + p.width) r
  up_to_number p fits x e = ap (λ (y : List ℕ). x ++ y) (number_at p fits) ∙ up_to p x e

  pub laid-spelt : laid (spelt r) ≡ r
  unfolding laid spelt
  laid-spelt =
      let cipher = number_at layout.cipher (omega arith) in
      let key_length_lem = up_to_number layout.key_length (omega arith) _ cipher in
      let direction = up_to_number layout.direction (omega arith) _ key_length_lem in
      let closed = up_to_number layout.closed (omega arith) _ direction in
      let count = up_to_number layout.count (omega arith) _ closed in
      up_to layout.held _ (up_to layout.chain _ count) ∙ take_all record_length r (omega arith)
