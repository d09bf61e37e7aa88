-- Numbers of any width, byte by byte: the loops of `number`.
use mathlib.Core.Path.{◌≡◌, refl, sym, ap, ◌∙◌}
use mathlib.Core.List.{List, ◌∷◌, ◌++◌, append_assoc}
use Prim.Native.Nat.{ℕ, zero, suc, ◌+◌, ◌-◌, ◌*◌, ◌/◌, ◌%◌, ◌^◌, ◌≤◌, ◌<◌}
use native.Mathlib.Nat.{pow-suc, pow-le-pow_right, div-div-eq-div-mul}
use native.Mathlib.Numerals.{add-one}
use native.Mathlib.Omega.{arith}
use lib.ListN.{length, take, drop, get_or, set, take-append-drop, length-append, length-drop, drop_of_length-le}
use lib.Seq.{take-suc, drop-cons, append_snoc, set_at, get_or-take, get_or-drop, length-take-le}
use Rattle.stream_layout.specs.Number.{bytes_in, number_from, number_of}

pub length-bytes_in : (w n : ℕ) → length (bytes_in w n) ≡ w
length-bytes_in zero n = refl
length-bytes_in (suc w) n = ap suc (length-bytes_in w n)

-- what a number leaves behind its w + 1 last bytes is what the w last leave, less one byte
pub one_more : (n w : ℕ) → n / 256 ^ w / 256 ≡ n / 256 ^ suc w
one_more n w = div-div-eq-div-mul n (256 ^ w) 256 ∙ ap (λ (p : ℕ). n / p) (sym (pow-suc 256 w))

-- ---- put, from the last byte on
-- all bytes of the field from k on are laid, and `rest` is what is left of n
pub record Laid (o : List ℕ) (at width n : ℕ) (o' : List ℕ) (rest k : ℕ) : Type 0 where
  pub within : k ≤ width
  pub rest_is : rest ≡ n / 256 ^ (width - k)
  pub bytes : o' ≡ take (at + k) o ++ (bytes_in (width - k) n ++ drop (at + width) o)

module _ (o : List ℕ) (at width n : ℕ) where
  pub put_start : Laid o at width n o n width
  put_start =
      let none : width - width ≡ 0 = omega arith in
      record {
        within = omega arith;
        rest_is = rw none (omega arith);
        bytes = rw none (sym (take-append-drop (at + width) o));
      }

  pub put_step : at + width ≤ length o → (o' : List ℕ) (rest j : ℕ) → Laid o at width n o' rest (suc j)
      → Laid o at width n (set o' (at + j) (rest % 256)) (rest / 256) j
  put_step fits o' rest j h =
      let w = h.within in
      let more : width - j ≡ suc (width - suc j) = omega arith in
      let next : at + suc j ≡ suc (at + j) = omega arith in
      let B : List ℕ = bytes_in (width - suc j) n ++ drop (at + width) o in
      let longer = take-suc o (at + j) 0 (omega arith) in
      let laid-so-far : o' ≡ take (at + j) o ++ get_or o (at + j) 0 ∷ B =
      h.bytes ∙ ap (λ (k : ℕ). take k o ++ B) next ∙ ap (λ (l : List ℕ). l ++ B) longer ∙ append_snoc (take (at + j) o) (get_or o (at + j) 0) B in
      let stored = set_at (take (at + j) o) (get_or o (at + j) 0) B (rest % 256) (at + j) (length-take-le (at + j) o (omega arith)) in
      record {
        within = omega arith;
        rest_is = ap (λ (r : ℕ). r / 256) h.rest_is ∙ one_more n (width - suc j) ∙ ap (λ (k : ℕ). n / 256 ^ k) (sym more);
        bytes =
            ap (λ (l : List ℕ). set l (at + j) (rest % 256)) laid-so-far ∙ stored
            ∙ ap (λ (r : ℕ). take (at + j) o ++ (r % 256) ∷ B) h.rest_is
            ∙ ap (λ (k : ℕ). take (at + j) o ++ (bytes_in k n ++ drop (at + width) o)) (sym more);
      }

  pub put_length : at + width ≤ length o → (o' : List ℕ) (rest k : ℕ) → Laid o at width n o' rest k → length o' ≡ length o
  put_length fits o' rest k h =
      let w = h.within in
      let l = length-bytes_in (width - k) n in
      let t = length-take-le (at + k) o (omega arith) in
      let d = length-drop (at + width) o in
      ap length h.bytes ∙ simp length-append (omega arith)

  pub put_end : (o' : List ℕ) (rest k : ℕ) → Laid o at width n o' rest k → k ≤ 0 → o' ≡ take at o ++ bytes_in width n ++ drop (at + width) o
  put_end o' rest k h z =
      let none : k ≡ 0 = omega arith in
      let all : width - k ≡ width = omega arith in
      let here : at + k ≡ at = omega arith in
      h.bytes ∙ rw (all, here, append_assoc)

-- ---- at, from the first byte on
-- n is the number of the first i bytes, and what it spells with the others behind it is the number of all
pub record Read (bytes : List ℕ) (from width n i : ℕ) : Type 0 where
  pub within : i ≤ width
  pub small : n < 256 ^ i
  pub ahead : number_from n (drop i (take width (drop from bytes))) ≡ number_of (take width (drop from bytes))

module _ (bytes : List ℕ) (from width : ℕ) where
  pub read_start : Read bytes from width 0 0
  read_start = record { within = omega arith; small = omega arith; ahead = refl }

  pub read_step : from + width ≤ length bytes → (n i : ℕ) → Read bytes from width n i → i < width → get_or bytes (from + i) 0 < 256
      → Read bytes from width (n * 256 + get_or bytes (from + i) 0) (i + 1)
  read_step fits n i h l b =
      let part : List ℕ = take width (drop from bytes) in
      let d = length-drop from bytes in
      let long : length part ≡ width = length-take-le width (drop from bytes) (omega arith) in
      let s = h.small in
      let p = pow-suc 256 i in
      let here : get_or part i 0 ≡ get_or bytes (from + i) 0 = get_or-take width (drop from bytes) i 0 l ∙ get_or-drop from bytes i 0 in
      let cut = drop-cons part i 0 (omega arith) in
      record {
        within = omega arith;
        small = rw add-one (omega arith);
        ahead =
            rw add-one (ap (λ (x : ℕ). number_from (n * 256 + x) (drop (suc i) part)) (sym here) ∙ ap (number_from n) (sym cut) ∙ h.ahead);
      }

  pub read_small : (n i : ℕ) → Read bytes from width n i → i < width → width ≤ 8 → n < 72057594037927936
  read_small n i h l w =
      let s = h.small in
      let p : 256 ^ i ≤ 256 ^ 7 = pow-le-pow_right {n = 256} (omega arith) {i = i} {j = 7} (omega arith) in
      omega arith

  pub read_end : from + width ≤ length bytes → (n i : ℕ) → Read bytes from width n i → width ≤ i → n ≡ number_of (take width (drop from bytes))
  read_end fits n i h l =
      let d = length-drop from bytes in
      let long = length-take-le width (drop from bytes) (omega arith) in
      ap (number_from n) (sym (drop_of_length-le (take width (drop from bytes)) {i = i} (omega arith))) ∙ h.ahead

pub one_byte : (r : List ℕ) (i : ℕ) → i < length r → number_of (take 1 (drop i r)) ≡ get_or r i 0
one_byte r i h = rw (drop-cons r i 0) (omega arith)
