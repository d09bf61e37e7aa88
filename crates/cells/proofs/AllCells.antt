-- All cells of a line, one after the other.
use mathlib.Core.Path.{◌≡◌, sym, ap, ◌∙◌}
use mathlib.Core.Bool.{Bool, true, false, ◌&&◌, ◌||◌, or-false, or_assoc}
use mathlib.Core.List.{List, [], ◌∷◌}
use Prim.Native.Nat.{ℕ, suc, ◌+◌, ◌-◌, ◌≤◌, ◌<◌}
use native.Mathlib.Omega.{arith}
use lib.Dec.{ltb}
use lib.ListN.{length, get_or, take, drop, length-drop}
use Rattle.std.proofs.lemmas.Slice.{first_rest}
use Rattle.laws.specs.Choice.{choose}
use Rattle.cells.specs.Cells.{Cell, out_of_place, is_blank, behind_blanks, before_blanks, plain, in_quotes, begins, ends, ended, bare, quoted, cell, behind_comma, at_most, cells, all_good, any_filled, text_of}
use Rattle.cells.specs.code.Found.{Holds}

-- ---- what follows a cell is no longer than the text
blanks_shorter : (l : List ℕ) → length (behind_blanks l) ≤ length l
blanks_shorter [] = omega arith
blanks_shorter (c ∷ l) = go (is_blank c) (blanks_shorter l)
  where
    go : (b : Bool) → length (behind_blanks l) ≤ length l → length (choose b (behind_blanks l) (c ∷ l)) ≤ suc (length l)
    go true h = omega arith
    go false h = omega arith

ended_shorter : (text rest : List ℕ) → length (ended text rest).rest ≤ length rest
unfolding ended
ended_shorter text rest = go (ends rest)
  where
    go : (b : Bool) → length (choose b (record { good = true; text = text; rest = rest }) out_of_place).rest ≤ length rest
    go true = omega arith
    go false = omega arith

bare_shorter : (l : List ℕ) → length (bare l).rest ≤ length l
unfolding bare
bare_shorter l =
    let e = ended_shorter (before_blanks (plain l)) (drop (length (plain l)) l) in
    let d = length-drop (length (plain l)) l in
    omega arith

quoted_shorter : (l : List ℕ) → length (quoted l).rest ≤ length l
unfolding quoted
quoted_shorter l = go (begins 34 closing)
  where
    closing : List ℕ
    closing = drop (length (in_quotes l)) l

    go : (b : Bool) → length (choose b (ended (in_quotes l) (behind_blanks (drop 1 closing))) out_of_place).rest ≤ length l
    go true =
        let e = ended_shorter (in_quotes l) (behind_blanks (drop 1 closing)) in
        let f = blanks_shorter (drop 1 closing) in
        let g = length-drop 1 closing in
        let h = length-drop (length (in_quotes l)) l in
        omega arith
    go false = omega arith

pub cell_shorter : (l : List ℕ) → length (cell l).rest ≤ length l
unfolding cell
cell_shorter l = go (begins 34 (behind_blanks l))
  where
    go : (b : Bool) → length (choose b (quoted (drop 1 (behind_blanks l))) (bare (behind_blanks l))).rest ≤ length l
    go true =
        let e = quoted_shorter (drop 1 (behind_blanks l)) in
        let f = length-drop 1 (behind_blanks l) in
        let g = blanks_shorter l in
        omega arith
    go false =
        let e = bare_shorter (behind_blanks l) in
        let g = blanks_shorter l in
        omega arith

-- a cell whose rest is not empty
pub with_rest : (c : Cell) (t r : List ℕ) → c ≡ record { good = true; text = t; rest = r } → 1 ≤ length r
    → c ≡ record { good = true; text = t; rest = get_or r 0 0 ∷ take (length r - 1) (drop 1 r) }
with_rest c t r e h = e ∙ ap (λ (x : List ℕ). record { good = true; text = t; rest = x }) (first_rest r 0 h)

-- ---- the cells of the rest of a line, where k stand before it
abbrev pub cells_from : (line rest : List ℕ) → ℕ → List Cell
cells_from line rest k = at_most (suc (length line - k)) rest

cells_start : (line : List ℕ) → cells_from line line 0 ≡ cells line
unfolding cells
cells_start line =
    let e : length line - 0 ≡ length line = omega arith in
    ap (λ (n : ℕ). at_most (suc n) line) e

module _ (line rest : List ℕ) (k : ℕ) where
  pub cells_last : (cell rest).rest ≡ [] → cells_from line rest k ≡ cell rest ∷ []
  cells_last e = ap (λ (s : List ℕ). cell rest ∷ behind_comma (at_most (length line - k)) s) e

  pub cells_next : {c : ℕ} {more : List ℕ} → (cell rest).rest ≡ c ∷ more → k + length rest ≤ length line
      → cells_from line rest k ≡ cell rest ∷ cells_from line more (k + 1)
  cells_next {c} {more} e h =
      let s = cell_shorter rest in
      let l = ap length e in
      let n : length line - k ≡ suc (length line - (k + 1)) = omega arith in
      ap (λ (s : List ℕ). cell rest ∷ behind_comma (at_most (length line - k)) s) e
      ∙ ap (λ (m : ℕ). cell rest ∷ at_most m more) n

-- ---- cells counted, and looked at: no quote was out of place
pub record Counting (line rest : List ℕ) (k : ℕ) (filled : Bool) : Type 0 where
  pub few : k + length rest ≤ length line
  pub counted : k + length (cells_from line rest k) ≡ length (cells line)
  pub all_good : all_good (cells_from line rest k) ≡ all_good (cells line)
  pub any_filled : (filled || any_filled (cells_from line rest k)) ≡ any_filled (cells line)

pub counting_start : (line : List ℕ) → Counting line line 0 false
counting_start line =
    let e = cells_start line in
    let n = ap length e in
    record { few = omega arith; counted = omega arith; all_good = ap all_good e; any_filled = ap any_filled e }

module _ {line rest : List ℕ} {k : ℕ} {filled : Bool} (s : Counting line rest k filled) where
  pub counting_next : {t more : List ℕ} {c : ℕ} → cell rest ≡ record { good = true; text = t; rest = c ∷ more }
      → Counting line more (k + 1) (filled || ltb 0 (length t))
  counting_next {t} {more} {c} e =
      let few = s.few in
      let short = cell_shorter rest in
      let l = ap (λ (x : Cell). length x.rest) e in
      let n = cells_next line rest k (ap (λ (x : Cell). x.rest) e) few in
      let m = ap length n in
      let counted = s.counted in
      record {
        few = omega arith;
        counted = omega arith;
        all_good = sym (ap all_good n ∙ ap (λ (x : Cell). x.good && all_good (cells_from line more (k + 1))) e) ∙ s.all_good;
        any_filled =
            or_assoc filled (ltb 0 (length t)) (any_filled (cells_from line more (k + 1)))
            ∙ sym (ap (λ (x : Bool). filled || x) (ap any_filled n ∙ ap (λ (x : Cell). ltb 0 (length x.text) || any_filled (cells_from line more (k + 1))) e))
            ∙ s.any_filled;
      }

  pub counting_end : {t : List ℕ} → cell rest ≡ record { good = true; text = t; rest = [] }
      → Holds (cells line) (record { good = true; cells = k + 1; filled = filled || ltb 0 (length t) })
  counting_end {t} e =
      let n = cells_last line rest k (ap (λ (x : Cell). x.rest) e) in
      let m = ap length n in
      let counted = s.counted in
      record {
        good = sym (ap all_good n ∙ ap (λ (x : Cell). x.good && true) e) ∙ s.all_good;
        cells = omega arith;
        filled =
            sym (ap (λ (x : Bool). filled || x) (ap any_filled n ∙ ap (λ (x : Cell). ltb 0 (length x.text) || false) e ∙ or-false (ltb 0 (length t))))
            ∙ s.any_filled;
      }

  pub counting_bad : cell rest ≡ out_of_place → Holds (cells line) (record { good = false; cells = k + 1; filled = filled })
  counting_bad e =
      let n = cells_last line rest k (ap (λ (x : Cell). x.rest) e) in
      let m = ap length n in
      let counted = s.counted in
      record {
        good = sym (ap all_good n ∙ ap (λ (x : Cell). x.good && true) e) ∙ s.all_good;
        cells = omega arith;
        filled = sym (ap (λ (x : Bool). filled || x) (ap any_filled n ∙ ap (λ (x : Cell). ltb 0 (length x.text) || false) e) ∙ or-false filled) ∙ s.any_filled;
      }

-- ---- on the way to cell n
pub record Reaching (line : List ℕ) (n : ℕ) (rest : List ℕ) (k : ℕ) : Type 0 where
  pub few : k + length rest ≤ length line
  pub text : text_of (cells line) n ≡ text_of (cells_from line rest k) (n - k)

pub reaching_start : (line : List ℕ) (n : ℕ) → Reaching line n line 0
reaching_start line n =
    let m : n - 0 ≡ n = omega arith in
    record { few = omega arith; text = rw (cells_start line, m) }

module _ {line rest : List ℕ} {n k : ℕ} (s : Reaching line n rest k) where
  pub reached : n ≤ k → text_of (cells line) n ≡ (cell rest).text
  reached h =
      let m : n - k ≡ 0 = omega arith in
      s.text ∙ ap (text_of (cells_from line rest k)) m

  module _ (h : k < n) where
    past_first : (cs : List Cell) → cells_from line rest k ≡ cell rest ∷ cs → text_of (cells line) n ≡ text_of cs (n - (k + 1))
    past_first cs e =
        let m : n - k ≡ suc (n - (k + 1)) = omega arith in
        s.text ∙ ap (λ (l : List Cell). text_of l (n - k)) e ∙ ap (text_of (cell rest ∷ cs)) m

    pub reaching_next : {c : ℕ} {more : List ℕ} → (cell rest).rest ≡ c ∷ more → Reaching line n more (k + 1)
    reaching_next {c} {more} e =
        let few = s.few in
        let short = cell_shorter rest in
        let l = ap length e in
        record { few = omega arith; text = past_first (cells_from line more (k + 1)) (cells_next line rest k e few) }

    pub too_few : (cell rest).rest ≡ [] → text_of (cells line) n ≡ []
    too_few e = past_first [] (cells_last line rest k e)
