-- What stands in front of the records: a byte-order mark, and the header. And a line's end.
use mathlib.Core.Path.{◌≡◌, refl, sym, ap, ◌∙◌}
use mathlib.Core.Bool.{Bool, true, false, true≢false}
use mathlib.Core.List.{List, [], ◌∷◌}
use Prim.Native.Nat.{ℕ, suc, ◌+◌, ◌-◌, ◌≤◌, ◌<◌}
use native.Mathlib.Omega.{arith}
use lib.ListN.{length, take, drop, get_or}
use lib.Dec.{eqb}
use borrow.Author.Tests.{eq-eqb, ne_eqb, eqb-true}
use Rattle.laws.specs.Choice.{choose}
use Rattle.spelling.specs.Word.{spells}
use Rattle.cells.specs.Cells.{before_blanks, ended, bare, cell, cells, all_good, text_of}
use Rattle.card_table.specs.Table.{behind_mark, lines, without_return, header, spell_header, is_header, read_as, with_lines, from_lines, read_table}
use Rattle.card_table.specs.code.Line.{line_of}
use Rattle.card_table.proofs.Lines.{first_line}

-- ---- a byte-order mark
pub mark : (t : List ℕ) → 3 ≤ length t → get_or t 0 0 ≡ 239 → get_or t 1 0 ≡ 187 → get_or t 2 0 ≡ 191 → drop 3 t ≡ behind_mark t
unfolding behind_mark
mark [] h a b c = refl
mark (x ∷ []) h a b c = absurd (omega arith)
mark (x ∷ y ∷ []) h a b c = absurd (omega arith)
mark (x ∷ y ∷ z ∷ t) h a b c = rw (eq-eqb x 239 a, eq-eqb y 187 b, eq-eqb z 191 c)

pub no_mark : (t : List ℕ) → (3 ≤ length t → get_or t 0 0 ≡ 239 → get_or t 1 0 ≡ 187 → get_or t 2 0 ≡ 191 → ⊥) → t ≡ behind_mark t
unfolding behind_mark
no_mark [] n = refl
no_mark (x ∷ []) n = go (eqb x 239)
  where
    go : (a : Bool) → x ∷ [] ≡ choose (choose a false false) [] (x ∷ [])
    go true = refl
    go false = refl
no_mark (x ∷ y ∷ []) n = go (eqb x 239) (eqb y 187)
  where
    go : (a b : Bool) → x ∷ y ∷ [] ≡ choose (choose a (choose b false false) false) [] (x ∷ y ∷ [])
    go true true = refl
    go true false = refl
    go false b = refl
no_mark (x ∷ y ∷ z ∷ t) n = go (eqb x 239) refl (eqb y 187) refl (eqb z 191) refl
  where
    go : (a : Bool) → eqb x 239 ≡ a → (b : Bool) → eqb y 187 ≡ b → (c : Bool) → eqb z 191 ≡ c
        → x ∷ y ∷ z ∷ t ≡ choose (choose a (choose b (choose c true false) false) false) t (x ∷ y ∷ z ∷ t)
    go true p true q true r = absurd (n (omega arith) (eqb-true x 239 p) (eqb-true y 187 q) (eqb-true z 191 r))
    go true p true q false r = refl
    go true p false q c r = refl
    go false p b q c r = refl

-- ---- a carriage return at the end
pub return_taken_off : (w : List ℕ) → get_or w (length w - 1) 0 ≡ 13 → take (length w - 1) w ≡ without_return w
unfolding without_return
return_taken_off w e = rw (eq-eqb (get_or w (length w - 1) 0) 13 e)

pub no_return : (w : List ℕ) → (1 ≤ length w → get_or w (length w - 1) 0 ≡ 13 → ⊥) → w ≡ without_return w
unfolding without_return
no_return [] n = refl
no_return (c ∷ w) n = rw (ne_eqb (get_or (c ∷ w) (length (c ∷ w) - 1) 0) 13 (n (omega arith)))

-- ---- the header's cells, from number k on
module _ (line : List ℕ) (k : ℕ) where
  one_more : k < 6 → spell_header line k (6 - k) ≡ spell_header line k (suc (6 - (k + 1)))
  one_more h = let e : 6 - k ≡ suc (6 - (k + 1)) = omega arith in ap (spell_header line k) e

  pub spells_on : k < 6 → spells (text_of (cells line) k) (text_of (cells header) k) ≡ true
      → spell_header line k (6 - k) ≡ spell_header line (k + 1) (6 - (k + 1))
  spells_on h e = one_more h ∙ rw e

  pub spells_not : k < 6 → spells (text_of (cells line) k) (text_of (cells header) k) ≡ false → spell_header line k (6 - k) ≡ false
  spells_not h e = one_more h ∙ rw e

  pub spells_all : 6 ≤ k → spell_header line k (6 - k) ≡ true
  spells_all h = let e : 6 - k ≡ 0 = omega arith in ap (spell_header line k) e

module _ (line : List ℕ) where
  pub quote_in_header : all_good (cells line) ≡ false → false ≡ is_header line
  unfolding is_header
  quote_in_header g = rw g

  module _ (g : all_good (cells line) ≡ true) where
    pub not_six : (length (cells line) ≡ 6 → ⊥) → false ≡ is_header line
    unfolding is_header
    not_six n = rw (g, ne_eqb (length (cells line)) 6 n)

    pub by_cells : length (cells line) ≡ 6 → spell_header line 0 6 ≡ is_header line
    unfolding is_header
    by_cells n = rw (g, eq-eqb (length (cells line)) 6 n)

-- ---- the table, by its first line
no_header : is_header (without_return []) ≡ true → ⊥
unfolding is_header without_return cells cell bare ended before_blanks
no_header e = true≢false (sym e)

module _ (card : List ℕ) where
  by_first_line : (l : List ℕ) → is_header (without_return (line_of l)) ≡ true
      → with_lines (read_as true 0 card) (lines (drop (suc (length (line_of l))) l)) ≡ from_lines card (lines l)
  by_first_line [] e = absurd (no_header e)
  by_first_line (c ∷ t) e = sym (ap (from_lines card) (first_line c t) ∙ rw e)

  no_first_line : (l : List ℕ) → is_header (without_return (line_of l)) ≡ false → read_as false 0 card ≡ from_lines card (lines l)
  no_first_line [] e = refl
  no_first_line (c ∷ t) e = sym (ap (from_lines card) (first_line c t) ∙ rw e)

  module _ (t : List ℕ) {text : List ℕ} (m : text ≡ behind_mark t) {line : List ℕ} (l : line ≡ without_return (line_of text)) where
    pub header_wrong : is_header line ≡ false → read_as false 0 card ≡ read_table t card
    unfolding read_table
    header_wrong h = no_first_line text (sym (ap is_header l) ∙ h) ∙ ap (λ (u : List ℕ). from_lines card (lines u)) m

    pub header_right : {rest : List ℕ} → rest ≡ drop (suc (length (line_of text))) text → is_header line ≡ true
        → with_lines (read_as true 0 card) (lines rest) ≡ read_table t card
    unfolding read_table
    header_right r h =
        ap (λ (u : List ℕ). with_lines (read_as true 0 card) (lines u)) r
        ∙ by_first_line text (sym (ap is_header l) ∙ h) ∙ ap (λ (u : List ℕ). from_lines card (lines u)) m
