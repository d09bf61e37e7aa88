-- A plain text is one cell of a line, and six of them with commas between them are a line of six cells.
use mathlib.Core.Path.{◌≡◌, refl, sym, ap, ◌∙◌}
use mathlib.Core.Bool.{true, false, ◌||◌}
use mathlib.Core.List.{List, [], ◌∷◌, ◌++◌, append-nil, append_assoc}
use Prim.Native.Nat.{ℕ, zero, suc, ◌-◌, ◌≤◌, ◌<◌}
use native.Mathlib.Omega.{arith}
use lib.Dec.{eqb}
use lib.ListN.{length, get_or, length-append}
use lib.Seq.{drop-append_seam}
use borrow.Author.Tests.{ne_eqb, lt-ltb}
use Rattle.cells.specs.Cells.{is_blank, before_blanks, plain, Cell, ends, bare, cell, behind_comma, at_most, cells, all_good, text_of}
use Rattle.cells.proofs.Texts.{no_blank_before}
use Rattle.cells.proofs.OneCell.{cell_bare, ended_well}
use Rattle.cells.proofs.AllCells.{cell_shorter}
use Rattle.card_table_laws.specs.Texts.{Only, PlainCharacter, Plain, good_cell, SixCells}

pub only_at : (P : ℕ → Type 0) (t : List ℕ) (i : ℕ) → i < length t → Only P t → P (get_or t i 0)
only_at P [] i h a = absurd (omega arith)
only_at P (c ∷ t) zero h a = a.0
only_at P (c ∷ t) (suc i) h a = only_at P t i (omega arith) a.1

-- ---- a plain character
module _ (c : ℕ) (p : PlainCharacter c) where
  not_blank : is_blank c ≡ false
  unfolding is_blank
  not_blank = rw (ne_eqb c 32 p.no_space, ne_eqb c 9 p.no_tab)

  not_end : (eqb c 44 || eqb c 34) ≡ false
  not_end = rw (ne_eqb c 44 p.no_comma, ne_eqb c 34 p.no_quote)

-- ---- a plain text is a cell, at the end of a line or before a comma
nothing_taken_off : (t : List ℕ) → Plain t → before_blanks t ≡ t
nothing_taken_off t p =
    let some = p.some in
    let last = not_blank (get_or t (length t - 1) 0) (only_at PlainCharacter t (length t - 1) (omega arith) p.only) in
    no_blank_before t some last

module _ (rest : List ℕ) (e : ends rest ≡ true) where
  plain_is : (t : List ℕ) → Only PlainCharacter t → plain (t ++ rest) ≡ t
  plain_is [] a = stops rest e
    where
      stops : (r : List ℕ) → ends r ≡ true → plain r ≡ []
      stops [] f = refl
      stops (c ∷ r) f = rw f
  plain_is (c ∷ t) a = rw (not_end c a.0) (ap (λ (l : List ℕ). c ∷ l) (plain_is t a.1))

  bare_plain : (t : List ℕ) → Plain t → bare (t ++ rest) ≡ good_cell t rest
  unfolding bare
  bare_plain t p =
      rw (plain_is t p.only, nothing_taken_off t p, drop-append_seam t rest) (ended_well t rest e)

  pub plain_cell : (t : List ℕ) → Plain t → cell (t ++ rest) ≡ good_cell t rest
  plain_cell [] p = let h = p.some in absurd (omega arith)
  plain_cell (c ∷ t) p =
      let first = p.only.0 in
      sym (cell_bare (c ∷ t ++ rest) {start = c ∷ t ++ rest} (rw (not_blank c first)) (λ h e. first.no_quote e)) ∙ bare_plain (c ∷ t) p

-- ---- what follows a cell is no longer than the text, so a line has no more cells if more are allowed
same_cells : (n m : ℕ) (l : List ℕ) → length l < n → length l < m → at_most n l ≡ at_most m l
same_cells zero m l h k = absurd (omega arith)
same_cells (suc n) zero l h k = absurd (omega arith)
same_cells (suc n) (suc m) l h k =
    ap (λ (cs : List Cell). cell l ∷ cs) (go (cell l).rest (cell_shorter l) (λ r a b. same_cells n m r a b))
  where
    go : (r : List ℕ) → length r ≤ length l → ((s : List ℕ) → length s < n → length s < m → at_most n s ≡ at_most m s)
        → behind_comma (at_most n) r ≡ behind_comma (at_most m) r
    go [] s f = refl
    go (c ∷ r) s f = f r (omega arith) (omega arith)

pub enough_cells : (n : ℕ) (l : List ℕ) → length l < n → at_most n l ≡ cells l
unfolding cells
enough_cells n l h = same_cells n (suc (length l)) l h (omega arith)

-- ---- the cells of a line that begins with a plain text
pub cells_last : (t : List ℕ) → Plain t → cells t ≡ good_cell t [] ∷ []
unfolding cells
cells_last t p = rw (sym (ap cell (append-nil t)) ∙ plain_cell [] refl t p)

pub cells_next : (t rest : List ℕ) → Plain t → cells (t ++ 44 ∷ rest) ≡ good_cell t (44 ∷ rest) ∷ cells rest
unfolding cells
cells_next t rest p =
    let l = length-append t (44 ∷ rest) in
    rw (plain_cell (44 ∷ rest) refl t p)
    (ap (λ (cs : List Cell). good_cell t (44 ∷ rest) ∷ cs) (enough_cells (length (t ++ 44 ∷ rest)) rest (omega arith)))

-- ---- six
regrouped : (a b c d e f : List ℕ) → a ++ b ++ c ++ d ++ e ++ f ≡ a ++ (b ++ (c ++ (d ++ (e ++ f))))
regrouped a b c d e f = simp append_assoc

module _ {a b c d e f : List ℕ} (pa : Plain a) (pb : Plain b) (pc : Plain c) (pd : Plain d) (pe : Plain e) (pf : Plain f) where
  abbrev six : List Cell → List Cell
  six cs =
      good_cell a (44 ∷ (b ++ 44 ∷ (c ++ 44 ∷ (d ++ 44 ∷ (e ++ 44 ∷ f))))) ∷ good_cell b (44 ∷ (c ++ 44 ∷ (d ++ 44 ∷ (e ++ 44 ∷ f))))
      ∷ good_cell c (44 ∷ (d ++ 44 ∷ (e ++ 44 ∷ f))) ∷ good_cell d (44 ∷ (e ++ 44 ∷ f)) ∷ good_cell e (44 ∷ f) ∷ cs

  cells_are : cells (a ++ 44 ∷ b ++ 44 ∷ c ++ 44 ∷ d ++ 44 ∷ e ++ 44 ∷ f) ≡ six (good_cell f [] ∷ [])
  cells_are =
      ap cells (regrouped a (44 ∷ b) (44 ∷ c) (44 ∷ d) (44 ∷ e) (44 ∷ f))
      ∙ rw (
        cells_next a (b ++ 44 ∷ (c ++ 44 ∷ (d ++ 44 ∷ (e ++ 44 ∷ f)))) pa,
        cells_next b (c ++ 44 ∷ (d ++ 44 ∷ (e ++ 44 ∷ f))) pb,
        cells_next c (d ++ 44 ∷ (e ++ 44 ∷ f)) pc,
        cells_next d (e ++ 44 ∷ f) pd,
        cells_next e f pe,
        cells_last f pf,
      )

  pub six_cells : SixCells (a ++ 44 ∷ b ++ 44 ∷ c ++ 44 ∷ d ++ 44 ∷ e ++ 44 ∷ f) a b c d e f
  six_cells = record {
    six = ap length cells_are;
    good = ap all_good cells_are;
    filled = rw (cells_are, lt-ltb 0 (length a) pa.some);
    text_0 = ap (λ (cs : List Cell). text_of cs 0) cells_are;
    text_1 = ap (λ (cs : List Cell). text_of cs 1) cells_are;
    text_2 = ap (λ (cs : List Cell). text_of cs 2) cells_are;
    text_3 = ap (λ (cs : List Cell). text_of cs 3) cells_are;
    text_4 = ap (λ (cs : List Cell). text_of cs 4) cells_are;
    text_5 = ap (λ (cs : List Cell). text_of cs 5) cells_are;
  }
