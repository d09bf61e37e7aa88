-- A cell by the parts of a text.
use mathlib.Core.Path.{◌≡◌, sym, ap, ◌∙◌}
use mathlib.Core.Bool.{true}
use mathlib.Core.List.{List}
use Prim.Native.Nat.{ℕ, ◌≤◌}
use lib.ListN.{length, get_or, drop}
use Rattle.cells.specs.Cells.{behind_blanks, in_quotes, begins, out_of_place, ends, ended, bare, quoted, cell}
use Rattle.cells.proofs.Texts.{begins_first, begins_not}

module _ (l : List ℕ) {inside closing : List ℕ} (i : inside ≡ in_quotes l) (c : closing ≡ drop (length (in_quotes l)) l) where
  pub quoted_closed : 1 ≤ length closing → get_or closing 0 0 ≡ 34 → ended inside (behind_blanks (drop 1 closing)) ≡ quoted l
  unfolding quoted
  quoted_closed h e = let b = sym (ap (begins 34) c) ∙ begins_first 34 closing h e in rw (i, c, b)

  pub quoted_open : (1 ≤ length closing → get_or closing 0 0 ≡ 34 → ⊥) → quoted l ≡ out_of_place
  unfolding quoted
  quoted_open n = let b = sym (ap (begins 34) c) ∙ begins_not 34 closing n in rw b

module _ (l : List ℕ) {start : List ℕ} (s : start ≡ behind_blanks l) where
  pub cell_quoted : 1 ≤ length start → get_or start 0 0 ≡ 34 → quoted (drop 1 start) ≡ cell l
  unfolding cell
  cell_quoted h e = let b = sym (ap (begins 34) s) ∙ begins_first 34 start h e in rw (s, b)

  pub cell_bare : (1 ≤ length start → get_or start 0 0 ≡ 34 → ⊥) → bare start ≡ cell l
  unfolding cell
  cell_bare n = let b = sym (ap (begins 34) s) ∙ begins_not 34 start n in rw (s, b)

pub ended_well : (text rest : List ℕ) → ends rest ≡ true → ended text rest ≡ record { good = true; text = text; rest = rest }
unfolding ended
ended_well text rest e = rw e
