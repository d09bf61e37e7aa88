use mathlib.Core.Path.{sym, ap, ◌≡◌}
use Prim.Native.Nat.{ℕ}
use native.Mathlib.Omega.{arith}
use lib.Dec.{ltb, ltb→lt}
use lib.ListN.{get_or}
use borrow.Author.Rules.{rules}
use Rattle.laws.proofs.Table.{table_at}
use Rattle.hierocrypt3_tables.specs.Constants.{row}
use Rattle.hierocrypt3_tables.proofs.constants.row_at.Goals as goal

pub returns-then-length-eq16 : goal.returns-then-length-eq16
returns-then-length-eq16 c = let args = c.args in (
  ap (λ (n : ℕ). get_or (row n) args.t 0) (sym c.if-length-eq16.true),
  ltb→lt (get_or (row 16) args.t 0) 6
      (table_at (λ k x. ltb x 6) (row 16) tt args.t (search rules)),
)

pub returns-then-length-eq24 : goal.returns-then-length-eq24
returns-then-length-eq24 c = let args = c.args in (
  ap (λ (n : ℕ). get_or (row n) args.t 0) (sym c.if-length-eq24.true),
  ltb→lt (get_or (row 24) args.t 0) 6
      (table_at (λ k x. ltb x 6) (row 24) tt args.t (search rules)),
)

pub returns : goal.returns
returns c = let args = c.args in
    let e : 32 ≡ args.length.bytes = omega arith in
    (ap (λ (n : ℕ). get_or (row n) args.t 0) e, ltb→lt (get_or (row 32) args.t 0) 6 (table_at (λ k x. ltb x 6) (row 32) tt args.t (search rules)))
