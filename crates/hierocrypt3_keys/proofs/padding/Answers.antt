use mathlib.Core.Path.{◌≡◌, sym, ap, ◌∙◌}
use mathlib.Core.List.{List, ◌++◌}
use Prim.Native.Nat.{ℕ}
use native.Mathlib.Omega.{arith}
use lib.ListN.{length}
use Rattle.hierocrypt3_keys.specs.declared.Intermediate.{Intermediate}
use Rattle.hierocrypt3_tables.specs.Constants.{by_length, H2, H3}
use Rattle.hierocrypt3_keys.specs.Keys.{quarter, padding}
use Rattle.hierocrypt3_keys.proofs.padding.Goals as goal

padded : ℕ → List ℕ → Intermediate
padded n key =
    let k : ℕ → List ℕ = quarter key in
    record { z1 = k 0; z2 = k 1; z3 = by_length n (k 0) (k 2) (k 2); z4 = by_length n (H3 ++ H2) (H2 ++ H3) (k 3) }

pub returns-then-key-eq16 : goal.returns-then-key-eq16
unfolding padding padded
returns-then-key-eq16 c = (λ i. record { z1 = c.part-k1.ensures.placed i; z2 = c.part-k2.ensures.placed i; z3 = c.part-k1.ensures.placed i; z4 = H3 ++ H2 })
    ∙ ap (λ (n : ℕ). padded n c.args.key.now) (sym c.if-key-eq16.true)

pub returns-then-key-eq24 : goal.returns-then-key-eq24
unfolding padding padded
returns-then-key-eq24 c = (λ i. record { z1 = c.part-k1.ensures.placed i; z2 = c.part-k2.ensures.placed i; z3 = c.part-k3.ensures.placed i; z4 = H2 ++ H3 })
    ∙ ap (λ (n : ℕ). padded n c.args.key.now) (sym c.if-key-eq24.true)

pub returns : goal.returns
unfolding padding padded
returns c = let key = c.args.key.now in
    let e : 32 ≡ length key = omega arith in
    (λ i. record { z1 = c.part-k1.ensures.placed i; z2 = c.part-k2.ensures.placed i; z3 = c.part-k3.ensures.placed i; z4 = c.part-k4.ensures.placed i })
    ∙ ap (λ (n : ℕ). padded n key) e
