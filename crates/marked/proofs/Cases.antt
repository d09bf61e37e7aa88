-- The marked cases hold. Each is computed; the inverse by squaring, since its plain power has 2^31 - 1 factors.
use mathlib.Core.Path.{◌≡◌, refl, ap}
use mathlib.Core.List.{[], ◌∷◌}
use Prim.Native.Nat.{ℕ}
use Rattle.laws.specs.Field.{product, power}
use Rattle.laws.proofs.OddInverse.{odd_inverse_computes}
use Rattle.hierocrypt3_tables.specs.Operations as hierocrypt3
use Rattle.hierocrypt3_keys.specs.Operations as hierocrypt3-keys
use Rattle.e2_table.specs.Substitution as e2-table
use Rattle.e2_steps.specs.Steps as e2
use Rattle.marked.specs.Cases.{cases, Hold}

inverse_of_3 : e2.inverse 3 ≡ 2863311531
unfolding e2.inverse
inverse_of_3 = odd_inverse_computes 31 3

pub marked_cases : Hold cases
unfolding cases product power hierocrypt3.s hierocrypt3.permute_bits hierocrypt3-keys.P hierocrypt3.mds_l e2-table.s e2.BRL e2.BP e2.P
marked_cases =
    (refl, (refl, (refl, (refl, (ap (λ (n : ℕ). n ∷ []) inverse_of_3, (refl, (refl, (refl, (refl, (refl, (refl, (refl, (refl, (refl, tt))))))))))))))
