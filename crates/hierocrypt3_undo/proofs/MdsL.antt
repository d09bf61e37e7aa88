-- mds_L and its inverse (002, section 3.7) undo one another.
use mathlib.Core.Path.{refl}
use Rattle.laws.specs.Bytes.{Bytes}
use Rattle.laws.specs.Field.{product}
use Rattle.laws.specs.Inverse.{Inverse}
use Rattle.laws.proofs.Field.{product_lt, product_xor_r}
use Rattle.laws.proofs.Matrix.{matrix_inverse}
use Rattle.hierocrypt3_tables.specs.Operations.{p, rows_l, rows_l⁻, mds_l, mds_l⁻}

pub mds_l_inverse : Inverse (Bytes 4) mds_l mds_l⁻
unfolding mds_l mds_l⁻ product
mds_l_inverse =
    matrix_inverse 8 4 (product p) (λ c x y hx hy. product_xor_r p c x y) (λ c x hc hx. product_lt p c x refl hc) rows_l rows_l⁻ tt tt tt tt
