-- mds_L and its inverse (002, section 3.7) as the code takes them: the turned sum of the tables' words.
use mathlib.Core.Path.{◌≡◌, refl}
use mathlib.Core.List.{List}
use Prim.Native.Nat.{ℕ}
use lib.Dec.{lit<}
use lib.ListN.{get_or}
use Rattle.laws.specs.Field.{product}
use Rattle.laws.proofs.Field.{product_lt}
use Rattle.hierocrypt3_tables.specs.Operations.{p, s, mds_l, mds_l⁻}
use Rattle.hierocrypt3_tables.specs.code.Tables.{t, u}
use Rattle.hierocrypt3_steps.specs.code.Columns.{s_column, turned_sum}
use Rattle.hierocrypt3_steps.proofs.Circulant.{turned_bytes}

pub mds_l_turned : (x : List ℕ) → turned_sum (t (get_or x 0 0)) (t (get_or x 1 0)) (t (get_or x 2 0)) (t (get_or x 3 0)) ≡ mds_l (s_column x)
unfolding t mds_l s_column
mds_l_turned x =
    turned_bytes (product p 0xc4) (product p 0x8b) (product p 0xc8) (product p 0x65)
    (λ y. product_lt p 0xc4 y refl (lit< tt)) (λ y. product_lt p 0x8b y refl (lit< tt))
    (λ y. product_lt p 0xc8 y refl (lit< tt)) (λ y. product_lt p 0x65 y refl (lit< tt))
    (s (get_or x 0 0)) (s (get_or x 1 0)) (s (get_or x 2 0)) (s (get_or x 3 0))

pub mds_l⁻_turned : (x : List ℕ) → turned_sum (u (get_or x 0 0)) (u (get_or x 1 0)) (u (get_or x 2 0)) (u (get_or x 3 0)) ≡ mds_l⁻ x
unfolding u mds_l⁻
mds_l⁻_turned x =
    turned_bytes (product p 0x82) (product p 0xf6) (product p 0x34) (product p 0xc4)
    (λ y. product_lt p 0x82 y refl (lit< tt)) (λ y. product_lt p 0xf6 y refl (lit< tt))
    (λ y. product_lt p 0x34 y refl (lit< tt)) (λ y. product_lt p 0xc4 y refl (lit< tt))
    (get_or x 0 0) (get_or x 1 0) (get_or x 2 0) (get_or x 3 0)
