-- One of two, by a test.
use Rattle.std.specs.Prelude.{Bool, true, false}

abbrev pub choose {ℓ} : {A : Type ℓ} → Bool → A → A → A
choose true a b = a
choose false a b = b
