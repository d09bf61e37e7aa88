-- A rule's constants as an array holds them: each stands at its place.
use mathlib.Core.Path.{◌≡◌, ap}
use mathlib.Core.List.{List}
use Prim.Native.Nat.{ℕ}
use lib.ListN.{get_or}
use Rattle.noekeon_steps.specs.Rule.{rule_of}
use Rattle.noekeon_steps.specs.declared.Version.{Version}
use Rattle.noekeon.specs.Noekeon.{constant}

pub constant_at : (v : Version) (constants : List ℕ) → constants ≡ (rule_of v).constants → (i : ℕ) → get_or constants i 0 ≡ constant (rule_of v) i
constant_at v constants own i = ap (λ (l : List ℕ). get_or l i 0) own
