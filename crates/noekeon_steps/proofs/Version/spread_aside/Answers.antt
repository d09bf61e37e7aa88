-- `Version::spread_aside`: turned by 16 and then by 24 is turned by 8.
use mathlib.Core.Path.{◌≡◌, sym, ap, ◌∙◌}
use Prim.Native.Nat.{ℕ, ◌^◌, ◌<◌}
use native.Mathlib.Omega.{arith}
use lib.Bits.{bit_xor}
use Rattle.laws.specs.Bytes.{Word}
use Rattle.laws.specs.Turn.{turn}
use Rattle.laws.proofs.Xor.{xor_assoc}
use Rattle.laws.proofs.Turn.{turn_lt, turn_xor}
use borrow.Author.Rules.{rules}
use Rattle.noekeon_steps.proofs.Version.spread_aside.Goals as goal

twice : (t : ℕ) → turn 8 24 (turn 16 16 t) ≡ turn 24 8 t
twice t = omega arith

both : (t : ℕ) → Word 32 t → bit_xor t (turn 8 24 (bit_xor t (turn 16 16 t))) ≡ bit_xor (bit_xor t (turn 8 24 t)) (turn 24 8 t)
both t h =
    ap (bit_xor t) (turn_xor 8 24 t (turn 16 16 t) h (turn_lt 16 16 t h) ∙ ap (bit_xor (turn 8 24 t)) (twice t))
    ∙ sym (xor_assoc t (turn 8 24 t) (turn 24 8 t))

pub returns-in-Published : goal.returns-in-Published
returns-in-Published c = let t = c.args.t in
    let h : t < 2 ^ 32 = search rules in
    rw c.in-Published.is
    (ap (bit_xor t) (c.rotated-in-Published.ensures ∙ ap (λ (x : ℕ). turn 8 24 (bit_xor t x)) c.rotated.ensures) ∙ both t h)
