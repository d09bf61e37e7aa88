-- `block::cipher`: the three steps one after the other.
use mathlib.Core.List.{List, ◌++◌}
use mathlib.Core.Path.{◌≡◌, ap, ◌∙◌}
use Prim.Native.Nat.{ℕ, suc}
use Rattle.laws.specs.Bytes.{xor_l}
use Rattle.laws.specs.Places.{tab, part}
use Rattle.laws.specs.Rounds.{feistel}
use Rattle.e2_steps.specs.code.Layout.{pair_bytes}
use Rattle.e2.specs.Block.{F, first, rounds, last, cipher, sequence, round_key}
use Rattle.e2.specs.code.Layout.{block_bytes, is_back}
use Rattle.e2.specs.declared.block.Halves.{Halves}
use Rattle.e2.proofs.block.cipher.Goals as goal

-- the first step's halves, worked by the rounds and joined, are the rounds of the first step
by_halves : (k : ℕ → List ℕ) (m : List ℕ) (f r : Halves) → block_bytes f ≡ first k m
    → (pair_bytes r.l, pair_bytes r.r) ≡ feistel F (xor_l 8) (tab 12 (λ i. k (suc i))) (pair_bytes f.l, pair_bytes f.r)
    → last k (block_bytes r) ≡ cipher k m
unfolding cipher rounds
by_halves k m f r e d =
    let network : List ℕ → List ℕ × List ℕ = λ b. feistel F (xor_l 8) (tab 12 (λ i. k (suc i))) (part 0 0 8 b, part 0 8 8 b) in
    let join : List ℕ × List ℕ → List ℕ = λ p. last k (p.0 ++ p.1) in
    ap join d ∙ ap (λ (b : List ℕ). join (network b)) e

pub returns : goal.returns
returns c = let a = c.args in
    let k : ℕ → List ℕ = λ i. round_key a.keys.now (sequence (is_back a.order) i) in
    c.last.ensures ∙ by_halves k a.block c.first-m.result c.rounds-n.result c.first-m.ensures c.rounds-n.ensures
