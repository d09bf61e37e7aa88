use mathlib.Core.Path.{◌≡◌, ap, ◌∙◌}
use mathlib.Core.List.{List}
use Prim.Native.Nat.{ℕ, ◌*◌}
use borrow.Author.Rules.{rules}
use lib.ListN.{length, take, drop}
use Rattle.blocks_lent.proofs.FirstAndRest.{block_first, block_later}
use Rattle.blocks_lent.proofs.message.Message.block.Goals as goal

pub returns-then-j-eq0 : goal.returns-then-j-eq0
returns-then-j-eq0 c = let m = c.self.inside in
    let first_16 : length m.first ≡ 16 = search rules in
    block_first m.first m.rest.now first_16 _ c.if-j-eq0.true ∙ ap (λ (l : List ℕ). take 16 (drop (16 * c.args.j) l)) c.self.view_is

pub returns : goal.returns
returns c = let m = c.self.inside in
    let first_16 : length m.first ≡ 16 = search rules in
    c.part.ensures.taken ∙ block_later m.first m.rest.now first_16 _ c.if-j-eq0.false
    ∙ ap (λ (l : List ℕ). take 16 (drop (16 * c.args.j) l)) c.self.view_is
