use mathlib.Core.Path.{◌≡◌, sym, ◌∙◌}
use mathlib.Core.Bool.{false}
use mathlib.Core.List.{append-nil}
use Prim.Native.Nat.{ℕ}
use borrow.Author.Rules.{rules}
use lib.ListN.{length, replicate}
use Rattle.refusals.specs.Refusals.{done}
use Rattle.cipher.specs.Schedule.{bad, enciphered}
use Rattle.cipher.specs.Calls.{block_refusal}
use Rattle.cipher.specs.declared.Schedule.{Schedule}
use Rattle.cipher.proofs.Answers.{out_done}
use Rattle.seal.proofs.blocks.enciphered.Goals as goal

-- a whole block and enough room
accepted : (s : Schedule) → bad s ≡ false → (n : ℕ) → n ≡ 16 → block_refusal s n 16 ≡ done
unfolding block_refusal
accepted s g n e = rw (g, e)

pub returns : goal.returns
returns c =
    let long : length c.args.block ≡ 16 = search rules in
    let s = c.args.s.schedule in
    let x = c.args.block in
    c.encipher_block.ensures.left
    ∙ sym (out_done enciphered s x (replicate 16 0) (accepted s c.requires (length x) long))
    ∙ append-nil (enciphered s x)
