use mathlib.Core.Path.{◌≡◌, sym, ◌∙◌}
use native.Mathlib.Omega.{arith}
use borrow.Author.Rules.{rules}
use lib.ListN.{length}
use Rattle.refusals.specs.Numbers.{number}
use Rattle.cipher.specs.Calls.{block_refusal}
use Rattle.refusals.proofs.Numbers.{not_done}
use Rattle.blocks_lent.proofs.Each.{given_one}
use Rattle.cipher.specs.Schedule.{enciphered, deciphered, in_direction}
use Rattle.cipher.proofs.Answers.{good_length, accepted_block, out_refused, out_done}
use Rattle.cipher.proofs.one_block.Goals as goal

pub returns-in_err-block_refusal : goal.returns-in_err-block_refusal
returns-in_err-block_refusal c =
    let a = c.args in
    let e : number c.from_residual.result ≡ block_refusal a.s (length a.block.now) (length a.out.now) = search rules in
    record { answered = e; left = out_refused _ _ _ _ (λ z. not_done _ (c.in_err-block_refusal.ensures ∙ z)) }

pub run-requires : goal.run-requires
run-requires c =
    let a = accepted_block _ _ _ (sym c.in_ok-block_refusal.ensures) in
    let w = a.whole in
    let f = a.fits in
    (good_length _ a.good, omega arith, omega arith)

pub returns : goal.returns
unfolding enciphered deciphered
returns c =
    let a = c.args in
    let e = sym c.in_ok-block_refusal.ensures in
    let w = (accepted_block _ _ _ e).whole in
    let done = out_done (in_direction a.direction) a.s a.block.now a.out.now e in
    record { answered = sym e; left = c.run.ensures ∙ given_one (in_direction a.direction a.s) a.block.now a.out.now w ∙ done }
