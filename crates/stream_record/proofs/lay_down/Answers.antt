use mathlib.Core.Path.{◌≡◌, sym, ◌∙◌}
use lib.ListN.{length}
use Rattle.refusals.specs.Refusals.{done}
use borrow.Author.Rules.{rules}
use Rattle.refusals.specs.Numbers.{number}
use Rattle.refusals.proofs.Numbers.{not_done}
use Rattle.stream_record.specs.Calls.{lay_down_refusal}
use Rattle.stream_record.proofs.Outcomes.{fits, not_laid, laid_down}
use Rattle.stream_record.proofs.lay_down.Goals as goal

pub returns-in_err-lay_down_refusal : goal.returns-in_err-lay_down_refusal
returns-in_err-lay_down_refusal c =
    let e : number c.from_residual.result ≡ lay_down_refusal c.args.stream (length c.args.out.now) = search rules in
    record { answered = e; left = not_laid _ _ (λ z. not_done _ (c.in_err-lay_down_refusal.ensures ∙ z)) }

pub write-requires : goal.write-requires
write-requires c =
    let done_is : lay_down_refusal c.args.stream (length c.args.out.now) ≡ done = sym c.in_ok-lay_down_refusal.ensures in
    fits c.args.stream c.args.out.now done_is

pub returns : goal.returns
returns c =
    let done_is : lay_down_refusal c.args.stream (length c.args.out.now) ≡ done = sym c.in_ok-lay_down_refusal.ensures in
    record { answered = sym done_is; left = laid_down _ _ done_is _ _ c.fields_of.ensures c.write.ensures }
