use Rattle.std.proofs.Common.{sym, ◌∙◌, arith}
use Rattle.cells.proofs.Texts.{blank_before, no_blank_before, nothing_before}
use Rattle.cells.proofs.before_blanks.Goals as goal

pub returns-then-not-is_blank : goal.returns-then-not-is_blank
returns-then-not-is_blank c =
    sym (no_blank_before c.loop-rest.rest.now (omega arith) (sym c.is_blank.ensures ∙ c.if-not-is_blank.true)) ∙ c.loop-rest.invariant

pub loop-rest-preserved : goal.loop-rest-preserved
loop-rest-preserved c =
    blank_before c.loop-rest.rest.now (omega arith) (sym c.is_blank.ensures ∙ c.if-not-is_blank.false) ∙ c.loop-rest.invariant

pub returns : goal.returns
returns c = sym (nothing_before c.loop-rest.rest.now (omega arith)) ∙ c.loop-rest.invariant
