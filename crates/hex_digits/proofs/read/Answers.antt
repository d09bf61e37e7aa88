use native.Mathlib.Omega.{arith}
use Rattle.hex_text.proofs.Texts.{bad_within}
use Rattle.hex_digits.proofs.Outcomes.{bad_character, odd_digits, no_room_lem, bytes}
use borrow.Author.Rules.{rules}
use Rattle.hex_digits.proofs.read.Goals as goal

pub returns-then-bad-text : goal.returns-then-bad-text
returns-then-bad-text c = bad_character c.first_bad-bad.result c.first_bad-bad.ensures c.if-bad-text.true

pub returns-then-digits-eq1 : goal.returns-then-digits-eq1
returns-then-digits-eq1 c = odd_digits c.count-digits.result (omega arith) c.count-digits.ensures c.if-digits-eq1.true

pub returns-then-out-digits : goal.returns-then-out-digits
returns-then-out-digits c = let counted = c.count-digits in
    no_room_lem counted.result (omega arith) counted.ensures c.if-digits-eq1.false c.if-out-digits.true

pub write-requires : goal.write-requires
write-requires c = let within = bad_within c.args.text.now in
    let n = c.count-digits.ensures in
    let e = c.first_bad-bad.ensures in
    (omega arith, omega arith, search rules)

pub returns : goal.returns
returns c = let good = c.if-bad-text.false in
    rw c.write.ensures
    (bytes c.count-digits.result (omega arith) c.count-digits.ensures c.if-digits-eq1.false c.if-out-digits.false)
