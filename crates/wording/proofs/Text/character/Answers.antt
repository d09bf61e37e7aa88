use Rattle.std.proofs.Common.{rules}
use Rattle.wording.proofs.Adding.{adds_as}
use Rattle.wording.proofs.Filling.{stands_number, stands_tenths, stands_itself}
use Rattle.wording.proofs.Text.character.Goals as goal

pub returns-in-36 : goal.returns-in-36
returns-in-36 c = let a = c.args in
    adds_as (stands_number a.n a.c c.in-36.is) c.number.ensures

pub returns-in-126 : goal.returns-in-126
returns-in-126 c = let a = c.args in
    adds_as (stands_tenths a.n a.c c.in-126.is) c.tenths.ensures

pub returns-in_default : goal.returns-in_default
returns-in_default c = let a = c.args in
    adds_as (stands_itself a.n a.c (search rules) (search rules)) c.byte.ensures
