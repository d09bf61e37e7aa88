use Prim.Native.Nat.{◌+◌}
use native.Mathlib.Omega.{arith}
use Rattle.stream_layout.proofs.Numbers.{read_start, read_step, read_end, read_small}
use Rattle.stream_layout.proofs.number.at.Goals as goal

pub loop-i-init : goal.loop-i-init
loop-i-init c = read_start _ _ _

pub overflow_mul-n : goal.overflow_mul-n
overflow_mul-n c = let n = read_small _ _ _ _ _ c.loop-i.invariant c.loop-i-test.true c.requires.1 in omega arith

pub overflow_cast-n : goal.overflow_cast-n
overflow_cast-n c = omega (arith, c.type_inv.bytes (c.args.from + c.loop-i.i))

pub overflow_add-n-in-loop-i : goal.overflow_add-n-in-loop-i
overflow_add-n-in-loop-i c =
    let n = read_small _ _ _ _ _ c.loop-i.invariant c.loop-i-test.true c.requires.1 in
    omega (arith, c.type_inv.bytes (c.args.from + c.loop-i.i))

pub loop-i-preserved : goal.loop-i-preserved
loop-i-preserved c =
    let b = c.type_inv.bytes (c.args.from + c.loop-i.i) in
    read_step _ _ _ c.requires.0 _ _ c.loop-i.invariant c.loop-i-test.true (omega arith)

pub returns : goal.returns
returns c = read_end _ _ _ c.requires.0 _ _ c.loop-i.invariant c.loop-i-test.false
