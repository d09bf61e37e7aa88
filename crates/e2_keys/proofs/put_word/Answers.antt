-- `put_word`: each byte where it is set.
use Prim.Native.Nat.{◌+◌}
use native.Mathlib.Omega.{arith}
use lib.ListN.{set, length-set}
use Rattle.e2_keys.proofs.put_word.Goals as goal

pub bounds-keys-b : goal.bounds-keys-b
bounds-keys-b c = simp length-set (omega arith)

pub bounds-keys-c : goal.bounds-keys-c
bounds-keys-c c = simp length-set (omega arith)

pub bounds-keys-d : goal.bounds-keys-d
bounds-keys-d c = simp length-set (omega arith)

pub returns : goal.returns
returns c = let a = c.args in
    let n = a.at in
    λ i. set (set (set (set a.keys.now n (c.byte0.ensures i)) (n + 32) (c.byte1.ensures i)) (n + 32 + 32) (c.byte2.ensures i))
    (n + 32 + 32 + 32) (c.byte3.ensures i)
