use mathlib.Core.Path.{◌≡◌, subst}
use Prim.Native.Nat.{ℕ, suc, ◌-◌}
use native.Mathlib.Omega.{arith}
use Rattle.stream_layout.proofs.Numbers.{Laid, put_start, put_step, put_end, put_length}
use Rattle.stream_layout.proofs.number.put.Goals as goal

pub loop-k-init : goal.loop-k-init
loop-k-init c = put_start _ _ _ _

pub overflow_add-bytes : goal.overflow_add-bytes
overflow_add-bytes c = let w = c.loop-k.invariant.within in omega arith

pub bounds-bytes-at : goal.bounds-bytes-at
bounds-bytes-at c =
    let w = c.loop-k.invariant.within in
    let l = put_length _ _ _ _ c.requires _ _ _ c.loop-k.invariant in omega arith

pub loop-k-preserved : goal.loop-k-preserved
loop-k-preserved c =
    let a = c.args in
    let now = c.loop-k in
    let one : now.k ≡ suc (now.k - 1) = omega arith in
    put_step _ _ _ _ c.requires _ _ _
    (subst (λ (k : ℕ). Laid a.bytes.now a.at a.width a.n now.bytes now.rest k) one now.invariant)

pub shape_of-bytes : goal.shape_of-bytes
shape_of-bytes c = put_length _ _ _ _ c.requires _ _ _ c.loop-k.invariant

pub returns : goal.returns
returns c = put_end _ _ _ _ _ _ _ c.loop-k.invariant c.loop-k-test.false
