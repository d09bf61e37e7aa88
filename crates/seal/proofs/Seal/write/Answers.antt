use mathlib.Core.Path.{◌≡◌, sym}
use native.Mathlib.Omega.{arith}
use lib.ListN.{length}
use Rattle.refusals.specs.Refusals as refusal
use Rattle.refusals.proofs.Numbers.{not_done}
use Rattle.seal.specs.Calls.{write_refusal}
use Rattle.seal.proofs.Outcomes.{AcceptedWriting, accepted_writing, write_refused, write_done, write_put}
use Rattle.seal.proofs.Seal.write.Goals as goal

pub returns-in-Err : goal.returns-in-Err
returns-in-Err c =
    let a = c.args in
    let r = write_refused a.self a.out.now _ c.in-Err.ensures (not_done c.in-Err.refusal) in
    record { returned = r.0; left = r.1 }

pub sealed-seal-requires : goal.sealed-seal-requires
sealed-seal-requires c =
    let done : write_refusal c.args.self (length c.args.out.now) ≡ refusal.done = sym c.in_default.ensures in
    let accepted : AcceptedWriting c.args.self c.args.out.now = accepted_writing c.args.self c.args.out.now done in
    accepted.state

pub store-requires : goal.store-requires
store-requires c =
    let done : write_refusal c.args.self (length c.args.out.now) ≡ refusal.done = sym c.in_default.ensures in
    let accepted : AcceptedWriting c.args.self c.args.out.now = accepted_writing c.args.self c.args.out.now done in
    (omega arith, accepted.fits)

pub returns : goal.returns
returns c =
    let done : write_refusal c.args.self (length c.args.out.now) ≡ refusal.done = sym c.in_default.ensures in
    let a = c.args in
    record {
      returned = write_done a.self a.out.now done;
      left = write_put a.self a.out.now done _ _ c.sealed-seal.ensures c.store.ensures;
    }
