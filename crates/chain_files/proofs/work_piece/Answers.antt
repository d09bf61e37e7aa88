use mathlib.Core.Path.{sym}
use native.Mathlib.Omega.{arith}
use lib.Seq.{length-take-le}
use Rattle.stream.specs.Numbered.{fed_in_numbers}
use Rattle.chain_files.proofs.Written.{written_within}
use Rattle.chain_files.proofs.work_piece.Goals as goal

pub slice_bounds-out-end : goal.slice_bounds-out-end
slice_bounds-out-end c =
    let w = written_within c.args.stream c.args.bytes.now _ c.feed-fed.new.out (fed_in_numbers c.feed-fed.result) c.feed-fed.ensures in
    omega (arith, w, c.feed-fed.auto.out)

pub slice_bounds-put-end : goal.slice_bounds-put-end
slice_bounds-put-end c =
    let w = written_within c.args.stream c.args.bytes.now _ c.feed-fed.new.out (fed_in_numbers c.feed-fed.result) c.feed-fed.ensures in
    sym (length-take-le _ _ (omega (arith, w, c.feed-fed.auto.out)))
