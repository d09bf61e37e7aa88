use mathlib.Core.Path.{refl}
use Rattle.stream_layout.specs.Number.{bytes_in}
use Rattle.stream_layout.specs.Layout.{count_width}
use Rattle.stream_layout.proofs.Behind.{none, behind}
use Rattle.stream_layout.proofs.put_numbers.Goals as goal

pub returns : goal.returns
returns c =
    let f = c.args.f in
    let one = behind (bytes_in 1 f.cipher) 1 refl (none c.args.out.now) c.put.ensures in
    let two = behind (bytes_in 1 f.key_length) 1 refl one c.put-2.ensures in
    let three = behind (bytes_in 1 f.direction) 1 refl two c.put-3.ensures in
    let four = behind (bytes_in 1 f.closed) 1 refl three c.put-4.ensures in
    (behind (bytes_in count_width f.count) count_width refl four c.put-5.ensures).is
