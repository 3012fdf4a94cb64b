-- `bdz_image::slot::take_high` meets its contract. Assumes nothing.
use Rattle.std.proofs.Common.{◌-◌, lt_of_lt_of_le, arith, pow_mono}
use lib.Bits.{and_mask}
use Rattle.bdz_image.specs.Feed.{taken_high}
use Rattle.bdz_image.proofs.Any.{bits_lt}
use Rattle.bdz_image.proofs.slot.take_high.Goals as goal

pub put_high-requires : goal.put_high-requires
put_high-requires c =
    let a = c.args in
    let k = c.cut_of-k.result in
    let rest = c.bits.result - k in
    let less = lt_of_lt_of_le (bits_lt rest a.bytes.now 0) (pow_mono {i = rest} {j = 32 - k} (omega arith)) in
    (rw c.bits_at-x.ensures less, omega arith)

pub returns : goal.returns
unfolding taken_high
returns c = cc (and_mask c.args.slot 32)
