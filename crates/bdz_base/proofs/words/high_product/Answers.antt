-- `bdz_base::words::high_product` meets its contract. Assumes nothing.
use Rattle.std.proofs.Common.{◌+◌, ◌*◌, ◌/◌, ◌^◌, arith, bit_and}
use lib.Bits.{mask_lt}
use Rattle.bdz_base.proofs.Halves.{rooms, above}
use Rattle.bdz_base.proofs.words.high_product.Goals as goal

pub overflow_add-result-2 : goal.overflow_add-result-2
overflow_add-result-2 c =
    let u = c.args.u in
    let v = c.args.v in
    let low = bit_and v 0xffff_ffff in
    let t = u / 2 ^ 32 * low + bit_and u 0xffff_ffff * low / 2 ^ 32 in
    omega (arith, rooms u v c.ranges.u.fits c.ranges.v.fits, mask_lt t 32)

pub returns : goal.returns
returns c = above c.args.u c.args.v
