-- `bdz_image::slot::take_bits` meets its contract. Assumes nothing.
use Rattle.std.proofs.Common.{arith}
use lib.Bits.{mask_lt}
use Rattle.bdz_image.proofs.Any.{bits_lt}
use Rattle.bdz_image.proofs.slot.take_bits.Goals as goal

pub put_low-requires : goal.put_low-requires
put_low-requires c =
    let a = c.args in
    (mask_lt a.slot 32, rw c.bits_at-x.ensures (bits_lt a.k a.bytes.now a.at), omega arith)
