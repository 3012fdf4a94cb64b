-- `bdz_image::slot::put_low` meets its contract. Assumes nothing.
use Rattle.std.proofs.Common.{◌/◌, ◌^◌, arith}
use Rattle.bdz_image.proofs.Any.{two_lt, shr32_lt}
use Rattle.bdz_image.proofs.slot.put_low.Goals as goal

pub returns : goal.returns
returns c =
    let a = c.args in
    let l = shr32_lt a.old a.k c.requires.0 c.requires.2 in
    (c.join.ensures, rw c.join.ensures (two_lt 32 a.k (a.old / 2 ^ a.k) c.requires.2 (omega arith) l c.requires.1))
