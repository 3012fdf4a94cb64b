-- `bdz_image::bits::join` meets its contract. Assumes nothing.
use native.Mathlib.Omega.{arith}
use lib.Bits.{or_shifted_r}
use lib.Pow.{shl_exact}
use Rattle.bdz_image.proofs.bits.join.Goals as goal

pub returns : goal.returns
returns c =
    let a = c.args in
    rw (shl_exact {a = a.x} 32 a.bits 64 c.requires.1 (omega arith)) (or_shifted_r a.x a.bits a.acc c.requires.0)
