-- `bdz_base::words::join` meets its contract. Assumes nothing.
use Rattle.std.proofs.Common.{◌-◌, arith, shl_exact}
use lib.Bits.{or_shifted_r}
use Rattle.bdz_base.proofs.words.join.Goals as goal

pub returns : goal.returns
returns c =
    let a = c.args in
    rw (shl_exact {a = a.x} (64 - a.bits) a.bits 64 c.requires.1 (omega arith)) (or_shifted_r a.x a.bits a.acc c.requires.0)
