-- `bdz_base::pack::give_fours` meets its contract. Assumes nothing.
use Rattle.bdz_base.proofs.Packing.{gave_none}
use Rattle.std.proofs.Common.{◌≡◌, ◌*◌, ◌/◌, arith}
use Rattle.bdz_base.proofs.pack.give_fours.Goals as goal

pub returns-then-carry-lt32 : goal.returns-then-carry-lt32
returns-then-carry-lt32 c =
    let a = c.args in
    let e : a.carry.bits / 32 * 4 ≡ 0 = omega arith in
    rw e (gave_none a.carry a.body.now)
