-- `bdz_table::rank::popcount_bits` meets its contract. Assumes nothing.
use Rattle.std.proofs.Common.{◌/◌, arith}
use Rattle.bdz_table.proofs.Ones.{walked_none, walked_more, walked_all}
use Rattle.bdz_table.proofs.rank.popcount_bits.Goals as goal

pub loop-b-init : goal.loop-b-init
loop-b-init c =
    let a = c.args in
    walked_none a.occ.now a.lo c.end_within-end.result

pub loop-b-preserved : goal.loop-b-preserved
loop-b-preserved c =
    walked_more c.loop-b.invariant c.loop-b-test.true c.bits_taken-take.ensures (omega (arith, c.type_inv.occ (c.loop-b.b / 8))) c.ones_in_byte-ones.ensures

pub returns : goal.returns
returns c =
    let a = c.args in
    walked_all a.hi c.loop-b.invariant c.loop-b-test.false c.end_within-end.ensures
