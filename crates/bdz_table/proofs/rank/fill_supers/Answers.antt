-- `bdz_table::rank::fill_supers` meets its contract. The loop's invariant: i super counts stand in supers, and acc is the next. Assumes nothing.
use Rattle.std.proofs.Common.{◌+◌, arith}
use Rattle.bdz_base.specs.Sizes.{super_count}
use Rattle.bdz_base.proofs.Buffers.{filled_none, filled_more, filled_all}
use Rattle.bdz_table.specs.Rank.{super_at, super_counts}
use Rattle.bdz_table.proofs.Ranks.{super_none, super_le, super_more}
use Rattle.bdz_table.proofs.rank.fill_supers.Goals as goal

pub loop-i-init : goal.loop-i-init
loop-i-init c =
    let a = c.args in
    (filled_none (super_at a.m a.occ.now) (super_count a.m) a.supers.now, super_none a.m a.occ.now)

pub overflow_add-acc : goal.overflow_add-acc
overflow_add-acc c =
    let a = c.args in
    omega (arith, super_more a.m a.occ.now c.loop-i.i c.loop-i.acc c.popcount_bits-acc.result c.block_end.result c.loop-i.invariant.1 c.block_end.ensures c.popcount_bits-acc.ensures, super_le a.m a.occ.now (c.loop-i.i + 1))

pub loop-i-preserved : goal.loop-i-preserved
loop-i-preserved c =
    let a = c.args in
    (filled_more c.loop-i.invariant.0 (omega (arith, c.super_count-count.ensures)) (omega arith) c.loop-i.invariant.1, super_more a.m a.occ.now c.loop-i.i c.loop-i.acc c.popcount_bits-acc.result c.block_end.result c.loop-i.invariant.1 c.block_end.ensures c.popcount_bits-acc.ensures)

pub returns : goal.returns
unfolding super_counts
returns c = filled_all c.loop-i.invariant.0 (omega (arith, c.super_count-count.ensures))
