-- `bdz_oracle::packing::bdz_unpack_g` meets its contract. The loop's invariant: v words stand in out. Assumes nothing.
use Rattle.bdz_base.proofs.Buffers.{tab_none, tab_more}
use Rattle.bdz_base.specs.Pack.{word_at}
use Rattle.std.proofs.Common.{length-set, arith, refl}
use Rattle.bdz_oracle.proofs.packing.bdz_unpack_g.Goals as goal

pub loop-v-init : goal.loop-v-init
loop-v-init c =
    let a = c.args in
    (omega arith, c.reached-n.ensures, refl, tab_none (word_at a.width a.body.now) a.out.now)

pub loop-v-preserved : goal.loop-v-preserved
loop-v-preserved c =
    let l = c.loop-v in
    let a = c.args in
    let more = tab_more (word_at a.width a.body.now) l.v a.out.now (omega arith) c.unpack_g_at.ensures in
    (omega arith, l.invariant.1, simp length-set (omega arith), rw l.invariant.3 more)
