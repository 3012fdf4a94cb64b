-- `bdz_oracle::reading::read_values` meets its contract. The loop's invariant: i words stand in out. Assumes nothing.
use Rattle.bdz_oracle.proofs.Telling.{value_here}
use Rattle.bdz_oracle.specs.Building.{value_at}
use Rattle.bdz_base.proofs.Buffers.{tab_none, tab_more}
use Rattle.std.proofs.Common.{length-set, arith, refl}
use Rattle.bdz_oracle.proofs.reading.read_values.Goals as goal

pub loop-i-init : goal.loop-i-init
loop-i-init c =
    let a = c.args in
    (omega arith, refl, tab_none (value_at a.values.now) a.out.now)

pub loop-i-preserved : goal.loop-i-preserved
loop-i-preserved c =
    let l = c.loop-i in
    let a = c.args in
    let here = value_here a.values.now l.i c.extract_g_window.ensures in
    let more = tab_more (value_at a.values.now) l.i a.out.now (omega arith) here in
    (omega arith, simp length-set (omega arith), rw l.invariant.2 more)
