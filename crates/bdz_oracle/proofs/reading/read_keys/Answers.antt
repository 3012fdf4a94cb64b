-- `bdz_oracle::reading::read_keys` meets its contract. The loop's invariant: i words stand in out. Assumes nothing.
use Rattle.bdz_oracle.proofs.Telling.{key_here}
use Rattle.bdz_oracle.specs.Keys.{key_at}
use Rattle.bdz_base.proofs.Buffers.{tab_none, tab_more}
use Rattle.std.proofs.Common.{length-set, arith, refl}
use Rattle.bdz_oracle.proofs.reading.read_keys.Goals as goal

pub loop-i-init : goal.loop-i-init
loop-i-init c =
    let a = c.args in
    (omega arith, refl, tab_none (key_at a.keys.now) a.out.now)

pub loop-i-preserved : goal.loop-i-preserved
loop-i-preserved c =
    let l = c.loop-i in
    let a = c.args in
    let more = tab_more (key_at a.keys.now) l.i a.out.now (omega arith) (key_here a.keys.now l.i c.le64.ensures) in
    (omega arith, simp length-set (omega arith), rw l.invariant.2 more)
