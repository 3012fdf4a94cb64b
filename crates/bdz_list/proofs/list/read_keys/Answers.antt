-- `bdz_list::list::read_keys` meets its contract. The loop's invariant: i words stand in keys. Assumes nothing.
use Rattle.bdz_base.proofs.Buffers.{filled_none, filled_more}
use Rattle.bdz_list.proofs.Records.{key_here}
use Rattle.bdz_list.proofs.list.read_keys.Goals as goal

pub loop-i-init : goal.loop-i-init
loop-i-init c = filled_none _ _ _

pub loop-i-preserved : goal.loop-i-preserved
loop-i-preserved c =
    let l = c.loop-i in
    let here = key_here c.args.kind c.args.bytes.now l.i c.place.ensures c.le64.ensures in
    filled_more l.invariant c.loop-i-test.true c.requires.1 here
