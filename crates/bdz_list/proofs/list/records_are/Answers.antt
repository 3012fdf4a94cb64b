-- `bdz_list::list::records_are` meets its contract. The loop's invariant: i records start as they should. Assumes
-- nothing.
use Rattle.std.proofs.Common.{refl, arith}
use Rattle.bdz_list.specs.List.{records_are}
use Rattle.bdz_list.proofs.Records.{records_broken, records_more}
use Rattle.bdz_list.proofs.list.records_are.Goals as goal

pub loop-i-init : goal.loop-i-init
unfolding records_are
loop-i-init c = (omega arith, refl)

pub returns-then-not-is_marked : goal.returns-then-not-is_marked
returns-then-not-is_marked c =
    let a = c.args in
    records_broken a.kind a.bytes.now c.loop-i.i c.letter-second.ensures c.place.ensures c.is_marked.ensures
    c.if-not-is_marked.true (omega arith)

pub loop-i-preserved : goal.loop-i-preserved
loop-i-preserved c =
    let a = c.args in
    let more = records_more a.kind a.bytes.now c.loop-i.i c.letter-second.ensures c.place.ensures
    c.is_marked.ensures c.if-not-is_marked.false c.loop-i.invariant.1 in
    (omega arith, more)
