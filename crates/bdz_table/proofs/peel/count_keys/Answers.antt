-- `bdz_table::peel::count_keys` meets its contract. The loop's invariant: the tables are those of the first e keys. Assumes nothing.
use Rattle.bdz_table.proofs.Counting.{counted_none, counted_places, counted_full, counted_more, graph_at_lem, added_of, full_of}
use Rattle.std.proofs.Common.{length}
use Rattle.bdz_table.proofs.peel.count_keys.Goals as goal

pub loop-e-init : goal.loop-e-init
loop-e-init c = counted_none _ _ _ _ _ c.requires

pub add_key-requires : goal.add_key-requires
add_key-requires c =
    let l = c.loop-e in
    let a = c.args in
    rw c.vertices-us.ensures
    (counted_places _ _ _ _ _ _ l.invariant c.loop-e-test.true (graph_at_lem a.graph (length a.graph.keys.now) c.requires.sizes.some))

pub returns-then-not-add_key : goal.returns-then-not-add_key
returns-then-not-add_key c =
    let l = c.loop-e in
    let a = c.args in
    counted_full _ _ _ _ _ _ l.invariant c.loop-e-test.true
    (full_of _ _ l.e l.deg l.xor_e c.add_key.new.deg c.add_key.new.xor_e c.vertices-us.ensures c.add_key.result c.if-not-add_key.true c.add_key.ensures)

pub loop-e-preserved : goal.loop-e-preserved
loop-e-preserved c =
    let l = c.loop-e in
    let a = c.args in
    counted_more _ _ _ _ _ _ l.invariant c.loop-e-test.true _ _ c.add_key.auto.deg c.add_key.auto.xor_e
    (added_of _ _ _ _ _ _ _ c.vertices-us.ensures c.add_key.result c.if-not-add_key.false c.add_key.ensures)
