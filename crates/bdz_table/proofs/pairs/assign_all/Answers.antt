-- `bdz_table::pairs::assign_all` meets its contract. Assumes nothing.
use Rattle.std.proofs.Common.{◌≡◌, [], ◌∷◌, ◌++◌, length, rules}
use Rattle.bdz_table.specs.Keys.{graph_at}
use Rattle.bdz_table.proofs.Pairing.{front_long, front_last, front_left, pairing_all, pairing_asks, pairing_next}
use Rattle.bdz_table.proofs.pairs.assign_all.Goals as goal

pub assign_pair-requires : goal.assign_pair-requires
assign_pair-requires g c =
    let a = c.args in
    let before = c.loop-p.invariant in
    let rest = c.loop-p.p-iterator.iter.rest.now in
    let left = c.next.new.self.iter.rest.now in
    let p = c.in-Some.field-0.now in
    let taken : rest ≡ left ++ p ∷ [] = search rules in
    let long = front_long a.order.now rest left p before.0 taken in
    pairing_asks (graph_at a.graph) (length a.graph.keys.now) a.n a.graph.m a.modulus _ a.order.now a.marks.now a.g.now c.requires.ready
    (rw long at before.1) (front_last a.order.now rest left p before.0 taken) c.value.ensures

pub loop-p-preserved : goal.loop-p-preserved
loop-p-preserved g c =
    let a = c.args in
    let before = c.loop-p.invariant in
    let rest = c.loop-p.p-iterator.iter.rest.now in
    let left = c.next.new.self.iter.rest.now in
    let p = c.in-Some.field-0.now in
    let taken : rest ≡ left ++ p ∷ [] = search rules in
    let long = front_long a.order.now rest left p before.0 taken in (
      front_left a.order.now rest left p before.0 taken,
      pairing_next (graph_at a.graph) (length a.graph.keys.now) a.n a.graph.m a.modulus _ a.order.now a.marks.now a.g.now c.requires.ready
          (rw long at before.1) (front_last a.order.now rest left p before.0 taken) c.value.ensures c.assign_pair.auto.marks c.assign_pair.auto.g c.assign_pair.ensures,
    )

pub returns : goal.returns
returns g c =
    let a = c.args in
    let none : length c.loop-p.p-iterator.iter.rest.now ≡ 0 = search rules in
    pairing_all (graph_at a.graph) (length a.graph.keys.now) a.n a.graph.m a.modulus _ a.order.now a.marks.now a.g.now (rw none at c.loop-p.invariant.1)
