-- `bdz_table::build::build_assigned` meets its contract. Assumes nothing.
use Rattle.std.proofs.Common.{◌≡◌, ◌<◌, length, get_or, rules, refl, arith}
use Rattle.bdz_table.specs.Order.{no_pair}
use Rattle.bdz_table.proofs.Assembling.{assigned_pairs, assigned_built}
use Rattle.bdz_table.proofs.build.build_assigned.Goals as goal

pub assign_all-requires-clause-callable : goal.assign_all-requires-clause-callable
assign_all-requires-clause-callable c =
    let begun = c.ready_assigned-ready.ensures in
    let ready = assigned_pairs _ _ _ _ _ _ _ _ _ _ _ _ _ _ _ _ _ begun c.note_order.ensures {comes = λ p x. x ≡ get_or c.args.values.now p.edge 0} (λ i x l h. h) in
    λ i l.
    let inside : (get_or c.note_order.new.order i no_pair).edge < length c.args.values.now = omega (arith, ready.edges i l, begun.same (omega arith)) in
    search rules

pub assign_all-requires-clause-ready : goal.assign_all-requires-clause-ready
assign_all-requires-clause-ready c =
    assigned_pairs _ _ _ _ _ _ _ _ _ _ _ _ _ _ _ _ _ c.ready_assigned-ready.ensures c.note_order.ensures (λ i x l h. search rules)

pub returns : goal.returns
returns c =
    let words = c.assign_all.ensures (λ p. get_or c.args.values.now p.key 0) (λ i x l h. search rules) in
    assigned_built _ _ _ _ _ _ _ _ _ _ _ _ _ _ _ _ _ c.ready_assigned-ready.ensures c.note_order.ensures words c.clear_scratch.ensures
    c.note_order-2.ensures refl
