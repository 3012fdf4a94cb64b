-- `bdz_table::build::build_compact` meets its contract. Assumes nothing.
use Rattle.std.proofs.Common.{refl, rules}
use Rattle.bdz_table.specs.Assign.{part_of}
use Rattle.bdz_table.proofs.Assembling.{compact_occupies, compact_pairs, compact_built}
use Rattle.bdz_table.proofs.build.build_compact.Goals as goal

pub assign_all-requires-clause-ready : goal.assign_all-requires-clause-ready
assign_all-requires-clause-ready c =
    compact_pairs _ _ _ _ _ _ _ _ _ _ _ _ _ _ _ c.ready_compact-ready.ensures c.note_order.ensures (λ i x l h. search rules)

pub occupy_all-requires : goal.occupy_all-requires
occupy_all-requires c =
    compact_occupies _ _ _ _ _ _ _ _ _ _ _ _ _ _ _ c.ready_compact-ready.ensures c.note_order.ensures

pub returns : goal.returns
returns c =
    let words = c.assign_all.ensures (λ p. part_of c.ready_compact-ready.result.m p.at) (λ i x l h. search rules) in
    compact_built _ _ _ _ _ _ _ _ _ _ _ _ _ _ _ c.ready_compact-ready.ensures c.note_order.ensures words c.occupy_all.ensures c.clear_scratch.ensures
    c.note_order-2.ensures refl
