-- `bdz_table::lookup::finish_many` meets its contract. Assumes nothing.
use Rattle.std.proofs.Common.{length, arith}
use Rattle.bdz_base.specs.declared.verts.Kind.TheVariants.{Compact}
use Rattle.bdz_base.proofs.VertexLaws.{vertices_below}
use Rattle.bdz_table.proofs.Passed.{fits, room_compact}
use Rattle.bdz_table.proofs.lookup.finish_many.Goals as goal

pub nonzero_rem-result : goal.nonzero_rem-result
nonzero_rem-result c =
    let a = c.args in
    (fits a.index 1 a.index.m (length a.occ.now) (length a.supers.now) 1 (omega arith) c.requires.0 c.requires.1).modulus

pub compact_finish-requires : goal.compact_finish-requires
compact_finish-requires c =
    let a = c.args in
    let q = fits a.index 1 a.index.m (length a.occ.now) (length a.supers.now) 1 (omega arith) c.requires.0 c.requires.1 in
    let r = room_compact a.index.m a.index.m (length a.occ.now) (length a.supers.now) (rw c.in-Compact.is at q.room) in
    (omega arith, rw c.hash_verts-v.ensures (vertices_below Compact a.key a.index.seed a.index.m q.vertices), r.0, r.2)
