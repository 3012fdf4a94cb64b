-- `bdz_table::build::work_compact` meets its contract. Assumes nothing.
use Rattle.std.proofs.Common.{◌≡◌, length, sym, refl, ◌∙◌, arith}
use Rattle.bdz_base.specs.declared.verts.Kind.TheVariants.{Compact}
use Rattle.bdz_table.specs.Build.{vertices_for}
use Rattle.bdz_table.proofs.NeedLaws.{vertices_one}
use Rattle.bdz_table.proofs.Readying.{sought_done, occupancy_done}
use Rattle.bdz_table.proofs.Runs.{ran_one, one_word, one_compact, one_occupancy}
use Rattle.bdz_table.proofs.build.work_compact.Goals as goal

pub bounds-table-0 : goal.bounds-table-0
bounds-table-0 c =
    let a = c.args in
    let one : vertices_for Compact (length a.keys.now) ≡ 1 = rw c.if-keys-eq1.true (vertices_one Compact) in
    omega (arith, c.requires.shaped.longt, c.requires.shaped.is)

pub bounds-occupancy-0 : goal.bounds-occupancy-0
bounds-occupancy-0 c =
    let a = c.args in
    let one : vertices_for Compact (length a.keys.now) ≡ 1 = rw c.if-keys-eq1.true (vertices_one Compact) in
    omega (arith, c.requires.occupancy_len, c.requires.shaped.is)

pub returns-then-keys-eq1 : goal.returns-then-keys-eq1
returns-then-keys-eq1 c =
    let a = c.args in
    let p = c.requires.shaped in
    let one : vertices_for Compact (length a.keys.now) ≡ 1 = rw c.if-keys-eq1.true (vertices_one Compact) in
    let m : a.m ≡ 1 = p.is ∙ one in
    let bytes : length a.occupancy.now ≡ 1 = rw m at c.requires.occupancy_len in record { ran_to = ran_one Compact a.keys.now c.if-keys-eq1.true; sought = sought_done refl (one_word a.table.now 0 (p.longt ∙ m) ∙ sym (one_compact a.keys.now c.if-keys-eq1.true)); occupancy_sought = occupancy_done refl (one_word a.occupancy.now 1 bytes ∙ sym (one_occupancy a.keys.now c.if-keys-eq1.true)) }
