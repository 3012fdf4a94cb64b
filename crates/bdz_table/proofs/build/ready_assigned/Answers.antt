-- `bdz_table::build::ready_assigned` meets its contract. Assumes nothing.
use Rattle.std.proofs.Common.{◌≡◌, [], length, sym, refl}
use Rattle.bdz_base.specs.declared.verts.Kind.TheVariants.{Assigned}
use Rattle.bdz_table.specs.Build.{needs_of, assigned_early, assigned_table, lengths_with}
use Rattle.bdz_table.specs.Values.{values_no}
use Rattle.bdz_table.proofs.Begun.{not_begun_empty, built_empty, empty_assigned}
use Rattle.bdz_table.proofs.Readying.{assigned_untouched}
use Rattle.bdz_table.proofs.build.ready_assigned.Goals as goal

pub returns-then-keys-eq0 : goal.returns-then-keys-eq0
returns-then-keys-eq0 c =
    let a = c.args in
    let early = assigned_early (length a.keys.now) (length a.values.now) a.modulus (lengths_with a.table.now a.degrees.now a.xors.now a.queue.now a.order a.marks.now [] a.seen.now) in
    let passed : early ≡ 0 = sym c.in_default.ensures in
    let none : length a.keys.now ≡ 0 = c.if-keys-eq0.true in
    assigned_untouched early a.keys.now a.values.now a.modulus a.order a.table.now a.degrees.now a.xors.now a.queue.now a.marks.now a.seen.now c.untouched-then-keys-eq0.ensures (not_begun_empty (length a.keys.now) early none)
    (built_empty Assigned a.keys.now early (values_no a.modulus [] a.values.now) a.modulus (needs_of Assigned (length a.keys.now) a.modulus) a.order (assigned_table a.keys.now a.values.now a.modulus) a.table.now a.degrees.now a.xors.now a.queue.now a.marks.now a.modulus c.finish.ensures refl passed none (empty_assigned a.keys.now a.values.now a.modulus none))
