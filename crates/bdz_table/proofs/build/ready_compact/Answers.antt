-- `bdz_table::build::ready_compact` meets its contract. Assumes nothing.
use Rattle.std.proofs.Common.{◌≡◌, [], length, sym}
use Rattle.bdz_base.specs.declared.verts.Kind.TheVariants.{Compact}
use Rattle.bdz_table.specs.Build.{needs_of, compact_early, compact_table, lengths_with}
use Rattle.bdz_table.proofs.Begun.{built_empty, empty_compact, occupied_empty}
use Rattle.bdz_table.proofs.Readying.{compact_untouched}
use Rattle.bdz_table.proofs.build.ready_compact.Goals as goal

pub returns-then-keys-eq0 : goal.returns-then-keys-eq0
returns-then-keys-eq0 c =
    let a = c.args in
    let early = compact_early (length a.keys.now) (lengths_with a.table.now a.degrees.now a.xors.now a.queue.now a.order a.marks.now a.occupancy.now []) in
    let passed : early ≡ 0 = sym c.in_default.ensures in
    let none : length a.keys.now ≡ 0 = c.if-keys-eq0.true in
    compact_untouched early a.keys.now a.order a.table.now a.occupancy.now a.degrees.now a.xors.now a.queue.now a.marks.now c.untouched-then-keys-eq0.ensures (occupied_empty a.keys.now early a.occupancy.now passed none)
    (built_empty Compact a.keys.now early 0 (length a.keys.now) (needs_of Compact (length a.keys.now) (length a.keys.now)) a.order (compact_table a.keys.now) a.table.now a.degrees.now a.xors.now a.queue.now a.marks.now 0 c.finish.ensures (sym none) passed none (empty_compact a.keys.now none).0)
