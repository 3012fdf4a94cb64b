-- `bdz_table::needs::early_compact` meets its contract. Assumes nothing.
use Rattle.std.proofs.Common.{◌≡◌, true, false, sym, ◌∙◌, le-ltb, lt-ltb, eq-eqb, ne_eqb}
use Rattle.bdz_base.specs.declared.verts.Kind.TheVariants.{Compact}
use Rattle.bdz_table.specs.Build.{needs_of, lacks_room, compact_early}
use Rattle.bdz_table.proofs.needs.early_compact.Goals as goal

pub returns-then-n-eq0 : goal.returns-then-n-eq0
unfolding compact_early
returns-then-n-eq0 c = simp (eq-eqb _ _ c.if-n-eq0.true)

pub returns-then-n-gt1073741824 : goal.returns-then-n-gt1073741824
unfolding compact_early
returns-then-n-gt1073741824 c = simp (ne_eqb _ _ c.if-n-eq0.false, lt-ltb _ _ c.if-n-gt1073741824.true)

pub returns-then-lacks_room : goal.returns-then-lacks_room
unfolding compact_early
returns-then-lacks_room c =
    let a = c.args in
    let room : lacks_room (needs_of Compact a.n a.n) a.lent ≡ true = rw c.needs.ensures at (sym c.lacks_room.ensures ∙ c.if-lacks_room.true) in
    simp (ne_eqb _ _ c.if-n-eq0.false, le-ltb _ _ c.if-n-gt1073741824.false, room)

pub returns : goal.returns
unfolding compact_early
returns c =
    let a = c.args in
    let room : lacks_room (needs_of Compact a.n a.n) a.lent ≡ false = rw c.needs.ensures at (sym c.lacks_room.ensures ∙ c.if-lacks_room.false) in
    simp (ne_eqb _ _ c.if-n-eq0.false, le-ltb _ _ c.if-n-gt1073741824.false, room)
