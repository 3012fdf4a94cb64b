-- `bdz_table::needs::early_assigned` meets its contract. Assumes nothing.
use Rattle.std.proofs.Common.{◌≡◌, true, false, sym, ◌∙◌, le-ltb, lt-ltb, eq-eqb, ne_eqb}
use Rattle.bdz_base.specs.declared.verts.Kind.TheVariants.{Assigned}
use Rattle.bdz_table.specs.Build.{needs_of, lacks_room, assigned_early}
use Rattle.bdz_table.proofs.needs.early_assigned.Goals as goal

pub returns-then-n-values : goal.returns-then-n-values
unfolding assigned_early
returns-then-n-values c = simp (ne_eqb _ _ c.if-n-values.true)

pub returns-then-n-eq0 : goal.returns-then-n-eq0
unfolding assigned_early
returns-then-n-eq0 c = simp (eq-eqb _ _ c.if-n-values.false, eq-eqb _ _ c.if-n-eq0.true)

pub returns-then-modulus-eq0 : goal.returns-then-modulus-eq0
unfolding assigned_early
returns-then-modulus-eq0 c = simp (eq-eqb _ _ c.if-n-values.false, ne_eqb _ _ c.if-n-eq0.false, eq-eqb _ _ c.if-modulus-eq0.true)

pub returns-then-n-gt1073741824 : goal.returns-then-n-gt1073741824
unfolding assigned_early
returns-then-n-gt1073741824 c = simp (eq-eqb _ _ c.if-n-values.false, ne_eqb _ _ c.if-n-eq0.false, ne_eqb _ _ c.if-modulus-eq0.false, lt-ltb _ _ c.if-n-gt1073741824.true)

pub returns-then-modulus-gt1073741824 : goal.returns-then-modulus-gt1073741824
unfolding assigned_early
returns-then-modulus-gt1073741824 c = simp (eq-eqb _ _ c.if-n-values.false, ne_eqb _ _ c.if-n-eq0.false, ne_eqb _ _ c.if-modulus-eq0.false, le-ltb _ _ c.if-n-gt1073741824.false, lt-ltb _ _ c.if-modulus-gt1073741824.true)

pub returns-then-lacks_room : goal.returns-then-lacks_room
unfolding assigned_early
returns-then-lacks_room c =
    let a = c.args in
    let room : lacks_room (needs_of Assigned a.n a.modulus) a.lent ≡ true = rw c.needs.ensures at (sym c.lacks_room.ensures ∙ c.if-lacks_room.true) in
    simp (eq-eqb _ _ c.if-n-values.false, ne_eqb _ _ c.if-n-eq0.false, ne_eqb _ _ c.if-modulus-eq0.false, le-ltb _ _ c.if-n-gt1073741824.false, le-ltb _ _ c.if-modulus-gt1073741824.false, room)

pub returns : goal.returns
unfolding assigned_early
returns c =
    let a = c.args in
    let room : lacks_room (needs_of Assigned a.n a.modulus) a.lent ≡ false = rw c.needs.ensures at (sym c.lacks_room.ensures ∙ c.if-lacks_room.false) in
    simp (eq-eqb _ _ c.if-n-values.false, ne_eqb _ _ c.if-n-eq0.false, ne_eqb _ _ c.if-modulus-eq0.false, le-ltb _ _ c.if-n-gt1073741824.false, le-ltb _ _ c.if-modulus-gt1073741824.false, room)
