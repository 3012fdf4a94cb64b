-- `bdz_table::lookup::lookup_no` meets its contract. Assumes nothing.
use Rattle.std.proofs.Common.{le-ltb, lt-ltb, eq-eqb, ne_eqb}
use Rattle.bdz_table.specs.Lookup.{lookup_no}
use Rattle.bdz_table.proofs.lookup.lookup_no.Goals as goal

pub returns-then-keys-eq0 : goal.returns-then-keys-eq0
unfolding lookup_no
returns-then-keys-eq0 c = simp (eq-eqb _ _ c.if-keys-eq0.true)

pub returns-then-out-keys : goal.returns-then-out-keys
unfolding lookup_no
returns-then-out-keys c = simp (ne_eqb _ _ c.if-keys-eq0.false, lt-ltb _ _ c.if-out-keys.true)

pub returns-then-index-lt2 : goal.returns-then-index-lt2
unfolding lookup_no
returns-then-index-lt2 c = simp (ne_eqb _ _ c.if-keys-eq0.false, le-ltb _ _ c.if-out-keys.false, lt-ltb _ _ c.if-index-lt2.true)

pub returns-then-index-eq0 : goal.returns-then-index-eq0
unfolding lookup_no
returns-then-index-eq0 c =
    simp (ne_eqb _ _ c.if-keys-eq0.false, le-ltb _ _ c.if-out-keys.false, le-ltb _ _ c.if-index-lt2.false, eq-eqb _ _ c.if-index-eq0.true)

pub returns-then-index-eq0-2 : goal.returns-then-index-eq0-2
unfolding lookup_no
returns-then-index-eq0-2 c =
    simp (ne_eqb _ _ c.if-keys-eq0.false, le-ltb _ _ c.if-out-keys.false, le-ltb _ _ c.if-index-lt2.false, ne_eqb _ _ c.if-index-eq0.false, eq-eqb _ _ c.if-index-eq0-2.true)

pub returns : goal.returns
unfolding lookup_no
returns c =
    simp (ne_eqb _ _ c.if-keys-eq0.false, le-ltb _ _ c.if-out-keys.false, le-ltb _ _ c.if-index-lt2.false, ne_eqb _ _ c.if-index-eq0.false, ne_eqb _ _ c.if-index-eq0-2.false) c.room_no.ensures
