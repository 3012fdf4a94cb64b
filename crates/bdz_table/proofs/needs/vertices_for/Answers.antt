-- `bdz_table::needs::vertices_for` meets its contract. Assumes nothing.
use Rattle.std.proofs.Common.{eq-eqb, ne_eqb}
use Rattle.bdz_table.specs.Build.{vertices_for}
use Rattle.bdz_table.proofs.needs.vertices_for.Goals as goal

pub returns-then-n-eq0 : goal.returns-then-n-eq0
unfolding vertices_for
returns-then-n-eq0 c = simp (eq-eqb _ _ c.if-n-eq0.true)

pub returns-then-n-eq1 : goal.returns-then-n-eq1
unfolding vertices_for
returns-then-n-eq1 c = simp (ne_eqb _ _ c.if-n-eq0.false, eq-eqb _ _ c.if-n-eq1.true)

pub returns : goal.returns
unfolding vertices_for
returns c = simp (ne_eqb _ _ c.if-n-eq0.false, ne_eqb _ _ c.if-n-eq1.false) c.size_for.ensures
