-- `bdz_base::verts::moved_off` meets its contract. Assumes nothing.
use Rattle.std.proofs.Common.{mod-lt, arith, rules, eq-eqb, ne_eqb}
use Rattle.bdz_base.specs.Verts.{moved_off}
use Rattle.bdz_base.proofs.verts.moved_off.Goals as goal

pub returns-then-x-a : goal.returns-then-x-a
unfolding moved_off
returns-then-x-a c = (simp (eq-eqb _ _ c.if-x-a.true), mod-lt _ (omega arith))

pub returns-then-x-b : goal.returns-then-x-b
unfolding moved_off
returns-then-x-b c = (simp (ne_eqb _ _ c.if-x-a.false, eq-eqb _ _ c.if-x-b.true), mod-lt _ (omega arith))

pub returns : goal.returns
unfolding moved_off
returns c = (simp (ne_eqb _ _ c.if-x-a.false, ne_eqb _ _ c.if-x-b.false), search rules)
