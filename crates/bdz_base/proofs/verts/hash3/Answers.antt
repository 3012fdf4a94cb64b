-- `bdz_base::verts::hash3` meets its contract. Assumes nothing.
use Rattle.bdz_base.specs.Verts.{apart, hash3_of}
use Rattle.std.proofs.Common.{eq-eqb, ne_eqb}
use Rattle.bdz_base.proofs.verts.hash3.Goals as goal

pub returns-then-m-eq0 : goal.returns-then-m-eq0
unfolding hash3_of
returns-then-m-eq0 c = simp (eq-eqb _ _ c.if-m-eq0.true)

pub returns : goal.returns
unfolding apart hash3_of
returns c =
    simp (ne_eqb _ _ c.if-m-eq0.false) (cc)
