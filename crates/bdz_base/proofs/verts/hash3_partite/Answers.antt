-- `bdz_base::verts::hash3_partite` meets its contract. Assumes nothing.
use Rattle.bdz_base.specs.Verts.{hash3_partite_of}
use Rattle.bdz_base.proofs.verts.hash3_partite.Goals as goal

pub returns : goal.returns
unfolding hash3_partite_of
returns c = cc
