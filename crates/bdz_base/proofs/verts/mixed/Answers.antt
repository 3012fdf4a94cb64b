-- `bdz_base::verts::mixed` meets its contract. Assumes nothing.
use Rattle.bdz_base.specs.Verts.{hash_of}
use Rattle.bdz_base.proofs.verts.mixed.Goals as goal

pub returns : goal.returns
unfolding hash_of
returns c = cc
