-- `bdz_base::pack::unpack_g_at` meets its contract. Assumes nothing.
use Rattle.bdz_base.specs.Pack.{word_at}
use Rattle.bdz_base.proofs.pack.unpack_g_at.Goals as goal

pub returns : goal.returns
unfolding word_at
returns c = c.extract_g_window.ensures
