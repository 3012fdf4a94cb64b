-- `bdz_base::words::wrapping_mul64` meets its contract. Assumes nothing.
use Rattle.bdz_base.proofs.Halves.{low_half}
use Rattle.bdz_base.proofs.words.wrapping_mul64.Goals as goal

pub returns : goal.returns
returns c = low_half c.args.a c.args.b
