-- `bdz_base::words::rotate_left` meets its contract. Assumes nothing.
use Rattle.std.proofs.Common.{arith}
use Rattle.bdz_base.proofs.Halves.{rotl_lt}
use Rattle.bdz_base.proofs.words.rotate_left.Goals as goal

pub overflow_add-result : goal.overflow_add-result
overflow_add-result c = record { fits = rotl_lt c.args.x c.args.k (omega arith) c.ranges.x.fits }
