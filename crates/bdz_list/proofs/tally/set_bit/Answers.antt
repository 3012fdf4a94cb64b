-- `bdz_list::tally::set_bit` meets its contract. Assumes nothing.
use Prim.Native.Nat.{◌%◌}
use native.Mathlib.Omega.{arith}
use Rattle.bdz_table.specs.Occupancy.{with_bit}
use Rattle.bdz_table.proofs.Bits.{one_moved}
use Rattle.bdz_list.proofs.tally.set_bit.Goals as goal

pub returns : goal.returns
unfolding with_bit
returns c = rw (one_moved (c.args.x % 8) 8 (omega arith))
