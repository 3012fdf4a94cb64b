-- `bdz_list::tally::has_bit` meets its contract. Assumes nothing.
use Rattle.bdz_table.proofs.Bits.{bit_read}
use Rattle.bdz_list.proofs.tally.has_bit.Goals as goal

pub returns : goal.returns
returns c = rw (bit_read c.args.bytes.now c.args.x)
