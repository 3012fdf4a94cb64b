-- `bdz_table::occ::occ_has` meets its contract. Assumes nothing.
use Rattle.bdz_table.proofs.Bits.{bit_read}
use Rattle.bdz_table.proofs.occ.occ_has.Goals as goal

pub returns : goal.returns
returns c = rw (bit_read c.args.bytes.now c.args.v)
