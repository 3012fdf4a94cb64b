-- `bdz_table::rank::supers_from_occ_bytes` meets its contract. Assumes nothing.
use Rattle.std.proofs.Common.{length, sym}
use Rattle.bdz_table.proofs.Passed.{supers_passed}
use Rattle.bdz_table.proofs.rank.supers_from_occ_bytes.Goals as goal

pub fill_supers-requires : goal.fill_supers-requires
fill_supers-requires c =
    let a = c.args in
    (supers_passed a.m (length a.occ.now) (length a.supers.now) (sym c.in_ok-supers_no.ensures)).1
