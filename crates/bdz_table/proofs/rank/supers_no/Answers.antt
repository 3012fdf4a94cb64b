-- `bdz_table::rank::supers_no` meets its contract. Assumes nothing.
use Rattle.std.proofs.Common.{le-ltb, lt-ltb}
use Rattle.bdz_table.specs.Rank.{supers_no}
use Rattle.bdz_table.proofs.rank.supers_no.Goals as goal

pub returns-then-occ-occ_packed_bytes : goal.returns-then-occ-occ_packed_bytes
unfolding supers_no
returns-then-occ-occ_packed_bytes c = simp (lt-ltb _ _ (rw c.occ_packed_bytes.ensures at c.if-occ-occ_packed_bytes.true))

pub returns-then-supers-super_count : goal.returns-then-supers-super_count
unfolding supers_no
returns-then-supers-super_count c = simp (le-ltb _ _ (rw c.occ_packed_bytes.ensures at c.if-occ-occ_packed_bytes.false), lt-ltb _ _ (rw c.super_count.ensures at c.if-supers-super_count.true))

pub returns : goal.returns
unfolding supers_no
returns c = simp (le-ltb _ _ (rw c.occ_packed_bytes.ensures at c.if-occ-occ_packed_bytes.false), le-ltb _ _ (rw c.super_count.ensures at c.if-supers-super_count.false))
