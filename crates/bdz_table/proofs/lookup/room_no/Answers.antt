-- `bdz_table::lookup::room_no` meets its contract. Assumes nothing.
use Rattle.std.proofs.Common.{le-ltb, lt-ltb}
use Rattle.bdz_table.specs.Lookup.{room_no}
use Rattle.bdz_table.proofs.lookup.room_no.Goals as goal

pub returns-then-table-m : goal.returns-then-table-m
unfolding room_no
returns-then-table-m c = simp (c.in-Assigned.is, lt-ltb _ _ c.if-table-m.true)

pub returns-then-occ-occ_packed_bytes : goal.returns-then-occ-occ_packed_bytes
unfolding room_no
returns-then-occ-occ_packed_bytes c = simp (c.in-Compact.is, lt-ltb _ _ (rw c.occ_packed_bytes.ensures at c.if-occ-occ_packed_bytes.true))

pub returns-then-table-m-2 : goal.returns-then-table-m-2
unfolding room_no
returns-then-table-m-2 c = simp (c.in-Compact.is, le-ltb _ _ (rw c.occ_packed_bytes.ensures at c.if-occ-occ_packed_bytes.false), lt-ltb _ _ c.if-table-m-2.true)

pub returns-then-supers-super_count : goal.returns-then-supers-super_count
unfolding room_no
returns-then-supers-super_count c =
    simp (c.in-Compact.is, le-ltb _ _ (rw c.occ_packed_bytes.ensures at c.if-occ-occ_packed_bytes.false), le-ltb _ _ c.if-table-m-2.false, lt-ltb _ _ (rw c.super_count.ensures at c.if-supers-super_count.true))

pub returns-else-table-m : goal.returns-else-table-m
unfolding room_no
returns-else-table-m c = simp (c.in-Assigned.is, le-ltb _ _ c.if-table-m.false)

pub returns-else-supers-super_count : goal.returns-else-supers-super_count
unfolding room_no
returns-else-supers-super_count c =
    simp (c.in-Compact.is, le-ltb _ _ (rw c.occ_packed_bytes.ensures at c.if-occ-occ_packed_bytes.false), le-ltb _ _ c.if-table-m-2.false, le-ltb _ _ (rw c.super_count.ensures at c.if-supers-super_count.false))
