-- `bdz_oracle::building::bdz_build_compact` meets its contract. Assumes nothing.
use Rattle.std.proofs.Common.{◌≡◌, ◌≤◌, length, sym, ◌∙◌, arith, length-take-le}
use Rattle.bdz_table.specs.Told.{told_answer}
use Rattle.bdz_oracle.proofs.Exporting.{compact_key_part, compact_told}
use Rattle.bdz_oracle.proofs.ToldLaws.{no_read, value_read}
use Rattle.bdz_oracle.proofs.building.bdz_build_compact.Goals as goal
use Rattle.bdz_oracle.proofs.building.bdz_build_compact.Goals.{After-unwrap_or-count}

-- as many keys as were read
count_is : (c : After-unwrap_or-count) → c.unwrap_or-count.result ≡ (told_answer c.read_compact-read.result).answer
count_is c = c.unwrap_or-count.ensures ∙ value_read c.read_compact-read.result

keys_fit : (c : After-unwrap_or-count) → c.unwrap_or-count.result ≤ length c.read_compact-read.new.key_room
keys_fit c =
    let read = c.read_compact-read in
    omega (arith, compact_key_part _ _ _ read.ensures, read.auto.key_room, count_is c)

pub slice_bounds-build_compact-end : goal.slice_bounds-build_compact-end
slice_bounds-build_compact-end c = keys_fit c

pub slice_bounds-build_compact-end-2 : goal.slice_bounds-build_compact-end-2
slice_bounds-build_compact-end-2 c =
    let fits = keys_fit (goal.at.slice_bounds-build_compact-end-2 c).After-unwrap_or-count in
    sym (length-take-le c.unwrap_or-count.result c.read_compact-read.new.key_room fits)

pub returns : goal.returns
returns c =
    let a = c.args in
    let read = c.read_compact-read in
    let count = count_is (goal.at.returns c).After-unwrap_or-count in
    let told = rw (no_read read.result) at c.tell_built.ensures in
    compact_told a.keys.now a.key_room.now a.table.now a.occupancy.now a.degrees.now a.xors.now a.queue.now
    a.order.now a.marks.now read.ensures (rw count at c.build_compact-built.ensures) told
