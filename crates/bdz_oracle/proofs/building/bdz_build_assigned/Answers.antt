-- `bdz_oracle::building::bdz_build_assigned` meets its contract. Assumes nothing.
use Rattle.std.proofs.Common.{◌≡◌, ◌≤◌, length, sym, ◌∙◌, arith, length-take-le}
use Rattle.bdz_table.specs.Told.{told_answer}
use Rattle.bdz_oracle.proofs.Exporting.{assigned_key_part, assigned_value_part, assigned_told}
use Rattle.bdz_oracle.proofs.ToldLaws.{no_read, value_read}
use Rattle.bdz_oracle.proofs.building.bdz_build_assigned.Goals as goal
use Rattle.bdz_oracle.proofs.building.bdz_build_assigned.Goals.{After-unwrap_or-count}

-- as many keys and values as were read
count_is : (c : After-unwrap_or-count) → c.unwrap_or-count.result ≡ (told_answer c.read_assigned-read.result).answer
count_is c = c.unwrap_or-count.ensures ∙ value_read c.read_assigned-read.result

keys_fit : (c : After-unwrap_or-count) → c.unwrap_or-count.result ≤ length c.read_assigned-read.new.key_room
keys_fit c =
    let read = c.read_assigned-read in
    omega (arith, assigned_key_part _ _ _ _ _ _ read.ensures, read.auto.key_room, count_is c)

values_fit : (c : After-unwrap_or-count) → c.unwrap_or-count.result ≤ length c.read_assigned-read.new.value_room
values_fit c =
    let read = c.read_assigned-read in
    omega (arith, assigned_value_part _ _ _ _ _ _ read.ensures, read.auto.value_room, count_is c)

pub slice_bounds-build_assigned-end : goal.slice_bounds-build_assigned-end
slice_bounds-build_assigned-end c = keys_fit c

pub slice_bounds-build_assigned-end-2 : goal.slice_bounds-build_assigned-end-2
slice_bounds-build_assigned-end-2 c =
    let fits = keys_fit (goal.at.slice_bounds-build_assigned-end-2 c).After-unwrap_or-count in
    sym (length-take-le c.unwrap_or-count.result c.read_assigned-read.new.key_room fits)

pub slice_bounds-build_assigned-end-3 : goal.slice_bounds-build_assigned-end-3
slice_bounds-build_assigned-end-3 c = values_fit (goal.at.slice_bounds-build_assigned-end-3 c).After-unwrap_or-count

pub slice_bounds-build_assigned-end-4 : goal.slice_bounds-build_assigned-end-4
slice_bounds-build_assigned-end-4 c =
    let fits = values_fit (goal.at.slice_bounds-build_assigned-end-4 c).After-unwrap_or-count in
    sym (length-take-le c.unwrap_or-count.result c.read_assigned-read.new.value_room fits)

pub returns : goal.returns
returns c =
    let a = c.args in
    let read = c.read_assigned-read in
    let count = count_is (goal.at.returns c).After-unwrap_or-count in
    let told = rw (no_read read.result) at c.tell_built.ensures in
    assigned_told a.keys.now a.values.now a.modulus a.key_room.now a.value_room.now a.table.now a.degrees.now
    a.xors.now a.queue.now a.order.now a.marks.now a.seen.now read.ensures
    (rw count at c.build_assigned-built.ensures) told
