-- `bdz_oracle::building::read_assigned` meets its contract. Assumes nothing.
use Rattle.std.proofs.Common.{refl, length, ◌≡◌, Err, rules}
use Rattle.bdz_base.proofs.Refusals.{refused_test}
use Rattle.bdz_oracle.specs.Building.{value_count, lengths_for}
use Rattle.bdz_oracle.specs.Keys.{key_count}
use Rattle.bdz_oracle.proofs.Exporting.{assigned_judged, assigned_unread, assigned_read}
use Rattle.bdz_oracle.proofs.building.read_assigned.Goals as goal

pub returns-in_err-room_no : goal.returns-in_err-room_no
returns-in_err-room_no c =
    let a = c.args in
    let refusal = c.in_err-room_no.field-0.0 in
    let is : c.from_residual.result ≡ Err refusal = search rules in
    let number = assigned_judged (key_count a.keys.now) (value_count a.values.now) a.modulus (length a.key_room.now)
    (length a.value_room.now) (lengths_for a.table a.degrees a.xors a.queue a.order a.marks 0 a.seen)
    c.early_assigned-early.ensures c.room_no-judged.ensures c.in_err-room_no.ensures in
    rw is
    (assigned_unread _ a.keys.now a.values.now a.key_room.now a.value_room.now number (refused_test refusal))

pub returns : goal.returns
returns c =
    let a = c.args in
    let number = assigned_judged (key_count a.keys.now) (value_count a.values.now) a.modulus (length a.key_room.now)
    (length a.value_room.now) (lengths_for a.table a.degrees a.xors a.queue a.order a.marks 0 a.seen)
    c.early_assigned-early.ensures c.room_no-judged.ensures c.in_ok-room_no.ensures in
    assigned_read _ a.keys.now a.values.now a.key_room.now a.value_room.now number refl c.read_keys.ensures
    c.read_values.ensures
