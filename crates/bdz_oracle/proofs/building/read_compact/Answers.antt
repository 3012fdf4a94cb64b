-- `bdz_oracle::building::read_compact` meets its contract. Assumes nothing.
use Rattle.std.proofs.Common.{refl, length, ◌≡◌, Err, rules}
use Rattle.bdz_base.proofs.Refusals.{refused_test}
use Rattle.bdz_oracle.specs.Building.{lengths_for}
use Rattle.bdz_oracle.specs.Keys.{key_count}
use Rattle.bdz_oracle.proofs.Exporting.{compact_judged, compact_unread, compact_read}
use Rattle.bdz_oracle.proofs.building.read_compact.Goals as goal

pub returns-in_err-room_no : goal.returns-in_err-room_no
returns-in_err-room_no c =
    let a = c.args in
    let refusal = c.in_err-room_no.field-0.0 in
    let is : c.from_residual.result ≡ Err refusal = search rules in
    let number = compact_judged (key_count a.keys.now) (length a.key_room.now)
    (lengths_for a.table a.degrees a.xors a.queue a.order a.marks a.occupancy 0)
    c.early_compact-early.ensures c.in_err-room_no.ensures in
    rw is (compact_unread _ a.keys.now a.key_room.now number (refused_test refusal))

pub returns : goal.returns
returns c =
    let a = c.args in
    let number = compact_judged (key_count a.keys.now) (length a.key_room.now)
    (lengths_for a.table a.degrees a.xors a.queue a.order a.marks a.occupancy 0)
    c.early_compact-early.ensures c.in_ok-room_no.ensures in
    compact_read _ a.keys.now a.key_room.now number refl c.read_keys.ensures
