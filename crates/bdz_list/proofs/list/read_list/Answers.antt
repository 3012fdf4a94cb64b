-- `bdz_list::list::read_list` meets its contract. Assumes nothing.
use Rattle.bdz_list.specs.List.{list_no}
use Rattle.std.proofs.Common.{◌≡◌, Err, length, refl, arith, rules}
use Rattle.bdz_base.specs.Refusal.{number}
use Rattle.bdz_base.proofs.Refusals.{number_some}
use Rattle.bdz_list.proofs.Records.{no_list, no_room, no_refusal, list_refused, keys_room, values_room, list_read}
use Rattle.bdz_list.proofs.list.read_list.Goals as goal
use Rattle.bdz_list.proofs.list.read_list.Goals.{Else-lacks_list}

-- a list that is read was not refused
passed : (c : Else-lacks_list)
    → let a = c.args in 0 ≡ list_no a.bytes.now (length a.keys.now) (length a.values.now)
passed c =
    let a = c.args in
    let kind = c.in_ok-kind.ensures in
    no_refusal a.bytes.now (length a.keys.now) (length a.values.now) kind.number kind.kind
    c.records_in-n.ensures c.lacks_list.ensures c.if-lacks_list.false

pub returns-in_err-kind : goal.returns-in_err-kind
returns-in_err-kind c =
    let a = c.args in
    let refusal = c.in_err-kind.field-0.0 in
    let is : c.from_residual.result ≡ Err refusal = search rules in
    let some : number refusal ≡ 0 → ⊥ = λ z. absurd (omega (arith, number_some refusal)) in
    let no = no_list a.bytes.now (length a.keys.now) (length a.values.now) c.in_err-kind.ensures.number some in
    rw is (list_refused a.bytes.now a.keys.now a.values.now no some refl)

pub returns-then-lacks_list : goal.returns-then-lacks_list
returns-then-lacks_list c =
    let a = c.args in
    let kind = c.in_ok-kind.ensures in
    let no = no_room a.bytes.now (length a.keys.now) (length a.values.now) kind.number kind.kind
    c.records_in-n.ensures c.lacks_list.ensures c.if-lacks_list.true in
    list_refused a.bytes.now a.keys.now a.values.now no (λ z. absurd (omega (arith, z))) refl

pub read_keys-requires : goal.read_keys-requires
read_keys-requires c =
    let a = c.args in
    let kind = c.in_ok-kind.ensures.kind in
    let no = passed (goal.at.read_keys-requires c).Else-lacks_list in
    keys_room a.bytes.now a.keys.now a.values.now kind c.records_in-n.ensures no refl

pub read_values-requires : goal.read_values-requires
read_values-requires c =
    let a = c.args in
    let kind = c.in_ok-kind.ensures.kind in
    let no = passed (goal.at.read_values-requires c).Else-lacks_list in
    values_room a.bytes.now a.keys.now a.values.now kind c.records_in-n.ensures no refl c.value_count.ensures

pub overflow_cast-result : goal.overflow_cast-result
overflow_cast-result c =
    let a = c.args in
    let kind = c.in_ok-kind.ensures.kind in
    let no = passed (goal.at.overflow_cast-result c).Else-lacks_list in
    let room = keys_room a.bytes.now a.keys.now a.values.now kind c.records_in-n.ensures no refl in
    omega (arith, room.0)

pub returns : goal.returns
returns c =
    let a = c.args in
    let kind = c.in_ok-kind.ensures.kind in
    let no = passed (goal.at.returns c).Else-lacks_list in
    list_read a.bytes.now a.keys.now a.values.now kind c.records_in-n.ensures no refl
    c.value_count.ensures c.read_keys.ensures c.read_values.ensures c.modulus_in.ensures
