-- `bdz_table::pairs::occupy_all` meets its contract. Assumes nothing.
use Rattle.std.proofs.Common.{◌≡◌, [], ◌∷◌, ◌++◌, length, rules}
use Rattle.bdz_table.proofs.Pairing.{front_long, front_last, front_left, setting_all, setting_bit, setting_next}
use Rattle.bdz_table.proofs.pairs.occupy_all.Goals as goal

pub occ_set-requires : goal.occ_set-requires
occ_set-requires c =
    let a = c.args in
    let before = c.loop-p.invariant in
    let rest = c.loop-p.p-iterator.iter.rest.now in
    let left = c.next.new.self.iter.rest.now in
    let p = c.in-Some.field-0.now in
    let taken : rest ≡ left ++ p ∷ [] = search rules in
    setting_bit a.n a.m c.occ_packed_bytes-bytes.result a.order.now a.occ.now c.occ_packed_bytes-bytes.ensures c.requires
    (rw (front_long a.order.now rest left p before.0 taken) at before.1) (front_last a.order.now rest left p before.0 taken)

pub loop-p-preserved : goal.loop-p-preserved
loop-p-preserved c =
    let a = c.args in
    let before = c.loop-p.invariant in
    let rest = c.loop-p.p-iterator.iter.rest.now in
    let left = c.next.new.self.iter.rest.now in
    let p = c.in-Some.field-0.now in
    let taken : rest ≡ left ++ p ∷ [] = search rules in (
      front_left a.order.now rest left p before.0 taken,
      setting_next a.n a.m c.occ_packed_bytes-bytes.result a.order.now a.occ.now c.occ_packed_bytes-bytes.ensures c.requires
          (rw (front_long a.order.now rest left p before.0 taken) at before.1) (front_last a.order.now rest left p before.0 taken) c.occ_set.ensures,
    )

pub returns : goal.returns
returns c =
    let a = c.args in
    let none : length c.loop-p.p-iterator.iter.rest.now ≡ 0 = search rules in
    setting_all a.n a.m c.occ_packed_bytes-bytes.result a.order.now a.occ.now c.occ_packed_bytes-bytes.ensures (rw none at c.loop-p.invariant.1)
