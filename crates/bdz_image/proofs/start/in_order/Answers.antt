-- `bdz_image::start::in_order` meets its contract. Assumes nothing.
use Rattle.std.proofs.Common.{arith, length, rules}
use Rattle.bdz_image.proofs.Begins.{entries_rising, entries_below}
use Rattle.bdz_image.proofs.Passes.{below_more}
use Rattle.bdz_image.proofs.start.in_order.Goals as goal

pub arrange_into-requires : goal.arrange_into-requires
arrange_into-requires c =
    let a = c.args in
    let n = length a.slots.now in
    let far = c.takes_three_bytes.ensures.far c.if-takes_three_bytes.true in
    let rising = entries_rising a.kind a.keys.now a.seed a.m n (omega arith) in
    let below = entries_below a.kind a.keys.now a.seed a.m n c.requires.0 (omega arith) in
    (search rules, rw c.entries.ensures rising, rw c.entries.ensures (below_more below (omega arith)))

pub arrange-requires : goal.arrange-requires
arrange-requires c =
    let a = c.args in
    let n = length a.order.now in
    let rising = entries_rising a.kind a.keys.now a.seed a.m n (omega arith) in
    let below = entries_below a.kind a.keys.now a.seed a.m n c.requires.0 (omega arith) in
    (search rules, rw c.entries-2.ensures rising, rw c.entries-2.ensures below)
