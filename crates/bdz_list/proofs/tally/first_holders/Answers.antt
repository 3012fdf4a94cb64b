-- `bdz_list::tally::first_holders` meets its contract. Assumes nothing.
use Rattle.bdz_list.proofs.Counts.{no_holders, some_holders}
use Rattle.bdz_list.proofs.tally.first_holders.Goals as goal

pub returns-then-seen-need : goal.returns-then-seen-need
returns-then-seen-need c =
    let a = c.args in
    no_holders a.n a.answers.now a.seen.now c.occ_packed_bytes-need.ensures c.if-seen-need.true

pub returns : goal.returns
returns c =
    let a = c.args in
    some_holders a.n a.answers.now a.seen.now c.occ_packed_bytes-need.ensures c.if-seen-need.false c.hold_part.ensures
