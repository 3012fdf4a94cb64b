-- `bdz_list::tally::same_values` meets its contract. The loop's invariant: i places were compared. Assumes nothing.
use Rattle.std.proofs.Common.{◌≡◌, length, min, arith, rules}
use Rattle.bdz_list.proofs.Counts.{one_same, comparing_more, comparing_all}
use Rattle.bdz_list.proofs.tally.same_values.Goals as goal

pub loop-i-preserved : goal.loop-i-preserved
loop-i-preserved c =
    let n : c.min-n.result ≡ min (length c.args.values.now) (length c.args.answers.now) = search rules in
    comparing_more c.loop-i.invariant (omega arith) (omega arith) (one_same _ c.from-same.ensures)

pub returns : goal.returns
returns c =
    let n : c.min-n.result ≡ min (length c.args.values.now) (length c.args.answers.now) = search rules in
    comparing_all c.loop-i.invariant (omega arith)
