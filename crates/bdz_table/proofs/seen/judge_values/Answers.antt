-- `bdz_table::seen::judge_values` meets its contract. The loop's invariant: so many values were judged, and none refused. The
-- measure is how many are left. Assumes nothing.
use Rattle.std.proofs.Common.{sym, ◌∙◌, arith}
use Rattle.bdz_table.proofs.Judging.{judging_none, judging_all, judging_large, judging_again, judging_more}
use Rattle.bdz_table.proofs.seen.judge_values.Goals as goal

pub loop-x-init : goal.loop-x-init
loop-x-init c =
    judging_none c.args.modulus c.args.values.now c.requires

pub returns-then-modulus-x : goal.returns-then-modulus-x
returns-then-modulus-x c = judging_large c.loop-x.invariant (omega arith) (omega arith)

pub returns-then-occ_has : goal.returns-then-occ_has
returns-then-occ_has c =
    judging_again c.loop-x.invariant (omega arith) (omega arith) (sym c.if-occ_has.true ∙ c.occ_has.ensures)

pub loop-x-preserved : goal.loop-x-preserved
loop-x-preserved c =
    judging_more c.loop-x.invariant (omega arith) (omega arith) (sym c.if-occ_has.false ∙ c.occ_has.ensures) c.occ_set.ensures

pub returns : goal.returns
returns c = judging_all c.loop-x.invariant (omega arith)
