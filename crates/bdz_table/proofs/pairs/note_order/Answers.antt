-- `bdz_table::pairs::note_order` meets its contract. Assumes nothing.
use Rattle.std.proofs.Common.{◌≡◌, ◌-◌, suc, arith}
use Rattle.bdz_table.proofs.Pairing.{ordering_all, ordering_more}
use Rattle.bdz_table.proofs.pairs.note_order.Goals as goal

pub loop-i-preserved : goal.loop-i-preserved
loop-i-preserved c =
    let a = c.args in
    let i = c.loop-i.i in
    let e : i ≡ suc (i - 1) = omega arith in
    ordering_more a.xor_e.now a.q.now a.n a.order.now (rw e at c.loop-i.invariant) c.pair_of.ensures

pub returns : goal.returns
returns c =
    let a = c.args in
    let none : c.loop-i.i ≡ 0 = omega arith in
    ordering_all a.xor_e.now a.q.now a.n a.order.now (rw none at c.loop-i.invariant)
