-- `bdz_table::peel::peel_turns` meets its contract. The loop's invariant: what is left to run of the queue is what was to run at first.
-- Assumes nothing.
use Rattle.std.proofs.Common.{length, arith}
use Rattle.bdz_table.proofs.Counting.{graph_at_lem}
use Rattle.bdz_table.proofs.Turning.{turning_none, turning_take, turning_skip, turning_all, next_inside, key_below, leaves}
use Rattle.bdz_table.proofs.peel.peel_turns.Goals as goal
use Rattle.bdz_table.proofs.peel.peel_turns.Goals.{then-deg-v-eq1, else-deg-v-eq1}

pub loop-qi-init : goal.loop-qi-init
loop-qi-init c =
    let G = graph_at_lem c.args.graph (length c.args.graph.keys.now) c.requires.sizes.some in
    turning_none _ _ _ _ _ _ _ G c.requires

pub bounds-deg-v : goal.bounds-deg-v
bounds-deg-v c =
    let G = graph_at_lem c.args.graph (length c.args.graph.keys.now) c.requires.sizes.some in
    let l = c.loop-qi in
    omega (arith, next_inside _ _ _ G _ _ _ _ _ _ l.invariant c.loop-qi-test.true, l.invariant.longd)

pub vertices-us-requires : goal.vertices-us-requires
vertices-us-requires c =
    let G = graph_at_lem c.args.graph (length c.args.graph.keys.now) c.requires.sizes.some in
    key_below _ _ _ G _ _ _ _ _ _ c.loop-qi.invariant c.loop-qi-test.true c.if-deg-v-eq1.true

pub leave-qn-requires : goal.leave-qn-requires
leave-qn-requires c =
    let G = graph_at_lem c.args.graph (length c.args.graph.keys.now) c.requires.sizes.some in
    rw c.vertices-us.ensures (leaves _ _ _ G _ _ _ _ _ _ c.loop-qi.invariant c.loop-qi-test.true c.if-deg-v-eq1.true)

pub loop-qi-preserved : goal.loop-qi-preserved
loop-qi-preserved c =
    let G = graph_at_lem c.args.graph (length c.args.graph.keys.now) c.requires.sizes.some in
    let l = c.loop-qi in
    let test = c.loop-qi-test.true in
    elim c.if-deg-v-eq1.branch [
      | then-deg-v-eq1 w ↦
          let cut = w.leave-qn in
          rw (w.deg-is, w.xor_e-is, w.q-is, w.qn-is, w.c-is)
          (turning_take _ _ _ G _ _ _ _ _ _ l.invariant test w.if-deg-v-eq1.true _ _ _ _ cut.auto.deg cut.auto.xor_e cut.auto.q (rw w.vertices-us.ensures at cut.ensures))
      | else-deg-v-eq1 w ↦
          rw (w.deg-is, w.xor_e-is, w.q-is, w.qn-is, w.c-is)
          (turning_skip _ _ _ G _ _ _ _ _ _ l.invariant test w.if-deg-v-eq1.false)
    ]

pub returns : goal.returns
returns c =
    let G = graph_at_lem c.args.graph (length c.args.graph.keys.now) c.requires.sizes.some in
    turning_all _ _ _ G _ _ _ _ _ _ c.loop-qi.invariant c.loop-qi-test.false
