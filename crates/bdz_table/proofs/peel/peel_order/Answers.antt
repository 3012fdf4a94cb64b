-- `bdz_table::peel::peel_order` meets its contract. Assumes nothing.
use Rattle.std.proofs.Common.{length, rules}
use Rattle.bdz_table.specs.Keys.{graph_at}
use Rattle.bdz_table.proofs.Answers.{counted_yes, answer_counted, turnable}
use Rattle.bdz_table.proofs.Counting.{graph_at_lem}
use Rattle.bdz_table.proofs.peel.peel_order.Goals as goal

pub peel_turns-c-requires : goal.peel_turns-c-requires
peel_turns-c-requires c =
    let k = c.count_keys in
    let f = c.fill_queue-qn in
    turnable _ _ _ _ _ _ _ _ _ _ c.requires k.auto.deg k.auto.xor_e f.auto.q
    (counted_yes k.result (graph_at c.args.graph) (length c.args.graph.keys.now) k.new.deg k.new.xor_e c.if-not-count_keys.false k.ensures) f.ensures

pub returns : goal.returns
returns c =
    let vs = graph_at c.args.graph in
    let n = length c.args.graph.keys.now in
    let G = graph_at_lem c.args.graph n c.requires.clear.sizes.some in
    let k = c.count_keys in
    answer_counted _ _ _ _ _ G _ c.peel_turns-c.ensures k.new.deg k.new.xor_e
    (counted_yes k.result vs n k.new.deg k.new.xor_e c.if-not-count_keys.false k.ensures) (λ v. search rules)
