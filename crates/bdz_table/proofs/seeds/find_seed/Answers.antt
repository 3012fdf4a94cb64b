-- `bdz_table::seeds::find_seed` meets its contract. The loop's invariant: the search from here on is the whole search. Assumes nothing.
use Rattle.bdz_table.proofs.Tries.{searching_none, searching_found, searching_more, searching_all}
use Rattle.bdz_table.proofs.seeds.find_seed.Goals as goal

pub loop-tries-init : goal.loop-tries-init
loop-tries-init c = searching_none c.args.kind c.args.keys.now c.args.m

pub returns-then-try_seed : goal.returns-then-try_seed
returns-then-try_seed c =
    let l = c.loop-tries in
    let a = c.args in
    searching_found a.kind a.keys.now a.m l.state l._tries l.invariant c.loop-tries-test.true c.splitmix64-step.ensures c.try_seed.new.xor_e c.try_seed.new.q c.try_seed.result c.requires.sizes.some c.try_seed.ensures c.if-try_seed.true

pub loop-tries-preserved : goal.loop-tries-preserved
loop-tries-preserved c =
    let l = c.loop-tries in
    let a = c.args in
    searching_more a.kind a.keys.now a.m l.state l._tries l.invariant c.loop-tries-test.true c.splitmix64-step.ensures c.try_seed.new.xor_e c.try_seed.new.q c.try_seed.result c.requires.sizes.some c.try_seed.ensures c.if-try_seed.false

pub returns : goal.returns
returns c =
    let l = c.loop-tries in
    let a = c.args in
    searching_all a.kind a.keys.now a.m l.state l._tries l.invariant c.loop-tries-test.false
