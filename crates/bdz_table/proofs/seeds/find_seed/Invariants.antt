-- `bdz_table::seeds::find_seed` meets its contract. The loop's invariant: the search from here on is the whole search. Assumes nothing.
use Rattle.bdz_table.proofs.Tries.{Searching}
use Rattle.bdz_table.proofs.seeds.find_seed.Given as goal

abbrev pub invariant-loop-tries : goal.invariant-loop-tries
invariant-loop-tries l = Searching l.kind l.keys l.m l.state l._tries
