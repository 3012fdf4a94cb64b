-- `bdz_base::mix::splitmix64` meets its contract. Assumes nothing.
use Rattle.bdz_base.specs.Mix.{next_of, seed_of, step_of}
use Rattle.bdz_base.proofs.mix.splitmix64.Goals as goal

pub returns : goal.returns
unfolding next_of seed_of step_of
returns c = cc
