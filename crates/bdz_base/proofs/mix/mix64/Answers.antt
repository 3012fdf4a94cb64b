-- `bdz_base::mix::mix64` meets its contract. Assumes nothing.
use Rattle.bdz_base.specs.Mix.{mix64_of}
use Rattle.bdz_base.proofs.mix.mix64.Goals as goal

pub returns : goal.returns
unfolding mix64_of
returns c = cc
