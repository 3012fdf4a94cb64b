-- `bdz_image::ask::ask` meets its contract. Assumes nothing.
use Rattle.std.proofs.Common.{arith}
use Rattle.std.proofs.lemmas.Bool.Decides.{nat_tests}
use Rattle.bdz_image.specs.Ask.{words_of}
use Rattle.bdz_image.proofs.ask.ask.Goals as goal

pub returns-then-missing-ne0 : goal.returns-then-missing-ne0
unfolding words_of
returns-then-missing-ne0 c = grind (arith, nat_tests)

pub returns : goal.returns
unfolding words_of
returns c = grind (arith, nat_tests)
