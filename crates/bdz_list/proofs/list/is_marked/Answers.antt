-- `bdz_list::list::is_marked` meets its contract. Assumes nothing.
use Rattle.std.proofs.Common.{arith}
use Rattle.std.proofs.lemmas.Bool.Decides.{nat_tests}
use Rattle.bdz_list.specs.List.{marked}
use Rattle.bdz_list.proofs.list.is_marked.Goals as goal

pub returns-then-bytes-at-ne75 : goal.returns-then-bytes-at-ne75
unfolding marked
returns-then-bytes-at-ne75 c = grind (arith, nat_tests)

pub returns : goal.returns
unfolding marked
returns c = grind (arith, nat_tests)
