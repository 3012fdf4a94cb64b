-- `bdz_list::list::is_shaped` meets its contract. Assumes nothing.
use Rattle.bdz_list.specs.List.{shaped}
use Rattle.std.proofs.Common.{arith}
use Rattle.std.proofs.lemmas.Bool.Decides.{nat_tests}
use Rattle.bdz_list.proofs.list.is_shaped.Goals as goal

pub returns-then-n-gt1000 : goal.returns-then-n-gt1000
unfolding shaped
returns-then-n-gt1000 c = grind (arith, nat_tests)

pub returns-then-place-bytes : goal.returns-then-place-bytes
unfolding shaped
returns-then-place-bytes c = grind (arith, nat_tests)

pub returns : goal.returns
unfolding shaped
returns c = grind (arith, nat_tests)
