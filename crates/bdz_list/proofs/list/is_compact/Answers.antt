-- `bdz_list::list::is_compact` meets its contract. Assumes nothing.
use Rattle.std.proofs.Common.{arith}
use Rattle.std.proofs.lemmas.Bool.Decides.{nat_tests}
use Rattle.bdz_list.specs.List.{compact_list}
use Rattle.bdz_list.proofs.list.is_compact.Goals as goal

pub returns-then-bytes-eq0 : goal.returns-then-bytes-eq0
unfolding compact_list
returns-then-bytes-eq0 c = grind (arith, nat_tests)

pub returns : goal.returns
unfolding compact_list
returns c = grind (arith, nat_tests)
