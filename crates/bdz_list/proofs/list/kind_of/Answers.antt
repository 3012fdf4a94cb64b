-- `bdz_list::list::kind_of` meets its contract. Assumes nothing.
use Rattle.std.proofs.Common.{arith}
use Rattle.std.proofs.lemmas.Bool.Decides.{nat_tests}
use Rattle.bdz_list.specs.List.{kind_no}
use Rattle.bdz_list.proofs.list.kind_of.Goals as goal

pub returns-then-is_assigned-clause-number : goal.returns-then-is_assigned-clause-number
unfolding kind_no
returns-then-is_assigned-clause-number c = grind (arith, nat_tests)

pub returns-then-is_compact-clause-number : goal.returns-then-is_compact-clause-number
unfolding kind_no
returns-then-is_compact-clause-number c = grind (arith, nat_tests)

pub returns-clause-number : goal.returns-clause-number
unfolding kind_no
returns-clause-number c = grind (arith, nat_tests)
