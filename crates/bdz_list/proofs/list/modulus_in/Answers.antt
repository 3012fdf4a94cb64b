-- `bdz_list::list::modulus_in` meets its contract. Assumes nothing.
use Rattle.std.proofs.Common.{arith}
use Rattle.std.proofs.lemmas.Bool.Decides.{nat_tests}
use Rattle.bdz_list.specs.List.{list_modulus}
use Rattle.bdz_list.proofs.list.modulus_in.Goals as goal

pub returns-in-Assigned : goal.returns-in-Assigned
unfolding list_modulus
returns-in-Assigned c = grind (arith, nat_tests)

pub returns-in-Compact : goal.returns-in-Compact
unfolding list_modulus
returns-in-Compact c = grind (arith, nat_tests)
