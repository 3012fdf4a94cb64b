-- `bdz_list::list::is_assigned` meets its contract. Assumes nothing.
use Rattle.std.proofs.Common.{arith}
use Rattle.std.proofs.lemmas.Bool.Decides.{nat_tests}
use Rattle.bdz_list.specs.List.{assigned_list}
use Rattle.bdz_list.proofs.Records.{assigned_long}
use Rattle.bdz_list.proofs.list.is_assigned.Goals as goal

pub returns-then-not-is_shaped : goal.returns-then-not-is_shaped
unfolding assigned_list
returns-then-not-is_shaped c = grind (arith, nat_tests)

pub is_marked-requires : goal.is_marked-requires
is_marked-requires c = assigned_long c.args.bytes.now c.is_shaped.ensures c.if-not-is_shaped.false

pub returns-then-not-is_marked : goal.returns-then-not-is_marked
unfolding assigned_list
returns-then-not-is_marked c = grind (arith, nat_tests)

pub returns : goal.returns
unfolding assigned_list
returns c = grind (arith, nat_tests)
