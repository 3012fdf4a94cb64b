-- `bdz_image::feed::start_room` meets its contract. Assumes nothing.
use Rattle.std.proofs.Common.{arith}
use Rattle.std.proofs.lemmas.Bool.Decides.{nat_tests}
use Rattle.bdz_image.specs.Feeding.{start_room}
use Rattle.bdz_image.proofs.feed.start_room.Goals as goal

pub returns-then-keys-gt1073741824 : goal.returns-then-keys-gt1073741824
unfolding start_room
returns-then-keys-gt1073741824 c = grind (arith, nat_tests)

pub returns-then-order-keys : goal.returns-then-order-keys
unfolding start_room
returns-then-order-keys c = grind (arith, nat_tests)

pub returns-then-slots-keys : goal.returns-then-slots-keys
unfolding start_room
returns-then-slots-keys c = grind (arith, nat_tests)

pub returns-then-pages-keys : goal.returns-then-pages-keys
unfolding start_room
returns-then-pages-keys c = grind (arith, nat_tests)

pub returns : goal.returns
unfolding start_room
returns c = grind (arith, nat_tests)
