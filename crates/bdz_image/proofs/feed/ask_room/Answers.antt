-- `bdz_image::feed::ask_room` meets its contract. Assumes nothing.
use Rattle.std.proofs.Common.{arith}
use Rattle.std.proofs.lemmas.Bool.Decides.{nat_tests}
use Rattle.bdz_image.specs.Feeding.{ask_room}
use Rattle.bdz_image.proofs.feed.ask_room.Goals as goal

pub returns-then-keys-gt1073741824 : goal.returns-then-keys-gt1073741824
unfolding ask_room
returns-then-keys-gt1073741824 c = grind (arith, nat_tests)

pub returns-then-slots-keys : goal.returns-then-slots-keys
unfolding ask_room
returns-then-slots-keys c = grind (arith, nat_tests)

pub returns : goal.returns
unfolding ask_room
returns c = grind (arith, nat_tests)
