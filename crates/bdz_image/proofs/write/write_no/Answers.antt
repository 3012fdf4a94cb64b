-- `bdz_image::write::write_no` meets its contract. Assumes nothing.
use Rattle.std.proofs.Common.{arith}
use Rattle.std.proofs.lemmas.Bool.Decides.{nat_tests}
use Rattle.bdz_image.specs.Write.{write_no}
use Rattle.bdz_image.proofs.write.write_no.Goals as goal

pub returns-then-occ-occ_in : goal.returns-then-occ-occ_in
unfolding write_no
returns-then-occ-occ_in c = grind (arith, nat_tests)

pub returns-then-table-words : goal.returns-then-table-words
unfolding write_no
returns-then-table-words c = grind (arith, nat_tests)

pub returns-then-image-image_len : goal.returns-then-image-image_len
unfolding write_no
returns-then-image-image_len c = grind (arith, nat_tests)

pub returns : goal.returns
unfolding write_no
returns c = grind (arith, nat_tests)
