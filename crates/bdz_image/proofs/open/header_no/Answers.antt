-- `bdz_image::open::header_no` meets its contract. Assumes nothing.
use Rattle.std.proofs.Common.{arith}
use Rattle.std.proofs.lemmas.Bool.Decides.{nat_tests}
use Rattle.bdz_image.proofs.Openings.{header_cascade}
use Rattle.bdz_image.proofs.open.header_no.Goals as goal

pub returns-then-h-magic_of : goal.returns-then-h-magic_of
returns-then-h-magic_of c = rw header_cascade (grind (arith, nat_tests))

pub returns-then-h-ne1 : goal.returns-then-h-ne1
returns-then-h-ne1 c = rw header_cascade (grind (arith, nat_tests))

pub returns-then-lacks_width : goal.returns-then-lacks_width
returns-then-lacks_width c = rw header_cascade (grind (arith, nat_tests))

pub returns-then-h-eq0 : goal.returns-then-h-eq0
returns-then-h-eq0 c = rw header_cascade (grind (arith, nat_tests))

pub returns-then-lacks_modulus : goal.returns-then-lacks_modulus
returns-then-lacks_modulus c = rw header_cascade (grind (arith, nat_tests))

pub returns-then-len-size : goal.returns-then-len-size
returns-then-len-size c = rw header_cascade (grind (arith, nat_tests))

pub returns : goal.returns
returns c = rw header_cascade (grind (arith, nat_tests))
