-- `bdz_image::feed::lists_pages` meets its contract. Assumes nothing.
use Rattle.std.proofs.Common.{arith}
use Rattle.std.proofs.lemmas.Bool.Decides.{nat_tests}
use Rattle.bdz_image.specs.Feeding.{lists_pages}
use Rattle.bdz_image.proofs.feed.lists_pages.Goals as goal

pub returns-then-keys-eq0 : goal.returns-then-keys-eq0
unfolding lists_pages
returns-then-keys-eq0 c = grind (arith, nat_tests)

pub returns-then-index-eq0 : goal.returns-then-index-eq0
unfolding lists_pages
returns-then-index-eq0 c = grind (arith, nat_tests)

pub returns-then-lists_none : goal.returns-then-lists_none
unfolding lists_pages
returns-then-lists_none c = grind (arith, nat_tests)

pub returns : goal.returns
unfolding lists_pages
returns c = grind (arith, nat_tests)
