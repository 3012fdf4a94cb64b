-- `bdz_image::feed::feed_no` meets its contract. Assumes nothing.
use Rattle.std.proofs.Common.{arith, ◌≡◌, Err, rules}
use Rattle.std.proofs.lemmas.Bool.Decides.{nat_tests}
use Rattle.bdz_base.proofs.Widths.{width_refused, width_passed}
use Rattle.bdz_image.specs.Feeding.{feed_no}
use Rattle.bdz_image.proofs.feed.feed_no.Goals as goal

pub returns-then-keys-eq0 : goal.returns-then-keys-eq0
unfolding feed_no
returns-then-keys-eq0 c = grind (arith, nat_tests)

pub returns-then-index-eq0 : goal.returns-then-index-eq0
unfolding feed_no
returns-then-index-eq0 c = grind (arith, nat_tests)

pub returns-in_err-new : goal.returns-in_err-new
unfolding feed_no
returns-in_err-new c =
    let refusal = c.in_err-new.field-0.0 in
    let is : c.from_residual.result ≡ Err refusal = search rules in
    rw is (grind (arith, nat_tests, width_refused))

pub returns-then-lists_none : goal.returns-then-lists_none
unfolding feed_no
returns-then-lists_none c = grind (arith, nat_tests, width_passed)

pub returns-then-index-eq1 : goal.returns-then-index-eq1
unfolding feed_no
returns-then-index-eq1 c = grind (arith, nat_tests, width_passed)

pub returns-then-index-eq0-2 : goal.returns-then-index-eq0-2
unfolding feed_no
returns-then-index-eq0-2 c = grind (arith, nat_tests, width_passed)

pub returns-then-index-eq0-3 : goal.returns-then-index-eq0-3
unfolding feed_no
returns-then-index-eq0-3 c = grind (arith, nat_tests, width_passed)

pub returns : goal.returns
unfolding feed_no
returns c = grind (arith, nat_tests, width_passed)
