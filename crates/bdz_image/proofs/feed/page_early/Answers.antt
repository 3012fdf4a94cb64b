-- `bdz_image::feed::page_early` meets its contract. Assumes nothing.
use Rattle.std.proofs.Common.{arith, ◌≡◌, Err, rules}
use Rattle.std.proofs.lemmas.Bool.Decides.{nat_tests}
use Rattle.bdz_base.proofs.Widths.{width_refused, width_passed}
use Rattle.bdz_image.specs.Feeding.{page_early}
use Rattle.bdz_image.proofs.feed.page_early.Goals as goal

pub returns-then-keys-eq0-clause-number_is : goal.returns-then-keys-eq0-clause-number_is
unfolding page_early
returns-then-keys-eq0-clause-number_is c = grind (arith, nat_tests)

pub returns-then-index-eq0-clause-number_is : goal.returns-then-index-eq0-clause-number_is
unfolding page_early
returns-then-index-eq0-clause-number_is c = grind (arith, nat_tests)

pub returns-in_err-width-clause-number_is : goal.returns-in_err-width-clause-number_is
unfolding page_early
returns-in_err-width-clause-number_is c =
    let refusal = c.in_err-width.field-0.0 in
    let is : c.from_residual.result ≡ Err refusal = search rules in
    rw is (grind (arith, nat_tests, width_refused))

pub returns-then-lists_none-clause-number_is : goal.returns-then-lists_none-clause-number_is
unfolding page_early
returns-then-lists_none-clause-number_is c = grind (arith, nat_tests, width_passed)

pub returns-then-order-keys-clause-number_is : goal.returns-then-order-keys-clause-number_is
unfolding page_early
returns-then-order-keys-clause-number_is c = grind (arith, nat_tests, width_passed)

pub returns-then-slots-keys-clause-number_is : goal.returns-then-slots-keys-clause-number_is
unfolding page_early
returns-then-slots-keys-clause-number_is c = grind (arith, nat_tests, width_passed)

pub returns-clause-number_is : goal.returns-clause-number_is
unfolding page_early
returns-clause-number_is c = grind (arith, nat_tests, width_passed)
