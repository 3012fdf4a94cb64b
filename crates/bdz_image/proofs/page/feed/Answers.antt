-- `bdz_image::page::feed` meets its contract. Assumes nothing.
use Rattle.std.proofs.lemmas.Bool.Decides.{nat_tests}
use Rattle.bdz_image.specs.Page.{page_slots}
use Rattle.std.proofs.Common.{◌≡◌, sym, arith, Err, rules}
use Rattle.bdz_image.specs.Page.{page_no, from_at}
use Rattle.bdz_base.proofs.Refusals.{number_some}
use Rattle.bdz_image.proofs.page.feed.Goals as goal

pub returns-then-lo-order : goal.returns-then-lo-order
unfolding page_no page_slots
returns-then-lo-order c =
    let a = c.args in
    let e : c.place-lo.result ≡ from_at a.width.bits a.page a.order.now =
    rw (sym c.bits.ensures.0) c.place-lo.ensures in
    grind (arith, nat_tests)

pub returns-in_err-entry_no : goal.returns-in_err-entry_no
unfolding page_no page_slots
returns-in_err-entry_no c =
    let a = c.args in
    let refusal = c.in_err-entry_no.field-0.0 in
    let is : c.from_residual.result ≡ Err refusal = search rules in
    let e : c.place-lo.result ≡ from_at a.width.bits a.page a.order.now =
    rw (sym c.bits.ensures.0) c.place-lo.ensures in
    rw is (grind (arith, nat_tests, number_some refusal))

pub returns : goal.returns
unfolding page_no page_slots
returns c =
    let a = c.args in
    let e : c.place-lo.result ≡ from_at a.width.bits a.page a.order.now =
    rw (sym c.bits.ensures.0) c.place-lo.ensures in
    grind (arith, nat_tests)
