-- `bdz_image::list::own_page` meets its contract. Assumes nothing.
use Rattle.std.proofs.Common.{◌≡◌, sym, ◌-◌, ◌*◌, ◌/◌, ◌%◌, ◌^◌, zero-mul, add-zero, one-mul, arith, get_or}
use Rattle.bdz_image.specs.Pages.{own_page}
use Rattle.bdz_image.proofs.Small.{small_entry}
use Rattle.bdz_image.proofs.list.own_page.Goals as goal

pub returns-then-i-eq0 : goal.returns-then-i-eq0
unfolding own_page
returns-then-i-eq0 c =
    let a = c.args in
    let even : a.i % 2 ≡ 0 = omega arith in
    let w = c.bits.result in
    let entry = get_or a.order.now (a.i / 2) 0 in (
      rw (sym c.bits.ensures.0, even, zero-mul (w - 1), add-zero (entry / 2 ^ 32 * w)),
      omega (arith, small_entry entry w (omega (arith, c.shared_slice_known-1.given (a.i / 2))) (omega arith)),
    )

pub returns : goal.returns
unfolding own_page
returns c =
    let a = c.args in
    let odd : a.i % 2 ≡ 1 = omega arith in
    (rw (odd, one-mul (a.width.bits - 1)) c.last_page.ensures.0, c.last_page.ensures.1)
