-- `bdz_image::feed::feed_page` meets its contract. Assumes nothing.
use Rattle.std.proofs.Common.{◌≡◌, sym, refl, ◌*◌, arith, length-take-le, length, Err, rules}
use Rattle.bdz_image.proofs.Feeds.{Fits, page_passed, page_refused, page_fed}
use Rattle.bdz_base.proofs.Refusals.{refused_test}
use Rattle.bdz_image.proofs.feed.feed_page.Goals as goal
use Rattle.bdz_image.proofs.feed.feed_page.Goals.{In_ok-width}

-- what is known of a page that is looked at
fits : (c : In_ok-width) → Fits c.args.index c.args.keys (length c.args.order.now) (length c.args.slots.now)
fits c =
    let a = c.args in
    page_passed a.index a.keys (length a.order.now) (length a.slots.now) (sym c.in_ok-width.ensures.number_is)

pub returns-in_err-width : goal.returns-in_err-width
returns-in_err-width c =
    let a = c.args in
    let refusal = c.in_err-width.field-0.0 in
    let is : c.from_residual.result ≡ Err refusal = search rules in
    let early = c.in_err-width.ensures.number_is in
    rw is (page_refused a.index a.keys a.page a.bytes.now a.order.now a.slots.now early (refused_test refusal))

pub overflow_mul-need : goal.overflow_mul-need
overflow_mul-need c = record { fits = omega (arith, (fits c).order_room) }

pub slice_bounds-feed-end : goal.slice_bounds-feed-end
slice_bounds-feed-end c =
    let room = (fits (goal.at.slice_bounds-feed-end c).In_ok-width).order_room in
    sym (length-take-le (3 * c.args.keys) c.args.order.now room)

pub slice_bounds-feed-end-2 : goal.slice_bounds-feed-end-2
slice_bounds-feed-end-2 c = (fits (goal.at.slice_bounds-feed-end-2 c).In_ok-width).slots_room

pub slice_bounds-feed-end-3 : goal.slice_bounds-feed-end-3
slice_bounds-feed-end-3 c =
    let room = (fits (goal.at.slice_bounds-feed-end-3 c).In_ok-width).slots_room in
    sym (length-take-le (3 * c.args.keys) c.args.slots.now room)

pub returns : goal.returns
returns c =
    let a = c.args in
    let early = c.in_ok-width.ensures.number_is in
    let bits = sym c.in_ok-width.ensures.bits_are in
    page_fed a.index a.keys a.page c.feed_m.result a.bytes.now a.order.now a.slots.now early refl c.feed_m.ensures
    (rw bits c.feed.ensures.0) (rw bits c.feed.ensures.1)
