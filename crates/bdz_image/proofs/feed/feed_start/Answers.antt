-- `bdz_image::feed::feed_start` meets its contract. Assumes nothing.
use Rattle.std.proofs.Common.{◌≡◌, sym, refl, ◌∙◌, ◌*◌, arith, length, length-take-le, Err, rules}
use Rattle.bdz_image.specs.Feeding.{start_room}
use Rattle.bdz_image.proofs.Starting.{Ready, Roomy, feed_passed, room_passed}
use Rattle.bdz_image.proofs.Starting.{start_refused, start_lists_none, start_begun}
use Rattle.bdz_base.proofs.Refusals.{refused_test, number_some}
use Rattle.bdz_base.proofs.Widths.{width_none}
use Rattle.bdz_base.specs.Refusal.{number}
use Rattle.bdz_image.proofs.feed.feed_start.Goals as goal
use Rattle.bdz_image.proofs.feed.feed_start.Goals.{After-feed_m}

-- what is known where pages are listed
ready : (c : After-feed_m)
    → let a = c.args in
    Ready a.index (start_room (length a.keys.now) (length a.order.now) (length a.slots.now) (length a.pages.now))
ready c =
    let a = c.args in
    feed_passed a.index (length a.keys.now) (length a.occ.now) _ (sym c.lists_pages.ensures ∙ c.if-lists_pages.true)
    (sym c.in_ok-start_no.ensures)

roomy : (c : After-feed_m)
    → let a = c.args in Roomy (length a.keys.now) (length a.order.now) (length a.slots.now) (length a.pages.now)
roomy c = room_passed _ _ _ _ (ready c).room_is

pub returns-in_err-start_no : goal.returns-in_err-start_no
returns-in_err-start_no c =
    let a = c.args in
    let refusal = c.in_err-start_no.field-0.0 in
    let is : c.from_residual.result ≡ Err refusal = search rules in
    rw is
    (start_refused a.index a.keys.now (length a.occ.now) a.order.now a.slots.now a.pages.now
    c.in_err-start_no.ensures (refused_test refusal))

pub returns-in_err-width : goal.returns-in_err-width
returns-in_err-width c =
    let a = c.args in
    let lists = sym c.lists_pages.ensures ∙ c.if-lists_pages.true in
    let r = feed_passed a.index (length a.keys.now) (length a.occ.now) _ lists (sym c.in_ok-start_no.ensures) in
    let refusal = c.in_err-width.field-0.0 in
    let accepted = width_none a.index.width r.width_some r.width_low in
    let none : number refusal ≡ 0 = c.in_err-width.ensures.number_is ∙ accepted in
    absurd (omega (arith, number_some refusal))

pub slice_bounds-start-end : goal.slice_bounds-start-end
slice_bounds-start-end c = (roomy c).order_room

pub slice_bounds-start-end-then-lists_pages : goal.slice_bounds-start-end-then-lists_pages
slice_bounds-start-end-then-lists_pages c =
    let a = c.args in
    let room = roomy (goal.at.slice_bounds-start-end-then-lists_pages c).After-feed_m in
    sym (length-take-le (3 * length a.keys.now) a.order.now room.order_room)

pub slice_bounds-start-end-then-lists_pages-2 : goal.slice_bounds-start-end-then-lists_pages-2
slice_bounds-start-end-then-lists_pages-2 c =
    let room = roomy (goal.at.slice_bounds-start-end-then-lists_pages-2 c).After-feed_m in
    room.slots_room

pub slice_bounds-start-end-then-lists_pages-3 : goal.slice_bounds-start-end-then-lists_pages-3
slice_bounds-start-end-then-lists_pages-3 c =
    let a = c.args in
    let room = roomy (goal.at.slice_bounds-start-end-then-lists_pages-3 c).After-feed_m in
    sym (length-take-le (3 * length a.keys.now) a.slots.now room.slots_room)

pub slice_bounds-start-end-then-lists_pages-4 : goal.slice_bounds-start-end-then-lists_pages-4
slice_bounds-start-end-then-lists_pages-4 c =
    let room = roomy (goal.at.slice_bounds-start-end-then-lists_pages-4 c).After-feed_m in
    omega (arith, room.pages_room)

pub slice_bounds-start-end-then-lists_pages-5 : goal.slice_bounds-start-end-then-lists_pages-5
slice_bounds-start-end-then-lists_pages-5 c =
    let a = c.args in
    let room = roomy (goal.at.slice_bounds-start-end-then-lists_pages-5 c).After-feed_m in
    sym (length-take-le (2 * (3 * length a.keys.now)) a.pages.now (omega (arith, room.pages_room)))

pub start-listed-requires : goal.start-listed-requires
start-listed-requires c =
    let a = c.args in
    let here = (goal.at.start-listed-requires c).After-feed_m in
    let room = roomy here in
    let x = length-take-le (3 * length a.keys.now) a.order.now room.order_room in
    let y = length-take-le (3 * length a.keys.now) a.slots.now room.slots_room in
    let z = length-take-le (2 * (3 * length a.keys.now)) a.pages.now (omega (arith, room.pages_room)) in
    (omega (arith, (ready here).vertices, c.feed_m.ensures), x, y, z ∙ omega arith, omega (arith, x, room.few))

pub returns-then-lists_pages : goal.returns-then-lists_pages
returns-then-lists_pages c =
    let a = c.args in
    let lists = sym c.lists_pages.ensures ∙ c.if-lists_pages.true in
    start_begun a.index a.keys.now (length a.occ.now) a.order.now a.slots.now a.pages.now
    c.in_ok-start_no.ensures refl lists c.feed_m.ensures
    (rw (sym c.in_ok-width.ensures.bits_are) c.start-listed.ensures)

pub returns : goal.returns
returns c =
    let a = c.args in
    let none = sym c.lists_pages.ensures ∙ c.if-lists_pages.false in
    start_lists_none a.index a.keys.now (length a.occ.now) a.order.now a.slots.now a.pages.now
    c.in_ok-start_no.ensures refl none
