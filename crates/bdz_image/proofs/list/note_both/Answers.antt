-- `bdz_image::list::note_both` meets its contract. Assumes nothing.
use Rattle.std.proofs.Common.{arith}
use Rattle.bdz_image.specs.Pages.{own_page}
use Rattle.bdz_image.proofs.Once.{listing_skip_two}
use Rattle.bdz_image.proofs.Listed.{both_below}
use Rattle.bdz_image.proofs.list.note_both.Goals as goal

pub returns-then-last_page-so_far : goal.returns-then-last_page-so_far
returns-then-last_page-so_far c =
    let a = c.args in
    let e = c.last_page.ensures.0 in
    let low = both_below a.width.bits a.order.now a.i a.so_far.next (omega arith) in
    listing_skip_two (own_page a.width.bits a.order.now) a.i c.requires.1 (omega arith) low.0 low.1
