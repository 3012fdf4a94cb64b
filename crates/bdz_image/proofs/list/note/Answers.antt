-- `bdz_image::list::note` meets its contract. Assumes nothing.
use native.Mathlib.Omega.{arith}
use Rattle.bdz_image.specs.Pages.{own_page}
use Rattle.bdz_image.proofs.Once.{listing_skip, listing_put}
use Rattle.bdz_image.proofs.list.note.Goals as goal

pub returns-then-page-so_far : goal.returns-then-page-so_far
returns-then-page-so_far c =
    let a = c.args in
    let e = c.own_page-page.ensures.0 in
    listing_skip (own_page a.width.bits a.order.now) c.requires.1 (omega arith) (omega (arith, e))

pub returns : goal.returns
returns c =
    let a = c.args in
    let e = c.own_page-page.ensures.0 in
    rw e (listing_put (own_page a.width.bits a.order.now) c.requires.1 (omega arith) (omega (arith, e)))
