-- `bdz_image::list::list` meets its contract. Assumes nothing.
use Rattle.std.proofs.Common.{◌*◌, length}
use Rattle.bdz_image.specs.Pages.{own_page, Listing}
use Rattle.bdz_image.proofs.list.list.Given as goal

abbrev pub invariant-loop-i : goal.invariant-loop-i
invariant-loop-i l =
    Listing (own_page l.width.bits l.order) (2 * length l.order) l.so_far.count l.so_far.next (2 * l.i) l.pages
