-- `bdz_image::list::list` meets its contract. Assumes nothing.
use Rattle.std.proofs.Common.{ℕ, ◌*◌, length, sym, ap, ◌∙◌, arith}
use Rattle.bdz_image.specs.Pages.{own_page, once_of, list_of, padded}
use Rattle.bdz_image.proofs.Once.{listing_end}
use Rattle.bdz_image.proofs.list.list.Goals as goal

pub returns : goal.returns
unfolding list_of
returns c =
    let a = c.args in
    let f = own_page a.width.bits a.order.now in
    let z = listing_end f c.loop-i.invariant (omega arith) in
    (z.0, z.1 ∙ ap (λ (n : ℕ). padded n (once_of f (2 * length a.order.now) 0 0)) (sym c.requires))
