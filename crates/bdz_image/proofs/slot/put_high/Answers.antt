-- `bdz_image::slot::put_high` meets its contract. Assumes nothing.
use Rattle.std.proofs.Common.{◌≡◌, ap, ◌∙◌, ℕ, ◌+◌, ◌*◌, ◌%◌, ◌^◌, mod-lt, arith, pow_pos}
use Rattle.bdz_image.proofs.Any.{two_lt}
use Rattle.bdz_image.proofs.slot.put_high.Goals as goal

pub returns : goal.returns
returns c =
    let a = c.args in
    let e : c.join.result ≡ a.x * 2 ^ a.k + a.old % 2 ^ a.k =
    c.join.ensures ∙ ap (λ (y : ℕ). a.x * 2 ^ a.k + y) c.low_bits.ensures.0 in
    (e, rw e (two_lt 32 a.k a.x c.requires.1 (omega arith) c.requires.0 (mod-lt a.old (pow_pos a.k))))
