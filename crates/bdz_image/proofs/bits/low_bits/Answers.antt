-- `bdz_image::bits::low_bits` meets its contract. Assumes nothing.
use Rattle.std.proofs.Common.{◌≡◌, refl, ◌∙◌, ℕ, ◌*◌, ◌%◌, ◌^◌, ◌≤◌, one-mul, mod-lt, lt_of_lt_of_le, arith, lit<}
use Rattle.std.proofs.Common.{shl_exact, pow_pos, pow_mono}
use lib.Bits.{and_mask}
use Rattle.bdz_image.proofs.bits.low_bits.Goals as goal

one_shl : (w : ℕ) → w ≤ 32 → 1 * 2 ^ w % 2 ^ 64 ≡ 2 ^ w
one_shl w h = shl_exact {a = 1} 1 w 64 (lit< tt) (omega arith) ∙ one-mul (2 ^ w)

pub returns : goal.returns
returns c =
    let w = c.args.count in
    rw (one_shl w c.requires, and_mask c.args.x w)
    (refl, lt_of_lt_of_le (mod-lt c.args.x (pow_pos w)) (pow_mono c.requires))
