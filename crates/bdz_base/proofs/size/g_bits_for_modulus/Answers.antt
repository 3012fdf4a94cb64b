-- `bdz_base::size::g_bits_for_modulus` meets its contract. Assumes nothing.
use Rattle.std.proofs.Common.{◌≡◌, ℕ, zero, suc, ◌+◌, ◌-◌, ◌/◌, ◌<◌, ◌≤◌, refl, ap, ◌∙◌, suc-add, arith}
use lib.Count.{count_leading_zeros}
use Rattle.bdz_base.specs.Width.{bits_of, width_of}
use Rattle.bdz_base.proofs.size.g_bits_for_modulus.Goals as goal

-- the bits and the leading zeros make the whole
bits_leading : (k n : ℕ) → bits_of k n + count_leading_zeros k n ≡ k
unfolding bits_of count_leading_zeros
bits_leading zero n = refl
bits_leading (suc k) zero = omega arith
bits_leading (suc k) (suc n) =
    let half = suc n / 2 in
    suc-add (bits_of k half) (count_leading_zeros k half) ∙ ap suc (bits_leading k half)

small : (m : ℕ) → m ≤ 1 → 1 ≡ width_of m
unfolding width_of
small zero h = refl
small (suc zero) h = refl
small (suc (suc n)) h = omega arith

large : (m : ℕ) → 1 < m → 32 - count_leading_zeros 32 (m - 1) ≡ width_of m
unfolding width_of
large zero h = omega arith
large (suc zero) h = omega arith
large (suc (suc n)) h = let e : suc (suc n) - 1 ≡ suc n = omega arith in rw e (omega (arith, bits_leading 32 (suc n)))

pub returns-then-modulus-le1 : goal.returns-then-modulus-le1
returns-then-modulus-le1 c = small c.args.modulus c.if-modulus-le1.true

pub returns : goal.returns
returns c = large c.args.modulus c.if-modulus-le1.false
