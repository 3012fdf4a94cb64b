-- The width is from 1 to 32, and is the least that holds every number below the modulus. Assumes nothing.
use Rattle.std.proofs.Common.{◌≡◌, ℕ, zero, suc, ◌-◌, ◌*◌, ◌/◌, ◌^◌, ◌<◌, ◌≤◌, pow-suc, arith}
use Rattle.bdz_base.specs.Width.{bits_of, width_of}

bits_le : (k n : ℕ) → bits_of k n ≤ k
unfolding bits_of
bits_le zero n = omega arith
bits_le (suc k) zero = omega arith
bits_le (suc k) (suc n) = let h = bits_le k (suc n / 2) in omega arith

pub width_le : (modulus : ℕ) → width_of modulus ≤ 32
unfolding width_of
width_le zero = omega arith
width_le (suc zero) = omega arith
width_le (suc (suc n)) = bits_le 32 (suc n)

pub width_pos : (modulus : ℕ) → 0 < width_of modulus
unfolding width_of bits_of
width_pos zero = omega arith
width_pos (suc zero) = omega arith
width_pos (suc (suc n)) = omega arith

bits_hold : (k n : ℕ) → n < 2 ^ k → n < 2 ^ bits_of k n
unfolding bits_of
bits_hold zero n h = h
bits_hold (suc k) zero h = omega arith
bits_hold (suc k) (suc n) h =
    let e : 2 ^ suc k ≡ 2 ^ k * 2 = pow-suc 2 k in
    let l : suc n / 2 < 2 ^ k = omega arith in
    let r : suc n / 2 < 2 ^ bits_of k (suc n / 2) = bits_hold k (suc n / 2) l in
    let s : 2 ^ suc (bits_of k (suc n / 2)) ≡ 2 ^ bits_of k (suc n / 2) * 2 = pow-suc 2 (bits_of k (suc n / 2)) in
    omega arith

-- a word below the modulus fits the width
pub width_holds : (modulus : ℕ) → modulus ≤ 2 ^ 32 → modulus ≤ 2 ^ width_of modulus
unfolding width_of
width_holds zero h = omega arith
width_holds (suc zero) h = omega arith
width_holds (suc (suc n)) h = bits_hold 32 (suc n) (omega arith)

one_bit : (k : ℕ) → 2 ^ suc (bits_of k (1 / 2)) ≤ 2
unfolding bits_of
one_bit zero = omega arith
one_bit (suc k) = omega arith

bits_least : (k n : ℕ) → 0 < n → 2 ^ bits_of k n ≤ 2 * n
unfolding bits_of
bits_least zero n h = omega arith
bits_least (suc k) zero h = omega arith
bits_least (suc k) (suc zero) h = one_bit k
bits_least (suc k) (suc (suc n)) h =
    let r : 2 ^ bits_of k (suc (suc n) / 2) ≤ 2 * (suc (suc n) / 2) = bits_least k (suc (suc n) / 2) (omega arith) in
    let s : 2 ^ suc (bits_of k (suc (suc n) / 2)) ≡ 2 ^ bits_of k (suc (suc n) / 2) * 2 = pow-suc 2 (bits_of k (suc (suc n) / 2)) in
    omega arith

-- and no smaller width would do
pub width_least : (modulus : ℕ) → 2 ≤ modulus → 2 ^ width_of modulus ≤ 2 * (modulus - 1)
unfolding width_of
width_least zero h = omega arith
width_least (suc zero) h = omega arith
width_least (suc (suc n)) h = let e : suc (suc n) - 1 ≡ suc n = omega arith in rw e (bits_least 32 (suc n) (omega arith))
