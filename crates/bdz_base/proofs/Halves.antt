-- Products from halves of 32 bits, as plain numbers. Assumes nothing.
use Rattle.std.proofs.Common.{◌≡◌, ℕ, zero, suc, ◌+◌, ◌-◌, ◌*◌, ◌/◌, ◌%◌, ◌^◌, ◌<◌, ◌≤◌, sym, refl, ◌∙◌, subst, le_trans, add-zero, add_assoc, mul-le-mul_right, mod-lt, zero-lt-suc, mul_assoc, mul_comm, div-lt_iff_lt-mul, add-mul, add_comm, mul-le-mul_left, mul-lt-mul_of_pos_right, mul-zero, mul-add, mul_left_comm, arith, pow_pos, pow-add, shr_lt}
use native.Mathlib.Nat.{add_left_comm, le-pred_of_lt, mul-mod_left}
use lib.Pow.{split, mod-pow-add, shl-shr}
use lib.Arith.{digits_lt}
use Rattle.bdz_base.specs.Mix.{rotl}
use lib.Bits.{bit_and, and_mask, mask_lt}

-- the product of two numbers below 2^32, as a bound that leaves room for two carries
pub room : (x y : ℕ) → x < 2 ^ 32 → y < 2 ^ 32 → x * y ≤ 18446744065119617025
room x y hx hy = le_trans (mul-le-mul_left x (le-pred_of_lt hy)) (mul-le-mul_right 4294967295 (le-pred_of_lt hx))

expand : (P a₀ a₁ b₀ b₁ : ℕ) → (a₁ * P + a₀) * (b₁ * P + b₀) ≡ a₁ * b₁ * (P * P) + (a₁ * b₀ + a₀ * b₁) * P + a₀ * b₀
expand P a₀ a₁ b₀ b₁ = simp (mul-add, add-mul, mul_assoc, mul_comm, mul_left_comm, add_assoc, add_comm, add_left_comm) refl

pub by_halves : (a b : ℕ) → a * b ≡ a / 2 ^ 32 * (b / 2 ^ 32) * 2 ^ 64 + (a / 2 ^ 32 * (b % 2 ^ 32) + a % 2 ^ 32 * (b / 2 ^ 32)) * 2 ^ 32 + a % 2 ^ 32 * (b % 2 ^ 32)
by_halves a b = (λ i. sym (split a 32) i * sym (split b 32) i) ∙ expand (2 ^ 32) (a % 2 ^ 32) (a / 2 ^ 32) (b % 2 ^ 32) (b / 2 ^ 32)

-- the low 64 bits, as the program computes them
pub low_half : (a b : ℕ) → ((a / 2 ^ 32 * bit_and b 0xffff_ffff + bit_and a 0xffff_ffff * (b / 2 ^ 32)) % 2 ^ 64 * 2 ^ 32 % 2 ^ 64 + bit_and a 0xffff_ffff * bit_and b 0xffff_ffff) % 2 ^ 64 ≡ a * b % 2 ^ 64
low_half a b = rw (and_mask a 32, and_mask b 32) (omega (arith, by_halves a b))

-- the bits above 64 of a product, which are below a factor that is not 0
pub high_le : (h p : ℕ) → h < 2 ^ 64 → h * p / 2 ^ 64 ≤ p - 1
high_le h zero l = rw mul-zero (omega arith)
high_le h (suc p) l =
    let b : h * suc p < suc p * 2 ^ 64 = rw (mul_comm (suc p) (2 ^ 64)) (mul-lt-mul_of_pos_right l (zero-lt-suc p)) in
    let q : h * suc p / 2 ^ 64 < suc p = (div-lt_iff_lt-mul (pow_pos 64)).1 b in
    omega arith

-- a rotated number has 64 bits: the bits that stay, moved up, and those that come round below them
turned : (j k x : ℕ) → x < 2 ^ (j + k) → x * 2 ^ k % 2 ^ (j + k) + x / 2 ^ j < 2 ^ (j + k)
turned j k x h =
    rw (mod-pow-add (x * 2 ^ k) j k, shl-shr, mul-mod_left, add-zero, pow-add)
    (digits_lt (mod-lt x (pow_pos j)) (shr_lt k j (rw add_comm h)))

pub rotl_lt : (x k : ℕ) → k ≤ 64 → x < 2 ^ 64 → rotl x k < 2 ^ 64
rotl_lt x k l h =
    let e : 64 - k + k ≡ 64 = omega arith in
    subst (λ (w : ℕ). x < 2 ^ w → x * 2 ^ k % 2 ^ w + x / 2 ^ (64 - k) < 2 ^ w) e (turned (64 - k) k x) h

-- the bits above 64 of a product, as the program computes them
pub above : (a b : ℕ) → a / 2 ^ 32 * (b / 2 ^ 32) + (a / 2 ^ 32 * bit_and b 0xffff_ffff + bit_and a 0xffff_ffff * bit_and b 0xffff_ffff / 2 ^ 32) / 2 ^ 32 + (bit_and (a / 2 ^ 32 * bit_and b 0xffff_ffff + bit_and a 0xffff_ffff * bit_and b 0xffff_ffff / 2 ^ 32) 0xffff_ffff + bit_and a 0xffff_ffff * (b / 2 ^ 32)) / 2 ^ 32 ≡ a * b / 2 ^ 64
above a b = rw (and_mask a 32, and_mask b 32, and_mask (a / 2 ^ 32 * (b % 2 ^ 32) + a % 2 ^ 32 * (b % 2 ^ 32) / 2 ^ 32) 32) (omega (arith, by_halves a b))

-- each product of halves has room
pub rooms : (a b : ℕ) → a < 2 ^ 64 → b < 2 ^ 64 → (a / 2 ^ 32 * (b / 2 ^ 32) ≤ 18446744065119617025) × (a / 2 ^ 32 * bit_and b 0xffff_ffff ≤ 18446744065119617025) × (bit_and a 0xffff_ffff * (b / 2 ^ 32) ≤ 18446744065119617025) × (bit_and a 0xffff_ffff * bit_and b 0xffff_ffff ≤ 18446744065119617025)
rooms a b ha hb =
    let p : a / 2 ^ 32 < 2 ^ 32 = omega arith in
    let q : b / 2 ^ 32 < 2 ^ 32 = omega arith in
    (room (a / 2 ^ 32) (b / 2 ^ 32) p q, room (a / 2 ^ 32) (bit_and b 0xffff_ffff) p (mask_lt b 32), room (bit_and a 0xffff_ffff) (b / 2 ^ 32) (mask_lt a 32) q, room (bit_and a 0xffff_ffff) (bit_and b 0xffff_ffff) (mask_lt a 32) (mask_lt b 32))
