-- The library's number of eight bytes is what stands in them. Assumes nothing.
use Rattle.std.proofs.Common.{◌≡◌, ℕ, zero, suc, ◌+◌, ◌*◌, ◌^◌, ◌<◌, List, get_or, sym, ap, add-zero, add-one, add_comm, mul_comm, mul-one, refl, ◌∙◌, arith, pow-suc}
use lib.Pow.{pow-add}
use Rattle.std.specs.Int.{byte_worth, sum_through}
use Rattle.bdz_base.specs.Pack.{bits_at}
use Rattle.bdz_base.proofs.Digits.{bits_none, byte_more}

-- what a byte counts where k stand below it
worth : (k : ℕ) → 256 ^ k ≡ 2 ^ (k * 8)
worth zero = refl
worth (suc k) = pow-suc 256 k ∙ ap (λ (n : ℕ). n * 256) (worth k) ∙ mul_comm (2 ^ (k * 8)) 256 ∙ sym (pow-add 2 8 (k * 8)) ∙ ap (λ (n : ℕ). 2 ^ n) (omega arith)

-- the first k + 1 bytes, as the library adds them, where the first eight of both are the same
pub first_bytes : (xs ys : List ℕ) → ((i : ℕ) → i < 8 → get_or ys i 0 ≡ get_or xs i 0) → ((i : ℕ) → get_or xs i 0 < 2 ^ 8) → (k : ℕ) → k < 8 → sum_through (λ i. byte_worth i (get_or ys i 0)) k ≡ bits_at ((k + 1) * 8) xs 0
first_bytes xs ys same low zero l = sym (add-zero _) ∙ rw (← mul-one (get_or ys 0 0)) (byte_more xs 0 (get_or ys 0 0) 0 (bits_none xs) (same 0 l) (rw (same 0 l) (low 0)))
first_bytes xs ys same low (suc k) l =
    let below : ℕ = sum_through (λ i. byte_worth i (get_or ys i 0)) k in
    let byte : ℕ = get_or ys (suc k) 0 in
    let acc : below ≡ bits_at (suc k * 8) xs 0 = first_bytes xs ys same low k (omega arith) ∙ ap (λ (n : ℕ). bits_at (n * 8) xs 0) (add-one k) in
    add_comm below _ ∙ ap (λ (n : ℕ). byte * n + below) (worth (suc k)) ∙ byte_more xs (suc k) byte below acc (same (suc k) l) (rw (same (suc k) l) (low (suc k)))
