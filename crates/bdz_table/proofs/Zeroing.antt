-- A list of zeros. Assumes nothing.
use Rattle.std.proofs.Common.{◌≡◌, ℕ, zero, suc, get_or, replicate, refl}

pub replicate_zero : (n v : ℕ) → ◌≡◌ {A = ℕ} (get_or (replicate n 0) v 0) 0
replicate_zero zero v = refl
replicate_zero (suc n) zero = refl
replicate_zero (suc n) (suc v) = replicate_zero n v
