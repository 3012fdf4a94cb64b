-- Laws of the ones of a number, and of an occupancy. Assumes nothing.
use Rattle.std.proofs.Common.{◌≡◌, ℕ, zero, suc, ◌+◌, ◌-◌, ◌*◌, ◌/◌, ◌%◌, ◌^◌, ◌<◌, ◌≤◌, min, max, ◌⊎◌, List, length, get_or, sym, refl, ap, ◌∙◌, ⊎_elim, lt_of_lt_of_le, add-zero, add_assoc, mod-lt, mod-eq_of_lt, add_comm, suc-add, zero-add, div-one, add-one, arith, pow_mono, shr-shr}
use native.Mathlib.Nat.{mod-one, add-mod, div-eq_of_lt}
use lib.Count.{ones_in, ones, ones_step}
use lib.Pow.{field, mod-mod-pow}
use Rattle.bdz_base.specs.Pack.{value_of, bits}
use Rattle.bdz_base.proofs.Digits.{digit, value_lt, bits_within}
use Rattle.bdz_table.specs.Rank.{ones_between}
use Rattle.bdz_table.proofs.Has.{lt_or_ge}

-- ---- a number's ones

-- the digits below a, and the b digits from a on
pub ones_add : (a b n : ℕ) → ones_in (a + b) n ≡ ones_in a n + ones_in b (n / 2 ^ a)
unfolding ones_in
ones_add zero b n = rw (zero-add, div-one) (sym (zero-add (ones_in b n)))
ones_add (suc a) b n =
    rw (suc-add a b, ones_add a b (n / 2), shr-shr n 1 a, add_comm 1 a, add-one a) (sym (add_assoc (n % 2) (ones_in a (n / 2)) (ones_in b (n / 2 ^ suc a))))

-- the language's own count, of the k lowest digits
pub ones_low : (k n : ℕ) → ones (n % 2 ^ k) ≡ ones_in k n
unfolding ones_in ones
ones_low zero n = rw (mod-one n)
ones_low (suc k) n =
    let e : n % 2 ^ suc k % 2 ≡ n % 2 = rw (← add-one k) (mod-mod-pow n k 1) in
    let f : n % 2 ^ suc k / 2 ≡ n / 2 % 2 ^ k = rw (← add-one k) (field n k 1) in
    ones_step (n % 2 ^ suc k) ∙ rw (e, f, ones_low k (n / 2))

-- no digit above matters
pub ones_same : (k a b : ℕ) → a % 2 ^ k ≡ b % 2 ^ k → ones_in k a ≡ ones_in k b
ones_same k a b e = sym (ones_low k a) ∙ ap ones e ∙ ones_low k b

two_pos : 0 < 2
two_pos = omega arith

pub ones_le : (k n : ℕ) → ones_in k n ≤ k
unfolding ones_in
ones_le zero n = omega arith
ones_le (suc k) n = omega (arith, ones_le k (n / 2), mod-lt n two_pos)

ones_zero : (k : ℕ) → ones_in k 0 ≡ 0
unfolding ones_in
ones_zero zero = refl
ones_zero (suc k) = omega (arith, ones_zero k)

-- ---- an occupancy's ones

pub between_empty : (occ : List ℕ) (lo hi : ℕ) → hi ≤ lo → ones_between occ lo hi ≡ 0
unfolding ones_between ones_in
between_empty occ lo hi h = let e : hi - lo ≡ 0 = omega arith in rw e

pub between_le : (occ : List ℕ) (lo hi : ℕ) → ones_between occ lo hi ≤ hi - lo
unfolding ones_between
between_le occ lo hi = ones_le (hi - lo) (value_of 8 occ / 2 ^ lo)

pub between_add : (occ : List ℕ) (lo mid hi : ℕ) → lo ≤ mid → mid ≤ hi → ones_between occ lo hi ≡ ones_between occ lo mid + ones_between occ mid hi
unfolding ones_between
between_add occ lo mid hi h k =
    let e : hi - lo ≡ (mid - lo) + (hi - mid) = omega arith in
    let f : lo + (mid - lo) ≡ mid = omega arith in
    rw (e, ones_add (mid - lo) (hi - mid) (value_of 8 occ / 2 ^ lo), shr-shr (value_of 8 occ) lo (mid - lo), f)

-- past the end there are none
between_past : (occ : List ℕ) (lo hi : ℕ) → length occ * 8 ≤ lo → ones_between occ lo hi ≡ 0
unfolding ones_between
between_past occ lo hi h = rw (div-eq_of_lt (lt_of_lt_of_le (value_lt 8 occ) (pow_mono h))) (ones_zero (hi - lo))

-- t bits of the byte n, from the bit r on
byte_ones : (occ : List ℕ) (n r t : ℕ) → get_or occ n 0 < 2 ^ 8 → r + t ≤ 8 → ones_in t (get_or occ n 0 / 2 ^ r) ≡ ones_between occ (n * 8 + r) (n * 8 + r + t)
unfolding ones_between
byte_ones occ n r t l h =
    let d : n * 8 + r + t - (n * 8 + r) ≡ t = omega arith in
    let byte : bits (value_of 8 occ) (n * 8) 8 ≡ get_or occ n 0 = digit 8 occ n ∙ mod-eq_of_lt l in
    rw d (ones_same t (get_or occ n 0 / 2 ^ r) (value_of 8 occ / 2 ^ (n * 8 + r)) (rw byte at (bits_within (value_of 8 occ) (n * 8) 8 r t h)))

-- ---- the walk

-- the ones counted so far, modulo 2^32, of a walk from lo that is at b and ends at `end`
pub record Walked (occ : List ℕ) (lo end b n : ℕ) : Type 0 where
  pub from : lo ≤ b
  pub upto : b ≤ max lo end
  pub count : n ≡ ones_between occ lo b % 2 ^ 32

pub walked_none : (occ : List ℕ) (lo end : ℕ) → Walked occ lo end lo 0
walked_none occ lo end =
    record { from = omega arith; upto = omega arith; count = rw (between_empty occ lo lo (omega arith)) }

-- a turn: it takes the rest of a byte, or what is left before the end
pub walked_more : {occ : List ℕ} {lo end b n take x : ℕ} → Walked occ lo end b n → b < end → take ≡ min (8 - b % 8) (end - b) → get_or occ (b / 8) 0 < 2 ^ 8 → x ≡ ones_in take (get_or occ (b / 8) 0 / 2 ^ (b % 8)) → Walked occ lo end (b + take) ((n + x) % 2 ^ 32)
walked_more {occ} {lo} {end} {b} {n} {take} {x} w h t l e =
    let at : b / 8 * 8 + b % 8 ≡ b = omega arith in
    let is : x ≡ ones_between occ b (b + take) = e ∙ (rw at at (byte_ones occ (b / 8) (b % 8) take l (omega arith))) in
    let small : x ≡ ones_between occ b (b + take) % 2 ^ 32 = is ∙ sym (mod-eq_of_lt (omega (arith, between_le occ b (b + take)))) in
    record {
      from = omega (arith, w.from);
      upto = omega (arith, w.upto);
      count = rw (w.count, small, between_add occ lo b (b + take) w.from (omega arith)) (sym (add-mod (ones_between occ lo b) (ones_between occ b (b + take)) (2 ^ 32)));
    }

-- where it ends, all ones up to hi are counted
pub walked_all : {occ : List ℕ} {lo end b n : ℕ} (hi : ℕ) → Walked occ lo end b n → end ≤ b → end ≡ min hi (length occ * 8) → n ≡ ones_between occ lo hi % 2 ^ 32
walked_all {occ} {lo} {end} {b} {n} hi w h e = w.count ∙ ap (λ (x : ℕ). x % 2 ^ 32) (⊎_elim before behind (lt_or_ge hi b))
  where
    before : hi < b → ones_between occ lo b ≡ ones_between occ lo hi
    before l =
        rw (between_empty occ lo hi (omega (arith, w.from, w.upto)), between_empty occ lo b (omega (arith, w.from, w.upto)))

    behind : b ≤ hi → ones_between occ lo b ≡ ones_between occ lo hi
    behind l =
        sym (between_add occ lo b hi w.from l ∙ rw (rest (lt_or_ge b hi)) (add-zero (ones_between occ lo b)))
      where
        rest : (b < hi) ⊎ (hi ≤ b) → ones_between occ b hi ≡ 0
        rest = ⊎_elim (λ (k : b < hi). between_past occ b hi (omega arith)) (λ (k : hi ≤ b). between_empty occ b hi k)
