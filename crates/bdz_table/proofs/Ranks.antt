-- Ranks: how the ones below v grow, that those of occupied vertices are 0, 1, .. once each, and that super counts give them. Assumes nothing.
use Rattle.std.proofs.Common.{◌≡◌, ℕ, zero, suc, ◌+◌, ◌-◌, ◌*◌, ◌/◌, ◌%◌, ◌^◌, ◌<◌, ◌≤◌, min, Bool, List, ◌++◌, get_or, take, sym, refl, ap, ◌∙◌, subst, ap₂, ⊎_elim, add-zero, mod-lt, mod-eq_of_lt, add-one, arith}
use native.Mathlib.Nat.{min-eq_left, min-le_right}
use lib.Count.{ones_in}
use lib.ListN.{get_or-append}
use lib.Pow.{mod-mod-pow}
use Rattle.bdz_base.specs.Buffer.{tab}
use Rattle.bdz_base.specs.Pack.{value_of, bits_at}
use Rattle.bdz_base.specs.Sizes.{occupancy_bytes, super_count}
use Rattle.bdz_base.proofs.Buffers.{length_tab}
use Rattle.bdz_base.proofs.Digits.{value_take}
use Rattle.bdz_table.specs.Graph.{only_if, fold_to, count_to}
use Rattle.bdz_table.specs.Rank.{ones_below, ones_between, super_at, super_counts, rank_with}
use Rattle.bdz_table.proofs.Bits.{tab_at}
use Rattle.bdz_table.proofs.Has.{lt_or_ge}
use Rattle.bdz_table.proofs.Ones.{ones_add, ones_same, ones_le, between_le, between_empty}

pub below_le : (occ : List ℕ) (v : ℕ) → ones_below occ v ≤ v
unfolding ones_below
below_le occ v = ones_le v (value_of 8 occ)

pub below_none : (occ : List ℕ) → ones_below occ 0 ≡ 0
unfolding ones_below ones_in
below_none occ = refl

-- bytes behind those of v do not matter
pub below_front : (occ : List ℕ) (k v : ℕ) → v ≤ k * 8 → ones_below (take k occ) v ≡ ones_below occ v
unfolding ones_below
below_front occ k v h =
    let e : k * 8 - v + v ≡ k * 8 = omega arith in
    rw (value_take 8 k occ)
    (ones_same v (value_of 8 occ % 2 ^ (k * 8)) (value_of 8 occ) (subst (λ (j : ℕ). value_of 8 occ % 2 ^ j % 2 ^ v ≡ value_of 8 occ % 2 ^ v) e (mod-mod-pow (value_of 8 occ) (k * 8 - v) v)))

-- ones below hi are those below lo, and those between
pub below_add : (occ : List ℕ) (lo hi : ℕ) → lo ≤ hi → ones_below occ hi ≡ ones_below occ lo + ones_between occ lo hi
unfolding ones_below ones_between
below_add occ lo hi h =
    let e : lo + (hi - lo) ≡ hi = omega arith in
    subst (λ (k : ℕ). ones_in k (value_of 8 occ) ≡ ones_in lo (value_of 8 occ) + ones_in (hi - lo) (value_of 8 occ / 2 ^ lo)) e (ones_add lo (hi - lo) (value_of 8 occ))

pub below_step : (occ : List ℕ) (v : ℕ) → ones_below occ (suc v) ≡ ones_below occ v + bits_at 1 occ v
unfolding ones_below ones_in bits_at
below_step occ v =
    let e : v + 1 ≡ suc v = add-one v in
    subst (λ (k : ℕ). ones_in k (value_of 8 occ) ≡ ones_in v (value_of 8 occ) + bits_at 1 occ v) e (ones_add v 1 (value_of 8 occ) ∙ ap (λ (x : ℕ). ones_in v (value_of 8 occ) + x) (add-zero (bits_at 1 occ v)))

bit_lt : (occ : List ℕ) (v : ℕ) → bits_at 1 occ v < 2
unfolding bits_at
bit_lt occ v = mod-lt (value_of 8 occ / 2 ^ v) (omega arith)

below_mono : (occ : List ℕ) (v w : ℕ) → v ≤ w → ones_below occ v ≤ ones_below occ w
below_mono occ v w h = omega (arith, below_add occ v w h)

-- a set bit's rank is below that of every later place
pub below_strict : (occ : List ℕ) (v w : ℕ) → bits_at 1 occ v ≡ 1 → v < w → ones_below occ v < ones_below occ w
below_strict occ v w b h = omega (arith, below_step occ v, below_mono occ (suc v) w (omega arith))

-- where the bits tell a test, the ones are those that pass it
pub below_count : (occ : List ℕ) (p : ℕ → Bool) (v : ℕ) → ((u : ℕ) → u < v → bits_at 1 occ u ≡ only_if (p u) 1) → ones_below occ v ≡ count_to p v
unfolding count_to fold_to
below_count occ p zero h = below_none occ
below_count occ p (suc v) h = below_step occ v ∙ ap₂ ◌+◌ (below_count occ p v (λ u l. h u (omega arith))) (h v (omega arith))

-- different occupied vertices have different ranks
pub ranks_different : (occ : List ℕ) (v w : ℕ) → bits_at 1 occ v ≡ 1 → bits_at 1 occ w ≡ 1 → ones_below occ v ≡ ones_below occ w → v ≡ w
ranks_different occ v w b d e =
    ⊎_elim (λ (h : v < w). absurd (omega (arith, below_strict occ v w b h)))
    (λ (h : w ≤ v). ⊎_elim (λ (k : w < v). absurd (omega (arith, below_strict occ w v d k))) (λ (k : v ≤ w). omega arith) (lt_or_ge w v)) (lt_or_ge v w)

-- an occupied vertex below m, of rank r
pub record Ranked (occ : List ℕ) (m r : ℕ) : Type 0 where
  pub vertex : ℕ
  pub low : vertex < m
  pub set : bits_at 1 occ vertex ≡ 1
  pub rank : ones_below occ vertex ≡ r

-- every number below the count is the rank of one
pub ranks_all : (occ : List ℕ) (m r : ℕ) → r < ones_below occ m → Ranked occ m r
ranks_all occ zero r h = absurd (omega (arith, below_none occ))
ranks_all occ (suc m) r h = ⊎_elim (λ k. before (ranks_all occ m r k)) here (lt_or_ge r (ones_below occ m))
  where
    before : Ranked occ m r → Ranked occ (suc m) r
    before p = record { vertex = p.vertex; low = omega (arith, p.low); set = p.set; rank = p.rank }

    here : ones_below occ m ≤ r → Ranked occ (suc m) r
    here k =
        let s = below_step occ m in
        let l = bit_lt occ m in
        record { vertex = m; low = omega arith; set = omega arith; rank = omega arith }

-- ---- super counts

pub super_none : (m : ℕ) (occ : List ℕ) → 0 ≡ super_at m occ 0
unfolding super_at
super_none m occ = rw (min-eq_left {n = 0} {m = m} (omega arith)) (sym (below_none occ))

-- only the bytes that m bits take matter
pub supers_front : (m : ℕ) (occ : List ℕ) → super_counts m (take (occupancy_bytes m) occ) ≡ super_counts m occ
unfolding super_counts super_at
supers_front m occ =
    ap (λ (f : ℕ → ℕ). tab f (super_count m)) (λ j i. below_front occ (occupancy_bytes m) (min (i * 512) m) (omega arith) j)

pub super_le : (m : ℕ) (occ : List ℕ) (i : ℕ) → super_at m occ i ≤ m
unfolding super_at
super_le m occ i = omega (arith, below_le occ (min (i * 512) m), min-le_right (i * 512) m)

-- a block more: its ones end where it ends, or at m
pub super_more : (m : ℕ) (occ : List ℕ) (i acc r e : ℕ) → acc ≡ super_at m occ i → e ≡ min ((i + 1) * 512) m → r ≡ ones_between occ (i * 512) e % 2 ^ 32 → acc + r ≡ super_at m occ (i + 1)
unfolding super_at
super_more m occ i acc r e p f q = ⊎_elim inside past (lt_or_ge (i * 512) m)
  where
    few : r ≡ ones_between occ (i * 512) e
    few = q ∙ mod-eq_of_lt (omega (arith, between_le occ (i * 512) e))

    inside : i * 512 < m → acc + r ≡ ones_below occ (min ((i + 1) * 512) m)
    inside h =
        let s : min (i * 512) m ≡ i * 512 = omega arith in
        rw (p, s, few, f) (sym (below_add occ (i * 512) (min ((i + 1) * 512) m) (omega arith)))

    past : m ≤ i * 512 → acc + r ≡ ones_below occ (min ((i + 1) * 512) m)
    past h =
        let s : min (i * 512) m ≡ min ((i + 1) * 512) m = omega arith in
        rw (p, s, few, between_empty occ (i * 512) e (omega arith)) (add-zero (ones_below occ (min ((i + 1) * 512) m)))

-- "with those built for the occupancy the sum is the true rank", for every v up to m and whatever stands behind them
pub true_rank : (m : ℕ) (occ rest : List ℕ) (v : ℕ) → m < 2 ^ 32 → v ≤ m → rank_with occ (super_counts m occ ++ rest) v ≡ ones_below occ v
unfolding rank_with super_counts super_at
true_rank m occ rest v l h =
    let k : v / 512 < super_count m = omega arith in
    let a : get_or (super_counts m occ ++ rest) (v / 512) 0 ≡ super_at m occ (v / 512) =
    get_or-append (super_counts m occ) rest 0 (v / 512) (rw length_tab k) ∙ tab_at (super_at m occ) (super_count m) (v / 512) k in
    let s : min (v / 512 * 512) m ≡ v / 512 * 512 = min-eq_left (omega arith) in
    rw (a, s, ← below_add occ (v / 512 * 512) v (omega arith)) (mod-eq_of_lt (omega (arith, below_le occ v)))
