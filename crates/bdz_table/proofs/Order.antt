-- What an order left by the peeler names: keys below n, vertices below m, and at most m of them. Assumes nothing.
use Rattle.std.proofs.Common.{◌≡◌, ℕ, zero, suc, ◌<◌, ◌≤◌, true, List, [], ◌∷◌, length, get_or, sym, refl, ap, subst, ⊎_elim, le_of_suc-le-suc, not-suc-le-zero, eq-or-lt_of_le, arith}
use Rattle.bdz_table.specs.Graph.{has, Graph}
use Rattle.bdz_table.specs.Peel.{Cut, peel, ats_of}
use Rattle.bdz_table.specs.Steps.{cuts_of}
use Rattle.bdz_table.proofs.Fold.{clash}
use Rattle.bdz_table.proofs.Has.{has_cons, distinct_short}
use Rattle.bdz_table.proofs.Core.{Cuts}
use Rattle.bdz_table.proofs.Queue.{peel_end}
use Rattle.bdz_table.proofs.Assigned.{ats_distinct}
use Rattle.bdz_table.proofs.Turning.{cuts_length}

module _ (vs : ℕ → List ℕ) (n m : ℕ) (G : Graph vs n m) where
  pub ats_below : (d : List Cut) → Cuts vs n d → (v : ℕ) → has v (ats_of d) ≡ true → v < m
  unfolding Cuts ats_of has
  ats_below [] c v h = clash h refl
  ats_below (p ∷ d) c v h = ⊎_elim (λ w. omega (arith, G.inside p.key p.at c.0.below c.0.on)) (λ t. ats_below d c.1 v t) (has_cons v p.at (ats_of d) h)

  pub ats_length : (d : List Cut) → length (ats_of d) ≡ length d
  unfolding ats_of
  ats_length [] = refl
  ats_length (p ∷ d) = ap suc (ats_length d)

  -- there are at most as many cuts as vertices
  pub cuts_fit : (d : List Cut) → Cuts vs n d → length d ≤ m
  cuts_fit d c = omega (arith, distinct_short m (ats_of d) (ats_distinct vs n m G d c) (ats_below d c), ats_length d)

  module _ (xs q : List ℕ) where
    cuts_name : (c : ℕ) → Cuts vs n (cuts_of xs q c) → (i : ℕ) → i < c → (get_or xs (get_or q i 0) 0 < n) × (get_or q i 0 < m)
    unfolding cuts_of Cuts
    cuts_name zero k i l = absurd (not-suc-le-zero l)
    cuts_name (suc c) k i l =
        ⊎_elim (λ w. subst (λ (x : ℕ). (get_or xs (get_or q x 0) 0 < n) × (get_or q x 0 < m)) (sym w) (k.0.below, G.inside (get_or xs (get_or q c 0) 0) (get_or q c 0) k.0.below k.0.on))
        (λ w. cuts_name c k.1 i w) (eq-or-lt_of_le (le_of_suc-le-suc l))

    module _ (c : ℕ) (o : cuts_of xs q c ≡ (peel vs n m).done) where
      cuts : Cuts vs n (cuts_of xs q c)
      cuts = subst (Cuts vs n) (sym o) (peel_end vs n m G).cuts

      pub order_fits : c ≤ m
      order_fits = omega (arith, cuts_fit (cuts_of xs q c) cuts, cuts_length xs q c)

      pub order_inside : (i : ℕ) → i < c → (get_or xs (get_or q i 0) 0 < n) × (get_or q i 0 < m)
      order_inside = cuts_name c cuts
