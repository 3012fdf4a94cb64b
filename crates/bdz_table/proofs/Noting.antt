-- Setting the occupancy bits along an order. Assumes nothing.
use Rattle.std.proofs.Common.{◌≡◌, ℕ, zero, suc, ◌<◌, Bool, true, false, ◌||◌, eqb, List, [], ◌∷◌, get_or, replicate, refl, ap, ◌∙◌, ⊎_elim, arith}
use Rattle.bdz_base.specs.Buffer.{tab}
use Rattle.bdz_base.specs.Sizes.{occupancy_bytes}
use Rattle.bdz_table.specs.Graph.{has, only_if}
use Rattle.bdz_table.specs.Occupancy.{occupancy_of}
use Rattle.bdz_table.specs.Peel.{Cut, ats_of}
use Rattle.bdz_table.specs.Pairs.{bits_of}
use Rattle.bdz_table.specs.Steps.{cuts_of}
use Rattle.bdz_table.proofs.Bits.{occupancy_none, occupancy_more}
use Rattle.bdz_table.proofs.Fold.{clash}
use Rattle.bdz_table.proofs.Has.{has_head, has_tail, has_cons}

-- ---- the occupancy along an order

tab_same : (f g : ℕ → ℕ) (n : ℕ) → ((i : ℕ) → f i ≡ g i) → tab f n ≡ tab g n
unfolding tab
tab_same f g zero h = refl
tab_same f g (suc n) h = rw (tab_same f g n h, h n)

-- an occupancy depends only on which vertices are among those occupied
occupancy_same : (m : ℕ) (xs ys : List ℕ) → ((v : ℕ) → has v ys ≡ has v xs) → occupancy_of m xs ≡ occupancy_of m ys
unfolding occupancy_of
occupancy_same m xs ys h =
    rw (tab_same (λ v. only_if (has v xs) 1) (λ v. only_if (has v ys) 1) m (λ v. rw (h v)))

or_move : (a b c : Bool) → ((a || b) || c) ≡ (b || (a || c))
or_move true true c = refl
or_move true false c = refl
or_move false true c = refl
or_move false false c = refl

along : (m : ℕ) (ps : List Cut) (xs ys : List ℕ) → ((v : ℕ) → has v (ats_of ps) ≡ true → v < m) → ((v : ℕ) → has v ys ≡ (has v (ats_of ps) || has v xs)) → bits_of ps (occupancy_of m xs) ≡ occupancy_of m ys
unfolding bits_of ats_of has
along m [] xs ys b h = occupancy_same m xs ys h
along m (p ∷ ps) xs ys b h =
    rw (occupancy_more m p.at xs (b p.at (has_head p.at (ats_of ps))))
    (along m ps (p.at ∷ xs) ys (λ v t. b v (has_tail v p.at (ats_of ps) t)) (λ v. h v ∙ or_move (eqb v p.at) (has v (ats_of ps)) (has v xs)))

-- the bits of cuts whose vertices are below m, set one after the other
pub bits_set : (m : ℕ) (ps : List Cut) → ((v : ℕ) → has v (ats_of ps) ≡ true → v < m) → bits_of ps (replicate (occupancy_bytes m) 0) ≡ occupancy_of m (ats_of ps)
unfolding has
bits_set m ps b = ap (bits_of ps) (occupancy_none m) ∙ along m ps [] (ats_of ps) b (λ v. or_false (has v (ats_of ps)))
  where
    or_false : (x : Bool) → x ≡ (x || false)
    or_false true = refl
    or_false false = refl

-- the vertices of an order are those in the front of the queue
pub ats_below : (m : ℕ) (xs q : List ℕ) (c : ℕ) → ((i : ℕ) → i < c → get_or q i 0 < m) → (v : ℕ) → has v (ats_of (cuts_of xs q c)) ≡ true → v < m
unfolding cuts_of ats_of has
ats_below m xs q zero b v t = clash t refl
ats_below m xs q (suc c) b v t =
    ⊎_elim (λ (e : v ≡ get_or q c 0). omega (arith, b c (omega arith))) (λ u. ats_below m xs q c (λ i l. b i (omega arith)) v u) (has_cons v (get_or q c 0) (ats_of (cuts_of xs q c)) t)
