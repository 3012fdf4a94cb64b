-- Assigning in reverse gives every key its value. Assumes nothing.
use Rattle.std.proofs.Common.{◌≡◌, ℕ, ◌+◌, ◌-◌, ◌%◌, ◌<◌, true, false, List, [], ◌∷◌, length, get_or, set, sym, refl, ap, ◌∙◌, ap₂, ⊎_elim, mod-lt, mod-eq_of_lt, arith, length-set, get_or-set_other, get_or-set_same}
use native.Mathlib.Nat.{mod-add-mod, add-mod-mod, add-mod_right}
use Rattle.bdz_table.specs.Graph.{has, Distinct, Graph}
use Rattle.bdz_table.specs.Peel.{Cut, keys_of, ats_of}
use Rattle.bdz_table.specs.Assign.{sum_at, word_for, assign, Sums}
use Rattle.bdz_table.proofs.Fold.{clash}
use Rattle.bdz_table.proofs.Has.{known, has_head, has_cons, has_tail, lacks}
use Rattle.bdz_table.proofs.Core.{Cuts}

-- the word does what it is for
pub word_sum : (M x s : ℕ) → x < M → (s + word_for M x s) % M ≡ x
unfolding word_for
word_sum M x s h =
    let r : s % M < M = mod-lt s (omega arith) in
    add-mod-mod s (x + M - s % M) M ∙ sym (mod-add-mod s M (x + M - s % M))
    ∙ ap (λ (y : ℕ). y % M) (omega arith) ∙ add-mod_right x M ∙ mod-eq_of_lt h

sum_other : (g : List ℕ) (v w : ℕ) (us : List ℕ) → has v us ≡ false → sum_at (set g v w) us ≡ sum_at g us
unfolding sum_at
sum_other g v w [] h = refl
sum_other g v w (u ∷ us) h =
    ap₂ ◌+◌ (get_or-set_other g v u w 0 (λ q. (lacks v u us h).0 (sym q))) (sum_other g v w us (lacks v u us h).1)

sum_on : (g : List ℕ) (v w : ℕ) (us : List ℕ) → Distinct us → has v us ≡ true → v < length g → get_or g v 0 ≡ 0 → sum_at (set g v w) us ≡ sum_at g us + w
unfolding sum_at Distinct has
sum_on g v w [] d h l z = clash h refl
sum_on g v w (u ∷ us) d h l z =
    ⊎_elim (λ q.
    let a : get_or (set g v w) u 0 ≡ w = ap (λ (y : ℕ). get_or (set g v w) y 0) (sym q) ∙ get_or-set_same g v w 0 l in
    let b : get_or g u 0 ≡ 0 = ap (λ (y : ℕ). get_or g y 0) (sym q) ∙ z in
    let o : sum_at (set g v w) us ≡ sum_at g us = sum_other g v w us (ap (λ (y : ℕ). has y us) q ∙ d.0) in
    omega arith) (λ t.
    let a : get_or (set g v w) u 0 ≡ get_or g u 0 = get_or-set_other g v u w 0 (λ q. clash t (ap (λ (y : ℕ). has y us) (sym q) ∙ d.0)) in
    let o : sum_at (set g v w) us ≡ sum_at g us + w = sum_on g v w us d.1 t l z in
    omega arith) (has_cons v u us h)

module _ (vs : ℕ → List ℕ) (n m : ℕ) (G : Graph vs n m) where
  -- a key that is not cut later does not lie on the vertices of later cuts
  pub at_off : (d : List Cut) → Cuts vs n d → (e : ℕ) → e < n → has e (keys_of d) ≡ false → (v : ℕ) → has v (ats_of d) ≡ true → has v (vs e) ≡ false
  unfolding Cuts keys_of ats_of has
  at_off [] c e l f v h = clash h refl
  at_off (p ∷ d) c e l f v h =
      ⊎_elim (λ q. ap (λ (y : ℕ). has y (vs e)) q ∙ c.0.alone e l f) (λ t. at_off d c.1 e l (lacks e p.key (keys_of d) f).1 v t) (has_cons v p.at (ats_of d) h)

  -- so the vertices of the cuts are all different
  pub ats_distinct : (d : List Cut) → Cuts vs n d → Distinct (ats_of d)
  unfolding Cuts Distinct ats_of
  ats_distinct [] c = tt
  ats_distinct (p ∷ d) c =
      (⊎_elim (λ t. clash c.0.on (at_off d c.1 p.key c.0.below c.0.fresh p.at t)) (λ t. t) (known (has p.at (ats_of d))), ats_distinct d c.1)

  module _ (M : ℕ) (val : Cut → ℕ) where
    keeps : (d : List Cut) (g : List ℕ) → Cuts vs n d → (e : ℕ) → e < n → has e (keys_of d) ≡ false → sum_at (assign vs M val d g) (vs e) ≡ sum_at g (vs e)
    unfolding Cuts keys_of assign
    keeps [] g c e l f = refl
    keeps (p ∷ d) g c e l f =
        keeps d (set g p.at (word_for M (val p) (sum_at g (vs p.key)))) c.1 e l (lacks e p.key (keys_of d) f).1
        ∙ sum_other g p.at (word_for M (val p) (sum_at g (vs p.key))) (vs e) (c.0.alone e l f)

    pub sums : (d : List Cut) (g : List ℕ) → Cuts vs n d → length g ≡ m → ((v : ℕ) → has v (ats_of d) ≡ true → get_or g v 0 ≡ 0) → ((p : Cut) → p.key < n → has p.at (vs p.key) ≡ true → val p < M)
        → Sums vs M val (assign vs M val d g) d
    unfolding Cuts ats_of assign Sums
    sums [] g c l z b = tt
    sums (p ∷ d) g c l z b =
        let w : ℕ = word_for M (val p) (sum_at g (vs p.key)) in (
          ap (λ (s : ℕ). s % M) (keeps d (set g p.at w) c.1 p.key c.0.below c.0.fresh
              ∙ sum_on g p.at w (vs p.key) (G.distinct p.key c.0.below) c.0.on (omega (arith, G.inside p.key p.at c.0.below c.0.on)) (z p.at (has_head p.at (ats_of d))))
              ∙ word_sum M (val p) (sum_at g (vs p.key)) (b p c.0.below c.0.on),
          sums d (set g p.at w) c.1 (length-set g p.at w ∙ l) (λ v h. get_or-set_other g p.at v w 0 (λ q. clash c.0.on (ap (λ (y : ℕ). has y (vs p.key)) (sym q) ∙ at_off d c.1 p.key c.0.below c.0.fresh v h)) ∙ z v (has_tail v p.at (ats_of d) h)) b,
        )
