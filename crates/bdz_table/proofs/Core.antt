-- Peeling: what one cut does to degrees and exclusive ors, that cuts give an order, and that a stuck graph has none.
-- Assumes nothing.
use Rattle.std.proofs.Common.{◌≡◌, ℕ, suc, ◌+◌, ◌<◌, ◌≤◌, Bool, true, false, not, ◌&&◌, List, [], ◌∷◌, length, sym, refl, ap, ◌∙◌, ⊎_elim, add-zero, add_assoc, add_comm, arith}
use mathlib.Core.List.{reverse_aux}
use lib.Bits.{bit_xor, xor_comm, xor_zero_r}
use Rattle.bdz_table.specs.Graph.{has, Distinct, only_if, times, count_to, xor_to, live_on, degree, xor_at, Peels, Peelable}
use Rattle.bdz_table.specs.Peel.{Cut, keys_of}
use Rattle.bdz_table.proofs.Fold.{clash, fold_change, xor_assoc, xor_twice, TheOne, the_one, count_one}
use Rattle.bdz_table.proofs.Has.{known, lt_or_ge, has_head, has_other, has_cons, has_tail, lacks, has_times, has_pos, times_lacks, times_has, times_reverse, distinct_full}

-- ---- one more key gone

module _ (vs : ℕ → List ℕ) (gone : List ℕ) (v : ℕ) where
  live_on_lem : (i : ℕ) → has i gone ≡ false → live_on vs gone v i ≡ has v (vs i)
  unfolding live_on
  live_on_lem i h = ap (λ (b : Bool). not b && has v (vs i)) h

  live_gone : (i : ℕ) → has i gone ≡ true → live_on vs gone v i ≡ false
  unfolding live_on
  live_gone i h = ap (λ (b : Bool). not b && has v (vs i)) h

  live_other : (e i : ℕ) → (i ≡ e → ⊥) → live_on vs (e ∷ gone) v i ≡ live_on vs gone v i
  unfolding live_on
  live_other e i d = ap (λ (b : Bool). not b && has v (vs i)) (has_other i e gone d)

  live_is : (i : ℕ) → live_on vs gone v i ≡ true → (has i gone ≡ false) × (has v (vs i) ≡ true)
  live_is i h = ⊎_elim (λ t. clash h (live_gone i t)) (λ t. (t, sym (live_on_lem i t) ∙ h)) (known (has i gone))

module _ (vs : ℕ → List ℕ) (n : ℕ) (gone : List ℕ) (e : ℕ) (below : e < n) (fresh : has e gone ≡ false) (v : ℕ) where
  pub degree_cut : degree vs n (e ∷ gone) v + only_if (has v (vs e)) 1 ≡ degree vs n gone v
  unfolding degree count_to
  degree_cut =
      ap (λ (b : Bool). degree vs n (e ∷ gone) v + only_if b 1) (sym (live_on_lem vs gone v e fresh))
      ∙ fold_change ◌+◌ add_assoc add_comm (λ i. only_if (live_on vs gone v i) 1) (λ i. only_if (live_on vs (e ∷ gone) v i) 1) e n below
      (λ i d. ap (λ (b : Bool). only_if b 1) (live_other vs gone v e i d))
      ∙ ap (λ (b : Bool). degree vs n gone v + only_if b 1) (live_gone vs (e ∷ gone) v e (has_head e gone))
      ∙ add-zero _

  pub xor_cut : xor_at vs n (e ∷ gone) v ≡ bit_xor (xor_at vs n gone v) (only_if (has v (vs e)) e)
  unfolding xor_at xor_to
  xor_cut =
      let c : bit_xor (xor_at vs n (e ∷ gone) v) (only_if (has v (vs e)) e) ≡ xor_at vs n gone v =
      ap (λ (b : Bool). bit_xor (xor_at vs n (e ∷ gone) v) (only_if b e)) (sym (live_on_lem vs gone v e fresh))
      ∙ fold_change bit_xor xor_assoc xor_comm (λ i. only_if (live_on vs gone v i) i) (λ i. only_if (live_on vs (e ∷ gone) v i) i) e n below
      (λ i d. ap (λ (b : Bool). only_if b i) (live_other vs gone v e i d))
      ∙ ap (λ (b : Bool). bit_xor (xor_at vs n gone v) (only_if b e)) (live_gone vs (e ∷ gone) v e (has_head e gone))
      ∙ xor_zero_r _ in
      sym (xor_twice (xor_at vs n (e ∷ gone) v) (only_if (has v (vs e)) e)) ∙ ap (λ (x : ℕ). bit_xor x (only_if (has v (vs e)) e)) c

  pub degree_on : has v (vs e) ≡ true → degree vs n (e ∷ gone) v + 1 ≡ degree vs n gone v
  degree_on h = ap (λ (b : Bool). degree vs n (e ∷ gone) v + only_if b 1) (sym h) ∙ degree_cut

  pub degree_off : has v (vs e) ≡ false → degree vs n (e ∷ gone) v ≡ degree vs n gone v
  degree_off h = sym (add-zero _) ∙ ap (λ (b : Bool). degree vs n (e ∷ gone) v + only_if b 1) (sym h) ∙ degree_cut

  pub degree_falls : degree vs n (e ∷ gone) v ≤ degree vs n gone v
  degree_falls = omega (arith, degree_cut)

-- ---- a cut: a live key with a vertex that no other live key touches

pub record CutOf (vs : ℕ → List ℕ) (n : ℕ) (gone : List ℕ) (e v : ℕ) : Type 0 where
  pub below : e < n
  pub fresh : has e gone ≡ false
  pub on : has v (vs e) ≡ true
  pub alone : (j : ℕ) → j < n → has j (e ∷ gone) ≡ false → has v (vs j) ≡ false

pub cut_of_lem : (vs : ℕ → List ℕ) (n : ℕ) (gone : List ℕ) (v : ℕ) → degree vs n gone v ≡ 1 → CutOf vs n gone (xor_at vs n gone v) v
unfolding degree xor_at
cut_of_lem vs n gone v h =
    let o : TheOne (live_on vs gone v) n (xor_to (live_on vs gone v) n) = the_one (live_on vs gone v) n h in
    let e : ℕ = xor_to (live_on vs gone v) n in
    record {
      below = o.below;
      fresh = (live_is vs gone v e o.passes).0;
      on = (live_is vs gone v e o.passes).1;
      alone = λ j l k. ⊎_elim (λ t. absurd ((lacks j e gone k).0 (o.only j l (live_on_lem vs gone v j (lacks j e gone k).1 ∙ t)))) (λ t. t) (known (has v (vs j)));
    }

unfoldable pub Cuts : (ℕ → List ℕ) → ℕ → List Cut → Type 0
Cuts vs n [] = Unit {0}
Cuts vs n (p ∷ older) = CutOf vs n (keys_of older) p.key p.at × Cuts vs n older

-- ---- completeness: where live keys are left and no vertex has degree 1, there is no order

module _ (vs : ℕ → List ℕ) (n : ℕ) (gone : List ℕ) (stuck : (v : ℕ) → degree vs n gone v ≡ 1 → ⊥) (e : ℕ) (below : e < n) (fresh : has e gone ≡ false) where
  no_order : (ks : List ℕ) → Peels vs ks → ((j : ℕ) → has j ks ≡ true → j < n) → ((i : ℕ) → i < n → has i gone ≡ false → has i ks ≡ true) → ⊥
  unfolding Peels has degree
  no_order [] ps bound all = clash (all e below fresh) refl
  no_order (k ∷ later) ps bound all =
      ⊎_elim (λ t. no_order later ps.1 (λ j h. bound j (has_tail j k later h)) (λ i l h. rest t i l h)) first (known (has k gone))
    where
      rest : has k gone ≡ true → (i : ℕ) → i < n → has i gone ≡ false → has i later ≡ true
      rest t i l h = ⊎_elim (λ q. clash t (ap (λ (x : ℕ). has x gone) (sym q) ∙ h)) (λ u. u) (has_cons i k later (all i l h))

      only : has k gone ≡ false → (j : ℕ) → j < n → live_on vs gone ps.0.0 j ≡ true → j ≡ k
      only f j l h =
          let d : (has j gone ≡ false) × (has ps.0.0 (vs j) ≡ true) = live_is vs gone ps.0.0 j h in
          ⊎_elim (λ q. q) (λ u. clash d.1 (ps.0.2 j u)) (has_cons j k later (all j l d.0))

      first : has k gone ≡ false → ⊥
      first f =
          stuck ps.0.0
          (count_one (live_on vs gone ps.0.0) n k
          (record { below = bound k (has_head k later); passes = live_on_lem vs gone ps.0.0 k f ∙ ps.0.1; only = only f }))

  pub not_peelable : Peelable vs n → ⊥
  not_peelable p = no_order p.order p.peels bound (λ i l h. has_times i p.order (omega (arith, p.each.once i l)))
    where
      bound : (j : ℕ) → has j p.order ≡ true → j < n
      bound j h = ⊎_elim (λ k. k) (λ k. absurd (omega (arith, has_pos j p.order h, p.each.none j k))) (lt_or_ge j n)

-- ---- soundness: cuts of all n keys give an order
pub keys_distinct : (vs : ℕ → List ℕ) (n : ℕ) (d : List Cut) → Cuts vs n d → Distinct (keys_of d)
unfolding Cuts Distinct keys_of
keys_distinct vs n [] c = tt
keys_distinct vs n (p ∷ d) c = (c.0.fresh, keys_distinct vs n d c.1)

pub keys_below : (vs : ℕ → List ℕ) (n : ℕ) (d : List Cut) → Cuts vs n d → (i : ℕ) → has i (keys_of d) ≡ true → i < n
unfolding Cuts keys_of has
keys_below vs n [] c i h = clash h refl
keys_below vs n (p ∷ d) c i h = ⊎_elim (λ q. omega (arith, c.0.below)) (λ t. keys_below vs n d c.1 i t) (has_cons i p.key (keys_of d) h)

back_order : (vs : ℕ → List ℕ) (n : ℕ) (d : List Cut) (acc : List ℕ) → Cuts vs n d → Peels vs acc
    → ((j : ℕ) → has j acc ≡ true → (j < n) × (has j (keys_of d) ≡ false)) → Peels vs (reverse_aux (keys_of d) acc)
unfolding Cuts Peels keys_of
back_order vs n [] acc c ps h = ps
back_order vs n (p ∷ d) acc c ps h =
    back_order vs n d (p.key ∷ acc) c.1
    ((p.at, c.0.on, λ j t. c.0.alone j (h j t).0 (h j t).1), ps)
    (λ j t. ⊎_elim (λ q. (omega (arith, c.0.below), ap (λ (x : ℕ). has x (keys_of d)) q ∙ c.0.fresh)) (λ u. ((h j u).0, (lacks j p.key (keys_of d) (h j u).1).1)) (has_cons j p.key acc t))

pub keys_length : (d : List Cut) → length (keys_of d) ≡ length d
unfolding keys_of
keys_length [] = refl
keys_length (p ∷ d) = ap suc (keys_length d)

pub peelable_of : (vs : ℕ → List ℕ) (n : ℕ) (d : List Cut) → Cuts vs n d → length d ≡ n → Peelable vs n
unfolding Peels has times
peelable_of vs n d c l =
    record {
      order = reverse_aux (keys_of d) [];
      each = record {
        once = λ k h. twice k ∙ times_has k (keys_of d) (keys_distinct vs n d c) (distinct_full n (keys_of d) (keys_distinct vs n d c) (keys_below vs n d c) (keys_length d ∙ l) k h);
        none = λ k h. twice k ∙ times_lacks k (keys_of d) (⊎_elim (λ t. absurd (omega (arith, keys_below vs n d c k t))) (λ t. t) (known (has k (keys_of d))));
      };
      peels = back_order vs n d [] c tt (λ j h. clash h refl);
    }
  where
    twice : (k : ℕ) → times k (reverse_aux (keys_of d) []) ≡ times k (keys_of d)
    twice k = times_reverse k (keys_of d) [] ∙ add-zero _
