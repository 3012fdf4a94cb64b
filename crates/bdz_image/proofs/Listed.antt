-- The listed pages rise, each once, and are those of the words. Assumes nothing.
use Rattle.bdz_table.specs.Graph.{has}
use Rattle.bdz_base.specs.Pages.{first_page, last_page}
use mathlib.Core.Path.{◌≡◌, refl, sym, ap, ◌∙◌, subst}
use mathlib.Core.Bool.{cond, Bool, true, false, ◌||◌}
use mathlib.Core.List.{List, [], ◌∷◌}
use mathlib.Core.Logic.{◌⊎◌, inl, inr, ⊎_elim}
use Prim.Native.Nat.{ℕ, zero, suc, ◌+◌, ◌-◌, ◌*◌, ◌/◌, ◌%◌, ◌≤◌, ◌<◌}
use native.Mathlib.Nat.{mul-le-mul_right, suc-mul, zero-mul, one-mul, add-zero}
use native.Mathlib.Decide.{dec_lt}
use native.Mathlib.Omega.{arith}
use lib.Dec.{eqb, ltb}
use lib.ListN.{length, get_or}
use borrow.Author.Tests.{ltb-true, ltb-false, eq-eqb, eqb-true}
use Rattle.bdz_image.specs.Feed.{among}
use Rattle.bdz_image.specs.Sweep.{vertex_in, slot_in}
use Rattle.bdz_image.specs.Pages.{own_page, once_of, list_of}
use Rattle.bdz_image.proofs.Sweeps.{Ordered, dec_eq}

-- a list that rises, each element once, from `low` on
pub data Climbs : ℕ → List ℕ → Type 0 where
  none : {low : ℕ} → Climbs low []
  more : {low x : ℕ} {xs : List ℕ} → low ≤ x → Climbs (x + 1) xs → Climbs low (x ∷ xs)

pub record Hit (f : ℕ → ℕ) (from to p : ℕ) : Type 0 where
  pub index : ℕ
  pub above : from ≤ index
  pub below : index < to
  pub is : f index ≡ p

or_right : (a : Bool) {b : Bool} → b ≡ true → (a || b) ≡ true
or_right true e = refl
or_right false e = e

module _ (f : ℕ → ℕ) where
  pub climbs : (k i next : ℕ) → Climbs next (once_of f k i next)
  unfolding once_of
  climbs zero i next = none
  climbs (suc k) i next = go (ltb (f i) next) refl (climbs k (i + 1) next) (climbs k (i + 1) (f i + 1))
    where
      go : (t : Bool) → ltb (f i) next ≡ t → Climbs next (once_of f k (i + 1) next) → Climbs (f i + 1) (once_of f k (i + 1) (f i + 1)) → Climbs next (cond t (once_of f k (i + 1) next) (f i ∷ once_of f k (i + 1) (f i + 1)))
      go true e r s = r
      go false e r s = more (ltb-false (f i) next e) s

  -- only numbers of the row
  pub only : (k i next p : ℕ) → among (once_of f k i next) p ≡ true → Hit f i (i + k) p
  unfolding once_of has
  only zero i next p h = absurd (let z : ◌≡◌ {A = Bool} false true = h in let y : ◌≡◌ {A = ℕ} 0 1 = cc in omega arith)
  only (suc k) i next p h = go (ltb (f i) next) h (only k (i + 1) next p) (only k (i + 1) (f i + 1) p)
    where
      up : Hit f (i + 1) (i + 1 + k) p → Hit f i (i + suc k) p
      up r = let a = r.above in let b = r.below in record { index = r.index; above = omega arith; below = omega arith; is = r.is }

      here : (s : Bool) → eqb p (f i) ≡ s → (s || among (once_of f k (i + 1) (f i + 1)) p) ≡ true → (among (once_of f k (i + 1) (f i + 1)) p ≡ true → Hit f (i + 1) (i + 1 + k) p) → Hit f i (i + suc k) p
      here true e h r = record { index = i; above = omega arith; below = omega arith; is = sym (eqb-true p (f i) e) }
      here false e h r = up (r h)

      go : (t : Bool) → among (cond t (once_of f k (i + 1) next) (f i ∷ once_of f k (i + 1) (f i + 1))) p ≡ true → (among (once_of f k (i + 1) next) p ≡ true → Hit f (i + 1) (i + 1 + k) p) → (among (once_of f k (i + 1) (f i + 1)) p ≡ true → Hit f (i + 1) (i + 1 + k) p) → Hit f i (i + suc k) p
      go true h r s = up (r h)
      go false h r s = here (eqb p (f i)) refl h s

  -- all of them, if a number that falls behind an earlier one came before that
  pub every : (n : ℕ) → ((i j : ℕ) → i < j → j < n → (f i ≤ f j) ⊎ Hit f 0 i (f j)) → (k i next : ℕ) → i + k ≤ n → ((g : ℕ) → g < i → f g < next) → (j : ℕ) → i ≤ j → j < i + k → next ≤ f j → among (once_of f k i next) (f j) ≡ true
  unfolding once_of has
  every n c zero i next l b j p q h = absurd (omega arith)
  every n c (suc k) i next l b j p q h = go (ltb (f i) next) refl (every n c k (i + 1) next (omega arith)) (every n c k (i + 1) (f i + 1) (omega arith))
    where
      less : (x : ℕ) → f i < x → next ≤ x → (g : ℕ) → g < i + 1 → f g < x
      less x y z g w = less' (dec_eq g i)
        where
          less' : Dec (g ≡ i) → f g < x
          less' (yes e) = omega (arith, ap f e)
          less' (no n) = omega (arith, b g (omega arith))

      put : next ≤ f i → (((g : ℕ) → g < i + 1 → f g < f i + 1) → (j : ℕ) → i + 1 ≤ j → j < i + 1 + k → f i + 1 ≤ f j → among (once_of f k (i + 1) (f i + 1)) (f j) ≡ true) → Dec (f j ≡ f i) → (eqb (f j) (f i) || among (once_of f k (i + 1) (f i + 1)) (f j)) ≡ true
      put m s (yes e) = rw (eq-eqb (f j) (f i) e)
      put m s (no d) = ⊎_elim (λ u. rest u) (λ u. absurd (let y = u.is in omega (arith, b u.index u.below))) (c i j (omega (arith, far)) (omega arith))
        where
          far : i < j
          far = far' (dec_lt i j)
            where
              far' : Dec (i < j) → i < j
              far' (yes z) = z
              far' (no z) = let e : j ≡ i = omega arith in absurd (d (ap f e))

          rest : f i ≤ f j → (eqb (f j) (f i) || among (once_of f k (i + 1) (f i + 1)) (f j)) ≡ true
          rest u = or_right (eqb (f j) (f i)) (s (less (f i + 1) (omega arith) (omega arith)) j (omega (arith, far)) (omega arith) (omega arith))

      go : (t : Bool) → ltb (f i) next ≡ t → (((g : ℕ) → g < i + 1 → f g < next) → (j : ℕ) → i + 1 ≤ j → j < i + 1 + k → next ≤ f j → among (once_of f k (i + 1) next) (f j) ≡ true) → (((g : ℕ) → g < i + 1 → f g < f i + 1) → (j : ℕ) → i + 1 ≤ j → j < i + 1 + k → f i + 1 ≤ f j → among (once_of f k (i + 1) (f i + 1)) (f j) ≡ true) → among (cond t (once_of f k (i + 1) next) (f i ∷ once_of f k (i + 1) (f i + 1))) (f j) ≡ true
      go true e r s =
          let m : f i < next = ltb-true (f i) next e in
          let d : i < j = after m (dec_eq j i) in
          r (less next m (omega arith)) j (omega arith) (omega arith) h
        where
          after : f i < next → Dec (j ≡ i) → i < j
          after m (yes z) = absurd (omega (arith, ap f z))
          after m (no z) = omega arith
      go false e r s = put (ltb-false (f i) next e) s (dec_eq (f j) (f i))

-- ---- the pages of an order

module _ (w : ℕ) (es : List ℕ) where
  vertex : ℕ → ℕ
  vertex i = vertex_in (get_or es (i / 2) 0)

  even : (i : ℕ) → i % 2 ≡ 0 → own_page w es i ≡ vertex_in (get_or es (i / 2) 0) * w / 32768
  unfolding own_page
  even i e = rw (e, zero-mul (w - 1), add-zero (vertex_in (get_or es (i / 2) 0) * w))

  odd : (i : ℕ) → i % 2 ≡ 1 → own_page w es i ≡ (vertex_in (get_or es (i / 2) 0) * w + (w - 1)) / 32768
  unfolding own_page
  odd i e = rw (e, one-mul (w - 1))

  -- where the last page of an entry's word is below a number, the first is too
  pub both_below : (i next : ℕ) → last_page w (vertex_in (get_or es i 0)) < next → (own_page w es (2 * i) < next) × (own_page w es (2 * i + 1) < next)
  both_below i next h =
      let d : 2 * i / 2 ≡ i = omega arith in
      let e : (2 * i + 1) / 2 ≡ i = omega arith in
      (omega (arith, even (2 * i) (omega arith), ap (λ (t : ℕ). vertex_in (get_or es t 0) * w) d), omega (arith, odd (2 * i + 1) (omega arith), ap (λ (t : ℕ). vertex_in (get_or es t 0) * w) e))

  parity : (i : ℕ) → (i % 2 ≡ 0) ⊎ (i % 2 ≡ 1)
  parity i = go (dec_eq (i % 2) 0)
    where
      go : Dec (i % 2 ≡ 0) → (i % 2 ≡ 0) ⊎ (i % 2 ≡ 1)
      go (yes e) = inl e
      go (no n) = inr (omega arith)

  module _ (z : 0 < w) (up : (i j : ℕ) → i ≤ j → j < length es → vertex_in (get_or es i 0) ≤ vertex_in (get_or es j 0)) (i j : ℕ) (l : i < j) (m : j < 2 * length es) where
    rises : vertex_in (get_or es (i / 2) 0) ≤ vertex_in (get_or es (j / 2) 0)
    rises = up (i / 2) (j / 2) (omega arith) (omega arith)

    further : vertex_in (get_or es (i / 2) 0) < vertex_in (get_or es (j / 2) 0) → vertex_in (get_or es (i / 2) 0) * w + w ≤ vertex_in (get_or es (j / 2) 0) * w
    further h = let k : suc (vertex_in (get_or es (i / 2) 0)) * w ≤ vertex_in (get_or es (j / 2) 0) * w = mul-le-mul_right w h in omega (arith, suc-mul (vertex_in (get_or es (i / 2) 0)) w)

    row : (own_page w es i ≤ own_page w es j) ⊎ Hit (own_page w es) 0 i (own_page w es j)
    row = go (dec_lt (vertex_in (get_or es (i / 2) 0)) (vertex_in (get_or es (j / 2) 0))) (parity i) (parity j)
      where
        go : Dec (vertex_in (get_or es (i / 2) 0) < vertex_in (get_or es (j / 2) 0)) → (i % 2 ≡ 0) ⊎ (i % 2 ≡ 1) → (j % 2 ≡ 0) ⊎ (j % 2 ≡ 1) → (own_page w es i ≤ own_page w es j) ⊎ Hit (own_page w es) 0 i (own_page w es j)
        go (yes h) (inl p) (inl q) = inl (omega (arith, further h, even i p, even j q))
        go (yes h) (inl p) (inr q) = inl (omega (arith, further h, even i p, odd j q))
        go (yes h) (inr p) (inl q) = inl (omega (arith, further h, odd i p, even j q))
        go (yes h) (inr p) (inr q) = inl (omega (arith, further h, odd i p, odd j q))
        go (no h) (inl p) (inl q) = let e : vertex_in (get_or es (i / 2) 0) ≡ vertex_in (get_or es (j / 2) 0) = omega (arith, rises) in inl (omega (arith, ap (λ (v : ℕ). v * w) e, even i p, even j q))
        go (no h) (inl p) (inr q) = let e : vertex_in (get_or es (i / 2) 0) ≡ vertex_in (get_or es (j / 2) 0) = omega (arith, rises) in inl (omega (arith, ap (λ (v : ℕ). v * w) e, even i p, odd j q))
        go (no h) (inr p) (inr q) = let e : vertex_in (get_or es (i / 2) 0) ≡ vertex_in (get_or es (j / 2) 0) = omega (arith, rises) in inl (omega (arith, ap (λ (v : ℕ). v * w) e, odd i p, odd j q))
        go (no h) (inr p) (inl q) =
            let e : vertex_in (get_or es (i / 2) 0) ≡ vertex_in (get_or es (j / 2) 0) = omega (arith, rises) in
            let d : (i - 1) / 2 ≡ i / 2 = omega arith in
            inr (record { index = i - 1; above = omega arith; below = omega arith; is = omega (arith, ap (λ (v : ℕ). v * w) e, even (i - 1) (omega arith), ap (λ (t : ℕ). vertex_in (get_or es t 0) * w) d, even j q) })

-- THE LIST: it rises, each page once
pub list_climbs : (w : ℕ) (order : List ℕ) → Climbs 0 (list_of w order)
unfolding list_of
list_climbs w order = climbs (own_page w order) (2 * length order) 0 0

-- it has both pages of every word
pub list_has : (w : ℕ) (vs order : List ℕ) → 0 < w → Ordered vs order → (s : ℕ) → s < length vs → (among (list_of w order) (first_page w (get_or vs s 0)) ≡ true) × (among (list_of w order) (last_page w (get_or vs s 0)) ≡ true)
unfolding list_of
list_has w vs order z o s h = (subst (λ (p : ℕ). among (list_of w order) p ≡ true) first (has (2 * (o.at s h).index) (let l = (o.at s h).low in omega arith)), subst (λ (p : ℕ). among (list_of w order) p ≡ true) last (has (2 * (o.at s h).index + 1) (let l = (o.at s h).low in omega arith)))
  where
    has : (i : ℕ) → i < 2 * length order → among (list_of w order) (own_page w order i) ≡ true
    has i l = every (own_page w order) (2 * length order) (λ i j p q. row w order z o.rising i j p q) (2 * length order) 0 0 (omega arith) (λ g q. absurd (omega arith)) i (omega arith) (omega arith) (omega arith)

    v : vertex_in (get_or order (o.at s h).index 0) ≡ get_or vs s 0
    v = (o.own (o.at s h).index (o.at s h).low).1 ∙ ap (λ (t : ℕ). get_or vs t 0) (o.at s h).is

    first : own_page w order (2 * (o.at s h).index) ≡ first_page w (get_or vs s 0)
    first =
        let d : 2 * (o.at s h).index / 2 ≡ (o.at s h).index = omega arith in
        even w order (2 * (o.at s h).index) (omega arith) ∙ rw (d, v)

    last : own_page w order (2 * (o.at s h).index + 1) ≡ last_page w (get_or vs s 0)
    last =
        let d : (2 * (o.at s h).index + 1) / 2 ≡ (o.at s h).index = omega arith in
        let e : get_or vs s 0 * w + (w - 1) ≡ get_or vs s 0 * w + w - 1 = omega arith in
        odd w order (2 * (o.at s h).index + 1) (omega arith) ∙ rw (d, v, e)

-- and no other
pub record Whose (w : ℕ) (vs : List ℕ) (p : ℕ) : Type 0 where
  pub index : ℕ
  pub low : index < length vs
  pub is : (p ≡ first_page w (get_or vs index 0)) ⊎ (p ≡ last_page w (get_or vs index 0))

pub list_only : (w : ℕ) (vs order : List ℕ) → 0 < w → Ordered vs order → (p : ℕ) → among (list_of w order) p ≡ true → Whose w vs p
unfolding list_of
list_only w vs order z o p h = go (only (own_page w order) (2 * length order) 0 0 p h)
  where
    go : Hit (own_page w order) 0 (0 + 2 * length order) p → Whose w vs p
    go r =
        let i = r.index in
        let b = r.below in
        let q = o.own (i / 2) (omega arith) in
        let s = slot_in (get_or order (i / 2) 0) in
        let x = r.is in
        let v = ap (λ (t : ℕ). t * w) q.1 in
        record {
          index = s;
          low = q.0;
          is = ⊎_elim (λ e. inl (omega (arith, even w order i e))) (λ e. inr (omega (arith, odd w order i e))) (parity w order i);
        }
