-- A page reaches every slot that waits for it. Assumes nothing.
use mathlib.Core.Path.{◌≡◌, refl, sym, ap, ◌∙◌, subst}
use mathlib.Core.Bool.{cond, Bool, true, false}
use mathlib.Core.List.{List, [], ◌∷◌}
use mathlib.Core.Logic.{◌⊎◌, inl, inr, ⊎_elim}
use Prim.Native.Nat.{ℕ, zero, suc, ◌+◌, ◌-◌, ◌*◌, ◌/◌, ◌≤◌, ◌<◌}
use native.Mathlib.Decide.{dec_lt}
use native.Mathlib.Nat.{mul-le-mul_right, div-lt_iff_lt-mul, suc-mul}
use native.Mathlib.Omega.{arith}
use lib.Dec.{ltb, eqb}
use lib.ListN.{length, get_or, drop, length-set, length-drop}
use lib.Seq.{get_or-set_same, get_or-set_other, get_or-drop}
use borrow.Author.Tests.{eqb-true, eqb-false, ltb-true, lt-ltb}
use Rattle.bdz_image.specs.Feed.{taken_of, slot_of, among, page_of}
use Rattle.bdz_image.specs.Sweep.{place_of, vertex_in, slot_in, sweep_of, touch_of}
use Rattle.bdz_image.proofs.Any.{comes, again, untouched}
use Rattle.bdz_image.proofs.Place.{mid}

pub dec_eq : (a b : ℕ) → Dec (a ≡ b)
dec_eq a b = go (eqb a b) refl
  where
    go : (t : Bool) → eqb a b ≡ t → Dec (a ≡ b)
    go true e = yes (eqb-true a b e)
    go false e = no (eqb-false a b e)

-- where an entry of slot s stands
pub record Spot (order : List ℕ) (s : ℕ) : Type 0 where
  pub index : ℕ
  pub low : index < length order
  pub is : slot_in (get_or order index 0) ≡ s

-- an order of the slots of these vertices: by vertex, each slot somewhere
pub record Ordered (vs order : List ℕ) : Type 0 where
  pub rising : (i j : ℕ) → i ≤ j → j < length order → vertex_in (get_or order i 0) ≤ vertex_in (get_or order j 0)
  pub own : (i : ℕ) → i < length order → (slot_in (get_or order i 0) < length vs) × (vertex_in (get_or order i 0) ≡ get_or vs (slot_in (get_or order i 0)) 0)
  pub at : (s : ℕ) → s < length vs → Spot order s

-- halving stops behind nothing that is x or more
module _ (es : List ℕ) (x n : ℕ) (up : (i j : ℕ) → i ≤ j → j < n → vertex_in (get_or es i 0) ≤ vertex_in (get_or es j 0)) where
  pub place_before : (k lo hi : ℕ) → hi ≤ n → ((i : ℕ) → i < lo → vertex_in (get_or es i 0) < x) → (i : ℕ) → i < place_of k es x lo hi → vertex_in (get_or es i 0) < x
  unfolding place_of
  place_before zero lo hi h b = b
  place_before (suc k) lo hi h b = go (ltb lo hi) (ltb (vertex_in (get_or es (mid lo hi) 0)) x) refl refl (place_before k (mid lo hi + 1) hi h) (λ (g : mid lo hi ≤ n). place_before k lo (mid lo hi) g b)
    where
      go : (s t : Bool) → ltb lo hi ≡ s → ltb (vertex_in (get_or es (mid lo hi) 0)) x ≡ t → (((i : ℕ) → i < mid lo hi + 1 → vertex_in (get_or es i 0) < x) → (i : ℕ) → i < place_of k es x (mid lo hi + 1) hi → vertex_in (get_or es i 0) < x) → (mid lo hi ≤ n → (i : ℕ) → i < place_of k es x lo (mid lo hi) → vertex_in (get_or es i 0) < x) → (i : ℕ) → i < cond s (cond t (place_of k es x (mid lo hi + 1) hi) (place_of k es x lo (mid lo hi))) lo → vertex_in (get_or es i 0) < x
      go false t e f r l = b
      go true true e f r l =
          let c : lo < hi = ltb-true lo hi e in
          let d : vertex_in (get_or es (mid lo hi) 0) < x = ltb-true (vertex_in (get_or es (mid lo hi) 0)) x f in
          r (λ i q. omega (arith, up i (mid lo hi) (omega arith) (omega arith)))
      go true false e f r l = let c : lo < hi = ltb-true lo hi e in l (omega arith)

-- ---- slots on their way from one state to the next

module _ (w : ℕ) (body : List ℕ) (b : w ≤ 32) (vs : List ℕ) (p : ℕ) (ps : List ℕ) where
  old : ℕ → ℕ
  old s = slot_of w body (among ps) (get_or vs s 0)

  new : ℕ → ℕ
  new s = slot_of w body (among (p ∷ ps)) (get_or vs s 0)

  record Mixed (slots : List ℕ) : Type 0 where
    room : length vs ≤ length slots
    holds : (s : ℕ) → s < length vs → (get_or slots s 0 ≡ old s) ⊎ (get_or slots s 0 ≡ new s)

  record Own (e : ℕ) : Type 0 where
    low : slot_in e < length vs
    is : vertex_in e ≡ get_or vs (slot_in e) 0

  take_new : (e x : ℕ) → Own e → (x ≡ old (slot_in e)) ⊎ (x ≡ new (slot_in e)) → taken_of w p (page_of body p) (vertex_in e) x ≡ new (slot_in e)
  unfolding old new
  take_new e x o (inl q) = rw (o.is, q) (comes w body (get_or vs (slot_in e) 0) b p ps)
  take_new e x o (inr q) = rw (o.is, q) (comes w body (get_or vs (slot_in e) 0) b p (p ∷ ps) ∙ again w body (get_or vs (slot_in e) 0) b p ps)

  module _ (e : ℕ) (slots : List ℕ) (o : Own e) (m : Mixed slots) where
    touched : get_or (touch_of w p (page_of body p) e slots) (slot_in e) 0 ≡ new (slot_in e)
    unfolding touch_of
    touched =
        let l = o.low in
        let r = m.room in
        get_or-set_same slots (slot_in e) (taken_of w p (page_of body p) (vertex_in e) (get_or slots (slot_in e) 0)) 0 (omega arith)
        ∙ take_new e (get_or slots (slot_in e) 0) o (m.holds (slot_in e) o.low)

    others : (s : ℕ) → (s ≡ slot_in e → ⊥) → get_or (touch_of w p (page_of body p) e slots) s 0 ≡ get_or slots s 0
    unfolding touch_of
    others s n = get_or-set_other slots (slot_in e) s (taken_of w p (page_of body p) (vertex_in e) (get_or slots (slot_in e) 0)) 0 n

    touch_mixed : Mixed (touch_of w p (page_of body p) e slots)
    unfolding touch_of
    touch_mixed =
        record {
          room = simp length-set m.room;
          holds = λ s h. go s h (dec_eq s (slot_in e));
        }
      where
        go : (s : ℕ) → s < length vs → Dec (s ≡ slot_in e) → (get_or (touch_of w p (page_of body p) e slots) s 0 ≡ old s) ⊎ (get_or (touch_of w p (page_of body p) e slots) s 0 ≡ new s)
        go s h (yes q) = inr (subst (λ (t : ℕ). get_or (touch_of w p (page_of body p) e slots) t 0 ≡ new t) (sym q) touched)
        go s h (no n) = ⊎_elim (λ q. inl (others s n ∙ q)) (λ q. inr (others s n ∙ q)) (m.holds s h)

    touch_keeps : (s : ℕ) → get_or slots s 0 ≡ new s → get_or (touch_of w p (page_of body p) e slots) s 0 ≡ new s
    touch_keeps s q = go (dec_eq s (slot_in e))
      where
        go : Dec (s ≡ slot_in e) → get_or (touch_of w p (page_of body p) e slots) s 0 ≡ new s
        go (yes q) = subst (λ (t : ℕ). get_or (touch_of w p (page_of body p) e slots) t 0 ≡ new t) (sym q) touched
        go (no n) = others s n ∙ q

  -- the sweep over entries that rise
  module _ (es : List ℕ) where
    Rising : Type 0
    Rising = (i j : ℕ) → i ≤ j → j < length es → vertex_in (get_or es i 0) ≤ vertex_in (get_or es j 0)

    Owned : Type 0
    Owned = (i : ℕ) → i < length es → Own (get_or es i 0)

  sweep_mixed : (es slots : List ℕ) → Owned es → Mixed slots → Mixed (sweep_of w p (page_of body p) es slots)
  unfolding sweep_of Owned
  sweep_mixed [] slots o m = m
  sweep_mixed (e ∷ es) slots o m = go (ltb (vertex_in e * w) ((p + 1) * 32768)) (sweep_mixed es (touch_of w p (page_of body p) e slots) (λ i h. o (suc i) (omega arith)) (touch_mixed e slots (o 0 (omega arith)) m))
    where
      go : (t : Bool) → Mixed (sweep_of w p (page_of body p) es (touch_of w p (page_of body p) e slots)) → Mixed (cond t (sweep_of w p (page_of body p) es (touch_of w p (page_of body p) e slots)) slots)
      go true r = r
      go false r = m

  sweep_keeps : (es slots : List ℕ) → Owned es → Mixed slots → (s : ℕ) → get_or slots s 0 ≡ new s → get_or (sweep_of w p (page_of body p) es slots) s 0 ≡ new s
  unfolding sweep_of Owned
  sweep_keeps [] slots o m s q = q
  sweep_keeps (e ∷ es) slots o m s q =
      go (ltb (vertex_in e * w) ((p + 1) * 32768))
      (sweep_keeps es (touch_of w p (page_of body p) e slots) (λ i h. o (suc i) (omega arith)) (touch_mixed e slots (o 0 (omega arith)) m) s (touch_keeps e slots (o 0 (omega arith)) m s q))
    where
      go : (t : Bool) → get_or (sweep_of w p (page_of body p) es (touch_of w p (page_of body p) e slots)) s 0 ≡ new s → get_or (cond t (sweep_of w p (page_of body p) es (touch_of w p (page_of body p) e slots)) slots) s 0 ≡ new s
      go true r = r
      go false r = q

  sweep_reaches : (es slots : List ℕ) → Owned es → Rising es → Mixed slots → (i : ℕ) → i < length es → vertex_in (get_or es i 0) * w < (p + 1) * 32768 → get_or (sweep_of w p (page_of body p) es slots) (slot_in (get_or es i 0)) 0 ≡ new (slot_in (get_or es i 0))
  unfolding sweep_of Owned Rising
  sweep_reaches [] slots o u m i h l = absurd (omega arith)
  sweep_reaches (e ∷ es) slots o u m zero h l =
      rw (lt-ltb (vertex_in e * w) ((p + 1) * 32768) l)
      (sweep_keeps es (touch_of w p (page_of body p) e slots) (λ i h. o (suc i) (omega arith)) (touch_mixed e slots (o 0 (omega arith)) m) (slot_in e) (touched e slots (o 0 (omega arith)) m))
  sweep_reaches (e ∷ es) slots o u m (suc i) h l =
      let k : vertex_in e * w ≤ vertex_in (get_or es i 0) * w = mul-le-mul_right w (u 0 (suc i) (omega arith) h) in
      rw (lt-ltb (vertex_in e * w) ((p + 1) * 32768) (omega arith))
      (sweep_reaches es (touch_of w p (page_of body p) e slots) (λ i h. o (suc i) (omega arith)) (λ i j q r. u (suc i) (suc j) (omega arith) (omega arith)) (touch_mixed e slots (o 0 (omega arith)) m) i (omega arith) l)

-- the slots of these vertices, after these pages of a body came
pub record Fed (w : ℕ) (body vs ps slots : List ℕ) : Type 0 where
  pub room : length vs ≤ length slots
  pub holds : (s : ℕ) → s < length vs → get_or slots s 0 ≡ slot_of w body (among ps) (get_or vs s 0)

-- the place where the sweep of a page begins
abbrev pub from_of : ℕ → ℕ → List ℕ → ℕ
from_of w p order = place_of (length order) order (p * 32768 / w) 0 (length order)

-- ONE PAGE: by its place and its sweep, it reaches every slot that waits for it
pub page_comes : (w : ℕ) (body vs order slots ps : List ℕ) (p : ℕ) → 0 < w → w ≤ 32 → Ordered vs order → Fed w body vs ps slots → Fed w body vs (p ∷ ps) (sweep_of w p (page_of body p) (drop (from_of w p order) order) slots)
unfolding Owned Rising old new
page_comes w body vs order slots ps p z b o f = record { room = mixed.room; holds = λ s h. by s h (dec_lt (get_or vs s 0 * w) ((p + 1) * 32768)) (dec_lt (p * 32768) (get_or vs s 0 * w + w)) }
  where
    lo : ℕ
    lo = from_of w p order

    owned : Owned w body b vs p ps (drop lo order)
    owned i h =
        let l : lo + i < length order = omega (arith, length-drop lo order) in
        rw (get_or-drop lo order i 0) (record { low = (o.own (lo + i) l).0; is = (o.own (lo + i) l).1 })

    rising : Rising w body b vs p ps (drop lo order)
    rising i j q h = rw (get_or-drop lo order i 0, get_or-drop lo order j 0) (o.rising (lo + i) (lo + j) (omega arith) (omega (arith, length-drop lo order)))

    before : Mixed w body b vs p ps slots
    before = record { room = f.room; holds = λ s h. inl (f.holds s h) }

    mixed : Mixed w body b vs p ps (sweep_of w p (page_of body p) (drop lo order) slots)
    mixed = sweep_mixed w body b vs p ps (drop lo order) slots owned before

    same : (s : ℕ) → s < length vs → ((p + 1) * 32768 ≤ get_or vs s 0 * w) ⊎ (get_or vs s 0 * w + w ≤ p * 32768) → get_or (sweep_of w p (page_of body p) (drop lo order) slots) s 0 ≡ slot_of w body (among (p ∷ ps)) (get_or vs s 0)
    same s h c = ⊎_elim (λ q. q ∙ sym (untouched w body (get_or vs s 0) b p ps z c)) (λ q. q) (mixed.holds s h)

    -- a word that ends behind the page's start is at the sweep's place or behind it
    behind : (i : ℕ) → i < length order → p * 32768 < vertex_in (get_or order i 0) * w + w → lo ≤ i
    behind i k g = go (dec_lt i lo)
      where
        go : Dec (i < lo) → lo ≤ i
        go (no n) = omega arith
        go (yes t) =
            let a : vertex_in (get_or order i 0) < p * 32768 / w = place_before order (p * 32768 / w) (length order) o.rising (length order) 0 (length order) (omega arith) (λ i q. absurd (omega arith)) i t in
            let m : p * 32768 < suc (vertex_in (get_or order i 0)) * w = rw (suc-mul (vertex_in (get_or order i 0)) w) g in
            let c : p * 32768 / w < suc (vertex_in (get_or order i 0)) = (div-lt_iff_lt-mul z).1 m in
            absurd (omega arith)

    by : (s : ℕ) → s < length vs → Dec (get_or vs s 0 * w < (p + 1) * 32768) → Dec (p * 32768 < get_or vs s 0 * w + w) → get_or (sweep_of w p (page_of body p) (drop lo order) slots) s 0 ≡ slot_of w body (among (p ∷ ps)) (get_or vs s 0)
    by s h (no n) d = same s h (inl (omega arith))
    by s h (yes l) (no n) = same s h (inr (omega arith))
    by s h (yes l) (yes g) =
        let i = (o.at s h).index in
        let k = (o.at s h).low in
        let v : vertex_in (get_or order i 0) ≡ get_or vs s 0 = (o.own i k).1 ∙ ap (λ (t : ℕ). get_or vs t 0) (o.at s h).is in
        let q = behind i k (rw v g) in
        let e : lo + (i - lo) ≡ i = omega arith in
        let d : get_or (drop lo order) (i - lo) 0 ≡ get_or order i 0 = get_or-drop lo order (i - lo) 0 ∙ ap (λ (t : ℕ). get_or order t 0) e in
        let y : vertex_in (get_or (drop lo order) (i - lo) 0) * w < (p + 1) * 32768 = rw (d, v) l in
        subst (λ (t : ℕ). get_or (sweep_of w p (page_of body p) (drop lo order) slots) t 0 ≡ slot_of w body (among (p ∷ ps)) (get_or vs t 0))
        (ap (λ (t : ℕ). slot_in t) d ∙ (o.at s h).is)
        (sweep_reaches w body b vs p ps (drop lo order) slots owned rising before (i - lo) (omega (arith, length-drop lo order)) y)
