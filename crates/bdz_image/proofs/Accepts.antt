-- A listed page that has not come is accepted. Assumes nothing.
use Rattle.bdz_base.specs.Pages.{first_page, last_page}
use mathlib.Core.Path.{◌≡◌, refl, sym, ap, ◌∙◌, subst}
use mathlib.Core.Bool.{cond, Bool, true, false}
use mathlib.Core.List.{List, ◌∷◌}
use mathlib.Core.Logic.{⊎_elim}
use Prim.Native.Nat.{ℕ, zero, suc, ◌+◌, ◌-◌, ◌*◌, ◌/◌, ◌≤◌, ◌<◌}
use native.Mathlib.Nat.{mul-le-mul_right, div-lt_iff_lt-mul, suc-mul}
use native.Mathlib.Decide.{dec_lt}
use native.Mathlib.Omega.{arith}
use lib.Dec.{ltb}
use lib.ListN.{length, get_or}
use borrow.Author.Tests.{ltb-true, ltb-false}
use Rattle.bdz_image.specs.Feed.{slot_of, among, page_of}
use Rattle.bdz_image.specs.Sweep.{place_of, vertex_in, slot_in}
use Rattle.bdz_image.specs.Pages.{list_of}
use Rattle.bdz_image.specs.Page.{missing_in, need_of, page_no, page_slots, from_at}
use Rattle.bdz_image.proofs.Any.{still, gone}
use Rattle.bdz_image.proofs.Place.{mid}
use Rattle.bdz_image.proofs.Sweeps.{Ordered, Fed, place_before, page_comes}
use Rattle.bdz_image.proofs.Listed.{Whose, list_only, list_has}
use Rattle.bdz_image.proofs.PageNos.{taken, given, no_word, page_none, page_some, page_taken}

-- halving stops at x or more
module _ (es : List ℕ) (x n : ℕ) where
  place_at : (k lo hi : ℕ) → lo ≤ hi → hi - lo ≤ k → (hi < n → x ≤ vertex_in (get_or es hi 0)) → place_of k es x lo hi < n → x ≤ vertex_in (get_or es (place_of k es x lo hi) 0)
  unfolding place_of
  place_at zero lo hi l e b = let q : hi ≡ lo = omega arith in subst (λ (t : ℕ). t < n → x ≤ vertex_in (get_or es t 0)) q b
  place_at (suc k) lo hi l e b = go (ltb lo hi) (ltb (vertex_in (get_or es (mid lo hi) 0)) x) refl refl (λ p q. place_at k (mid lo hi + 1) hi p q b) (λ p q. place_at k lo (mid lo hi) p q)
    where
      go : (s t : Bool) → ltb lo hi ≡ s → ltb (vertex_in (get_or es (mid lo hi) 0)) x ≡ t
          → (mid lo hi + 1 ≤ hi → hi - (mid lo hi + 1) ≤ k → place_of k es x (mid lo hi + 1) hi < n → x ≤ vertex_in (get_or es (place_of k es x (mid lo hi + 1) hi) 0))
          → (lo ≤ mid lo hi → mid lo hi - lo ≤ k → (mid lo hi < n → x ≤ vertex_in (get_or es (mid lo hi) 0)) → place_of k es x lo (mid lo hi) < n → x ≤ vertex_in (get_or es (place_of k es x lo (mid lo hi)) 0))
          → cond s (cond t (place_of k es x (mid lo hi + 1) hi) (place_of k es x lo (mid lo hi))) lo < n → x ≤ vertex_in (get_or es (cond s (cond t (place_of k es x (mid lo hi + 1) hi) (place_of k es x lo (mid lo hi))) lo) 0)
      go false t u v r s = let m : hi ≤ lo = ltb-false lo hi u in let q : hi ≡ lo = omega arith in subst (λ (t : ℕ). t < n → x ≤ vertex_in (get_or es t 0)) q b
      go true true u v r s = let m : lo < hi = ltb-true lo hi u in r (omega arith) (omega arith)
      go true false u v r s = let m : lo < hi = ltb-true lo hi u in s (omega arith) (omega arith) (λ q. ltb-false (vertex_in (get_or es (mid lo hi) 0)) x v)

module _ (w m : ℕ) (body vs order slots ps : List ℕ) (p : ℕ) (z : 0 < w) (b : w ≤ 32) (o : Ordered vs order) (f : Fed w body vs ps slots) where
  -- a word with bits in the page, by its place in the order
  record Touching : Type 0 where
    i : ℕ
    low : i < length order
    begins : vertex_in (get_or order i 0) * w < (p + 1) * 32768
    ends : p * 32768 < vertex_in (get_or order i 0) * w + w

  touching : among (list_of w order) p ≡ true → Touching
  touching h = go (list_only w vs order z o p h)
    where
      go : Whose w vs p → Touching
      go u =
          let s = o.at u.index u.low in
          let v : vertex_in (get_or order s.index 0) ≡ get_or vs u.index 0 = (o.own s.index s.low).1 ∙ ap (λ (t : ℕ). get_or vs t 0) s.is in
          let q = ap (λ (t : ℕ). t * w) v in
          ⊎_elim (λ e. record { i = s.index; low = s.low; begins = omega arith; ends = omega arith }) (λ e. record { i = s.index; low = s.low; begins = omega arith; ends = omega arith }) u.is

  x : ℕ
  x = p * 32768 / w

  not_behind : (t : Touching) → from_at w p order ≤ t.i
  not_behind t = go (dec_lt t.i (from_at w p order))
    where
      go : Dec (t.i < from_at w p order) → from_at w p order ≤ t.i
      go (no n) = omega arith
      go (yes l) =
          let a : vertex_in (get_or order t.i 0) < p * 32768 / w = place_before order (p * 32768 / w) (length order) o.rising (length order) 0 (length order) (omega arith) (λ i q. absurd (omega arith)) t.i l in
          let g : p * 32768 < suc (vertex_in (get_or order t.i 0)) * w = rw (suc-mul (vertex_in (get_or order t.i 0)) w) t.ends in
          let c : p * 32768 / w < suc (vertex_in (get_or order t.i 0)) = (div-lt_iff_lt-mul z).1 g in
          absurd (omega arith)

  -- so the sweep's first entry has bits in the page
  module _ (t : Touching) where
    first_low : from_at w p order < length order
    first_low = let n = not_behind t in let l = t.low in omega arith

    first_begins : vertex_in (get_or order (from_at w p order) 0) * w < (p + 1) * 32768
    first_begins =
        let q = t.begins in
        let u = mul-le-mul_right w (o.rising (from_at w p order) t.i (not_behind t) t.low) in
        omega arith

    first_ends : p * 32768 < vertex_in (get_or order (from_at w p order) 0) * w + w
    first_ends =
        let a : p * 32768 / w ≤ vertex_in (get_or order (from_at w p order) 0) = place_at order (p * 32768 / w) (length order) (length order) 0 (length order) (omega arith) (omega arith) (λ h. absurd (omega arith)) first_low in
        let c : p * 32768 / w < suc (vertex_in (get_or order (from_at w p order) 0)) = omega arith in
        rw suc-mul at ((div-lt_iff_lt-mul z).0 c)

  -- ACCEPTED: a listed page that has not come, of the right length
  pub accepts : (bytes : List ℕ) → among (list_of w order) p ≡ true → among ps p ≡ false → length bytes ≡ need_of w m p → page_no w m p (length bytes) slots order ≡ 0
  accepts bytes h n q =
      let t = touching h in
      let e = get_or order (from_at w p order) 0 in
      let k = o.own (from_at w p order) (first_low t) in
      let s : get_or slots (slot_in e) 0 ≡ slot_of w body (among ps) (vertex_in e) = f.holds (slot_in e) k.0 ∙ ap (λ (v : ℕ). slot_of w body (among ps) v) (sym k.1) in
      let g : missing_in w p (vertex_in e) (get_or slots (slot_in e) 0) ≡ 0 → ⊥ = rw s (still w body (vertex_in e) b p ps z (first_begins t) (first_ends t) n) in
      sym (page_some w m p bytes slots order (first_low t)) ∙ sym (taken w m p (length bytes) slots e (first_begins t) g q)

  -- and its slots are then those of a feed to which it came
  pub takes : among (list_of w order) p ≡ true → among ps p ≡ false → length (page_of body p) ≡ need_of w m p → Fed w body vs (p ∷ ps) (page_slots w m p (page_of body p) slots order)
  takes h n q = subst (λ (l : List ℕ). Fed w body vs (p ∷ ps) l) (page_taken w m p (page_of body p) slots order (accepts (page_of body p) h n q)) (page_comes w body vs order slots ps p z b o f)

  -- 16: a page that came
  pub given_before : (bytes : List ℕ) → among (list_of w order) p ≡ true → among ps p ≡ true → page_no w m p (length bytes) slots order ≡ 16
  given_before bytes h n =
      let t = touching h in
      let e = get_or order (from_at w p order) 0 in
      let k = o.own (from_at w p order) (first_low t) in
      let s : get_or slots (slot_in e) 0 ≡ slot_of w body (among ps) (vertex_in e) = f.holds (slot_in e) k.0 ∙ ap (λ (v : ℕ). slot_of w body (among ps) v) (sym k.1) in
      let g : missing_in w p (vertex_in e) (get_or slots (slot_in e) 0) ≡ 0 = rw s (gone w body (vertex_in e) b p ps n) in
      sym (page_some w m p bytes slots order (first_low t)) ∙ sym (given w m p (length bytes) slots e (first_begins t) g)

  -- 15: a page that is not listed
  pub not_listed : (bytes : List ℕ) → among (list_of w order) p ≡ false → page_no w m p (length bytes) slots order ≡ 15
  not_listed bytes h = go (dec_lt (from_at w p order) (length order)) (dec_lt (vertex_in (get_or order (from_at w p order) 0) * w) ((p + 1) * 32768))
    where
      both : {t : Bool} → t ≡ true → t ≡ false → ⊥
      both x y = let z : ◌≡◌ {A = Bool} true false = sym x ∙ y in let q : ◌≡◌ {A = ℕ} 0 1 = cc in omega arith

      touches : (l : from_at w p order < length order) → vertex_in (get_or order (from_at w p order) 0) * w < (p + 1) * 32768 → ⊥
      touches l g =
          let e = get_or order (from_at w p order) 0 in
          let k = o.own (from_at w p order) l in
          let u = list_has w vs order z o (slot_in e) k.0 in
          let a : p * 32768 / w ≤ vertex_in e = place_at order (p * 32768 / w) (length order) (length order) 0 (length order) (omega arith) (omega arith) (λ h. absurd (omega arith)) l in
          let c : p * 32768 / w < suc (vertex_in e) = omega arith in
          let d : p * 32768 < vertex_in e * w + w = rw suc-mul at ((div-lt_iff_lt-mul z).0 c) in
          let q = ap (λ (v : ℕ). v * w) k.1 in
          which (get_or vs (slot_in e) 0) u (omega arith) (omega arith)
        where
          which : (v : ℕ) → (among (list_of w order) (first_page w v) ≡ true) × (among (list_of w order) (last_page w v) ≡ true) → v * w < (p + 1) * 32768 → p * 32768 < v * w + w → ⊥
          which v u g d = at (dec_lt (v * w) (p * 32768))
            where
              at : Dec (v * w < p * 32768) → ⊥
              at (yes x) = let y : last_page w v ≡ p = omega arith in both (ap (λ (t : ℕ). among (list_of w order) t) (sym y) ∙ u.1) h
              at (no x) = let y : first_page w v ≡ p = omega arith in both (ap (λ (t : ℕ). among (list_of w order) t) (sym y) ∙ u.0) h

      go : Dec (from_at w p order < length order) → Dec (vertex_in (get_or order (from_at w p order) 0) * w < (p + 1) * 32768) → page_no w m p (length bytes) slots order ≡ 15
      go (no l) g = sym (page_none w m p bytes slots order (omega arith))
      go (yes l) (yes g) = absurd (touches l g)
      go (yes l) (no g) = sym (page_some w m p bytes slots order l) ∙ sym (no_word w m p (length bytes) slots (get_or order (from_at w p order) 0) (omega arith))
