-- What is known once a fed page passes its early checks, and what the lent slots then are. Assumes nothing.
use mathlib.Core.Path.{◌≡◌, refl, sym, ◌∙◌}
use mathlib.Core.Bool.{Bool, true, false, cond}
use mathlib.Core.List.{List, [], ◌∷◌, ◌++◌}
use Prim.Native.Nat.{ℕ, ◌+◌, ◌*◌, ◌≤◌, ◌<◌}
use native.Mathlib.Omega.{arith}
use borrow.Author.Tests.{eqb-false, ltb-false}
use lib.Dec.{eqb, ltb}
use lib.ListN.{length, take, drop}
use lib.Seq.{length-take-le}
use Rattle.bdz_table.specs.declared.index.Index.{Index}
use Rattle.bdz_table.proofs.Begun.{refuse_none}
use Rattle.bdz_image.specs.Feeding.{feed_m, lists_none, page_early, feed_page_no, PageFed}
use Rattle.bdz_image.specs.Page.{from_at, page_no, page_slots}
use Rattle.bdz_image.specs.Sweep.{vertex_in, touch_of, sweep_of}
use Rattle.bdz_image.proofs.Place.{length_touch}

-- ---- the early checks

pub record Fits (index : Index) (keys order slots : ℕ) : Type 0 where
  pub width_some : 0 < index.width
  pub width_low : index.width ≤ 32
  pub order_room : 3 * keys ≤ order
  pub slots_room : 3 * keys ≤ slots

pub page_passed : (index : Index) (keys order slots : ℕ) → page_early index keys order slots ≡ 0 → Fits index keys order slots
unfolding page_early
page_passed index keys order slots e =
    let a = refuse_none 14 (eqb keys 0) _ e in
    let b = refuse_none 14 (eqb index.n 0) _ a.1 in
    let c = refuse_none 9 (eqb index.width 0) _ b.1 in
    let d = refuse_none 9 (ltb 32 index.width) _ c.1 in
    let f = refuse_none 14 (lists_none index.kind index.n) _ d.1 in
    let g = refuse_none 13 (ltb order (3 * keys)) _ f.1 in
    let h = refuse_none 13 (ltb slots (3 * keys)) 0 g.1 in
    let some : index.width ≡ 0 → ⊥ = eqb-false index.width 0 c.0 in
    record {
      width_some = omega arith;
      width_low = ltb-false 32 index.width d.0;
      order_room = ltb-false order (3 * keys) g.0;
      slots_room = ltb-false slots (3 * keys) h.0;
    }

-- ---- lengths

length_sweep : (w p : ℕ) (bytes es slots : List ℕ) → length (sweep_of w p bytes es slots) ≡ length slots
unfolding sweep_of
length_sweep w p bytes [] slots = refl
length_sweep w p bytes (e ∷ es) slots =
    go (ltb (vertex_in e * w) ((p + 1) * 32768)) (length_sweep w p bytes es (touch_of w p bytes e slots) ∙ length_touch w p bytes es e slots)
  where
    go : (b : Bool) → length (sweep_of w p bytes es (touch_of w p bytes e slots)) ≡ length slots → length (cond b (sweep_of w p bytes es (touch_of w p bytes e slots)) slots) ≡ length slots
    go true h = h
    go false h = refl

pub length_page_slots : (w m p : ℕ) (bytes slots order : List ℕ) → length (page_slots w m p bytes slots order) ≡ length slots
unfolding page_slots
length_page_slots w m p bytes slots order = go (eqb (page_no w m p (length bytes) slots order) 0)
  where
    go : (b : Bool) → length (cond b (sweep_of w p bytes (drop (from_at w p order) order) slots) slots) ≡ length slots
    go true = length_sweep w p bytes (drop (from_at w p order) order) slots
    go false = refl

-- ---- the returns

pub page_refused : (index : Index) (keys page : ℕ) (bytes order slots : List ℕ) {no : ℕ} → no ≡ page_early index keys (length order) (length slots) → eqb no 0 ≡ false → PageFed index keys page bytes order slots no slots
unfolding feed_page_no
page_refused index keys page bytes order slots e t =
    record { number_is = rw (← e, t); slots_are = rw (← e, t) }

pub page_fed : (index : Index) (keys page m : ℕ) (bytes order slots : List ℕ) {no r : ℕ} {part : List ℕ} → no ≡ page_early index keys (length order) (length slots) → no ≡ 0 → m ≡ feed_m index
    → r ≡ page_no index.width m page (length bytes) (take (3 * keys) slots) (take (3 * keys) order)
    → part ≡ page_slots index.width m page bytes (take (3 * keys) slots) (take (3 * keys) order)
    → PageFed index keys page bytes order slots r (part ++ drop (3 * keys) slots)
unfolding feed_page_no
page_fed index keys page m bytes order slots {no} {r} {part} e z f p q =
    let early : page_early index keys (length order) (length slots) ≡ 0 = sym e ∙ z in
    let room = (page_passed index keys (length order) (length slots) early).slots_room in
    let long = length_page_slots index.width (feed_m index) page bytes (take (3 * keys) slots) (take (3 * keys) order) ∙ length-take-le (3 * keys) slots room in
    record { number_is = rw early (rw f at p); slots_are = rw (early, q, f, long) }
