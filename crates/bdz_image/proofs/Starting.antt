-- What is known once a feed's start passes its checks, and what its lent buffers then are. Assumes nothing.
use mathlib.Core.Path.{◌≡◌, refl, sym, ap, subst, ◌∙◌}
use mathlib.Core.Bool.{Bool, true, false, cond}
use mathlib.Core.List.{List, ◌∷◌, ◌++◌}
use Prim.Native.Nat.{ℕ, zero, suc, ◌+◌, ◌-◌, ◌*◌, ◌^◌, ◌≤◌, ◌<◌}
use native.Mathlib.Omega.{arith}
use borrow.Author.Tests.{eqb-false, ltb-false}
use lib.Dec.{eqb, ltb}
use lib.ListN.{length, drop, replicate, length-replicate, length-append}
use Rattle.bdz_base.specs.Buffer.{tab, written}
use Rattle.bdz_base.specs.declared.verts.Kind.{Kind}
use Rattle.bdz_base.specs.declared.verts.Kind.TheVariants.{Assigned, Compact}
use Rattle.bdz_base.specs.Sizes.{occupancy_bytes}
use Rattle.bdz_base.proofs.Buffers.{length_tab}
use Rattle.bdz_table.specs.declared.index.Index.{Index}
use Rattle.bdz_table.proofs.Begun.{refuse_none}
use Rattle.bdz_table.proofs.Fold.{clash}
use Rattle.bdz_image.specs.Entry.{entry_at}
use Rattle.bdz_image.specs.Feed.{slot}
use Rattle.bdz_image.specs.Feeding.{feed_m, lists_none, lists_pages, occupancy_no, feed_no, start_room, start_no, order_of, pages_of, fresh_slots, feed_of, Opened}
use Rattle.bdz_image.specs.Pages.{own_page, once_of, list_of, padded}
use Rattle.bdz_image.specs.Start.{Started}
use Rattle.bdz_image.proofs.Orders.{in_order_length, in_order_only}

-- ---- the checks

-- pages are listed: keys there are, and the index has words for them
pub lists_some : (index : Index) (keys : ℕ) → lists_pages index keys ≡ true → (eqb keys 0 ≡ false) × (eqb index.n 0 ≡ false) × (lists_none index.kind index.n ≡ false)
unfolding lists_pages
lists_some index keys = go (eqb keys 0) (eqb index.n 0) (lists_none index.kind index.n)
  where
    go : (a b c : Bool) → cond a false (cond b false (cond c false true)) ≡ true → (a ≡ false) × (b ≡ false) × (c ≡ false)
    go true b c e = clash e refl
    go false true c e = clash e refl
    go false false true e = clash e refl
    go false false false e = (refl, refl, refl)

occupancy_passed : (kind : Kind) (m occ room : ℕ) → occupancy_no kind m occ room ≡ 0 → room ≡ 0
occupancy_passed Assigned m occ room e = e
occupancy_passed Compact m occ room e = (refuse_none 11 (ltb occ (occupancy_bytes m)) room e).1

-- what the checks of a feed ask of its index, and that its room was looked at
pub record Ready (index : Index) (room : ℕ) : Type 0 where
  pub width_some : 0 < index.width
  pub width_low : index.width ≤ 32
  pub vertices : 0 < feed_m index
  pub room_is : room ≡ 0

pub feed_passed : (index : Index) (keys occ room : ℕ) → lists_pages index keys ≡ true → feed_no index keys occ room ≡ 0 → Ready index room
unfolding feed_no
feed_passed index keys occ room l e =
    let s = lists_some index keys l in
    let a = refuse_none 9 (eqb index.width 0) _ (rw (s.0, s.1) at e) in
    let b = refuse_none 9 (ltb 32 index.width) _ a.1 in
    let some : index.width ≡ 0 → ⊥ = eqb-false index.width 0 a.0 in
    let rest = go (eqb index.n 1) (rw s.2 at b.1) in
    record { width_some = omega arith; width_low = ltb-false 32 index.width b.0; vertices = rest.0; room_is = rest.1 }
  where
    go : (one : Bool) → cond one room (cond (eqb index.m 0) 11 (cond (eqb index.modulus 0) 11 (occupancy_no index.kind index.m occ room))) ≡ 0 → (0 < cond one 1 index.m) × (room ≡ 0)
    go true e = (omega arith, e)
    go false e =
        let a = refuse_none 10 (eqb index.m 0) _ e in
        let b = refuse_none 10 (eqb index.modulus 0) _ a.1 in
        let some : index.m ≡ 0 → ⊥ = eqb-false index.m 0 a.0 in
        (omega arith, occupancy_passed index.kind index.m occ room b.1)

pub record Roomy (keys order slots pages : ℕ) : Type 0 where
  pub few : keys ≤ 2 ^ 30
  pub order_room : 3 * keys ≤ order
  pub slots_room : 3 * keys ≤ slots
  pub pages_room : 6 * keys ≤ pages

pub room_passed : (keys order slots pages : ℕ) → start_room keys order slots pages ≡ 0 → Roomy keys order slots pages
unfolding start_room
room_passed keys order slots pages e =
    let a = refuse_none 12 (ltb (2 ^ 30) keys) _ e in
    let b = refuse_none 13 (ltb order (3 * keys)) _ a.1 in
    let c = refuse_none 13 (ltb slots (3 * keys)) _ b.1 in
    let d = refuse_none 13 (ltb pages (6 * keys)) 0 c.1 in
    record {
      few = ltb-false (2 ^ 30) keys a.0;
      order_room = ltb-false order (3 * keys) b.0;
      slots_room = ltb-false slots (3 * keys) c.0;
      pages_room = ltb-false pages (6 * keys) d.0;
    }

-- ---- lengths

length_once : (f : ℕ → ℕ) (k i next : ℕ) → length (once_of f k i next) ≤ k
unfolding once_of
length_once f zero i next = omega arith
length_once f (suc k) i next = go (ltb (f i) next) (length_once f k (i + 1) next) (length_once f k (i + 1) (f i + 1))
  where
    go : (t : Bool) → length (once_of f k (i + 1) next) ≤ k → length (once_of f k (i + 1) (f i + 1)) ≤ k → length (cond t (once_of f k (i + 1) next) (f i ∷ once_of f k (i + 1) (f i + 1))) ≤ suc k
    go true p q = omega arith
    go false p q = omega arith

pub length_order : (index : Index) (keys : List ℕ) → length (order_of index keys) ≡ 3 * length keys
length_order index keys =
    let f = entry_at index.kind keys index.seed (feed_m index) in
    in_order_length (tab f (3 * length keys)) ∙ length_tab f (3 * length keys)

-- at most six pages a key
pub length_pages : (index : Index) (keys : List ℕ) → length (pages_of index keys) ≤ 6 * length keys
unfolding list_of
length_pages index keys = omega (arith, length_once (own_page index.width (order_of index keys)) (2 * length (order_of index keys)) 0 0, length_order index keys)

length_padded : (n : ℕ) (xs : List ℕ) → length xs ≤ n → length (padded n xs) ≡ n
length_padded n xs h = length-append xs (replicate (n - length xs) 0) ∙ omega (arith, length-replicate {A = ℕ} (n - length xs) 0)

-- ---- the returns

module _ (index : Index) (keys : List ℕ) (occ : ℕ) (order slots pages : List ℕ) {no : ℕ} (is : no ≡ start_no index (length keys) occ (length order) (length slots) (length pages)) where
  kept : (b : Bool) (new old : List ℕ) → eqb no 0 ≡ false → old ≡ cond b (written (start_no index (length keys) occ (length order) (length slots) (length pages)) new old) old
  kept true new old t = rw (← is, t)
  kept false new old t = refl

  pub start_refused : eqb no 0 ≡ false → Opened index keys occ order slots pages (record { no = no; keys = 0; pages = 0 }) order slots pages
  unfolding feed_of
  start_refused t =
      let b = lists_pages index (length keys) in
      record {
        feed_is = rw (← is, t);
        order_is = kept b (order_of index keys) order t;
        slots_are = kept b (fresh_slots index (length keys)) slots t;
        pages_are = kept b (padded (6 * length keys) (pages_of index keys)) pages t;
      }

  pub start_lists_none : no ≡ 0 → lists_pages index (length keys) ≡ false → Opened index keys occ order slots pages (record { no = 0; keys = length keys; pages = 0 }) order slots pages
  unfolding feed_of
  start_lists_none z l =
      let e : start_no index (length keys) occ (length order) (length slots) (length pages) ≡ 0 = sym is ∙ z in
      record { feed_is = rw (e, l); order_is = rw l; slots_are = rw l; pages_are = rw l }

  pub start_begun : no ≡ 0 → lists_pages index (length keys) ≡ true → {m count : ℕ} {order-part slots-part pages-part : List ℕ} → m ≡ feed_m index → Started index.kind keys index.seed m index.width count order-part slots-part pages-part
      → Opened index keys occ order slots pages (record { no = 0; keys = length keys; pages = count }) (order-part ++ drop (3 * length keys) order) (slots-part ++ drop (3 * length keys) slots) (pages-part ++ drop (2 * (3 * length keys)) pages)
  unfolding feed_of
  start_begun z l {m} {count} {order-part} {slots-part} {pages-part} d s' =
      let s = subst (λ (v : ℕ). Started index.kind keys index.seed v index.width count order-part slots-part pages-part) d s' in
      let six : 2 * (3 * length keys) ≡ 6 * length keys = omega arith in
      let e : start_no index (length keys) occ (length order) (length slots) (length pages) ≡ 0 = sym is ∙ z in
      let f = entry_at index.kind keys index.seed (feed_m index) in
      let o : order-part ≡ order_of index keys = in_order_only (tab f (3 * length keys)) order-part s.sorted s.same in
      let c : count ≡ length (pages_of index keys) = s.counted ∙ ap (λ (r : List ℕ). length (list_of index.width r)) o in
      let p : pages-part ≡ padded (6 * length keys) (pages_of index keys) = s.listed ∙ ap (λ (r : List ℕ). padded (6 * length keys) (list_of index.width r)) o in
      let long = length_padded (6 * length keys) (pages_of index keys) (length_pages index keys) in
      record {
        feed_is = rw (e, l, c);
        order_is = rw (e, l, o, length_order index keys);
        slots_are = rw (e, l, s.fresh, length-replicate (3 * length keys) (slot (2 ^ index.width - 1) 0));
        pages_are = rw (e, l, p, long, six);
      }
