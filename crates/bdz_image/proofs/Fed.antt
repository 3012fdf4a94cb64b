-- What a feed holds from its start on: the pages it lists, what it answers to each page, and when it answers a key. Assumes nothing.
use mathlib.Core.Path.{◌≡◌, refl, sym, ap, subst, ◌∙◌}
use mathlib.Core.Bool.{Bool, true, false, cond}
use mathlib.Core.List.{List, [], ◌∷◌, ◌++◌, append_assoc}
use mathlib.Core.Logic.{◌⊎◌, inl, inr, ⊎_elim}
use Prim.Native.Nat.{ℕ, zero, suc, ◌+◌, ◌-◌, ◌*◌, ◌/◌, ◌%◌, ◌^◌, ◌≤◌, ◌<◌}
use native.Mathlib.Nat.{mod-lt}
use native.Mathlib.Omega.{arith}
use borrow.Author.Tests.{eqb-true, ne_eqb, lt-ltb, le-ltb}
use lib.Dec.{eqb}
use lib.ListN.{length, get_or, take, drop, replicate, length-replicate, length-append}
use lib.Seq.{take_at, length-take-le, get_or-take}
use Rattle.bdz_base.specs.Buffer.{tab, over}
use Rattle.bdz_base.specs.Pages.{first_page, last_page}
use Rattle.bdz_base.specs.Sizes.{table_bytes, super_count}
use Rattle.bdz_base.specs.Verts.{verts_of}
use Rattle.bdz_base.specs.declared.verts.Kind.{Kind}
use Rattle.bdz_base.specs.declared.verts.Kind.TheVariants.{Assigned, Compact}
use Rattle.bdz_base.specs.declared.verts.Verts.{Verts}
use Rattle.bdz_base.proofs.Buffers.{length_tab}
use Rattle.bdz_table.specs.Keys.{listed, graph_of}
use Rattle.bdz_table.specs.Lookup.{finished_of}
use Rattle.bdz_table.specs.Rank.{answered}
use Rattle.bdz_table.specs.declared.index.Index.{Index}
use Rattle.bdz_image.specs.Ask.{Words, missing_at, ask_no, words_of, Came}
use Rattle.bdz_image.specs.Entry.{vertex_at, entry_at}
use Rattle.bdz_image.specs.Feed.{slot, among, page_of, word_in}
use Rattle.bdz_image.specs.Feeding.{Feed, feed_m, lists_pages, feed_no, start_room, start_no, order_of, pages_of, fresh_slots, begun, feed_of, Opened, page_early, feed_page_no, PageFed, super_no, ask_room, ask_early, asked_no, asked_of}
use Rattle.bdz_image.specs.Page.{page_no, page_slots}
use Rattle.bdz_image.specs.Pages.{padded}
use Rattle.bdz_image.specs.Start.{Started}
use Rattle.bdz_image.proofs.Accepts.{given_before, not_listed}
use Rattle.bdz_image.proofs.Asks.{words_no, words_value}
use Rattle.bdz_image.proofs.Begins.{getD_tab, begins_ordered, begins_fed}
use Rattle.bdz_image.proofs.Demand.{Row, run_of, run_none, run_more, run, accepted, as_soon, not_earlier}
use Rattle.bdz_image.proofs.Feeds.{length_page_slots}
use Rattle.bdz_image.proofs.Listed.{Climbs, list_climbs, list_has, list_only}
use Rattle.bdz_image.proofs.Orders.{in_order_same, in_order_sorted}
use Rattle.bdz_image.proofs.Starting.{lists_some, feed_passed, room_passed, length_order}
use Rattle.bdz_image.proofs.Sweeps.{Ordered, Fed}

-- ---- what is said

-- pages fed one after the other, the last of the row first, each with the body's bytes
pub data Calls (index : Index) (keys : ℕ) (body order : List ℕ) : List ℕ → List ℕ → List ℕ → Type 0 where
  none : {slots : List ℕ} → Calls index keys body order [] slots slots
  call : {p number : ℕ} {ps slots before after : List ℕ} → Calls index keys body order ps slots before → PageFed index keys p (page_of body p) order before number after → Calls index keys body order (p ∷ ps) slots after

-- a key's vertices, as a feed has them
abbrev pub own_verts : Index → ℕ → Verts
own_verts index key = verts_of index.kind key index.seed (feed_m index)

-- the pages of a key's own three words are among those that came
pub record Own (index : Index) (key : ℕ) (ps : List ℕ) : Type 0 where
  pub a : Came index.width ps (own_verts index key).a
  pub b : Came index.width ps (own_verts index key).b
  pub c : Came index.width ps (own_verts index key).c

-- a page of a word of one of the keys
pub record Needed (index : Index) (keys : List ℕ) (p : ℕ) : Type 0 where
  pub key : ℕ
  pub low : key < length keys
  pub vertex : ℕ
  pub own : (vertex ≡ (own_verts index (get_or keys key 0)).a) ⊎ ((vertex ≡ (own_verts index (get_or keys key 0)).b) ⊎ (vertex ≡ (own_verts index (get_or keys key 0)).c))
  pub is : (p ≡ first_page index.width vertex) ⊎ (p ≡ last_page index.width vertex)

-- what is answered from the body's three words
abbrev pub from_body : Index → ℕ → List ℕ → List ℕ → List ℕ → ℕ
from_body index key body occ supers =
    finished_of index key (word_in index.width body (own_verts index key).a) (word_in index.width body (own_verts index key).b) (word_in index.width body (own_verts index key).c) occ supers

pub record FeedHolds (index : Index) (keys body occ order slots listed : List ℕ) : Type 0 where
  -- "rising, each once"
  pub rising : Climbs 0 listed
  -- all pages of every key's words are listed, and no others
  pub mine : (e : ℕ) → e < length keys → Own index (get_or keys e 0) listed
  pub only : (p : ℕ) → among listed p ≡ true → Needed index keys p
  -- a listed page that has not come is accepted; one that came is 16, and one not listed 15
  pub accepted : {p number : ℕ} {ps before after : List ℕ} → Row listed (p ∷ ps) → Calls index (length keys) body order ps slots before → PageFed index (length keys) p (page_of body p) order before number after → number ≡ 0
  pub again : {p number : ℕ} {ps bytes before after : List ℕ} → Row listed ps → Calls index (length keys) body order ps slots before → among listed p ≡ true → among ps p ≡ true → PageFed index (length keys) p bytes order before number after → number ≡ 16
  pub other : {p number : ℕ} {ps bytes before after : List ℕ} → Row listed ps → Calls index (length keys) body order ps slots before → among listed p ≡ false → PageFed index (length keys) p bytes order before number after → number ≡ 15
  -- a key is answered from the body's three words as soon as its own pages have come, and before that told to wait
  pub answered : {ps after : List ℕ} → Row listed ps → Calls index (length keys) body order ps slots after → (e : ℕ) → e < length keys → Own index (get_or keys e 0) ps
      → (supers : List ℕ) → (index.kind ≡ Compact → super_count index.m ≤ length supers)
      → asked_of index (length keys) keys e occ supers after ≡ record { no = 0; answer = from_body index (get_or keys e 0) body occ supers }
  pub waits : {ps after : List ℕ} → Row listed ps → Calls index (length keys) body order ps slots after → (e : ℕ) → e < length keys → (Own index (get_or keys e 0) ps → ⊥)
      → (supers : List ℕ) → (index.kind ≡ Compact → super_count index.m ≤ length supers)
      → asked_of index (length keys) keys e occ supers after ≡ record { no = 18; answer = 0 }

-- ---- what an accepted start leaves

record Underway (index : Index) (keys : List ℕ) (occ : ℕ) (order slots : List ℕ) : Type 0 where
  lists : lists_pages index (length keys) ≡ true
  checks : feed_no index (length keys) occ 0 ≡ 0
  width_some : 0 < index.width
  width_low : index.width ≤ 32
  few : length keys ≤ 2 ^ 30
  order_front : take (3 * length keys) order ≡ order_of index keys
  order_room : 3 * length keys ≤ length order
  slots_front : take (3 * length keys) slots ≡ fresh_slots index (length keys)
  slots_room : 3 * length keys ≤ length slots

-- a feed that answers 0 was not refused
pub feed_number : (index : Index) (keys : List ℕ) (number : ℕ) {feed : Feed} → feed ≡ feed_of index keys number → feed.no ≡ 0 → number ≡ 0
unfolding feed_of
feed_number index keys number {feed} q z = go (eqb number 0) refl (sym (ap (λ (f : Feed). f.no) q) ∙ z)
  where
    go : (b : Bool) → eqb number 0 ≡ b → (cond {A = Feed} b (record { no = 0; keys = length keys; pages = cond (lists_pages index (length keys)) (length (pages_of index keys)) 0 }) (record { no = number; keys = 0; pages = 0 })).no ≡ 0 → number ≡ 0
    go true t e = eqb-true number 0 t
    go false t e = e

feed_pages : (index : Index) (keys : List ℕ) {number : ℕ} {feed : Feed} → feed ≡ feed_of index keys number → number ≡ 0 → lists_pages index (length keys) ≡ true → feed.pages ≡ length (pages_of index keys)
unfolding feed_of
feed_pages index keys {number} {feed} q z l = ap (λ (f : Feed). f.pages) q ∙ rw (z, l)

begun_is : (index : Index) (keys number : ℕ) (new old : List ℕ) → lists_pages index keys ≡ true → number ≡ 0 → begun index keys number new old ≡ over new old
begun_is index keys number new old l z = rw (l, z)

-- the needed part of what is lent is the new part
front : (n : ℕ) (new old : List ℕ) {after : List ℕ} → length new ≡ n → after ≡ over new old → (take n after ≡ new) × (n ≤ length after)
front n new old {after} e q =
    (ap (take n) q ∙ take_at new (drop (length new) old) n e, omega (arith, ap length q, length-append new (drop (length new) old)))

module _ {index : Index} {keys : List ℕ} {occ : ℕ} {order₀ slots₀ pages₀ order slots pages : List ℕ} {feed : Feed} (o : Opened index keys occ order₀ slots₀ pages₀ feed order slots pages) (z : feed.no ≡ 0) (l : lists_pages index (length keys) ≡ true) where
  abbrev start_number : ℕ
  start_number = start_no index (length keys) occ (length order₀) (length slots₀) (length pages₀)

  accepted_start : start_number ≡ 0
  accepted_start = feed_number index keys start_number o.feed_is z

  underway : Underway index keys occ order slots
  underway =
      let room = start_room (length keys) (length order₀) (length slots₀) (length pages₀) in
      let r = feed_passed index (length keys) occ room l accepted_start in
      let h = room_passed (length keys) (length order₀) (length slots₀) (length pages₀) r.room_is in
      let a = front (3 * length keys) (order_of index keys) order₀ (length_order index keys) (o.order_is ∙ begun_is index (length keys) start_number (order_of index keys) order₀ l accepted_start) in
      let new = fresh_slots index (length keys) in
      let b = front (3 * length keys) new slots₀ (length-replicate (3 * length keys) (slot (2 ^ index.width - 1) 0)) (o.slots_are ∙ begun_is index (length keys) start_number new slots₀ l accepted_start) in
      record {
        lists = l;
        checks = ap (feed_no index (length keys) occ) (sym r.room_is) ∙ accepted_start;
        width_some = r.width_some;
        width_low = r.width_low;
        few = h.few;
        order_front = a.0;
        order_room = a.1;
        slots_front = b.0;
        slots_room = b.1;
      }

  listed_is : take feed.pages pages ≡ pages_of index keys
  listed_is =
      let list = pages_of index keys in
      let zeros = replicate {A = ℕ} (6 * length keys - length list) 0 in
      let new = padded (6 * length keys) list in
      let rest = drop (length new) pages₀ in
      ap (take feed.pages) (o.pages_are ∙ begun_is index (length keys) start_number new pages₀ l accepted_start ∙ append_assoc list zeros rest)
      ∙ take_at list (zeros ++ rest) feed.pages (sym (feed_pages index keys o.feed_is accepted_start l))

-- ---- the vertices

-- the three slots of a key are those of its three vertices
vertex_at_lem : (kind : Kind) (keys : List ℕ) (seed m e i : ℕ) → i < 3 → vertex_at kind keys seed m (3 * e + i) ≡ get_or (listed (verts_of kind (get_or keys e 0) seed m)) i 0
unfolding vertex_at graph_of
vertex_at_lem kind keys seed m e i h =
    let d : (3 * e + i) / 3 ≡ e = omega arith in
    let r : (3 * e + i) % 3 ≡ i = omega arith in
    rw (d, r)

-- a list of three has one of three
one_of : (v : Verts) (x i : ℕ) → i < 3 → x ≡ get_or (listed v) i 0 → (x ≡ v.a) ⊎ ((x ≡ v.b) ⊎ (x ≡ v.c))
one_of v x zero h e = inl e
one_of v x (suc zero) h e = inr (inl e)
one_of v x (suc (suc zero)) h e = inr (inr e)
one_of v x (suc (suc (suc i))) h e = absurd (omega arith)

-- ---- what is asked

ask_cases : (slots : List ℕ) (i : ℕ) → (ask_no slots i ≡ 0) ⊎ (ask_no slots i ≡ 18)
unfolding ask_no
ask_cases slots i = go (eqb (missing_at slots i) 0)
  where
    go : (t : Bool) → (cond {A = ℕ} t 0 18 ≡ 0) ⊎ (cond {A = ℕ} t 0 18 ≡ 18)
    go true = inl refl
    go false = inr refl

told : {number x y : ℕ} → number ≡ 0 → x ≡ y → answered number x ≡ record { no = 0; answer = y }
told e q = rw (e, q)

told_later : {number : ℕ} (x : ℕ) → number ≡ 18 → answered number x ≡ record { no = 18; answer = 0 }
told_later x e = rw e

supers_enough : (kind : Kind) (m supers : ℕ) → (kind ≡ Compact → super_count m ≤ supers) → super_no kind m supers 0 ≡ 0
supers_enough Assigned m supers h = refl
supers_enough Compact m supers h = rw (le-ltb supers (super_count m) (h refl))

-- three slots of the needed part are read from it
words_front : (n : ℕ) (slots : List ℕ) (i : ℕ) → 3 * i + 2 < n → words_of slots i ≡ words_of (take n slots) i
unfolding words_of
words_front n slots i h =
    rw (get_or-take n slots (3 * i) 0 (omega arith), get_or-take n slots (3 * i + 1) 0 (omega arith), get_or-take n slots (3 * i + 2) 0 h)

-- ---- a feed underway

module _ (index : Index) (keys body occ order slots : List ℕ) (u : Underway index keys (length occ) order slots) where
  abbrev vertices : List ℕ
  vertices = tab (vertex_at index.kind keys index.seed (feed_m index)) (3 * length keys)

  abbrev ran_slots : List ℕ → List ℕ
  ran_slots ps = run_of index.width (feed_m index) body (order_of index keys) ps (fresh_slots index (length keys))

  page_early_lem : (room : ℕ) → 3 * length keys ≤ room → page_early index (length keys) (length order) room ≡ 0
  unfolding page_early
  page_early_lem room h =
      let s = lists_some index (length keys) u.lists in
      let some = u.width_some in
      rw (
        s.0,
        s.1,
        ne_eqb index.width 0 (omega arith),
        le-ltb 32 index.width u.width_low,
        s.2,
        le-ltb (length order) (3 * length keys) u.order_room,
        le-ltb room (3 * length keys) h,
      )

  -- the needed part of the lent slots is what the calls make of fresh ones
  record Ran (ps after : List ℕ) : Type 0 where
    front_is : take (3 * length keys) after ≡ ran_slots ps
    room : 3 * length keys ≤ length after

  ran_more : {p number : ℕ} {ps before after : List ℕ} → Ran ps before → PageFed index (length keys) p (page_of body p) order before number after → Ran (p ∷ ps) after
  ran_more {p} {number} {ps} {before} {after} r f =
      let n = 3 * length keys in
      let new = page_slots index.width (feed_m index) p (page_of body p) (take n before) (take n order) in
      let q : after ≡ over new before = f.slots_are ∙ rw (page_early_lem (length before) r.room) in
      let long : length new ≡ n = length_page_slots index.width (feed_m index) p (page_of body p) (take n before) (take n order) ∙ length-take-le n before r.room in
      let a = front n new before long q in
      record {
        front_is = a.0 ∙ rw (r.front_is, u.order_front, run_more index.width (feed_m index) body (order_of index keys) p ps (fresh_slots index (length keys)));
        room = a.1;
      }

  ran : {ps after : List ℕ} → Calls index (length keys) body order ps slots after → Ran ps after
  ran none = record { front_is = u.slots_front ∙ sym (run_none index.width (feed_m index) body (order_of index keys) (fresh_slots index (length keys))); room = u.slots_room }
  ran (call c f) = ran_more (ran c) f

  page_number : {p number : ℕ} {ps bytes before after : List ℕ} → Ran ps before → PageFed index (length keys) p bytes order before number after → number ≡ page_no index.width (feed_m index) p (length bytes) (ran_slots ps) (order_of index keys)
  unfolding feed_page_no
  page_number {p} {number} {ps} {bytes} {before} {after} r f = f.number_is ∙ rw (page_early_lem (length before) r.room, r.front_is, u.order_front)

  started : Started index.kind keys index.seed (feed_m index) index.width (length (pages_of index keys)) (order_of index keys) (fresh_slots index (length keys)) (padded (6 * length keys) (pages_of index keys))
  started =
      let entries = tab (entry_at index.kind keys index.seed (feed_m index)) (3 * length keys) in
      record { sorted = in_order_sorted entries; same = in_order_same entries; fresh = refl; counted = refl; listed = refl }

  in_order : Ordered vertices (order_of index keys)
  in_order =
      let few = u.few in
      begins_ordered index.kind keys index.seed (feed_m index) index.width (length (pages_of index keys)) (order_of index keys) (fresh_slots index (length keys)) (padded (6 * length keys) (pages_of index keys)) started
      (omega arith)

  fed_none : Fed index.width body vertices [] (fresh_slots index (length keys))
  fed_none =
      begins_fed index.kind keys index.seed (feed_m index) index.width (length (pages_of index keys)) (order_of index keys) (fresh_slots index (length keys)) (padded (6 * length keys) (pages_of index keys)) started body u.width_low

  vertices_long : length vertices ≡ 3 * length keys
  vertices_long = length_tab (vertex_at index.kind keys index.seed (feed_m index)) (3 * length keys)

  own_at : (e i s : ℕ) → e < length keys → i < 3 → s ≡ 3 * e + i → get_or vertices s 0 ≡ get_or (listed (own_verts index (get_or keys e 0))) i 0
  own_at e i s h k q =
      ap (λ (t : ℕ). get_or vertices t 0) q
      ∙ getD_tab (vertex_at index.kind keys index.seed (feed_m index)) (3 * length keys) (3 * e + i) (omega arith)
      ∙ vertex_at_lem index.kind keys index.seed (feed_m index) e i k

  module _ (e : ℕ) (h : e < length keys) where
    at_a : get_or vertices (3 * e) 0 ≡ (own_verts index (get_or keys e 0)).a
    at_a = own_at e 0 (3 * e) h (omega arith) (omega arith)

    at_b : get_or vertices (3 * e + 1) 0 ≡ (own_verts index (get_or keys e 0)).b
    at_b = own_at e 1 (3 * e + 1) h (omega arith) refl

    at_c : get_or vertices (3 * e + 2) 0 ≡ (own_verts index (get_or keys e 0)).c
    at_c = own_at e 2 (3 * e + 2) h (omega arith) refl

    inside : 3 * e + 2 < length vertices
    inside = omega (arith, vertices_long)

    words_are : {ps after : List ℕ} → Ran ps after → words_of after e ≡ words_of (ran_slots ps) e
    words_are {ps} {after} r = cut ∙ ap (λ (s : List ℕ). words_of s e) r.front_is
      where
        cut : words_of after e ≡ words_of (take (3 * length keys) after) e
        cut = words_front (3 * length keys) after e (omega arith)

    -- whatever is lent, a key is answered from its three words in the slots, or told to wait
    asked_is : (supers : List ℕ) → (index.kind ≡ Compact → super_count index.m ≤ length supers) → (after : List ℕ) → 3 * length keys ≤ length after
        → asked_of index (length keys) keys e occ supers after
        ≡ answered (words_of after e).no (finished_of index (get_or keys e 0) (words_of after e).a (words_of after e).b (words_of after e).c occ supers)
    unfolding asked_of asked_no ask_room
    asked_is supers enough after room =
        let early : ask_early index (length keys) (length occ) (length supers) (length after) ≡ 0 = ask_early_lem (length supers) enough (length after) room in
        rw (lt-ltb e (length keys) h, early, u.lists)
      where
        ask_early_lem : (counts : ℕ) → (index.kind ≡ Compact → super_count index.m ≤ counts) → (room : ℕ) → 3 * length keys ≤ room → ask_early index (length keys) (length occ) counts room ≡ 0
        ask_early_lem counts enough room l =
            let lent : ask_room index (length keys) room counts ≡ 0 =
            rw (le-ltb (2 ^ 30) (length keys) u.few, le-ltb room (3 * length keys) l, supers_enough index.kind index.m counts enough) in
            ap (feed_no index (length keys) (length occ)) lent ∙ u.checks

    module _ (long : length body ≡ table_bytes index.width (feed_m index)) {ps after : List ℕ} (row : Row (pages_of index keys) ps) (r : Ran ps after) (supers : List ℕ) (enough : index.kind ≡ Compact → super_count index.m ≤ length supers) where
      abbrev finish : ℕ → ℕ → ℕ → ℕ
      finish a b c = finished_of index (get_or keys e 0) a b c occ supers

      asked_run : asked_of index (length keys) keys e occ supers after
          ≡ answered (words_of (ran_slots ps) e).no (finish (words_of (ran_slots ps) e).a (words_of (ran_slots ps) e).b (words_of (ran_slots ps) e).c)
      asked_run = asked_is supers enough after r.room ∙ ap (λ (w : Words). answered w.no (finish w.a w.b w.c)) (words_are r)

      key_answered : Own index (get_or keys e 0) ps → asked_of index (length keys) keys e occ supers after ≡ record { no = 0; answer = from_body index (get_or keys e 0) body occ supers }
      key_answered own =
          let s = as_soon index.width (feed_m index) body vertices [] (order_of index keys) (fresh_slots index (length keys)) u.width_some u.width_low long in_order fed_none ps row e inside finish (rw at_a own.a) (rw at_b own.b) (rw at_c own.c) in
          let value : finish (words_of (ran_slots ps) e).a (words_of (ran_slots ps) e).b (words_of (ran_slots ps) e).c ≡ from_body index (get_or keys e 0) body occ supers =
          words_value finish (ran_slots ps) e s.0 ∙ s.1 ∙ rw (at_a, at_b, at_c) in
          asked_run ∙ told (words_no (ran_slots ps) e ∙ s.0) value

      key_waits : (Own index (get_or keys e 0) ps → ⊥) → asked_of index (length keys) keys e occ supers after ≡ record { no = 18; answer = 0 }
      key_waits apart =
          ⊎_elim (λ q. absurd (apart (came q)))
          (λ q. asked_run ∙ told_later (finish (words_of (ran_slots ps) e).a (words_of (ran_slots ps) e).b (words_of (ran_slots ps) e).c) (words_no (ran_slots ps) e ∙ q)) (ask_cases (ran_slots ps) e)
        where
          came : ask_no (ran_slots ps) e ≡ 0 → Own index (get_or keys e 0) ps
          came q =
              let s = not_earlier index.width (feed_m index) body vertices [] (order_of index keys) (fresh_slots index (length keys)) u.width_some u.width_low long in_order fed_none ps row e inside q in
              record { a = rw at_a at s.0; b = rw at_b at s.1; c = rw at_c at s.2 }

  -- ---- the listed pages

  key_listed : (e : ℕ) → e < length keys → Own index (get_or keys e 0) (pages_of index keys)
  key_listed e h = record { a = rw (sym (at_a e h)) (both (3 * e) (omega arith)); b = rw (sym (at_b e h)) (both (3 * e + 1) (omega arith)); c = rw (sym (at_c e h)) (both (3 * e + 2) (omega arith)) }
    where
      both : (s : ℕ) → s < 3 * length keys → Came index.width (pages_of index keys) (get_or vertices s 0)
      both s l =
          let q = list_has index.width vertices (order_of index keys) u.width_some in_order s (omega (arith, vertices_long)) in
          record { first = q.0; last = q.1 }

  page_needed : (p : ℕ) → among (pages_of index keys) p ≡ true → Needed index keys p
  page_needed p h =
      let q = list_only index.width vertices (order_of index keys) u.width_some in_order p h in
      let s = q.index in
      let l : s < 3 * length keys = let k = q.low in omega (arith, vertices_long) in
      let key = s / 3 in
      let small : s % 3 < 3 = mod-lt s (omega arith) in
      record {
        key = key;
        low = omega arith;
        vertex = get_or vertices s 0;
        own = one_of (own_verts index (get_or keys key 0)) (get_or vertices s 0) (s % 3) small (own_at key (s % 3) s (omega arith) small (omega arith));
        is = q.is;
      }

  -- all of it, by the list of the keys' pages
  holds : length body ≡ table_bytes index.width (feed_m index) → FeedHolds index keys body occ order slots (pages_of index keys)
  holds long =
      let w = index.width in
      let m = feed_m index in
      let list = order_of index keys in
      let fresh = fresh_slots index (length keys) in
      record {
        rising = list_climbs w list;
        mine = key_listed;
        only = page_needed;
        accepted = λ {p} {number} {ps} {before} {after} row c f. page_number (ran c) f ∙ accepted w m body vertices [] list fresh u.width_some u.width_low long in_order fed_none p ps row;
        again = λ {p} {number} {ps} {bytes} {before} {after} row c l g f.
            page_number (ran c) f
            ∙ given_before w m body vertices list (ran_slots ps) ps p u.width_some u.width_low in_order (run w m body vertices [] list fresh u.width_some u.width_low long in_order fed_none ps row) bytes l g;
        other = λ {p} {number} {ps} {bytes} {before} {after} row c l f.
            page_number (ran c) f
            ∙ not_listed w m body vertices list (ran_slots ps) ps p u.width_some u.width_low in_order (run w m body vertices [] list fresh u.width_some u.width_low long in_order fed_none ps row) bytes l;
        answered = λ {ps} {after} row c e h own supers enough. key_answered e h long row (ran c) supers enough own;
        waits = λ {ps} {after} row c e h apart supers enough. key_waits e h long row (ran c) supers enough apart;
      }

-- THE FEED: after an accepted start that lists pages, over any body of the table's length
pub fed : {index : Index} {keys occ order₀ slots₀ pages₀ order slots pages : List ℕ} {feed : Feed} → Opened index keys (length occ) order₀ slots₀ pages₀ feed order slots pages → feed.no ≡ 0 → lists_pages index (length keys) ≡ true
    → (body : List ℕ) → length body ≡ table_bytes index.width (feed_m index) → FeedHolds index keys body occ order slots (take feed.pages pages)
fed {index} {keys} {occ} {order₀} {slots₀} {pages₀} {order} {slots} {pages} {feed} o z l body long =
    subst (λ (list : List ℕ). FeedHolds index keys body occ order slots list) (sym (listed_is o z l)) (holds index keys body occ order slots (underway o z l) long)
