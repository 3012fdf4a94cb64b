-- Keys and values read from their bytes, the words of an answer, and the returns of the exported lookup, start of a feed and list. Assumes nothing.
use Rattle.std.proofs.Common.{◌≡◌, refl, sym, ap, ◌∙◌, Bool, true, false, cond, List, [], ◌∷◌, ℕ, ◌+◌, ◌-◌, ◌*◌, ◌≤◌}
use Rattle.std.proofs.Common.{min, add-zero, arith, eqb, ltb, length, set, take, drop, take_at, ltb-false}
use Rattle.bdz_base.specs.Buffer.{tab, over, written}
use Rattle.bdz_base.specs.Pack.{bits_at}
use Rattle.bdz_base.specs.Refusal.{refuse}
use Rattle.bdz_base.proofs.Buffers.{length_tab}
use Rattle.bdz_base.proofs.Digits.{bits_part}
use Rattle.bdz_table.specs.Lookup.{lookup_no, LookedUp}
use Rattle.bdz_table.specs.declared.index.Index.{Index}
use Rattle.bdz_table.proofs.Begun.{refuse_none}
use Rattle.bdz_image.specs.Feeding.{Feed, lists_pages, start_no, order_of, pages_of, fresh_slots, feed_of, Opened}
use Rattle.bdz_image.specs.Pages.{padded}
use Rattle.bdz_oracle.specs.Keys.{key_count, key_at}
use Rattle.bdz_oracle.specs.Building.{value_at, keys_in}
use Rattle.bdz_oracle.specs.Feeding.{started_no, told_feed, ToldStart}
use Rattle.bdz_oracle.specs.Looking.{look_no, ToldLookup}

-- key i is read from its own eight bytes
pub key_here : (bytes : List ℕ) (i : ℕ) {x : ℕ} → x ≡ bits_at 64 (take (i * 8 + 8 - i * 8) (drop (i * 8) bytes)) (0 * 8) → x ≡ key_at bytes i
unfolding key_at
key_here bytes i e =
    let l : i * 8 + 8 - i * 8 ≡ 8 = omega arith in
    rw (l, bits_part 64 8 (i * 8) 0 bytes (omega arith), add-zero (i * 8 * 8)) at e

-- value i from its own four
pub value_here : (bytes : List ℕ) (i : ℕ) {x : ℕ} → x ≡ bits_at (min 32 32) (take (i * 4 + 4 - i * 4) (drop (i * 4) bytes)) 0 → x ≡ value_at bytes i
unfolding value_at
value_here bytes i e =
    let l : i * 4 + 4 - i * 4 ≡ 4 = omega arith in
    rw (l, bits_part 32 4 (i * 4) 0 bytes (omega arith), add-zero (i * 4 * 8)) at e

-- the one of an ask
pub one : (old : List ℕ) {a : ℕ} → 1 ≤ length old → set old 0 a ≡ over (a ∷ []) old
one [] h = absurd (omega arith)
one (x ∷ old) h = refl

-- the two of an audit and of a start
pub two : (old : List ℕ) {a b : ℕ} → 2 ≤ length old → set (set old 0 a) 1 b ≡ over (a ∷ b ∷ []) old
two [] h = absurd (omega arith)
two (x ∷ []) h = absurd (omega arith)
two (x ∷ y ∷ old) h = refl

-- the three of a list
pub three : (old : List ℕ) {a b c : ℕ} → 3 ≤ length old → set (set (set old 0 a) 1 b) 2 c ≡ over (a ∷ b ∷ c ∷ []) old
three [] h = absurd (omega arith)
three (x ∷ []) h = absurd (omega arith)
three (x ∷ y ∷ []) h = absurd (omega arith)
three (x ∷ y ∷ z ∷ old) h = refl

-- what was read is lent on
pub read_part : (f : ℕ → ℕ) (n : ℕ) (old : List ℕ) {after : List ℕ} → after ≡ over (tab f n) old → take n after ≡ tab f n
read_part f n old e = rw e (take_at (tab f n) (drop (length (tab f n)) old) n (length_tab f n))

-- where the judge accepts, the words have room, and it has accepted what comes after them
pub roomy : (room words next : ℕ) {number : ℕ} → number ≡ refuse 14 (ltb room words) next → number ≡ 0 → words ≤ room
roomy room words next e z = ltb-false room words (refuse_none 13 (ltb room words) next (sym e ∙ z)).0

-- ---- lookups, by what was judged

module _ (index : Index) (bytes table occ supers key_room out : List ℕ) {judged number : ℕ} (j : judged ≡ lookup_no index (key_count bytes) (length table) (length occ) (length supers) (length out)) (e : number ≡ refuse 14 (ltb (length key_room) (key_count bytes)) judged) where
  judged_is : number ≡ look_no index bytes table occ supers key_room out
  unfolding look_no
  judged_is = rw (← j) e

  -- the lookup that touches nothing
  pub no_lookup : eqb number 0 ≡ false → ToldLookup index bytes table occ supers key_room out number key_room out
  no_lookup h = record { number_is = judged_is; key_room_is = rw h; out_is = rw h }

  -- and the one that is told
  pub some_lookup : {key_room' out' : List ℕ} {answered : ℕ} → number ≡ 0 → key_room' ≡ over (keys_in bytes) key_room → LookedUp index (take (key_count bytes) key_room') table occ supers out answered out' → ToldLookup index bytes table occ supers key_room out answered key_room' out'
  some_lookup z k l =
      let count = length_tab (key_at bytes) (key_count bytes) in
      let none = sym j ∙ (refuse_none 13 (ltb (length key_room) (key_count bytes)) judged (sym e ∙ z)).1 in
      let looked = rw (read_part (key_at bytes) (key_count bytes) key_room k) at l in
      let zero = rw (count, none) at looked.number_is in
      record { number_is = zero ∙ sym z ∙ judged_is; key_room_is = rw zero k; out_is = rw (zero, count) (rw (count, none) at looked.after_is) }

-- ---- feeds, likewise

-- what a refused start leaves of a feed's buffer
left_alone : (lists : Bool) (number : ℕ) (new old : List ℕ) → eqb number 0 ≡ false → old ≡ cond lists (written number new old) old
left_alone true number new old h = rw h
left_alone false number new old h = refl

module _ (index : Index) (bytes : List ℕ) (occ : ℕ) (key_room order slots pages told : List ℕ) where
  -- a start that touches only what is told
  pub no_start : {told' : List ℕ} (number : ℕ) → number ≡ started_no index bytes occ key_room order slots pages told → eqb number 0 ≡ false → told' ≡ cond (ltb (length told) 2) told (over (0 ∷ 0 ∷ []) told)
      → ToldStart index bytes occ key_room order slots pages told number key_room order slots pages told'
  unfolding feed_of
  no_start number e h f =
      let lists = lists_pages index (key_count bytes) in
      record {
        number_is = e;
        key_room_is = rw h;
        order_is = left_alone lists number (order_of index (keys_in bytes)) order h;
        slots_are = left_alone lists number (fresh_slots index (key_count bytes)) slots h;
        pages_are = left_alone lists number (padded (6 * key_count bytes) (pages_of index (keys_in bytes))) pages h;
        told_is = rw h f;
      }

  -- the one that has no room to tell
  pub none_told : ltb (length told) 2 ≡ true → ToldStart index bytes occ key_room order slots pages told 14 key_room order slots pages told
  unfolding started_no
  none_told h = no_start 14 (rw h) refl (rw h)

  module _ {judged number : ℕ} (room : ltb (length told) 2 ≡ false) (j : judged ≡ start_no index (key_count bytes) occ (length order) (length slots) (length pages)) (e : number ≡ refuse 14 (ltb (length key_room) (key_count bytes)) judged) where
    started_is : number ≡ started_no index bytes occ key_room order slots pages told
    unfolding started_no
    started_is = rw (room, ← j) e

    pub refused_start : {told' : List ℕ} → eqb number 0 ≡ false → told' ≡ over (0 ∷ 0 ∷ []) told → ToldStart index bytes occ key_room order slots pages told number key_room order slots pages told'
    refused_start h f = no_start number started_is h (rw room f)

    -- and the one that is told
    pub some_start : {key_room' order' slots' pages' told' : List ℕ} {feed : Feed} → number ≡ 0 → key_room' ≡ over (keys_in bytes) key_room → Opened index (take (key_count bytes) key_room') occ order slots pages feed order' slots' pages'
        → told' ≡ over (told_feed feed) told → ToldStart index bytes occ key_room order slots pages told feed.no key_room' order' slots' pages' told'
    unfolding feed_of
    some_start z k o f =
        let count = length_tab (key_at bytes) (key_count bytes) in
        let none = sym j ∙ (refuse_none 13 (ltb (length key_room) (key_count bytes)) judged (sym e ∙ z)).1 in
        let opened = rw (read_part (key_at bytes) (key_count bytes) key_room k) at o in
        let is = rw (count, none) at opened.feed_is in
        let zero = ap (λ (x : Feed). x.no) is in
        record {
          number_is = zero ∙ sym z ∙ started_is;
          key_room_is = rw zero k;
          order_is = rw (zero, count) (rw (count, none) at opened.order_is);
          slots_are = rw zero (rw (count, none) at opened.slots_are);
          pages_are = rw (zero, count) (rw (count, none) at opened.pages_are);
          told_is = rw (room, zero, count) (f ∙ ap (λ (x : Feed). over (told_feed x) told) is);
        }
