-- The exported builds: what is read before them, and their promises from that of the build. Assumes nothing.
use mathlib.Core.Path.{◌≡◌, refl, sym, subst, ◌∙◌}
use mathlib.Core.Bool.{Bool, true, false, cond, not}
use mathlib.Core.List.{List, []}
use Prim.Native.Nat.{ℕ, ◌≤◌, zero-le}
use lib.Dec.{eqb, ltb}
use lib.ListN.{length, take}
use borrow.Author.Tests.{ltb-false, eqb-true, not-false}
use Rattle.bdz_base.specs.Buffer.{over}
use Rattle.bdz_base.specs.Refusal.{refuse}
use Rattle.bdz_base.proofs.Buffers.{length_tab}
use Rattle.bdz_table.specs.Build.{assigned_early, compact_early, assigned_table, compact_table, compact_occupancy, lengths_of, BuiltAssigned, BuiltCompact}
use Rattle.bdz_table.specs.declared.index.Built.{Built}
use Rattle.bdz_table.specs.Told.{Answer, refused_build}
use Rattle.bdz_oracle.proofs.ToldLaws.{answered_value}
use Rattle.bdz_table.specs.declared.needs.Lengths.{Lengths}
use Rattle.bdz_table.specs.declared.pairs.Pair.{Pair}
use Rattle.bdz_table.proofs.Begun.{refuse_none}
use Rattle.bdz_oracle.specs.Keys.{key_count, key_at}
use Rattle.bdz_oracle.specs.Building.{keys_in, value_count, value_at, values_in, assigned_no, compact_no, ReadAssigned, ReadCompact, settled, told_built, AssignedTold, ToldAssigned, CompactTold, ToldCompact}
use Rattle.bdz_oracle.proofs.Telling.{read_part}

-- ---- what is read has room

-- as many keys as are read
part_fits : (early count room : ℕ) → (early ≡ 0 → count ≤ room) → cond (eqb early 0) count 0 ≤ room
part_fits early count room h = go (eqb early 0) (λ e. h (eqb-true early 0 e))
  where
    go : (t : Bool) → (t ≡ true → count ≤ room) → cond t count 0 ≤ room
    go true f = f refl
    go false f = zero-le

module _ (keys values modulus key_room value_room : ℕ) (lent : Lengths) (e : assigned_no keys values modulus key_room value_room lent ≡ 0) where
  pub assigned_keys_fit : keys ≤ key_room
  unfolding assigned_no
  assigned_keys_fit = ltb-false key_room keys (refuse_none 13 (ltb key_room keys) _ e).0

  assigned_next : (ltb value_room values ≡ false) × (assigned_early keys values modulus lent ≡ 0)
  unfolding assigned_no
  assigned_next = refuse_none 13 (ltb value_room values) _ (refuse_none 13 (ltb key_room keys) _ e).1

  pub assigned_values_fit : values ≤ value_room
  assigned_values_fit = ltb-false value_room values assigned_next.0

  assigned_accepts : assigned_early keys values modulus lent ≡ 0
  assigned_accepts = assigned_next.1

  same_count : keys ≡ values
  unfolding assigned_early
  same_count = eqb-true keys values (not-false (eqb keys values) (refuse_none 0 (not (eqb keys values)) _ assigned_accepts).0)

module _ (keys key_room : ℕ) (lent : Lengths) (e : compact_no keys key_room lent ≡ 0) where
  pub compact_keys_fit : keys ≤ key_room
  unfolding compact_no
  compact_keys_fit = ltb-false key_room keys (refuse_none 13 (ltb key_room keys) _ e).0

  compact_accepts : compact_early keys lent ≡ 0
  unfolding compact_no
  compact_accepts = (refuse_none 13 (ltb key_room keys) _ e).1

module _ (keys values : List ℕ) (modulus : ℕ) (key_room value_room : List ℕ) (lent : Lengths) {r : Answer} {key_room' value_room' : List ℕ} (read : ReadAssigned (assigned_no (key_count keys) (value_count values) modulus (length key_room) (length value_room) lent) keys values key_room value_room r key_room' value_room') where
  pub assigned_key_part : r.answer ≤ length key_room
  assigned_key_part =
      subst (λ (n : ℕ). n ≤ length key_room) (sym (answered_value (assigned_no (key_count keys) (value_count values) modulus (length key_room) (length value_room) lent) (key_count keys) read.read_is))
      (part_fits _ _ _ (assigned_keys_fit (key_count keys) (value_count values) modulus (length key_room) (length value_room) lent))

  pub assigned_value_part : r.answer ≤ length value_room
  assigned_value_part =
      subst (λ (n : ℕ). n ≤ length value_room) (sym (answered_value (assigned_no (key_count keys) (value_count values) modulus (length key_room) (length value_room) lent) (key_count keys) read.read_is))
      (part_fits _ _ _ (λ e. subst (λ (n : ℕ). n ≤ length value_room) (sym (same_count (key_count keys) (value_count values) modulus (length key_room) (length value_room) lent e)) (assigned_values_fit (key_count keys) (value_count values) modulus (length key_room) (length value_room) lent e)))

module _ (keys key_room : List ℕ) (lent : Lengths) {r : Answer} {key_room' : List ℕ} (read : ReadCompact (compact_no (key_count keys) (length key_room) lent) keys key_room r key_room') where
  pub compact_key_part : r.answer ≤ length key_room
  compact_key_part =
      subst (λ (n : ℕ). n ≤ length key_room) (sym (answered_value (compact_no (key_count keys) (length key_room) lent) (key_count keys) read.read_is))
      (part_fits _ _ _ (compact_keys_fit (key_count keys) (length key_room) lent))

-- ---- what is judged, and what is read by it

pub assigned_judged : (keys values modulus key_room value_room : ℕ) (lent : Lengths) {early judged number : ℕ} → early ≡ assigned_early keys values modulus lent → judged ≡ refuse 14 (ltb value_room values) early → number ≡ refuse 14 (ltb key_room keys) judged → number ≡ assigned_no keys values modulus key_room value_room lent
unfolding assigned_no
assigned_judged keys values modulus key_room value_room lent e j n = rw (← e, ← j) n

pub compact_judged : (keys key_room : ℕ) (lent : Lengths) {early number : ℕ} → early ≡ compact_early keys lent → number ≡ refuse 14 (ltb key_room keys) early → number ≡ compact_no keys key_room lent
unfolding compact_no
compact_judged keys key_room lent e n = rw (← e) n

module _ (early : ℕ) (keys values key_room value_room : List ℕ) {number : ℕ} (e : number ≡ early) where
  pub assigned_unread : eqb number 0 ≡ false → ReadAssigned early keys values key_room value_room (record { no = number; answer = 0 }) key_room value_room
  assigned_unread h = record { read_is = rw (← e, h); key_room_is = rw (← e, h); value_room_is = rw (← e, h) }

  pub assigned_read : {key_room' value_room' : List ℕ} → number ≡ 0 → key_room' ≡ over (keys_in keys) key_room → value_room' ≡ over (values_in values) value_room → ReadAssigned early keys values key_room value_room (record { no = 0; answer = key_count keys }) key_room' value_room'
  assigned_read z k v = let q = sym e ∙ z in record { read_is = rw q; key_room_is = rw q k; value_room_is = rw q v }

module _ (early : ℕ) (keys key_room : List ℕ) {number : ℕ} (e : number ≡ early) where
  pub compact_unread : eqb number 0 ≡ false → ReadCompact early keys key_room (record { no = number; answer = 0 }) key_room
  compact_unread h = record { read_is = rw (← e, h); key_room_is = rw (← e, h) }

  pub compact_read : {key_room' : List ℕ} → number ≡ 0 → key_room' ≡ over (keys_in keys) key_room → ReadCompact early keys key_room (record { no = 0; answer = key_count keys }) key_room'
  compact_read z k = let q = sym e ∙ z in record { read_is = rw q; key_room_is = rw q k }

-- ---- the promises

-- what is lent to an assigned build
module _ (keys values : List ℕ) (modulus : ℕ) (key_room value_room table degrees xors queue : List ℕ) (order : List Pair) (marks seen : List ℕ) where
  module _ (early : ℕ) {r : Answer} {key_room' value_room' table' degrees' xors' queue' : List ℕ} {order' : List Pair} {marks' seen' answer' : List ℕ} {built : Built}
      (read : ReadAssigned early keys values key_room value_room r key_room' value_room')
      (from : BuiltAssigned (take r.answer key_room') (take r.answer value_room') modulus table degrees xors queue order marks seen built table' degrees' xors' queue' order' marks' seen')
      (told : answer' ≡ told_built (settled r.no built)) where
    -- the early checks refuse: the build of no keys has touched nothing
    assigned_refused : eqb early 0 ≡ false → AssignedTold early keys values modulus key_room value_room table degrees xors queue order marks seen key_room' value_room' table' degrees' xors' queue' order' marks' seen' answer'
    unfolding assigned_early assigned_table
    assigned_refused h =
        let is = rw h at read.read_is in
        let none = rw is at from in
        let to = none.to in
        record {
          built = refused_build early;
          key_room_is = read.key_room_is;
          value_room_is = read.value_room_is;
          is_built = record {
            to = record {
              answer_is = rw (h, h);
              table_is = rw (h, h) to.table_is;
              degrees_are = rw h to.degrees_are;
              xors_are = rw h to.xors_are;
              queue_is = rw h to.queue_is;
              order_is = rw h to.order_is;
              marks_are = rw h to.marks_are;
            };
            seen_is = rw h none.seen_is;
          };
          answer_is = rw h at (rw is at told);
        }

    -- they accept: the build is that of the keys and the values
    assigned_built : early ≡ 0 → assigned_early (key_count keys) (value_count values) modulus (lengths_of table degrees xors queue order marks [] seen) ≡ 0 → key_count keys ≡ value_count values → AssignedTold early keys values modulus key_room value_room table degrees xors queue order marks seen key_room' value_room' table' degrees' xors' queue' order' marks' seen' answer'
    assigned_built z accepts same =
        let is = rw z at read.read_is in
        let k = read_part (key_at keys) (key_count keys) key_room (rw z at read.key_room_is) in
        let v = subst (λ (n : ℕ). take n value_room' ≡ values_in values) (sym same) (read_part (value_at values) (value_count values) value_room (rw z at read.value_room_is)) in
        let of-them = rw (is, k, v) at from in
        let same-early : assigned_early (length (keys_in keys)) (length (values_in values)) modulus (lengths_of table degrees xors queue order marks [] seen) ≡ early = rw (length_tab (key_at keys) (key_count keys), length_tab (value_at values) (value_count values), z) accepts in
        record {
          built = built;
          key_room_is = read.key_room_is;
          value_room_is = read.value_room_is;
          is_built = rw same-early at of-them;
          answer_is = rw is at told;
        }

    assigned_by : (early ≡ 0 → assigned_early (key_count keys) (value_count values) modulus (lengths_of table degrees xors queue order marks [] seen) ≡ 0) → (early ≡ 0 → key_count keys ≡ value_count values) → AssignedTold early keys values modulus key_room value_room table degrees xors queue order marks seen key_room' value_room' table' degrees' xors' queue' order' marks' seen' answer'
    assigned_by accepts same = go (eqb early 0) refl
      where
        go : (t : Bool) → eqb early 0 ≡ t → AssignedTold early keys values modulus key_room value_room table degrees xors queue order marks seen key_room' value_room' table' degrees' xors' queue' order' marks' seen' answer'
        go false h = assigned_refused h
        go true h = let z = eqb-true early 0 h in assigned_built z (accepts z) (same z)

  pub assigned_told : {r : Answer} {key_room' value_room' table' degrees' xors' queue' : List ℕ} {order' : List Pair} {marks' seen' answer' : List ℕ} {built : Built}
      → ReadAssigned (assigned_no (key_count keys) (value_count values) modulus (length key_room) (length value_room) (lengths_of table degrees xors queue order marks [] seen)) keys values key_room value_room r key_room' value_room'
      → BuiltAssigned (take r.answer key_room') (take r.answer value_room') modulus table degrees xors queue order marks seen built table' degrees' xors' queue' order' marks' seen'
      → answer' ≡ told_built (settled r.no built) → ToldAssigned keys values modulus key_room value_room table degrees xors queue order marks seen key_room' value_room' table' degrees' xors' queue' order' marks' seen' answer'
  assigned_told read from told = assigned_by (assigned_no (key_count keys) (value_count values) modulus (length key_room) (length value_room) (lengths_of table degrees xors queue order marks [] seen)) read from told (assigned_accepts (key_count keys) (value_count values) modulus (length key_room) (length value_room) (lengths_of table degrees xors queue order marks [] seen)) (same_count (key_count keys) (value_count values) modulus (length key_room) (length value_room) (lengths_of table degrees xors queue order marks [] seen))

-- what is lent to a compact build
module _ (keys key_room table occupancy degrees xors queue : List ℕ) (order : List Pair) (marks : List ℕ) where
  module _ (early : ℕ) {r : Answer} {key_room' table' occupancy' degrees' xors' queue' : List ℕ} {order' : List Pair} {marks' answer' : List ℕ} {built : Built}
      (read : ReadCompact early keys key_room r key_room')
      (from : BuiltCompact (take r.answer key_room') table occupancy degrees xors queue order marks built table' occupancy' degrees' xors' queue' order' marks')
      (told : answer' ≡ told_built (settled r.no built)) where
    -- the early checks refuse: the build of no keys has touched nothing
    compact_refused : eqb early 0 ≡ false → CompactTold early keys key_room table occupancy degrees xors queue order marks key_room' table' occupancy' degrees' xors' queue' order' marks' answer'
    unfolding compact_early compact_table compact_occupancy
    compact_refused h =
        let is = rw h at read.read_is in
        let none = rw is at from in
        let to = none.to in
        record {
          built = refused_build early;
          key_room_is = read.key_room_is;
          is_built = record {
            to = record {
              answer_is = rw (h, h);
              table_is = rw (h, h) to.table_is;
              degrees_are = rw h to.degrees_are;
              xors_are = rw h to.xors_are;
              queue_is = rw h to.queue_is;
              order_is = rw h to.order_is;
              marks_are = rw h to.marks_are;
            };
            occupancy_is = rw (h, h) none.occupancy_is;
          };
          answer_is = rw h at (rw is at told);
        }

    -- they accept: the build is that of the keys
    compact_built : early ≡ 0 → compact_early (key_count keys) (lengths_of table degrees xors queue order marks occupancy []) ≡ 0 → CompactTold early keys key_room table occupancy degrees xors queue order marks key_room' table' occupancy' degrees' xors' queue' order' marks' answer'
    compact_built z accepts =
        let is = rw z at read.read_is in
        let k = read_part (key_at keys) (key_count keys) key_room (rw z at read.key_room_is) in
        let of-them = rw (is, k) at from in
        let same-early : compact_early (length (keys_in keys)) (lengths_of table degrees xors queue order marks occupancy []) ≡ early = rw (length_tab (key_at keys) (key_count keys), z) accepts in
        record {
          built = built;
          key_room_is = read.key_room_is;
          is_built = rw same-early at of-them;
          answer_is = rw is at told;
        }

    compact_by : (early ≡ 0 → compact_early (key_count keys) (lengths_of table degrees xors queue order marks occupancy []) ≡ 0) → CompactTold early keys key_room table occupancy degrees xors queue order marks key_room' table' occupancy' degrees' xors' queue' order' marks' answer'
    compact_by accepts = go (eqb early 0) refl
      where
        go : (t : Bool) → eqb early 0 ≡ t → CompactTold early keys key_room table occupancy degrees xors queue order marks key_room' table' occupancy' degrees' xors' queue' order' marks' answer'
        go false h = compact_refused h
        go true h = let z = eqb-true early 0 h in compact_built z (accepts z)

  pub compact_told : {r : Answer} {key_room' table' occupancy' degrees' xors' queue' : List ℕ} {order' : List Pair} {marks' answer' : List ℕ} {built : Built}
      → ReadCompact (compact_no (key_count keys) (length key_room) (lengths_of table degrees xors queue order marks occupancy [])) keys key_room r key_room'
      → BuiltCompact (take r.answer key_room') table occupancy degrees xors queue order marks built table' occupancy' degrees' xors' queue' order' marks'
      → answer' ≡ told_built (settled r.no built) → ToldCompact keys key_room table occupancy degrees xors queue order marks key_room' table' occupancy' degrees' xors' queue' order' marks' answer'
  compact_told read from told = compact_by (compact_no (key_count keys) (length key_room) (lengths_of table degrees xors queue order marks occupancy [])) read from told (compact_accepts (key_count keys) (length key_room) (lengths_of table degrees xors queue order marks occupancy []))
