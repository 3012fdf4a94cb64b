-- DEMAND 3, whole: of what is built and written every cut file is refused and the whole one opens, and a feed over it answers each
-- built key as soon as its own pages have come, for every number of keys. Assumes nothing.
use mathlib.Core.Path.{◌≡◌, refl, sym, ap, ◌∙◌}
use mathlib.Core.Bool.{Bool, true, false, cond}
use mathlib.Core.List.{List, [], ◌∷◌, ◌++◌, append-nil}
use mathlib.Core.Logic.{⊎_elim}
use Prim.Native.Nat.{ℕ, suc, ◌+◌, ◌*◌, ◌^◌, ◌≤◌, ◌<◌}
use native.Mathlib.Nat.{mul-le-mul_right, suc-mul, min-eq_left}
use native.Mathlib.Omega.{arith}
use borrow.Author.Tests.{eqb-true, eqb-false, ne_eqb, lt-ltb, le-ltb}
use lib.Dec.{eqb, ltb}
use lib.ListN.{length, get_or, take, drop, length-append, length-drop}
use lib.Seq.{length-take-le}
use Rattle.bdz_base.specs.Buffer.{written}
use Rattle.bdz_base.specs.Pack.{bits_at, word_at}
use Rattle.bdz_base.specs.Refusal.{refuse, accept}
use Rattle.bdz_base.specs.Sizes.{table_bytes, occupancy_bytes, super_count}
use Rattle.bdz_base.specs.Verts.{Below, verts_of}
use Rattle.bdz_base.specs.declared.verts.Kind.{Kind}
use Rattle.bdz_base.specs.declared.verts.Kind.TheVariants.{Assigned, Compact}
use Rattle.bdz_base.specs.declared.verts.Verts.{Verts}
use Rattle.bdz_base.proofs.Buffers.{length_tab}
use Rattle.bdz_base.proofs.Digits.{bits_drop, bits_part}
use Rattle.bdz_base.proofs.VertexLaws.{vertices_below}
use Rattle.bdz_base.proofs.WidthLaws.{width_pos}
use Rattle.bdz_table.specs.Build.{vertices_for, width_for, index_for, compact_occupancy, assigned_table, compact_table, lengths_of, BuiltAssigned, BuiltCompact}
use Rattle.bdz_table.specs.Graph.{has}
use Rattle.bdz_table.specs.Lookup.{few_answer, answer_of}
use Rattle.bdz_table.specs.Rank.{super_at, super_counts, supers_no, SuperCounted}
use Rattle.bdz_table.specs.declared.index.Index.{Index}
use Rattle.bdz_table.specs.declared.pairs.Pair.{Pair}
use Rattle.bdz_table.proofs.Answered.{OnceEach, assigned_slots, compact_slot, compact_slots, occupancy_long}
use Rattle.bdz_table.proofs.Fold.{clash}
use Rattle.bdz_table.proofs.Has.{lt_or_ge}
use Rattle.bdz_table.proofs.Passed.{supers_accepted, few_answer_lem, finish_few, finish_many}
use Rattle.bdz_table.specs.declared.index.Built.{Built}
use Rattle.bdz_image.specs.Feed.{page_of, word_in}
use Rattle.bdz_image.specs.Feeding.{Feed, feed_m, lists_none, lists_pages, occupancy_no, feed_no, start_room, start_no, feed_of, Opened, PageFed, ask_room, asked_no, asked_of}
use Rattle.bdz_image.specs.Image.{image_of, image_len}
use Rattle.bdz_image.specs.Open.{open_file}
use Rattle.bdz_image.specs.Write.{Wrote}
use Rattle.bdz_image.proofs.Cut.{WrittenImage, assigned_cut, compact_cut, occupancy_in}
use Rattle.bdz_image.proofs.Demand.{Row, next}
use Rattle.bdz_image.proofs.Fed.{Calls, own_verts, Own, from_body, FeedHolds, feed_number, fed}
use Rattle.bdz_image.proofs.Judged.{width_fits, all_words}
use Rattle.bdz_image.proofs.Made.{Made, kinds, assigned_gives, assigned_made, compact_gives, compact_made}

-- ---- what is said

-- the packed table of a file
abbrev pub body_in : Index → List ℕ → List ℕ
body_in index file = take (table_bytes index.width index.m) (drop 32 file)

-- the feed over a file: for whatever keys are asked for, key number e of the built ones is answered what `slot` says, as soon as its own
-- pages have come, and before that is told to wait
pub record Answers (index : Index) (keys file occ supers : List ℕ) (slot : ℕ → ℕ) : Type 0 where
  -- a start with room for at most 2^30 keys is accepted
  pub starts : {asked order₀ slots₀ pages₀ order slots pages : List ℕ} {feed : Feed} → Opened index asked (length occ) order₀ slots₀ pages₀ feed order slots pages
      → length asked ≤ 2 ^ 30 → 3 * length asked ≤ length order₀ → 3 * length asked ≤ length slots₀ → 6 * length asked ≤ length pages₀ → feed.no ≡ 0
  -- each listed page that has not come is accepted
  pub accepted : {asked order₀ slots₀ pages₀ order slots pages : List ℕ} {feed : Feed} → Opened index asked (length occ) order₀ slots₀ pages₀ feed order slots pages → feed.no ≡ 0
      → {p number : ℕ} {ps before after : List ℕ} → Row (take feed.pages pages) (p ∷ ps) → Calls index (length asked) (body_in index file) order ps slots before
      → PageFed index (length asked) p (page_of (body_in index file) p) order before number after → number ≡ 0
  -- where pages are listed, all those of each key are, and the rest of what a feed holds
  pub listed : {asked order₀ slots₀ pages₀ order slots pages : List ℕ} {feed : Feed} → Opened index asked (length occ) order₀ slots₀ pages₀ feed order slots pages → feed.no ≡ 0
      → lists_pages index (length asked) ≡ true → (j : ℕ) → j < length asked → Own index (get_or asked j 0) (take feed.pages pages)
  pub holds : {asked order₀ slots₀ pages₀ order slots pages : List ℕ} {feed : Feed} → Opened index asked (length occ) order₀ slots₀ pages₀ feed order slots pages → feed.no ≡ 0
      → lists_pages index (length asked) ≡ true → FeedHolds index asked (body_in index file) occ order slots (take feed.pages pages)
  -- a built key is answered as soon as its own pages have come; where no pages are listed it waits for none
  pub told : {asked order₀ slots₀ pages₀ order slots pages : List ℕ} {feed : Feed} → Opened index asked (length occ) order₀ slots₀ pages₀ feed order slots pages → feed.no ≡ 0
      → {ps after : List ℕ} → Row (take feed.pages pages) ps → Calls index (length asked) (body_in index file) order ps slots after
      → (j e : ℕ) → j < length asked → e < length keys → get_or asked j 0 ≡ get_or keys e 0 → (lists_pages index (length asked) ≡ true → Own index (get_or asked j 0) ps)
      → asked_of index (length asked) asked j occ supers after ≡ record { no = 0; answer = slot e }
  -- and before that, as any key, is told to wait
  pub waits : {asked order₀ slots₀ pages₀ order slots pages : List ℕ} {feed : Feed} → Opened index asked (length occ) order₀ slots₀ pages₀ feed order slots pages → feed.no ≡ 0
      → {ps after : List ℕ} → Row (take feed.pages pages) ps → Calls index (length asked) (body_in index file) order ps slots after
      → (j : ℕ) → j < length asked → ((lists_pages index (length asked) ≡ true → Own index (get_or asked j 0) ps) → ⊥)
      → asked_of index (length asked) asked j occ supers after ≡ record { no = 18; answer = 0 }

pub record Demand3 (kind : Kind) (index : Index) (keys occ supers : List ℕ) (slot : ℕ → ℕ) (number : ℕ) (file : List ℕ) : Type 0 where
  pub written : number ≡ 0
  pub cut : (k : ℕ) → k < image_len index → (open_file kind (take k file)).no ≡ 0 → ⊥
  pub opens : open_file kind file ≡ record { no = 0; index = index }
  pub answers : Answers index keys file occ supers slot

-- ---- a file with all that a feed asks for

record Filed (index : Index) (keys file occ supers : List ℕ) (slot : ℕ → ℕ) : Type 0 where
  count : index.n ≡ length keys
  one : index.n ≡ 1 → index.m ≡ 1
  more : 2 ≤ index.n → (0 < index.m) × (0 < index.modulus)
  width_some : 0 < index.width
  width_low : index.width ≤ 32
  occ_room : index.kind ≡ Compact → occupancy_bytes index.m ≤ length occ
  supers_room : index.kind ≡ Compact → super_count index.m ≤ length supers
  long : length (body_in index file) ≡ table_bytes index.width index.m
  table : List ℕ
  words : (v : ℕ) → v < index.m → word_in index.width (body_in index file) v ≡ get_or table v 0
  slots : (e : ℕ) → e < length keys → answer_of index table occ supers (get_or keys e 0) ≡ slot e

-- ---- the feed's number

occupancy_clear : (kind : Kind) (m occ room : ℕ) → (kind ≡ Compact → occupancy_bytes m ≤ occ) → room ≡ 0 → occupancy_no kind m occ room ≡ 0
occupancy_clear Assigned m occ room h z = z
occupancy_clear Compact m occ room h z = rw (le-ltb occ (occupancy_bytes m) (h refl)) z

start_clear : (keys order slots pages : ℕ) → keys ≤ 2 ^ 30 → 3 * keys ≤ order → 3 * keys ≤ slots → 6 * keys ≤ pages → start_room keys order slots pages ≡ 0
unfolding start_room
start_clear keys order slots pages a b c d = rw (le-ltb (2 ^ 30) keys a, le-ltb order (3 * keys) b, le-ltb slots (3 * keys) c, le-ltb pages (6 * keys) d)

feed_zero : (index : Index) (keys : List ℕ) {number : ℕ} {feed : Feed} → feed ≡ feed_of index keys number → number ≡ 0 → feed.no ≡ 0
unfolding feed_of
feed_zero index keys {number} {feed} q z = ap (λ (f : Feed). f.no) q ∙ rw z

-- where no pages are listed there are none
feed_unlisted : (index : Index) (keys : List ℕ) {number : ℕ} {feed : Feed} → feed ≡ feed_of index keys number → number ≡ 0 → lists_pages index (length keys) ≡ false → feed.pages ≡ 0
unfolding feed_of
feed_unlisted index keys {number} {feed} q z l = ap (λ (f : Feed). f.pages) q ∙ rw (z, l)

row_none : {p : ℕ} {ps : List ℕ} {A : Type 0} → Row [] (p ∷ ps) → A
unfolding has
row_none (next l n r) = clash l refl

-- what is not listed for keys that there are is one key of the compact kind
unlisted : (index : Index) (keys : ℕ) → lists_pages index keys ≡ false → (keys ≡ 0 → ⊥) → (index.n ≡ 0 → ⊥) → (index.kind ≡ Compact) × (index.n ≡ 1)
unfolding lists_pages
unlisted index keys l some there = kind_is index.kind index.n (none (lists_none index.kind index.n) (rw (ne_eqb keys 0 some, ne_eqb index.n 0 there) at l))
  where
    none : (b : Bool) → cond b false true ≡ false → b ≡ true
    none true e = refl
    none false e = clash refl e

    kind_is : (kind : Kind) (n : ℕ) → lists_none kind n ≡ true → (kind ≡ Compact) × (n ≡ 1)
    kind_is Assigned n e = clash e refl
    kind_is Compact n e = (refl, eqb-true n 1 e)

by_cases : (b : Bool) {A : Type 0} → (b ≡ true → A) → (b ≡ false → A) → A
by_cases true f g = f refl
by_cases false f g = g refl

-- ---- the answers

module _ {index : Index} {keys file occ supers : List ℕ} {slot : ℕ → ℕ} (f : Filed index keys file occ supers slot) where
  abbrev body : List ℕ
  body = body_in index file

  feed_m_lem : feed_m index ≡ index.m
  feed_m_lem = go (eqb index.n 1) refl
    where
      go : (b : Bool) → eqb index.n 1 ≡ b → cond b 1 index.m ≡ index.m
      go true t = sym (f.one (eqb-true index.n 1 t))
      go false t = refl

  body_long : length body ≡ table_bytes index.width (feed_m index)
  body_long = f.long ∙ ap (table_bytes index.width) (sym feed_m_lem)

  -- the checks pass for whatever keys, if there is room where it is looked at
  checks : (asked room : ℕ) → (lists_pages index asked ≡ true → room ≡ 0) → feed_no index asked (length occ) room ≡ 0
  unfolding feed_no lists_pages
  checks asked room r = go (eqb asked 0) (eqb index.n 0) (lists_none index.kind index.n) refl r
    where
      last : ℕ
      last =
          cond (eqb index.n 1) room
          (refuse 11 (eqb index.m 0)
          (refuse 11 (eqb index.modulus 0)
          (occupancy_no index.kind index.m (length occ) room)))

      rest : eqb index.n 0 ≡ false → room ≡ 0 → last ≡ 0
      rest e z = by (eqb index.n 1) refl
        where
          by : (b : Bool) → eqb index.n 1 ≡ b → cond b room (refuse 11 (eqb index.m 0) (refuse 11 (eqb index.modulus 0) (occupancy_no index.kind index.m (length occ) room))) ≡ 0
          by true t = z
          by false t =
              let a : index.n ≡ 0 → ⊥ = eqb-false index.n 0 e in
              let b : index.n ≡ 1 → ⊥ = eqb-false index.n 1 t in
              let p = f.more (omega arith) in
              rw (ne_eqb index.m 0 (omega (arith, p.0)), ne_eqb index.modulus 0 (omega (arith, p.1)))
              (occupancy_clear index.kind index.m (length occ) room f.occ_room z)

      go : (a b c : Bool) → eqb index.n 0 ≡ b → (cond a false (cond b false (cond c false true)) ≡ true → room ≡ 0)
          → accept a (accept b (refuse 10 (eqb index.width 0) (refuse 10 (ltb 32 index.width) (accept c last)))) ≡ 0
      go true b c e r = refl
      go false true c e r = refl
      go false false true e r = rw (ne_eqb index.width 0 (omega (arith, f.width_some)), le-ltb 32 index.width f.width_low)
      go false false false e r = rw (ne_eqb index.width 0 (omega (arith, f.width_some)), le-ltb 32 index.width f.width_low) (rest e (r refl))

  -- there are words, if there are keys
  some_words : (index.n ≡ 0 → ⊥) → 0 < index.m
  some_words there = ⊎_elim (λ l. let e : index.n ≡ 1 = omega arith in omega (arith, f.one e)) (λ l. (f.more l).0) (lt_or_ge index.n 2)

  -- a key's three words in the body are those of the table, so it is answered what a lookup answers
  from_body_lem : (index.n ≡ 0 → ⊥) → (key : ℕ) → from_body index key body occ supers ≡ answer_of index f.table occ supers key
  from_body_lem there key = ⊎_elim few many (lt_or_ge index.n 2)
    where
      own : Verts
      own = verts_of index.kind key index.seed index.m

      below : Below index.m own
      below = vertices_below index.kind key index.seed index.m (some_words there)

      at_a : word_in index.width body (own_verts index key).a ≡ get_or f.table own.a 0
      at_a = ap (λ (m : ℕ). word_in index.width body (verts_of index.kind key index.seed m).a) feed_m_lem ∙ f.words own.a below.a_below

      at_b : word_in index.width body (own_verts index key).b ≡ get_or f.table own.b 0
      at_b = ap (λ (m : ℕ). word_in index.width body (verts_of index.kind key index.seed m).b) feed_m_lem ∙ f.words own.b below.b_below

      at_c : word_in index.width body (own_verts index key).c ≡ get_or f.table own.c 0
      at_c = ap (λ (m : ℕ). word_in index.width body (verts_of index.kind key index.seed m).c) feed_m_lem ∙ f.words own.c below.c_below

      few : index.n < 2 → from_body index key body occ supers ≡ answer_of index f.table occ supers key
      few l =
          let e : index.n ≡ 1 = omega arith in
          let first : own.a ≡ 0 = omega (arith, f.one e, below.a_below) in
          finish_few index f.table occ supers key (word_in index.width body (own_verts index key).a) (word_in index.width body (own_verts index key).b) (word_in index.width body (own_verts index key).c) l
          (at_a ∙ ap (λ (v : ℕ). get_or f.table v 0) first)

      many : 2 ≤ index.n → from_body index key body occ supers ≡ answer_of index f.table occ supers key
      many l =
          finish_many index f.table occ supers key (word_in index.width body (own_verts index key).a) (word_in index.width body (own_verts index key).b) (word_in index.width body (own_verts index key).c) l
          refl at_a at_b at_c

  there_are : {e : ℕ} → e < length keys → index.n ≡ 0 → ⊥
  there_are h z = omega (arith, f.count)

  -- where no pages are listed a built key is answered 0, and that is its slot
  slot_unlisted : (asked e : ℕ) → (asked ≡ 0 → ⊥) → e < length keys → lists_pages index asked ≡ false → slot e ≡ 0
  unfolding few_answer
  slot_unlisted asked e some h l =
      let p = unlisted index asked l some (there_are h) in
      let one = p.1 in
      sym (f.slots e h) ∙ few_answer_lem index f.table occ supers (get_or keys e 0) (omega arith) ∙ rw (p.0, ne_eqb index.n 0 (there_are h))

  module _ {asked order₀ slots₀ pages₀ order slots pages : List ℕ} {feed : Feed} (o : Opened index asked (length occ) order₀ slots₀ pages₀ feed order slots pages) where
    abbrev start_number : ℕ
    start_number = start_no index (length asked) (length occ) (length order₀) (length slots₀) (length pages₀)

    starts : length asked ≤ 2 ^ 30 → 3 * length asked ≤ length order₀ → 3 * length asked ≤ length slots₀ → 6 * length asked ≤ length pages₀ → feed.no ≡ 0
    starts a b c d =
        let room = start_room (length asked) (length order₀) (length slots₀) (length pages₀) in
        let clear : room ≡ 0 = start_clear (length asked) (length order₀) (length slots₀) (length pages₀) a b c d in
        feed_zero index asked o.feed_is (checks (length asked) room (λ l. clear))

    module _ (z : feed.no ≡ 0) where
      number_zero : start_number ≡ 0
      number_zero = feed_number index asked start_number o.feed_is z

      holds : lists_pages index (length asked) ≡ true → FeedHolds index asked body occ order slots (take feed.pages pages)
      holds l = fed o z l body body_long

      accepted : {p number : ℕ} {ps before after : List ℕ} → Row (take feed.pages pages) (p ∷ ps) → Calls index (length asked) body order ps slots before → PageFed index (length asked) p (page_of body p) order before number after → number ≡ 0
      accepted {p} {number} {ps} {before} {after} row c g =
          by_cases (lists_pages index (length asked)) (λ l. (holds l).accepted row c g)
          (λ l. row_none (rw (feed_unlisted index asked o.feed_is number_zero l) at row))

      module _ {ps after : List ℕ} (row : Row (take feed.pages pages) ps) (c : Calls index (length asked) body order ps slots after) (j : ℕ) (h : j < length asked) where
        asked_unlisted : lists_pages index (length asked) ≡ false → asked_of index (length asked) asked j occ supers after ≡ record { no = 0; answer = 0 }
        unfolding asked_of asked_no
        asked_unlisted l =
            let early = checks (length asked) (ask_room index (length asked) (length after) (length supers)) (λ t. clash t l) in
            rw (lt-ltb j (length asked) h, early, l)

        told : (e : ℕ) → e < length keys → get_or asked j 0 ≡ get_or keys e 0 → (lists_pages index (length asked) ≡ true → Own index (get_or asked j 0) ps) → asked_of index (length asked) asked j occ supers after ≡ record { no = 0; answer = slot e }
        told e k q own =
            by_cases (lists_pages index (length asked))
            (λ l. (holds l).answered row c j h (own l) supers f.supers_room ∙ ap (λ (x : ℕ). record { no = 0; answer = x }) (from_body_lem (there_are k) (get_or asked j 0) ∙ ap (answer_of index f.table occ supers) q ∙ f.slots e k))
            (λ l. asked_unlisted l ∙ ap (λ (x : ℕ). record { no = 0; answer = x }) (sym (slot_unlisted (length asked) e (omega arith) k l)))

        waits : ((lists_pages index (length asked) ≡ true → Own index (get_or asked j 0) ps) → ⊥) → asked_of index (length asked) asked j occ supers after ≡ record { no = 18; answer = 0 }
        waits apart =
            by_cases (lists_pages index (length asked)) (λ l. (holds l).waits row c j h (λ own. apart (λ t. own)) supers f.supers_room) (λ l. absurd (apart (λ t. clash t l)))

  answers : Answers index keys file occ supers slot
  answers =
      record {
        starts = λ {asked} {order₀} {slots₀} {pages₀} {order} {slots} {pages} {feed} o. starts o;
        accepted = λ {asked} {order₀} {slots₀} {pages₀} {order} {slots} {pages} {feed} o z {p} {number} {ps} {before} {after} row c g. accepted o z row c g;
        listed = λ {asked} {order₀} {slots₀} {pages₀} {order} {slots} {pages} {feed} o z l. (holds o z l).mine;
        holds = λ {asked} {order₀} {slots₀} {pages₀} {order} {slots} {pages} {feed} o z l. holds o z l;
        told = λ {asked} {order₀} {slots₀} {pages₀} {order} {slots} {pages} {feed} o z {ps} {after} row c j e h k q own. told o z row c j h e k q own;
        waits = λ {asked} {order₀} {slots₀} {pages₀} {order} {slots} {pages} {feed} o z {ps} {after} row c j h apart. waits o z row c j h apart;
      }

-- ---- what is written

-- a word lies within the table's bytes
word_in_lem : (w m : ℕ) (file : List ℕ) (v : ℕ) → w ≤ 32 → v < m → word_in w (take (table_bytes w m) (drop 32 file)) v ≡ word_at w (drop 32 file) v
unfolding word_at
word_in_lem w m file v low h =
    let k : suc v * w ≤ m * w = mul-le-mul_right w h in
    let inside : v * w + w ≤ table_bytes w m * 8 = omega (arith, suc-mul v w) in
    bits_part w (table_bytes w m) 32 (v * w) file inside
    ∙ sym (bits_drop w 32 (v * w) file)
    ∙ ap (λ (k : ℕ). bits_at k (drop 32 file) (v * w)) (sym (min-eq_left low))

width_there : (kind : Kind) (modulus : ℕ) → 0 < width_for kind modulus
width_there Assigned modulus = width_pos modulus
width_there Compact modulus = omega arith

table_inside : {index : Index} {table bits : List ℕ} → Made index table bits → 32 + table_bytes index.width index.m ≤ image_len index
unfolding image_len
table_inside {index} {table} {bits} made = rw (all_words index table bits made, made.width) (omega arith)

module _ {kind : Kind} {index : Index} {table bits image : List ℕ} {number : ℕ} {file : List ℕ} (made : Made index table bits) (i : WrittenImage kind index table bits image number file) where
  written_long : image_len index ≤ length file
  written_long = omega (arith, ap length i.holds, length-append (image_of index table bits) (drop (image_len index) image), i.cuts.long)

  filed : (keys occ supers : List ℕ) (slot : ℕ → ℕ) → index.n ≡ length keys → (index.kind ≡ Compact → occupancy_bytes index.m ≤ length occ) → (index.kind ≡ Compact → super_count index.m ≤ length supers)
      → ((e : ℕ) → e < length keys → answer_of index table occ supers (get_or keys e 0) ≡ slot e) → Filed index keys file occ supers slot
  filed keys occ supers slot n occ_room supers_room slots =
      let low : index.width ≤ 32 = rw made.width (width_fits index.kind index.modulus) in
      record {
        count = n;
        one = made.one;
        more = made.more;
        width_some = rw made.width (width_there index.kind index.modulus);
        width_low = low;
        occ_room = occ_room;
        supers_room = supers_room;
        long = length-take-le (table_bytes index.width index.m) (drop 32 file) (omega (arith, length-drop 32 file, written_long, table_inside made));
        table = table;
        words = λ v h. word_in_lem index.width index.m file v low h ∙ i.words v h;
        slots = slots;
      }

  demand3 : (keys occ supers : List ℕ) (slot : ℕ → ℕ) → index.n ≡ length keys → (index.kind ≡ Compact → occupancy_bytes index.m ≤ length occ) → (index.kind ≡ Compact → super_count index.m ≤ length supers)
      → ((e : ℕ) → e < length keys → answer_of index table occ supers (get_or keys e 0) ≡ slot e) → Demand3 kind index keys occ supers slot number file
  demand3 keys occ supers slot n occ_room supers_room slots =
      record { written = i.accepted; cut = i.refused; opens = i.opens_all; answers = answers (filed keys occ supers slot n occ_room supers_room slots) }

-- ---- from a build to a file

-- an accepted assigned build of any number of keys, and the writer after it: each key is answered its value, whatever occupancy and super
-- counts are lent
pub demand3_assigned : {keys values : List ℕ} {modulus : ℕ} {table degrees xors queue : List ℕ} {order : List Pair} {marks seen : List ℕ} {r : Built} {table' degrees' xors' queue' : List ℕ} {order' : List Pair} {marks' seen' : List ℕ}
    → BuiltAssigned keys values modulus table degrees xors queue order marks seen r table' degrees' xors' queue' order' marks' seen' → r.no ≡ 0 → modulus < 2 ^ 32
    → {occ image after : List ℕ} {number : ℕ} → Wrote r.index table' occ image number after → image_len r.index ≤ length image
    → (lent-occ lent-supers : List ℕ) → Demand3 Assigned r.index keys lent-occ lent-supers (λ e. get_or values e 0) number after
unfolding index_for
demand3_assigned {keys} {values} {modulus} {table} {degrees} {xors} {queue} {order} {marks} {seen} {r} {table'} b z fits {occ} w room lent-occ lent-supers =
    let a = assigned_gives b z in
    let rest = drop (length (assigned_table keys values modulus)) table in
    let kind : r.index.kind ≡ Assigned = ap (λ (index : Index). index.kind) a.1 in
    let told : (e : ℕ) → e < length keys → answer_of r.index table' lent-occ lent-supers (get_or keys e 0) ≡ get_or values e 0 =
    λ e l. rw (a.1, a.2) (assigned_slots keys values modulus rest lent-occ lent-supers (lengths_of table degrees xors queue order marks [] seen) a.0 e l) in
    demand3 (assigned_made b z fits occ) (assigned_cut b z fits w room) keys lent-occ lent-supers (λ e. get_or values e 0) (ap (λ (index : Index). index.n) a.1) (λ k. kinds (sym kind ∙ k)) (λ k. kinds (sym kind ∙ k)) told

counts_long : (m : ℕ) (occ : List ℕ) → length (super_counts m occ) ≡ super_count m
unfolding super_counts
counts_long m occ = length_tab (super_at m occ) (super_count m)

-- a compact file with the super counts of its occupancy part: its keys have one slot each of 0 to n - 1
pub record Demand3Compact (index : Index) (keys occ supers : List ℕ) (counted number : ℕ) (file : List ℕ) : Type 0 where
  pub counts : counted ≡ 0
  pub slot : ℕ → ℕ
  pub once : OnceEach (length keys) slot
  pub demand : Demand3 Compact index keys occ supers slot number file

-- an accepted compact build of any number of keys, the writer after it, and the super counts of the occupancy part of the file
pub demand3_compact : {keys table occupancy degrees xors queue : List ℕ} {order : List Pair} {marks : List ℕ} {r : Built} {table' occupancy' degrees' xors' queue' : List ℕ} {order' : List Pair} {marks' : List ℕ}
    → BuiltCompact keys table occupancy degrees xors queue order marks r table' occupancy' degrees' xors' queue' order' marks' → r.no ≡ 0
    → {image after : List ℕ} {number : ℕ} → Wrote r.index table' occupancy' image number after → image_len r.index ≤ length image
    → {supers supers' : List ℕ} {counted : ℕ} → SuperCounted r.index.m (occupancy_in r.index.m after) supers counted supers' → super_count r.index.m ≤ length supers
    → Demand3Compact r.index keys (occupancy_in r.index.m after) supers' counted number after
unfolding index_for
demand3_compact {keys} {table} {occupancy} {degrees} {xors} {queue} {order} {marks} {r} {table'} b z {image} {after} {number} w room {supers} {supers'} {counted} s l =
    let a = compact_gives b z in
    let c = compact_cut b z w room in
    let m = vertices_for Compact (length keys) in
    let size : r.index.m ≡ m = ap (λ (index : Index). index.m) a.1 in
    let part = occupancy_in r.index.m after in
    let occ = compact_occupancy keys ++ [] in
    let is : part ≡ occ = c.occupancy ∙ sym (append-nil (compact_occupancy keys)) in
    let bytes : occupancy_bytes r.index.m ≤ length part = omega (arith, ap length c.occupancy, occupancy_long keys, size) in
    let counts = super_counts r.index.m part in
    let rest = drop (length counts) supers in
    let none : supers_no r.index.m (length part) (length supers) ≡ 0 = supers_accepted r.index.m (length part) (length supers) bytes l in
    let after_is : supers' ≡ counts ++ rest = s.after_is ∙ ap (λ (k : ℕ). written k counts supers) none in
    let same : counts ≡ super_counts m occ = ap (super_counts r.index.m) is ∙ ap (λ (k : ℕ). super_counts k occ) size in
    let behind = drop (length (compact_table keys)) table in
    let lent = lengths_of table degrees xors queue order marks occupancy [] in
    let told : (e : ℕ) → e < length keys → answer_of r.index table' part supers' (get_or keys e 0) ≡ compact_slot keys behind [] rest e =
    λ e h. rw (after_is, same, is, a.2, a.1) in
    record {
      counts = s.number_is ∙ none;
      slot = compact_slot keys behind [] rest;
      once = compact_slots keys behind [] rest lent a.0;
      demand =
          demand3 (compact_made b z) c.written keys part supers' (compact_slot keys behind [] rest) (ap (λ (index : Index). index.n) a.1) (λ k. bytes)
          (λ k. omega (arith, ap length after_is, length-append counts rest, counts_long r.index.m part)) told;
    }
