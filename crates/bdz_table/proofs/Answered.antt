-- What a lookup answers: after an accepted assigned build every key its value, after a compact one the keys 0 to n - 1, once each; and
-- how large an accepted answer can be, whatever the index. Assumes nothing.
use Rattle.std.proofs.Common.{◌≡◌, ℕ, ◌-◌, ◌%◌, ◌^◌, ◌<◌, ◌≤◌, min, Bool, true, false, cond, eqb, List, [], ◌++◌, length, get_or, drop, sym, refl, ap, ◌∙◌, ⊎_elim, mod-lt, mod-eq_of_lt, arith, length-append, le-ltb, ne_eqb, eqb-true}
use native.Mathlib.Nat.{min-eq_left, min-le_right}
use borrow.Author.Tests.{eqb-false}
use lib.ListN.{get_or-append}
use Rattle.bdz_base.specs.Buffer.{written}
use Rattle.bdz_base.specs.Pack.{bits_at}
use Rattle.bdz_base.specs.Sizes.{occupancy_bytes, super_count}
use Rattle.bdz_base.specs.declared.verts.Kind.{Kind}
use Rattle.bdz_base.specs.declared.verts.Kind.TheVariants.{Assigned, Compact}
use Rattle.bdz_base.proofs.Buffers.{length_tab}
use Rattle.bdz_table.specs.Assign.{sum_at, looked}
use Rattle.bdz_table.specs.Build.{vertices_for, assigned_early, compact_early, build_no, seed_for, index_for, built_for, cuts_for, assigned_table, compact_table, compact_occupancy, lengths_of, BuiltAssigned, BuiltCompact}
use Rattle.bdz_table.specs.Graph.{has, only_if}
use Rattle.bdz_table.specs.Keys.{graph_of}
use Rattle.bdz_table.specs.Lookup.{room_no, lookup_no, sum_of, assigned_answer, picked_of, compact_from, compact_answer, many_answer, few_answer, answer_of, answers_of, LookedUp}
use Rattle.bdz_table.specs.Peel.{ats_of}
use Rattle.bdz_table.specs.Rank.{ones_below, super_at, super_counts, supers_no, SuperCounted, rank_with}
use Rattle.bdz_table.specs.Values.{values_no}
use Rattle.bdz_table.specs.declared.index.Index.{Index}
use Rattle.bdz_table.specs.declared.needs.Lengths.{Lengths}
use Rattle.bdz_table.specs.declared.pairs.Pair.{Pair}
use Rattle.bdz_table.specs.declared.index.Built.{Built}
use Rattle.bdz_table.specs.Told.{refused_build}
use Rattle.bdz_table.proofs.Begun.{assigned_passed, compact_passed, length_assigned, length_compact, length_occupied, empty_compact}
use Rattle.bdz_table.proofs.Bits.{occupancy_front, tab_at}
use Rattle.bdz_table.proofs.Counting.{graph_few}
use Rattle.bdz_table.proofs.Found.{Accepted, accepted, sum_below, sum_behind, ats_counted, AssignedFound, assigned_found, compact_vertices, compact_looked, CompactFound, occupancy_at, compact_found}
use Rattle.bdz_table.proofs.Has.{lt_or_ge}
use Rattle.bdz_table.proofs.NeedLaws.{vertices_fit, vertices_more, vertices_none}
use Rattle.bdz_table.proofs.Passed.{supers_accepted, Fits, fits, lookup_accepted, few_answer_lem, many_answer_lem}
use Rattle.bdz_table.proofs.Ranks.{below_count, below_strict, ranks_different, ranks_all, true_rank}
use Rattle.bdz_table.proofs.Runs.{one_assigned, many_occupancy}

-- what is answered for the numbers below n is 0 to n - 1, once each
pub record OnceEach (n : ℕ) (answer : ℕ → ℕ) : Type 0 where
  pub below : (e : ℕ) → e < n → answer e < n
  pub different : (e f : ℕ) → e < n → f < n → answer e ≡ answer f → e ≡ f
  pub every : (r : ℕ) → r < n → (e : ℕ) × (e < n) × (answer e ≡ r)

-- ---- the assigned kind

module _ (keys values : List ℕ) (modulus : ℕ) (rest occ supers : List ℕ) where
  -- what a lookup answers key number e, whatever stands behind the table
  abbrev pub assigned_slot : ℕ → ℕ
  assigned_slot e = answer_of (index_for Assigned keys modulus) (assigned_table keys values modulus ++ rest) occ supers (get_or keys e 0)

  module _ (lent : Lengths) (ok : build_no Assigned keys (assigned_early (length keys) (length values) modulus lent) (values_no modulus [] values) ≡ 0) where
    assigned_few : length keys < 2 → (e : ℕ) → e < length keys → assigned_slot e ≡ get_or values e 0
    unfolding index_for few_answer
    assigned_few h e l =
        let one : length keys ≡ 1 = omega arith in
        let first : e ≡ 0 = omega arith in
        few_answer_lem (index_for Assigned keys modulus) (assigned_table keys values modulus ++ rest) occ supers (get_or keys e 0) h
        ∙ rw (ne_eqb (length keys) 0 (omega arith), one_assigned keys values modulus one, first)

    assigned_many : 2 ≤ length keys → (e : ℕ) → e < length keys → assigned_slot e ≡ get_or values e 0
    unfolding index_for assigned_answer graph_of sum_of
    assigned_many h e l =
        let table = assigned_table keys values modulus in
        let f : AssignedFound keys values modulus = assigned_found keys values modulus lent h ok in
        many_answer_lem (index_for Assigned keys modulus) (table ++ rest) occ supers (get_or keys e 0) h
        ∙ ap (λ (s : ℕ). s % 2 ^ 32 % modulus) (sum_behind Assigned keys h table rest (length_assigned keys values modulus (omega arith)) e l)
        ∙ ap (λ (s : ℕ). s % modulus) (mod-eq_of_lt (f.small e))
        ∙ f.value e l

    -- every key is answered its value
    pub assigned_slots : (e : ℕ) → e < length keys → assigned_slot e ≡ get_or values e 0
    assigned_slots e l = ⊎_elim (λ h. assigned_few h e l) (λ h. assigned_many h e l) (lt_or_ge (length keys) 2)

-- ---- the compact kind

module _ (keys trest orest srest : List ℕ) where
  abbrev vertices : ℕ
  vertices = vertices_for Compact (length keys)

  abbrev occ : List ℕ
  occ = compact_occupancy keys ++ orest

  -- what a lookup answers key number e, whatever stands behind the table, the occupancy and the super counts
  abbrev pub compact_slot : ℕ → ℕ
  compact_slot e = answer_of (index_for Compact keys (length keys)) (compact_table keys ++ trest) occ (super_counts vertices occ ++ srest) (get_or keys e 0)

  -- one key at most: it is answered 0
  slot_few : length keys < 2 → (e : ℕ) → compact_slot e ≡ 0
  unfolding index_for few_answer
  slot_few h e =
      few_answer_lem (index_for Compact keys (length keys)) (compact_table keys ++ trest) occ (super_counts vertices occ ++ srest) (get_or keys e 0) h
      ∙ none (eqb (length keys) 0)
    where
      none : (b : Bool) → ◌≡◌ {A = ℕ} (cond b 0 0) 0
      none true = refl
      none false = refl

  module _ (lent : Lengths) (ok : build_no Compact keys (compact_early (length keys) lent) 0 ≡ 0) where
    module _ (h : 2 ≤ length keys) where
      abbrev ats : List ℕ
      ats = ats_of (cuts_for Compact keys)

      kept : Accepted Compact keys (compact_early (length keys) lent) 0
      kept = accepted Compact keys (compact_early (length keys) lent) 0 h ok

      found : CompactFound keys
      found = compact_found keys lent h ok

      bit_is : (v : ℕ) → v < vertices → bits_at 1 occ v ≡ only_if (has v ats) 1
      bit_is v l = rw (many_occupancy keys vertices h refl) (occupancy_front vertices v ats orest l)

      -- as many ones as keys
      ones_counted : ones_below occ vertices ≡ length keys
      ones_counted = below_count occ (λ v. has v ats) vertices bit_is ∙ ats_counted Compact keys h kept.peels

      -- the vertex that a key finds is occupied
      looked_bit : (e : ℕ) → e < length keys → bits_at 1 occ (compact_looked keys e) ≡ 1
      looked_bit e l = bit_is (compact_looked keys e) (found.inside e l) ∙ ap (λ (b : Bool). only_if b 1) (found.own e l).1

      -- so its rank is below n
      rank_low : (e : ℕ) → e < length keys → ones_below occ (compact_looked keys e) < length keys
      rank_low e l =
          omega (arith, ones_counted, below_strict occ (compact_looked keys e) vertices (looked_bit e l) (found.inside e l))

      -- it is the one that a lookup picks
      picked : (e : ℕ) → e < length keys → picked_of (compact_vertices keys e) (sum_of (compact_table keys ++ trest) (compact_vertices keys e)) ≡ compact_looked keys e
      unfolding picked_of looked sum_of
      picked e l =
          let vs = compact_vertices keys e in
          let small : sum_at (compact_table keys) vs < 2 ^ 32 =
          omega (arith, sum_below 3 (compact_table keys) vs found.below, graph_few Compact keys (seed_for Compact keys) vertices e) in
          ap (λ (s : ℕ). get_or vs (s % 2 ^ 32 % 3) 0) (sum_behind Compact keys h (compact_table keys) trest (length_compact keys (omega arith)) e l)
          ∙ ap (λ (s : ℕ). get_or vs (s % 3) 0) (mod-eq_of_lt small)

      -- and the key is answered its rank
      slot_many : (e : ℕ) → e < length keys → compact_slot e ≡ ones_below occ (compact_looked keys e)
      unfolding index_for compact_answer compact_from graph_of
      slot_many e l =
          let v = compact_looked keys e in
          let supers = super_counts vertices occ ++ srest in
          let p = compact_passed (length keys) lent (omega arith) kept.early_none in
          let fits : vertices < 2 ^ 32 = omega (arith, vertices_fit Compact (length keys) p.few) in
          let inside : v ≤ vertices = omega (arith, found.inside e l) in
          let low : ones_below occ v ≤ length keys - 1 = omega (arith, rank_low e l) in
          many_answer_lem (index_for Compact keys (length keys)) (compact_table keys ++ trest) occ supers (get_or keys e 0) h
          ∙ ap (λ (u : ℕ). min (rank_with occ supers u) (length keys - 1)) (picked e l)
          ∙ ap (λ (r : ℕ). min r (length keys - 1)) (true_rank vertices occ srest v fits inside)
          ∙ min-eq_left low

      slot_different : (e f : ℕ) → e < length keys → f < length keys → compact_slot e ≡ compact_slot f → e ≡ f
      slot_different e f k l q =
          found.different e f k l
          (ranks_different occ (compact_looked keys e) (compact_looked keys f) (looked_bit e k) (looked_bit f l) (sym (slot_many e k) ∙ q ∙ slot_many f l))

      -- every number below n is some key's rank
      slot_every : (r : ℕ) → r < length keys → (e : ℕ) × (e < length keys) × (compact_slot e ≡ r)
      slot_every r l =
          let p = ranks_all occ vertices r (omega (arith, ones_counted)) in
          let k = (found.occupied p.vertex p.low).0 (occupancy_at keys p.vertex h p.low ∙ sym (bit_is p.vertex p.low) ∙ p.set) in
          (k.0, k.1, slot_many k.0 k.1 ∙ ap (ones_below occ) k.2 ∙ p.rank)

    -- the keys are answered 0 to n - 1, once each
    pub compact_slots : OnceEach (length keys) compact_slot
    compact_slots = ⊎_elim few many (lt_or_ge (length keys) 2)
      where
        few : length keys < 2 → OnceEach (length keys) compact_slot
        few h =
            record {
              below = λ e l. omega (arith, slot_few h e);
              different = λ e f k l q. omega arith;
              every = λ r l. (0, omega arith, omega (arith, slot_few h 0));
            }

        many : 2 ≤ length keys → OnceEach (length keys) compact_slot
        many h = record { below = λ e l. rw (slot_many h e l) (rank_low h e l); different = slot_different h; every = slot_every h }

-- ---- a lookup

-- a lookup that is accepted, and answers key number e, wherever it is asked for, what `slot` says
pub record Answered (keys : List ℕ) (slot : ℕ → ℕ) (asked : List ℕ) (number : ℕ) (out : List ℕ) : Type 0 where
  pub accepted : number ≡ 0
  pub told : (j e : ℕ) → j < length asked → e < length keys → get_or asked j 0 ≡ get_or keys e 0 → get_or out j 0 ≡ slot e

module _ (index : Index) (asked table occ supers out : List ℕ) where
  abbrev lookup_number : ℕ
  lookup_number = lookup_no index (length asked) (length table) (length occ) (length supers) (length out)

  module _ (number : ℕ) (out' : List ℕ) (u : LookedUp index asked table occ supers out number out') (ok : lookup_number ≡ 0) where
    -- the answers stand in the order of the keys asked for
    answer_at : (j : ℕ) → j < length asked → get_or out' j 0 ≡ answer_of index table occ supers (get_or asked j 0)
    answer_at j l =
        let answer : ℕ → ℕ = λ i. answer_of index table occ supers (get_or asked i 0) in
        let new = answers_of index table occ supers asked in
        ap (λ (o : List ℕ). get_or o j 0) (u.after_is ∙ ap (λ (k : ℕ). written k new out) ok)
        ∙ get_or-append new (drop (length new) out) 0 j (rw (length_tab answer (length asked)) l)
        ∙ tab_at answer (length asked) j l

    answered : (keys : List ℕ) (slot : ℕ → ℕ) → ((e : ℕ) → e < length keys → answer_of index table occ supers (get_or keys e 0) ≡ slot e) → Answered keys slot asked number out'
    answered keys slot s =
        record { accepted = u.number_is ∙ ok; told = λ j e l k q. answer_at j l ∙ ap (answer_of index table occ supers) q ∙ s e k }

-- ---- from a build to a lookup

-- a build that answers 0 was not refused, and gives the index
pub built : (number : ℕ) (index : Index) (r : Built) → r ≡ built_for number index → r.no ≡ 0 → (number ≡ 0) × (r.index ≡ index)
built number index r q z = go (eqb number 0) refl q
  where
    go : (b : Bool) → eqb number 0 ≡ b → r ≡ cond b (record { no = 0; index = index }) (refused_build number) → (number ≡ 0) × (r.index ≡ index)
    go true t q = (eqb-true number 0 t, ap (λ (x : Built). x.index) q)
    go false t q = absurd (eqb-false number 0 t (sym (ap (λ (x : Built). x.no) q) ∙ z))

assigned_fits : (keys values : List ℕ) (modulus : ℕ) (rest : List ℕ) (occ supers : ℕ) (lent : Lengths)
    → build_no Assigned keys (assigned_early (length keys) (length values) modulus lent) (values_no modulus [] values) ≡ 0
    → 2 ≤ length keys → Fits (index_for Assigned keys modulus) (length (assigned_table keys values modulus ++ rest)) occ supers
unfolding index_for room_no
assigned_fits keys values modulus rest occ supers lent ok h =
    let m = vertices_for Assigned (length keys) in
    let table = assigned_table keys values modulus in
    let a = accepted Assigned keys (assigned_early (length keys) (length values) modulus lent) (values_no modulus [] values) h ok in
    let some : modulus ≡ 0 → ⊥ = (assigned_passed (length keys) (length values) modulus lent (omega arith) a.early_none).some in
    let words : m ≤ length (table ++ rest) = omega (arith, length-append table rest, length_assigned keys values modulus (omega arith)) in
    record {
      vertices = omega (arith, vertices_more Assigned (length keys) h);
      modulus = omega arith;
      room = rw (le-ltb (length (table ++ rest)) m words);
    }

-- an accepted assigned build, and a lookup after it
pub assigned_answered : {keys values : List ℕ} {modulus : ℕ} {table degrees xors queue : List ℕ} {order : List Pair} {marks seen : List ℕ} {r : Built} {table' degrees' xors' queue' : List ℕ} {order' : List Pair} {marks' seen' : List ℕ}
    → BuiltAssigned keys values modulus table degrees xors queue order marks seen r table' degrees' xors' queue' order' marks' seen' → r.no ≡ 0
    → {asked occ supers out out' : List ℕ} {number : ℕ} → LookedUp r.index asked table' occ supers out number out' → length asked ≤ length out
    → Answered keys (λ e. get_or values e 0) asked number out'
unfolding index_for
assigned_answered {keys} {values} {modulus} {table} {degrees} {xors} {queue} {order} {marks} {seen} {r} {table'} b z {asked} {occ} {supers} {out} {out'} {number} u l =
    let lent = lengths_of table degrees xors queue order marks [] seen in
    let index = index_for Assigned keys modulus in
    let words = assigned_table keys values modulus in
    let rest = drop (length words) table in
    let a = built (build_no Assigned keys (assigned_early (length keys) (length values) modulus lent) (values_no modulus [] values)) index r b.to.answer_is z in
    let t : table' ≡ words ++ rest = b.to.table_is ∙ ap (λ (k : ℕ). written k words table) a.0 in
    let v : LookedUp index asked (words ++ rest) occ supers out number out' = rw (a.1, t) at u in
    answered index asked (words ++ rest) occ supers out number out' v
    (lookup_accepted index (length asked) (length (words ++ rest)) (length occ) (length supers) (length out) l (assigned_fits keys values modulus rest (length occ) (length supers) lent a.0))
    keys (λ e. get_or values e 0) (assigned_slots keys values modulus rest occ supers lent a.0)

-- the occupancy has its bytes; where there are no keys it needs none
pub occupancy_long : (keys : List ℕ) → length (compact_occupancy keys) ≡ occupancy_bytes (vertices_for Compact (length keys))
occupancy_long keys = ⊎_elim none (length_occupied keys) (lt_or_ge (length keys) 1)
  where
    none : length keys < 1 → length (compact_occupancy keys) ≡ occupancy_bytes (vertices_for Compact (length keys))
    none l =
        let e : length keys ≡ 0 = omega arith in
        rw ((empty_compact keys e).1, e, vertices_none Compact)

occupancy_room : (keys rest : List ℕ) → occupancy_bytes (vertices_for Compact (length keys)) ≤ length (compact_occupancy keys ++ rest)
occupancy_room keys rest = omega (arith, length-append (compact_occupancy keys) rest, occupancy_long keys)

compact_fits : (keys trest orest srest : List ℕ) → 2 ≤ length keys
    → Fits (index_for Compact keys (length keys)) (length (compact_table keys ++ trest)) (length (compact_occupancy keys ++ orest)) (length (super_counts (vertices_for Compact (length keys)) (compact_occupancy keys ++ orest) ++ srest))
unfolding index_for room_no super_counts
compact_fits keys trest orest srest h =
    let m = vertices_for Compact (length keys) in
    let table = compact_table keys in
    let occ = compact_occupancy keys ++ orest in
    let supers = super_counts m occ in
    let words : m ≤ length (table ++ trest) = omega (arith, length-append table trest, length_compact keys (omega arith)) in
    let counts : super_count m ≤ length (supers ++ srest) = omega (arith, length-append supers srest, length_tab (super_at m occ) (super_count m)) in
    record {
      vertices = omega (arith, vertices_more Compact (length keys) h);
      modulus = omega arith;
      room = rw (le-ltb (length occ) (occupancy_bytes m) (occupancy_room keys orest), le-ltb (length (table ++ trest)) m words, le-ltb (length (supers ++ srest)) (super_count m) counts);
    }

-- a compact index with the super counts of its occupancy: its keys have one slot each, and every lookup answers it
pub record CompactAnswered (keys : List ℕ) (index : Index) (table occ supers : List ℕ) (counted : ℕ) : Type 0 where
  pub counts : counted ≡ 0
  pub slot : ℕ → ℕ
  pub once : OnceEach (length keys) slot
  pub answers : {asked out out' : List ℕ} {number : ℕ} → LookedUp index asked table occ supers out number out' → length asked ≤ length out → Answered keys slot asked number out'

-- an accepted compact build, the super counts of its occupancy, and lookups after them
pub compact_answered : {keys table occupancy degrees xors queue : List ℕ} {order : List Pair} {marks : List ℕ} {r : Built} {table' occupancy' degrees' xors' queue' : List ℕ} {order' : List Pair} {marks' : List ℕ}
    → BuiltCompact keys table occupancy degrees xors queue order marks r table' occupancy' degrees' xors' queue' order' marks' → r.no ≡ 0
    → {supers supers' : List ℕ} {counted : ℕ} → SuperCounted r.index.m occupancy' supers counted supers' → super_count r.index.m ≤ length supers
    → CompactAnswered keys r.index table' occupancy' supers' counted
unfolding index_for
compact_answered {keys} {table} {occupancy} {degrees} {xors} {queue} {order} {marks} {r} {table'} {occupancy'} b z {supers} {supers'} {counted} s l =
    let lent = lengths_of table degrees xors queue order marks occupancy [] in
    let index = index_for Compact keys (length keys) in
    let m = vertices_for Compact (length keys) in
    let words = compact_table keys in
    let trest = drop (length words) table in
    let orest = drop (length (compact_occupancy keys)) occupancy in
    let occ = compact_occupancy keys ++ orest in
    let counts = super_counts m occ in
    let srest = drop (length counts) supers in
    let a = built (build_no Compact keys (compact_early (length keys) lent) 0) index r b.to.answer_is z in
    let t : table' ≡ words ++ trest = b.to.table_is ∙ ap (λ (k : ℕ). written k words table) a.0 in
    let o : occupancy' ≡ occ = b.occupancy_is ∙ ap (λ (k : ℕ). written k (compact_occupancy keys) occupancy) a.0 in
    let size : r.index.m ≡ m = ap (λ (x : Index). x.m) a.1 in
    let c : SuperCounted m occ supers counted supers' = rw (size, o) at s in
    let no : supers_no m (length occ) (length supers) ≡ 0 = supers_accepted m (length occ) (length supers) (occupancy_room keys orest) (rw size at l) in
    let p : supers' ≡ counts ++ srest = c.after_is ∙ ap (λ (k : ℕ). written k counts supers) no in
    record {
      counts = c.number_is ∙ no;
      slot = compact_slot keys trest orest srest;
      once = compact_slots keys trest orest srest lent a.0;
      answers = λ {asked} {out} {out'} {number} u k.
          let v : LookedUp index asked (words ++ trest) occ (counts ++ srest) out number out' = rw (a.1, t, o, p) at u in
          answered index asked (words ++ trest) occ (counts ++ srest) out number out' v
          (lookup_accepted index (length asked) (length (words ++ trest)) (length occ) (length (counts ++ srest)) (length out) k (compact_fits keys trest orest srest))
          keys (compact_slot keys trest orest srest) (λ e l. refl);
    }

-- ---- bounds

-- "For n of 2 or more an accepted assigned answer is below the modulus, a compact one at most n-1"
pub record Bounded (index : Index) (answer : ℕ) : Type 0 where
  pub assigned : index.kind ≡ Assigned → answer < index.modulus
  pub compact : index.kind ≡ Compact → answer ≤ index.n - 1

-- from the promise of the lookup, whatever index, table, occupancy and super counts are lent
pub bounded : {index : Index} {asked table occ supers out : List ℕ} {number : ℕ} {out' : List ℕ}
    → LookedUp index asked table occ supers out number out' → number ≡ 0 → 2 ≤ index.n
    → (j : ℕ) → j < length asked → Bounded index (get_or out' j 0)
unfolding assigned_answer compact_answer compact_from
bounded {index} {asked} {table} {occ} {supers} {out} {number} {out'} u z l j h =
    let ok = sym u.number_is ∙ z in
    let key = get_or asked j 0 in
    let some = (fits index (length asked) (length table) (length occ) (length supers) (length out) (omega arith) l ok).modulus in
    let by : (kind : Kind) → index.kind ≡ kind → get_or out' j 0 ≡ many_answer kind index table occ supers key =
    λ kind k. answer_at index asked table occ supers out number out' u ok j h ∙ many_answer_lem index table occ supers key l ∙ ap (λ (x : Kind). many_answer x index table occ supers key) k in
    record { assigned = λ k. rw (by Assigned k) (mod-lt _ some); compact = λ k. rw (by Compact k) (min-le_right _ _) }
