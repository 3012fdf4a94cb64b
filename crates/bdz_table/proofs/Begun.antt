-- A build that has passed its early checks: its buffers have room, their needed parts have the right shape, and what a run leaves in
-- the parts is what the promise says of the whole. Assumes nothing.
use Rattle.std.proofs.Common.{Result, ◌≡◌, ℕ, zero, suc, ◌^◌, ◌<◌, ◌≤◌, Bool, true, false, cond, not, ◌&&◌, ◌||◌, eqb, ltb, ◌⊎◌, List, [], ◌∷◌, ◌++◌, length, get_or, take, drop, set, replicate, sym, refl, ◌∙◌, inl, inr, ⊎_elim, le_of_suc-le-suc, not-suc-le-zero, arith, length-append, length-drop, length-set, take-append-drop, length-take-le, ltb-false, ltb-true, le-ltb, ne_eqb, eqb-true}
use borrow.Author.Tests.{eqb-false}
use lib.ListN.{length-replicate}
use Rattle.bdz_base.specs.Buffer.{over, written}
use Rattle.bdz_base.specs.Refusal.{refuse, accept}
use Rattle.bdz_base.specs.Sizes.{occupancy_bytes}
use Rattle.bdz_base.specs.declared.refusal.Refusal.{Refusal}
use Rattle.bdz_base.specs.declared.verts.Kind.{Kind}
use Rattle.bdz_base.specs.declared.verts.Kind.TheVariants.{Assigned, Compact}
use Rattle.bdz_table.specs.Assign.{assign}
use Rattle.bdz_table.specs.Build.{vertices_for, needs_of, lacks_room, assigned_early, compact_early, begun, late_no, build_no, seed_for, width_for, index_for, built_for, words_for, assigned_table, compact_table, compact_occupancy, lengths_with}
use Rattle.bdz_table.specs.Graph.{has}
use Rattle.bdz_table.specs.Peel.{Cut}
use Rattle.bdz_table.specs.Steps.{Ran, Shaped, RanTo, new_if, Used, ReadyTo, untouched_of}
use Rattle.bdz_table.specs.Values.{values_no}
use Rattle.bdz_table.specs.declared.index.Needs.{Needs}
use Rattle.bdz_table.specs.declared.needs.Lengths.{Lengths}
use Rattle.bdz_table.specs.declared.index.Index.{Index}
use Rattle.bdz_table.specs.Told.{told_index, refused_build}
use Rattle.bdz_table.proofs.Bits.{length_occupancy}
use Rattle.bdz_table.proofs.Fold.{clash}
use Rattle.bdz_table.proofs.Has.{lt_or_ge}
use Rattle.bdz_table.proofs.NeedLaws.{vertices_fit, vertices_more, vertices_one}
use Rattle.bdz_table.proofs.Runs.{one_assigned, one_compact, one_occupancy, many_assigned_table, many_compact_table, many_occupancy}

-- ---- a check that passed

pub refuse_none : (k : ℕ) (b : Bool) (x : ℕ) → refuse (suc k) b x ≡ 0 → (b ≡ false) × (x ≡ 0)
refuse_none k true x e = absurd (omega (arith, e))
refuse_none k false x e = (refl, e)

pub accept_none : (b : Bool) (x : ℕ) → b ≡ false → accept b x ≡ 0 → x ≡ 0
accept_none b x h e = rw h at e

or_none : (a b : Bool) → (a || b) ≡ false → (a ≡ false) × (b ≡ false)
or_none true b e = clash refl e
or_none false b e = (refl, e)

not_none : (b : Bool) → not b ≡ false → b ≡ true
not_none true e = refl
not_none false e = clash refl e

-- what is lent is enough
pub record Room (need : Needs) (lent : Lengths) : Type 0 where
  pub table : need.table ≤ lent.table
  pub degrees : need.vertices ≤ lent.degrees
  pub xors : need.vertices ≤ lent.xors
  pub queue : need.vertices ≤ lent.queue
  pub order : need.order ≤ lent.order
  pub marks : need.vertices ≤ lent.marks
  pub occupancy : need.occupancy ≤ lent.occupancy
  pub seen : need.seen ≤ lent.seen

room_of : (need : Needs) (lent : Lengths) → lacks_room need lent ≡ false → Room need lent
unfolding lacks_room
room_of need lent e =
    let a = or_none _ _ e in
    let b = or_none _ _ a.1 in
    let c = or_none _ _ b.1 in
    let d = or_none _ _ c.1 in
    let f = or_none _ _ d.1 in
    let g = or_none _ _ f.1 in
    let h = or_none _ _ g.1 in
    record {
      table = ltb-false _ _ a.0;
      degrees = ltb-false _ _ b.0;
      xors = ltb-false _ _ c.0;
      queue = ltb-false _ _ d.0;
      order = ltb-false _ _ f.0;
      marks = ltb-false _ _ g.0;
      occupancy = ltb-false _ _ h.0;
      seen = ltb-false _ _ h.1;
    }

pub record Passed (kind : Kind) (n modulus : ℕ) (lent : Lengths) : Type 0 where
  pub few : n ≤ 2 ^ 30
  pub room : Room (needs_of kind n modulus) lent

pub record PassedAssigned (n values modulus : ℕ) (lent : Lengths) : Type 0 where
  pub same : n ≡ values
  pub some : modulus ≡ 0 → ⊥
  pub limit : modulus ≤ 2 ^ 30
  pub passed : Passed Assigned n modulus lent

pub assigned_passed : (n values modulus : ℕ) (lent : Lengths) → 1 ≤ n → assigned_early n values modulus lent ≡ 0 → PassedAssigned n values modulus lent
unfolding assigned_early
assigned_passed n values modulus lent h e =
    let a = refuse_none 0 _ _ e in
    let b = accept_none _ _ (ne_eqb n 0 (omega arith)) a.1 in
    let c = refuse_none 1 _ _ b in
    let d = refuse_none 12 _ _ c.1 in
    let f = or_none _ _ d.0 in
    let g = refuse_none 13 _ _ d.1 in
    record {
      same = eqb-true n values (not_none _ a.0);
      some = eqb-false modulus 0 c.0;
      limit = ltb-false _ _ f.1;
      passed = record { few = ltb-false _ _ f.0; room = room_of _ _ g.0 };
    }

pub compact_passed : (n : ℕ) (lent : Lengths) → 1 ≤ n → compact_early n lent ≡ 0 → Passed Compact n n lent
unfolding compact_early
compact_passed n lent h e =
    let b = accept_none _ _ (ne_eqb n 0 (omega arith)) e in
    let d = refuse_none 12 _ _ b in
    let g = refuse_none 13 _ _ d.1 in
    record { few = ltb-false _ _ d.0; room = room_of _ _ g.0 }

-- ---- the needed parts

module _ (kind : Kind) (n modulus : ℕ) where
  pub need_table : (needs_of kind n modulus).table ≡ vertices_for kind n
  unfolding needs_of
  need_table = refl

  pub need_vertices : 2 ≤ n → (needs_of kind n modulus).vertices ≡ vertices_for kind n
  unfolding needs_of
  need_vertices h = simp (le-ltb n 2 h)

  pub need_order : 2 ≤ n → (needs_of kind n modulus).order ≡ n
  unfolding needs_of
  need_order h = simp (le-ltb n 2 h)

pub need_seen : (n modulus : ℕ) → 1 ≤ n → (needs_of Assigned n modulus).seen ≡ occupancy_bytes modulus
unfolding needs_of
need_seen n modulus h = simp (ne_eqb n 0 (omega arith))

pub need_occupancy : (n modulus : ℕ) → (needs_of Compact n modulus).occupancy ≡ occupancy_bytes (vertices_for Compact n)
unfolding needs_of
need_occupancy n modulus = refl

module _ (kind : Kind) (keys : List ℕ) (modulus : ℕ) (table ds xs q : List ℕ) (order : ℕ) (ms occ seen : List ℕ) (some : 1 ≤ length keys)
    (p : Passed kind (length keys) modulus (lengths_with table ds xs q order ms occ seen)) where
  abbrev need : Needs
  need = needs_of kind (length keys) modulus

  pub shaped : Shaped kind keys need.table (take need.table table) (take need.vertices ds) (take need.vertices xs) (take need.vertices q) (take need.vertices ms)
  shaped =
      record {
        some = some;
        is = need_table kind (length keys) modulus;
        longt = longt;
        many = λ h.
            let t = need_table kind (length keys) modulus in
            let v = need_vertices kind (length keys) modulus h in
            record {
              count = h;
              is = t;
              longt = longt;
              longm = length-take-le _ ms p.room.marks ∙ v ∙ sym t;
              lent =
                  record {
                    sizes =
                        record {
                          keys = p.few;
                          some = omega (arith, vertices_more kind (length keys) h, t);
                          few = omega (arith, vertices_fit kind (length keys) p.few, t);
                        };
                    longd = length-take-le _ ds p.room.degrees ∙ v ∙ sym t;
                    longx = length-take-le _ xs p.room.xors ∙ v ∙ sym t;
                    longq = length-take-le _ q p.room.queue ∙ v ∙ sym t;
                  };
            };
      }
    where
      longt : length (take need.table table) ≡ need.table
      longt = length-take-le _ table p.room.table

  -- the same of the needs as a call answered them
  pub shaped_at : {needed : Needs} → needed ≡ need → Shaped kind keys needed.table (take needed.table table) (take needed.vertices ds) (take needed.vertices xs) (take needed.vertices q) (take needed.vertices ms)
  shaped_at e = rw e shaped

  pub room_at : {needed : Needs} → needed ≡ need → Room needed (lengths_with table ds xs q order ms occ seen)
  room_at e = rw e p.room

-- ---- what the parts hold, in the whole

pub written_part : (number t : ℕ) (new old last : List ℕ) → length new ≡ t → last ≡ new_if number new (take t old) → last ++ drop t old ≡ written number new old
written_part number t new old last l e = go (eqb number 0) refl
  where
    go : (b : Bool) → eqb number 0 ≡ b → last ++ drop t old ≡ cond b (over new old) old
    go true q = rw (e, q, l)
    go false q = rw (e, q) (take-append-drop t old)

pub cleared_part : (v : ℕ) (old last : List ℕ) → v ≤ length old → last ≡ replicate (length (take v old)) 0 → last ++ drop v old ≡ over (replicate v 0) old
cleared_part v old last h e = rw (e, length-take-le v old h, length-replicate {A = ℕ} v 0)

length_assign : (vs : ℕ → List ℕ) (M : ℕ) (val : Cut → ℕ) (d : List Cut) (g : List ℕ) → length (assign vs M val d g) ≡ length g
unfolding assign
length_assign vs M val [] g = refl
length_assign vs M val (p ∷ d) g = length_assign vs M val d (set g p.at _) ∙ length-set g p.at _

pub length_words : (kind : Kind) (keys : List ℕ) (M : ℕ) (val : Cut → ℕ) → length (words_for kind keys M val) ≡ vertices_for kind (length keys)
unfolding words_for
length_words kind keys M val = length_assign _ M val _ _ ∙ length-replicate {A = ℕ} _ 0

-- one key or more
by_count : (n : ℕ) → 1 ≤ n → (n ≡ 1) ⊎ (2 ≤ n)
by_count n h = ⊎_elim (λ l. inr l) (λ l. inl (omega arith)) (lt_or_ge 1 n)

pub length_assigned : (keys values : List ℕ) (modulus : ℕ) → 1 ≤ length keys → length (assigned_table keys values modulus) ≡ vertices_for Assigned (length keys)
length_assigned keys values modulus h =
    ⊎_elim (λ (e : length keys ≡ 1). rw (one_assigned keys values modulus e, e) (sym (vertices_one Assigned)))
    (λ l. rw (many_assigned_table keys values modulus l) (length_words Assigned keys modulus _)) (by_count (length keys) h)

pub length_compact : (keys : List ℕ) → 1 ≤ length keys → length (compact_table keys) ≡ vertices_for Compact (length keys)
length_compact keys h =
    ⊎_elim (λ (e : length keys ≡ 1). rw (one_compact keys e, e) (sym (vertices_one Compact)))
    (λ l. rw (many_compact_table keys _ l refl) (length_words Compact keys 3 _)) (by_count (length keys) h)

pub length_occupied : (keys : List ℕ) → 1 ≤ length keys → length (compact_occupancy keys) ≡ occupancy_bytes (vertices_for Compact (length keys))
length_occupied keys h =
    ⊎_elim (λ (e : length keys ≡ 1). rw (one_occupancy keys e, e, vertices_one Compact))
    (λ l. rw (many_occupancy keys _ l refl) (length_occupancy _ _)) (by_count (length keys) h)

-- ---- the answer

pub answered : (kind : Kind) (keys : List ℕ) (modulus verdict m : ℕ) (ran : Ran) → RanTo kind keys verdict ran → m ≡ vertices_for kind (length keys) → built_for ran.no (record { kind = kind; n = length keys; m = m; seed = ran.seed; modulus = modulus; width = width_for kind modulus }) ≡ built_for ran.no (index_for kind keys modulus)
unfolding index_for
answered kind keys modulus verdict m ran r e = go (eqb ran.no 0) refl
  where
    go : (b : Bool) → eqb ran.no 0 ≡ b → built_for ran.no (record { kind = kind; n = length keys; m = m; seed = ran.seed; modulus = modulus; width = width_for kind modulus }) ≡ built_for ran.no (record { kind = kind; n = length keys; m = vertices_for kind (length keys); seed = seed_for kind keys; modulus = modulus; width = width_for kind modulus })
    go true q = rw (q, e, r.seed_is (eqb-true _ _ q))
    go false q = rw q

-- the number of a build that has begun
pub number_late : (kind : Kind) (keys : List ℕ) (early verdict : ℕ) → 1 ≤ length keys → early ≡ 0 → build_no kind keys early verdict ≡ late_no kind keys verdict
number_late kind keys early verdict h e = rw (e, ne_eqb (length keys) 0 (omega arith))

pub begun_is : (n early : ℕ) → 1 ≤ n → early ≡ 0 → begun n early ≡ true
begun_is n early h e = rw (e, ne_eqb n 0 (omega arith))

-- ---- the values

-- values that were judged sound are below the modulus
pub values_below : (modulus : ℕ) (earlier values : List ℕ) → values_no modulus earlier values ≡ 0 → (i : ℕ) → i < length values → get_or values i 0 < modulus
unfolding values_no
values_below modulus earlier [] e i l = absurd (not-suc-le-zero l)
values_below modulus earlier (x ∷ xs) e zero l =
    ltb-true x modulus (not_none _ (refuse_none 2 (not (ltb x modulus)) (refuse 4 (has x earlier) (values_no modulus (x ∷ earlier) xs)) e).0)
values_below modulus earlier (x ∷ xs) e (suc i) l =
    let next = values_no modulus (x ∷ earlier) xs in
    values_below modulus (x ∷ earlier) xs (refuse_none 3 (has x earlier) next (refuse_none 2 (not (ltb x modulus)) (refuse 4 (has x earlier) next) e).1).1 i (le_of_suc-le-suc l)

pub same_part : (x : ℕ) (s last : List ℕ) → x ≤ length s → length last ≡ length (take x s) → length (last ++ drop x s) ≡ length s
same_part x s last h e = rw (length-append, e, length-drop) (omega (arith, length-take-le x s h))

pub not_begun_refused : (n early : ℕ) → eqb early 0 ≡ false → begun n early ≡ false
not_begun_refused n early h = simp h

pub not_begun_empty : (n early : ℕ) → n ≡ 0 → begun n early ≡ false
not_begun_empty n early h = go (eqb early 0)
  where
    go : (b : Bool) → (b && not (eqb n 0)) ≡ false
    go true = simp h
    go false = refl

-- ---- a build that touches nothing

unused : (s : List ℕ) → Used 0 s s
unused s = record { room = omega arith; long = refl; behind = refl }

module _ (kind : Kind) (keys : List ℕ) (early verdict modulus : ℕ) (need : Needs) (order : ℕ) (words table ds xs q ms : List ℕ) where
  untouched : {built : Result Index Refusal} → told_index built ≡ built_for (build_no kind keys early verdict) (index_for kind keys modulus) → begun (length keys) early ≡ false → table ≡ written (build_no kind keys early verdict) words table
      → ReadyTo kind keys (build_no kind keys early verdict) (begun (length keys) early) (index_for kind keys modulus) need order words table ds xs q ms (untouched_of built) table ds xs q ms
  untouched e b t =
      record {
        answer_is = e;
        vertices_is = rw b;
        order_is = rw b;
        order_room = omega arith;
        order_fits = omega arith;
        degrees = unused ds;
        xors = unused xs;
        queue = unused q;
        marks = unused ms;
        pending = λ some. absurd (omega arith);
        done = λ none. t;
      }

  -- an early refusal
  pub refused_early : {built : Result Index Refusal} → told_index built ≡ refused_build early → eqb early 0 ≡ false
      → ReadyTo kind keys (build_no kind keys early verdict) (begun (length keys) early) (index_for kind keys modulus) need order words table ds xs q ms (untouched_of built) table ds xs q ms
  refused_early e h = untouched (e ∙ simp h) (not_begun_refused (length keys) early h) (simp h)

  -- an empty build
  empty_answer : (given : ℕ) → given ≡ modulus → early ≡ 0 → length keys ≡ 0 → built_for 0 (record { kind = kind; n = 0; m = 0; seed = 0; modulus = given; width = width_for kind given }) ≡ built_for (build_no kind keys early verdict) (index_for kind keys modulus)
  unfolding index_for vertices_for seed_for
  empty_answer given g e l = simp (e, l, g)

  pub built_empty : {built : Result Index Refusal} (given : ℕ) → told_index built ≡ built_for 0 (record { kind = kind; n = 0; m = 0; seed = 0; modulus = given; width = width_for kind given }) → given ≡ modulus → early ≡ 0 → length keys ≡ 0 → words ≡ []
      → ReadyTo kind keys (build_no kind keys early verdict) (begun (length keys) early) (index_for kind keys modulus) need order words table ds xs q ms (untouched_of built) table ds xs q ms
  built_empty given b g e l w = untouched (b ∙ empty_answer given g e l) (not_begun_empty (length keys) early l) (simp (e, l, w))

pub empty_assigned : (keys values : List ℕ) (modulus : ℕ) → length keys ≡ 0 → assigned_table keys values modulus ≡ []
unfolding assigned_table
empty_assigned keys values modulus h = simp h

pub empty_compact : (keys : List ℕ) → length keys ≡ 0 → (compact_table keys ≡ []) × (compact_occupancy keys ≡ [])
unfolding compact_table compact_occupancy
empty_compact keys h = (simp h, simp h)

pub occupied_empty : (keys : List ℕ) (early : ℕ) (occ : List ℕ) → early ≡ 0 → length keys ≡ 0 → occ ≡ written (build_no Compact keys early 0) (compact_occupancy keys) occ
occupied_empty keys early occ e l = simp (e, l, (empty_compact keys l).1)
