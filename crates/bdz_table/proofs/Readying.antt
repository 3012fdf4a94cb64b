-- What a run leaves in the needed parts is, in the whole of what is lent, a build up to its pairs. Assumes nothing.
use Rattle.std.proofs.Common.{Result, ◌≡◌, ℕ, zero, suc, ◌<◌, ◌≤◌, Bool, true, false, cond, eqb, List, [], ◌++◌, length, get_or, take, drop, replicate, sym, refl, ap, ◌∙◌, ⊎_elim, arith, length-take-le, take_at, drop_at, le-ltb, lt-ltb, eqb-true}
use lib.ListN.{length-replicate, get_or-append}
use Rattle.bdz_base.specs.Buffer.{written}
use Rattle.bdz_base.specs.Refusal.{refuse}
use Rattle.bdz_base.specs.Sizes.{occupancy_bytes}
use Rattle.bdz_base.specs.declared.refusal.Refusal.{Refusal}
use Rattle.bdz_base.specs.declared.verts.Kind.{Kind}
use Rattle.bdz_base.specs.declared.verts.Kind.TheVariants.{Assigned, Compact}
use Rattle.bdz_table.specs.Build.{vertices_for, needs_of, begun, stuck, late_no, build_no, width_for, index_for, built_for, assigned_table, compact_table, compact_occupancy, lengths_with}
use Rattle.bdz_table.specs.Steps.{Ran, cuts_of, RanTo, OrderLeft, SoughtMany, Sought, new_if, cleared_if, OccupancySought, Used, Zeroed, Awaiting, ReadyTo, untouched_of, AssignedReady, CompactReady}
use Rattle.bdz_table.specs.Values.{values_no}
use Rattle.bdz_table.specs.declared.build.Ready.{Ready}
use Rattle.bdz_table.specs.declared.index.Needs.{Needs}
use Rattle.bdz_table.specs.declared.index.Index.{Index}
use Rattle.bdz_table.specs.Told.{told_index}
use Rattle.bdz_table.proofs.Begun.{Passed, need_table, need_vertices, need_order, answered, number_late, begun_is, written_part, same_part}
use Rattle.bdz_table.proofs.Has.{lt_or_ge}
use Rattle.bdz_table.proofs.NeedLaws.{vertices_more}
use Rattle.bdz_table.proofs.Runs.{old_stays}

-- ---- parts

pub used-part : (v : ℕ) (old last : List ℕ) → v ≤ length old → length last ≡ length (take v old) → Used v old (last ++ drop v old)
used-part v old last h e =
    record { room = h; long = same_part v old last h e; behind = drop_at last (drop v old) v (e ∙ length-take-le v old h) }

pub zeroed_part : (k : ℕ) (old last : List ℕ) → k ≤ length old → last ≡ replicate k 0 → Zeroed k old (last ++ drop k old)
zeroed_part k old last h e =
    let l : length last ≡ k = ap length e ∙ length-replicate {A = ℕ} k 0 in
    record { room = h; zeros = take_at last (drop k old) k l ∙ e; behind = drop_at last (drop k old) k l }

-- the order that was left is read from the front of longer buffers
module _ (kind : Kind) (keys : List ℕ) (m : ℕ) (xs q xrest qrest : List ℕ) (left : OrderLeft kind keys m xs q) (longx : length xs ≡ m) (longq : length q ≡ m) (few : length keys ≤ m) where
  queue_front : (i : ℕ) → i < length keys → get_or (q ++ qrest) i 0 ≡ get_or q i 0
  queue_front i h = get_or-append q qrest 0 i (omega (arith, longq, few))

  xor_front : (i : ℕ) → i < length keys → get_or (xs ++ xrest) (get_or (q ++ qrest) i 0) 0 ≡ get_or xs (get_or q i 0) 0
  xor_front i h =
      ap (λ (v : ℕ). get_or (xs ++ xrest) v 0) (queue_front i h) ∙ get_or-append xs xrest 0 (get_or q i 0) (omega (arith, left.vertices i h, longx))

  cuts_front : (c : ℕ) → c ≤ length keys → cuts_of (xs ++ xrest) (q ++ qrest) c ≡ cuts_of xs q c
  unfolding cuts_of
  cuts_front zero h = refl
  cuts_front (suc c) h = rw (xor_front c h, queue_front c h, cuts_front c (omega arith))

  pub left_front : OrderLeft kind keys m (xs ++ xrest) (q ++ qrest)
  left_front =
      record {
        order = cuts_front (length keys) (omega arith) ∙ left.order;
        edges = λ i h. rw (xor_front i h) (left.edges i h);
        vertices = λ i h. rw (queue_front i h) (left.vertices i h);
      }

-- ---- a run

pub sought_many : {kind : Kind} {keys : List ℕ} {m : ℕ} {table : List ℕ} {r : Ran} {table' xs' q' ms' : List ℕ} → SoughtMany kind keys m table r table' xs' q' ms' → (new : List ℕ) → Sought kind keys m new table r table' xs' q' ms'
sought_many {table = table} {r = r} s new =
    record { pending = s.pending; done = λ none. s.same none ∙ old_stays r.no new table (s.refused none) }

-- a run that has no pairs pending
pub sought_done : {kind : Kind} {keys : List ℕ} {m : ℕ} {new table : List ℕ} {r : Ran} {table' xs' q' ms' : List ℕ} → r.pairs ≡ 0 → table' ≡ new_if r.no new table → Sought kind keys m new table r table' xs' q' ms'
sought_done none e = record { pending = λ some. absurd (omega arith); done = λ z. e }

-- a run that was accepted had no value refused
pub verdict_none : (kind : Kind) (keys : List ℕ) (verdict : ℕ) → late_no kind keys verdict ≡ 0 → verdict ≡ 0
unfolding late_no
verdict_none kind keys verdict e = go (eqb verdict 0) refl e
  where
    go : (b : Bool) → eqb verdict 0 ≡ b → cond b (refuse 5 (stuck kind keys) 0) verdict ≡ 0 → verdict ≡ 0
    go true t z = eqb-true verdict 0 t
    go false t z = z

pub occupancy_sought : {kind : Kind} {keys : List ℕ} {m : ℕ} {table : List ℕ} {r : Ran} {table' xs' q' ms' : List ℕ} → SoughtMany kind keys m table r table' xs' q' ms' → {occ occ' : List ℕ} → occ' ≡ cleared_if r.no occ → length occ ≡ occupancy_bytes m → OccupancySought keys m r occ occ'
occupancy_sought {keys = keys} {m = m} {r = r} s {occ} e l =
    record {
      pending = λ some. e ∙ rw ((s.pending some).accepted, l);
      done = λ none.
          e ∙ sym (old_stays r.no (replicate (length occ) 0) occ (s.refused none)) ∙ old_stays r.no (compact_occupancy keys) occ (s.refused none);
    }

pub occupancy_done : {keys : List ℕ} {m : ℕ} {r : Ran} {occ occ' : List ℕ} → r.pairs ≡ 0 → occ' ≡ new_if r.no (compact_occupancy keys) occ → OccupancySought keys m r occ occ'
occupancy_done none e = record { pending = λ some. absurd (omega arith); done = λ z. e }

-- ---- a build that touches nothing

pub assigned_untouched : (early : ℕ) (keys values : List ℕ) (modulus order : ℕ) (table ds xs q ms seen : List ℕ) {r : Ready} {built : Result Index Refusal} → r ≡ untouched_of built → begun (length keys) early ≡ false
    → ReadyTo Assigned keys (build_no Assigned keys early (values_no modulus [] values)) (begun (length keys) early) (index_for Assigned keys modulus) (needs_of Assigned (length keys) modulus) order (assigned_table keys values modulus) table ds xs q ms (untouched_of built) table ds xs q ms
    → AssignedReady early keys values modulus order table ds xs q ms seen r table ds xs q ms seen
assigned_untouched early keys values modulus order table ds xs q ms seen e b to =
    rw e (record { to = to; seen_is = rw b; same = λ some. absurd (omega arith); values_limit = λ some. absurd (omega arith); values_below = λ some. absurd (omega arith) })

pub compact_untouched : (early : ℕ) (keys : List ℕ) (order : ℕ) (table occ ds xs q ms : List ℕ) {r : Ready} {built : Result Index Refusal} → r ≡ untouched_of built → occ ≡ written (build_no Compact keys early 0) (compact_occupancy keys) occ
    → ReadyTo Compact keys (build_no Compact keys early 0) (begun (length keys) early) (index_for Compact keys (length keys)) (needs_of Compact (length keys) (length keys)) order (compact_table keys) table ds xs q ms (untouched_of built) table ds xs q ms
    → CompactReady early keys order table occ ds xs q ms r table occ ds xs q ms
compact_untouched early keys order table occ ds xs q ms e o to =
    rw e (record { to = to; occupied = λ some. absurd (omega arith); occupancy_done = λ none. o })

-- ---- a build that has begun

order_below : (kind : Kind) (n modulus : ℕ) → (needs_of kind n modulus).order ≤ (needs_of kind n modulus).vertices
unfolding needs_of
order_below kind n modulus =
    ⊎_elim (λ (l : n < 2). rw (lt-ltb n 2 l) (omega arith)) (λ (l : 2 ≤ n). rw (le-ltb n 2 l) (omega (arith, vertices_more kind n l))) (lt_or_ge n 2)

module _ (kind : Kind) (keys : List ℕ) (modulus early verdict order : ℕ) (new table ds xs q ms occ seen : List ℕ) {needed : Needs} {ran : Ran} {m : ℕ} (built : Result Index Refusal)
    (some : 1 ≤ length keys) (passed-early : early ≡ 0) (is : needed ≡ needs_of kind (length keys) modulus) (p : Passed kind (length keys) modulus (lengths_with table ds xs q order ms occ seen)) (words : m ≡ needed.table)
    (answer : told_index built ≡ built_for ran.no (record { kind = kind; n = length keys; m = m; seed = ran.seed; modulus = modulus; width = width_for kind modulus }))
    (ran_to : RanTo kind keys verdict ran) where
  size : m ≡ vertices_for kind (length keys)
  size = words ∙ ap (λ (x : Needs). x.table) is ∙ need_table kind (length keys) modulus

  pub number_is : build_no kind keys early verdict ≡ ran.no
  number_is = number_late kind keys early verdict some passed-early ∙ sym ran_to.no_is

  -- of two keys or more every scratch buffer has an entry a vertex
  entries : 2 ≤ length keys → needed.vertices ≡ m
  entries h = ap (λ (x : Needs). x.vertices) is ∙ need_vertices kind (length keys) modulus h ∙ sym size

  roomd : needed.vertices ≤ length ds
  roomd = omega (arith, ap (λ (x : Needs). x.vertices) is, p.room.degrees)

  roomx : needed.vertices ≤ length xs
  roomx = omega (arith, ap (λ (x : Needs). x.vertices) is, p.room.xors)

  roomq : needed.vertices ≤ length q
  roomq = omega (arith, ap (λ (x : Needs). x.vertices) is, p.room.queue)

  roomm : needed.vertices ≤ length ms
  roomm = omega (arith, ap (λ (x : Needs). x.vertices) is, p.room.marks)

  roomt : needed.table ≤ length table
  roomt = omega (arith, ap (λ (x : Needs). x.table) is, p.room.table)

  module _ (t' d' x' q' m' : List ℕ) (sought : Sought kind keys m new (take needed.table table) ran t' x' q' m') (long : length new ≡ needed.table)
      (lt : length t' ≡ length (take needed.table table)) (ld : length d' ≡ length (take needed.vertices ds)) (lx : length x' ≡ length (take needed.vertices xs)) (lq : length q' ≡ length (take needed.vertices q)) (lm : length m' ≡ length (take needed.vertices ms)) where
    awaiting : 0 < ran.pairs → Awaiting kind keys (build_no kind keys early verdict) (record { built = built; seed = ran.seed; m = m; pairs = ran.pairs; vertices = needed.vertices; order = needed.order }) table (x' ++ drop needed.vertices xs) (q' ++ drop needed.vertices q) (m' ++ drop needed.vertices ms) (t' ++ drop needed.table table)
    awaiting h =
        let w = sought.pending h in
        let e = entries w.many in
        let longx : length x' ≡ m = lx ∙ length-take-le needed.vertices xs roomx ∙ e in
        let longq : length q' ≡ m = lq ∙ length-take-le needed.vertices q roomq ∙ e in
        let longm : length m' ≡ m = lm ∙ length-take-le needed.vertices ms roomm ∙ e in
        let few : length keys ≤ m = omega (arith, size, vertices_more kind (length keys) w.many) in
        record {
          accepted = number_is ∙ w.accepted;
          many = w.many;
          all = w.all;
          is = size;
          entries = e;
          order_all = ap (λ (x : Needs). x.order) is ∙ need_order kind (length keys) modulus w.many;
          seed_is = ran_to.seed_is w.accepted;
          left = left_front kind keys m x' q' (drop needed.vertices xs) (drop needed.vertices q) w.left longx longq few;
          words = rw words (zeroed_part needed.table table t' roomt (w.words ∙ ap (λ (k : ℕ). replicate k 0) words));
          marks_room = omega (arith, same_part needed.vertices ms m' roomm lm, e, roomm);
          marks = take_at m' (drop needed.vertices ms) m longm ∙ w.marks;
        }

    pub ready_begun : ReadyTo kind keys (build_no kind keys early verdict) (begun (length keys) early) (index_for kind keys modulus) (needs_of kind (length keys) modulus) order new table ds xs q ms
        (record { built = built; seed = ran.seed; m = m; pairs = ran.pairs; vertices = needed.vertices; order = needed.order })
        (t' ++ drop needed.table table) (d' ++ drop needed.vertices ds) (x' ++ drop needed.vertices xs) (q' ++ drop needed.vertices q) (m' ++ drop needed.vertices ms)
    ready_begun =
        let go = begun_is (length keys) early some passed-early in
        record {
          answer_is = answer ∙ answered kind keys modulus verdict m ran ran_to size ∙ ap (λ (k : ℕ). built_for k (index_for kind keys modulus)) (sym number_is);
          vertices_is = rw (go, is);
          order_is = rw (go, is);
          order_room = omega (arith, ap (λ (x : Needs). x.order) is, p.room.order);
          order_fits = omega (arith, ap (λ (x : Needs). x.order) is, ap (λ (x : Needs). x.vertices) is, order_below kind (length keys) modulus);
          degrees = used-part needed.vertices ds d' roomd ld;
          xors = used-part needed.vertices xs x' roomx lx;
          queue = used-part needed.vertices q q' roomq lq;
          marks = used-part needed.vertices ms m' roomm lm;
          pending = awaiting;
          done = λ none. rw number_is (written_part ran.no needed.table new table t' long (sought.done none));
        }
