-- What an accepted build of two keys or more comes to: by an assigned table every key finds its value, by a compact one a vertex of
-- its own, and the occupancy marks those vertices and no others. Assumes nothing.
use Rattle.std.proofs.Common.{subst, ◌≡◌, ℕ, zero, suc, ◌+◌, ◌*◌, ◌/◌, ◌%◌, ◌^◌, ◌<◌, ◌≤◌, Bool, true, false, cond, not, ◌&&◌, eqb, ◌↔◌, List, [], ◌∷◌, ◌++◌, length, get_or, set, replicate, sym, refl, ap, ◌∙◌, ⊎_elim, mul-one, arith, le-ltb, lt-ltb, ne_eqb, eqb-true}
use borrow.Author.Tests.{eqb-false}
use lib.ListN.{length-replicate}
use Rattle.bdz_base.specs.Mix.{seed_at}
use Rattle.bdz_base.specs.Pack.{word_at}
use Rattle.bdz_base.specs.Verts.{InParts}
use Rattle.bdz_base.specs.declared.verts.Kind.{Kind}
use Rattle.bdz_base.specs.declared.verts.Kind.TheVariants.{Assigned, Compact}
use Rattle.bdz_base.specs.declared.verts.Verts.{Verts}
use Rattle.bdz_base.proofs.VertexLaws.{vertices_in_parts}
use Rattle.bdz_table.specs.Assign.{sum_at, word_for, assign, part_of, looked, Sums}
use Rattle.bdz_table.specs.Build.{vertices_for, assigned_early, compact_early, stuck, late_no, build_no, seed_for, cuts_for, words_for, assigned_table, compact_table, compact_occupancy}
use Rattle.bdz_table.specs.Graph.{has, Distinct, only_if, count_to, Graph}
use Rattle.bdz_table.specs.Keys.{listed, graph_of}
use Rattle.bdz_table.specs.Peel.{Cut, keys_of, ats_of, peel}
use Rattle.bdz_table.specs.Seeds.{crowded, peels_all, works_at, first_seed}
use Rattle.bdz_table.specs.Values.{values_no}
use Rattle.bdz_table.specs.declared.needs.Lengths.{Lengths}
use Rattle.bdz_table.proofs.Assigned.{sums, ats_distinct}
use Rattle.bdz_table.proofs.Begun.{refuse_none, assigned_passed, number_late, values_below}
use Rattle.bdz_table.proofs.Bits.{occupancy_bit}
use Rattle.bdz_table.proofs.Core.{CutOf, Cuts, keys_distinct, keys_below, keys_length}
use Rattle.bdz_table.proofs.Counting.{three_cases, graph_of_lem, graph_few}
use Rattle.bdz_table.proofs.Fold.{clash}
use Rattle.bdz_table.proofs.Has.{has_cons, has_head, has_tail, count_has, distinct_full}
use Rattle.bdz_table.proofs.NeedLaws.{vertices_more}
use Rattle.bdz_table.proofs.Order.{ats_below, ats_length}
use Rattle.bdz_table.proofs.Queue.{peel_end}
use Rattle.bdz_table.proofs.Runs.{part_below, many_assigned_table, many_compact_table, many_occupancy}
use Rattle.bdz_table.proofs.Tries.{first_is}
use Rattle.bdz_table.proofs.Words.{sum_front, word_below}
use Rattle.bdz_table.proofs.Zeroing.{replicate_zero}

-- ---- an accepted build

both_true : (a b : Bool) → (a && b) ≡ true → b ≡ true
both_true true b e = e
both_true false b e = clash e refl

-- no check refused, and the kept seed peels all keys
pub record Accepted (kind : Kind) (keys : List ℕ) (early verdict : ℕ) : Type 0 where
  pub early_none : early ≡ 0
  pub verdict_none : verdict ≡ 0
  pub peels : length (cuts_for kind keys) ≡ length keys

-- the kept seed is the first that works
pub seed_kept : (kind : Kind) (keys : List ℕ) → 2 ≤ length keys → seed_for kind keys ≡ seed_at (first_seed kind keys (vertices_for kind (length keys)))
unfolding seed_for
seed_kept kind keys h = rw (ne_eqb (length keys) 0 (omega arith), ne_eqb (length keys) 1 (omega arith))

first_works : (kind : Kind) (keys : List ℕ) (m : ℕ) → eqb (first_seed kind keys m) 256 ≡ false → works_at kind keys m (first_seed kind keys m) ≡ true
unfolding first_seed
first_works kind keys m h =
    let f = first_is (works_at kind keys m) 256 0 in
    let ne : first_seed kind keys m ≡ 256 → ⊥ = eqb-false _ _ h in
    f.here (omega (arith, f.limit))

works_all : (kind : Kind) (keys : List ℕ) (m i : ℕ) → works_at kind keys m i ≡ true → length (peel (graph_of kind keys (seed_at i) m) (length keys) m).done ≡ length keys
unfolding works_at peels_all
works_all kind keys m i h = eqb-true _ _ (both_true (not (crowded (graph_of kind keys (seed_at i) m) (length keys) m)) _ h)

not_stuck : (kind : Kind) (keys : List ℕ) → 2 ≤ length keys → stuck kind keys ≡ false → length (cuts_for kind keys) ≡ length keys
unfolding stuck cuts_for
not_stuck kind keys h s =
    let m = vertices_for kind (length keys) in
    ap (λ (seed : ℕ). length (peel (graph_of kind keys seed m) (length keys) m).done) (seed_kept kind keys h)
    ∙ works_all kind keys m (first_seed kind keys m) (first_works kind keys m (rw (lt-ltb 1 (length keys) h) at s))

-- a build of one key or more that answers 0 was refused by no check
pub none_refused : (kind : Kind) (keys : List ℕ) (early verdict : ℕ) → 1 ≤ length keys → build_no kind keys early verdict ≡ 0 → (early ≡ 0) × (verdict ≡ 0) × (stuck kind keys ≡ false)
unfolding late_no
none_refused kind keys early verdict h e =
    let a : early ≡ 0 = begins (eqb early 0) refl e in
    let late : late_no kind keys verdict ≡ 0 = sym (number_late kind keys early verdict h a) ∙ e in
    let b = judged (eqb verdict 0) refl late in
    (a, b.0, b.1)
  where
    begins : (b : Bool) → eqb early 0 ≡ b → cond (b && not (eqb (length keys) 0)) (late_no kind keys verdict) early ≡ 0 → early ≡ 0
    begins true q e = eqb-true early 0 q
    begins false q e = e

    judged : (b : Bool) → eqb verdict 0 ≡ b → cond b (cond (stuck kind keys) 5 0) verdict ≡ 0 → (verdict ≡ 0) × (stuck kind keys ≡ false)
    judged true q e = (eqb-true verdict 0 q, (refuse_none 4 (stuck kind keys) 0 e).0)
    judged false q e = absurd (eqb-false verdict 0 q e)

pub accepted : (kind : Kind) (keys : List ℕ) (early verdict : ℕ) → 2 ≤ length keys → build_no kind keys early verdict ≡ 0 → Accepted kind keys early verdict
accepted kind keys early verdict h e =
    let a = none_refused kind keys early verdict (omega arith) e in
    record { early_none = a.0; verdict_none = a.1; peels = not_stuck kind keys h a.2 }

-- ---- the words of a table

set_below : (M : ℕ) (g : List ℕ) (i w : ℕ) → w < M → ((v : ℕ) → get_or g v 0 < M) → (v : ℕ) → get_or (set g i w) v 0 < M
set_below M [] i w l h v = h v
set_below M (x ∷ g) zero w l h zero = l
set_below M (x ∷ g) zero w l h (suc v) = h (suc v)
set_below M (x ∷ g) (suc i) w l h zero = h zero
set_below M (x ∷ g) (suc i) w l h (suc v) = set_below M g i w l (λ u. h (suc u)) v

-- every word is below the modulus
pub words_below : (vs : ℕ → List ℕ) (M : ℕ) (val : Cut → ℕ) (d : List Cut) (g : List ℕ) → 0 < M → ((v : ℕ) → get_or g v 0 < M) → (v : ℕ) → get_or (assign vs M val d g) v 0 < M
unfolding assign
words_below vs M val [] g p h v = h v
words_below vs M val (c ∷ d) g p h v =
    let w = word_for M (val c) (sum_at g (vs c.key)) in
    words_below vs M val d (set g c.at w) p (set_below M g c.at w (word_below M (val c) (sum_at g (vs c.key)) p) h) v

-- so a sum of them is small
pub sum_below : (M : ℕ) (g us : List ℕ) → ((v : ℕ) → get_or g v 0 < M) → sum_at g us + length us ≤ length us * M
unfolding sum_at
sum_below M g [] h = omega arith
sum_below M g (u ∷ us) h = omega (arith, h u, sum_below M g us h)

pub table_below : (kind : Kind) (keys : List ℕ) (M : ℕ) (val : Cut → ℕ) → 0 < M → (v : ℕ) → get_or (words_for kind keys M val) v 0 < M
unfolding words_for
table_below kind keys M val p =
    let m = vertices_for kind (length keys) in
    words_below (graph_of kind keys (seed_for kind keys) m) M val (cuts_for kind keys) (replicate m 0) p (λ v. omega (arith, replicate_zero m v))

-- ---- the cuts of an accepted build

module _ (kind : Kind) (keys : List ℕ) (many : 2 ≤ length keys) where
  abbrev size : ℕ
  size = vertices_for kind (length keys)

  abbrev graph : ℕ → List ℕ
  graph = graph_of kind keys (seed_for kind keys) size

  pub graph_is : Graph graph (length keys) size
  graph_is = graph_of_lem kind keys (seed_for kind keys) (length keys) size (omega (arith, vertices_more kind (length keys) many))

  -- words behind a table do not count
  pub sum_behind : (g rest : List ℕ) → length g ≡ size → (e : ℕ) → e < length keys → sum_at (g ++ rest) (graph e) ≡ sum_at g (graph e)
  sum_behind g rest t e l = sum_front g rest (graph e) (λ u k. rw t (graph_is.inside e u l k))

  pub cuts_are : Cuts graph (length keys) (cuts_for kind keys)
  unfolding cuts_for
  cuts_are = (peel_end graph (length keys) size graph_is).cuts

  -- every key is cut
  pub all_cut : length (cuts_for kind keys) ≡ length keys → (e : ℕ) → e < length keys → has e (keys_of (cuts_for kind keys)) ≡ true
  all_cut l =
      let d = cuts_for kind keys in
      distinct_full (length keys) (keys_of d) (keys_distinct graph (length keys) d cuts_are) (keys_below graph (length keys) d cuts_are) (keys_length d ∙ l)

  -- by as many vertices as there are keys
  pub ats_counted : length (cuts_for kind keys) ≡ length keys → count_to (λ v. has v (ats_of (cuts_for kind keys))) size ≡ length keys
  ats_counted l =
      let d = cuts_for kind keys in
      count_has size (ats_of d) (ats_distinct graph (length keys) size graph_is d cuts_are) (ats_below graph (length keys) size graph_is d cuts_are)
      ∙ ats_length graph (length keys) size graph_is d ∙ l

  -- and comes to its cut's value
  pub sums_are : (M : ℕ) (val : Cut → ℕ) → ((p : Cut) → p.key < length keys → has p.at (graph p.key) ≡ true → val p < M) → Sums graph M val (words_for kind keys M val) (cuts_for kind keys)
  unfolding words_for
  sums_are M val b =
      sums graph (length keys) size graph_is M val (cuts_for kind keys) (replicate size 0) cuts_are (length-replicate size 0) (λ v t. replicate_zero size v) b

-- ---- the assigned kind

sums_key : (vs : ℕ → List ℕ) (M : ℕ) (val : ℕ → ℕ) (g : List ℕ) (d : List Cut) → Sums vs M (λ p. val p.key) g d → (e : ℕ) → has e (keys_of d) ≡ true → sum_at g (vs e) % M ≡ val e
unfolding Sums keys_of has
sums_key vs M val g [] s e h = clash h refl
sums_key vs M val g (p ∷ d) s e h =
    ⊎_elim (λ q. ap (λ (x : ℕ). sum_at g (vs x) % M) q ∙ s.0 ∙ ap val (sym q)) (λ t. sums_key vs M val g d s.1 e t) (has_cons e p.key (keys_of d) h)

-- what a lookup of key number e sums
abbrev pub assigned_sum : List ℕ → List ℕ → ℕ → ℕ → ℕ
assigned_sum keys values modulus e =
    sum_at (assigned_table keys values modulus) (graph_of Assigned keys (seed_for Assigned keys) (vertices_for Assigned (length keys)) e)

pub record AssignedFound (keys values : List ℕ) (modulus : ℕ) : Type 0 where
  pub below : (v : ℕ) → get_or (assigned_table keys values modulus) v 0 < modulus
  -- the sum modulo 2^32 is the sum
  pub small : (e : ℕ) → assigned_sum keys values modulus e < 2 ^ 32
  pub value : (e : ℕ) → e < length keys → assigned_sum keys values modulus e % modulus ≡ get_or values e 0

pub assigned_found : (keys values : List ℕ) (modulus : ℕ) (lent : Lengths) → 2 ≤ length keys
    → build_no Assigned keys (assigned_early (length keys) (length values) modulus lent) (values_no modulus [] values) ≡ 0 → AssignedFound keys values modulus
assigned_found keys values modulus lent h e =
    let a = accepted Assigned keys (assigned_early (length keys) (length values) modulus lent) (values_no modulus [] values) h e in
    let p = assigned_passed (length keys) (length values) modulus lent (omega arith) a.early_none in
    let val : ℕ → ℕ = λ e. get_or values e 0 in
    let words = words_for Assigned keys modulus (λ p. val p.key) in
    let vs = graph_of Assigned keys (seed_for Assigned keys) (vertices_for Assigned (length keys)) in
    let some : modulus ≡ 0 → ⊥ = p.some in
    let low : (v : ℕ) → get_or words v 0 < modulus = table_below Assigned keys modulus (λ p. val p.key) (omega arith) in
    let is : assigned_table keys values modulus ≡ words = many_assigned_table keys values modulus h in
    record {
      below = rw is low;
      small = rw is (λ e. three_small modulus (sum_at words (vs e)) p.limit (rw (graph_few Assigned keys (seed_for Assigned keys) (vertices_for Assigned (length keys)) e) at (sum_below modulus words (vs e) low)));
      value = rw is (λ e l. sums_key vs modulus val words (cuts_for Assigned keys)
          (sums_are Assigned keys h modulus (λ p. val p.key) (λ c k t. values_below modulus [] values a.verdict_none c.key (omega (arith, p.same))))
          e (all_cut Assigned keys h a.peels e l));
    }
  where
    three_small : (M s : ℕ) → M ≤ 2 ^ 30 → s + 3 ≤ 3 * M → s < 2 ^ 32
    three_small M s l h = omega arith

-- ---- the compact kind

-- the vertices of a key lie in different parts, in the order of the parts
pub record Partite (vs : ℕ → List ℕ) (n k : ℕ) (part : ℕ → ℕ) : Type 0 where
  pub among : (e v : ℕ) → e < n → has v (vs e) ≡ true → part v < k
  pub at : (e v : ℕ) → e < n → has v (vs e) ≡ true → get_or (vs e) (part v) 0 ≡ v

module _ (m v : ℕ) {w : Verts} (i : InParts (m / 3) w) where
  part_at : has v (listed w) ≡ true → get_or (listed w) (part_of m v) 0 ≡ v
  unfolding part_of
  part_at t =
      ⊎_elim (λ (q : v ≡ w.a). rw (lt-ltb v (m / 3) (omega (arith, i.first))) (sym q))
      (λ u. ⊎_elim (λ (q : v ≡ w.b). rw (le-ltb v (m / 3) (omega (arith, i.second_from)), lt-ltb v (2 * (m / 3)) (omega (arith, i.second_to))) (sym q))
      (λ (q : v ≡ w.c). rw (le-ltb v (m / 3) (omega (arith, i.third_from)), le-ltb v (2 * (m / 3)) (omega (arith, i.third_from))) (sym q)) u)
      (three_cases v w.a w.b w.c t)

pub partite_of : (keys : List ℕ) (seed n m : ℕ) → 3 ≤ m → Partite (graph_of Compact keys seed m) n 3 (part_of m)
unfolding graph_of
partite_of keys seed n m h =
    record {
      among = λ e v l t. part_below m v;
      at = λ e v l t. part_at m v (vertices_in_parts (get_or keys e 0) seed m h) t;
    }

module _ (vs : ℕ → List ℕ) (n k : ℕ) (part : ℕ → ℕ) (P : Partite vs n k part) (g : List ℕ) where
  -- the newest cut's key finds its vertex
  first_at : (p : Cut) (gone : List ℕ) → CutOf vs n gone p.key p.at → sum_at g (vs p.key) % k ≡ part p.at → (e : ℕ) → e ≡ p.key → looked vs k g e ≡ p.at
  unfolding looked
  first_at p gone c s e q =
      ap (λ (x : ℕ). get_or (vs x) (sum_at g (vs x) % k) 0) q ∙ ap (λ (x : ℕ). get_or (vs p.key) x 0) s ∙ P.at p.key p.at c.below c.on

  -- each key finds a vertex by which it was cut, one of its own
  looked_at : (d : List Cut) → Cuts vs n d → Sums vs k (λ p. part p.at) g d → (e : ℕ) → has e (keys_of d) ≡ true → (has (looked vs k g e) (ats_of d) ≡ true) × (has (looked vs k g e) (vs e) ≡ true)
  unfolding Cuts Sums keys_of ats_of has
  looked_at [] c s e h = clash h refl
  looked_at (p ∷ d) c s e h =
      ⊎_elim (λ (q : e ≡ p.key). let f = first_at p (keys_of d) c.0 s.0 e q in (subst (λ (x : ℕ). has x (p.at ∷ ats_of d) ≡ true) (sym f) (has_head p.at (ats_of d)), rw (f, q) c.0.on))
      (λ t. let r = looked_at d c.1 s.1 e t in (has_tail (looked vs k g e) p.at (ats_of d) r.0, r.1)) (has_cons e p.key (keys_of d) h)

  -- and each vertex of a cut is found
  at_looked : (d : List Cut) → Cuts vs n d → Sums vs k (λ p. part p.at) g d → (v : ℕ) → has v (ats_of d) ≡ true → (e : ℕ) × (has e (keys_of d) ≡ true) × (looked vs k g e ≡ v)
  unfolding Cuts Sums keys_of ats_of has
  at_looked [] c s v h = clash h refl
  at_looked (p ∷ d) c s v h =
      ⊎_elim (λ (q : v ≡ p.at). (p.key, has_head p.key (keys_of d), first_at p (keys_of d) c.0 s.0 p.key refl ∙ sym q))
      (λ t. let r = at_looked d c.1 s.1 v t in (r.0, has_tail r.0 p.key (keys_of d) r.1, r.2)) (has_cons v p.at (ats_of d) h)

  looked_once : (d : List Cut) → Cuts vs n d → Distinct (ats_of d) → Sums vs k (λ p. part p.at) g d → (e f : ℕ) → has e (keys_of d) ≡ true → has f (keys_of d) ≡ true
      → looked vs k g e ≡ looked vs k g f → e ≡ f
  unfolding Cuts Sums Distinct keys_of ats_of has
  looked_once [] c a s e f he hf q = clash he refl
  looked_once (p ∷ d) c a s e f he hf q =
      ⊎_elim
      (λ (x : e ≡ p.key). ⊎_elim (λ (y : f ≡ p.key). x ∙ sym y)
      (λ t. clash (ap (λ (v : ℕ). has v (ats_of d)) (sym (first_at p (keys_of d) c.0 s.0 e x) ∙ q) ∙ (looked_at d c.1 s.1 f t).0) a.0) (has_cons f p.key (keys_of d) hf))
      (λ t. ⊎_elim (λ (y : f ≡ p.key). clash (ap (λ (v : ℕ). has v (ats_of d)) (sym (first_at p (keys_of d) c.0 s.0 f y) ∙ sym q) ∙ (looked_at d c.1 s.1 e t).0) a.0)
      (λ u. looked_once d c.1 a.1 s.1 e f t u q) (has_cons f p.key (keys_of d) hf))
      (has_cons e p.key (keys_of d) he)

-- the vertices of key number e, and the one that its lookup finds
abbrev pub compact_vertices : List ℕ → ℕ → List ℕ
compact_vertices keys = graph_of Compact keys (seed_for Compact keys) (vertices_for Compact (length keys))

abbrev pub compact_looked : List ℕ → ℕ → ℕ
compact_looked keys = looked (compact_vertices keys) 3 (compact_table keys)

pub record CompactFound (keys : List ℕ) : Type 0 where
  pub below : (v : ℕ) → get_or (compact_table keys) v 0 < 3
  -- a key finds one of its vertices, by which a key was cut
  pub own : (e : ℕ) → e < length keys → (has (compact_looked keys e) (compact_vertices keys e) ≡ true) × (has (compact_looked keys e) (ats_of (cuts_for Compact keys)) ≡ true)
  pub inside : (e : ℕ) → e < length keys → compact_looked keys e < vertices_for Compact (length keys)
  pub different : (e f : ℕ) → e < length keys → f < length keys → compact_looked keys e ≡ compact_looked keys f → e ≡ f
  pub occupied : (v : ℕ) → v < vertices_for Compact (length keys) → (word_at 1 (compact_occupancy keys) v ≡ 1) ↔ ((e : ℕ) × (e < length keys) × (compact_looked keys e ≡ v))

-- the bit of a vertex of two keys or more
pub occupancy_at : (keys : List ℕ) (v : ℕ) → 2 ≤ length keys → v < vertices_for Compact (length keys) → word_at 1 (compact_occupancy keys) v ≡ only_if (has v (ats_of (cuts_for Compact keys))) 1
unfolding word_at
occupancy_at keys v h l =
    rw (many_occupancy keys (vertices_for Compact (length keys)) h refl, mul-one v) (occupancy_bit (vertices_for Compact (length keys)) v (ats_of (cuts_for Compact keys)) l)

pub compact_found : (keys : List ℕ) (lent : Lengths) → 2 ≤ length keys → build_no Compact keys (compact_early (length keys) lent) 0 ≡ 0 → CompactFound keys
compact_found keys lent h b =
    let a = accepted Compact keys (compact_early (length keys) lent) 0 h b in
    let n = length keys in
    let m = vertices_for Compact n in
    let vs = compact_vertices keys in
    let d = cuts_for Compact keys in
    let val : Cut → ℕ = λ p. part_of m p.at in
    let g = compact_table keys in
    let is : g ≡ words_for Compact keys 3 val = many_compact_table keys m h refl in
    let G = graph_is Compact keys h in
    let c = cuts_are Compact keys h in
    let P = partite_of keys (seed_for Compact keys) n m (omega (arith, vertices_more Compact n h)) in
    let s : Sums vs 3 val g d = rw is (sums_are Compact keys h 3 val (λ p k t. part_below m p.at)) in
    let cut = all_cut Compact keys h a.peels in
    let at : (e : ℕ) → e < n → (has (looked vs 3 g e) (ats_of d) ≡ true) × (has (looked vs 3 g e) (vs e) ≡ true) = λ e l. looked_at vs n 3 (part_of m) P g d c s e (cut e l) in
    record {
      below = rw is (table_below Compact keys 3 val (omega arith));
      own = λ e l. ((at e l).1, (at e l).0);
      inside = λ e l. G.inside e (looked vs 3 g e) l (at e l).1;
      different = λ e f k l q. looked_once vs n 3 (part_of m) P g d c (ats_distinct vs n m G d c) s e f (cut e k) (cut f l) q;
      occupied = λ v l. (
        λ q.
            let r = at_looked vs n 3 (part_of m) P g d c s v (only_one (has v (ats_of d)) (sym (occupancy_at keys v h l) ∙ q)) in
            (r.0, keys_below vs n d c r.0 r.1, r.2),
        λ r. occupancy_at keys v h l ∙ ap (λ (b : Bool). only_if b 1) (ap (λ (u : ℕ). has u (ats_of d)) (sym r.2) ∙ (at r.0 r.1).0),
      );
    }
  where
    only_one : (b : Bool) → only_if b 1 ≡ 1 → b ≡ true
    only_one true q = refl
    only_one false q = absurd (omega (arith, q))
