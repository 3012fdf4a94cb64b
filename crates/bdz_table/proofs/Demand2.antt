-- Demand 2: a build answers 5 exactly when it passes the earlier checks and each of the 256 seeds fails. And what the Rust tests for on
-- the way never happens: a key number that is none, a degree of 0 to lower, a queue over m entries. Assumes nothing.
use Rattle.std.proofs.Common.{◌≡◌, ℕ, zero, suc, ◌^◌, ◌<◌, ◌≤◌, Bool, true, false, cond, not, ◌&&◌, ◌||◌, eqb, ltb, ◌↔◌, List, [], ◌∷◌, length, get_or, sym, refl, ap, ◌∙◌, inl, inr, ⊎_elim, arith, le-ltb, lt-ltb, eq-eqb, ne_eqb, eqb-true}
use Rattle.bdz_base.specs.Mix.{seed_at}
use Rattle.bdz_base.specs.Refusal.{refuse, accept}
use Rattle.bdz_base.specs.Verts.{verts_of}
use Rattle.bdz_base.specs.declared.verts.Kind.{Kind}
use Rattle.bdz_base.specs.declared.verts.Kind.TheVariants.{Assigned, Compact}
use Rattle.bdz_table.specs.Build.{vertices_for, needs_of, lacks_room, assigned_early, compact_early, build_no, late_no, stuck, index_for, built_for, lengths_of, BuiltAssigned, BuiltCompact}
use Rattle.bdz_table.specs.Graph.{has, live_on, degree, xor_at, times, Peels, Peelable, Graph}
use Rattle.bdz_table.specs.Keys.{graph_of}
use Rattle.bdz_table.specs.Peel.{peel}
use Rattle.bdz_table.specs.Seeds.{Fails, EachFails, works_at, first_from, first_seed}
use Rattle.bdz_table.specs.Values.{values_no}
use Rattle.bdz_table.specs.declared.index.Index.{Index}
use Rattle.bdz_table.specs.declared.needs.Lengths.{Lengths}
use Rattle.bdz_table.specs.declared.pairs.Pair.{Pair}
use Rattle.bdz_table.specs.declared.index.Built.{Built}
use Rattle.bdz_table.proofs.Core.{cut_of_lem, degree_on}
use Rattle.bdz_table.proofs.Counting.{graph_of_lem}
use Rattle.bdz_table.proofs.Fold.{clash}
use Rattle.bdz_table.proofs.Has.{lt_or_ge, has_head, count_le}
use Rattle.bdz_table.proofs.NeedLaws.{vertices_more}
use Rattle.bdz_table.proofs.Queue.{peel_end}
use Rattle.bdz_table.proofs.Tries.{fails_iff, first_is}

-- ---- two keys or more

module _ (kind : Kind) (keys : List ℕ) (m : ℕ) (room : 3 ≤ m) where
  try_iff : (i : ℕ) → (works_at kind keys m i ≡ false) ↔ Fails (graph_of kind keys (seed_at i) m) (length keys)
  unfolding works_at
  try_iff i = fails_iff (graph_of kind keys (seed_at i) m) (length keys) m (graph_of_lem kind keys (seed_at i) (length keys) m room)

  pub none_works : (first_seed kind keys m ≡ 256) ↔ EachFails kind keys m
  unfolding first_seed
  none_works =
      let f = first_is (works_at kind keys m) 256 0 in (
        λ e i l. (try_iff i).0 (f.before i (omega arith) (omega (arith, e))),
        λ h. ⊎_elim (λ (l : first_from (works_at kind keys m) 256 0 < 256). clash (f.here l) ((try_iff _).1 (h _ l))) (λ l. omega (arith, f.limit)) (lt_or_ge (first_from (works_at kind keys m) 256 0) 256),
      )

-- ---- fewer: no seed fails

module _ (vs : ℕ → List ℕ) (v : ℕ) (on : has v (vs 0) ≡ true) where
  few_peels : (n : ℕ) → n ≤ 1 → Peelable vs n
  unfolding times Peels has
  few_peels zero h = record { order = []; each = record { once = λ k l. absurd (omega arith); none = λ k l. refl }; peels = tt }
  few_peels (suc n) h =
      record {
        order = 0 ∷ [];
        each =
            record {
              once = λ k l. let e : k ≡ 0 = omega arith in rw e;
              none = λ k l. rw (ne_eqb k 0 (omega arith));
            };
        peels = ((v, on, λ j t. clash t refl), tt);
      }

  few_works : (n : ℕ) → n ≤ 1 → Fails vs n → ⊥
  unfolding degree
  few_works n h (inl c) = omega (arith, c.over, count_le (live_on vs [] c.at) n)
  few_works n h (inr s) = s (few_peels n h)

-- ---- the number

first_on : (kind : Kind) (keys : List ℕ) (m : ℕ) → has (verts_of kind (get_or keys 0 0) (seed_at 0) m).a (graph_of kind keys (seed_at 0) m 0) ≡ true
unfolding graph_of
first_on kind keys m = has_head _ _

stuck_some : (kind : Kind) (keys : List ℕ) → stuck kind keys ≡ true → length keys ≡ 0 → ⊥
unfolding stuck
stuck_some kind keys e h = clash (rw h at e) refl

pub stuck_iff : (kind : Kind) (keys : List ℕ) → (stuck kind keys ≡ true) ↔ EachFails kind keys (vertices_for kind (length keys))
unfolding stuck
stuck_iff kind keys = ⊎_elim many few (lt_or_ge 1 (length keys))
  where
    m : ℕ
    m = vertices_for kind (length keys)

    many : 1 < length keys → ((ltb 1 (length keys) && eqb (first_seed kind keys m) 256) ≡ true) ↔ EachFails kind keys m
    many l =
        let none = none_works kind keys m (omega (arith, vertices_more kind (length keys) l)) in
        (λ e. none.0 (eqb-true _ _ (rw (lt-ltb 1 (length keys) l) at e)), λ h. rw (lt-ltb 1 (length keys) l, eq-eqb _ _ (none.1 h)))

    few : length keys ≤ 1 → ((ltb 1 (length keys) && eqb (first_seed kind keys m) 256) ≡ true) ↔ EachFails kind keys m
    few l = (λ e. clash (rw (le-ltb 1 (length keys) l) at e) refl, λ h. absurd (few_works (graph_of kind keys (seed_at 0) m) _ (first_on kind keys m) (length keys) l (h 0 (omega arith))))

late_iff : (kind : Kind) (keys : List ℕ) (verdict : ℕ) → (verdict ≡ 5 → ⊥) → (late_no kind keys verdict ≡ 5) ↔ ((verdict ≡ 0) × (stuck kind keys ≡ true))
unfolding late_no
late_iff kind keys verdict not_five = (to (eqb verdict 0) (stuck kind keys) refl refl, λ h. rw (h.0, h.1))
  where
    to : (a b : Bool) → eqb verdict 0 ≡ a → stuck kind keys ≡ b → cond a (refuse 5 b 0) verdict ≡ 5 → (verdict ≡ 0) × (b ≡ true)
    to true true p q e = (eqb-true _ _ p, refl)
    to true false p q e = absurd (omega (arith, e))
    to false b p q e = absurd (not_five e)

pub five_iff : (kind : Kind) (keys : List ℕ) (early verdict : ℕ) → (early ≡ 5 → ⊥) → (verdict ≡ 5 → ⊥)
    → (build_no kind keys early verdict ≡ 5) ↔ ((early ≡ 0) × (verdict ≡ 0) × EachFails kind keys (vertices_for kind (length keys)))
five_iff kind keys early verdict not-early not_late = (to (eqb early 0) (eqb (length keys) 0) refl, from)
  where
    to : (a b : Bool) → eqb early 0 ≡ a → cond (a && not b) (late_no kind keys verdict) early ≡ 5 → (early ≡ 0) × (verdict ≡ 0) × EachFails kind keys (vertices_for kind (length keys))
    to true true p e = absurd (not-early e)
    to true false p e = let l = (late_iff kind keys verdict not_late).0 e in (eqb-true _ _ p, l.0, (stuck_iff kind keys).0 l.1)
    to false b p e = absurd (not-early e)

    from : (early ≡ 0) × (verdict ≡ 0) × EachFails kind keys (vertices_for kind (length keys)) → build_no kind keys early verdict ≡ 5
    from h =
        let s = (stuck_iff kind keys).1 h.2 in
        rw (h.0, ne_eqb (length keys) 0 (stuck_some kind keys s)) ((late_iff kind keys verdict not_late).1 (h.1, s))

-- ---- both builds

-- no earlier check answers 5
refuse_five : (k : ℕ) (b : Bool) (x : ℕ) → refuse k b x ≡ 5 → (k ≡ 5 → ⊥) → x ≡ 5
refuse_five k true x e h = absurd (h e)
refuse_five k false x e h = e

accept_five : (b : Bool) (x : ℕ) → accept b x ≡ 5 → x ≡ 5
accept_five true x e = absurd (omega (arith, e))
accept_five false x e = e

zero_not : ◌≡◌ {A = ℕ} 0 5 → ⊥
zero_not e = omega (arith, e)

-- 13 and 14, with which both builds end their early checks
end_not : (b c : Bool) → refuse 13 b (refuse 14 c 0) ≡ 5 → ⊥
end_not b c e = zero_not (refuse_five 14 c 0 (refuse_five 13 b (refuse 14 c 0) e (λ q. omega (arith, q))) (λ q. omega (arith, q)))

assigned_not : (n values modulus : ℕ) (lent : Lengths) → assigned_early n values modulus lent ≡ 5 → ⊥
unfolding assigned_early
assigned_not n values modulus lent e =
    let b = ltb (2 ^ 30) n || ltb (2 ^ 30) modulus in
    let c = lacks_room (needs_of Assigned n modulus) lent in
    end_not b c (go (not (eqb n values)) (eqb n 0) (eqb modulus 0) (refuse 13 b (refuse 14 c 0)) e)
  where
    go : (a b c : Bool) (x : ℕ) → refuse 1 a (accept b (refuse 2 c x)) ≡ 5 → x ≡ 5
    go a b c x e = refuse_five 2 c x (accept_five b _ (refuse_five 1 a _ e (λ q. omega (arith, q)))) (λ q. omega (arith, q))

compact_not : (n : ℕ) (lent : Lengths) → compact_early n lent ≡ 5 → ⊥
unfolding compact_early
compact_not n lent e = end_not (ltb (2 ^ 30) n) (lacks_room (needs_of Compact n n) lent) (accept_five (eqb n 0) _ e)

values_not : (modulus : ℕ) (earlier values : List ℕ) → values_no modulus earlier values ≡ 5 → ⊥
unfolding values_no
values_not modulus earlier [] e = zero_not e
values_not modulus earlier (x ∷ xs) e =
    let next = values_no modulus (x ∷ earlier) xs in
    let a = refuse_five 3 (not (ltb x modulus)) (refuse 4 (has x earlier) next) e (λ q. omega (arith, q)) in
    values_not modulus (x ∷ earlier) xs (refuse_five 4 (has x earlier) next a (λ q. omega (arith, q)))

number_is : (number : ℕ) (index : Index) (r : Built) → r ≡ built_for number index → r.no ≡ number
number_is number index r e = ap (λ (b : Built). b.no) e ∙ go (eqb number 0) refl
  where
    go : (b : Bool) → eqb number 0 ≡ b → (built_for number index).no ≡ number
    go true q = rw q (sym (eqb-true number 0 q))
    go false q = rw q

module _ (keys values : List ℕ) (modulus : ℕ) (table ds xs q : List ℕ) (order : List Pair) (ms seen : List ℕ) (r : Built) (table' ds' xs' q' : List ℕ) (order' : List Pair) (ms' seen' : List ℕ) where
  -- whatever an assigned build is given
  pub assigned_demand_2 : BuiltAssigned keys values modulus table ds xs q order ms seen r table' ds' xs' q' order' ms' seen'
      → (r.no ≡ 5) ↔ ((assigned_early (length keys) (length values) modulus (lengths_of table ds xs q order ms [] seen) ≡ 0) × (values_no modulus [] values ≡ 0) × EachFails Assigned keys (vertices_for Assigned (length keys)))
  assigned_demand_2 b =
      let early = assigned_early (length keys) (length values) modulus (lengths_of table ds xs q order ms [] seen) in
      let n = number_is (build_no Assigned keys early (values_no modulus [] values)) (index_for Assigned keys modulus) r b.to.answer_is in
      rw n (five_iff Assigned keys early (values_no modulus [] values) (assigned_not _ _ _ _) (values_not modulus [] values))

module _ (keys table occ ds xs q : List ℕ) (order : List Pair) (ms : List ℕ) (r : Built) (table' occ' ds' xs' q' : List ℕ) (order' : List Pair) (ms' : List ℕ) where
  -- and a compact one
  pub compact_demand_2 : BuiltCompact keys table occ ds xs q order ms r table' occ' ds' xs' q' order' ms'
      → (r.no ≡ 5) ↔ ((compact_early (length keys) (lengths_of table ds xs q order ms occ []) ≡ 0) × EachFails Compact keys (vertices_for Compact (length keys)))
  compact_demand_2 b =
      let early = compact_early (length keys) (lengths_of table ds xs q order ms occ []) in
      let f = five_iff Compact keys early 0 (compact_not _ _) zero_not in
      let n = number_is (build_no Compact keys early 0) (index_for Compact keys (length keys)) r b.to.answer_is in
      rw n (λ e. let g = f.0 e in (g.0, g.2), λ g. f.1 (g.0, refl, g.1))

-- ---- what never happens

-- a vertex of degree 1 names a key of the graph, and one that is still there
pub key_possible : (vs : ℕ → List ℕ) (n : ℕ) (gone : List ℕ) (v : ℕ) → degree vs n gone v ≡ 1 → (xor_at vs n gone v < n) × (has (xor_at vs n gone v) gone ≡ false)
key_possible vs n gone v h = let c = cut_of_lem vs n gone v h in (c.below, c.fresh)

-- every vertex of a key that is still there has a degree to lower
pub degree_possible : (vs : ℕ → List ℕ) (n : ℕ) (gone : List ℕ) (e v : ℕ) → e < n → has e gone ≡ false → has v (vs e) ≡ true → 1 ≤ degree vs n gone v
degree_possible vs n gone e v l f h = omega (arith, degree_on vs n gone e l f v h)

-- the queue never holds over m entries
pub queue_fits : (vs : ℕ → List ℕ) (n m : ℕ) → Graph vs n m → length (peel vs n m).queue ≤ m
queue_fits vs n m G = (peel_end vs n m G).short
