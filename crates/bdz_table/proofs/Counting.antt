-- Counting the keys into the tables, and the first queue. Assumes nothing.
use Rattle.std.proofs.Common.{◌≡◌, ℕ, zero, suc, ◌+◌, ◌<◌, ◌≤◌, Bool, true, false, eqb, ◌⊎◌, List, [], ◌∷◌, ◌++◌, length, get_or, take, set, sym, refl, ap, ◌∙◌, ap₂, inl, inr, ⊎_elim, append-nil, le_of_suc-le-suc, eq-or-lt_of_le, add-one, arith, length-append, length-set, take-suc-set, eq-eqb, ne_eqb}
use lib.Bits.{bit_xor}
use Rattle.bdz_base.specs.Verts.{Below, Different}
use Rattle.bdz_base.specs.declared.verts.Verts.{Verts}
use Rattle.bdz_base.specs.declared.verts.Kind.{Kind}
use Rattle.bdz_base.proofs.VertexLaws.{vertices_below, vertices_different}
use Rattle.bdz_table.specs.Graph.{has, Distinct, only_if, fold_to, count_to, xor_to, live_on, degree, xor_at, Graph, Crowded}
use Rattle.bdz_table.specs.Keys.{listed, graph_of, graph_at}
use Rattle.bdz_table.specs.declared.graph.Graph as code
use Rattle.bdz_table.specs.Peel.{keep_if, up_to}
use Rattle.bdz_table.specs.Steps.{Places, Added, Full, AddedOr, Tables, Clear, carrying}
use Rattle.bdz_table.proofs.Fold.{clash, count_true, count_false}
use Rattle.bdz_table.proofs.Has.{known, has_other, has_cons}
use Rattle.bdz_table.proofs.Leaving.{carrying_append}

-- ---- the graph: all that is used of the vertex routine are its laws

three_distinct : {v : Verts} → Different v → Distinct (listed v)
unfolding Distinct has
three_distinct {v} d = (
  has_other v.a v.b (v.c ∷ []) d.a_b ∙ has_other v.a v.c [] d.a_c,
  (has_other v.b v.c [] d.b_c, (refl, tt)),
)

pub three_cases : (v a b c : ℕ) → has v (a ∷ b ∷ c ∷ []) ≡ true → (v ≡ a) ⊎ ((v ≡ b) ⊎ (v ≡ c))
unfolding has
three_cases v a b c t =
    ⊎_elim (λ r. inl r) (λ u. ⊎_elim (λ r. inr (inl r)) (λ w. ⊎_elim (λ r. inr (inr r)) (λ z. clash z refl) (has_cons v c [] w)) (has_cons v b (c ∷ []) u)) (has_cons v a (b ∷ c ∷ []) t)

pub three_inside : (m u : ℕ) {v : Verts} → Below m v → has u (listed v) ≡ true → u < m
three_inside m u {v} b t =
    ⊎_elim (λ (r : u ≡ v.a). omega (arith, b.a_below)) (λ w. ⊎_elim (λ (r : u ≡ v.b). omega (arith, b.b_below)) (λ (r : u ≡ v.c). omega (arith, b.c_below)) w) (three_cases u v.a v.b v.c t)

pub graph_of_lem : (kind : Kind) (keys : List ℕ) (seed n m : ℕ) → 3 ≤ m → Graph (graph_of kind keys seed m) n m
unfolding graph_of
graph_of_lem kind keys seed n m h =
    record {
      distinct = λ e l. three_distinct (vertices_different kind (get_or keys e 0) seed m h);
      inside = λ e v l t. three_inside m v (vertices_below kind (get_or keys e 0) seed m (omega arith)) t;
    }

pub graph_at_lem : (graph : code.Graph) (n : ℕ) → 3 ≤ graph.m → Graph (graph_at graph) n graph.m
graph_at_lem graph n h = graph_of_lem graph.kind graph.keys.now graph.seed n graph.m h

pub graph_few : (kind : Kind) (keys : List ℕ) (seed m e : ℕ) → length (graph_of kind keys seed m e) ≡ 3
unfolding graph_of
graph_few kind keys seed m e = refl

-- ---- one key more

module _ (vs : ℕ → List ℕ) (v : ℕ) where
  pub degree_next : (i : ℕ) → degree vs (i + 1) [] v ≡ degree vs i [] v + only_if (has v (vs i)) 1
  unfolding degree count_to fold_to live_on has
  degree_next i = ap (λ (k : ℕ). degree vs k [] v) (add-one i)

  pub xor_next : (i : ℕ) → xor_at vs (i + 1) [] v ≡ bit_xor (xor_at vs i [] v) (only_if (has v (vs i)) i)
  unfolding xor_at xor_to fold_to live_on has
  xor_next i = ap (λ (k : ℕ). xor_at vs k [] v) (add-one i)

pub count_mono : (p : ℕ → Bool) (i n : ℕ) → i ≤ n → count_to p i ≤ count_to p n
count_mono p i zero h = ap_le (omega arith)
  where
    ap_le : i ≡ 0 → count_to p i ≤ count_to p 0
    ap_le q = omega (arith, ap (count_to p) q)
count_mono p i (suc n) h = ⊎_elim (λ q. omega (arith, ap (count_to p) q)) (λ l. ⊎_elim (λ t. omega (arith, count_true p n t, count_mono p i n (le_of_suc-le-suc l))) (λ t. omega (arith, count_false p n t, count_mono p i n (le_of_suc-le-suc l))) (known (p n))) (eq-or-lt_of_le h)

pub record Counted (vs : ℕ → List ℕ) (n m : ℕ) (ds xs : List ℕ) (i : ℕ) : Type 0 where
  pub upto : i ≤ n
  pub longd : length ds ≡ m
  pub longx : length xs ≡ m
  pub tables : Tables vs i [] ds xs

module _ (vs : ℕ → List ℕ) (n m : ℕ) where
  pub counted_none : (ds xs : List ℕ) → Clear n m ds xs → Counted vs n m ds xs 0
  unfolding degree xor_at count_to xor_to fold_to
  counted_none ds xs c = record { upto = omega arith; longd = c.longd; longx = c.longx; tables = record { degrees = c.zerod; xors = c.zerox } }

  module _ (ds xs : List ℕ) (i : ℕ) (c : Counted vs n m ds xs i) (l : i < n) where
    pub counted_places : Graph vs n m → Places (vs i) ds xs
    counted_places G = record { distinct = G.distinct i l; inside = λ v h. omega (arith, G.inside i v l h, c.longd); same = c.longx ∙ sym c.longd }

    pub counted_full : Full (vs i) ds → Crowded vs n
    unfolding degree
    counted_full f =
        record {
          at = f.at;
          over =
              let a : degree vs (i + 1) [] f.at ≡ 256 =
              degree_next vs f.at i ∙ ap₂ (λ (x : ℕ) (b : Bool). x + only_if b 1) (sym (c.tables.degrees f.at) ∙ f.full) f.on in
              omega (arith, count_mono (live_on vs [] f.at) (i + 1) n (omega arith));
        }

    pub counted_more : (ds' xs' : List ℕ) → length ds' ≡ length ds → length xs' ≡ length xs → Added (vs i) i ds xs ds' xs' → Counted vs n m ds' xs' (i + 1)
    counted_more ds' xs' ld lx a =
        record {
          upto = omega arith;
          longd = ld ∙ c.longd;
          longx = lx ∙ c.longx;
          tables =
              record {
                degrees = λ v. a.degrees v ∙ ap (λ (x : ℕ). x + only_if (has v (vs i)) 1) (c.tables.degrees v) ∙ sym (degree_next vs v i);
                xors = λ v. a.xors v ∙ ap (λ (x : ℕ). bit_xor x (only_if (has v (vs i)) i)) (c.tables.xors v) ∙ sym (xor_next vs v i);
              };
        }

-- ---- the first queue

pub record Filling (ds q₀ q : List ℕ) (n v : ℕ) : Type 0 where
  pub upto : v ≤ length ds
  pub long : length q ≡ length q₀
  pub queue : take n q ≡ carrying 1 ds (up_to v)
  pub count : n ≡ length (carrying 1 ds (up_to v))

carrying_short : (k : ℕ) (ds us : List ℕ) → length (carrying k ds us) ≤ length us
unfolding carrying
carrying_short k ds [] = omega arith
carrying_short k ds (u ∷ us) = go (eqb (get_or ds u 0) k) (carrying_short k ds us)
  where
    go : (b : Bool) → length (carrying k ds us) ≤ length us → length (keep_if b u (carrying k ds us)) ≤ suc (length us)
    go true h = omega arith
    go false h = omega arith

up_to_length : (v : ℕ) → length (up_to v) ≡ v
unfolding up_to
up_to_length zero = refl
up_to_length (suc v) = length-append (up_to v) (v ∷ []) ∙ omega (arith, up_to_length v)

carrying_next : (k : ℕ) (ds : List ℕ) (v : ℕ) → carrying k ds (up_to (v + 1)) ≡ carrying k ds (up_to v) ++ keep_if (eqb (get_or ds v 0) k) v []
unfolding up_to carrying
carrying_next k ds v = ap (λ (i : ℕ). carrying k ds (up_to i)) (add-one v) ∙ carrying_append k ds (up_to v) (v ∷ [])

pub filling_none : (ds q : List ℕ) → Filling ds q q 0 0
unfolding up_to carrying
filling_none ds q = record { upto = omega arith; long = refl; queue = refl; count = refl }

module _ (ds q₀ q : List ℕ) (n v : ℕ) (i : Filling ds q₀ q n v) (l : v < length ds) where
  pub filling_skip : (get_or ds v 0 ≡ 1 → ⊥) → Filling ds q₀ q n (v + 1)
  filling_skip h =
      let k : carrying 1 ds (up_to (v + 1)) ≡ carrying 1 ds (up_to v) =
      carrying_next 1 ds v ∙ ap (λ (b : Bool). carrying 1 ds (up_to v) ++ keep_if b v []) (ne_eqb (get_or ds v 0) 1 h) ∙ append-nil (carrying 1 ds (up_to v)) in
      record { upto = omega arith; long = i.long; queue = i.queue ∙ sym k; count = i.count ∙ ap length (sym k) }

  pub filling_room : length ds ≤ length q₀ → n < length q
  filling_room r = omega (arith, i.count, carrying_short 1 ds (up_to v), up_to_length v, i.long)

  pub filling_push : length ds ≤ length q₀ → get_or ds v 0 ≡ 1 → Filling ds q₀ (set q n v) (n + 1) (v + 1)
  filling_push r h =
      let k : carrying 1 ds (up_to (v + 1)) ≡ carrying 1 ds (up_to v) ++ (v ∷ []) =
      carrying_next 1 ds v ∙ ap (λ (b : Bool). carrying 1 ds (up_to v) ++ keep_if b v []) (eq-eqb (get_or ds v 0) 1 h) in
      record {
        upto = omega arith;
        long = length-set q n v ∙ i.long;
        queue = ap (λ (x : ℕ). take x (set q n v)) (add-one n) ∙ take-suc-set q n v (filling_room r) ∙ ap (λ (t : List ℕ). t ++ (v ∷ [])) i.queue ∙ sym k;
        count = omega (arith, i.count, ap length k ∙ length-append (carrying 1 ds (up_to v)) (v ∷ []));
      }

-- ---- what a call of `add_key` says, by its answer

module _ (us us' : List ℕ) (e : ℕ) (ds xs ds' xs' : List ℕ) (q : us ≡ us') where
  pub added_of : (b : Bool) → b ≡ true → AddedOr b us e ds xs ds' xs' → Added us' e ds xs ds' xs'
  added_of true h a = rw q at a
  added_of false h a = clash h refl

  pub full_of : (b : Bool) → b ≡ false → AddedOr b us e ds xs ds' xs' → Full us' ds
  full_of true h a = clash refl h
  full_of false h a = rw q at a
