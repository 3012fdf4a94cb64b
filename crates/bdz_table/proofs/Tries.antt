-- The search for a seed: what it is that a try works, and that the search finds the first. Assumes nothing.
use Rattle.std.proofs.Common.{◌≡◌, ℕ, zero, suc, ◌+◌, ◌-◌, ◌<◌, ◌≤◌, Bool, true, false, cond, not, ◌&&◌, ◌||◌, ltb, ◌↔◌, List, [], length, sym, refl, ap, ◌∙◌, inl, inr, ⊎_elim, not-suc-le-zero, add-one, arith, ltb-true, lt-ltb, eq-eqb, ne_eqb, eqb-true}
use borrow.Author.Tests.{eqb-false}
use Rattle.bdz_base.specs.Mix.{state_at, seed_at, step_of}
use Rattle.bdz_base.specs.declared.verts.Kind.{Kind}
use Rattle.bdz_base.specs.declared.mix.Step.{Step}
use Rattle.bdz_table.specs.Graph.{has, live_on, degree, Crowded, Peelable, Graph}
use Rattle.bdz_table.specs.Keys.{graph_of}
use Rattle.bdz_table.specs.Peel.{peel}
use Rattle.bdz_table.specs.Seeds.{Fails, any_to, crowded, peels_all, works_at, first_from, first_seed}
use Rattle.bdz_table.specs.Steps.{PeelAnswer, SeedFound}
use Rattle.bdz_table.proofs.Fold.{clash, count_none}
use Rattle.bdz_table.proofs.Has.{known, lt_or_ge, or_true}
use Rattle.bdz_table.proofs.Queue.{peel_yes, peel_no}
use Rattle.bdz_table.proofs.Turning.{cuts_length}
use Rattle.bdz_table.proofs.Counting.{graph_of_lem}

-- ---- one try

any_some : (p : ℕ → Bool) (m v : ℕ) → v < m → p v ≡ true → any_to p m ≡ true
unfolding any_to
any_some p zero v l h = absurd (not-suc-le-zero l)
any_some p (suc m) v l h =
    ⊎_elim (λ k. rw (any_some p m v k h)) (λ k.
    let e : v ≡ m = omega arith in
    let q : p m ≡ true = rw (← e) h in
    rw q (or_true (any_to p m))) (lt_or_ge v m)

any_found : (p : ℕ → Bool) (m : ℕ) → any_to p m ≡ true → (v : ℕ) × (p v ≡ true)
unfolding any_to
any_found p zero h = clash h refl
any_found p (suc m) h = go (any_to p m) (p m) refl refl h (any_found p m)
  where
    go : (s t : Bool) → any_to p m ≡ s → p m ≡ t → (s || t) ≡ true → (any_to p m ≡ true → (v : ℕ) × (p v ≡ true)) → (v : ℕ) × (p v ≡ true)
    go true t e f g below = below e
    go false true e f g below = (m, f)
    go false false e f g below = clash g refl

module _ (vs : ℕ → List ℕ) (n m : ℕ) (G : Graph vs n m) where
  -- no key lies on a vertex past m
  degree_past : (v : ℕ) → m ≤ v → degree vs n [] v ≡ 0
  unfolding degree live_on has
  degree_past v h =
      count_none (live_on vs [] v) n (λ i l. ⊎_elim (λ t. absurd (omega (arith, G.inside i v l t))) (λ t. t) (known (has v (vs i))))

  pub crowded_yes : Crowded vs n → crowded vs n m ≡ true
  unfolding crowded
  crowded_yes c =
      any_some (λ v. ltb 255 (degree vs n [] v)) m c.at
      (⊎_elim (λ l. l) (λ l. absurd (omega (arith, c.over, degree_past c.at l))) (lt_or_ge c.at m)) (lt-ltb 255 (degree vs n [] c.at) c.over)

  pub crowded_is : crowded vs n m ≡ true → Crowded vs n
  unfolding crowded
  crowded_is h =
      let f = any_found (λ v. ltb 255 (degree vs n [] v)) m h in
      record { at = f.0; over = ltb-true 255 (degree vs n [] f.0) f.1 }

  pub peels_is : peels_all vs n m ≡ true → Peelable vs n
  unfolding peels_all
  peels_is h = peel_yes vs n m G (eqb-true _ _ h)

  pub peels_not : peels_all vs n m ≡ false → Peelable vs n → ⊥
  unfolding peels_all
  peels_not h = peel_no vs n m G (eqb-false _ _ h)

  abbrev passes : Bool
  passes = not (crowded vs n m) && peels_all vs n m

  -- what the peeler answers is whether the try works
  pub answered : (r : Bool) (xs q : List ℕ) → PeelAnswer r vs n m xs q → r ≡ passes
  unfolding peels_all
  answered true xs q a =
      let w = a.yes refl in
      let loose : crowded vs n m ≡ false = ⊎_elim (λ t. absurd (w.loose (crowded_is t))) (λ t. t) (known (crowded vs n m)) in
      let all : length (peel vs n m).done ≡ n = ap length (sym w.order) ∙ cuts_length xs q n in
      rw (loose, eq-eqb _ _ all)
  answered false xs q a =
      ⊎_elim (λ c. rw (crowded_yes c)) (λ s. rw (ne_eqb _ _ (λ e. s (peel_yes vs n m G e))) (and_false (not (crowded vs n m)))) (a.no refl)
    where
      and_false : (b : Bool) → false ≡ (b && false)
      and_false true = refl
      and_false false = refl

  -- a try fails exactly when a vertex is crowded or there is no order
  pub fails_iff : (passes ≡ false) ↔ Fails vs n
  fails_iff = (to (crowded vs n m) (peels_all vs n m) refl refl, from)
    where
      to : (s t : Bool) → crowded vs n m ≡ s → peels_all vs n m ≡ t → passes ≡ false → Fails vs n
      to true t e f h = inl (crowded_is e)
      to false true e f h = clash (sym (rw (e, f) at h)) refl
      to false false e f h = inr (peels_not f)

      from : Fails vs n → passes ≡ false
      from (inl c) = rw (crowded_yes c)
      from (inr s) = go (crowded vs n m) (peels_all vs n m) refl
        where
          go : (a b : Bool) → peels_all vs n m ≡ b → (not a && b) ≡ false
          go true b f = refl
          go false true f = absurd (s (peels_is f))
          go false false f = refl

-- ---- the search

first_here : (works : ℕ → Bool) (k i : ℕ) → works i ≡ true → first_from works (suc k) i ≡ i
unfolding first_from
first_here works k i h = rw h

first_later : (works : ℕ → Bool) (k i : ℕ) → works i ≡ false → first_from works (suc k) i ≡ first_from works k (suc i)
unfolding first_from
first_later works k i h = rw h

-- it ends at a try that works, or past the last of its tries, each of which failed
pub record First (works : ℕ → Bool) (k i r : ℕ) : Type 0 where
  pub limit : r ≤ i + k
  pub before : (j : ℕ) → i ≤ j → j < r → works j ≡ false
  pub here : r < i + k → works r ≡ true

pub first_is : (works : ℕ → Bool) (k i : ℕ) → First works k i (first_from works k i)
unfolding first_from
first_is works zero i = record { limit = omega arith; before = λ j a b. absurd (omega arith); here = λ l. absurd (omega arith) }
first_is works (suc k) i = go (works i) refl (first_is works k (suc i))
  where
    go : (b : Bool) → works i ≡ b → First works k (suc i) (first_from works k (suc i)) → First works (suc k) i (cond b i (first_from works k (suc i)))
    go true e f = record { limit = omega arith; before = λ j a b. absurd (omega arith); here = λ l. e }
    go false e f =
        record {
          limit = omega (arith, f.limit);
          before = λ j a b. ⊎_elim (λ (l : i < j). f.before j l b) (λ (l : j ≤ i). let q : j ≡ i = omega arith in rw q e) (lt_or_ge i j);
          here = λ l. f.here (omega arith);
        }

pub record Searching (kind : Kind) (keys : List ℕ) (m state tries : ℕ) : Type 0 where
  pub limit : tries ≤ 256
  pub at : state ≡ state_at tries
  pub same : first_from (works_at kind keys m) (256 - tries) tries ≡ first_seed kind keys m

module _ (kind : Kind) (keys : List ℕ) (m : ℕ) where
  pub searching_none : Searching kind keys m 0x9e37_79b9_7f4a_7c15 0
  unfolding state_at first_seed
  searching_none = record { limit = omega arith; at = refl; same = refl }

  module _ (state tries : ℕ) (s : Searching kind keys m state tries) where
    pub searching_all : 256 ≤ tries → first_seed kind keys m ≡ 256
    unfolding first_from
    searching_all l =
        let e : tries ≡ 256 = omega (arith, s.limit) in
        sym (rw e at s.same)

    module _ (l : tries < 256) {step : Step} (e : step ≡ step_of state) where
      pub seed_here : step.seed ≡ seed_at tries
      unfolding seed_at
      seed_here = rw (e, s.at)

      state_next : step.state ≡ state_at (tries + 1)
      unfolding state_at
      state_next = rw (e, s.at, add-one tries)

      left : 256 - tries ≡ suc (256 - suc tries)
      left = omega arith

      module _ (xs q : List ℕ) (b : Bool) (big : 3 ≤ m) (a : PeelAnswer b (graph_of kind keys step.seed m) (length keys) m xs q) where
        works_here : b ≡ works_at kind keys m tries
        unfolding works_at
        works_here =
            answered (graph_of kind keys (seed_at tries) m) (length keys) m (graph_of_lem kind keys (seed_at tries) (length keys) m big) b xs q (rw seed_here at a)

        pub searching_found : b ≡ true → SeedFound kind keys m xs q step.seed
        searching_found t =
            let first : first_seed kind keys m ≡ tries = sym (rw left at s.same) ∙ first_here (works_at kind keys m) (256 - suc tries) tries (sym works_here ∙ t) in
            record { limit = rw first l; seed_is = rw first seed_here; works = rw first ((rw seed_here at a).yes t) }

        pub searching_more : b ≡ false → Searching kind keys m step.state (tries + 1)
        searching_more t =
            record {
              limit = omega arith;
              at = state_next;
              same = rw add-one (sym (first_later (works_at kind keys m) (256 - suc tries) tries (sym works_here ∙ t)) ∙ rw left at s.same);
            }
