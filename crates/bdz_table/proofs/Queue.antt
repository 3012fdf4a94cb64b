-- The queue peeler: its invariant, that its queue never holds more than m entries, and that it decides peelability.
-- Assumes nothing.
use Rattle.std.proofs.Common.{◌≡◌, ℕ, zero, suc, ◌+◌, ◌<◌, ◌≤◌, Bool, true, false, eqb, leb, ◌⊎◌, List, [], ◌∷◌, ◌++◌, length, get_or, drop, sym, refl, ap, ◌∙◌, inl, inr, ⊎_elim, le_of_suc-le-suc, not-suc-le-zero, eq-or-lt_of_le, arith, drop_of_length-le, drop-cons, eqb-true, leb-false, leb-true}
use borrow.Author.Tests.{eqb-false}
use lib.Seq.{drop-append-le}
use Rattle.bdz_table.specs.Graph.{has, Distinct, degree, xor_at, Peelable, Graph}
use Rattle.bdz_table.specs.Peel.{Cut, keys_of, keep_if, ones, State, turn_if, turn, turns_if, turns, up_to, peel}
use Rattle.bdz_table.proofs.Fold.{clash}
use Rattle.bdz_table.proofs.Has.{known, has_head, has_other, has_cons, has_tail, has_append_l, has_append_r, has_append_cases, distinct_append, distinct_short, distinct_missing}
use Rattle.bdz_table.proofs.Core.{degree_on, degree_off, degree_falls, CutOf, cut_of_lem, Cuts, keys_distinct, keys_below, keys_length, peelable_of, not_peelable}

-- ---- the vertices of degree 1 among some

module _ (vs : ℕ → List ℕ) (n : ℕ) (gone : List ℕ) where
  pub ones_is : (us : List ℕ) (u : ℕ) → has u (ones vs n gone us) ≡ true → (has u us ≡ true) × (degree vs n gone u ≡ 1)
  unfolding ones has
  ones_is [] u h = clash h refl
  ones_is (x ∷ us) u h = go (eqb (degree vs n gone x) 1) refl h (λ t. ones_is us u t)
    where
      go : (b : Bool) → eqb (degree vs n gone x) 1 ≡ b → has u (keep_if b x (ones vs n gone us)) ≡ true
          → (has u (ones vs n gone us) ≡ true → (has u us ≡ true) × (degree vs n gone u ≡ 1)) → (has u (x ∷ us) ≡ true) × (degree vs n gone u ≡ 1)
      go true q t ih =
          ⊎_elim (λ r. (ap (λ (y : ℕ). has u (y ∷ us)) (sym r) ∙ has_head u us, ap (degree vs n gone) r ∙ eqb-true (degree vs n gone x) 1 q))
          (λ r. (has_tail u x us (ih r).0, (ih r).1)) (has_cons u x (ones vs n gone us) t)
      go false q t ih = (has_tail u x us (ih t).0, (ih t).1)

  pub ones_has : (us : List ℕ) (u : ℕ) → has u us ≡ true → degree vs n gone u ≡ 1 → has u (ones vs n gone us) ≡ true
  unfolding ones has
  ones_has [] u h d = h
  ones_has (x ∷ us) u h d = go (eqb (degree vs n gone x) 1) refl (has_cons u x us h) (λ t. ones_has us u t d)
    where
      go : (b : Bool) → eqb (degree vs n gone x) 1 ≡ b → (u ≡ x) ⊎ (has u us ≡ true) → (has u us ≡ true → has u (ones vs n gone us) ≡ true)
          → has u (keep_if b x (ones vs n gone us)) ≡ true
      go true q (inl r) ih = ap (λ (y : ℕ). has u (y ∷ ones vs n gone us)) (sym r) ∙ has_head u (ones vs n gone us)
      go true q (inr r) ih = has_tail u x (ones vs n gone us) (ih r)
      go false q (inl r) ih = absurd (eqb-false (degree vs n gone x) 1 q (ap (degree vs n gone) (sym r) ∙ d))
      go false q (inr r) ih = ih r

  pub ones_distinct : (us : List ℕ) → Distinct us → Distinct (ones vs n gone us)
  unfolding ones Distinct
  ones_distinct [] d = tt
  ones_distinct (x ∷ us) d = go (eqb (degree vs n gone x) 1) (ones_distinct us d.1)
    where
      go : (b : Bool) → Distinct (ones vs n gone us) → Distinct (keep_if b x (ones vs n gone us))
      go true ih = (⊎_elim (λ t. clash (ones_is us x t).0 d.0) (λ t. t) (known (has x (ones vs n gone us))), ih)
      go false ih = ih

-- ---- the invariant

pub record Inv (vs : ℕ → List ℕ) (n m qi : ℕ) (s : State) : Type 0 where
  pub cuts : Cuts vs n s.done
  pub ready : (v : ℕ) → degree vs n (keys_of s.done) v ≡ 1 → has v (drop qi s.queue) ≡ true
  pub low : (v : ℕ) → has v s.queue ≡ true → degree vs n (keys_of s.done) v ≤ 1
  pub different : Distinct s.queue
  pub small : (v : ℕ) → has v s.queue ≡ true → v < m

-- the queue has room for every entry
pub queue_short : (vs : ℕ → List ℕ) (n m qi : ℕ) (s : State) → Inv vs n m qi s → length s.queue ≤ m
queue_short vs n m qi s i = distinct_short m s.queue i.different i.small

module _ (vs : ℕ → List ℕ) (n m : ℕ) (G : Graph vs n m) where
  module _ (qi : ℕ) (s : State) (i : Inv vs n m qi s) (l : qi < length s.queue) where
    next_not : (u : ℕ) → (u ≡ get_or s.queue qi 0 → ⊥) → has u (drop qi s.queue) ≡ true → has u (drop (suc qi) s.queue) ≡ true
    next_not u d h =
        ⊎_elim (λ q. absurd (d q)) (λ t. t) (has_cons u (get_or s.queue qi 0) (drop (suc qi) s.queue) (ap (has u) (sym (drop-cons s.queue qi 0 l)) ∙ h))

    skips : (degree vs n (keys_of s.done) (get_or s.queue qi 0) ≡ 1 → ⊥) → Inv vs n m (suc qi) s
    skips d =
        record {
          cuts = i.cuts;
          ready = λ u h. next_not u (λ q. d (ap (degree vs n (keys_of s.done)) (sym q) ∙ h)) (i.ready u h);
          low = i.low;
          different = i.different;
          small = i.small;
        }

    takes : degree vs n (keys_of s.done) (get_or s.queue qi 0) ≡ 1 → Inv vs n m (suc qi) (turn_if vs n true (get_or s.queue qi 0) s)
    unfolding turn_if Cuts keys_of
    takes d =
        record {
          cuts = (c, i.cuts);
          ready = λ u h. ⊎_elim (λ t. on u h t) (λ t. off u h t) (known (has u (vs e)));
          low = λ u h. ⊎_elim (λ t. omega (arith, degree_falls vs n gone e c.below c.fresh u, i.low u t)) (λ t. omega (arith, (ones_is vs n (e ∷ gone) (vs e) u t).1)) (has_append_cases u s.queue new h);
          different = distinct_append s.queue new i.different (ones_distinct vs n (e ∷ gone) (vs e) (G.distinct e c.below)) apart;
          small = λ u h. ⊎_elim (i.small u) (λ t. G.inside e u c.below (ones_is vs n (e ∷ gone) (vs e) u t).0) (has_append_cases u s.queue new h);
        }
      where
        gone : List ℕ
        gone = keys_of s.done

        v : ℕ
        v = get_or s.queue qi 0

        e : ℕ
        e = xor_at vs n gone v

        c : CutOf vs n gone e v
        c = cut_of_lem vs n gone v d

        new : List ℕ
        new = ones vs n (e ∷ gone) (vs e)

        on : (u : ℕ) → degree vs n (e ∷ gone) u ≡ 1 → has u (vs e) ≡ true → has u (drop (suc qi) (s.queue ++ new)) ≡ true
        on u h t = ap (has u) (drop-append-le (suc qi) s.queue new l) ∙ has_append_r u (drop (suc qi) s.queue) new (ones_has vs n (e ∷ gone) (vs e) u t h)

        off : (u : ℕ) → degree vs n (e ∷ gone) u ≡ 1 → has u (vs e) ≡ false → has u (drop (suc qi) (s.queue ++ new)) ≡ true
        off u h t =
            ap (has u) (drop-append-le (suc qi) s.queue new l)
            ∙ has_append_l u (drop (suc qi) s.queue) new
            (next_not u (λ r. clash c.on (ap (λ (y : ℕ). has y (vs e)) (sym r) ∙ t)) (i.ready u (sym (degree_off vs n gone e c.below c.fresh u t) ∙ h)))

        apart : (k : ℕ) → has k s.queue ≡ true → has k new ≡ false
        apart k h =
            ⊎_elim (λ t. absurd (let o : (has k (vs e) ≡ true) × (degree vs n (e ∷ gone) k ≡ 1) = ones_is vs n (e ∷ gone) (vs e) k t in
            omega (arith, i.low k h, degree_on vs n gone e c.below c.fresh k o.0))) (λ t. t) (known (has k new))

    pub turn_inv : Inv vs n m (suc qi) (turn vs n (get_or s.queue qi 0) s)
    unfolding turn turn_if
    turn_inv = go (eqb (degree vs n (keys_of s.done) (get_or s.queue qi 0)) 1) refl
      where
        go : (b : Bool) → eqb (degree vs n (keys_of s.done) (get_or s.queue qi 0)) 1 ≡ b → Inv vs n m (suc qi) (turn_if vs n b (get_or s.queue qi 0) s)
        go true q = takes (eqb-true _ _ q)
        go false q = skips (eqb-false _ _ q)

  pub record End (s : State) : Type 0 where
    pub cuts : Cuts vs n s.done
    pub stuck : (v : ℕ) → degree vs n (keys_of s.done) v ≡ 1 → ⊥
    pub short : length s.queue ≤ m

  ends : (qi : ℕ) (s : State) → Inv vs n m qi s → length s.queue ≤ qi → End s
  unfolding has
  ends qi s i l =
      record {
        cuts = i.cuts;
        stuck = λ v h. clash (i.ready v h) (ap (has v) (drop_of_length-le s.queue l));
        short = queue_short vs n m qi s i;
      }

  pub turns_end : (fuel qi : ℕ) (s : State) → Inv vs n m qi s → m ≤ fuel + qi → End (turns vs n fuel qi s)
  unfolding turns turns_if
  turns_end zero qi s i h = ends qi s i (omega (arith, queue_short vs n m qi s i))
  turns_end (suc fuel) qi s i h = go (leb (length s.queue) qi) refl (λ l. turns_end fuel (suc qi) (turn vs n (get_or s.queue qi 0) s) (turn_inv qi s i l) (omega arith))
    where
      go : (b : Bool) → leb (length s.queue) qi ≡ b → (qi < length s.queue → End (turns vs n fuel (suc qi) (turn vs n (get_or s.queue qi 0) s)))
          → End (turns_if b s (turns vs n fuel (suc qi) (turn vs n (get_or s.queue qi 0) s)))
      go true q ih = ends qi s i (leb-true _ _ q)
      go false q ih = ih (leb-false _ _ q)

-- ---- from the start

pub up_to_has : (n i : ℕ) → i < n → has i (up_to n) ≡ true
unfolding up_to
up_to_has zero i l = absurd (not-suc-le-zero l)
up_to_has (suc n) i l = ⊎_elim (λ q. has_append_r i (up_to n) (n ∷ []) (ap (λ (y : ℕ). has i (y ∷ [])) (sym q) ∙ has_head i [])) (λ k. has_append_l i (up_to n) (n ∷ []) (up_to_has n i k)) (eq-or-lt_of_le (le_of_suc-le-suc l))

pub up_to_below : (n i : ℕ) → has i (up_to n) ≡ true → i < n
unfolding up_to has
up_to_below zero i h = clash h refl
up_to_below (suc n) i h = ⊎_elim (λ t. omega (arith, up_to_below n i t)) (λ t. ⊎_elim (λ q. omega arith) (λ f. clash f refl) (has_cons i n [] t)) (has_append_cases i (up_to n) (n ∷ []) h)

pub up_to_distinct : (n : ℕ) → Distinct (up_to n)
unfolding up_to Distinct has
up_to_distinct zero = tt
up_to_distinct (suc n) = distinct_append (up_to n) (n ∷ []) (up_to_distinct n) (refl, tt) (λ k h. has_other k n [] (λ q. omega (arith, up_to_below n k h)))

module _ (vs : ℕ → List ℕ) (n m : ℕ) (G : Graph vs n m) where
  -- a vertex of degree 1 is one of the m
  pub degree_small : (gone : List ℕ) (v : ℕ) → degree vs n gone v ≡ 1 → v < m
  degree_small gone v h = let c : CutOf vs n gone (xor_at vs n gone v) v = cut_of_lem vs n gone v h in G.inside (xor_at vs n gone v) v c.below c.on

  pub start : Inv vs n m 0 (record { queue = ones vs n [] (up_to m); done = [] })
  unfolding Cuts keys_of
  start =
      record {
        cuts = tt;
        ready = λ v h. ones_has vs n [] (up_to m) v (up_to_has m v (degree_small [] v h)) h;
        low = λ v h. omega (arith, (ones_is vs n [] (up_to m) v h).1);
        different = ones_distinct vs n [] (up_to m) (up_to_distinct m);
        small = λ v h. up_to_below m v (ones_is vs n [] (up_to m) v h).0;
      }

  pub peel_end : End vs n m G (peel vs n m)
  unfolding peel
  peel_end = turns_end vs n m G m 0 (record { queue = ones vs n [] (up_to m); done = [] }) start (omega arith)

  -- the peel decides
  pub peel_yes : length (peel vs n m).done ≡ n → Peelable vs n
  peel_yes h = peelable_of vs n (peel vs n m).done peel_end.cuts h

  pub peel_no : (length (peel vs n m).done ≡ n → ⊥) → Peelable vs n → ⊥
  peel_no h p =
      let d : List Cut = (peel vs n m).done in
      let r : (e : ℕ) × (e < n) × (has e (keys_of d) ≡ false) =
      distinct_missing n (keys_of d) (keys_distinct vs n d peel_end.cuts) (keys_below vs n d peel_end.cuts) (λ q. h (sym (keys_length d) ∙ q)) in
      not_peelable vs n (keys_of d) peel_end.stuck r.0 r.1 r.2 p
