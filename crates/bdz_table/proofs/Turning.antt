-- The turns of the queue peeler on the lent buffers. The order is left in scratch: the entries of the queue that are
-- read are overwritten by the cut vertices, and the xor word of a cut vertex, which carries no key any more, by its key's
-- number. So the queue of the definition is kept as a ghost, and the xor words are known where a key is left.
-- Assumes nothing.
use Rattle.std.proofs.Common.{◌≡◌, ℕ, zero, suc, ◌+◌, ◌-◌, ◌<◌, ◌≤◌, Bool, true, eqb, List, [], ◌∷◌, ◌++◌, length, get_or, take, set, sym, refl, ap, ◌∙◌, subst, ap₂, ⊎_elim, add-one, arith, length-append, length-set, length-take-le, get_or-set_other, get_or-take, get_or-set_same, get_or-append-add, eq-eqb, ne_eqb, le-leb}
use native.Mathlib.Nat.{sub-zero}
use borrow.Author.Tests.{lt-leb}
use lib.Dec.{eqb-suc-suc}
use lib.Bits.{bit_xor, xor_zero_r}
use lib.ListN.{get_or-append}
use Rattle.bdz_table.specs.Graph.{has, only_if, degree, xor_at, Graph}
use Rattle.bdz_table.specs.Peel.{keep_if, Cut, keys_of, ones, State, turn_if, turn, turns_if, turns, up_to, peel}
use Rattle.bdz_table.specs.Steps.{Leaves, Left, carrying, cuts_of, Turnable, Turned}
use Rattle.bdz_table.proofs.Has.{known, lt_or_ge, has_head, has_tail}
use Rattle.bdz_table.proofs.Core.{degree_on, degree_cut, xor_cut, CutOf, cut_of_lem}
use Rattle.bdz_table.proofs.Queue.{Inv, queue_short, turn_inv, start}
use Rattle.bdz_table.proofs.AddKey.{has_get_d}

-- ---- the order in the queue and the xor words

module _ (xs q xs' q' : List ℕ) where
  -- the order reads only its own entries
  pub cuts_same : (c : ℕ) → ((i : ℕ) → i < c → get_or q' i 0 ≡ get_or q i 0) → ((i : ℕ) → i < c → get_or xs' (get_or q i 0) 0 ≡ get_or xs (get_or q i 0) 0) → cuts_of xs' q' c ≡ cuts_of xs q c
  unfolding cuts_of
  cuts_same zero h k = refl
  cuts_same (suc c) h k =
      ap₂ (λ (p : Cut) (t : List Cut). p ∷ t)
      (ap₂ (λ (x y : ℕ). record { key = x; at = y }) (ap (λ (x : ℕ). get_or xs' x 0) (h c (omega arith)) ∙ k c (omega arith)) (h c (omega arith)))
      (cuts_same c (λ i l. h i (omega arith)) (λ i l. k i (omega arith)))

  pub cuts_more : (c e v : ℕ) → get_or q' c 0 ≡ v → get_or xs' v 0 ≡ e → ((i : ℕ) → i < c → get_or q' i 0 ≡ get_or q i 0) → ((i : ℕ) → i < c → get_or xs' (get_or q i 0) 0 ≡ get_or xs (get_or q i 0) 0)
      → cuts_of xs' q' (c + 1) ≡ record { key = e; at = v } ∷ cuts_of xs q c
  unfolding cuts_of
  cuts_more c e v a b h k =
      ap (cuts_of xs' q') (add-one c)
      ∙ ap₂ (λ (p : Cut) (t : List Cut). p ∷ t) (ap₂ (λ (x y : ℕ). record { key = x; at = y }) (ap (λ (x : ℕ). get_or xs' x 0) a ∙ b) a) (cuts_same c h k)

pub cuts_length : (xs q : List ℕ) (c : ℕ) → length (cuts_of xs q c) ≡ c
unfolding cuts_of
cuts_length xs q zero = refl
cuts_length xs q (suc c) = ap suc (cuts_length xs q c)

-- ---- tables and the graph

-- the degrees are those of the graph once the keys of gone are removed, and the xor words where a key is left
pub record Live (vs : ℕ → List ℕ) (n : ℕ) (gone ds xs : List ℕ) : Type 0 where
  pub degrees : (v : ℕ) → get_or ds v 0 ≡ degree vs n gone v
  pub xors : (v : ℕ) → 1 ≤ get_or ds v 0 → get_or xs v 0 ≡ xor_at vs n gone v

module _ (vs : ℕ → List ℕ) (n : ℕ) (gone ds : List ℕ) (t : (v : ℕ) → get_or ds v 0 ≡ degree vs n gone v) where
  pub carrying_one : (us : List ℕ) → carrying 1 ds us ≡ ones vs n gone us
  unfolding carrying ones
  carrying_one [] = refl
  carrying_one (u ∷ us) = ap₂ (λ (x : ℕ) (r : List ℕ). keep_if (eqb x 1) u r) (t u) (carrying_one us)

  module _ (e v : ℕ) (c : CutOf vs n gone e v) where
    carrying_two : (us : List ℕ) → ((u : ℕ) → has u us ≡ true → has u (vs e) ≡ true) → carrying 2 ds us ≡ ones vs n (e ∷ gone) us
    unfolding carrying ones
    carrying_two [] h = refl
    carrying_two (u ∷ us) h =
        ap₂ (λ (b : Bool) (r : List ℕ). keep_if b u r)
        (ap (λ (x : ℕ). eqb x 2) (t u ∙ sym (degree_on vs n gone e c.below c.fresh u (h u (has_head u us))) ∙ add-one _) ∙ eqb-suc-suc (degree vs n (e ∷ gone) u) 1)
        (carrying_two us (λ w k. h w (has_tail w u us k)))

    pub new_ones : carrying 2 ds (vs e) ≡ ones vs n (e ∷ gone) (vs e)
    new_ones = carrying_two (vs e) (λ u h. h)

-- key e is taken off its vertices, of which v carried no other, and the xor word of v is then set to e
module _ (vs : ℕ → List ℕ) (n : ℕ) (gone ds xs : List ℕ) (t : Live vs n gone ds xs) (e v : ℕ) (c : CutOf vs n gone e v) (one : get_or ds v 0 ≡ 1)
    (q : List ℕ) (qn : ℕ) (ds' xs' q' : List ℕ) (r : ℕ) (l : Left (vs e) e ds xs q qn ds' xs' q' r) where
  pub spent_now : get_or ds' v 0 ≡ 0
  spent_now = let k : get_or ds' v 0 + 1 ≡ get_or ds v 0 = ap (λ (b : Bool). get_or ds' v 0 + only_if b 1) (sym c.on) ∙ l.degrees v in omega arith

  -- a vertex without keys is not touched
  pub spent_kept : (u : ℕ) → get_or ds u 0 ≡ 0 → get_or ds' u 0 ≡ 0
  spent_kept u z = omega (arith, l.degrees u)

  pub spent_other : (u : ℕ) → get_or ds u 0 ≡ 0 → u ≡ v → ⊥
  spent_other u z w = let k : get_or ds u 0 ≡ get_or ds v 0 = ap (λ (x : ℕ). get_or ds x 0) w in omega arith

  pub spent_xor : (u : ℕ) → get_or ds u 0 ≡ 0 → get_or (set xs' v e) u 0 ≡ get_or xs u 0
  spent_xor u z =
      get_or-set_other xs' v u e 0 (spent_other u z) ∙ l.xors u
      ∙ ap (λ (b : Bool). bit_xor (get_or xs u 0) (only_if b e))
      (⊎_elim (λ k. absurd (omega (arith, degree_on vs n gone e c.below c.fresh u k, t.degrees u))) (λ k. k) (known (has u (vs e))))
      ∙ xor_zero_r _

  pub live_cut : Live vs n (e ∷ gone) ds' (set xs' v e)
  live_cut =
      record {
        degrees = λ u. omega (arith, l.degrees u, t.degrees u, degree_cut vs n gone e c.below c.fresh u);
        xors = λ u h.
            get_or-set_other xs' v u e 0 (λ w. let k : get_or ds' u 0 ≡ get_or ds' v 0 = ap (λ (x : ℕ). get_or ds' x 0) w in omega (arith, spent_now))
            ∙ l.xors u ∙ ap (λ (x : ℕ). bit_xor x (only_if (has u (vs e)) e)) (t.xors u (omega (arith, l.degrees u))) ∙ sym (xor_cut vs n gone e c.below c.fresh u);
      }

-- the queue grows at its end only
module _ (q q' new : List ℕ) (qn r : ℕ) (long : qn ≤ length q) (count : r ≡ qn + length new) (grown : take r q' ≡ take qn q ++ new) where
  grown_at : (j : ℕ) → j < r → get_or q' j 0 ≡ get_or (take qn q ++ new) j 0
  grown_at j h = sym (get_or-take r q' j 0 h) ∙ ap (λ (t : List ℕ). get_or t j 0) grown

  pub old_entry : (j : ℕ) → j < qn → get_or q' j 0 ≡ get_or q j 0
  old_entry j h = grown_at j (omega arith) ∙ get_or-append (take qn q) new 0 j (omega (arith, length-take-le qn q long)) ∙ get_or-take qn q j 0 h

  pub new_entry : (k : ℕ) → k < length new → get_or q' (qn + k) 0 ≡ get_or new k 0
  new_entry k h =
      grown_at (qn + k) (omega arith) ∙ ap (λ (x : ℕ). get_or (take qn q ++ new) (x + k) 0) (sym (length-take-le qn q long)) ∙ get_or-append-add (take qn q) new k 0

-- ---- one step of the recursion

pub turns_step : (vs : ℕ → List ℕ) (n fuel qi : ℕ) (s : State) → qi < length s.queue → turns vs n (suc fuel) qi s ≡ turns vs n fuel (suc qi) (turn vs n (get_or s.queue qi 0) s)
unfolding turns turns_if
turns_step vs n fuel qi s h = ap (λ (b : Bool). turns_if b s (turns vs n fuel (suc qi) (turn vs n (get_or s.queue qi 0) s))) (lt-leb (length s.queue) qi h)

pub turns_stop : (vs : ℕ → List ℕ) (n fuel qi : ℕ) (s : State) → length s.queue ≤ qi → turns vs n fuel qi s ≡ s
unfolding turns turns_if
turns_stop vs n zero qi s h = refl
turns_stop vs n (suc fuel) qi s h = ap (λ (b : Bool). turns_if b s (turns vs n fuel (suc qi) (turn vs n (get_or s.queue qi 0) s))) (le-leb (length s.queue) qi h)

-- ---- the invariant of the loop

abbrev pub state_of : List ℕ → List ℕ → List ℕ → ℕ → State
state_of all xs q c = record { queue = all; done = cuts_of xs q c }

pub record Turning (vs : ℕ → List ℕ) (n m : ℕ) (ds xs q : List ℕ) (qn qi c : ℕ) : Type 0 where
  pub longd : length ds ≡ m
  pub longx : length xs ≡ m
  pub longq : length q ≡ m
  pub behind : c ≤ qi
  pub upto : qi ≤ qn
  pub room : qn ≤ m
  -- every entry that the queue ever had
  pub all : List ℕ
  pub all_long : length all ≡ qn
  pub ahead : (j : ℕ) → qi ≤ j → j < qn → get_or q j 0 ≡ get_or all j 0
  pub live : Live vs n (keys_of (cuts_of xs q c)) ds xs
  -- the vertices of the order carry no key any more
  pub spent : (i : ℕ) → i < c → get_or ds (get_or q i 0) 0 ≡ 0
  pub inv : Inv vs n m qi (state_of all xs q c)
  pub same : turns vs n (m - qi) qi (state_of all xs q c) ≡ peel vs n m

pub turning_none : (vs : ℕ → List ℕ) (n m : ℕ) (ds xs q : List ℕ) (qn : ℕ) → Graph vs n m → Turnable vs n m ds xs q qn → Turning vs n m ds xs q qn 0 0
unfolding cuts_of keys_of peel
turning_none vs n m ds xs q qn G t =
    let i : Inv vs n m 0 (record { queue = ones vs n [] (up_to m); done = [] }) = start vs n m G in
    record {
      longd = t.longd;
      longx = t.longx;
      longq = t.longq;
      behind = omega arith;
      upto = omega arith;
      room = omega (arith, t.count, queue_short vs n m 0 (record { queue = ones vs n [] (up_to m); done = [] }) i);
      all = ones vs n [] (up_to m);
      all_long = sym t.count;
      ahead = λ j a b. sym (get_or-take qn q j 0 b) ∙ ap (λ (l : List ℕ). get_or l j 0) t.queue;
      live = record { degrees = t.tables.degrees; xors = λ v h. t.tables.xors v };
      spent = λ j h. absurd (omega arith);
      inv = i;
      same = ap (λ (x : ℕ). turns vs n x 0 (record { queue = ones vs n [] (up_to m); done = [] })) (sub-zero m);
    }

module _ (vs : ℕ → List ℕ) (n m : ℕ) (G : Graph vs n m) (ds xs q : List ℕ) (qn qi c : ℕ) (i : Turning vs n m ds xs q qn qi c) where
  pub turning_all : qn ≤ qi → Turned vs n m xs q c
  turning_all h =
      let e : state_of i.all xs q c ≡ peel vs n m = sym (turns_stop vs n (m - qi) qi (state_of i.all xs q c) (omega (arith, i.all_long))) ∙ i.same in
      record { order = ap (λ (s : State). s.done) e; count = sym (cuts_length xs q c) ∙ ap (λ (s : State). length s.done) e }

  module _ (l : qi < qn) where
    next_is : get_or i.all qi 0 ≡ get_or q qi 0
    next_is = sym (i.ahead qi (omega arith) l)

    pub next_inside : get_or q qi 0 < m
    next_inside =
        i.inv.small (get_or q qi 0) (ap (λ (x : ℕ). has x i.all) (sym next_is) ∙ has_get_d i.all qi (omega (arith, i.all_long)))

    -- the order has room behind the reading position
    pub order_room : c < m
    order_room = omega (arith, i.behind, i.room)

    stepped : (s : State) → turn vs n (get_or q qi 0) (state_of i.all xs q c) ≡ s → turns vs n (m - (qi + 1)) (qi + 1) s ≡ peel vs n m
    stepped s h =
        ap₂ (λ (k : ℕ) (r : State). turns vs n (m - (qi + 1)) k r) (add-one qi) (sym h ∙ ap (λ (x : ℕ). turn vs n x (state_of i.all xs q c)) (sym next_is))
        ∙ sym (turns_step vs n (m - (qi + 1)) qi (state_of i.all xs q c) (omega (arith, i.all_long)))
        ∙ ap (λ (k : ℕ). turns vs n k qi (state_of i.all xs q c)) (omega (arith, i.room)) ∙ i.same

    moved : (s : State) → turn vs n (get_or q qi 0) (state_of i.all xs q c) ≡ s → Inv vs n m (qi + 1) s
    moved s h =
        subst (λ (r : State). Inv vs n m (qi + 1) r) (ap (λ (x : ℕ). turn vs n x (state_of i.all xs q c)) next_is ∙ h)
        (subst (λ (k : ℕ). Inv vs n m k (turn vs n (get_or i.all qi 0) (state_of i.all xs q c))) (sym (add-one qi))
        (turn_inv vs n m G qi (state_of i.all xs q c) i.inv (omega (arith, i.all_long))))

    pub turning_skip : (get_or ds (get_or q qi 0) 0 ≡ 1 → ⊥) → Turning vs n m ds xs q qn (qi + 1) c
    unfolding turn turn_if
    turning_skip h =
        record {
          longd = i.longd;
          longx = i.longx;
          longq = i.longq;
          behind = omega (arith, i.behind);
          upto = omega arith;
          room = i.room;
          all = i.all;
          all_long = i.all_long;
          ahead = λ j a b. i.ahead j (omega arith) b;
          live = i.live;
          spent = i.spent;
          inv = moved (state_of i.all xs q c) skip;
          same = stepped (state_of i.all xs q c) skip;
        }
      where
        skip : turn vs n (get_or q qi 0) (state_of i.all xs q c) ≡ state_of i.all xs q c
        skip =
            ap (λ (b : Bool). turn_if vs n b (get_or q qi 0) (state_of i.all xs q c))
            (ne_eqb (degree vs n (keys_of (cuts_of xs q c)) (get_or q qi 0)) 1 (λ r. h (i.live.degrees (get_or q qi 0) ∙ r)))

    module _ (h : get_or ds (get_or q qi 0) 0 ≡ 1) where
      e_is : get_or xs (get_or q qi 0) 0 ≡ xor_at vs n (keys_of (cuts_of xs q c)) (get_or q qi 0)
      e_is = i.live.xors (get_or q qi 0) (omega (arith, h))

      cut : CutOf vs n (keys_of (cuts_of xs q c)) (get_or xs (get_or q qi 0) 0) (get_or q qi 0)
      cut =
          subst (λ (e : ℕ). CutOf vs n (keys_of (cuts_of xs q c)) e (get_or q qi 0)) (sym e_is)
          (cut_of_lem vs n (keys_of (cuts_of xs q c)) (get_or q qi 0) (sym (i.live.degrees (get_or q qi 0)) ∙ h))

      -- the test for an impossible key number is never taken
      pub key_below : get_or xs (get_or q qi 0) 0 < n
      key_below = cut.below

      new : List ℕ
      new = ones vs n (get_or xs (get_or q qi 0) 0 ∷ keys_of (cuts_of xs q c)) (vs (get_or xs (get_or q qi 0) 0))

      next_state : State
      next_state = record { queue = i.all ++ new; done = record { key = get_or xs (get_or q qi 0) 0; at = get_or q qi 0 } ∷ cuts_of xs q c }

      next_state_lem : turn vs n (get_or q qi 0) (state_of i.all xs q c) ≡ next_state
      unfolding turn turn_if keys_of next_state new
      next_state_lem =
          ap (λ (b : Bool). turn_if vs n b (get_or q qi 0) (state_of i.all xs q c))
          (eq-eqb (degree vs n (keys_of (cuts_of xs q c)) (get_or q qi 0)) 1 (sym (i.live.degrees (get_or q qi 0)) ∙ h))
          ∙ ap (λ (x : ℕ). record { queue = i.all ++ ones vs n (x ∷ keys_of (cuts_of xs q c)) (vs x); done = record { key = x; at = get_or q qi 0 } ∷ cuts_of xs q c }) (sym e_is)

      new_is : carrying 2 ds (vs (get_or xs (get_or q qi 0) 0)) ≡ new
      unfolding new
      new_is = new_ones vs n (keys_of (cuts_of xs q c)) ds i.live.degrees (get_or xs (get_or q qi 0) 0) (get_or q qi 0) cut

      new_room : qn + length new ≤ m
      unfolding next_state
      new_room = omega (arith, queue_short vs n m (qi + 1) next_state (moved next_state next_state_lem), length-append i.all new, i.all_long)

      pub leaves : Leaves (vs (get_or xs (get_or q qi 0) 0)) ds xs q qn
      leaves =
          let e : ℕ = get_or xs (get_or q qi 0) 0 in
          record {
            places = record { distinct = G.distinct e cut.below; inside = λ u t. omega (arith, G.inside e u cut.below t, i.longd); same = i.longx ∙ sym i.longd };
            carried = λ u t. omega (arith, degree_on vs n (keys_of (cuts_of xs q c)) e cut.below cut.fresh u t, i.live.degrees u);
            room = omega (arith, new_room, ap length new_is, i.longq);
          }

      module _ (ds' xs' q' : List ℕ) (r : ℕ) (ld : length ds' ≡ length ds) (lx : length xs' ≡ length xs) (lq : length q' ≡ length q)
          (left : Left (vs (get_or xs (get_or q qi 0) 0)) (get_or xs (get_or q qi 0) 0) ds xs q qn ds' xs' q' r) where
        r_is : r ≡ qn + length new
        r_is = left.count ∙ ap (λ (t : List ℕ). qn + length t) new_is

        grown : take r q' ≡ take qn q ++ new
        grown = left.queue ∙ ap (λ (t : List ℕ). take qn q ++ t) new_is

        old : (j : ℕ) → j < qn → get_or q' j 0 ≡ get_or q j 0
        old = old_entry q q' new qn r (omega (arith, i.room, i.longq)) r_is grown

        -- the entries of the order, and the next one
        kept : (j : ℕ) → j < c → get_or (set q' c (get_or q qi 0)) j 0 ≡ get_or q j 0
        kept j a = get_or-set_other q' c j (get_or q qi 0) 0 (λ w. omega arith) ∙ old j (omega (arith, i.behind))

        here : get_or (set q' c (get_or q qi 0)) c 0 ≡ get_or q qi 0
        here = get_or-set_same q' c (get_or q qi 0) 0 (omega (arith, order_room, i.longq))

        more : cuts_of (set xs' (get_or q qi 0) (get_or xs (get_or q qi 0) 0)) (set q' c (get_or q qi 0)) (c + 1) ≡ record { key = get_or xs (get_or q qi 0) 0; at = get_or q qi 0 } ∷ cuts_of xs q c
        more =
            let e : ℕ = get_or xs (get_or q qi 0) 0 in
            let v : ℕ = get_or q qi 0 in
            cuts_more xs q (set xs' v e) (set q' c v) c e v here (get_or-set_same xs' v e 0 (omega (arith, next_inside, i.longx))) kept
            (λ j a. spent_xor vs n (keys_of (cuts_of xs q c)) ds xs i.live e v cut h q qn ds' xs' q' r left (get_or q j 0) (i.spent j a))

        ahead_next : (j : ℕ) → qi + 1 ≤ j → j < r → get_or (set q' c (get_or q qi 0)) j 0 ≡ get_or (i.all ++ new) j 0
        ahead_next j a b =
            get_or-set_other q' c j (get_or q qi 0) 0 (λ w. omega (arith, i.behind))
            ∙ ⊎_elim (λ (k : j < qn). old j k ∙ i.ahead j (omega arith) k ∙ sym (get_or-append i.all new 0 j (omega (arith, i.all_long)))) (λ k. later k) (lt_or_ge j qn)
          where
            later : qn ≤ j → get_or q' j 0 ≡ get_or (i.all ++ new) j 0
            later k =
                let w : qn + (j - qn) ≡ j = omega arith in
                ap (λ (x : ℕ). get_or q' x 0) (sym w) ∙ new_entry q q' new qn r (omega (arith, i.room, i.longq)) r_is grown (j - qn) (omega (arith, r_is))
                ∙ sym (get_or-append-add i.all new (j - qn) 0) ∙ ap (λ (x : ℕ). get_or (i.all ++ new) x 0) (omega (arith, i.all_long))

        spent_next : (j : ℕ) → j < c + 1 → get_or ds' (get_or (set q' c (get_or q qi 0)) j 0) 0 ≡ 0
        spent_next j a =
            let e : ℕ = get_or xs (get_or q qi 0) 0 in
            let v : ℕ = get_or q qi 0 in
            ⊎_elim (λ (k : j < c). ap (λ (x : ℕ). get_or ds' x 0) (kept j k) ∙ spent_kept vs n (keys_of (cuts_of xs q c)) ds xs i.live e v cut h q qn ds' xs' q' r left (get_or q j 0) (i.spent j k))
            (λ (k : c ≤ j). let w : j ≡ c = omega arith in
            ap (λ (x : ℕ). get_or ds' (get_or (set q' c v) x 0) 0) w ∙ ap (λ (x : ℕ). get_or ds' x 0) here ∙ spent_now vs n (keys_of (cuts_of xs q c)) ds xs i.live e v cut h q qn ds' xs' q' r left)
            (lt_or_ge j c)

        pub turning_take : Turning vs n m ds' (set xs' (get_or q qi 0) (get_or xs (get_or q qi 0) 0)) (set q' c (get_or q qi 0)) r (qi + 1) (c + 1)
        unfolding keys_of next_state
        turning_take =
            let e : ℕ = get_or xs (get_or q qi 0) 0 in
            let v : ℕ = get_or q qi 0 in
            let now : next_state ≡ state_of (i.all ++ new) (set xs' v e) (set q' c v) (c + 1) = ap (λ (d : List Cut). record { queue = i.all ++ new; done = d }) (sym more) in
            record {
              longd = ld ∙ i.longd;
              longx = length-set xs' v e ∙ lx ∙ i.longx;
              longq = length-set q' c v ∙ lq ∙ i.longq;
              behind = omega (arith, i.behind);
              upto = omega (arith, r_is);
              room = omega (arith, r_is, new_room);
              all = i.all ++ new;
              all_long = length-append i.all new ∙ omega (arith, i.all_long, r_is);
              ahead = ahead_next;
              live = rw more (live_cut vs n (keys_of (cuts_of xs q c)) ds xs i.live e v cut h q qn ds' xs' q' r left);
              spent = spent_next;
              inv = moved (state_of (i.all ++ new) (set xs' v e) (set q' c v) (c + 1)) (next_state_lem ∙ now);
              same = stepped (state_of (i.all ++ new) (set xs' v e) (set q' c v) (c + 1)) (next_state_lem ∙ now);
            }
