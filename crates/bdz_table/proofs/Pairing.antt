-- The loops along the pairs: what is left to note, to assign and to set from here is what was to at first. Assumes nothing.
use Rattle.std.proofs.Common.{◌≡◌, ℕ, zero, suc, ◌/◌, ◌<◌, ◌≤◌, List, [], ◌∷◌, ◌++◌, length, get_or, take, drop, set, sym, refl, ap, ◌∙◌, subst, arith, length-append, length-drop, length-set, length-take-le, take_at, drop_at, add-one}
use lib.ListN.{get_or-append}
use Rattle.std.proofs.lemmas.List.{get_or_push, length_push}
use Rattle.bdz_base.specs.Sizes.{occupancy_bytes}
use Rattle.bdz_table.specs.Assign.{sum_at, word_for, assign}
use Rattle.bdz_table.specs.Occupancy.{with_bit}
use Rattle.bdz_table.specs.Order.{pair_of, no_pair}
use Rattle.bdz_table.specs.Pairs.{cut_of, cuts_in, noted, PairReady, PairWord, PairsReady, Follows, PairsAssigned, bits_of, Occupies, PairsOccupied}
use Rattle.bdz_table.specs.Peel.{Cut}
use Rattle.bdz_table.specs.Steps.{Marked}
use Rattle.bdz_table.specs.declared.pairs.Pair.{Pair}
use Rattle.bdz_table.proofs.Words.{word_below, marked_more}

-- ---- the order

module _ (xs q : List ℕ) (n : ℕ) (order₀ : List Pair) where
  pub record Ordering (i : ℕ) (order : List Pair) : Type 0 where
    pub upto : i ≤ n
    pub long : length order ≡ length order₀
    pub same : noted xs q i order ≡ noted xs q n order₀

  pub ordering_all : {order : List Pair} → Ordering zero order → order ≡ noted xs q n order₀
  unfolding noted
  ordering_all o = o.same

  pub ordering_more : {j : ℕ} {order : List Pair} {p : Pair} → Ordering (suc j) order → p ≡ pair_of (get_or xs (get_or q j 0) 0) (get_or q j 0) → Ordering j (set order j p)
  unfolding noted
  ordering_more {j} {order} {p} o e =
      record { upto = omega (arith, o.upto); long = length-set order j p ∙ o.long; same = ap (λ (p : Pair). noted xs q j (set order j p)) e ∙ o.same }

-- ---- the pairs from the last one on

-- what is left is the front of the order
abbrev pub FrontOf : List Pair → List Pair → Type 0
FrontOf order rest = (k : ℕ) → k < length rest → get_or rest k no_pair ≡ get_or order k no_pair

module _ (order rest left : List Pair) (p : Pair) (front : FrontOf order rest) (taken : rest ≡ left ++ p ∷ []) where
  pub front_long : length rest ≡ suc (length left)
  front_long = rw taken (length_push left p ∙ add-one (length left))

  pub front_last : p ≡ get_or order (length left) no_pair
  front_last =
      sym (get_or_push left p no_pair (length left) refl) ∙ sym (ap (λ (t : List Pair). get_or t (length left) no_pair) taken)
      ∙ front (length left) (omega (arith, front_long))

  pub front_left : FrontOf order left
  front_left k h =
      sym (get_or-append left (p ∷ []) no_pair k h) ∙ sym (ap (λ (t : List Pair). get_or t k no_pair) taken)
      ∙ front k (omega (arith, front_long))

-- ---- one pair: the first words of longer buffers are lent, and come back before the rest

-- ---- the words

module _ (vs : ℕ → List ℕ) (keys n m M : ℕ) (comes : Pair → ℕ → Type 0) (order : List Pair) (ms₀ g₀ : List ℕ) where
  pub record Pairing (i : ℕ) (ms g : List ℕ) : Type 0 where
    pub upto : i ≤ n
    pub longg : length g ≡ length g₀
    pub longm : length ms ≡ length ms₀
    pub marked : 0 < n → Marked M (take m ms) (take m g)
    pub same : (val : Cut → ℕ) → Follows n comes val order → assign vs M val (cuts_in order i) (take m g) ≡ assign vs M val (cuts_in order n) (take m g₀)
    pub behindg : drop m g ≡ drop m g₀
    pub behindm : drop m ms ≡ drop m ms₀
    pub idle : n ≡ 0 → ms ≡ ms₀

  pub pairing_all : {ms g : List ℕ} → Pairing zero ms g → (val : Cut → ℕ) → Follows n comes val order → PairsAssigned vs n m M val order ms₀ g₀ ms g
  unfolding cuts_in assign
  pairing_all a val h = record { words = a.same val h; behindg = a.behindg; behindm = a.behindm; idle = a.idle }

  module _ (ready : PairsReady n keys m M comes order ms₀ g₀) {j : ℕ} {ms g : List ℕ} (a : Pairing (suc j) ms g) {value : ℕ} where
    pairing_ready : comes (get_or order j no_pair) value → PairReady keys m M value (get_or order j no_pair) ms g
    pairing_ready h =
        let some : 0 < n = omega (arith, a.upto) in
        let l : j < n = omega (arith, a.upto) in
        record {
          big = ready.big some;
          longg = omega (arith, ready.longg some, a.longg);
          longm = omega (arith, ready.longm some, a.longm);
          marked = a.marked some;
          key = ready.edges j l;
          vertex = ready.vertices j l;
          below = ready.values j value l h;
        }

    pairing_more : comes (get_or order j no_pair) value → {ms' g' : List ℕ} → length ms' ≡ length ms → length g' ≡ length g → PairWord vs m M value (get_or order j no_pair) ms g ms' g' → Pairing j ms' g'
    unfolding cuts_in assign
    pairing_more h {ms'} {g'} lm lg w =
        let p = pairing_ready h in
        let next : Pair = get_or order j no_pair in
        let part = take m g in
        let s = sum_at part (vs next.edge) in
        let long : length part ≡ m = length-take-le m g p.longg in
        let k : Marked M (set (take m ms) next.vert 1) (set part next.vert (word_for M value s)) =
        marked_more M (take m ms) part next.vert _ p.marked (omega (arith, p.vertex, long)) (word_below M value s (omega (arith, p.below))) in
        record {
          upto = omega (arith, a.upto);
          longg = lg ∙ a.longg;
          longm = lm ∙ a.longm;
          marked = λ some. rw (w.word.words, w.word.marks) k;
          same = λ val f.
              let its : value ≡ val (cut_of next) = f j value (omega (arith, a.upto)) h in
              ap (assign vs M val (cuts_in order j)) (w.word.words ∙ ap (λ (x : ℕ). set part next.vert (word_for M x s)) its) ∙ a.same val f;
          behindg = w.behindg ∙ a.behindg;
          behindm = w.behindm ∙ a.behindm;
          idle = λ none. absurd (omega (arith, a.upto, none));
        }

    -- the same of a pair that was read from the order
    pub pairing_asks : {p : Pair} → p ≡ get_or order j no_pair → comes p value → PairReady keys m M value p ms g
    pairing_asks e = subst (λ (p : Pair). comes p value → PairReady keys m M value p ms g) (sym e) pairing_ready

    pub pairing_next : {p : Pair} {ms' g' : List ℕ} → p ≡ get_or order j no_pair → comes p value → length ms' ≡ length ms → length g' ≡ length g → PairWord vs m M value p ms g ms' g' → Pairing j ms' g'
    pairing_next {p} {ms'} {g'} e h lm lg w =
        pairing_more (subst (λ (p : Pair). comes p value) e h) lm lg (subst (λ (p : Pair). PairWord vs m M value p ms g ms' g') e w)

-- ---- the occupancy

module _ (n m b : ℕ) (order : List Pair) (occ₀ : List ℕ) where
  pub record Setting (i : ℕ) (occ : List ℕ) : Type 0 where
    pub upto : i ≤ n
    pub long : length occ ≡ length occ₀
    pub same : bits_of (cuts_in order i) (take b occ) ≡ bits_of (cuts_in order n) (take b occ₀)
    pub behind : drop b occ ≡ drop b occ₀

  module _ (its : b ≡ occupancy_bytes m) where
    pub setting_all : {occ : List ℕ} → Setting zero occ → PairsOccupied n m order occ₀ occ
    unfolding cuts_in bits_of
    setting_all {occ} s = record { bits = rw its at s.same; behind = rw its at s.behind }

    module _ (o : Occupies n m order occ₀) {j : ℕ} {occ : List ℕ} (s : Setting (suc j) occ) where
      setting_room : b ≤ length occ
      setting_room = omega (arith, o.bytes (omega (arith, s.upto)), s.long, its)

      pub setting_bit : {p : Pair} → p ≡ get_or order j no_pair → p.vert / 8 < length (take b occ)
      setting_bit {p} e =
          omega (arith, length-take-le b occ setting_room, ap (λ (p : Pair). p.vert) e, o.vertices j (omega (arith, s.upto)), its)

      pub setting_next : {p : Pair} {part : List ℕ} → p ≡ get_or order j no_pair → part ≡ with_bit p.vert (take b occ) → Setting j (part ++ drop b occ)
      unfolding cuts_in bits_of with_bit
      setting_next {p} {part} e w =
          let long : length part ≡ b = ap length w ∙ length-set (take b occ) _ _ ∙ length-take-le b occ setting_room in
          record {
            upto = omega (arith, s.upto);
            long = omega (arith, length-append part (drop b occ), long, length-drop b occ, setting_room, s.long);
            same = ap (bits_of (cuts_in order j)) (take_at part (drop b occ) b long ∙ w ∙ ap (λ (p : Pair). with_bit p.vert (take b occ)) e) ∙ s.same;
            behind = drop_at part (drop b occ) b long ∙ s.behind;
          }
