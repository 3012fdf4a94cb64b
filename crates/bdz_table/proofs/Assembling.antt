-- From a build up to its pairs, through the notes and the assigns, to the build's promise. Assumes nothing.
use Rattle.std.proofs.Common.{Result, ◌≡◌, ℕ, zero, suc, ◌^◌, ◌<◌, ◌≤◌, Bool, true, false, cond, List, [], ◌∷◌, ◌++◌, length, get_or, take, drop, set, replicate, sym, refl, ap, ◌∙◌, ⊎_elim, arith, length-append, length-drop, length-set, take-append-drop, length-take, get_or-set_other, get_or-set_same, drop-set-lt}
use lib.ListN.{length-replicate, get_or-append}
use Rattle.bdz_base.specs.Buffer.{over, written}
use Rattle.bdz_base.specs.Sizes.{occupancy_bytes}
use Rattle.bdz_base.specs.declared.refusal.Refusal.{Refusal}
use Rattle.bdz_base.specs.declared.verts.Kind.{Kind}
use Rattle.bdz_base.specs.declared.verts.Kind.TheVariants.{Assigned, Compact}
use Rattle.bdz_table.specs.Assign.{assign, part_of}
use Rattle.bdz_table.specs.Build.{cuts_for, words_for, assigned_table, compact_table, compact_occupancy, cleared, cleared_pairs, BuiltTo, BuiltAssigned, BuiltCompact}
use Rattle.bdz_table.specs.Keys.{graph_of}
use Rattle.bdz_table.specs.Occupancy.{occupancy_of}
use Rattle.bdz_table.specs.Order.{pair_of, no_pair}
use Rattle.bdz_table.specs.Pairs.{cut_of, cuts_in, Notes, noted, PairsReady, Follows, PairsAssigned, bits_of, Occupies, PairsOccupied}
use Rattle.bdz_table.specs.Peel.{Cut, ats_of}
use Rattle.bdz_table.specs.Steps.{cuts_of, Zeroed, ReadyTo, ReadyAssigned, ReadyCompact, Cleared}
use Rattle.bdz_table.specs.declared.build.Ready.{Ready}
use Rattle.bdz_table.specs.declared.index.Index.{Index}
use Rattle.bdz_table.specs.declared.index.Needs.{Needs}
use Rattle.bdz_table.specs.declared.pairs.Pair.{Pair}
use Rattle.bdz_table.specs.Told.{told_index}
use Rattle.bdz_table.proofs.Begun.{length_words, length_occupied}
use Rattle.bdz_table.proofs.Has.{lt_or_ge}
use Rattle.bdz_table.proofs.NeedLaws.{vertices_more}
use Rattle.bdz_table.proofs.Noting.{bits_set, ats_below}
use Rattle.bdz_table.proofs.Runs.{marked_zero, part_below, many_assigned_table, many_compact_table, many_occupancy}
use Rattle.bdz_table.proofs.Zeroing.{replicate_zero}

-- ---- an order noted down

module _ (xs q : List ℕ) where
  -- the pair at i where the peeler left it
  abbrev left : ℕ → Pair
  left i = pair_of (get_or xs (get_or q i 0) 0) (get_or q i 0)

  pub length_noted : (n : ℕ) (order : List Pair) → length (noted xs q n order) ≡ length order
  unfolding noted
  length_noted zero order = refl
  length_noted (suc n) order = length_noted n (set order n (left n)) ∙ length-set order n (left n)

  noted_past : (n : ℕ) (order : List Pair) (i : ℕ) → n ≤ i → get_or (noted xs q n order) i no_pair ≡ get_or order i no_pair
  unfolding noted
  noted_past zero order i h = refl
  noted_past (suc n) order i h = noted_past n (set order n (left n)) i (omega arith) ∙ get_or-set_other order n i (left n) no_pair (λ e. omega arith)

  noted_at : (n : ℕ) (order : List Pair) → n ≤ length order → (i : ℕ) → i < n → get_or (noted xs q n order) i no_pair ≡ pair_of (get_or xs (get_or q i 0) 0) (get_or q i 0)
  unfolding noted
  noted_at zero order h i l = absurd (omega arith)
  noted_at (suc n) order h i l =
      ⊎_elim (λ (k : i < n). noted_at n (set order n (left n)) (omega (arith, length-set order n (left n))) i k)
      (λ (k : n ≤ i).
      let e : i ≡ n = omega arith in
      rw e (noted_past n (set order n (left n)) n (omega arith) ∙ get_or-set_same order n (left n) no_pair h)) (lt_or_ge i n)

  noted_behind : (n k : ℕ) (order : List Pair) → n ≤ k → drop k (noted xs q n order) ≡ drop k order
  unfolding noted
  noted_behind zero k order h = refl
  noted_behind (suc n) k order h = noted_behind n k (set order n (left n)) (omega arith) ∙ drop-set-lt k order n (left n) h

  cuts_noted : (n : ℕ) (order : List Pair) → n ≤ length order → (c : ℕ) → c ≤ n → cuts_in (noted xs q n order) c ≡ cuts_of xs q c
  unfolding cuts_in cuts_of
  cuts_noted n order h zero l = refl
  cuts_noted n order h (suc c) l = rw (noted_at n order h c l, cuts_noted n order h c (omega arith))

  -- of a cleared queue the notes are zeros
  noted_zeros : (n : ℕ) (order : List Pair) → n ≤ length order → ((i : ℕ) → i < n → get_or q i 0 ≡ 0) → get_or xs 0 0 ≡ 0 → noted xs q n order ≡ replicate n no_pair ++ drop n order
  unfolding noted
  noted_zeros zero order h z x = refl
  noted_zeros (suc n) order h z x =
      let p : left n ≡ no_pair = rw (z n (omega arith), x) in
      ap (λ (y : Pair). noted xs q n (set order n y)) p
      ∙ noted_zeros n (set order n no_pair) (omega (arith, length-set order n no_pair)) (λ i l. z i (omega arith)) x
      ∙ ap (λ (rest : List Pair). replicate n no_pair ++ rest) (drop_here n order no_pair h)
      ∙ one_more n (drop (suc n) order)
    where
      drop_here : (k : ℕ) (l : List Pair) (x : Pair) → k < length l → drop k (set l k x) ≡ x ∷ drop (suc k) l
      drop_here zero [] x h = absurd (omega arith)
      drop_here zero (y ∷ ys) x h = refl
      drop_here (suc k) [] x h = absurd (omega arith)
      drop_here (suc k) (y ∷ ys) x h = drop_here k ys x (omega (arith, h))

      one_more : (k : ℕ) (rest : List Pair) → replicate k no_pair ++ (no_pair ∷ rest) ≡ no_pair ∷ (replicate k no_pair ++ rest)
      one_more zero rest = refl
      one_more (suc k) rest = ap (λ (l : List Pair). no_pair ∷ l) (one_more k rest)

-- ---- the scratch

zero_front : (v : ℕ) (old : List ℕ) (i : ℕ) → i < v → get_or (over (replicate v 0) old) i 0 ≡ 0
zero_front v old i h = get_or-append (replicate v 0) _ 0 i (omega (arith, length-replicate {A = ℕ} v 0)) ∙ replicate_zero v i

-- the first v entries are zeros, and behind them stands what stood there before the build
front_zero : (v : ℕ) (old old' : List ℕ) {new : List ℕ} → drop v old' ≡ drop v old → new ≡ over (replicate v 0) old' → new ≡ replicate v 0 ++ drop v old
front_zero v old old' b n =
    n ∙ ap (λ (k : ℕ). replicate v 0 ++ drop k old') (length-replicate {A = ℕ} v 0) ∙ ap (λ (rest : List ℕ). replicate v 0 ++ rest) b

cleared_used : (go : Bool) (need : ℕ) {v : ℕ} (old : List ℕ) {new : List ℕ} → v ≡ cond go need 0 → new ≡ replicate v 0 ++ drop v old → new ≡ cleared go need old
cleared_used true need old e n = n ∙ rw (e, length-replicate {A = ℕ} need 0)
cleared_used false need old e n = n ∙ rw e

cleared_order : (go : Bool) (need : ℕ) {k : ℕ} (old : List Pair) {new : List Pair} → k ≡ cond go need 0 → new ≡ replicate k no_pair ++ drop k old → new ≡ cleared_pairs go need old
cleared_order true need old e n = n ∙ rw (e, length-replicate {A = Pair} need no_pair)
cleared_order false need old e n = n ∙ rw e

-- as long as it was before
zeroed_long : {k : ℕ} {old new : List ℕ} → Zeroed k old new → length new ≡ length old
zeroed_long {k} {old} {new} z =
    omega (arith, ap length z.zeros, length-take k new, length-replicate {A = ℕ} k 0, ap length z.behind, length-drop k new, length-drop k old, z.room)

-- ---- a build, whatever its kind

module _ (kind : Kind) (keys : List ℕ) (number : ℕ) (go : Bool) (index : Index) (need : Needs) (new table ds xs q : List ℕ) (order : List Pair) (ms : List ℕ) (r : Ready) (table₁ ds₁ xs₁ q₁ ms₁ : List ℕ)
    (ready : ReadyTo kind keys number go index need (length order) new table ds xs q ms r table₁ ds₁ xs₁ q₁ ms₁) where
  -- the pairs are at most those of the order
  pairs_few : r.pairs ≤ r.order
  pairs_few = ⊎_elim (λ (h : r.pairs < 1). omega arith) (λ (h : 1 ≤ r.pairs). omega (arith, (ready.pending h).all, (ready.pending h).order_all)) (lt_or_ge r.pairs 1)

  pub notes_first : Notes xs₁ q₁ order r.pairs
  notes_first =
      record {
        room = omega (arith, pairs_few, ready.order_room);
        queued = omega (arith, pairs_few, ready.order_fits, ready.queue.room, ready.queue.long);
        inside = λ i l.
            let h : 0 < r.pairs = omega arith in
            let w = ready.pending h in
            omega (arith, w.left.vertices i (omega (arith, w.all)), w.entries, ready.xors.room, ready.xors.long);
      }

  module _ {order₁ : List Pair} (n₁ : order₁ ≡ noted xs₁ q₁ r.pairs order) where
    noted_pair : (i : ℕ) → i < r.pairs → get_or order₁ i no_pair ≡ pair_of (get_or xs₁ (get_or q₁ i 0) 0) (get_or q₁ i 0)
    noted_pair i l = ap (λ (o : List Pair). get_or o i no_pair) n₁ ∙ noted_at xs₁ q₁ r.pairs order notes_first.room i l

    noted_cuts : cuts_in order₁ r.pairs ≡ cuts_of xs₁ q₁ r.pairs
    noted_cuts = ap (λ (o : List Pair). cuts_in o r.pairs) n₁ ∙ cuts_noted xs₁ q₁ r.pairs order notes_first.room r.pairs (omega arith)

    module _ (M : ℕ) (val : Cut → ℕ) where
      pub pairs_ready : {comes : Pair → ℕ → Type 0} → Follows r.pairs comes val order₁ → (0 < r.pairs → 0 < M) → (0 < r.pairs → M ≤ 2 ^ 30) → (0 < r.pairs → (i : ℕ) → i < length keys → val (cut_of (pair_of (get_or xs₁ (get_or q₁ i 0) 0) (get_or q₁ i 0))) < M)
          → PairsReady r.pairs (length keys) r.m M comes order₁ ms₁ table₁
      pairs_ready follows some limit below =
          record {
            room = omega (arith, ap length n₁, length_noted xs₁ q₁ r.pairs order, notes_first.room);
            big = λ h. let w = ready.pending h in omega (arith, w.is, w.many, vertices_more kind (length keys) w.many);
            longg = λ h. omega (arith, (ready.pending h).words.room, zeroed_long (ready.pending h).words);
            longm = λ h. (ready.pending h).marks_room;
            marked = λ h.
                let w = ready.pending h in
                rw (w.marks, w.words.zeros) (marked_zero M r.m r.m (some h) (limit h) refl);
            edges = λ i l. let h : 0 < r.pairs = omega arith in rw (noted_pair i l) ((ready.pending h).left.edges i (omega (arith, (ready.pending h).all)));
            vertices = λ i l. let h : 0 < r.pairs = omega arith in rw (noted_pair i l) ((ready.pending h).left.vertices i (omega (arith, (ready.pending h).all)));
            values = λ i x l h.
                let some : 0 < r.pairs = omega arith in
                let its : x ≡ val (cut_of (pair_of (get_or xs₁ (get_or q₁ i 0) 0) (get_or q₁ i 0))) = follows i x l h ∙ ap (λ (p : Pair). val (cut_of p)) (noted_pair i l) in
                omega (arith, its, below some i (omega (arith, (ready.pending some).all)));
          }

      module _ {table₂ ms₂ : List ℕ} (w : PairsAssigned (graph_of kind keys r.seed r.m) r.pairs r.m M val order₁ ms₁ table₁ ms₂ table₂) (words : 0 < r.pairs → new ≡ words_for kind keys M val) where
        table_none : r.pairs ≡ 0 → table₂ ≡ written number new table
        unfolding cuts_in assign
        table_none none =
            let same : take r.m table₂ ≡ take r.m table₁ = w.words ∙ ap (λ (k : ℕ). assign (graph_of kind keys r.seed r.m) M val (cuts_in order₁ k) (take r.m table₁)) none in
            sym (take-append-drop r.m table₂) ∙ rw (same, w.behindg) (take-append-drop r.m table₁) ∙ ready.done none

        table_some : 0 < r.pairs → table₂ ≡ written number new table
        unfolding words_for
        table_some h =
            let a = ready.pending h in
            let cuts : cuts_in order₁ r.pairs ≡ cuts_for kind keys = noted_cuts ∙ ap (cuts_of xs₁ q₁) a.all ∙ a.left.order in
            let made : take r.m table₂ ≡ new = w.words ∙ rw (cuts, a.words.zeros, a.seed_is, a.is, words h) in
            let long : length new ≡ r.m = ap length (words h) ∙ length_words kind keys M val ∙ sym a.is in
            sym (take-append-drop r.m table₂) ∙ rw (made, w.behindg, a.words.behind, a.accepted, long)

        pub table_made : table₂ ≡ written number new table
        table_made = ⊎_elim (λ (h : r.pairs < 1). table_none (omega arith)) table_some (lt_or_ge r.pairs 1)

        marks_behind : drop r.vertices ms₂ ≡ drop r.vertices ms
        marks_behind =
            ⊎_elim (λ (h : r.pairs < 1). ap (drop r.vertices) (w.idle (omega arith)))
            (λ (h : 1 ≤ r.pairs). rw (ready.pending h).entries w.behindm) (lt_or_ge r.pairs 1)
            ∙ ready.marks.behind

        pub clear_room : length ms₂ ≡ length ms₁ → (r.vertices ≤ length ds₁) × (r.vertices ≤ length xs₁) × (r.vertices ≤ length q₁) × (r.vertices ≤ length ms₂)
        clear_room l =
            (omega (arith, ready.degrees.room, ready.degrees.long), omega (arith, ready.xors.room, ready.xors.long), omega (arith, ready.queue.room, ready.queue.long), omega (arith, ready.marks.room, ready.marks.long, l))

        module _ {ds₃ xs₃ q₃ ms₃ : List ℕ} (c : Cleared r.vertices ds₁ xs₁ q₁ ms₂ ds₃ xs₃ q₃ ms₃) where
          queue_zero : (i : ℕ) → i < r.order → get_or q₃ i 0 ≡ 0
          queue_zero i l = ap (λ (s : List ℕ). get_or s i 0) c.queue ∙ zero_front r.vertices q₁ i (omega (arith, ready.order_fits))

          length_front : (v : ℕ) (old : List ℕ) → v ≤ length old → length (over (replicate v 0) old) ≡ length old
          length_front v old h =
              omega (arith, length-append (replicate v 0) (drop (length (replicate {A = ℕ} v 0)) old), length-replicate {A = ℕ} v 0, length-drop (length (replicate {A = ℕ} v 0)) old)

          pub notes_again : Notes xs₃ q₃ order₁ r.order
          notes_again =
              let longx : length xs₃ ≡ length xs₁ = ap length c.xors ∙ length_front r.vertices xs₁ (omega (arith, ready.xors.room, ready.xors.long)) in
              let longq : length q₃ ≡ length q₁ = ap length c.queue ∙ length_front r.vertices q₁ (omega (arith, ready.queue.room, ready.queue.long)) in
              record {
                room = omega (arith, ap length n₁, length_noted xs₁ q₁ r.pairs order, ready.order_room);
                queued = omega (arith, longq, ready.order_fits, ready.queue.room, ready.queue.long);
                inside = λ i l. omega (arith, queue_zero i l, longx, ready.order_fits, ready.xors.room, ready.xors.long);
              }

          order_behind : drop r.order order₁ ≡ drop r.order order
          order_behind = ap (drop r.order) n₁ ∙ noted_behind xs₁ q₁ r.pairs r.order order pairs_few

          order_some : 0 < r.order → noted xs₃ q₃ r.order order₁ ≡ replicate r.order no_pair ++ drop r.order order₁
          order_some h =
              let first : get_or xs₃ 0 0 ≡ 0 = ap (λ (s : List ℕ). get_or s 0 0) c.xors ∙ zero_front r.vertices xs₁ 0 (omega (arith, ready.order_fits)) in
              noted_zeros xs₃ q₃ r.order order₁ notes_again.room queue_zero first

          order_none : r.order ≡ 0 → noted xs₃ q₃ r.order order₁ ≡ replicate r.order no_pair ++ drop r.order order₁
          unfolding noted
          order_none e = rw e

          order_zeros : {order₂ : List Pair} → order₂ ≡ noted xs₃ q₃ r.order order₁ → order₂ ≡ replicate r.order no_pair ++ drop r.order order
          order_zeros n₂ =
              n₂ ∙ ⊎_elim (λ (h : r.order < 1). order_none (omega arith)) order_some (lt_or_ge r.order 1)
              ∙ ap (λ (rest : List Pair). replicate r.order no_pair ++ rest) order_behind

          pub assembled : {order₂ : List Pair} → order₂ ≡ noted xs₃ q₃ r.order order₁ → {built : Result Index Refusal} → built ≡ r.built → BuiltTo number go index need new table ds xs q order ms (told_index built) table₂ ds₃ xs₃ q₃ order₂ ms₃
          assembled n₂ b =
              record {
                answer_is = ap told_index b ∙ ready.answer_is;
                table_is = table_made;
                degrees_are = cleared_used go need.vertices ds ready.vertices_is (front_zero r.vertices ds ds₁ ready.degrees.behind c.degrees);
                xors_are = cleared_used go need.vertices xs ready.vertices_is (front_zero r.vertices xs xs₁ ready.xors.behind c.xors);
                queue_is = cleared_used go need.vertices q ready.vertices_is (front_zero r.vertices q q₁ ready.queue.behind c.queue);
                order_is = cleared_order go need.order order ready.order_is (order_zeros n₂);
                marks_are = cleared_used go need.vertices ms ready.vertices_is (front_zero r.vertices ms ms₂ marks_behind c.marks);
              }

-- ---- the assigned build

module _ (keys values : List ℕ) (modulus : ℕ) (table ds xs q : List ℕ) (order : List Pair) (ms seen : List ℕ) (r : Ready) (table₁ ds₁ xs₁ q₁ ms₁ seen₁ : List ℕ) (a : ReadyAssigned keys values modulus (length order) table ds xs q ms seen r table₁ ds₁ xs₁ q₁ ms₁ seen₁) where
  abbrev valued : Cut → ℕ
  valued p = get_or values p.key 0

  pub assigned_notes : Notes xs₁ q₁ order r.pairs
  assigned_notes = notes_first Assigned keys _ _ _ _ _ table ds xs q order ms r table₁ ds₁ xs₁ q₁ ms₁ a.to

  module _ {order₁ : List Pair} (n₁ : order₁ ≡ noted xs₁ q₁ r.pairs order) where
    pub assigned_pairs : {comes : Pair → ℕ → Type 0} → Follows r.pairs comes (λ p. get_or values p.key 0) order₁ → PairsReady r.pairs (length keys) r.m modulus comes order₁ ms₁ table₁
    assigned_pairs follows =
        pairs_ready Assigned keys _ _ _ _ _ table ds xs q order ms r table₁ ds₁ xs₁ q₁ ms₁ a.to n₁ modulus valued follows
        (λ h. omega (arith, a.values_below h 0 (omega (arith, a.same h, (a.to.pending h).many)))) a.values_limit (λ h i l. a.values_below h _ (omega (arith, a.same h, (a.to.pending h).left.edges i l)))

    module _ {table₂ ms₂ : List ℕ} (w : PairsAssigned (graph_of Assigned keys r.seed r.m) r.pairs r.m modulus (λ p. get_or values p.key 0) order₁ ms₁ table₁ ms₂ table₂) where
      assigned_words : 0 < r.pairs → assigned_table keys values modulus ≡ words_for Assigned keys modulus valued
      assigned_words h = many_assigned_table keys values modulus (a.to.pending h).many

      pub assigned_room : length ms₂ ≡ length ms₁ → (r.vertices ≤ length ds₁) × (r.vertices ≤ length xs₁) × (r.vertices ≤ length q₁) × (r.vertices ≤ length ms₂)
      assigned_room = clear_room Assigned keys _ _ _ _ _ table ds xs q order ms r table₁ ds₁ xs₁ q₁ ms₁ a.to n₁ modulus valued w assigned_words

      module _ {ds₃ xs₃ q₃ ms₃ : List ℕ} (c : Cleared r.vertices ds₁ xs₁ q₁ ms₂ ds₃ xs₃ q₃ ms₃) where
        pub assigned_again : Notes xs₃ q₃ order₁ r.order
        assigned_again = notes_again Assigned keys _ _ _ _ _ table ds xs q order ms r table₁ ds₁ xs₁ q₁ ms₁ a.to n₁ modulus valued w assigned_words c

        pub assigned_built : {order₂ : List Pair} → order₂ ≡ noted xs₃ q₃ r.order order₁ → {built : Result Index Refusal} → built ≡ r.built → BuiltAssigned keys values modulus table ds xs q order ms seen (told_index built) table₂ ds₃ xs₃ q₃ order₂ ms₃ seen₁
        assigned_built n₂ b =
            record {
              to = assembled Assigned keys _ _ _ _ _ table ds xs q order ms r table₁ ds₁ xs₁ q₁ ms₁ a.to n₁ modulus valued w assigned_words c n₂ b;
              seen_is = a.seen_is;
            }

-- ---- the compact build

module _ (keys table occ ds xs q : List ℕ) (order : List Pair) (ms : List ℕ) (r : Ready) (table₁ occ₁ ds₁ xs₁ q₁ ms₁ : List ℕ) (a : ReadyCompact keys (length order) table occ ds xs q ms r table₁ occ₁ ds₁ xs₁ q₁ ms₁) where
  abbrev parted : Cut → ℕ
  parted p = part_of r.m p.at

  pub compact_notes : Notes xs₁ q₁ order r.pairs
  compact_notes = notes_first Compact keys _ _ _ _ _ table ds xs q order ms r table₁ ds₁ xs₁ q₁ ms₁ a.to

  compact_bytes : 0 < r.pairs → occupancy_bytes r.m ≤ length occ₁
  compact_bytes h = omega (arith, zeroed_long (a.occupied h), (a.occupied h).room)

  module _ {order₁ : List Pair} (n₁ : order₁ ≡ noted xs₁ q₁ r.pairs order) where
    pub compact_pairs : {comes : Pair → ℕ → Type 0} → Follows r.pairs comes (λ p. part_of r.m p.at) order₁ → PairsReady r.pairs (length keys) r.m 3 comes order₁ ms₁ table₁
    compact_pairs follows =
        pairs_ready Compact keys _ _ _ _ _ table ds xs q order ms r table₁ ds₁ xs₁ q₁ ms₁ a.to n₁ 3 parted follows (λ h. omega arith) (λ h. omega arith) (λ h i l. part_below r.m (get_or q₁ i 0))

    -- the pairs name vertices with room for their bits
    pub compact_occupies : Occupies r.pairs r.m order₁ occ₁
    compact_occupies = let p = compact_pairs {comes = λ p x. x ≡ part_of r.m p.vert} (λ i x l h. h) in record { room = p.room; vertices = p.vertices; bytes = compact_bytes }

    module _ {table₂ ms₂ occ₂ : List ℕ} (w : PairsAssigned (graph_of Compact keys r.seed r.m) r.pairs r.m 3 (λ p. part_of r.m p.at) order₁ ms₁ table₁ ms₂ table₂) (o : PairsOccupied r.pairs r.m order₁ occ₁ occ₂) where
      compact_words : 0 < r.pairs → compact_table keys ≡ words_for Compact keys 3 parted
      compact_words h = many_compact_table keys r.m (a.to.pending h).many (a.to.pending h).is

      pub compact_room : length ms₂ ≡ length ms₁ → (r.vertices ≤ length ds₁) × (r.vertices ≤ length xs₁) × (r.vertices ≤ length q₁) × (r.vertices ≤ length ms₂)
      compact_room = clear_room Compact keys _ _ _ _ _ table ds xs q order ms r table₁ ds₁ xs₁ q₁ ms₁ a.to n₁ 3 parted w compact_words

      abbrev bytes : ℕ
      bytes = occupancy_bytes r.m

      occupancy_none : r.pairs ≡ 0 → occ₂ ≡ occ₁
      unfolding cuts_in bits_of
      occupancy_none none =
          let same : take bytes occ₂ ≡ take bytes occ₁ = o.bits ∙ ap (λ (k : ℕ). bits_of (cuts_in order₁ k) (take bytes occ₁)) none in
          sym (take-append-drop bytes occ₂) ∙ rw (same, o.behind) (take-append-drop bytes occ₁)

      occupancy_some : 0 < r.pairs → occ₂ ≡ over (compact_occupancy keys) occ
      occupancy_some h =
          let p = a.to.pending h in
          let z = a.occupied h in
          let cuts : cuts_in order₁ r.pairs ≡ cuts_of xs₁ q₁ (length keys) =
          noted_cuts Compact keys _ _ _ _ _ table ds xs q order ms r table₁ ds₁ xs₁ q₁ ms₁ a.to n₁ ∙ ap (cuts_of xs₁ q₁) p.all in
          let made : take bytes occ₂ ≡ compact_occupancy keys =
          o.bits
          ∙ rw (cuts, z.zeros) (bits_set r.m (cuts_of xs₁ q₁ (length keys)) (ats_below r.m xs₁ q₁ (length keys) p.left.vertices))
          ∙ ap (λ (cs : List Cut). occupancy_of r.m (ats_of cs)) p.left.order ∙ sym (many_occupancy keys r.m p.many p.is) in
          let long : length (compact_occupancy keys) ≡ bytes = length_occupied keys (omega (arith, p.many)) ∙ ap occupancy_bytes (sym p.is) in
          sym (take-append-drop bytes occ₂) ∙ rw (made, o.behind, z.behind, long)

      occupancy_made : (number : ℕ) → (0 < r.pairs → number ≡ 0) → (r.pairs ≡ 0 → occ₁ ≡ written number (compact_occupancy keys) occ) → occ₂ ≡ written number (compact_occupancy keys) occ
      occupancy_made number accepted done =
          ⊎_elim (λ (h : r.pairs < 1). let e : r.pairs ≡ 0 = omega arith in occupancy_none e ∙ done e)
          (λ (h : 1 ≤ r.pairs). occupancy_some h ∙ rw (accepted h)) (lt_or_ge r.pairs 1)

      module _ {ds₃ xs₃ q₃ ms₃ : List ℕ} (c : Cleared r.vertices ds₁ xs₁ q₁ ms₂ ds₃ xs₃ q₃ ms₃) where
        pub compact_again : Notes xs₃ q₃ order₁ r.order
        compact_again = notes_again Compact keys _ _ _ _ _ table ds xs q order ms r table₁ ds₁ xs₁ q₁ ms₁ a.to n₁ 3 parted w compact_words c

        pub compact_built : {order₂ : List Pair} → order₂ ≡ noted xs₃ q₃ r.order order₁ → {built : Result Index Refusal} → built ≡ r.built → BuiltCompact keys table occ ds xs q order ms (told_index built) table₂ occ₂ ds₃ xs₃ q₃ order₂ ms₃
        compact_built n₂ b =
            record {
              to = assembled Compact keys _ _ _ _ _ table ds xs q order ms r table₁ ds₁ xs₁ q₁ ms₁ a.to n₁ 3 parted w compact_words c n₂ b;
              occupancy_is = occupancy_made _ (λ h. (a.to.pending h).accepted) a.occupancy_done;
            }
