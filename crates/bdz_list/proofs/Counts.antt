-- The counts, as far as they have come, and what a full count means. Assumes nothing.
use mir.Val.{bool_byte}
use Rattle.std.proofs.Common.{◌≡◌, refl, sym, ap, ◌∙◌, subst, Bool, true, false, not, cond, ◌&&◌, List, [], ◌∷◌, ◌++◌}
use Rattle.std.proofs.Common.{⊎_elim, ℕ, suc, ◌+◌, ◌/◌, ◌≤◌, ◌<◌, min, add_assoc, zero-add, add-one, arith, eqb-true}
use Rattle.std.proofs.Common.{lt-ltb, le-ltb, ltb-true, eqb, ltb, length, get_or, drop, replicate, drop_of_length-le}
use Rattle.std.proofs.Common.{drop-cons}
use borrow.Author.Tests.{eqb-false}
use lib.ListN.{length-replicate}
use Rattle.bdz_base.specs.Pack.{bits_at}
use Rattle.bdz_base.specs.Sizes.{occupancy_bytes}
use Rattle.bdz_table.specs.Graph.{has, Distinct, only_if}
use Rattle.bdz_table.specs.Occupancy.{with_bit}
use Rattle.bdz_table.proofs.Bits.{length_with_bit, bit_same, bit_other, bit_zeros}
use Rattle.bdz_table.proofs.Fold.{clash}
use Rattle.bdz_table.proofs.Has.{lt_or_ge, lacks, has_head, has_other, has_tail, has_cons}
use Rattle.bdz_list.specs.Steps.{is_new, Counted}
use Rattle.bdz_list.specs.Tally.{same_count, holders, holders_no, FirstHolders}

-- ---- the same numbers

-- i places were compared
pub record Comparing (values answers : List ℕ) (same i : ℕ) : Type 0 where
  pub few : same ≤ i
  pub left : same + same_count (drop i values) (drop i answers) ≡ same_count values answers

-- a place counts where the test holds
pub one_same : {one : ℕ} (b : Bool) → one ≡ bool_byte b → (one ≡ only_if b 1) × (one ≤ 1)
one_same true e = (e, omega (arith, e))
one_same false e = (e, omega (arith, e))

pub comparing_more : {values answers : List ℕ} {same i one : ℕ} → Comparing values answers same i → i < length values → i < length answers → (one ≡ only_if (eqb (get_or answers i 0) (get_or values i 0)) 1) × (one ≤ 1) → Comparing values answers (same + one) (i + 1)
unfolding same_count
comparing_more {values} {answers} {same} {i} {one} p h k (e, l) =
    let next = rw (drop-cons values i 0 h, drop-cons answers i 0 k, ← e) at p.left in
    record { few = omega (arith, p.few); left = rw (add-one i) (add_assoc same one _ ∙ next) }

-- nothing answered, nothing the same
same_none : (values : List ℕ) → same_count values [] ≡ 0
unfolding same_count
same_none [] = refl
same_none (x ∷ values) = refl

-- one of the two lists is at its end
pub comparing_all : {values answers : List ℕ} {same i : ℕ} → Comparing values answers same i → min (length values) (length answers) ≤ i → same ≡ same_count values answers
unfolding same_count
comparing_all {values} {answers} {same} {i} p h = ⊎_elim there here (lt_or_ge i (length values))
  where
    here : length values ≤ i → same ≡ same_count values answers
    here k =
        let e = rw (drop_of_length-le values k) at p.left in
        omega (arith, e)

    there : i < length values → same ≡ same_count values answers
    there k =
        let l : length answers ≤ i = omega arith in
        let e = rw (drop_of_length-le answers l, same_none (drop i values)) at p.left in
        omega (arith, e)

-- ---- first holders

-- i answers were looked at, and each bit tells whether its number came
pub record Holding (n : ℕ) (answers seen : List ℕ) (count i : ℕ) : Type 0 where
  -- those that came, newest first
  pub earlier : List ℕ
  pub long : length seen ≡ occupancy_bytes n
  pub bits : (v : ℕ) → v < n → bits_at 1 seen v ≡ only_if (has v earlier) 1
  pub few : count ≤ i
  pub left : count + holders n earlier (drop i answers) ≡ holders n [] answers

pub holding_none : (n : ℕ) (answers : List ℕ) {seen : List ℕ} → seen ≡ replicate (occupancy_bytes n) 0 → Holding n answers seen 0 0
unfolding has
holding_none n answers {seen} e =
    record {
      earlier = [];
      long = ap length e ∙ length-replicate (occupancy_bytes n) 0;
      bits = λ v h. rw e (bit_zeros (occupancy_bytes n) v);
      few = omega arith;
      left = zero-add _;
    }

-- one answer counts one at most
only_few : (b : Bool) → only_if b 1 ≤ 1
only_few true = omega arith
only_few false = omega arith

pub counted_few : {n x : ℕ} {seen seen' : List ℕ} {r : ℕ} → Counted n x seen r seen' → r ≤ 1
counted_few {n} {x} {seen} t = rw t.count_is (only_few (is_new n x seen))

-- a set bit reads as 1, and any other does not
only_one : (t : Bool) → eqb (only_if t 1) 1 ≡ t
only_one true = refl
only_one false = refl

-- the bit tells what the list of those that came does
new_told : (n x : ℕ) (seen earlier : List ℕ) → (x < n → bits_at 1 seen x ≡ only_if (has x earlier) 1) → is_new n x seen ≡ (ltb x n && not (has x earlier))
new_told n x seen earlier h = go (ltb x n) refl
  where
    go : (t : Bool) → ltb x n ≡ t → (t && not (eqb (bits_at 1 seen x) 1)) ≡ (t && not (has x earlier))
    go true e = rw (h (ltb-true x n e), only_one (has x earlier))
    go false e = refl

-- an answer that is new has its bit set
bits_new : (n x : ℕ) (seen earlier : List ℕ) → x / 8 < length seen → ((v : ℕ) → v < n → bits_at 1 seen v ≡ only_if (has v earlier) 1) → (v : ℕ) → v < n → bits_at 1 (with_bit x seen) v ≡ only_if (has v (x ∷ earlier)) 1
bits_new n x seen earlier l h v k = go (eqb v x) refl
  where
    go : (t : Bool) → eqb v x ≡ t → bits_at 1 (with_bit x seen) v ≡ only_if (has v (x ∷ earlier)) 1
    go true e = rw (eqb-true v x e, bit_same seen x l, has_head x earlier)
    go false e = rw (bit_other seen v x (eqb-false v x e), has_other v x earlier (eqb-false v x e)) (h v k)

-- for one that is not, the bits are right as they are
bits_old : (n x : ℕ) (seen earlier : List ℕ) → (ltb x n && not (has x earlier)) ≡ false → ((v : ℕ) → v < n → bits_at 1 seen v ≡ only_if (has v earlier) 1) → (v : ℕ) → v < n → bits_at 1 seen v ≡ only_if (has v (x ∷ earlier)) 1
bits_old n x seen earlier o h v k = go (eqb v x) refl
  where
    came : (t : Bool) → has x earlier ≡ t → x < n → has x earlier ≡ true
    came true e l = e
    came false e l = clash refl (rw (lt-ltb x n l, e) at o)

    go : (t : Bool) → eqb v x ≡ t → bits_at 1 seen v ≡ only_if (has v (x ∷ earlier)) 1
    go true e =
        let q : v ≡ x = eqb-true v x e in
        let l : x < n = rw q at k in
        rw (q, has_head x earlier) (h x l ∙ rw (came (has x earlier) refl l))
    go false e = rw (has_other v x earlier (eqb-false v x e)) (h v k)

-- the next answer
pub holding_more : {n : ℕ} {answers seen seen' : List ℕ} {count i r : ℕ} → Holding n answers seen count i → i < length answers → Counted n (get_or answers i 0) seen r seen' → Holding n answers seen' (count + r) (i + 1)
unfolding holders
holding_more {n} {answers} {seen} {seen'} {count} {i} {r} p more t =
    let x = get_or answers i 0 in
    let told = new_told n x seen p.earlier (p.bits x) in
    let one : r ≡ only_if (ltb x n && not (has x p.earlier)) 1 = t.count_is ∙ ap (λ (b : Bool). only_if b 1) told in
    let next = rw (drop-cons answers i 0 more, ← one) at p.left in
    let after : seen' ≡ cond (ltb x n && not (has x p.earlier)) (with_bit x seen) seen = t.seen_is ∙ ap (λ (b : Bool). cond b (with_bit x seen) seen) told in
    let kept = either (ltb x n && not (has x p.earlier)) refl after in
    record {
      earlier = x ∷ p.earlier;
      long = kept.0;
      bits = kept.1;
      few = omega (arith, p.few, counted_few t);
      left = rw (add-one i) (add_assoc count r _ ∙ next);
    }
  where
    below : (b : Bool) (y : ℕ) → (ltb y n && b) ≡ true → y < n
    below b y e = go (ltb y n) refl e
      where
        go : (t : Bool) → ltb y n ≡ t → (t && b) ≡ true → y < n
        go true q e = ltb-true y n q
        go false q e = clash e refl

    either : (b : Bool) → (ltb (get_or answers i 0) n && not (has (get_or answers i 0) p.earlier)) ≡ b → seen' ≡ cond b (with_bit (get_or answers i 0) seen) seen → (length seen' ≡ occupancy_bytes n) × ((v : ℕ) → v < n → bits_at 1 seen' v ≡ only_if (has v (get_or answers i 0 ∷ p.earlier)) 1)
    either true e is =
        let l = below (not (has (get_or answers i 0) p.earlier)) (get_or answers i 0) e in
        rw is (length_with_bit (get_or answers i 0) seen ∙ p.long, bits_new n (get_or answers i 0) seen p.earlier (rw p.long (omega arith)) p.bits)
    either false e is = rw is (p.long, bits_old n (get_or answers i 0) seen p.earlier e p.bits)

pub holding_all : {n : ℕ} {answers seen : List ℕ} {count i : ℕ} → Holding n answers seen count i → length answers ≤ i → count ≡ holders n [] answers
unfolding holders
holding_all {answers = answers} p h =
    let e = rw (drop_of_length-le answers h) at p.left in
    omega (arith, e)

-- ---- the returns of the count

pub no_holders : (n : ℕ) (answers seen : List ℕ) {need : ℕ} → need ≡ occupancy_bytes n → length seen < need → FirstHolders n answers seen (record { no = 14; answer = 0 }) seen
unfolding holders_no
no_holders n answers seen e h =
    let short : ltb (length seen) (occupancy_bytes n) ≡ true = lt-ltb _ _ (rw e at h) in
    record { answer_is = rw short; seen_is = rw short }

pub some_holders : (n : ℕ) (answers seen : List ℕ) {need count : ℕ} {last : List ℕ} → need ≡ occupancy_bytes n → need ≤ length seen → (count ≡ holders n [] answers) × (last ≡ replicate (occupancy_bytes n) 0) → FirstHolders n answers seen (record { no = 0; answer = count }) (last ++ drop need seen)
unfolding holders_no
some_holders n answers seen {need} {count} {last} e h (counted, zeros) =
    let room : ltb (length seen) (occupancy_bytes n) ≡ false = le-ltb _ _ (rw e at h) in
    record { answer_is = rw (room, counted); seen_is = rw (room, zeros, e, length-replicate {A = ℕ} (occupancy_bytes n) 0) }

-- ---- what the count means

-- no more than there are answers
pub holders_few : (n : ℕ) (earlier answers : List ℕ) → holders n earlier answers ≤ length answers
unfolding holders
holders_few n earlier [] = omega arith
holders_few n earlier (x ∷ answers) = omega (arith, only_few (ltb x n && not (has x earlier)), holders_few n (x ∷ earlier) answers)

-- answers that are all different, below n, and none of the earlier ones count one each
each_holds : (n : ℕ) (earlier answers : List ℕ) → Distinct answers → ((x : ℕ) → has x answers ≡ true → x < n) → ((x : ℕ) → has x answers ≡ true → has x earlier ≡ false) → holders n earlier answers ≡ length answers
unfolding holders Distinct
each_holds n earlier [] d below fresh = refl
each_holds n earlier (x ∷ answers) d below fresh =
    let l : ltb x n ≡ true = lt-ltb x n (below x (has_head x answers)) in
    let f : has x earlier ≡ false = fresh x (has_head x answers) in
    rw (l, f, each_holds n (x ∷ earlier) answers d.1 (λ y h. below y (has_tail y x answers h)) (λ y h. has_other y x earlier (λ (q : y ≡ x). clash h (ap (λ (z : ℕ). has z answers) q ∙ d.0)) ∙ fresh y (has_tail y x answers h)))
    (omega arith)

-- n different answers below n are n first holders
pub all_hold : (n : ℕ) (answers : List ℕ) → length answers ≡ n → Distinct answers → ((x : ℕ) → has x answers ≡ true → x < n) → holders n [] answers ≡ n
unfolding has
all_hold n answers long d below = each_holds n [] answers d below (λ x h. refl) ∙ long

-- ---- and the other way: a full count means that they are

-- what a full count says of answers behind the earlier ones
pub record AllFirst (n : ℕ) (earlier answers : List ℕ) : Type 0 where
  pub distinct : Distinct answers
  pub below : (x : ℕ) → has x answers ≡ true → x < n
  pub fresh : (x : ℕ) → has x answers ≡ true → has x earlier ≡ false

first_more : (n x : ℕ) (earlier answers : List ℕ) → x < n → has x earlier ≡ false → AllFirst n (x ∷ earlier) answers → AllFirst n earlier (x ∷ answers)
unfolding Distinct
first_more n x earlier answers l f p =
    record {
      distinct = (once (has x answers) refl, p.distinct);
      below = λ y h. ⊎_elim (λ q. subst (λ (z : ℕ). z < n) (sym q) l) (p.below y) (has_cons y x answers h);
      fresh = λ y h. ⊎_elim (λ q. ap (λ (z : ℕ). has z earlier) q ∙ f) (λ t. (lacks y x earlier (p.fresh y t)).1) (has_cons y x answers h);
    }
  where
    once : (t : Bool) → has x answers ≡ t → has x answers ≡ false
    once true e = clash (has_head x earlier) (p.fresh x e)
    once false e = e

full_first : (n : ℕ) (earlier answers : List ℕ) → holders n earlier answers ≡ length answers → AllFirst n earlier answers
unfolding holders Distinct has
full_first n earlier [] e = record { distinct = tt; below = λ x h. clash h refl; fresh = λ x h. clash h refl }
full_first n earlier (x ∷ answers) e = go (ltb x n) (has x earlier) refl refl e (λ q. full_first n (x ∷ earlier) answers q)
  where
    go : (a b : Bool) → ltb x n ≡ a → has x earlier ≡ b → only_if (a && not b) 1 + holders n (x ∷ earlier) answers ≡ suc (length answers) → (holders n (x ∷ earlier) answers ≡ length answers → AllFirst n (x ∷ earlier) answers) → AllFirst n earlier (x ∷ answers)
    go true false l f e next = first_more n x earlier answers (ltb-true x n l) f (next (omega arith))
    go true true l f e next = absurd (omega (arith, holders_few n (x ∷ earlier) answers))
    go false b l f e next = absurd (omega (arith, holders_few n (x ∷ earlier) answers))

pub only_hold : (n : ℕ) (answers : List ℕ) → holders n [] answers ≡ length answers → Distinct answers × ((x : ℕ) → has x answers ≡ true → x < n)
only_hold n answers e =
    let p = full_first n [] answers e in
    (p.distinct, p.below)
