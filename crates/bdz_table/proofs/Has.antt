-- Membership by a test, and lists with no number twice. Assumes nothing.
use Rattle.std.proofs.Common.{◌≡◌, ℕ, zero, suc, ◌+◌, ◌<◌, ◌≤◌, Bool, true, false, ◌||◌, eqb, ltb, ◌⊎◌, List, [], ◌∷◌, ◌++◌, length, sym, refl, ap, ◌∙◌, ap₂, inl, inr, ⊎_elim, le_of_suc-le-suc, not-suc-le-zero, add_assoc, add_comm, eq-or-lt_of_le, zero-add, arith, ltb-false, ltb-true, eq-eqb, ne_eqb, eqb-true}
use mathlib.Core.List.{reverse_aux}
use borrow.Author.Tests.{eqb-false}
use Rattle.bdz_table.specs.Graph.{has, Distinct, only_if, times, count_to, fold_to}
use Rattle.bdz_table.proofs.Fold.{clash, fold_change, count_true, count_false, count_none}

pub known : (b : Bool) → (b ≡ true) ⊎ (b ≡ false)
known true = inl refl
known false = inr refl

pub lt_or_ge : (a b : ℕ) → (a < b) ⊎ (b ≤ a)
lt_or_ge a b = ⊎_elim (λ t. inl (ltb-true a b t)) (λ t. inr (ltb-false a b t)) (known (ltb a b))

pub has_head : (k : ℕ) (xs : List ℕ) → has k (k ∷ xs) ≡ true
unfolding has
has_head k xs = ap (λ (b : Bool). b || has k xs) (eq-eqb k k refl)

pub has_other : (k x : ℕ) (xs : List ℕ) → (k ≡ x → ⊥) → has k (x ∷ xs) ≡ has k xs
unfolding has
has_other k x xs d = ap (λ (b : Bool). b || has k xs) (ne_eqb k x d)

pub has_cons : (k x : ℕ) (xs : List ℕ) → has k (x ∷ xs) ≡ true → (k ≡ x) ⊎ (has k xs ≡ true)
has_cons k x xs h = ⊎_elim (λ t. inl (eqb-true k x t)) (λ t. inr (sym (has_other k x xs (eqb-false k x t)) ∙ h)) (known (eqb k x))

pub or_true : (b : Bool) → (b || true) ≡ true
or_true true = refl
or_true false = refl

pub has_tail : (k x : ℕ) (xs : List ℕ) → has k xs ≡ true → has k (x ∷ xs) ≡ true
unfolding has
has_tail k x xs h = ap (λ (b : Bool). eqb k x || b) h ∙ or_true (eqb k x)

pub lacks : (k x : ℕ) (xs : List ℕ) → has k (x ∷ xs) ≡ false → (k ≡ x → ⊥) × (has k xs ≡ false)
lacks k x xs h =
    let d : k ≡ x → ⊥ = λ e. clash (ap (λ (y : ℕ). has k (y ∷ xs)) (sym e) ∙ has_head k xs) h in
    (d, sym (has_other k x xs d) ∙ h)

pub has_append : (k : ℕ) (xs ys : List ℕ) → has k (xs ++ ys) ≡ (has k xs || has k ys)
unfolding has
has_append k [] ys = refl
has_append k (x ∷ xs) ys = ap (λ (b : Bool). eqb k x || b) (has_append k xs ys) ∙ or (eqb k x)
  where
    or : (b : Bool) → (b || (has k xs || has k ys)) ≡ (b || has k xs || has k ys)
    or true = refl
    or false = refl

pub has_append_r : (k : ℕ) (xs ys : List ℕ) → has k ys ≡ true → has k (xs ++ ys) ≡ true
has_append_r k [] ys h = h
has_append_r k (x ∷ xs) ys h = has_tail k x (xs ++ ys) (has_append_r k xs ys h)

pub has_append_l : (k : ℕ) (xs ys : List ℕ) → has k xs ≡ true → has k (xs ++ ys) ≡ true
has_append_l k xs ys h = has_append k xs ys ∙ ap (λ (b : Bool). b || has k ys) h

pub has_append_cases : (k : ℕ) (xs ys : List ℕ) → has k (xs ++ ys) ≡ true → (has k xs ≡ true) ⊎ (has k ys ≡ true)
has_append_cases k xs ys h =
    ⊎_elim (λ t. inl t) (λ t. inr (sym (has_append k xs ys ∙ ap (λ (b : Bool). b || has k ys) t) ∙ h)) (known (has k xs))

pub distinct_append : (xs ys : List ℕ) → Distinct xs → Distinct ys → ((k : ℕ) → has k xs ≡ true → has k ys ≡ false) → Distinct (xs ++ ys)
unfolding Distinct
distinct_append [] ys dx dy h = dy
distinct_append (x ∷ xs) ys dx dy h =
    (has_append x xs ys ∙ ap₂ ◌||◌ dx.0 (h x (has_head x xs)), distinct_append xs ys dx.1 dy (λ k t. h k (has_tail k x xs t)))

-- ---- counting members

pub times_lacks : (k : ℕ) (xs : List ℕ) → has k xs ≡ false → times k xs ≡ 0
unfolding times
times_lacks k [] h = refl
times_lacks k (x ∷ xs) h =
    ap₂ (λ (b : Bool) (t : ℕ). only_if b 1 + t) (ne_eqb k x (lacks k x xs h).0) (times_lacks k xs (lacks k x xs h).1)

pub times_head : (k : ℕ) (xs : List ℕ) → times k (k ∷ xs) ≡ 1 + times k xs
unfolding times
times_head k xs = ap (λ (b : Bool). only_if b 1 + times k xs) (eq-eqb k k refl)

pub times_other : (k x : ℕ) (xs : List ℕ) → (k ≡ x → ⊥) → times k (x ∷ xs) ≡ times k xs
unfolding times
times_other k x xs d = ap (λ (b : Bool). only_if b 1 + times k xs) (ne_eqb k x d) ∙ zero-add _

pub times_has : (k : ℕ) (xs : List ℕ) → Distinct xs → has k xs ≡ true → times k xs ≡ 1
unfolding times Distinct has
times_has k [] d h = clash h refl
times_has k (x ∷ xs) d h = go (λ u. times_has k xs d.1 u)
  where
    same : eqb k x ≡ true → times k (x ∷ xs) ≡ 1
    same t =
        let q : k ≡ x = eqb-true k x t in
        ap (λ (y : ℕ). times k (y ∷ xs)) (sym q) ∙ times_head k xs ∙ ap (λ (c : ℕ). 1 + c) (times_lacks k xs (ap (λ (y : ℕ). has y xs) q ∙ d.0))

    other : (has k xs ≡ true → times k xs ≡ 1) → eqb k x ≡ false → times k (x ∷ xs) ≡ 1
    other ih t = times_other k x xs (eqb-false k x t) ∙ ih (sym (has_other k x xs (eqb-false k x t)) ∙ h)

    go : (has k xs ≡ true → times k xs ≡ 1) → times k (x ∷ xs) ≡ 1
    go ih = ⊎_elim same (other ih) (known (eqb k x))

pub has_times : (k : ℕ) (xs : List ℕ) → 1 ≤ times k xs → has k xs ≡ true
has_times k xs h = ⊎_elim (λ t. t) (λ t. absurd (let z : times k xs ≡ 0 = times_lacks k xs t in omega arith)) (known (has k xs))

pub has_pos : (k : ℕ) (xs : List ℕ) → has k xs ≡ true → 1 ≤ times k xs
unfolding has times
has_pos k [] h = clash h refl
has_pos k (x ∷ xs) h = go (eqb k x) refl (λ u. has_pos k xs u)
  where
    go : (b : Bool) → eqb k x ≡ b → (has k xs ≡ true → 1 ≤ times k xs) → 1 ≤ only_if (eqb k x) 1 + times k xs
    go true q ih = rw q (omega arith)
    go false q ih = rw q (omega (arith, ih (sym (has_other k x xs (eqb-false k x q)) ∙ h)))

pub times_reverse : (k : ℕ) (xs ys : List ℕ) → times k (reverse_aux xs ys) ≡ times k xs + times k ys
unfolding times
times_reverse k [] ys = sym (zero-add _)
times_reverse k (x ∷ xs) ys = times_reverse k xs (x ∷ ys) ∙ (omega arith)

-- as many numbers below n are in the list as the list is long
pub count_has : (n : ℕ) (l : List ℕ) → Distinct l → ((i : ℕ) → has i l ≡ true → i < n) → count_to (λ i. has i l) n ≡ length l
unfolding count_to Distinct has
count_has n [] d h = count_none (λ i. has i []) n (λ i k. refl)
count_has n (x ∷ l) d h =
    let ih : fold_to ◌+◌ (λ i. only_if (has i l) 1) n ≡ length l = count_has n l d.1 (λ i t. h i (has_tail i x l t)) in
    let c : fold_to ◌+◌ (λ i. only_if (has i (x ∷ l)) 1) n + only_if (has x l) 1 ≡ fold_to ◌+◌ (λ i. only_if (has i l) 1) n + only_if (has x (x ∷ l)) 1 =
    fold_change ◌+◌ add_assoc add_comm (λ i. only_if (has i l) 1) (λ i. only_if (has i (x ∷ l)) 1) x n (h x (has_head x l)) (λ i q. ap (λ (b : Bool). only_if b 1) (has_other i x l q)) in
    let z : only_if (has x l) 1 ≡ 0 = ap (λ (b : Bool). only_if b 1) d.0 in
    let w : only_if (has x (x ∷ l)) 1 ≡ 1 = ap (λ (b : Bool). only_if b 1) (has_head x l) in
    omega arith

pub count_le : (p : ℕ → Bool) (n : ℕ) → count_to p n ≤ n
unfolding count_to fold_to
count_le p zero = omega arith
count_le p (suc n) = go (p n) (count_le p n)
  where
    go : (b : Bool) → fold_to ◌+◌ (λ i. only_if (p i) 1) n ≤ n → fold_to ◌+◌ (λ i. only_if (p i) 1) n + only_if b 1 ≤ suc n
    go true h = omega arith
    go false h = omega arith

pub count_full : (p : ℕ → Bool) (n : ℕ) → count_to p n ≡ n → (i : ℕ) → i < n → p i ≡ true
count_full p zero h i l = absurd (not-suc-le-zero l)
count_full p (suc n) h i l = go (p n) refl (eq-or-lt_of_le (le_of_suc-le-suc l)) (λ z r. count_full p n z i r)
  where
    go : (b : Bool) → p n ≡ b → (i ≡ n) ⊎ (i < n) → (count_to p n ≡ n → i < n → p i ≡ true) → p i ≡ true
    go true q (inl r) ih = ap p r ∙ q
    go true q (inr r) ih = ih (let z : count_to p (suc n) ≡ count_to p n + 1 = count_true p n q in omega arith) r
    go false q s ih = absurd (omega (arith, count_false p n q, count_le p n))

-- a list of different numbers below n has at most n of them
pub distinct_short : (n : ℕ) (l : List ℕ) → Distinct l → ((i : ℕ) → has i l ≡ true → i < n) → length l ≤ n
distinct_short n l d h = omega (arith, count_has n l d h, count_le (λ i. has i l) n)

-- one of n of them has them all
pub distinct_full : (n : ℕ) (l : List ℕ) → Distinct l → ((i : ℕ) → has i l ≡ true → i < n) → length l ≡ n → (i : ℕ) → i < n → has i l ≡ true
distinct_full n l d h e i k = count_full (λ j. has j l) n (count_has n l d h ∙ e) i k

pub count_missing : (p : ℕ → Bool) (n : ℕ) → count_to p n < n → (e : ℕ) × (e < n) × (p e ≡ false)
count_missing p zero h = absurd (not-suc-le-zero h)
count_missing p (suc n) h = go (p n) refl (λ k. count_missing p n k)
  where
    go : (b : Bool) → p n ≡ b → (count_to p n < n → (e : ℕ) × (e < n) × (p e ≡ false)) → (e : ℕ) × (e < suc n) × (p e ≡ false)
    go true q ih = let r : (e : ℕ) × (e < n) × (p e ≡ false) = ih (omega (arith, count_true p n q)) in (r.0, omega (arith, r.1), r.2)
    go false q ih = (n, omega arith, q)

-- fewer than n of them: one is missing
pub distinct_missing : (n : ℕ) (l : List ℕ) → Distinct l → ((i : ℕ) → has i l ≡ true → i < n) → (length l ≡ n → ⊥) → (e : ℕ) × (e < n) × (has e l ≡ false)
distinct_missing n l d h k =
    let ne : count_to (λ i. has i l) n ≡ n → ⊥ = λ q. k (sym (count_has n l d h) ∙ q) in
    count_missing (λ i. has i l) n (omega (arith, count_le (λ i. has i l) n))
