-- Sums and exclusive ors over the numbers below n, and what one changed term does to them. Assumes nothing.
use Rattle.std.proofs.Common.{◌≡◌, ℕ, zero, suc, ◌+◌, ◌*◌, ◌/◌, ◌%◌, ◌<◌, Bool, true, false, ◌⊎◌, sym, refl, ap, ◌∙◌, ap₂, inl, inr, ⊎_elim, true≢false, le_of_suc-le-suc, not-suc-le-zero, add-zero, eq-or-lt_of_le, arith}
use lib.Bits.{bit_xor, differ, xor_step, xor_zero_r, xor_self, xor_shr}
use lib.Arith.{bin_ind, digits_mod}
use Rattle.bdz_table.specs.Graph.{only_if, fold_to, count_to, xor_to}

-- ---- exclusive or is associative

differ_lt : (x y : ℕ) → x < 2 → y < 2 → differ x y < 2
differ_lt zero y hx hy = hy
differ_lt (suc x) zero hx hy = hx
differ_lt (suc x) (suc y) hx hy = differ_lt x y (omega arith) (omega arith)

differ_assoc : (x y z : ℕ) → x < 2 → y < 2 → z < 2 → differ (differ x y) z ≡ differ x (differ y z)
differ_assoc zero y z hx hy hz = refl
differ_assoc (suc zero) zero z hx hy hz = refl
differ_assoc (suc zero) (suc zero) zero hx hy hz = refl
differ_assoc (suc zero) (suc zero) (suc zero) hx hy hz = refl
differ_assoc (suc zero) (suc zero) (suc (suc z)) hx hy hz = omega arith
differ_assoc (suc zero) (suc (suc y)) z hx hy hz = omega arith
differ_assoc (suc (suc x)) y z hx hy hz = omega arith

xor_half : (a b : ℕ) → bit_xor a b / 2 ≡ bit_xor (a / 2) (b / 2)
xor_half a b = xor_shr a b 1

xor_odd : (a b : ℕ) → bit_xor a b % 2 ≡ differ (a % 2) (b % 2)
xor_odd a b = ap (λ (x : ℕ). x % 2) (xor_step a b) ∙ digits_mod (bit_xor (a / 2) (b / 2)) (differ_lt (a % 2) (b % 2) (omega arith) (omega arith))

pub xor_assoc : (a b c : ℕ) → bit_xor (bit_xor a b) c ≡ bit_xor a (bit_xor b c)
xor_assoc =
    bin_ind (λ (n : ℕ). (b c : ℕ) → bit_xor (bit_xor n b) c ≡ bit_xor n (bit_xor b c)) (λ b c. refl)
    (λ n ih b c. xor_step (bit_xor n b) c
    ∙ ap₂ (λ (x y : ℕ). x * 2 + y)
    (ap (λ (x : ℕ). bit_xor x (c / 2)) (xor_half n b) ∙ ih (b / 2) (c / 2) ∙ ap (bit_xor (n / 2)) (sym (xor_half b c)))
    (ap (λ (x : ℕ). differ x (c % 2)) (xor_odd n b) ∙ differ_assoc (n % 2) (b % 2) (c % 2) (omega arith) (omega arith) (omega arith)
    ∙ ap (differ (n % 2)) (sym (xor_odd b c)))
    ∙ sym (xor_step n (bit_xor b c)))

-- xor twice by one number
pub xor_twice : (a e : ℕ) → bit_xor (bit_xor a e) e ≡ a
xor_twice a e = xor_assoc a e e ∙ ap (bit_xor a) (xor_self e) ∙ xor_zero_r a

-- ---- folds

pub fold_same : (op : ℕ → ℕ → ℕ) (f g : ℕ → ℕ) (n : ℕ) → ((i : ℕ) → i < n → g i ≡ f i) → fold_to op g n ≡ fold_to op f n
unfolding fold_to
fold_same op f g zero h = refl
fold_same op f g (suc n) h = ap₂ op (fold_same op f g n (λ i k. h i (omega arith))) (h n (omega arith))

module _ (op : ℕ → ℕ → ℕ) (assoc : (a b c : ℕ) → op (op a b) c ≡ op a (op b c)) (comm : (a b : ℕ) → op a b ≡ op b a) where
  swap_last : (a b c : ℕ) → op (op a b) c ≡ op (op a c) b
  swap_last a b c = assoc a b c ∙ ap (op a) (comm b c) ∙ sym (assoc a c b)

  -- one term changed
  pub fold_change : (f g : ℕ → ℕ) (e n : ℕ) → e < n → ((i : ℕ) → (i ≡ e → ⊥) → g i ≡ f i)
      → op (fold_to op g n) (f e) ≡ op (fold_to op f n) (g e)
  unfolding fold_to
  fold_change f g e zero h k = absurd (not-suc-le-zero h)
  fold_change f g e (suc n) h k = ⊎_elim last (λ l. before l (fold_change f g e n l k)) (eq-or-lt_of_le (le_of_suc-le-suc h))
    where
      last : e ≡ n → op (op (fold_to op g n) (g n)) (f e) ≡ op (op (fold_to op f n) (f n)) (g e)
      last q =
          ap (λ (x : ℕ). op (op (fold_to op g n) (g n)) (f x)) q
          ∙ ap (λ (x : ℕ). op (op x (g n)) (f n)) (fold_same op f g n (λ i l. k i (λ r. omega arith)))
          ∙ swap_last _ _ _
          ∙ ap (λ (x : ℕ). op (op (fold_to op f n) (f n)) (g x)) (sym q)

      before : e < n → op (fold_to op g n) (f e) ≡ op (fold_to op f n) (g e) → op (op (fold_to op g n) (g n)) (f e) ≡ op (op (fold_to op f n) (f n)) (g e)
      before l ih =
          ap (λ (x : ℕ). op (op (fold_to op g n) x) (f e)) (k n (λ r. omega arith))
          ∙ swap_last _ _ _
          ∙ ap (λ (x : ℕ). op x (f n)) ih
          ∙ swap_last _ _ _

-- ---- counting

pub count_true : (p : ℕ → Bool) (n : ℕ) → p n ≡ true → count_to p (suc n) ≡ count_to p n + 1
unfolding count_to fold_to
count_true p n h = ap (λ (b : Bool). fold_to ◌+◌ (λ i. only_if (p i) 1) n + only_if b 1) h

pub count_false : (p : ℕ → Bool) (n : ℕ) → p n ≡ false → count_to p (suc n) ≡ count_to p n
unfolding count_to fold_to
count_false p n h = ap (λ (b : Bool). fold_to ◌+◌ (λ i. only_if (p i) 1) n + only_if b 1) h ∙ add-zero _

xor_true : (p : ℕ → Bool) (n : ℕ) → p n ≡ true → xor_to p (suc n) ≡ bit_xor (xor_to p n) n
unfolding xor_to fold_to
xor_true p n h = ap (λ (b : Bool). bit_xor (fold_to bit_xor (λ i. only_if (p i) i) n) (only_if b n)) h

xor_false : (p : ℕ → Bool) (n : ℕ) → p n ≡ false → xor_to p (suc n) ≡ xor_to p n
unfolding xor_to fold_to
xor_false p n h = ap (λ (b : Bool). bit_xor (fold_to bit_xor (λ i. only_if (p i) i) n) (only_if b n)) h ∙ xor_zero_r _

pub count_none : (p : ℕ → Bool) (n : ℕ) → ((i : ℕ) → i < n → p i ≡ false) → count_to p n ≡ 0
unfolding count_to fold_to
count_none p zero h = refl
count_none p (suc n) h = count_false p n (h n (omega arith)) ∙ count_none p n (λ i k. h i (omega arith))

xor_none : (p : ℕ → Bool) (n : ℕ) → ((i : ℕ) → i < n → p i ≡ false) → xor_to p n ≡ 0
unfolding xor_to fold_to
xor_none p zero h = refl
xor_none p (suc n) h = xor_false p n (h n (omega arith)) ∙ xor_none p n (λ i k. h i (omega arith))

pub none_of_zero : (p : ℕ → Bool) (n : ℕ) → count_to p n ≡ 0 → (i : ℕ) → i < n → p i ≡ false
none_of_zero p zero h i l = absurd (not-suc-le-zero l)
none_of_zero p (suc n) h i l = go (p n) refl (eq-or-lt_of_le (le_of_suc-le-suc l)) (λ z r. none_of_zero p n z i r)
  where
    go : (b : Bool) → p n ≡ b → (i ≡ n) ⊎ (i < n) → (count_to p n ≡ 0 → i < n → p i ≡ false) → p i ≡ false
    go true q s ih = absurd (let z : count_to p (suc n) ≡ count_to p n + 1 = count_true p n q in omega arith)
    go false q (inl r) ih = ap p r ∙ q
    go false q (inr r) ih = ih (sym (count_false p n q) ∙ h) r

-- exactly one number passes: the exclusive or is that number
pub record TheOne (p : ℕ → Bool) (n e : ℕ) : Type 0 where
  pub below : e < n
  pub passes : p e ≡ true
  pub only : (j : ℕ) → j < n → p j ≡ true → j ≡ e

pub clash : {A : Type 0} {b : Bool} → b ≡ true → b ≡ false → A
clash p q = absurd (true≢false (sym p ∙ q))

pub count_one : (p : ℕ → Bool) (n e : ℕ) → TheOne p n e → count_to p n ≡ 1
count_one p zero e o = absurd (not-suc-le-zero o.below)
count_one p (suc n) e o = go (p n) refl (eq-or-lt_of_le (le_of_suc-le-suc o.below)) (λ t. count_one p n e t)
  where
    other : (i : ℕ) → (b : Bool) → p i ≡ b → i < suc n → (i ≡ e → ⊥) → p i ≡ false
    other i true q l d = absurd (d (o.only i l q))
    other i false q l d = q

    go : (b : Bool) → p n ≡ b → (e ≡ n) ⊎ (e < n) → (TheOne p n e → count_to p n ≡ 1) → count_to p (suc n) ≡ 1
    go true q s ih =
        let r : n ≡ e = o.only n (omega arith) q in
        let z : count_to p n ≡ 0 = count_none p n (λ i l. other i (p i) refl (omega arith) (λ t. omega arith)) in
        count_true p n q ∙ ap (λ (x : ℕ). x + 1) z
    go false q (inl r) ih = clash o.passes (ap p r ∙ q)
    go false q (inr r) ih = count_false p n q ∙ ih (record { below = r; passes = o.passes; only = λ j l t. o.only j (omega arith) t })

pub the_one : (p : ℕ → Bool) (n : ℕ) → count_to p n ≡ 1 → TheOne p n (xor_to p n)
the_one p zero h = absurd (let z : count_to p 0 ≡ 0 = count_none p 0 (λ i l. absurd (not-suc-le-zero l)) in omega arith)
the_one p (suc n) h = go (p n) refl (λ z. the_one p n z)
  where
    go : (b : Bool) → p n ≡ b → (count_to p n ≡ 1 → TheOne p n (xor_to p n)) → TheOne p (suc n) (xor_to p (suc n))
    go true q ih =
        let z : count_to p n ≡ 0 = let e : count_to p (suc n) ≡ count_to p n + 1 = count_true p n q in omega arith in
        let none : (i : ℕ) → i < n → p i ≡ false = none_of_zero p n z in
        let x : xor_to p (suc n) ≡ n = xor_true p n q ∙ ap (λ (y : ℕ). bit_xor y n) (xor_none p n none) in
        rw x (record { below = omega arith; passes = q; only = λ j l t. ⊎_elim (λ (r : j ≡ n). r) (λ (r : j < n). clash t (none j r)) (eq-or-lt_of_le (le_of_suc-le-suc l)) })
    go false q ih =
        let t : TheOne p n (xor_to p n) = ih (sym (count_false p n q) ∙ h) in
        rw (xor_false p n q) (record { below = let b : xor_to p n < n = t.below in omega arith; passes = t.passes; only = λ j l u. ⊎_elim (λ (r : j ≡ n). clash u (ap p r ∙ q)) (λ (r : j < n). t.only j r u) (eq-or-lt_of_le (le_of_suc-le-suc l)) })
