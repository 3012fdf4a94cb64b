-- A buffer that is written from its start. Assumes nothing.
use Rattle.std.proofs.Common.{◌≡◌, ℕ, zero, suc, ◌+◌, ◌*◌, ◌<◌, ◌≤◌, List, [], ◌∷◌, length, get_or, drop, set, sym, refl, ◌∙◌, add-one, arith, length-append, length-set, drop-cons}
use lib.Seq.{set_at, append_snoc}
use Rattle.bdz_base.specs.Buffer.{tab, over}

pub length_tab : (f : ℕ → ℕ) (n : ℕ) → length (tab f n) ≡ n
unfolding tab
length_tab f zero = refl
length_tab f (suc n) = length-append (tab f n) (f n ∷ []) ∙ omega (arith, length_tab f n)

-- nothing written yet
pub tab_none : (f : ℕ → ℕ) (old : List ℕ) → old ≡ over (tab f 0) old
unfolding tab
tab_none f old = refl

-- one element more
pub tab_more : (f : ℕ → ℕ) (n : ℕ) (old : List ℕ) {x : ℕ} → n < length old → x ≡ f n → set (over (tab f n) old) n x ≡ over (tab f (n + 1)) old
unfolding tab
tab_more f n old h e =
    rw (length_tab f n, length_tab f (n + 1), drop-cons old n 0 h, set_at (tab f n) (get_or old n 0) (drop (suc n) old) _ n (length_tab f n), e, add-one n)
    (sym (append_snoc (tab f n) (f n) (drop (suc n) old)))

-- three elements more
pub tab_three : (f : ℕ → ℕ) (i : ℕ) (old : List ℕ) {x y z : ℕ} → 3 * i + 2 < length old → x ≡ f (3 * i) → y ≡ f (3 * i + 1) → z ≡ f (3 * i + 2) → set (set (set (over (tab f (3 * i)) old) (3 * i) x) (3 * i + 1) y) (3 * i + 2) z ≡ over (tab f (3 * (i + 1))) old
tab_three f i old h p q r =
    let s : 3 * i + 1 + 1 ≡ 3 * i + 2 = omega arith in
    let t : 3 * i + 2 + 1 ≡ 3 * (i + 1) = omega arith in
    rw (tab_more f (3 * i) old (omega arith) p, tab_more f (3 * i + 1) old (omega arith) q, s, tab_more f (3 * i + 2) old h r, t)

-- of n elements the first i are written
pub record Filled (f : ℕ → ℕ) (n i : ℕ) (old new : List ℕ) : Type 0 where
  pub upto : i ≤ n
  pub long : length new ≡ length old
  pub is : new ≡ over (tab f i) old

pub filled_none : (f : ℕ → ℕ) (n : ℕ) (old : List ℕ) → Filled f n 0 old old
filled_none f n old = record { upto = omega arith; long = refl; is = tab_none f old }

pub filled_more : {f : ℕ → ℕ} {n i x : ℕ} {old new : List ℕ} → Filled f n i old new → i < n → n ≤ length old → x ≡ f i → Filled f n (i + 1) old (set new i x)
filled_more {f} {n} {i} {x} {old} {new} w h k e =
    record { upto = omega arith; long = length-set new i x ∙ w.long; is = rw w.is (tab_more f i old (omega arith) e) }

pub filled_all : {f : ℕ → ℕ} {n i : ℕ} {old new : List ℕ} → Filled f n i old new → n ≤ i → new ≡ over (tab f n) old
filled_all {f} {n} {i} {old} {new} w h =
    let e : i ≡ n = omega (arith, w.upto) in
    rw (← e) w.is
