-- The place that halving finds. Assumes nothing.
use Rattle.std.proofs.Common.{◌≡◌, refl, sym, ◌∙◌, List, ℕ, zero, suc, ◌+◌, ◌-◌, ◌*◌, ◌/◌, ◌≤◌, ◌<◌, arith, length}
use Rattle.std.proofs.Common.{get_or, length-set, drop, drop_of_length-le, le-ltb, lt-ltb, add-one, drop-cons}
use Rattle.bdz_image.specs.Sweep.{place_of, vertex_in, sweep_of, touch_of}

abbrev pub mid : ℕ → ℕ → ℕ
mid lo hi = lo + (hi - lo) / 2

module _ (es : List ℕ) (x : ℕ) where
  pub none_left : (k lo hi : ℕ) → hi ≤ lo → place_of k es x lo hi ≡ lo
  unfolding place_of
  none_left zero lo hi h = refl
  none_left (suc k) lo hi h = rw (le-ltb lo hi h)

  pub to_right : (k lo hi : ℕ) → lo < hi → vertex_in (get_or es (mid lo hi) 0) < x → place_of (suc k) es x lo hi ≡ place_of k es x (mid lo hi + 1) hi
  unfolding place_of
  to_right k lo hi h l = rw (lt-ltb lo hi h, lt-ltb (vertex_in (get_or es (mid lo hi) 0)) x l)

  pub to_left : (k lo hi : ℕ) → lo < hi → x ≤ vertex_in (get_or es (mid lo hi) 0) → place_of (suc k) es x lo hi ≡ place_of k es x lo (mid lo hi)
  unfolding place_of
  to_left k lo hi h l = rw (lt-ltb lo hi h, le-ltb (vertex_in (get_or es (mid lo hi) 0)) x l)

  -- the loop: what is found from here, in k steps, is what is found from the start
  pub record Halving (n lo hi : ℕ) : Type 0 where
    pub steps : ℕ
    pub enough : hi - lo ≤ steps
    pub in_list : hi ≤ n
    pub finds : place_of steps es x lo hi ≡ place_of n es x 0 n

  pub halving_right : {n lo hi : ℕ} → Halving n lo hi → lo < hi → vertex_in (get_or es (mid lo hi) 0) < x → Halving n (mid lo hi + 1) hi
  halving_right {n} {lo} {hi} r l m = go r.steps r.enough r.finds
    where
      go : (k : ℕ) → hi - lo ≤ k → place_of k es x lo hi ≡ place_of n es x 0 n → Halving n (mid lo hi + 1) hi
      go zero e f = absurd (omega arith)
      go (suc k) e f = record { steps = k; enough = omega arith; in_list = r.in_list; finds = sym (to_right k lo hi l m) ∙ f }

  pub halving_left : {n lo hi : ℕ} → Halving n lo hi → lo < hi → x ≤ vertex_in (get_or es (mid lo hi) 0) → Halving n lo (mid lo hi)
  halving_left {n} {lo} {hi} r l m = go r.steps r.enough r.finds
    where
      go : (k : ℕ) → hi - lo ≤ k → place_of k es x lo hi ≡ place_of n es x 0 n → Halving n lo (mid lo hi)
      go zero e f = absurd (omega arith)
      go (suc k) e f = let h = r.in_list in record { steps = k; enough = omega arith; in_list = omega arith; finds = sym (to_left k lo hi l m) ∙ f }

  pub halving_end : {n lo hi : ℕ} → Halving n lo hi → hi ≤ lo → lo ≡ place_of n es x 0 n
  halving_end {n} {lo} {hi} r h = sym (none_left r.steps lo hi h) ∙ r.finds

-- ---- the sweep

module _ (w p : ℕ) (bytes es : List ℕ) where
  pub sweep_step : (j : ℕ) (slots : List ℕ) → j < length es → vertex_in (get_or es j 0) * w < (p + 1) * 32768 → sweep_of w p bytes (drop j es) slots ≡ sweep_of w p bytes (drop (j + 1) es) (touch_of w p bytes (get_or es j 0) slots)
  unfolding sweep_of
  sweep_step j slots h l = rw (add-one j, drop-cons es j 0 h, lt-ltb (vertex_in (get_or es j 0) * w) ((p + 1) * 32768) l)

  pub length_touch : (e : ℕ) (slots : List ℕ) → length (touch_of w p bytes e slots) ≡ length slots
  unfolding touch_of
  length_touch e slots = simp length-set

  pub sweep_stop : (j : ℕ) (slots : List ℕ) → j < length es → (p + 1) * 32768 ≤ vertex_in (get_or es j 0) * w → slots ≡ sweep_of w p bytes (drop j es) slots
  unfolding sweep_of
  sweep_stop j slots h l = rw (drop-cons es j 0 h, le-ltb (vertex_in (get_or es j 0) * w) ((p + 1) * 32768) l)

  pub sweep_done : (j : ℕ) (slots : List ℕ) → length es ≤ j → slots ≡ sweep_of w p bytes (drop j es) slots
  unfolding sweep_of
  sweep_done j slots h = rw (drop_of_length-le es h)
