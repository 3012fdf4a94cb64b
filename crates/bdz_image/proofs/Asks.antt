-- Demand 3, the feed's part: pages in any order, and what is answered when. Assumes nothing.
use mathlib.Core.Path.{◌≡◌, refl, sym, ap, ◌∙◌}
use mathlib.Core.Bool.{cond, Bool, true, false}
use mathlib.Core.List.{List, []}
use Prim.Native.Nat.{ℕ, ◌+◌, ◌-◌, ◌*◌, ◌/◌, ◌%◌, ◌^◌, ◌≤◌, ◌<◌}
use native.Mathlib.Nat.{div-eq_of_lt, mod-eq_of_lt, lt_of_lt_of_le}
use native.Mathlib.Omega.{arith}
use lib.Dec.{eqb}
use lib.Pow.{pow_mono}
use lib.ListN.{length, get_or}
use borrow.Author.Tests.{eqb-true, eq-eqb}
use Rattle.bdz_image.specs.Feed.{word_in, among, slot}
use Rattle.bdz_image.specs.Ask.{Words, missing_at, ask_no, ask_value, words_of, Came}
use Rattle.bdz_image.proofs.Any.{at_start, complete, waits, word_lt}
use Rattle.bdz_image.proofs.Sweeps.{Fed}

-- fresh slots are those of a feed to which no page came
pub fresh : (w : ℕ) (body vs slots : List ℕ) → w ≤ 32 → length vs ≤ length slots → ((s : ℕ) → s < length vs → get_or slots s 0 ≡ slot (2 ^ w - 1) 0) → Fed w body vs [] slots
fresh w body vs slots b r h = record { room = r; holds = λ s l. h s l ∙ sym (at_start w body (get_or vs s 0) b) }

module _ (w : ℕ) (body vs slots ps : List ℕ) (z : 0 < w) (b : w ≤ 32) (f : Fed w body vs ps slots) where
  whole : (s : ℕ) → s < length vs → Came w ps (get_or vs s 0) → get_or slots s 0 ≡ word_in w body (get_or vs s 0)
  whole s h c = f.holds s h ∙ complete w body (get_or vs s 0) b (among ps) c.first c.last

  small : (s : ℕ) → word_in w body (get_or vs s 0) < 2 ^ 32
  small s = lt_of_lt_of_le (word_lt w body (get_or vs s 0)) (pow_mono b)

  none : (s : ℕ) → s < length vs → Came w ps (get_or vs s 0) → get_or slots s 0 / 2 ^ 32 ≡ 0
  none s h c = rw (whole s h c) (div-eq_of_lt (small s))

  word : (s : ℕ) → s < length vs → Came w ps (get_or vs s 0) → get_or slots s 0 % 2 ^ 32 ≡ word_in w body (get_or vs s 0)
  word s h c = rw (whole s h c) (mod-eq_of_lt (small s))

  came : (s : ℕ) → s < length vs → get_or slots s 0 / 2 ^ 32 ≡ 0 → Came w ps (get_or vs s 0)
  came s h e =
      let q = waits w body (get_or vs s 0) b (among ps) z (ap (λ (x : ℕ). x / 2 ^ 32) (sym (f.holds s h)) ∙ e) in
      record { first = q.0; last = q.1 }

  module _ (i : ℕ) (h : 3 * i + 2 < length vs) where
    -- once its own pages came, a key is answered from its three words
    pub answered : (finish : ℕ → ℕ → ℕ → ℕ) → Came w ps (get_or vs (3 * i) 0) → Came w ps (get_or vs (3 * i + 1) 0) → Came w ps (get_or vs (3 * i + 2) 0) → (ask_no slots i ≡ 0) × (ask_value finish slots i ≡ finish (word_in w body (get_or vs (3 * i) 0)) (word_in w body (get_or vs (3 * i + 1) 0)) (word_in w body (get_or vs (3 * i + 2) 0)))
    unfolding ask_no ask_value
    answered finish p q r =
        let k : 3 * i < length vs = omega arith in
        let l : 3 * i + 1 < length vs = omega arith in
        let m : missing_at slots i ≡ 0 = omega (arith, none (3 * i) k p, none (3 * i + 1) l q, none (3 * i + 2) h r) in
        let e : eqb (missing_at slots i) 0 ≡ true = eq-eqb (missing_at slots i) 0 m in
        rw (e, word (3 * i) k p, word (3 * i + 1) l q, word (3 * i + 2) h r) (refl, refl)

    -- and not before
    pub not_before : ask_no slots i ≡ 0 → Came w ps (get_or vs (3 * i) 0) × Came w ps (get_or vs (3 * i + 1) 0) × Came w ps (get_or vs (3 * i + 2) 0)
    unfolding ask_no
    not_before e = go (eqb (missing_at slots i) 0) refl e
      where
        go : (t : Bool) → eqb (missing_at slots i) 0 ≡ t → cond {A = ℕ} t 0 18 ≡ 0 → Came w ps (get_or vs (3 * i) 0) × Came w ps (get_or vs (3 * i + 1) 0) × Came w ps (get_or vs (3 * i + 2) 0)
        go true q e =
            let m : missing_at slots i ≡ 0 = eqb-true (missing_at slots i) 0 q in
            (came (3 * i) (omega arith) (omega arith), came (3 * i + 1) (omega arith) (omega arith), came (3 * i + 2) h (omega arith))
        go false q e = absurd (omega arith)

-- the code's answer is the one spoken of here
pub words_no : (slots : List ℕ) (i : ℕ) → (words_of slots i).no ≡ ask_no slots i
unfolding words_of ask_no
words_no slots i = go (eqb (missing_at slots i) 0)
  where
    go : (t : Bool) → (cond {A = Words} t (record { no = 0; a = get_or slots (3 * i) 0 % 2 ^ 32; b = get_or slots (3 * i + 1) 0 % 2 ^ 32; c = get_or slots (3 * i + 2) 0 % 2 ^ 32 }) (record { no = 18; a = 0; b = 0; c = 0 })).no ≡ cond {A = ℕ} t 0 18
    go true = refl
    go false = refl

pub words_value : (finish : ℕ → ℕ → ℕ → ℕ) (slots : List ℕ) (i : ℕ) → ask_no slots i ≡ 0 → finish (words_of slots i).a (words_of slots i).b (words_of slots i).c ≡ ask_value finish slots i
unfolding words_of ask_no ask_value
words_value finish slots i e = go (eqb (missing_at slots i) 0) e
  where
    words : Bool → Words
    words t = cond {A = Words} t (record { no = 0; a = get_or slots (3 * i) 0 % 2 ^ 32; b = get_or slots (3 * i + 1) 0 % 2 ^ 32; c = get_or slots (3 * i + 2) 0 % 2 ^ 32 }) (record { no = 18; a = 0; b = 0; c = 0 })

    go : (t : Bool) → cond {A = ℕ} t 0 18 ≡ 0 → finish (words t).a (words t).b (words t).c ≡ cond t (finish (get_or slots (3 * i) 0 % 2 ^ 32) (get_or slots (3 * i + 1) 0 % 2 ^ 32) (get_or slots (3 * i + 2) 0 % 2 ^ 32)) 0
    go true e = refl
    go false e = absurd (omega arith)
