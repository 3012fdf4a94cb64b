-- From the parts of a peel to its answer. Assumes nothing.
use Rattle.std.proofs.Common.{◌≡◌, ℕ, ◌<◌, Bool, true, false, eqb, List, [], length, get_or, sym, refl, ap, ◌∙◌, inl, inr, ⊎_elim, eqb-true, arith}
use Rattle.bdz_table.specs.Graph.{Graph, Crowded}
use Rattle.bdz_table.specs.Peel.{ones, up_to}
use Rattle.bdz_table.specs.Steps.{Tables, Queued, carrying, CountedOr, Room, Turnable, Turned, PeelAnswer, cuts_of}
use borrow.Author.Tests.{eqb-false}
use Rattle.bdz_table.proofs.Fold.{clash}
use Rattle.bdz_table.proofs.Has.{known}
use Rattle.bdz_table.proofs.Queue.{peel_yes, peel_no}
use Rattle.bdz_table.proofs.Turning.{carrying_one}

pub counted_yes : (b : Bool) (vs : ℕ → List ℕ) (n : ℕ) (ds xs : List ℕ) → b ≡ true → CountedOr b vs n ds xs → Tables vs n [] ds xs
counted_yes true vs n ds xs h c = c
counted_yes false vs n ds xs h c = clash h refl

module _ (vs : ℕ → List ℕ) (n m : ℕ) (xs q : List ℕ) where
  pub answer_crowded : Crowded vs n → PeelAnswer false vs n m xs q
  answer_crowded c = record { yes = λ w. clash w refl; no = λ w. inl c }

  module _ (G : Graph vs n m) (r : ℕ) (t : Turned vs n m xs q r) where
    answer_stuck : (r ≡ n → ⊥) → PeelAnswer false vs n m xs q
    answer_stuck h = record { yes = λ w. clash w refl; no = λ w. inr (peel_no vs n m G (λ e. h (t.count ∙ e))) }

    answer_works : (ds xs₀ : List ℕ) → Tables vs n [] ds xs₀ → ((v : ℕ) → get_or ds v 0 < 256) → r ≡ n → PeelAnswer true vs n m xs q
    answer_works ds xs₀ a b h =
        record {
          yes = λ w. record {
            loose = λ c. omega (arith, c.over, a.degrees c.at, b c.at);
            peels = peel_yes vs n m G (sym t.count ∙ h);
            order = ap (cuts_of xs q) (sym h) ∙ t.order;
          };
          no = λ w. clash refl w;
        }

    pub answer_counted : (ds xs₀ : List ℕ) → Tables vs n [] ds xs₀ → ((v : ℕ) → get_or ds v 0 < 256) → PeelAnswer (eqb r n) vs n m xs q
    answer_counted ds xs₀ a b =
        ⊎_elim (λ h. rw h (answer_works ds xs₀ a b (eqb-true r n h))) (λ h. rw h (answer_stuck (eqb-false r n h))) (known (eqb r n))

pub turnable : (vs : ℕ → List ℕ) (n m : ℕ) (ds₀ xs₀ q₀ ds xs q : List ℕ) (qn : ℕ) → Room n m ds₀ xs₀ q₀ → length ds ≡ length ds₀ → length xs ≡ length xs₀ → length q ≡ length q₀
    → Tables vs n [] ds xs → Queued ds q qn → Turnable vs n m ds xs q qn
turnable vs n m ds₀ xs₀ q₀ ds xs q qn r ld lx lq t d =
    let e : carrying 1 ds (up_to (length ds)) ≡ ones vs n [] (up_to m) =
    ap (λ (x : ℕ). carrying 1 ds (up_to x)) (ld ∙ r.clear.longd) ∙ carrying_one vs n [] ds t.degrees (up_to m) in
    record {
      sizes = r.clear.sizes;
      longd = ld ∙ r.clear.longd;
      longx = lx ∙ r.clear.longx;
      longq = lq ∙ r.longq;
      tables = t;
      count = d.count ∙ ap length e;
      queue = d.queue ∙ e;
    }
