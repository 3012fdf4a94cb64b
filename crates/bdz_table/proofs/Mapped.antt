-- A table after a step f was made at the first j of some different places. Assumes nothing.
use Rattle.std.proofs.Common.{◌≡◌, ℕ, ◌+◌, ◌<◌, Bool, cond, eqb, List, length, get_or, take, set, sym, refl, ap, ◌∙◌, ⊎_elim, arith, length-set, get_or-set_other, get_or-set_same, eqb-true}
use borrow.Author.Tests.{eqb-false}
use Rattle.bdz_table.specs.Graph.{has, Distinct}
use Rattle.bdz_table.proofs.Has.{known}
use Rattle.bdz_table.proofs.AddKey.{distinct_take, take_next, take_other}

pub record Mapped (f : ℕ → ℕ) (us t t' : List ℕ) (j : ℕ) : Type 0 where
  pub long : length t' ≡ length t
  pub cells : (v : ℕ) → get_or t' v 0 ≡ cond (has v (take j us)) (f (get_or t v 0)) (get_or t v 0)

module _ (f : ℕ → ℕ) (us t : List ℕ) where
  pub mapped_none : Mapped f us t t 0
  unfolding has
  mapped_none = record { long = refl; cells = λ v. refl }

  module _ (t' : List ℕ) (j : ℕ) (i : Mapped f us t t' j) where
    module _ (d : Distinct us) (l : j < length us) where
      -- the next place is as it was
      pub mapped_here : get_or t' (get_or us j 0) 0 ≡ get_or t (get_or us j 0) 0
      mapped_here = i.cells (get_or us j 0) ∙ ap (λ (b : Bool). cond b (f (get_or t (get_or us j 0) 0)) (get_or t (get_or us j 0) 0)) (distinct_take us j d l)

      pub mapped_more : get_or us j 0 < length t → Mapped f us t (set t' (get_or us j 0) (f (get_or t' (get_or us j 0) 0))) (j + 1)
      mapped_more b =
          record {
            long = length-set t' _ _ ∙ i.long;
            cells = λ v. ⊎_elim (λ q. same v (eqb-true v (get_or us j 0) q)) (λ q. other v (eqb-false v (get_or us j 0) q)) (known (eqb v (get_or us j 0)));
          }
        where
          u : ℕ
          u = get_or us j 0

          same : (v : ℕ) → v ≡ u → get_or (set t' u (f (get_or t' u 0))) v 0 ≡ cond (has v (take (j + 1) us)) (f (get_or t v 0)) (get_or t v 0)
          same v q =
              rw q (get_or-set_same t' u (f (get_or t' u 0)) 0 (omega (arith, i.long)) ∙ ap f mapped_here
              ∙ ap (λ (p : Bool). cond p (f (get_or t u 0)) (get_or t u 0)) (sym (take_next us j l)))

          other : (v : ℕ) → (v ≡ u → ⊥) → get_or (set t' u (f (get_or t' u 0))) v 0 ≡ cond (has v (take (j + 1) us)) (f (get_or t v 0)) (get_or t v 0)
          other v q =
              get_or-set_other t' u v (f (get_or t' u 0)) 0 q ∙ i.cells v ∙ ap (λ (p : Bool). cond p (f (get_or t v 0)) (get_or t v 0)) (sym (take_other us j v l q))
