-- Summing words, and assigning them from the newest cut to the oldest. Assumes nothing.
use Rattle.std.proofs.Common.{◌≡◌, ℕ, ◌+◌, ◌-◌, ◌*◌, ◌%◌, ◌<◌, ◌≤◌, true, eqb, List, [], ◌∷◌, ◌++◌, length, get_or, take, set, sym, refl, ap, ◌∙◌, ap₂, ⊎_elim, add-zero, mod-lt, zero-add, add-one, arith, length-set, take_all, get_or-set_other, take-suc, get_or-set_same, eqb-true}
use lib.ListN.{get_or-append}
use borrow.Author.Tests.{eqb-false}
use Rattle.bdz_base.specs.declared.verts.Kind.{Kind}
use Rattle.bdz_base.proofs.VertexLaws.{vertices_below}
use Rattle.bdz_table.specs.Graph.{has}
use Rattle.bdz_table.specs.Keys.{graph_of}
use Rattle.bdz_table.specs.Assign.{sum_at, word_for}
use Rattle.bdz_table.specs.Steps.{Marked, Reach, Word}
use Rattle.bdz_table.proofs.Has.{known, has_head, has_tail}
use Rattle.bdz_table.proofs.Counting.{three_inside}
use Rattle.bdz_table.proofs.AddKey.{has_get_d}

sum_append : (g xs ys : List ℕ) → sum_at g (xs ++ ys) ≡ sum_at g xs + sum_at g ys
unfolding sum_at
sum_append g [] ys = sym (zero-add _)
sum_append g (x ∷ xs) ys = omega (arith, sum_append g xs ys)

-- words behind those of the vertices do not count
pub sum_front : (g rest us : List ℕ) → ((u : ℕ) → has u us ≡ true → u < length g) → sum_at (g ++ rest) us ≡ sum_at g us
unfolding sum_at
sum_front g rest [] h = refl
sum_front g rest (u ∷ us) h =
    ap₂ ◌+◌ (get_or-append g rest 0 u (h u (has_head u us))) (sum_front g rest us (λ v t. h v (has_tail v u us t)))

sum_next : (g us : List ℕ) (j : ℕ) → j < length us → sum_at g (take (j + 1) us) ≡ sum_at g (take j us) + get_or g (get_or us j 0) 0
unfolding sum_at
sum_next g us j h =
    ap (λ (k : ℕ). sum_at g (take k us)) (add-one j) ∙ ap (sum_at g) (take-suc us j 0 h)
    ∙ sum_append g (take j us) (get_or us j 0 ∷ []) ∙ ap (λ (x : ℕ). sum_at g (take j us) + x) (add-zero _)

pub record Summing (M : ℕ) (us g : List ℕ) (s j : ℕ) : Type 0 where
  pub upto : j ≤ length us
  pub is : s ≡ sum_at g (take j us)
  pub bound : s ≤ j * 1073741823

pub summing_none : (M : ℕ) (us g : List ℕ) → Summing M us g 0 0
unfolding sum_at
summing_none M us g = record { upto = omega arith; is = refl; bound = omega arith }

module _ (M : ℕ) (us ms g : List ℕ) (m : Marked M ms g) (r : Reach us g) (s j : ℕ) (i : Summing M us g s j) where
  pub summing_all : length us ≤ j → s ≡ sum_at g us
  summing_all l = i.is ∙ ap (sum_at g) (take_all j us l)

  module _ (l : j < length us) where
    pub summing_inside : get_or us j 0 < length g
    summing_inside = r.inside (get_or us j 0) (has_get_d us j l)

    pub summing_insidem : get_or us j 0 < length ms
    summing_insidem = omega (arith, summing_inside, m.same)

    pub summing_add : Summing M us g (s + get_or g (get_or us j 0) 0) (j + 1)
    summing_add =
        record { upto = omega arith; is = omega (arith, i.is, sum_next g us j l); bound = omega (arith, i.bound, m.small (get_or us j 0), m.limit) }

    pub summing_pass : get_or ms (get_or us j 0) 0 ≡ 0 → Summing M us g s (j + 1)
    summing_pass h =
        record { upto = omega arith; is = omega (arith, i.is, sum_next g us j l, m.zero (get_or us j 0) h); bound = omega (arith, i.bound) }

pub reach_of : (kind : Kind) (keys : List ℕ) (seed m e : ℕ) (g : List ℕ) → 3 ≤ m → length g ≡ m → Reach (graph_of kind keys seed m e) g
unfolding graph_of
reach_of kind keys seed m e g z h =
    record { few = omega arith; inside = λ v t. omega (arith, three_inside m v (vertices_below kind (get_or keys e 0) seed m (omega arith)) t) }

pub word_below : (M x s : ℕ) → 0 < M → word_for M x s < M
unfolding word_for
word_below M x s h = mod-lt _ h

pub marked_more : (M : ℕ) (ms g : List ℕ) (v w : ℕ) → Marked M ms g → v < length g → w < M → Marked M (set ms v 1) (set g v w)
marked_more M ms g v w a l h =
    record {
      same = length-set ms v 1 ∙ a.same ∙ sym (length-set g v w);
      zero = λ u z. ⊎_elim (λ t. absurd (same_place u (eqb-true u v t) z)) (λ t. get_or-set_other g v u w 0 (eqb-false u v t) ∙ a.zero u (sym (get_or-set_other ms v u 1 0 (eqb-false u v t)) ∙ z)) (known (eqb u v));
      small = λ u. ⊎_elim (λ t. omega (arith, ap (λ (y : ℕ). get_or (set g v w) y 0) (eqb-true u v t) ∙ get_or-set_same g v w 0 l)) (λ t. omega (arith, get_or-set_other g v u w 0 (eqb-false u v t), a.small u)) (known (eqb u v));
      limit = a.limit;
    }
  where
    same_place : (u : ℕ) → u ≡ v → get_or (set ms v 1) u 0 ≡ 0 → ⊥
    same_place u q z = omega (arith, sym (ap (λ (y : ℕ). get_or (set ms v 1) y 0) q) ∙ z, get_or-set_same ms v 1 0 (omega (arith, a.same)))

pub word_of : (M x v s : ℕ) (us ms g : List ℕ) → s ≡ sum_at g us → Word M x v us ms g (set ms v 1) (set g v ((x + M - s % M) % M))
unfolding word_for
word_of M x v s us ms g h = record { words = ap (λ (y : ℕ). set g v ((x + M - y % M) % M)) h; marks = refl }
