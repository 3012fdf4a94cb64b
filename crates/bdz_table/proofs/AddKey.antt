-- One vertex after another: the tables after the first j vertices of a key. Assumes nothing.
use Rattle.std.proofs.Common.{◌≡◌, ℕ, zero, suc, ◌+◌, ◌<◌, ◌≤◌, Bool, true, false, ◌||◌, eqb, List, [], ◌∷◌, length, get_or, take, set, sym, refl, ap, ◌∙◌, ⊎_elim, le_of_suc-le-suc, not-suc-le-zero, add-zero, add-one, arith, length-set, get_or-set_other, take-suc, get_or-set_same, eqb-true}
use borrow.Author.Tests.{eqb-false}
use lib.Bits.{bit_xor, xor_zero_r}
use Rattle.bdz_table.specs.Graph.{has, Distinct, only_if}
use Rattle.bdz_table.specs.Steps.{Places, Full}
use Rattle.bdz_table.proofs.Fold.{clash}
use Rattle.bdz_table.proofs.Has.{known, has_head, has_other, has_tail, has_append}

-- ---- the first j of a list

pub has_get_d : (us : List ℕ) (j : ℕ) → j < length us → has (get_or us j 0) us ≡ true
has_get_d [] j h = absurd (not-suc-le-zero h)
has_get_d (u ∷ us) zero h = has_head u us
has_get_d (u ∷ us) (suc j) h = has_tail (get_or us j 0) u us (has_get_d us j (le_of_suc-le-suc h))

pub distinct_take : (us : List ℕ) (j : ℕ) → Distinct us → j < length us → has (get_or us j 0) (take j us) ≡ false
unfolding Distinct has
distinct_take [] j d h = absurd (not-suc-le-zero h)
distinct_take (u ∷ us) zero d h = refl
distinct_take (u ∷ us) (suc j) d h =
    has_other (get_or us j 0) u (take j us) (λ q. clash (has_get_d us j (le_of_suc-le-suc h)) (ap (λ (y : ℕ). has y us) q ∙ d.0))
    ∙ distinct_take us j d.1 (le_of_suc-le-suc h)

pub take_next : (us : List ℕ) (j : ℕ) → j < length us → has (get_or us j 0) (take (j + 1) us) ≡ true
take_next us j h =
    ap (λ (k : ℕ). has (get_or us j 0) (take k us)) (add-one j) ∙ ap (has (get_or us j 0)) (take-suc us j 0 h)
    ∙ has_append (get_or us j 0) (take j us) (get_or us j 0 ∷ []) ∙ or (has (get_or us j 0) (take j us)) (has_head (get_or us j 0) [])
  where
    or : (b : Bool) {c : Bool} → c ≡ true → (b || c) ≡ true
    or true q = refl
    or false q = q

pub take_other : (us : List ℕ) (j v : ℕ) → j < length us → (v ≡ get_or us j 0 → ⊥) → has v (take (j + 1) us) ≡ has v (take j us)
unfolding has
take_other us j v h d =
    ap (λ (k : ℕ). has v (take k us)) (add-one j) ∙ ap (has v) (take-suc us j 0 h)
    ∙ has_append v (take j us) (get_or us j 0 ∷ []) ∙ ap (λ (b : Bool). has v (take j us) || b) (has_other v (get_or us j 0) [] d) ∙ or (has v (take j us))
  where
    or : (b : Bool) → (b || false) ≡ b
    or true = refl
    or false = refl

-- ---- the tables after the first j vertices

pub record Partly (us : List ℕ) (e : ℕ) (ds xs ds' xs' : List ℕ) (j : ℕ) : Type 0 where
  pub long : length ds' ≡ length ds
  pub longx : length xs' ≡ length xs
  pub upto : j ≤ length us
  pub degrees : (v : ℕ) → get_or ds' v 0 ≡ get_or ds v 0 + only_if (has v (take j us)) 1
  pub xors : (v : ℕ) → get_or xs' v 0 ≡ bit_xor (get_or xs v 0) (only_if (has v (take j us)) e)

pub partly_none : (us : List ℕ) (e : ℕ) (ds xs : List ℕ) → Partly us e ds xs ds xs 0
unfolding has
partly_none us e ds xs =
    record { long = refl; longx = refl; upto = omega arith; degrees = λ v. sym (add-zero _); xors = λ v. sym (xor_zero_r _) }

module _ (us : List ℕ) (e : ℕ) (ds xs ds' xs' : List ℕ) (j : ℕ) (p : Places us ds xs) (i : Partly us e ds xs ds' xs' j) where
  module _ (l : j < length us) where
    pub at_inside : get_or us j 0 < length ds'
    at_inside = omega (arith, p.inside (get_or us j 0) (has_get_d us j l), i.long)

    pub at_insidex : get_or us j 0 < length xs'
    at_insidex = omega (arith, p.inside (get_or us j 0) (has_get_d us j l), i.longx, p.same)

    -- this vertex still has what it had
    pub at_degree : get_or ds' (get_or us j 0) 0 ≡ get_or ds (get_or us j 0) 0
    at_degree = i.degrees (get_or us j 0) ∙ ap (λ (b : Bool). get_or ds (get_or us j 0) 0 + only_if b 1) (distinct_take us j p.distinct l) ∙ add-zero _

    at_xor : get_or xs' (get_or us j 0) 0 ≡ get_or xs (get_or us j 0) 0
    at_xor = i.xors (get_or us j 0) ∙ ap (λ (b : Bool). bit_xor (get_or xs (get_or us j 0) 0) (only_if b e)) (distinct_take us j p.distinct l) ∙ xor_zero_r _

    pub partly_full : get_or ds' (get_or us j 0) 0 ≡ 255 → Full us ds
    partly_full h = record { at = get_or us j 0; on = has_get_d us j l; full = sym at_degree ∙ h }

    pub partly_more : Partly us e ds xs (set ds' (get_or us j 0) (get_or ds' (get_or us j 0) 0 + 1)) (set xs' (get_or us j 0) (bit_xor (get_or xs' (get_or us j 0) 0) e)) (j + 1)
    partly_more =
        record {
          long = length-set ds' _ _ ∙ i.long;
          longx = length-set xs' _ _ ∙ i.longx;
          upto = omega arith;
          degrees = λ v. ⊎_elim (λ t. degree_same v (eqb-true v (get_or us j 0) t)) (λ t. degree_other v (eqb-false v (get_or us j 0) t)) (known (eqb v (get_or us j 0)));
          xors = λ v. ⊎_elim (λ t. xor_same v (eqb-true v (get_or us j 0) t)) (λ t. xor_other v (eqb-false v (get_or us j 0) t)) (known (eqb v (get_or us j 0)));
        }
      where
        u : ℕ
        u = get_or us j 0

        degree_same : (v : ℕ) → v ≡ u → get_or (set ds' u (get_or ds' u 0 + 1)) v 0 ≡ get_or ds v 0 + only_if (has v (take (j + 1) us)) 1
        degree_same v q =
            rw q (get_or-set_same ds' u (get_or ds' u 0 + 1) 0 at_inside ∙ ap (λ (x : ℕ). x + 1) at_degree
            ∙ ap (λ (b : Bool). get_or ds u 0 + only_if b 1) (sym (take_next us j l)))

        degree_other : (v : ℕ) → (v ≡ u → ⊥) → get_or (set ds' u (get_or ds' u 0 + 1)) v 0 ≡ get_or ds v 0 + only_if (has v (take (j + 1) us)) 1
        degree_other v d =
            get_or-set_other ds' u v (get_or ds' u 0 + 1) 0 d ∙ i.degrees v ∙ ap (λ (b : Bool). get_or ds v 0 + only_if b 1) (sym (take_other us j v l d))

        xor_same : (v : ℕ) → v ≡ u → get_or (set xs' u (bit_xor (get_or xs' u 0) e)) v 0 ≡ bit_xor (get_or xs v 0) (only_if (has v (take (j + 1) us)) e)
        xor_same v q =
            rw q (get_or-set_same xs' u (bit_xor (get_or xs' u 0) e) 0 at_insidex ∙ ap (λ (x : ℕ). bit_xor x e) at_xor
            ∙ ap (λ (b : Bool). bit_xor (get_or xs u 0) (only_if b e)) (sym (take_next us j l)))

        xor_other : (v : ℕ) → (v ≡ u → ⊥) → get_or (set xs' u (bit_xor (get_or xs' u 0) e)) v 0 ≡ bit_xor (get_or xs v 0) (only_if (has v (take (j + 1) us)) e)
        xor_other v d =
            get_or-set_other xs' u v (bit_xor (get_or xs' u 0) e) 0 d ∙ i.xors v ∙ ap (λ (b : Bool). bit_xor (get_or xs v 0) (only_if b e)) (sym (take_other us j v l d))
