-- The tables and the queue after a key left the first j of its vertices. Assumes nothing.
use Rattle.std.proofs.Common.{◌≡◌, ℕ, ◌+◌, ◌-◌, ◌<◌, ◌≤◌, Bool, true, false, eqb, List, [], ◌∷◌, ◌++◌, length, get_or, take, drop, set, sym, refl, ap, ◌∙◌, append_assoc, append-nil, add-zero, add-one, arith, length-append, length-set, take-append-drop, take-suc, take-suc-set, eq-eqb, ne_eqb}
use lib.Bits.{bit_xor}
use Rattle.bdz_table.specs.Peel.{keep_if}
use Rattle.bdz_table.specs.Steps.{Leaves, carrying}
use Rattle.bdz_table.proofs.AddKey.{has_get_d}
use Rattle.bdz_table.proofs.Mapped.{Mapped, mapped_none, mapped_here, mapped_more}

pub carrying_append : (k : ℕ) (ds xs ys : List ℕ) → carrying k ds (xs ++ ys) ≡ carrying k ds xs ++ carrying k ds ys
unfolding carrying
carrying_append k ds [] ys = refl
carrying_append k ds (x ∷ xs) ys = ap (keep_if (eqb (get_or ds x 0) k) x) (carrying_append k ds xs ys) ∙ keep (eqb (get_or ds x 0) k)
  where
    keep : (b : Bool) → keep_if b x (carrying k ds xs ++ carrying k ds ys) ≡ keep_if b x (carrying k ds xs) ++ carrying k ds ys
    keep true = refl
    keep false = refl

-- one vertex more
carrying_more : (k : ℕ) (ds us : List ℕ) (j : ℕ) → j < length us → carrying k ds (take (j + 1) us) ≡ carrying k ds (take j us) ++ keep_if (eqb (get_or ds (get_or us j 0) 0) k) (get_or us j 0) []
unfolding carrying
carrying_more k ds us j l =
    ap (λ (i : ℕ). carrying k ds (take i us)) (add-one j) ∙ ap (carrying k ds) (take-suc us j 0 l) ∙ carrying_append k ds (take j us) (get_or us j 0 ∷ [])

carrying_le : (k : ℕ) (ds us : List ℕ) (j : ℕ) → length (carrying k ds (take j us)) ≤ length (carrying k ds us)
carrying_le k ds us j =
    let e : length (carrying k ds us) ≡ length (carrying k ds (take j us)) + length (carrying k ds (drop j us)) =
    ap (λ (t : List ℕ). length (carrying k ds t)) (sym (take-append-drop j us)) ∙ ap length (carrying_append k ds (take j us) (drop j us)) ∙ length-append (carrying k ds (take j us)) (carrying k ds (drop j us)) in
    omega arith

pub record Leaving (us : List ℕ) (e : ℕ) (ds xs q : List ℕ) (qn : ℕ) (ds' xs' q' : List ℕ) (n j : ℕ) : Type 0 where
  pub upto : j ≤ length us
  pub deg : Mapped (λ d. d - 1) us ds ds' j
  pub xor : Mapped (λ x. bit_xor x e) us xs xs' j
  pub longq : length q' ≡ length q
  pub count : n ≡ qn + length (carrying 2 ds (take j us))
  pub queue : take n q' ≡ take qn q ++ carrying 2 ds (take j us)

module _ (us : List ℕ) (e : ℕ) (ds xs q : List ℕ) (qn : ℕ) where
  pub leaving_none : Leaving us e ds xs q qn ds xs q qn 0
  unfolding carrying
  leaving_none =
      record {
        upto = omega arith;
        deg = mapped_none (λ d. d - 1) us ds;
        xor = mapped_none (λ x. bit_xor x e) us xs;
        longq = refl;
        count = sym (add-zero _);
        queue = sym (append-nil _);
      }

  module _ (p : Leaves us ds xs q qn) (ds' xs' q' : List ℕ) (n j : ℕ) (i : Leaving us e ds xs q qn ds' xs' q' n j) where
    module _ (l : j < length us) where
      pub leaving_inside : get_or us j 0 < length ds'
      leaving_inside = omega (arith, p.places.inside (get_or us j 0) (has_get_d us j l), i.deg.long)

      pub leaving_insidex : get_or us j 0 < length xs'
      leaving_insidex = omega (arith, p.places.inside (get_or us j 0) (has_get_d us j l), i.xor.long, p.places.same)

      pub leaving_some : 1 ≤ get_or ds' (get_or us j 0) 0
      leaving_some = omega (arith, p.carried (get_or us j 0) (has_get_d us j l), mapped_here (λ d. d - 1) us ds ds' j i.deg p.places.distinct l)

      deg_more : Mapped (λ d. d - 1) us ds (set ds' (get_or us j 0) (get_or ds' (get_or us j 0) 0 - 1)) (j + 1)
      deg_more = mapped_more (λ d. d - 1) us ds ds' j i.deg p.places.distinct l (p.places.inside (get_or us j 0) (has_get_d us j l))

      xor_more : Mapped (λ x. bit_xor x e) us xs (set xs' (get_or us j 0) (bit_xor (get_or xs' (get_or us j 0) 0) e)) (j + 1)
      xor_more = mapped_more (λ x. bit_xor x e) us xs xs' j i.xor p.places.distinct l (omega (arith, p.places.inside (get_or us j 0) (has_get_d us j l), p.places.same))

      pub leaving_skip : (get_or ds' (get_or us j 0) 0 - 1 ≡ 1 → ⊥)
          → Leaving us e ds xs q qn (set ds' (get_or us j 0) (get_or ds' (get_or us j 0) 0 - 1)) (set xs' (get_or us j 0) (bit_xor (get_or xs' (get_or us j 0) 0) e)) q' n (j + 1)
      leaving_skip h =
          let k : carrying 2 ds (take (j + 1) us) ≡ carrying 2 ds (take j us) =
          carrying_more 2 ds us j l
          ∙ ap (λ (b : Bool). carrying 2 ds (take j us) ++ keep_if b (get_or us j 0) [])
          (ne_eqb (get_or ds (get_or us j 0) 0) 2 (λ r. h (omega (arith, mapped_here (λ d. d - 1) us ds ds' j i.deg p.places.distinct l))))
          ∙ append-nil _ in
          record {
            upto = omega arith;
            deg = deg_more;
            xor = xor_more;
            longq = i.longq;
            count = i.count ∙ ap (λ (t : List ℕ). qn + length t) (sym k);
            queue = i.queue ∙ ap (λ (t : List ℕ). take qn q ++ t) (sym k);
          }

      module _ (h : get_or ds' (get_or us j 0) 0 - 1 ≡ 1) where
        one_more : carrying 2 ds (take (j + 1) us) ≡ carrying 2 ds (take j us) ++ (get_or us j 0 ∷ [])
        one_more =
            carrying_more 2 ds us j l
            ∙ ap (λ (b : Bool). carrying 2 ds (take j us) ++ keep_if b (get_or us j 0) [])
            (eq-eqb (get_or ds (get_or us j 0) 0) 2 (omega (arith, mapped_here (λ d. d - 1) us ds ds' j i.deg p.places.distinct l)))

        count_more : n + 1 ≡ qn + length (carrying 2 ds (take (j + 1) us))
        count_more = omega (arith, i.count, ap length one_more ∙ length-append (carrying 2 ds (take j us)) (get_or us j 0 ∷ []))

        pub leaving_room : n < length q'
        leaving_room = omega (arith, count_more, carrying_le 2 ds us (j + 1), p.room, i.longq)

        pub leaving-push :
            Leaving us e ds xs q qn (set ds' (get_or us j 0) (get_or ds' (get_or us j 0) 0 - 1)) (set xs' (get_or us j 0) (bit_xor (get_or xs' (get_or us j 0) 0) e)) (set q' n (get_or us j 0)) (n + 1) (j + 1)
        leaving-push =
            record {
              upto = omega arith;
              deg = deg_more;
              xor = xor_more;
              longq = length-set q' n (get_or us j 0) ∙ i.longq;
              count = count_more;
              queue =
                  ap (λ (x : ℕ). take x (set q' n (get_or us j 0))) (add-one n) ∙ take-suc-set q' n (get_or us j 0) leaving_room
                  ∙ ap (λ (t : List ℕ). t ++ (get_or us j 0 ∷ [])) i.queue ∙ append_assoc (take qn q) (carrying 2 ds (take j us)) (get_or us j 0 ∷ []) ∙ ap (λ (t : List ℕ). take qn q ++ t) (sym one_more);
            }
