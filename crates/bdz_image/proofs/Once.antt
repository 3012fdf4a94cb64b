-- Numbers of a rising row, each once. Assumes nothing.
use mathlib.Core.Path.{◌≡◌, refl, sym, ap, ◌∙◌, subst}
use mathlib.Core.List.{List, [], ◌∷◌, ◌++◌, append-nil}
use Prim.Native.Nat.{ℕ, zero, suc, ◌+◌, ◌-◌, ◌*◌, ◌≤◌, ◌<◌}
use native.Mathlib.Numerals.{add-one, unary_clauses}
use native.Mathlib.Nat.{sub-zero}
use native.Mathlib.Omega.{arith}
use lib.ListN.{length, set, take, drop, replicate, length-set, take-append-drop}
use lib.Seq.{drop-drop, append_snoc, take-suc-set, drop-set-lt, length-take-le}
use borrow.Author.Tests.{le-ltb, lt-ltb}
use Rattle.bdz_image.specs.Pages.{once_of, Listing, padded}

pub drop_zeros : (k n : ℕ) → drop {A = ℕ} k (replicate n 0) ≡ replicate (n - k) 0
drop_zeros zero n = rw sub-zero
drop_zeros (suc k) zero = let z : 0 - suc k ≡ 0 = omega arith in rw z
drop_zeros (suc k) (suc n) = simp unary_clauses (drop_zeros k n)

module _ (f : ℕ → ℕ) where
  once_skip : (k i next : ℕ) → f i < next → once_of f (suc k) i next ≡ once_of f k (i + 1) next
  unfolding once_of
  once_skip k i next h = rw (lt-ltb (f i) next h)

  once_put : (k i next : ℕ) → next ≤ f i → once_of f (suc k) i next ≡ f i ∷ once_of f k (i + 1) (f i + 1)
  unfolding once_of
  once_put k i next h = rw (le-ltb (f i) next h)

  once_end : (i next : ℕ) → once_of f 0 i next ≡ []
  unfolding once_of
  once_end i next = refl

  -- two places of the row on
  pub listing_twice : (i : ℕ) {n count next : ℕ} {pages : List ℕ} → Listing f n count next (2 * i + 1 + 1) pages → Listing f n count next (2 * (i + 1)) pages
  listing_twice i {n} {count} {next} {pages} l = let z : 2 * i + 1 + 1 ≡ 2 * (i + 1) = omega arith in subst (λ (t : ℕ). Listing f n count next t pages) z l

  module _ {n count next i : ℕ} {pages : List ℕ} where
    pub listing_skip : Listing f n count next i pages → i < n → f i < next → Listing f n count next (i + 1) pages
    listing_skip l h k =
        let s : n - i ≡ suc (n - (i + 1)) = omega arith in
        let g = l.few in
        record {
          few = omega arith;
          within = omega arith;
          long = l.long;
          listed = ap (λ (t : List ℕ). take count pages ++ t) (sym (ap (λ (m : ℕ). once_of f m i next) s ∙ once_skip (n - (i + 1)) i next k)) ∙ l.listed;
          clear = l.clear;
        }

    pub listing_put : Listing f n count next i pages → i < n → next ≤ f i → Listing f n (count + 1) (f i + 1) (i + 1) (set pages count (f i))
    listing_put l h k =
        let s : n - i ≡ suc (n - (i + 1)) = omega arith in
        let g = l.few in
        let q = l.long in
        let z : n - count - 1 ≡ n - (count + 1) = omega arith in
        record {
          few = omega arith;
          within = omega arith;
          long = simp length-set l.long;
          listed =
              rw (add-one count, take-suc-set pages count (f i) (omega arith), append_snoc (take count pages) (f i) (once_of f (n - (i + 1)) (i + 1) (f i + 1)))
              (ap (λ (t : List ℕ). take count pages ++ t) (sym (ap (λ (m : ℕ). once_of f m i next) s ∙ once_put (n - (i + 1)) i next k)) ∙ l.listed);
          clear =
              drop-set-lt (count + 1) pages count (f i) (omega arith)
              ∙ sym (drop-drop 1 count pages) ∙ ap (λ (t : List ℕ). drop 1 t) l.clear ∙ drop_zeros 1 (n - count)
              ∙ ap (λ (m : ℕ). replicate m 0) z;
        }

    pub listing_end : Listing f n count next i pages → n ≤ i → (count ≡ length (once_of f n 0 0)) × (pages ≡ padded n (once_of f n 0 0))
    listing_end l h =
        let g = l.few in
        let u = l.within in
        let q = l.long in
        let z : n - i ≡ 0 = omega arith in
        let e : take count pages ≡ once_of f n 0 0 = sym (append-nil (take count pages)) ∙ ap (λ (t : List ℕ). take count pages ++ t) (sym (ap (λ (m : ℕ). once_of f m i next) z ∙ once_end i next)) ∙ l.listed in
        let c : count ≡ length (once_of f n 0 0) = sym (length-take-le count pages (omega arith)) ∙ ap length e in
        (c, sym (take-append-drop count pages) ∙ (λ j. e j ++ l.clear j) ∙ ap (λ (m : ℕ). once_of f n 0 0 ++ replicate (n - m) 0) c)

  pub listing_skip_two : (i : ℕ) {n count next : ℕ} {pages : List ℕ} → Listing f n count next (2 * i) pages → 2 * i + 1 < n → f (2 * i) < next → f (2 * i + 1) < next → Listing f n count next (2 * (i + 1)) pages
  listing_skip_two i l h p q = listing_twice i (listing_skip (listing_skip l (omega arith) p) h q)
