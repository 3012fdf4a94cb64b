-- A width is its bits, and is refused as the bits say. Assumes nothing.
use Rattle.std.proofs.Common.{◌≡◌, ℕ, ◌<◌, ◌≤◌, Bool, true, false, ◌||◌, eqb, ltb, Result, Ok, Err, IfOk, subst, refl, sym, ◌∙◌, ap, arith, ne_eqb, le-ltb, true≢false}
use Rattle.std.proofs.Math.Bridge.{le_prop}
use Rattle.bdz_base.specs.Refusal.{number, number_of, refuse}
use Rattle.bdz_base.specs.declared.refusal.Refusal.{Refusal}
use Rattle.bdz_base.specs.declared.width.Width.{Width}
use Rattle.bdz_base.proofs.Refusals.{one_number, number_some, test_passed}

abbrev made : (n : ℕ) → 0 < n → n ≤ 32 → Width
made n some within = record { bits = n; some = some; within = within }

same_made : (n m : ℕ) (s : 0 < n) (w : n ≤ 32) (t : 0 < m) (v : m ≤ 32) → n ≡ m → made n s w ≡ made m t v
same_made n m s w t v e =
    subst (λ (k : ℕ). (t : 0 < k) (v : k ≤ 32) → made n s w ≡ made k t v) e
    (λ t v. λ i. made n (le_prop s t i) (le_prop w v i)) t v

same_width : (a b : Width) → a.bits ≡ b.bits → a ≡ b
same_width a b e = same_made a.bits b.bits a.some a.within b.some b.within e

-- what is told of a width of so many bits, or of its refusal, leaves one answer
pub one_told_width : (x y : Result Width Refusal) (n : ℕ) → number_of x ≡ number_of y
    → IfOk x (λ (w : Width). w.bits ≡ n) → IfOk y (λ (w : Width). w.bits ≡ n) → x ≡ y
one_told_width (Ok a) (Ok b) n e p q = ap Ok (same_width a b (p ∙ sym q))
one_told_width (Ok a) (Err s) n e p q = absurd (omega (arith, number_some s))
one_told_width (Err r) (Ok b) n e p q = absurd (omega (arith, number_some r))
one_told_width (Err r) (Err s) n e p q = ap Err (one_number r s e)

-- the number of `Width::new`
abbrev pub width_no : ℕ → ℕ
width_no w = refuse 10 (eqb w 0 || ltb 32 w) 0

-- what a cascade says that tests 0 and over 32 one after the other
pub width_refused : (r : Refusal) (w next : ℕ) → number r ≡ width_no w
    → number r ≡ refuse 10 (eqb w 0) (refuse 10 (ltb 32 w) next)
width_refused r w next = go (eqb w 0) (ltb 32 w)
  where
    go : (none over : Bool) → number r ≡ refuse 10 (none || over) 0 → number r ≡ refuse 10 none (refuse 10 over next)
    go true over e = e
    go false true e = e
    go false false e = absurd (omega (arith, number_some r))

pub width_passed : (w : ℕ) → 0 ≡ width_no w → (eqb w 0 ≡ false) × (ltb 32 w ≡ false)
width_passed w e = go (eqb w 0) (ltb 32 w) (test_passed 9 _ e)
  where
    go : (none over : Bool) → (none || over) ≡ false → (none ≡ false) × (over ≡ false)
    go true over e = absurd (true≢false e)
    go false over e = (refl, e)

-- a width of 1 to 32 is accepted
pub width_none : (w : ℕ) → 0 < w → w ≤ 32 → width_no w ≡ 0
width_none w s l = rw (ne_eqb w 0 (omega arith), le-ltb 32 w l)
