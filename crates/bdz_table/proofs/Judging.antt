-- The values of an assigned build, judged one by one: between two of them, the bytes are the occupancy of those that came, and
-- what is left to judge is what was to judge at first. Assumes nothing.
use Rattle.std.proofs.Common.{◌≡◌, ℕ, suc, ◌+◌, ◌<◌, ◌≤◌, Bool, true, false, not, eqb, ltb, List, [], ◌∷◌, length, get_or, drop, replicate, sym, refl, ◌∙◌, add-one, drop_of_length-le, drop-cons, le-ltb, lt-ltb}
use Rattle.bdz_base.specs.Pack.{bits_at}
use Rattle.bdz_base.specs.Refusal.{refuse}
use Rattle.bdz_base.specs.Sizes.{occupancy_bytes}
use Rattle.bdz_table.specs.Graph.{has, only_if}
use Rattle.bdz_table.specs.Occupancy.{with_bit, occupancy_of}
use Rattle.bdz_table.specs.Values.{values_no}
use Rattle.bdz_table.proofs.Bits.{occupancy_none, occupancy_more, occupancy_bit}

-- i values were judged, and none refused
pub record Judging (modulus : ℕ) (values seen : List ℕ) (i : ℕ) : Type 0 where
  -- those that came, newest first
  pub earlier : List ℕ
  pub came : seen ≡ occupancy_of modulus earlier
  pub left : values_no modulus earlier (drop i values) ≡ values_no modulus [] values

-- none yet
pub judging_none : (modulus : ℕ) (values : List ℕ) {seen : List ℕ} → seen ≡ replicate (occupancy_bytes modulus) 0 → Judging modulus values seen 0
judging_none modulus values e = record { earlier = []; came = e ∙ occupancy_none modulus; left = refl }

-- a set bit reads as 1, and any other does not
only_one : (t : Bool) → eqb (only_if t 1) 1 ≡ t
only_one true = refl
only_one false = refl

module _ {modulus : ℕ} {values seen : List ℕ} {i : ℕ} (p : Judging modulus values seen i) where
  -- all were judged
  pub judging_all : length values ≤ i → 0 ≡ values_no modulus [] values
  unfolding values_no
  judging_all h = rw (drop_of_length-le values h) at p.left

  module _ (more : i < length values) where
    -- the next value's judgement
    next : refuse 3 (not (ltb (get_or values i 0) modulus))
        (refuse 4 (has (get_or values i 0) p.earlier)
        (values_no modulus (get_or values i 0 ∷ p.earlier) (drop (suc i) values))) ≡ values_no modulus [] values
    unfolding values_no
    next = rw (drop-cons values i 0 more) at p.left

    -- it is not below the modulus
    pub judging_large : modulus ≤ get_or values i 0 → 3 ≡ values_no modulus [] values
    judging_large h = rw (le-ltb (get_or values i 0) modulus h) at next

    module _ (below : get_or values i 0 < modulus) where
      -- its bit tells whether it came
      told : {t : Bool} → t ≡ eqb (bits_at 1 seen (get_or values i 0)) 1 → has (get_or values i 0) p.earlier ≡ t
      told e = sym (e ∙ rw (p.came, occupancy_bit modulus (get_or values i 0) p.earlier below) (only_one (has (get_or values i 0) p.earlier)))

      -- it came before
      pub judging_again : true ≡ eqb (bits_at 1 seen (get_or values i 0)) 1 → 4 ≡ values_no modulus [] values
      judging_again e = rw (lt-ltb (get_or values i 0) modulus below, told e) at next

      -- it did not, and now has
      pub judging_more : {seen' : List ℕ} → false ≡ eqb (bits_at 1 seen (get_or values i 0)) 1 → seen' ≡ with_bit (get_or values i 0) seen → Judging modulus values seen' (i + 1)
      judging_more e is =
          record {
            earlier = get_or values i 0 ∷ p.earlier;
            came = rw (is, p.came) (occupancy_more modulus (get_or values i 0) p.earlier below);
            left = rw add-one (rw (lt-ltb (get_or values i 0) modulus below, told e) at next);
          }
