-- What a run comes to, and its table and occupancy. Assumes nothing.
use Rattle.std.proofs.Common.{◌≡◌, ℕ, ◌*◌, ◌/◌, ◌^◌, ◌<◌, ◌≤◌, Bool, true, false, cond, eqb, ltb, List, [], ◌∷◌, length, get_or, set, replicate, sym, refl, ◌∙◌, arith, lt-ltb, eq-eqb, ne_eqb}
use lib.ListN.{length-replicate}
use Rattle.bdz_base.specs.declared.verts.Kind.{Kind}
use Rattle.bdz_base.specs.declared.verts.Kind.TheVariants.{Assigned, Compact}
use Rattle.bdz_table.specs.Assign.{part_of}
use Rattle.bdz_table.specs.Build.{vertices_for, stuck, late_no, seed_for, cuts_for, words_for, assigned_table, compact_table, compact_occupancy}
use Rattle.bdz_table.specs.Occupancy.{occupancy_of}
use Rattle.bdz_table.specs.Peel.{ats_of}
use Rattle.bdz_table.specs.Seeds.{first_seed}
use Rattle.bdz_table.specs.Steps.{Marked, SeedFound, RanTo, new_if}
use Rattle.bdz_table.proofs.Zeroing.{replicate_zero}

-- ---- the words can be assigned along the order

pub marked_zero : (M a b : ℕ) → 0 < M → M ≤ 2 ^ 30 → a ≡ b → Marked M (replicate a 0) (replicate b 0)
marked_zero M a b p l e =
    record {
      same = length-replicate a 0 ∙ e ∙ sym (length-replicate b 0);
      zero = λ v h. replicate_zero b v;
      small = λ v. omega (arith, replicate_zero b v);
      limit = l;
    }

pub part_below : (m v : ℕ) → part_of m v < 3
unfolding part_of
part_below m v = go (ltb v (m / 3)) (ltb v (2 * (m / 3)))
  where
    go : (a b : Bool) → cond a 0 (cond b 1 2) < 3
    go true b = omega arith
    go false true = omega arith
    go false false = omega arith

-- ---- what a run comes to

module _ (kind : Kind) (keys : List ℕ) (m : ℕ) (many : 2 ≤ length keys) (is : m ≡ vertices_for kind (length keys)) where
  stuck_is : stuck kind keys ≡ eqb (first_seed kind keys m) 256
  unfolding stuck
  stuck_is = rw (lt-ltb 1 (length keys) many, is)

  -- none of the seeds works
  pub ran_stuck : first_seed kind keys m ≡ 256 → RanTo kind keys 0 (record { no = 5; seed = 0; pairs = 0 })
  unfolding late_no
  ran_stuck e =
      record { no_is = simp (stuck_is, eq-eqb _ _ e); seed_is = λ h. absurd (omega arith) }

  module _ {xs q : List ℕ} {seed : ℕ} (f : SeedFound kind keys m xs q seed) where
    pub seed_found : seed ≡ seed_for kind keys
    unfolding seed_for
    seed_found = f.seed_is ∙ rw (ne_eqb (length keys) 0 (omega arith), ne_eqb (length keys) 1 (omega arith), is)

    pub ran_found : RanTo kind keys 0 (record { no = 0; seed = seed; pairs = length keys })
    unfolding late_no
    ran_found =
        record { no_is = simp (stuck_is, ne_eqb (first_seed kind keys m) 256 (omega (arith, f.limit))); seed_is = λ h. seed_found }

-- ---- refused values, one key, and more

pub ran_refused : (kind : Kind) (keys : List ℕ) (verdict : ℕ) → (verdict ≡ 0 → ⊥) → RanTo kind keys verdict (record { no = verdict; seed = 0; pairs = 0 })
unfolding late_no
ran_refused kind keys verdict h = record { no_is = simp (ne_eqb verdict 0 h); seed_is = λ e. absurd (h e) }

pub old_stays : (number : ℕ) (new old : List ℕ) → (number ≡ 0 → ⊥) → old ≡ new_if number new old
old_stays number new old h = simp (ne_eqb number 0 h)

pub ran_one : (kind : Kind) (keys : List ℕ) → length keys ≡ 1 → RanTo kind keys 0 (record { no = 0; seed = 1; pairs = 0 })
unfolding late_no stuck seed_for
ran_one kind keys e = record { no_is = rw e; seed_is = λ h. rw e }

pub one_word : (table : List ℕ) (x : ℕ) → length table ≡ 1 → set table 0 x ≡ x ∷ []
one_word [] x e = absurd (omega (arith, e))
one_word (y ∷ []) x e = refl
one_word (y ∷ z ∷ ys) x e = absurd (omega (arith, e))

pub one_assigned : (keys values : List ℕ) (modulus : ℕ) → length keys ≡ 1 → assigned_table keys values modulus ≡ get_or values 0 0 ∷ []
unfolding assigned_table
one_assigned keys values modulus e = rw e

pub one_compact : (keys : List ℕ) → length keys ≡ 1 → compact_table keys ≡ 0 ∷ []
unfolding compact_table
one_compact keys e = rw e

pub one_occupancy : (keys : List ℕ) → length keys ≡ 1 → compact_occupancy keys ≡ 1 ∷ []
unfolding compact_occupancy
one_occupancy keys e = rw e

pub many_assigned_table : (keys values : List ℕ) (modulus : ℕ) → 2 ≤ length keys → assigned_table keys values modulus ≡ words_for Assigned keys modulus (λ p. get_or values p.key 0)
unfolding assigned_table
many_assigned_table keys values modulus h = simp (ne_eqb (length keys) 0 (omega arith), ne_eqb (length keys) 1 (omega arith))

pub many_compact_table : (keys : List ℕ) (m : ℕ) → 2 ≤ length keys → m ≡ vertices_for Compact (length keys) → compact_table keys ≡ words_for Compact keys 3 (λ p. part_of m p.at)
unfolding compact_table
many_compact_table keys m h e = rw (ne_eqb (length keys) 0 (omega arith), ne_eqb (length keys) 1 (omega arith), e)

pub many_occupancy : (keys : List ℕ) (m : ℕ) → 2 ≤ length keys → m ≡ vertices_for Compact (length keys) → compact_occupancy keys ≡ occupancy_of m (ats_of (cuts_for Compact keys))
unfolding compact_occupancy
many_occupancy keys m h e = rw (ne_eqb (length keys) 0 (omega arith), ne_eqb (length keys) 1 (omega arith), e)
