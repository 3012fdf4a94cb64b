-- The search for a seed. Assumes nothing.
use Rattle.std.specs.Prelude.{ℕ, zero, suc, ◌<◌, Bool, false, cond, not, ◌&&◌, ◌||◌, ◌⊎◌, List, [], length, ◌==◌, nat_lt}
use Rattle.bdz_base.specs.Mix.{seed_at}
use Rattle.bdz_base.specs.declared.verts.Kind.{Kind}
use Rattle.bdz_table.specs.Graph.{degree, Crowded, Peelable}
use Rattle.bdz_table.specs.Keys.{graph_of}
use Rattle.bdz_table.specs.Peel.{peel}

-- does a number below m pass the test?
unfoldable pub any_to : (ℕ → Bool) → ℕ → Bool
any_to p zero = false
any_to p (suc m) = any_to p m || p m

-- "A vertex may carry 255 keys; the 256th fails the seed"
unfoldable pub crowded : (ℕ → List ℕ) → ℕ → ℕ → Bool
crowded vs n m = any_to (λ v. nat_lt 255 (degree vs n [] v)) m

-- the queue's run removes all keys
unfoldable pub peels_all : (ℕ → List ℕ) → ℕ → ℕ → Bool
peels_all vs n m = length (peel vs n m).done == n

-- try i works
unfoldable pub works_at : Kind → List ℕ → ℕ → ℕ → Bool
works_at kind keys m i =
    not (crowded (graph_of kind keys (seed_at i) m) (length keys) m) && peels_all (graph_of kind keys (seed_at i) m) (length keys) m

-- of k tries from try i on, the first that works; i + k if none does
unfoldable pub first_from : (ℕ → Bool) → ℕ → ℕ → ℕ
first_from works zero i = i
first_from works (suc k) i = cond (works i) i (first_from works k (suc i))

-- "one `splitmix64` step per try, at most 256; the first that works is kept"; 256 if none does
unfoldable pub first_seed : Kind → List ℕ → ℕ → ℕ
first_seed kind keys m = first_from (works_at kind keys m) 256 0

-- a seed "either puts over 255 keys on one vertex or allows no order in which every key has a vertex that no later key touches"
abbrev pub Fails : (ℕ → List ℕ) → ℕ → Type 0
Fails vs n = Crowded vs n ⊎ (Peelable vs n → ⊥)

-- "each of the 256 seeds" does
abbrev pub EachFails : Kind → List ℕ → ℕ → Type 0
EachFails kind keys m = (i : ℕ) → i < 256 → Fails (graph_of kind keys (seed_at i) m) (length keys)
