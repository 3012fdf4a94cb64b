-- A graph by its keys: key number e has the vertices `vs e`, a list of any length, and keys are numbered 0 to n - 1.
-- What it is to peel it. Assumes nothing.
use Rattle.std.specs.Prelude.{◌≡◌, ℕ, zero, suc, ◌+◌, ◌<◌, ◌≤◌, Bool, true, false, not, ◌&&◌, ◌||◌, List, [], ◌∷◌, ◌==◌, bit_xor}

-- is x in the list?
unfoldable pub has : ℕ → List ℕ → Bool
has x [] = false
has x (y ∷ ys) = x == y || has x ys

-- no number twice
unfoldable pub Distinct : List ℕ → Type 0
Distinct [] = Unit {0}
Distinct (x ∷ xs) = (has x xs ≡ false) × Distinct xs

-- x where the test holds, and else 0
abbrev pub only_if : Bool → ℕ → ℕ
only_if true x = x
only_if false x = 0

-- f 0 op f 1 op .. op f (n - 1), from 0
unfoldable pub fold_to : (ℕ → ℕ → ℕ) → (ℕ → ℕ) → ℕ → ℕ
fold_to op f zero = 0
fold_to op f (suc n) = op (fold_to op f n) (f n)

-- how many numbers below n pass the test, and the exclusive or of those that do
unfoldable pub count_to : (ℕ → Bool) → ℕ → ℕ
count_to p n = fold_to ◌+◌ (λ i. only_if (p i) 1) n

unfoldable pub xor_to : (ℕ → Bool) → ℕ → ℕ
xor_to p n = fold_to bit_xor (λ i. only_if (p i) i) n

-- key i is not yet removed and lies on vertex v
unfoldable pub live_on : (ℕ → List ℕ) → List ℕ → ℕ → ℕ → Bool
live_on vs gone v i = not (has i gone) && has v (vs i)

-- "degrees and xor of key numbers per vertex", once the keys of `gone` are removed
unfoldable pub degree : (ℕ → List ℕ) → ℕ → List ℕ → ℕ → ℕ
degree vs n gone v = count_to (live_on vs gone v) n

unfoldable pub xor_at : (ℕ → List ℕ) → ℕ → List ℕ → ℕ → ℕ
xor_at vs n gone v = xor_to (live_on vs gone v) n

-- an "order in which every key has a vertex that no later key touches", first key first
unfoldable pub Peels : (ℕ → List ℕ) → List ℕ → Type 0
Peels vs [] = Unit {0}
Peels vs (k ∷ later) = ((v : ℕ) × (has v (vs k) ≡ true) × ((j : ℕ) → has j later ≡ true → has v (vs j) ≡ false)) × Peels vs later

-- how often k stands in the list
unfoldable pub times : ℕ → List ℕ → ℕ
times k [] = 0
times k (x ∷ xs) = only_if (k == x) 1 + times k xs

-- a list with 0 to n - 1 once each, and nothing else
pub record EachOnce (n : ℕ) (ks : List ℕ) : Type 0 where
  pub once : (k : ℕ) → k < n → times k ks ≡ 1
  pub none : (k : ℕ) → n ≤ k → times k ks ≡ 0

-- there is such an order of all n keys
pub record Peelable (vs : ℕ → List ℕ) (n : ℕ) : Type 0 where
  pub order : List ℕ
  pub each : EachOnce n order
  pub peels : Peels vs order

-- "A vertex may carry 255 keys; the 256th fails the seed": over 255 keys on one vertex
pub record Crowded (vs : ℕ → List ℕ) (n : ℕ) : Type 0 where
  pub at : ℕ
  pub over : 255 < degree vs n [] at

-- the vertices of a key are different, and all below m
pub record Graph (vs : ℕ → List ℕ) (n m : ℕ) : Type 0 where
  pub distinct : (e : ℕ) → e < n → Distinct (vs e)
  pub inside : (e v : ℕ) → e < n → has v (vs e) ≡ true → v < m
