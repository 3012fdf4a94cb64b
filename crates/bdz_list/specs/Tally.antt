-- How many answers are as they should be: the counts that are printed beside a list. Assumes nothing.
use Rattle.std.specs.Prelude.{◌≡◌, not, ◌&&◌, List, [], ◌∷◌, ℕ, ◌+◌, eqb, ltb, length, replicate}
use Rattle.bdz_base.specs.Buffer.{written}
use Rattle.bdz_base.specs.Refusal.{refuse}
use Rattle.bdz_base.specs.Sizes.{occupancy_bytes}
use Rattle.bdz_table.specs.Graph.{has, only_if}
use Rattle.bdz_table.specs.Rank.{answered}
use Rattle.bdz_table.specs.Told.{Answer}

-- "listed keys, those whose answer matches, the rest": the places of both lists that hold the same number
unfoldable pub same_count : List ℕ → List ℕ → ℕ
same_count [] answers = 0
same_count (x ∷ values) [] = 0
same_count (x ∷ values) (y ∷ answers) = only_if (eqb y x) 1 + same_count values answers

-- "Compact counts `same` as first holders of an answer": the answers below n that no earlier one equals
unfoldable pub holders : ℕ → List ℕ → List ℕ → ℕ
holders n earlier [] = 0
holders n earlier (x ∷ answers) = only_if (ltb x n && not (has x earlier)) 1 + holders n (x ∷ earlier) answers

-- 14 "a lent buffer is shorter than its stated need": a bit for each number below n
unfoldable pub holders_no : ℕ → ℕ → ℕ
holders_no n seen = refuse 14 (ltb seen (occupancy_bytes n)) 0

-- the whole promise: the answer, and "the needed part of each scratch buffer ends as zeros"
pub record FirstHolders (n : ℕ) (answers seen : List ℕ) (r : Answer) (seen' : List ℕ) : Type 0 where
  pub answer_is : r ≡ answered (holders_no n (length seen)) (holders n [] answers)
  pub seen_is : seen' ≡ written (holders_no n (length seen)) (replicate (occupancy_bytes n) 0) seen
