-- The values of an assigned build, judged one by one. Assumes nothing.
use Rattle.std.specs.Prelude.{ℕ, not, List, [], ◌∷◌, nat_lt}
use Rattle.bdz_base.specs.Refusal.{refuse}
use Rattle.bdz_table.specs.Graph.{has}

-- "then values first to last, 3 before 4 for each": 3 "a value is not below the modulus", 4 "a value came before"
unfoldable pub values_no : ℕ → List ℕ → List ℕ → ℕ
values_no modulus earlier [] = 0
values_no modulus earlier (x ∷ xs) =
    refuse 3 (not (nat_lt x modulus))
    (refuse 4 (has x earlier)
    (values_no modulus (x ∷ earlier) xs))
