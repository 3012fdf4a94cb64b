-- What a lent buffer holds after a call. Assumes nothing.
use Rattle.std.specs.Prelude.{ℕ, zero, suc, cond, List, [], ◌∷◌, ◌++◌, length, drop, ◌==◌}

-- f 0, f 1, .., f (n - 1)
unfoldable pub tab : (ℕ → ℕ) → ℕ → List ℕ
tab f zero = []
tab f (suc n) = tab f n ++ (f n ∷ [])

-- "Past the needed part no buffer changes": the needed part is `new`, and behind it stands what stood there before
abbrev pub over : {A : Type 0} → List A → List A → List A
over new old = new ++ drop (length new) old

-- "After a refused build, table and occupancy are unchanged"; "Any other refused call changes nothing": what a buffer holds after a
-- call that answers the number
abbrev pub written : {A : Type 0} → ℕ → List A → List A → List A
written number new old = cond (number == 0) (over new old) old
