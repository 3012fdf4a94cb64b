-- The text of a refusal, as document 01's table has it. Assumes nothing.
use Rattle.std.specs.Prelude.{List, [], ◌∷◌, ◌++◌, ℕ, codes, decimal, get_or}
use Rattle.bdz_base.specs.declared.refusal.Refusal.{Refusal}
use Rattle.bdz_base.specs.Refusal.{number}

-- the texts by their number; "0 means accepted" has none
abbrev pub texts : List (List ℕ)
texts =
    []
    ∷ codes "assigned len"
    ∷ codes "assigned modulus"
    ∷ codes "assigned value"
    ∷ codes "assigned duplicate"
    ∷ codes "graph did not peel"
    ∷ codes "short pread"
    ∷ codes "g length"
    ∷ codes "bad magic"
    ∷ codes "bad version"
    ∷ codes "g_bits"
    ∷ codes "zero modulus"
    ∷ codes "occ truncated"
    ∷ codes "too large"
    ∷ codes "no room"
    ∷ codes "page not listed"
    ∷ codes "page given"
    ∷ codes "page length"
    ∷ codes "waiting"
    ∷ codes "bad list"
    ∷ codes "no such key"
    ∷ []

-- "The text of a refusal is chosen from its number"
abbrev pub text_of : ℕ → List ℕ
text_of number = get_or texts number []

-- a refusal in a line, as "8 bad magic": its number, a blank, its text
abbrev pub line_of : Refusal → List ℕ
line_of refusal = decimal (number refusal) ++ codes " " ++ text_of (number refusal)
