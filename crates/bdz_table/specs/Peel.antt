-- The queue's run, as document 01's peeling paragraph tells it. proofs/Queue has what it means: it removes all keys exactly when
-- the graph is peelable. Assumes nothing.
use Rattle.std.specs.Prelude.{ℕ, zero, suc, Bool, true, false, List, [], ◌∷◌, ◌++◌, length, ◌==◌, nat_le, slice_index}
use Rattle.bdz_table.specs.Graph.{degree, xor_at}

-- a removed key with the vertex that it was removed by
abbrev pub Cut : Type 0
Cut = record { key : ℕ; at : ℕ }

unfoldable pub keys_of : List Cut → List ℕ
keys_of [] = []
keys_of (p ∷ ps) = p.key ∷ keys_of ps

unfoldable pub ats_of : List Cut → List ℕ
ats_of [] = []
ats_of (p ∷ ps) = p.at ∷ ats_of ps

abbrev pub keep_if : Bool → ℕ → List ℕ → List ℕ
keep_if true u us = u ∷ us
keep_if false u us = us

-- of the vertices us, in their order, those of degree 1 once the keys of `gone` are removed
unfoldable pub ones : (ℕ → List ℕ) → ℕ → List ℕ → List ℕ → List ℕ
ones vs n gone [] = []
ones vs n gone (u ∷ us) = keep_if (degree vs n gone u == 1) u (ones vs n gone us)

-- the queue of all vertices that were ever put in, and the cuts so far, newest first
pub record State : Type 0 where
  pub queue : List ℕ
  pub done : List Cut

-- "each popped vertex still of degree 1 removes its key, whose vertices fall in the order a, b, c and queue when they reach 1"
unfoldable pub turn_if : (ℕ → List ℕ) → ℕ → Bool → ℕ → State → State
turn_if vs n true v s =
    let e : ℕ = xor_at vs n (keys_of s.done) v in
    let d : List Cut = record { key = e; at = v } ∷ s.done in
    record { queue = s.queue ++ ones vs n (keys_of d) (vs e); done = d }
turn_if vs n false v s = s

unfoldable pub turn : (ℕ → List ℕ) → ℕ → ℕ → State → State
turn vs n v s = turn_if vs n (degree vs n (keys_of s.done) v == 1) v s

-- the turns for the entries qi, qi + 1, .. of the queue
unfoldable pub turns_if : Bool → State → State → State
turns_if true s t = s
turns_if false s t = t

unfoldable pub turns : (ℕ → List ℕ) → ℕ → ℕ → ℕ → State → State
turns vs n zero qi s = s
turns vs n (suc fuel) qi s = let t : State = turns vs n fuel (suc qi) (turn vs n (slice_index s.queue qi) s) in turns_if (nat_le (length s.queue) qi) s t

unfoldable pub up_to : ℕ → List ℕ
up_to zero = []
up_to (suc n) = up_to n ++ (n ∷ [])

-- "vertices of degree 1 queue in rising order": the run on a graph with n keys and m vertices
unfoldable pub peel : (ℕ → List ℕ) → ℕ → ℕ → State
peel vs n m = turns vs n m 0 (record { queue = ones vs n [] (up_to m); done = [] })
