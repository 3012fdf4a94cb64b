-- What the thin functions over the lent slice of pairs promise one another. No public promise cites it. Assumes nothing.
use Rattle.std.specs.Prelude.{◌≡◌, ℕ, zero, suc, ◌<◌, ◌≤◌, List, [], ◌∷◌, length, get_or, take, drop, slice_index, slice_index_or, slice_set}
use Rattle.bdz_base.specs.Sizes.{occupancy_bytes}
use Rattle.bdz_table.specs.Assign.{assign}
use Rattle.bdz_table.specs.Occupancy.{with_bit}
use Rattle.bdz_table.specs.Order.{pair_of, no_pair}
use Rattle.bdz_table.specs.Peel.{Cut}
use Rattle.bdz_table.specs.Steps.{Marked, Word}
use Rattle.bdz_table.specs.declared.pairs.Pair.{Pair}

-- a pair as a cut
abbrev pub cut_of : Pair → Cut
cut_of p = record { key = p.edge; at = p.vert }

-- the first n pairs of an order, newest first
unfoldable pub cuts_in : List Pair → ℕ → List Cut
cuts_in order zero = []
cuts_in order (suc i) = cut_of (slice_index_or order i no_pair) ∷ cuts_in order i

-- ---- noting an order down

-- the queue's front names words of xs, and the order has room
pub record Notes (xs q : List ℕ) (order : List Pair) (n : ℕ) : Type 0 where
  pub room : n ≤ length order
  pub queued : n ≤ length q
  pub inside : (i : ℕ) → i < n → slice_index q i < length xs

-- the first n pairs, from the last to the first: a vertex of the queue, with its xor word
unfoldable pub noted : List ℕ → List ℕ → ℕ → List Pair → List Pair
noted xs q zero order = order
noted xs q (suc i) order = noted xs q i (slice_set order i (pair_of (slice_index xs (slice_index q i)) (slice_index q i)))

-- ---- the assigns, on the first m words of longer buffers

-- a pair that names a key and a vertex, and a value below M for it
pub record PairReady (keys m M value : ℕ) (p : Pair) (ms g : List ℕ) : Type 0 where
  pub big : 3 ≤ m
  pub longg : m ≤ length g
  pub longm : m ≤ length ms
  pub marked : Marked M (take m ms) (take m g)
  pub key : p.edge < keys
  pub vertex : p.vert < m
  pub below : value < M

-- its word is assigned in a graph with the vertices vs, and behind the m words nothing changes
pub record PairWord (vs : ℕ → List ℕ) (m M value : ℕ) (p : Pair) (ms g ms' g' : List ℕ) : Type 0 where
  pub word : Word M value p.vert (vs p.edge) (take m ms) (take m g) (take m ms') (take m g')
  pub behindg : drop m g' ≡ drop m g
  pub behindm : drop m ms' ≡ drop m ms

-- the first n pairs, if there are any, name each a key and a vertex, and what it can come to is below M
pub record PairsReady (n keys m M : ℕ) (comes : Pair → ℕ → Type 0) (order : List Pair) (ms g : List ℕ) : Type 0 where
  pub room : n ≤ length order
  pub big : 0 < n → 3 ≤ m
  pub longg : 0 < n → m ≤ length g
  pub longm : 0 < n → m ≤ length ms
  pub marked : 0 < n → Marked M (take m ms) (take m g)
  pub edges : (i : ℕ) → i < n → (get_or order i no_pair).edge < keys
  pub vertices : (i : ℕ) → i < n → (get_or order i no_pair).vert < m
  pub values : (i r : ℕ) → i < n → comes (get_or order i no_pair) r → r < M

-- what each of the first n pairs can come to is its val
abbrev pub Follows : ℕ → (Pair → ℕ → Type 0) → (Cut → ℕ) → List Pair → Type 0
Follows n comes val order = (i r : ℕ) → i < n → comes (get_or order i no_pair) r → r ≡ val (cut_of (get_or order i no_pair))

-- their words are assigned
pub record PairsAssigned (vs : ℕ → List ℕ) (n m M : ℕ) (val : Cut → ℕ) (order : List Pair) (ms g ms' g' : List ℕ) : Type 0 where
  pub words : take m g' ≡ assign vs M val (cuts_in order n) (take m g)
  pub behindg : drop m g' ≡ drop m g
  pub behindm : drop m ms' ≡ drop m ms
  pub idle : n ≡ 0 → ms' ≡ ms

-- the bits of cuts set, newest first
unfoldable pub bits_of : List Cut → List ℕ → List ℕ
bits_of [] occ = occ
bits_of (p ∷ older) occ = bits_of older (with_bit p.at occ)

-- the first n pairs, if there are any, name each a vertex, and there is room for its bit
pub record Occupies (n m : ℕ) (order : List Pair) (occ : List ℕ) : Type 0 where
  pub room : n ≤ length order
  pub vertices : (i : ℕ) → i < n → (get_or order i no_pair).vert < m
  pub bytes : 0 < n → occupancy_bytes m ≤ length occ

-- their bits are set
pub record PairsOccupied (n m : ℕ) (order : List Pair) (occ occ' : List ℕ) : Type 0 where
  pub bits : take (occupancy_bytes m) occ' ≡ bits_of (cuts_in order n) (take (occupancy_bytes m) occ)
  pub behind : drop (occupancy_bytes m) occ' ≡ drop (occupancy_bytes m) occ
