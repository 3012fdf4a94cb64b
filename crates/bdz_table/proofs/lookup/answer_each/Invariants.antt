-- `bdz_table::lookup::answer_each` meets its contract. The loop's invariant: i answers stand in out. Assumes nothing.
use Rattle.std.proofs.Common.{◌≡◌, ℕ, ◌<◌, length, slice_index}
use Rattle.bdz_base.proofs.Buffers.{Filled}
use Rattle.bdz_table.proofs.lookup.answer_each.Given as goal

abbrev pub invariant-loop-i : goal.invariant-loop-i
invariant-loop-i g l =
    (of : ℕ → ℕ) → ((i r : ℕ) → i < length l.keys → goal.F-post g l.answer (slice_index l.keys i) r → r ≡ of i) → Filled of (length l.keys) l.i l.initial.out l.out
