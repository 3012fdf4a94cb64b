-- `bdz_base::pack::pack_words` meets its contract. The loop's invariant: so many words have come in. Assumes nothing.
use Rattle.bdz_base.proofs.Packing.{Packing}
use Rattle.std.proofs.Common.{◌<◌, ◌≤◌, length}
use Rattle.bdz_base.proofs.pack.pack_words.Given as goal

abbrev pub invariant-loop-word : goal.invariant-loop-word
invariant-loop-word l = (l.word-index ≤ length l.g) × (l.carry.bits < 32) × Packing l.width.bits l.g l.initial.body l.word-index l.body l.carry
