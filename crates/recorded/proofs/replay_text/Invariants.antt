-- The place is within the text, and each count is at most the place. Each turn comes further.
use Rattle.std.proofs.Common.{length, ◌-◌, ◌≤◌}
use Rattle.recorded.proofs.replay_text.Given as goal

abbrev pub invariant-loop-tally : goal.invariant-loop-tally
invariant-loop-tally g l = record {
  inside : l.tally.at ≤ length l.text;
  number : l.tally.number ≤ l.tally.at;
  records : l.tally.records ≤ l.tally.at;
  same : l.tally.same ≤ l.tally.at;
}

abbrev pub decreases-loop-tally : goal.decreases-loop-tally
decreases-loop-tally g l = length l.text - l.tally.at
