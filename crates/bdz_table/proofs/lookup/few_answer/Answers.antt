-- `bdz_table::lookup::few_answer` meets its contract. Assumes nothing.
use Rattle.std.proofs.Common.{eq-eqb, ne_eqb}
use Rattle.bdz_table.specs.Lookup.{few_answer}
use Rattle.bdz_table.proofs.lookup.few_answer.Goals as goal

pub returns-then-n-eq0 : goal.returns-then-n-eq0
unfolding few_answer
returns-then-n-eq0 c = simp (eq-eqb _ _ c.if-n-eq0.true)

pub returns : goal.returns
unfolding few_answer
returns c = simp (ne_eqb _ _ c.if-n-eq0.false) c.one_key_index.ensures
