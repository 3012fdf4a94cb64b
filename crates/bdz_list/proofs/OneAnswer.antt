-- Each public promise leaves one answer, and one content of every lent buffer. Assumes nothing.
use mathlib.Core.Path.{sym, ◌∙◌}
use mathlib.Core.List.{[], ◌∷◌}
use Rattle.bdz_base.proofs.OneAnswer.{OneResult, OneOutcome}
use Rattle.bdz_list.proofs.ToldLaws.{one_told_list}
use Rattle.bdz_table.proofs.ToldLaws.{one_told_answer}
use Rattle.bdz_list.proofs.list.read_list.Reads as read-list
use Rattle.bdz_list.proofs.tally.first_holders.Reads as first-holders
use Rattle.bdz_list.proofs.tally.same_values.Reads as same-values

pub one_read_list : (κs : _) (a : _) → OneOutcome (λ s. (s.1.0.now ∷ s.1.1.0.now ∷ [])) (read-list.Post κs a)
one_read_list κs a x y s t p q = (one_told_list x y (p.answer_is ∙ sym q.answer_is), rw (p.keys_are, p.values_are, q.keys_are, q.values_are))

pub one_same_values : (κs : _) (a : _) → OneResult (same-values.Post κs a)
one_same_values κs a x y s t p q = p ∙ sym q

pub one_first_holders : (κs : _) (a : _) → OneOutcome (λ s. s.1.1.0.now) (first-holders.Post κs a)
one_first_holders κs a x y s t p q = (one_told_answer x y (p.answer_is ∙ sym q.answer_is), p.seen_is ∙ sym q.seen_is)
