-- What is told of an answer in numbers: its own number, and its values or zeros. Assumes nothing.
use Rattle.std.proofs.Common.{◌≡◌, ◌∙◌, ℕ, Bool, true, false, cond, eqb, Result, Ok, Err, ap, refl}
use Rattle.std.specs.Result.{result_unwrap_or}
use Rattle.bdz_base.specs.Refusal.{number_of}
use Rattle.bdz_base.specs.declared.refusal.Refusal.{Refusal}
use Rattle.bdz_image.specs.Feeding.{told_counts}
use Rattle.bdz_image.specs.declared.feed.Counts.{Counts}
use Rattle.bdz_list.specs.List.{told_list}
use Rattle.bdz_list.specs.declared.list.KeyList.{KeyList}
use Rattle.bdz_table.specs.Rank.{answered}
use Rattle.bdz_table.specs.Told.{Answer, told_answer}

pub no_read : (x : Result ℕ Refusal) → number_of x ≡ (told_answer x).no
no_read (Ok a) = refl
no_read (Err r) = refl

pub value_read : (x : Result ℕ Refusal) → result_unwrap_or x 0 ≡ (told_answer x).answer
value_read (Ok a) = refl
value_read (Err r) = refl

-- the value that is told: none of a refusal
by_test : (accepted : Bool) (number value : ℕ) → (cond {A = Answer} accepted (record { no = 0; answer = value }) (record { no = number; answer = 0 })).answer ≡ cond accepted value 0
by_test true number value = refl
by_test false number value = refl

pub answered_value : (number value : ℕ) {r : Answer} → r ≡ answered number value → r.answer ≡ cond (eqb number 0) value 0
answered_value number value e = ap (λ (t : Answer). t.answer) e ∙ by_test (eqb number 0) number value

pub no_counts : (x : Result Counts Refusal) → number_of x ≡ (told_counts x).no
no_counts (Ok a) = refl
no_counts (Err r) = refl

pub value_counts : (x : Result Counts Refusal) → result_unwrap_or x (record { keys = 0; pages = 0 }) ≡ record { keys = (told_counts x).keys; pages = (told_counts x).pages }
value_counts (Ok a) = refl
value_counts (Err r) = refl

pub no_list : (x : Result KeyList Refusal) → number_of x ≡ (told_list x).no
no_list (Ok a) = refl
no_list (Err r) = refl
