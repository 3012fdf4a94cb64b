-- An answer and what is told of it say the same. Assumes nothing.
use Rattle.std.proofs.Common.{◌≡◌, ℕ, Result, Ok, Err, ap, arith}
use Rattle.bdz_base.specs.declared.refusal.Refusal.{Refusal}
use Rattle.bdz_base.proofs.Refusals.{one_number, number_some}
use Rattle.bdz_table.specs.declared.index.Built.{Built}
use Rattle.bdz_table.specs.Told.{Answer, told_answer, told_index}
use Rattle.bdz_table.specs.declared.index.Index.{Index}

-- two answers of which the same is told are one answer
pub one_told_answer : (x y : Result ℕ Refusal) → told_answer x ≡ told_answer y → x ≡ y
one_told_answer (Ok a) (Ok b) e = ap Ok (ap (λ (t : Answer). t.answer) e)
one_told_answer (Ok a) (Err s) e = absurd (omega (arith, number_some s, ap (λ (t : Answer). t.no) e))
one_told_answer (Err r) (Ok b) e = absurd (omega (arith, number_some r, ap (λ (t : Answer). t.no) e))
one_told_answer (Err r) (Err s) e = ap Err (one_number r s (ap (λ (t : Answer). t.no) e))

pub one_told_index : (x y : Result Index Refusal) → told_index x ≡ told_index y → x ≡ y
one_told_index (Ok a) (Ok b) e = ap Ok (ap (λ (t : Built). t.index) e)
one_told_index (Ok a) (Err s) e = absurd (omega (arith, number_some s, ap (λ (t : Built). t.no) e))
one_told_index (Err r) (Ok b) e = absurd (omega (arith, number_some r, ap (λ (t : Built). t.no) e))
one_told_index (Err r) (Err s) e = ap Err (one_number r s (ap (λ (t : Built). t.no) e))

-- an accepted answer is the one told
pub told_ok : (x : Result ℕ Refusal) (answer : ℕ) → told_answer x ≡ record { no = 0; answer = answer } → x ≡ Ok answer
told_ok x answer e = one_told_answer x (Ok answer) e
