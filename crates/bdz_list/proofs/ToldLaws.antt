-- An answer and what is told of it say the same. Assumes nothing.
use Rattle.std.proofs.Common.{◌≡◌, Result, Ok, Err, ap, arith}
use Rattle.bdz_base.specs.declared.refusal.Refusal.{Refusal}
use Rattle.bdz_base.proofs.Refusals.{one_number, number_some}
use Rattle.bdz_list.specs.List.{Listed, told_list}
use Rattle.bdz_list.specs.declared.list.KeyList.{KeyList}

pub one_told_list : (x y : Result KeyList Refusal) → told_list x ≡ told_list y → x ≡ y
one_told_list (Ok a) (Ok b) e = ap (λ (t : Listed). Ok (record { kind = t.kind; modulus = t.modulus; count = t.count })) e
one_told_list (Ok a) (Err s) e = absurd (omega (arith, number_some s, ap (λ (t : Listed). t.no) e))
one_told_list (Err r) (Ok b) e = absurd (omega (arith, number_some r, ap (λ (t : Listed). t.no) e))
one_told_list (Err r) (Err s) e = ap Err (one_number r s (ap (λ (t : Listed). t.no) e))
