-- An answer and what is told of it say the same. Assumes nothing.
use Rattle.std.proofs.Common.{◌≡◌, Result, Ok, Err, ap, arith}
use Rattle.bdz_base.specs.declared.refusal.Refusal.{Refusal}
use Rattle.bdz_base.proofs.Refusals.{one_number, number_some}
use Rattle.bdz_image.specs.Audit.{Audited, told_audit}
use Rattle.bdz_image.specs.Feeding.{Feed, told_counts}
use Rattle.bdz_image.specs.declared.audit.Finding.{Finding}
use Rattle.bdz_image.specs.declared.feed.Counts.{Counts}

pub one_told_audit : (x y : Result Finding Refusal) → told_audit x ≡ told_audit y → x ≡ y
one_told_audit (Ok a) (Ok b) e = ap (λ (t : Audited). Ok (record { ones = t.ones; full = t.full })) e
one_told_audit (Ok a) (Err s) e = absurd (omega (arith, number_some s, ap (λ (t : Audited). t.no) e))
one_told_audit (Err r) (Ok b) e = absurd (omega (arith, number_some r, ap (λ (t : Audited). t.no) e))
one_told_audit (Err r) (Err s) e = ap Err (one_number r s (ap (λ (t : Audited). t.no) e))

pub one_told_counts : (x y : Result Counts Refusal) → told_counts x ≡ told_counts y → x ≡ y
one_told_counts (Ok a) (Ok b) e = ap (λ (t : Feed). Ok (record { keys = t.keys; pages = t.pages })) e
one_told_counts (Ok a) (Err s) e = absurd (omega (arith, number_some s, ap (λ (t : Feed). t.no) e))
one_told_counts (Err r) (Ok b) e = absurd (omega (arith, number_some r, ap (λ (t : Feed). t.no) e))
one_told_counts (Err r) (Err s) e = ap Err (one_number r s (ap (λ (t : Feed). t.no) e))
