-- The audit. Assumes nothing.
use Rattle.std.specs.Prelude.{Bool, false, Result, Ok, Err, cond, List, ℕ, ◌*◌, eqb, ltb, length}
use Rattle.bdz_base.specs.Refusal.{number}
use Rattle.bdz_base.specs.Sizes.{occupancy_bytes}
use Rattle.bdz_base.specs.declared.refusal.Refusal.{Refusal}
use Rattle.bdz_table.specs.Rank.{ones_below}
use Rattle.bdz_table.specs.declared.index.Index.{Index}
use Rattle.bdz_image.specs.declared.audit.Finding.{Finding}

-- what an audit tells: "A refused call answers its number, with every other field zero"
pub record Audited : Type 0 where
  pub no : ℕ
  pub ones : ℕ
  pub full : Bool

abbrev pub told_audit : Result Finding Refusal → Audited
told_audit (Ok finding) = record { no = 0; ones = finding.ones; full = finding.full }
told_audit (Err refusal) = record { no = number refusal; ones = 0; full = false }

-- "from the n, m and occupancy of an opened BDZ3, the number of ones in its ceil(m/8) occupancy bytes; it is full when that equals n";
-- "Audit: 12"
unfoldable pub audit_of : Index → List ℕ → Audited
audit_of index occ =
    let ones = ones_below occ (occupancy_bytes index.m * 8) in
    cond (ltb (length occ) (occupancy_bytes index.m))
    (record { no = 12; ones = 0; full = false })
    (record { no = 0; ones = ones; full = eqb ones index.n })
