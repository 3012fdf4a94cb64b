-- Opened images and audits, told in numbers. Assumes nothing.
use Rattle.std.specs.Prelude.{Bool, cond, List, [], ◌∷◌, ℕ}
use Rattle.bdz_base.specs.declared.verts.Kind.TheVariants.{Compact}
use Rattle.bdz_table.specs.declared.index.Built.{Built}
use Rattle.bdz_image.specs.Audit.{Audited, audit_of}
use Rattle.bdz_oracle.specs.Building.{fields_of, Told}

-- an index, or the zeros of a refusal
abbrev pub ToldIndex : Built → List ℕ → ℕ → List ℕ → Type 0
ToldIndex built = Told 5 built.no (fields_of built.index)

abbrev pub one_if : Bool → ℕ
one_if b = cond b 1 0

-- an audit: the ones, and whether they are n
abbrev pub told_of : Audited → List ℕ
told_of audited = audited.ones ∷ one_if audited.full ∷ []

abbrev pub audited : ℕ → ℕ → List ℕ → Audited
audited n m occ = audit_of (record { kind = Compact; n = n; m = m; seed = 0; modulus = n; width = 2 }) occ

abbrev pub ToldAudit : ℕ → ℕ → List ℕ → List ℕ → ℕ → List ℕ → Type 0
ToldAudit n m occ = Told 2 (audited n m occ).no (told_of (audited n m occ))
