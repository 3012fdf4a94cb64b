-- What calls answer, told by number: "0 means accepted. A refused call answers its number, with every other field zero". Each
-- definition gives the number and the values for every case of an answer. Assumes nothing.
use Rattle.std.specs.Prelude.{ℕ, Result, Ok, Err}
use Rattle.bdz_base.specs.Refusal.{number}
use Rattle.bdz_base.specs.declared.refusal.Refusal.{Refusal}
use Rattle.bdz_base.specs.declared.verts.Kind.TheVariants.{Assigned}
use Rattle.bdz_table.specs.declared.index.Built.{Built}
use Rattle.bdz_table.specs.declared.index.Index.{Index}

-- a number
pub record Answer : Type 0 where
  pub no : ℕ
  pub answer : ℕ

abbrev pub told_answer : Result ℕ Refusal → Answer
told_answer (Ok answer) = record { no = 0; answer = answer }
told_answer (Err refusal) = record { no = number refusal; answer = 0 }

-- an index
abbrev pub refused_build : ℕ → Built
refused_build number = record { no = number; index = record { kind = Assigned; n = 0; m = 0; seed = 0; modulus = 0; width = 0 } }

abbrev pub told_index : Result Index Refusal → Built
told_index (Ok index) = record { no = 0; index = index }
told_index (Err refusal) = refused_build (number refusal)
