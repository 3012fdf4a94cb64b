-- `bdz_table::lookup::finish_index` meets its contract. Assumes nothing.
use Rattle.std.proofs.Common.{◌+◌, ◌^◌, rules, le-ltb, lt-ltb}
use native.Mathlib.Nat.{mod-add-mod}
use Rattle.bdz_base.proofs.Refusals.{refused_test}
use Rattle.bdz_table.specs.Lookup.{finished_of, finish_of}
use Rattle.bdz_table.proofs.lookup.finish_index.Goals as goal

pub returns-in_err-lookup_no : goal.returns-in_err-lookup_no
unfolding finish_of
returns-in_err-lookup_no c =
    let no = c.in_err-lookup_no in
    rw (← no.ensures, refused_test no.field-0.0) (search rules)

pub returns-then-index-lt2 : goal.returns-then-index-lt2
unfolding finish_of finished_of
returns-then-index-lt2 c =
    rw (← c.in_ok-lookup_no.ensures, lt-ltb _ _ c.if-index-lt2.true, c.few_answer.ensures)

pub returns : goal.returns
unfolding finish_of finished_of
returns c =
    let a = c.args in
    rw (← c.in_ok-lookup_no.ensures, le-ltb _ _ c.if-index-lt2.false, ← mod-add-mod (a.a + a.b) (2 ^ 32) a.c, c.finish_many.ensures)
