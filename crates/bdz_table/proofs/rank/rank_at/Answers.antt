-- `bdz_table::rank::rank_at` meets its contract. Assumes nothing.
use Rattle.std.proofs.Common.{◌≡◌, min, rules, length, sym, arith}
use Rattle.bdz_base.proofs.Refusals.{refused_test}
use Rattle.bdz_table.specs.Rank.{ranked_of}
use Rattle.bdz_table.proofs.Passed.{supers_passed}
use Rattle.bdz_table.proofs.rank.rank_at.Goals as goal

pub returns-in_err-supers_no : goal.returns-in_err-supers_no
unfolding ranked_of
returns-in_err-supers_no c = rw (← c.in_err-supers_no.ensures, refused_test c.in_err-supers_no.field-0.0) (search rules)

pub rank_below-requires : goal.rank_below-requires
rank_below-requires c =
    let a = c.args in
    let least : c.min.result ≡ min a.v a.m = search rules in
    omega (arith, (supers_passed a.m (length a.occ.now) (length a.supers.now) (sym c.in_ok-supers_no.ensures)).1)

pub returns : goal.returns
unfolding ranked_of
returns c =
    let a = c.args in
    let least : c.min.result ≡ min a.v a.m = search rules in
    rw (← c.in_ok-supers_no.ensures, c.rank_below.ensures, least)
