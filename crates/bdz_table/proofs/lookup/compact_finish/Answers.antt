-- `bdz_table::lookup::compact_finish` meets its contract. Assumes nothing.
use Rattle.std.proofs.Common.{◌≡◌, ◌-◌, min, arith, ◌∙◌, rules}
use Rattle.bdz_table.specs.Keys.{listed}
use Rattle.bdz_table.specs.Lookup.{picked_of, compact_from}
use Rattle.bdz_table.specs.Rank.{rank_with}
use Rattle.bdz_table.proofs.Passed.{ranked_inside, picked_below}
use Rattle.bdz_table.proofs.ToldLaws.{told_ok}
use Rattle.bdz_table.proofs.lookup.compact_finish.Goals as goal

pub unwrap-rank-requires : goal.unwrap-rank-requires
unfolding picked_of
unwrap-rank-requires c =
    let a = c.args in
    let low = picked_below a.sum c.requires.1 in
    let ranked = ranked_inside a.m a.occ.now a.supers.now (picked_of (listed a.v) a.sum) (omega arith) (omega arith) (omega (arith, low)) in
    let is = told_ok c.rank1.result (rank_with a.occ.now a.supers.now (picked_of (listed a.v) a.sum)) (c.rank1.ensures ∙ rw c.vertex_at-at.ensures ranked) in
    rw is (search rules)

pub returns : goal.returns
unfolding compact_from picked_of
returns c =
    let a = c.args in
    let low = picked_below a.sum c.requires.1 in
    let ranked = ranked_inside a.m a.occ.now a.supers.now (picked_of (listed a.v) a.sum) (omega arith) (omega arith) (omega (arith, low)) in
    let is = told_ok c.rank1.result (rank_with a.occ.now a.supers.now (picked_of (listed a.v) a.sum)) (c.rank1.ensures ∙ rw c.vertex_at-at.ensures ranked) in
    let rank : c.unwrap-rank.result ≡ rank_with a.occ.now a.supers.now (picked_of (listed a.v) a.sum) = cc (c.unwrap-rank.ensures, is) in
    let least : c.min.result ≡ min c.unwrap-rank.result (a.n - 1) = search rules in
    rw (least, rank)
