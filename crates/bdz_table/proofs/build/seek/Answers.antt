-- `bdz_table::build::seek` meets its contract. Assumes nothing.
use Rattle.std.proofs.Common.{ℕ, replicate, refl, ap, ◌∙◌, arith}
use Rattle.bdz_table.proofs.Ordering.{order_left}
use Rattle.bdz_table.proofs.Runs.{ran_stuck, seed_found, ran_found}
use Rattle.bdz_table.proofs.build.seek.Goals as goal

pub returns-in_default-clause-ran_to : goal.returns-in_default-clause-ran_to
returns-in_default-clause-ran_to c =
    let a = c.args in
    ran_stuck a.kind a.keys.now a.m c.requires.count c.requires.is c.in_default.ensures

pub returns : goal.returns
returns c =
    let a = c.args in
    let p = c.requires in
    let found = c.in-Some.ensures in
    let zeros = c.fill.ensures.after (λ y e. e) in
    let unmarked = c.fill-2.ensures.after (λ y e. e) in
    let seed = seed_found a.kind a.keys.now a.m p.count p.is found in record {
      ran_to = ran_found a.kind a.keys.now a.m p.count p.is found;
      sought_many = record {
        pending = λ some.
            record {
              accepted = refl;
              many = p.count;
              all = refl;
              left = order_left a.kind a.keys.now a.m p.lent.sizes.some found p.is seed;
              words = zeros ∙ ap (λ (k : ℕ). replicate k 0) p.longt;
              marks = unmarked ∙ ap (λ (k : ℕ). replicate k 0) p.longm;
            };
        refused = λ none z. absurd (omega (arith, p.count, none));
        same = λ none. absurd (omega (arith, p.count, none));
      };
    }
