-- From the seed that was found to the order that stands where the peeler left it. Assumes nothing.
use Rattle.std.proofs.Common.{◌≡◌, ℕ, ◌≤◌, List, length, ◌∙◌}
use Rattle.bdz_base.specs.Mix.{seed_at}
use Rattle.bdz_base.specs.declared.verts.Kind.{Kind}
use Rattle.bdz_table.specs.Build.{vertices_for, seed_for, cuts_for}
use Rattle.bdz_table.specs.Graph.{Graph}
use Rattle.bdz_table.specs.Keys.{graph_of}
use Rattle.bdz_table.specs.Steps.{SeedFound, OrderLeft}
use Rattle.bdz_table.specs.Seeds.{first_seed}
use Rattle.bdz_table.proofs.Counting.{graph_of_lem}
use Rattle.bdz_table.proofs.Order.{order_inside}

pub order_left : (kind : Kind) (keys : List ℕ) (m : ℕ) → 3 ≤ m → {xs q : List ℕ} {seed : ℕ} → SeedFound kind keys m xs q seed → m ≡ vertices_for kind (length keys) → seed ≡ seed_for kind keys → OrderLeft kind keys m xs q
unfolding cuts_for
order_left kind keys m big {xs} {q} f is s =
    let seed = seed_at (first_seed kind keys m) in
    let vs = graph_of kind keys seed m in
    let G : Graph vs (length keys) m = graph_of_lem kind keys seed (length keys) m big in
    let inside = order_inside vs (length keys) m G xs q (length keys) f.works.order in
    record {
      order = f.works.order ∙ rw (← f.seed_is, s, is);
      edges = λ i h. (inside i h).0;
      vertices = λ i h. (inside i h).1;
    }
