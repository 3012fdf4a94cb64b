-- The vertices of two named keys at the first seed, computed: bdz_table exhibits their builds, and cannot open the seal itself.
-- Assumes nothing.
use Rattle.std.proofs.Common.{◌≡◌, refl, ◌∙◌}
use Rattle.bdz_base.specs.declared.verts.Kind.TheVariants.{Assigned, Compact}
use Rattle.bdz_base.specs.Mix.{mix64_of, next_of, seed_of, step_of, state_at, seed_at}
use Rattle.bdz_base.specs.Verts.{hash_of, moved_off, apart, hash3_of, hash3_partite_of, verts_of, sealed_assigned, sealed_compact}

pub record TwoKeys : Type 0 where
  pub seed : seed_at 0 ≡ 0x6e78_9e6a_a1b9_65f4
  pub seven : verts_of Assigned 7 (seed_at 0) 5 ≡ record { a = 4; b = 0; c = 1 }
  pub eight : verts_of Assigned 8 (seed_at 0) 5 ≡ record { a = 0; b = 2; c = 1 }
  pub compact_seven : verts_of Compact 7 (seed_at 0) 6 ≡ record { a = 1; b = 2; c = 4 }
  pub compact_eight : verts_of Compact 8 (seed_at 0) 6 ≡ record { a = 0; b = 2; c = 4 }

pub two_keys : TwoKeys
unfolding mix64_of next_of seed_of step_of state_at seed_at hash_of moved_off apart hash3_of hash3_partite_of
two_keys =
    record {
      seed = refl;
      seven = sealed_assigned 7 (seed_at 0) 5 ∙ refl;
      eight = sealed_assigned 8 (seed_at 0) 5 ∙ refl;
      compact_seven = sealed_compact 7 (seed_at 0) 6 ∙ refl;
      compact_eight = sealed_compact 8 (seed_at 0) 6 ∙ refl;
    }
