-- The words that keys wait for. Assumes nothing.
use Rattle.std.specs.Prelude.{List, ℕ, ◌+◌, ◌*◌, ◌/◌, ◌%◌, ◌^◌, get_or}
use Rattle.bdz_base.specs.declared.verts.Kind.{Kind}
use Rattle.bdz_table.specs.Keys.{graph_of}

-- "three slots a key": the vertex of slot s
unfoldable pub vertex_at : Kind → List ℕ → ℕ → ℕ → ℕ → ℕ
vertex_at kind keys seed m s = get_or (graph_of kind keys seed m (s / 3)) (s % 3) 0

-- an entry of the order: a vertex, above bit 32, and the number of its slot below
unfoldable pub entry_at : Kind → List ℕ → ℕ → ℕ → ℕ → ℕ
entry_at kind keys seed m s = vertex_at kind keys seed m s * 2 ^ 32 + s
