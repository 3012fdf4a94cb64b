-- The graph of a list of keys at a seed. Assumes nothing.
use Rattle.std.specs.Prelude.{ℕ, List, [], ◌∷◌, slice_index}
use Rattle.bdz_base.specs.Verts.{verts_of}
use Rattle.bdz_base.specs.declared.verts.Verts.{Verts}
use Rattle.bdz_base.specs.declared.verts.Kind.{Kind}
use Rattle.bdz_table.specs.declared.graph.Graph.{Graph}

-- a key's vertices "in the order a, b, c"
abbrev pub listed : Verts → List ℕ
listed v = v.a ∷ v.b ∷ v.c ∷ []

-- the vertices of key number e
unfoldable pub graph_of : Kind → List ℕ → ℕ → ℕ → ℕ → List ℕ
graph_of kind keys seed m e = listed (verts_of kind (slice_index keys e) seed m)

-- the same of a graph that the code names
abbrev pub graph_at : Graph → ℕ → List ℕ
graph_at g = graph_of g.kind g.keys.now g.seed g.m
