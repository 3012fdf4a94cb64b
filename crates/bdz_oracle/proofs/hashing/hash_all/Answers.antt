-- `bdz_oracle::hashing::hash_all` meets its contract. The loop's invariant: the words of i keys stand in out. Assumes
-- nothing.
use Rattle.bdz_oracle.proofs.Answers.{key_vertices, word_a, word_b, word_c}
use Rattle.bdz_oracle.specs.Keys.{vertex_at}
use Rattle.bdz_base.proofs.Buffers.{tab_none, tab_three}
use Rattle.std.proofs.Common.{length-set, arith, refl}
use Rattle.bdz_oracle.proofs.hashing.hash_all.Goals as goal

pub loop-i-init : goal.loop-i-init
loop-i-init c =
    let a = c.args in
    (omega arith, refl, tab_none (vertex_at a.kind a.keys.now a.seed a.m) a.out.now)

pub loop-i-preserved : goal.loop-i-preserved
loop-i-preserved c =
    let l = c.loop-i in
    let a = c.args in
    let e = key_vertices a.kind a.keys.now a.seed a.m l.i c.le64.ensures c.hash_verts-v.ensures in
    let f = vertex_at a.kind a.keys.now a.seed a.m in
    let three = tab_three f l.i a.out.now (omega arith) (word_a a.kind a.keys.now a.seed a.m l.i e)
    (word_b a.kind a.keys.now a.seed a.m l.i e) (word_c a.kind a.keys.now a.seed a.m l.i e) in
    (omega arith, simp length-set (omega arith), rw l.invariant.2 three)
