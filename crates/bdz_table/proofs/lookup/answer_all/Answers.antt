-- `bdz_table::lookup::answer_all` meets its contract. Assumes nothing.
use Rattle.std.proofs.Common.{◌<◌, ◌≤◌, rules, length, slice_index, sym, length-take-le, arith}
use Rattle.bdz_base.specs.Sizes.{occupancy_bytes, super_count}
use Rattle.bdz_table.specs.Lookup.{assigned_answer, compact_answer}
use Rattle.bdz_table.proofs.Passed.{answers_fit, fits, room_assigned, room_compact, answers_none, answers_few, answers_assigned, answers_compact, same_answers}
use Rattle.bdz_table.proofs.lookup.answer_all.Goals as goal

pub returns-then-keys-eq0 : goal.returns-then-keys-eq0
returns-then-keys-eq0 c =
    let a = c.args in
    answers_none a.index a.table.now a.occ.now a.supers.now a.keys.now a.out.now c.if-keys-eq0.true

pub slice_bounds-fill-end : goal.slice_bounds-fill-end
slice_bounds-fill-end c =
    let a = c.args in
    answers_fit a.index (length a.keys.now) (length a.table.now) (length a.occ.now) (length a.supers.now) (length a.out.now) c.if-keys-eq0.false c.requires

pub slice_bounds-fill-end-then-index-lt2 : goal.slice_bounds-fill-end-then-index-lt2
slice_bounds-fill-end-then-index-lt2 c =
    let a = c.args in
    sym (length-take-le _ _ (answers_fit a.index (length a.keys.now) (length a.table.now) (length a.occ.now) (length a.supers.now) (length a.out.now) c.if-keys-eq0.false c.requires))

pub returns-then-index-lt2 : goal.returns-then-index-lt2
returns-then-index-lt2 c =
    let a = c.args in
    let room = answers_fit a.index (length a.keys.now) (length a.table.now) (length a.occ.now) (length a.supers.now) (length a.out.now) c.if-keys-eq0.false c.requires in
    rw (answers_few a.index a.table.now a.occ.now a.supers.now a.keys.now c.if-index-lt2.true, ← c.first_word.ensures, ← c.few_answer.ensures)
    (same_answers _ (length a.keys.now) a.out.now _ room (c.fill.ensures.after (λ y e. e)))

pub answer_each-requires-clause-callable : goal.answer_each-requires-clause-callable
answer_each-requires-clause-callable c =
    let a = c.args in
    let q = fits a.index (length a.keys.now) (length a.table.now) (length a.occ.now) (length a.supers.now) (length a.out.now) c.if-keys-eq0.false (omega arith) c.requires in
    let vertices : 0 < a.index.m = q.vertices in
    let modulus : 0 < a.index.modulus = q.modulus in
    let words : a.index.m ≤ length a.table.now = room_assigned a.index.m (length a.table.now) (length a.occ.now) (length a.supers.now) (rw c.in-Assigned.is at q.room) in
    λ i l. search rules

pub answer_each-requires-clause-room : goal.answer_each-requires-clause-room
answer_each-requires-clause-room c =
    let a = c.args in
    answers_fit a.index (length a.keys.now) (length a.table.now) (length a.occ.now) (length a.supers.now) (length a.out.now) c.if-keys-eq0.false c.requires

pub answer_each-requires-in-Compact-clause-callable : goal.answer_each-requires-in-Compact-clause-callable
answer_each-requires-in-Compact-clause-callable c =
    let a = c.args in
    let q = fits a.index (length a.keys.now) (length a.table.now) (length a.occ.now) (length a.supers.now) (length a.out.now) c.if-keys-eq0.false (omega arith) c.requires in
    let r = room_compact a.index.m (length a.table.now) (length a.occ.now) (length a.supers.now) (rw c.in-Compact.is at q.room) in
    let some : 0 < a.index.n = omega arith in
    let vertices : 0 < a.index.m = q.vertices in
    let words : a.index.m ≤ length a.table.now = r.1 in
    let bytes : occupancy_bytes a.index.m ≤ length a.occ.now = r.0 in
    let counts : super_count a.index.m ≤ length a.supers.now = r.2 in
    λ i l. search rules

pub answer_each-requires-in-Compact-clause-room : goal.answer_each-requires-in-Compact-clause-room
answer_each-requires-in-Compact-clause-room c =
    let a = c.args in
    answers_fit a.index (length a.keys.now) (length a.table.now) (length a.occ.now) (length a.supers.now) (length a.out.now) c.if-keys-eq0.false c.requires

pub returns-in-Assigned : goal.returns-in-Assigned
returns-in-Assigned c =
    let a = c.args in
    rw (answers_assigned a.index a.table.now a.occ.now a.supers.now a.keys.now c.if-index-lt2.false c.in-Assigned.is)
    (c.answer_each.ensures (λ i. assigned_answer a.index.seed a.index.m a.index.modulus a.table.now (slice_index a.keys.now i)) (λ i r l p. search rules))

pub returns-in-Compact : goal.returns-in-Compact
returns-in-Compact c =
    let a = c.args in
    rw (answers_compact a.index a.table.now a.occ.now a.supers.now a.keys.now c.if-index-lt2.false c.in-Compact.is)
    (c.answer_each-in-Compact.ensures (λ i. compact_answer a.index.seed a.index.m a.index.n a.table.now a.occ.now a.supers.now (slice_index a.keys.now i)) (λ i r l p. search rules))
