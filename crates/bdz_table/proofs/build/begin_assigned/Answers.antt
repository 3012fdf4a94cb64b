-- `bdz_table::build::begin_assigned` meets its contract. Assumes nothing.
use Rattle.std.proofs.Common.{◌≡◌, ◌<◌, [], length, sym, refl, ap, ◌∙◌, arith, length-take-le}
use Rattle.bdz_base.specs.declared.verts.Kind.TheVariants.{Assigned}
use Rattle.bdz_table.specs.Build.{vertices_for, assigned_table, lengths_with}
use Rattle.bdz_table.specs.Values.{values_no}
use Rattle.bdz_table.specs.Steps.{told_run}
use Rattle.bdz_table.specs.declared.index.Needs.{Needs}
use Rattle.bdz_table.proofs.NeedLaws.{vertices_fit}
use Rattle.bdz_table.proofs.Begun.{assigned_passed, need_table, need_seen, shaped_at, room_at, cleared_part, length_assigned, begun_is, values_below}
use Rattle.bdz_table.proofs.Readying.{verdict_none, ready_begun}
use Rattle.bdz_table.proofs.build.begin_assigned.Goals as goal

pub overflow_cast-n : goal.overflow_cast-n
overflow_cast-n c =
    let a = c.args in
    let p = assigned_passed (length a.keys.now) (length a.values.now) a.modulus (lengths_with a.table.now a.degrees.now a.xors.now a.queue.now a.order a.marks.now [] a.seen.now) c.requires.some c.requires.accepted in
    omega (arith, p.passed.few)

pub overflow_cast-m : goal.overflow_cast-m
overflow_cast-m c =
    let a = c.args in
    let p = assigned_passed (length a.keys.now) (length a.values.now) a.modulus (lengths_with a.table.now a.degrees.now a.xors.now a.queue.now a.order a.marks.now [] a.seen.now) c.requires.some c.requires.accepted in
    let needed = c.needs-need in
    let room = room_at Assigned a.keys.now a.modulus a.table.now a.degrees.now a.xors.now a.queue.now a.order a.marks.now [] a.seen.now c.requires.some p.passed needed.ensures in
    let t : needed.result.table ≡ vertices_for Assigned (length a.keys.now) = ap (λ (x : Needs). x.table) needed.ensures ∙ need_table Assigned (length a.keys.now) a.modulus in
    omega (arith, vertices_fit Assigned (length a.keys.now) p.passed.few)

pub slice_bounds-judge_part-end : goal.slice_bounds-judge_part-end
slice_bounds-judge_part-end c =
    let a = c.args in
    let p = assigned_passed (length a.keys.now) (length a.values.now) a.modulus (lengths_with a.table.now a.degrees.now a.xors.now a.queue.now a.order a.marks.now [] a.seen.now) c.requires.some c.requires.accepted in
    let needed = c.needs-need in
    let room = room_at Assigned a.keys.now a.modulus a.table.now a.degrees.now a.xors.now a.queue.now a.order a.marks.now [] a.seen.now c.requires.some p.passed needed.ensures in
    room.seen

pub slice_bounds-judge_part-end-2 : goal.slice_bounds-judge_part-end-2
slice_bounds-judge_part-end-2 c =
    let a = c.args in
    let p = assigned_passed (length a.keys.now) (length a.values.now) a.modulus (lengths_with a.table.now a.degrees.now a.xors.now a.queue.now a.order a.marks.now [] a.seen.now) c.requires.some c.requires.accepted in
    let needed = c.needs-need in
    let room = room_at Assigned a.keys.now a.modulus a.table.now a.degrees.now a.xors.now a.queue.now a.order a.marks.now [] a.seen.now c.requires.some p.passed needed.ensures in
    sym (length-take-le _ a.seen.now room.seen)

pub judge_part-verdict-requires : goal.judge_part-verdict-requires
judge_part-verdict-requires c =
    let a = c.args in
    let p = assigned_passed (length a.keys.now) (length a.values.now) a.modulus (lengths_with a.table.now a.degrees.now a.xors.now a.queue.now a.order a.marks.now [] a.seen.now) c.requires.some c.requires.accepted in
    let needed = c.needs-need in
    let room = room_at Assigned a.keys.now a.modulus a.table.now a.degrees.now a.xors.now a.queue.now a.order a.marks.now [] a.seen.now c.requires.some p.passed needed.ensures in
    length-take-le _ a.seen.now room.seen ∙ ap (λ (x : Needs). x.seen) needed.ensures ∙ need_seen (length a.keys.now) a.modulus c.requires.some

pub slice_bounds-work_assigned-end : goal.slice_bounds-work_assigned-end
slice_bounds-work_assigned-end c =
    let a = c.args in
    let p = assigned_passed (length a.keys.now) (length a.values.now) a.modulus (lengths_with a.table.now a.degrees.now a.xors.now a.queue.now a.order a.marks.now [] a.seen.now) c.requires.some c.requires.accepted in
    let needed = c.needs-need in
    let room = room_at Assigned a.keys.now a.modulus a.table.now a.degrees.now a.xors.now a.queue.now a.order a.marks.now [] a.seen.now c.requires.some p.passed needed.ensures in
    room.table

pub slice_bounds-work_assigned-end-2 : goal.slice_bounds-work_assigned-end-2
slice_bounds-work_assigned-end-2 c =
    let a = c.args in
    let p = assigned_passed (length a.keys.now) (length a.values.now) a.modulus (lengths_with a.table.now a.degrees.now a.xors.now a.queue.now a.order a.marks.now [] a.seen.now) c.requires.some c.requires.accepted in
    let needed = c.needs-need in
    let room = room_at Assigned a.keys.now a.modulus a.table.now a.degrees.now a.xors.now a.queue.now a.order a.marks.now [] a.seen.now c.requires.some p.passed needed.ensures in
    sym (length-take-le _ a.table.now room.table)

pub slice_bounds-work_assigned-end-3 : goal.slice_bounds-work_assigned-end-3
slice_bounds-work_assigned-end-3 c =
    let a = c.args in
    let p = assigned_passed (length a.keys.now) (length a.values.now) a.modulus (lengths_with a.table.now a.degrees.now a.xors.now a.queue.now a.order a.marks.now [] a.seen.now) c.requires.some c.requires.accepted in
    let needed = c.needs-need in
    let room = room_at Assigned a.keys.now a.modulus a.table.now a.degrees.now a.xors.now a.queue.now a.order a.marks.now [] a.seen.now c.requires.some p.passed needed.ensures in
    room.degrees

pub slice_bounds-work_assigned-end-4 : goal.slice_bounds-work_assigned-end-4
slice_bounds-work_assigned-end-4 c =
    let a = c.args in
    let p = assigned_passed (length a.keys.now) (length a.values.now) a.modulus (lengths_with a.table.now a.degrees.now a.xors.now a.queue.now a.order a.marks.now [] a.seen.now) c.requires.some c.requires.accepted in
    let needed = c.needs-need in
    let room = room_at Assigned a.keys.now a.modulus a.table.now a.degrees.now a.xors.now a.queue.now a.order a.marks.now [] a.seen.now c.requires.some p.passed needed.ensures in
    sym (length-take-le _ a.degrees.now room.degrees)

pub slice_bounds-work_assigned-end-5 : goal.slice_bounds-work_assigned-end-5
slice_bounds-work_assigned-end-5 c =
    let a = c.args in
    let p = assigned_passed (length a.keys.now) (length a.values.now) a.modulus (lengths_with a.table.now a.degrees.now a.xors.now a.queue.now a.order a.marks.now [] a.seen.now) c.requires.some c.requires.accepted in
    let needed = c.needs-need in
    let room = room_at Assigned a.keys.now a.modulus a.table.now a.degrees.now a.xors.now a.queue.now a.order a.marks.now [] a.seen.now c.requires.some p.passed needed.ensures in
    room.xors

pub slice_bounds-work_assigned-end-6 : goal.slice_bounds-work_assigned-end-6
slice_bounds-work_assigned-end-6 c =
    let a = c.args in
    let p = assigned_passed (length a.keys.now) (length a.values.now) a.modulus (lengths_with a.table.now a.degrees.now a.xors.now a.queue.now a.order a.marks.now [] a.seen.now) c.requires.some c.requires.accepted in
    let needed = c.needs-need in
    let room = room_at Assigned a.keys.now a.modulus a.table.now a.degrees.now a.xors.now a.queue.now a.order a.marks.now [] a.seen.now c.requires.some p.passed needed.ensures in
    sym (length-take-le _ a.xors.now room.xors)

pub slice_bounds-work_assigned-end-7 : goal.slice_bounds-work_assigned-end-7
slice_bounds-work_assigned-end-7 c =
    let a = c.args in
    let p = assigned_passed (length a.keys.now) (length a.values.now) a.modulus (lengths_with a.table.now a.degrees.now a.xors.now a.queue.now a.order a.marks.now [] a.seen.now) c.requires.some c.requires.accepted in
    let needed = c.needs-need in
    let room = room_at Assigned a.keys.now a.modulus a.table.now a.degrees.now a.xors.now a.queue.now a.order a.marks.now [] a.seen.now c.requires.some p.passed needed.ensures in
    room.queue

pub slice_bounds-work_assigned-end-8 : goal.slice_bounds-work_assigned-end-8
slice_bounds-work_assigned-end-8 c =
    let a = c.args in
    let p = assigned_passed (length a.keys.now) (length a.values.now) a.modulus (lengths_with a.table.now a.degrees.now a.xors.now a.queue.now a.order a.marks.now [] a.seen.now) c.requires.some c.requires.accepted in
    let needed = c.needs-need in
    let room = room_at Assigned a.keys.now a.modulus a.table.now a.degrees.now a.xors.now a.queue.now a.order a.marks.now [] a.seen.now c.requires.some p.passed needed.ensures in
    sym (length-take-le _ a.queue.now room.queue)

pub slice_bounds-work_assigned-end-9 : goal.slice_bounds-work_assigned-end-9
slice_bounds-work_assigned-end-9 c =
    let a = c.args in
    let p = assigned_passed (length a.keys.now) (length a.values.now) a.modulus (lengths_with a.table.now a.degrees.now a.xors.now a.queue.now a.order a.marks.now [] a.seen.now) c.requires.some c.requires.accepted in
    let needed = c.needs-need in
    let room = room_at Assigned a.keys.now a.modulus a.table.now a.degrees.now a.xors.now a.queue.now a.order a.marks.now [] a.seen.now c.requires.some p.passed needed.ensures in
    room.marks

pub slice_bounds-work_assigned-end-10 : goal.slice_bounds-work_assigned-end-10
slice_bounds-work_assigned-end-10 c =
    let a = c.args in
    let p = assigned_passed (length a.keys.now) (length a.values.now) a.modulus (lengths_with a.table.now a.degrees.now a.xors.now a.queue.now a.order a.marks.now [] a.seen.now) c.requires.some c.requires.accepted in
    let needed = c.needs-need in
    let room = room_at Assigned a.keys.now a.modulus a.table.now a.degrees.now a.xors.now a.queue.now a.order a.marks.now [] a.seen.now c.requires.some p.passed needed.ensures in
    sym (length-take-le _ a.marks.now room.marks)

pub work_assigned-run-requires : goal.work_assigned-run-requires
work_assigned-run-requires c =
    let a = c.args in
    let p = assigned_passed (length a.keys.now) (length a.values.now) a.modulus (lengths_with a.table.now a.degrees.now a.xors.now a.queue.now a.order a.marks.now [] a.seen.now) c.requires.some c.requires.accepted in
    let needed = c.needs-need in
    let room = room_at Assigned a.keys.now a.modulus a.table.now a.degrees.now a.xors.now a.queue.now a.order a.marks.now [] a.seen.now c.requires.some p.passed needed.ensures in
    record { shaped = shaped_at Assigned a.keys.now a.modulus a.table.now a.degrees.now a.xors.now a.queue.now a.order a.marks.now [] a.seen.now c.requires.some p.passed needed.ensures; values_len = sym p.same }

pub returns : goal.returns
returns c =
    let a = c.args in
    let p = assigned_passed (length a.keys.now) (length a.values.now) a.modulus (lengths_with a.table.now a.degrees.now a.xors.now a.queue.now a.order a.marks.now [] a.seen.now) c.requires.some c.requires.accepted in
    let needed = c.needs-need in
    let room = room_at Assigned a.keys.now a.modulus a.table.now a.degrees.now a.xors.now a.queue.now a.order a.marks.now [] a.seen.now c.requires.some p.passed needed.ensures in
    let judged = c.judge_part-verdict in
    let ran = c.work_assigned-run in
    let ran_to = rw judged.ensures.judged at ran.ensures.ran_to in
    let n = length a.keys.now in
    let t : needed.result.table ≡ vertices_for Assigned n = ap (λ (x : Needs). x.table) needed.ensures ∙ need_table Assigned n a.modulus in
    let sound : 0 < (told_run ran.result).pairs → values_no a.modulus [] a.values.now ≡ 0 = λ h. verdict_none Assigned a.keys.now (values_no a.modulus [] a.values.now) (sym ran_to.no_is ∙ (ran.ensures.sought.pending h).accepted) in
    rw c.left_of-left.ensures (record {
      to =
          ready_begun Assigned a.keys.now a.modulus _ (values_no a.modulus [] a.values.now) a.order (assigned_table a.keys.now a.values.now a.modulus) a.table.now a.degrees.now a.xors.now a.queue.now a.marks.now [] a.seen.now c.finish.result
          c.requires.some c.requires.accepted needed.ensures p.passed refl c.finish.ensures ran_to
          ran.new.table ran.new.degrees ran.new.xors ran.new.queue ran.new.marks ran.ensures.sought (length_assigned a.keys.now a.values.now a.modulus c.requires.some ∙ sym t)
          ran.auto.table ran.auto.degrees ran.auto.xors ran.auto.queue ran.auto.marks;
      seen_is = rw (begun_is n _ c.requires.some c.requires.accepted, ← needed.ensures) (cleared_part needed.result.seen a.seen.now judged.new.seen room.seen judged.ensures.cleared);
      same = λ h. sym p.same;
      values_limit = λ h. p.limit;
      values_below = λ h. values_below a.modulus [] a.values.now (sound h);
    })
