-- `bdz_table::build::begin_compact` meets its contract. Assumes nothing.
use Rattle.std.proofs.Common.{◌≡◌, ℕ, [], length, replicate, sym, refl, ap, ◌∙◌, arith, length-take-le}
use Rattle.bdz_base.specs.Sizes.{occupancy_bytes}
use Rattle.bdz_base.specs.declared.verts.Kind.TheVariants.{Compact}
use Rattle.bdz_table.specs.Build.{vertices_for, compact_table, compact_occupancy, lengths_with}
use Rattle.bdz_table.specs.Steps.{told_run}
use Rattle.bdz_table.specs.declared.index.Needs.{Needs}
use Rattle.bdz_table.proofs.NeedLaws.{vertices_fit}
use Rattle.bdz_table.proofs.Begun.{compact_passed, need_table, need_occupancy, shaped_at, room_at, written_part, length_compact, length_occupied}
use Rattle.bdz_table.proofs.Readying.{zeroed_part, number_is, ready_begun}
use Rattle.bdz_table.proofs.build.begin_compact.Goals as goal

pub overflow_cast-n : goal.overflow_cast-n
overflow_cast-n c =
    let a = c.args in
    let p = compact_passed (length a.keys.now) (lengths_with a.table.now a.degrees.now a.xors.now a.queue.now a.order a.marks.now a.occupancy.now []) c.requires.some c.requires.accepted in
    omega (arith, p.few)

pub overflow_cast-m : goal.overflow_cast-m
overflow_cast-m c =
    let a = c.args in
    let p = compact_passed (length a.keys.now) (lengths_with a.table.now a.degrees.now a.xors.now a.queue.now a.order a.marks.now a.occupancy.now []) c.requires.some c.requires.accepted in
    let needed = c.needs-need in
    let room = room_at Compact a.keys.now (length a.keys.now) a.table.now a.degrees.now a.xors.now a.queue.now a.order a.marks.now a.occupancy.now [] c.requires.some p needed.ensures in
    let t : needed.result.table ≡ vertices_for Compact (length a.keys.now) = ap (λ (x : Needs). x.table) needed.ensures ∙ need_table Compact (length a.keys.now) (length a.keys.now) in
    omega (arith, vertices_fit Compact (length a.keys.now) p.few)

pub slice_bounds-work_compact-end : goal.slice_bounds-work_compact-end
slice_bounds-work_compact-end c =
    let a = c.args in
    let p = compact_passed (length a.keys.now) (lengths_with a.table.now a.degrees.now a.xors.now a.queue.now a.order a.marks.now a.occupancy.now []) c.requires.some c.requires.accepted in
    let needed = c.needs-need in
    let room = room_at Compact a.keys.now (length a.keys.now) a.table.now a.degrees.now a.xors.now a.queue.now a.order a.marks.now a.occupancy.now [] c.requires.some p needed.ensures in
    room.table

pub slice_bounds-work_compact-end-2 : goal.slice_bounds-work_compact-end-2
slice_bounds-work_compact-end-2 c =
    let a = c.args in
    let p = compact_passed (length a.keys.now) (lengths_with a.table.now a.degrees.now a.xors.now a.queue.now a.order a.marks.now a.occupancy.now []) c.requires.some c.requires.accepted in
    let needed = c.needs-need in
    let room = room_at Compact a.keys.now (length a.keys.now) a.table.now a.degrees.now a.xors.now a.queue.now a.order a.marks.now a.occupancy.now [] c.requires.some p needed.ensures in
    sym (length-take-le _ a.table.now room.table)

pub slice_bounds-work_compact-end-3 : goal.slice_bounds-work_compact-end-3
slice_bounds-work_compact-end-3 c =
    let a = c.args in
    let p = compact_passed (length a.keys.now) (lengths_with a.table.now a.degrees.now a.xors.now a.queue.now a.order a.marks.now a.occupancy.now []) c.requires.some c.requires.accepted in
    let needed = c.needs-need in
    let room = room_at Compact a.keys.now (length a.keys.now) a.table.now a.degrees.now a.xors.now a.queue.now a.order a.marks.now a.occupancy.now [] c.requires.some p needed.ensures in
    room.occupancy

pub slice_bounds-work_compact-end-4 : goal.slice_bounds-work_compact-end-4
slice_bounds-work_compact-end-4 c =
    let a = c.args in
    let p = compact_passed (length a.keys.now) (lengths_with a.table.now a.degrees.now a.xors.now a.queue.now a.order a.marks.now a.occupancy.now []) c.requires.some c.requires.accepted in
    let needed = c.needs-need in
    let room = room_at Compact a.keys.now (length a.keys.now) a.table.now a.degrees.now a.xors.now a.queue.now a.order a.marks.now a.occupancy.now [] c.requires.some p needed.ensures in
    sym (length-take-le _ a.occupancy.now room.occupancy)

pub slice_bounds-work_compact-end-5 : goal.slice_bounds-work_compact-end-5
slice_bounds-work_compact-end-5 c =
    let a = c.args in
    let p = compact_passed (length a.keys.now) (lengths_with a.table.now a.degrees.now a.xors.now a.queue.now a.order a.marks.now a.occupancy.now []) c.requires.some c.requires.accepted in
    let needed = c.needs-need in
    let room = room_at Compact a.keys.now (length a.keys.now) a.table.now a.degrees.now a.xors.now a.queue.now a.order a.marks.now a.occupancy.now [] c.requires.some p needed.ensures in
    room.degrees

pub slice_bounds-work_compact-end-6 : goal.slice_bounds-work_compact-end-6
slice_bounds-work_compact-end-6 c =
    let a = c.args in
    let p = compact_passed (length a.keys.now) (lengths_with a.table.now a.degrees.now a.xors.now a.queue.now a.order a.marks.now a.occupancy.now []) c.requires.some c.requires.accepted in
    let needed = c.needs-need in
    let room = room_at Compact a.keys.now (length a.keys.now) a.table.now a.degrees.now a.xors.now a.queue.now a.order a.marks.now a.occupancy.now [] c.requires.some p needed.ensures in
    sym (length-take-le _ a.degrees.now room.degrees)

pub slice_bounds-work_compact-end-7 : goal.slice_bounds-work_compact-end-7
slice_bounds-work_compact-end-7 c =
    let a = c.args in
    let p = compact_passed (length a.keys.now) (lengths_with a.table.now a.degrees.now a.xors.now a.queue.now a.order a.marks.now a.occupancy.now []) c.requires.some c.requires.accepted in
    let needed = c.needs-need in
    let room = room_at Compact a.keys.now (length a.keys.now) a.table.now a.degrees.now a.xors.now a.queue.now a.order a.marks.now a.occupancy.now [] c.requires.some p needed.ensures in
    room.xors

pub slice_bounds-work_compact-end-8 : goal.slice_bounds-work_compact-end-8
slice_bounds-work_compact-end-8 c =
    let a = c.args in
    let p = compact_passed (length a.keys.now) (lengths_with a.table.now a.degrees.now a.xors.now a.queue.now a.order a.marks.now a.occupancy.now []) c.requires.some c.requires.accepted in
    let needed = c.needs-need in
    let room = room_at Compact a.keys.now (length a.keys.now) a.table.now a.degrees.now a.xors.now a.queue.now a.order a.marks.now a.occupancy.now [] c.requires.some p needed.ensures in
    sym (length-take-le _ a.xors.now room.xors)

pub slice_bounds-work_compact-end-9 : goal.slice_bounds-work_compact-end-9
slice_bounds-work_compact-end-9 c =
    let a = c.args in
    let p = compact_passed (length a.keys.now) (lengths_with a.table.now a.degrees.now a.xors.now a.queue.now a.order a.marks.now a.occupancy.now []) c.requires.some c.requires.accepted in
    let needed = c.needs-need in
    let room = room_at Compact a.keys.now (length a.keys.now) a.table.now a.degrees.now a.xors.now a.queue.now a.order a.marks.now a.occupancy.now [] c.requires.some p needed.ensures in
    room.queue

pub slice_bounds-work_compact-end-10 : goal.slice_bounds-work_compact-end-10
slice_bounds-work_compact-end-10 c =
    let a = c.args in
    let p = compact_passed (length a.keys.now) (lengths_with a.table.now a.degrees.now a.xors.now a.queue.now a.order a.marks.now a.occupancy.now []) c.requires.some c.requires.accepted in
    let needed = c.needs-need in
    let room = room_at Compact a.keys.now (length a.keys.now) a.table.now a.degrees.now a.xors.now a.queue.now a.order a.marks.now a.occupancy.now [] c.requires.some p needed.ensures in
    sym (length-take-le _ a.queue.now room.queue)

pub slice_bounds-work_compact-end-11 : goal.slice_bounds-work_compact-end-11
slice_bounds-work_compact-end-11 c =
    let a = c.args in
    let p = compact_passed (length a.keys.now) (lengths_with a.table.now a.degrees.now a.xors.now a.queue.now a.order a.marks.now a.occupancy.now []) c.requires.some c.requires.accepted in
    let needed = c.needs-need in
    let room = room_at Compact a.keys.now (length a.keys.now) a.table.now a.degrees.now a.xors.now a.queue.now a.order a.marks.now a.occupancy.now [] c.requires.some p needed.ensures in
    room.marks

pub slice_bounds-work_compact-end-12 : goal.slice_bounds-work_compact-end-12
slice_bounds-work_compact-end-12 c =
    let a = c.args in
    let p = compact_passed (length a.keys.now) (lengths_with a.table.now a.degrees.now a.xors.now a.queue.now a.order a.marks.now a.occupancy.now []) c.requires.some c.requires.accepted in
    let needed = c.needs-need in
    let room = room_at Compact a.keys.now (length a.keys.now) a.table.now a.degrees.now a.xors.now a.queue.now a.order a.marks.now a.occupancy.now [] c.requires.some p needed.ensures in
    sym (length-take-le _ a.marks.now room.marks)

pub work_compact-run-requires : goal.work_compact-run-requires
work_compact-run-requires c =
    let a = c.args in
    let p = compact_passed (length a.keys.now) (lengths_with a.table.now a.degrees.now a.xors.now a.queue.now a.order a.marks.now a.occupancy.now []) c.requires.some c.requires.accepted in
    let needed = c.needs-need in
    let room = room_at Compact a.keys.now (length a.keys.now) a.table.now a.degrees.now a.xors.now a.queue.now a.order a.marks.now a.occupancy.now [] c.requires.some p needed.ensures in
    record { shaped = shaped_at Compact a.keys.now (length a.keys.now) a.table.now a.degrees.now a.xors.now a.queue.now a.order a.marks.now a.occupancy.now [] c.requires.some p needed.ensures; occupancy_len = length-take-le _ a.occupancy.now room.occupancy ∙ ap (λ (x : Needs). x.occupancy) needed.ensures ∙ need_occupancy (length a.keys.now) (length a.keys.now) ∙ ap occupancy_bytes (sym (need_table Compact (length a.keys.now) (length a.keys.now)) ∙ sym (ap (λ (x : Needs). x.table) needed.ensures)) }

pub returns : goal.returns
returns c =
    let a = c.args in
    let p = compact_passed (length a.keys.now) (lengths_with a.table.now a.degrees.now a.xors.now a.queue.now a.order a.marks.now a.occupancy.now []) c.requires.some c.requires.accepted in
    let needed = c.needs-need in
    let room = room_at Compact a.keys.now (length a.keys.now) a.table.now a.degrees.now a.xors.now a.queue.now a.order a.marks.now a.occupancy.now [] c.requires.some p needed.ensures in
    let ran = c.work_compact-run in
    let n = length a.keys.now in
    let t : needed.result.table ≡ vertices_for Compact n = ap (λ (x : Needs). x.table) needed.ensures ∙ need_table Compact n n in
    let bytes : needed.result.occupancy ≡ occupancy_bytes needed.result.table = ap (λ (x : Needs). x.occupancy) needed.ensures ∙ need_occupancy n n ∙ ap occupancy_bytes (sym t) in
    let number = number_is Compact a.keys.now n _ 0 a.order (compact_table a.keys.now) a.table.now a.degrees.now a.xors.now a.queue.now a.marks.now a.occupancy.now [] c.finish.result c.requires.some c.requires.accepted needed.ensures p refl c.finish.ensures ran.ensures.ran_to in
    rw c.left_of-left.ensures (record {
      to =
          ready_begun Compact a.keys.now n _ 0 a.order (compact_table a.keys.now) a.table.now a.degrees.now a.xors.now a.queue.now a.marks.now a.occupancy.now [] c.finish.result
          c.requires.some c.requires.accepted needed.ensures p refl c.finish.ensures ran.ensures.ran_to
          ran.new.table ran.new.degrees ran.new.xors ran.new.queue ran.new.marks ran.ensures.sought (length_compact a.keys.now c.requires.some ∙ sym t)
          ran.auto.table ran.auto.degrees ran.auto.xors ran.auto.queue ran.auto.marks;
      occupied = λ h. rw (← bytes) (zeroed_part needed.result.occupancy a.occupancy.now ran.new.occupancy room.occupancy (ran.ensures.occupancy_sought.pending h ∙ ap (λ (k : ℕ). replicate k 0) (sym bytes)));
      occupancy_done = λ none. rw number (written_part (told_run ran.result).no needed.result.occupancy (compact_occupancy a.keys.now) a.occupancy.now ran.new.occupancy (length_occupied a.keys.now c.requires.some ∙ ap occupancy_bytes (sym t) ∙ sym bytes) (ran.ensures.occupancy_sought.done none));
    })
