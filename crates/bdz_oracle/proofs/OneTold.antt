-- Two outcomes that the promise of an exported build allows coincide. Assumes nothing.
use mathlib.Core.Path.{◌≡◌, sym, ap, ◌∙◌}
use mathlib.Core.List.{List}
use Prim.Native.Nat.{ℕ}
use Rattle.bdz_table.specs.declared.pairs.Pair.{Pair}
use Rattle.bdz_oracle.specs.Building.{told_built, ToldAssigned, ToldCompact}

pub one_bdz_build_assigned : {keys values : List ℕ} {modulus : ℕ} {key_room value_room table degrees xors queue : List ℕ} {order : List Pair} {marks seen : List ℕ}
    {key_room₁ value_room₁ table₁ degrees₁ xors₁ queue₁ : List ℕ} {order₁ : List Pair} {marks₁ seen₁ answer₁ : List ℕ}
    {key_room₂ value_room₂ table₂ degrees₂ xors₂ queue₂ : List ℕ} {order₂ : List Pair} {marks₂ seen₂ answer₂ : List ℕ}
    → ToldAssigned keys values modulus key_room value_room table degrees xors queue order marks seen key_room₁ value_room₁ table₁ degrees₁ xors₁ queue₁ order₁ marks₁ seen₁ answer₁
    → ToldAssigned keys values modulus key_room value_room table degrees xors queue order marks seen key_room₂ value_room₂ table₂ degrees₂ xors₂ queue₂ order₂ marks₂ seen₂ answer₂
    → (key_room₁ ≡ key_room₂) × (value_room₁ ≡ value_room₂) × (table₁ ≡ table₂) × (degrees₁ ≡ degrees₂) × (xors₁ ≡ xors₂) × (queue₁ ≡ queue₂) × (order₁ ≡ order₂) × (marks₁ ≡ marks₂) × (seen₁ ≡ seen₂) × (answer₁ ≡ answer₂)
one_bdz_build_assigned p q = (
  p.key_room_is ∙ sym q.key_room_is,
  p.value_room_is ∙ sym q.value_room_is,
  p.is_built.to.table_is ∙ sym q.is_built.to.table_is,
  p.is_built.to.degrees_are ∙ sym q.is_built.to.degrees_are,
  p.is_built.to.xors_are ∙ sym q.is_built.to.xors_are,
  p.is_built.to.queue_is ∙ sym q.is_built.to.queue_is,
  p.is_built.to.order_is ∙ sym q.is_built.to.order_is,
  p.is_built.to.marks_are ∙ sym q.is_built.to.marks_are,
  p.is_built.seen_is ∙ sym q.is_built.seen_is,
  p.answer_is ∙ ap told_built (p.is_built.to.answer_is ∙ sym q.is_built.to.answer_is) ∙ sym q.answer_is,
)

pub one_bdz_build_compact : {keys key_room table occupancy degrees xors queue : List ℕ} {order : List Pair} {marks : List ℕ}
    {key_room₁ table₁ occupancy₁ degrees₁ xors₁ queue₁ : List ℕ} {order₁ : List Pair} {marks₁ answer₁ : List ℕ}
    {key_room₂ table₂ occupancy₂ degrees₂ xors₂ queue₂ : List ℕ} {order₂ : List Pair} {marks₂ answer₂ : List ℕ}
    → ToldCompact keys key_room table occupancy degrees xors queue order marks key_room₁ table₁ occupancy₁ degrees₁ xors₁ queue₁ order₁ marks₁ answer₁
    → ToldCompact keys key_room table occupancy degrees xors queue order marks key_room₂ table₂ occupancy₂ degrees₂ xors₂ queue₂ order₂ marks₂ answer₂
    → (key_room₁ ≡ key_room₂) × (table₁ ≡ table₂) × (occupancy₁ ≡ occupancy₂) × (degrees₁ ≡ degrees₂) × (xors₁ ≡ xors₂) × (queue₁ ≡ queue₂) × (order₁ ≡ order₂) × (marks₁ ≡ marks₂) × (answer₁ ≡ answer₂)
one_bdz_build_compact p q = (
  p.key_room_is ∙ sym q.key_room_is,
  p.is_built.to.table_is ∙ sym q.is_built.to.table_is,
  p.is_built.occupancy_is ∙ sym q.is_built.occupancy_is,
  p.is_built.to.degrees_are ∙ sym q.is_built.to.degrees_are,
  p.is_built.to.xors_are ∙ sym q.is_built.to.xors_are,
  p.is_built.to.queue_is ∙ sym q.is_built.to.queue_is,
  p.is_built.to.order_is ∙ sym q.is_built.to.order_is,
  p.is_built.to.marks_are ∙ sym q.is_built.to.marks_are,
  p.answer_is ∙ ap told_built (p.is_built.to.answer_is ∙ sym q.is_built.to.answer_is) ∙ sym q.answer_is,
)
