-- Each public promise leaves one answer, and one content of every lent buffer. Assumes nothing.
use Rattle.std.proofs.Common.{◌≡◌, Result, ℕ, Bool, List, [], ◌∷◌, sym, refl, ◌∙◌, Bor}
use seplogic.Ra.Ura.{Ura}
use base.Logic.{SProp}
use prog.Memory.{Memory}
use prog.Routine.{Routine}
use types.Logic.{Logic}
use contract.Monad.{Fun, fact}
use Rattle.bdz_base.proofs.OneAnswer.{OneResult, OneOutcome}
use Rattle.bdz_base.proofs.Refusals.{one_answer}
use Rattle.bdz_base.specs.declared.refusal.Refusal.{Refusal}
use Rattle.bdz_table.specs.Build.{BuiltTo, BuiltAssigned, BuiltCompact}
use Rattle.bdz_table.specs.Rank.{ranked_of}
use Rattle.bdz_table.specs.declared.index.Index.{Index}
use Rattle.bdz_table.specs.declared.index.Needs.{Needs}
use Rattle.bdz_table.specs.declared.pairs.Pair.{Pair}
use Rattle.bdz_table.specs.declared.view.RankView.{RankView}
use Rattle.bdz_table.specs.contracts.build.build_assigned as build-assigned
use Rattle.bdz_table.proofs.build.build_assigned_small.Reads as build-assigned-small
use Rattle.bdz_table.specs.contracts.build.build_compact as build-compact
use Rattle.bdz_table.proofs.build.build_compact_small.Reads as build-compact-small
use Rattle.bdz_table.proofs.index.refused.Reads as refused
use Rattle.bdz_table.proofs.index.width_for.Reads as width-for
use Rattle.bdz_table.proofs.lookup.finish_index.Reads as finish-index
use Rattle.bdz_table.proofs.lookup.index_batch.Reads as index-batch
use Rattle.bdz_table.proofs.lookup.lookup_no.Reads as lookup-no
use Rattle.bdz_table.proofs.needs.early_assigned.Reads as early-assigned
use Rattle.bdz_table.proofs.needs.early_compact.Reads as early-compact
use Rattle.bdz_table.proofs.needs.needs.Reads as needs
use Rattle.bdz_table.proofs.rank.popcount_bits.Reads as popcount-bits
use Rattle.bdz_table.proofs.rank.rank_at.Reads as rank-at
use Rattle.bdz_table.proofs.rank.supers_from_occ_bytes.Reads as supers-from-occ-bytes
use Rattle.bdz_table.specs.contracts.view.RankView.rank as view-rank
use Rattle.bdz_table.specs.contracts.view.new as new
use Rattle.bdz_table.specs.Told.{told_answer, told_index}
use Rattle.bdz_table.proofs.ToldLaws.{one_told_answer, one_told_index}
use Rattle.bdz_table.proofs.view.rank1.Reads as rank1

pub one_width_for : (κs : _) (a : _) → OneResult (width-for.Post κs a)
one_width_for κs a x y s t p q = p ∙ sym q

pub one_refused : (κs : _) (a : _) → OneResult (refused.Post κs a)
one_refused κs a x y s t p q = p ∙ sym q

pub one_needs : (κs : _) (a : _) → OneResult (needs.Post κs a)
one_needs κs a x y s t p q = p ∙ sym q

pub one_early_assigned : (κs : _) (a : _) → OneResult (early-assigned.Post κs a)
one_early_assigned κs a x y s t p q = one_answer x y (p ∙ sym q)

pub one_early_compact : (κs : _) (a : _) → OneResult (early-compact.Post κs a)
one_early_compact κs a x y s t p q = one_answer x y (p ∙ sym q)

pub one_popcount_bits : (κs : _) (a : _) → OneResult (popcount-bits.Post κs a)
one_popcount_bits κs a x y s t p q = p ∙ sym q

pub one_supers_from_occ_bytes : (κs : _) (a : _) → OneOutcome (λ s. s.1.1.0.now) (supers-from-occ-bytes.Post κs a)
one_supers_from_occ_bytes κs a x y s t p q = (one_answer x y (p.number_is ∙ sym q.number_is), p.after_is ∙ sym q.after_is)

pub one_rank_at : (κs : _) (a : _) → OneResult (rank-at.Post κs a)
one_rank_at κs a x y s t p q = one_told_answer x y (p ∙ sym q)

pub one_lookup_no : (κs : _) (a : _) → OneResult (lookup-no.Post κs a)
one_lookup_no κs a x y s t p q = one_answer x y (p ∙ sym q)

pub one_finish_index : (κs : _) (a : _) → OneResult (finish-index.Post κs a)
one_finish_index κs a x y s t p q = one_told_answer x y (p ∙ sym q)

pub one_index_batch : (κs : _) (a : _) → OneOutcome (λ s. s.1.1.1.1.1.0.now) (index-batch.Post κs a)
one_index_batch κs a x y s t p q = (one_answer x y (p.number_is ∙ sym q.number_is), p.after_is ∙ sym q.after_is)

pub one_rank1 : (κs : _) (a : _) → OneResult (rank1.Post κs a)
one_rank1 κs a x y s t p q = one_told_answer x y (p ∙ sym q)

-- ---- the rank view's own functions: their promises are read from the clause itself, which is a fact

module _ {M : Type 1} {𝓤 : Ura M} (𝓛 : Logic 𝓤) (mem : Memory → SProp 𝓤) (run : Routine → Fun 𝓤) where
  pub new_promises : (κs : _) (a : _) (g : _) (r : RankView) (s : _) → (new.clauses 𝓛 mem run κs a).ensures g r s ≡ fact 𝓤 ((r.m ≡ a.1.1.0) × (r.occ ≡ a.0) × (r.supers ≡ a.1.0))
  new_promises κs a g r s = refl

  pub view_rank_promises : (κs : _) (a : _) (g : _) (r : Result ℕ Refusal) (s : _) → (view-rank.clauses 𝓛 mem run κs a).ensures g r s ≡ fact 𝓤 (told_answer r ≡ ranked_of a.0.m a.0.occ.now a.0.supers.now a.1.0)
  view_rank_promises κs a g r s = refl

-- ---- the builds take a slice of structs, so that theirs are read likewise

module _ {M : Type 1} {𝓤 : Ura M} (𝓛 : Logic 𝓤) (mem : Memory → SProp 𝓤) (run : Routine → Fun 𝓤) where
  pub build_assigned_promises : (κs : _) (a : _) (g : _) (r : Result Index Refusal) (s : _) → (build-assigned.clauses 𝓛 mem run κs a).ensures g r s ≡ fact 𝓤 (BuiltAssigned a.0.now a.1.0.now a.1.1.0 a.1.1.1.0.now a.1.1.1.1.0.now a.1.1.1.1.1.0.now a.1.1.1.1.1.1.0.now a.1.1.1.1.1.1.1.0.now a.1.1.1.1.1.1.1.1.0.now a.1.1.1.1.1.1.1.1.1.0.now (told_index r) s.1.1.1.0.now s.1.1.1.1.0.now s.1.1.1.1.1.0.now s.1.1.1.1.1.1.0.now s.1.1.1.1.1.1.1.0.now s.1.1.1.1.1.1.1.1.0.now s.1.1.1.1.1.1.1.1.1.0.now)
  build_assigned_promises κs a g r s = refl

  pub build_compact_promises : (κs : _) (a : _) (g : _) (r : Result Index Refusal) (s : _) → (build-compact.clauses 𝓛 mem run κs a).ensures g r s ≡ fact 𝓤 (BuiltCompact a.0.now a.1.0.now a.1.1.0.now a.1.1.1.0.now a.1.1.1.1.0.now a.1.1.1.1.1.0.now a.1.1.1.1.1.1.0.now a.1.1.1.1.1.1.1.0.now (told_index r) s.1.0.now s.1.1.0.now s.1.1.1.0.now s.1.1.1.1.0.now s.1.1.1.1.1.0.now s.1.1.1.1.1.1.0.now s.1.1.1.1.1.1.1.0.now)
  build_compact_promises κs a g r s = refl

one_built : {number : ℕ} {go : Bool} {index : Index} {need : Needs} {words table degrees xors queue : List ℕ} {order : List Pair} {marks : List ℕ} {x y : Result Index Refusal} {table₁ degrees₁ xors₁ queue₁ : List ℕ} {order₁ : List Pair} {marks₁ table₂ degrees₂ xors₂ queue₂ : List ℕ} {order₂ : List Pair} {marks₂ : List ℕ}
    → BuiltTo number go index need words table degrees xors queue order marks (told_index x) table₁ degrees₁ xors₁ queue₁ order₁ marks₁ → BuiltTo number go index need words table degrees xors queue order marks (told_index y) table₂ degrees₂ xors₂ queue₂ order₂ marks₂
    → (x ≡ y) × (table₁ ≡ table₂) × (degrees₁ ≡ degrees₂) × (xors₁ ≡ xors₂) × (queue₁ ≡ queue₂) × (order₁ ≡ order₂) × (marks₁ ≡ marks₂)
one_built {x = x} {y = y} p q =
    (one_told_index x y (p.answer_is ∙ sym q.answer_is), p.table_is ∙ sym q.table_is, p.degrees_are ∙ sym q.degrees_are, p.xors_are ∙ sym q.xors_are, p.queue_is ∙ sym q.queue_is, p.order_is ∙ sym q.order_is, p.marks_are ∙ sym q.marks_are)

pub one_build_assigned : {keys values : List ℕ} {modulus : ℕ} {table degrees xors queue : List ℕ} {order : List Pair} {marks seen : List ℕ} {x y : Result Index Refusal} {table₁ degrees₁ xors₁ queue₁ : List ℕ} {order₁ : List Pair} {marks₁ seen₁ table₂ degrees₂ xors₂ queue₂ : List ℕ} {order₂ : List Pair} {marks₂ seen₂ : List ℕ}
    → BuiltAssigned keys values modulus table degrees xors queue order marks seen (told_index x) table₁ degrees₁ xors₁ queue₁ order₁ marks₁ seen₁ → BuiltAssigned keys values modulus table degrees xors queue order marks seen (told_index y) table₂ degrees₂ xors₂ queue₂ order₂ marks₂ seen₂
    → ((x ≡ y) × (table₁ ≡ table₂) × (degrees₁ ≡ degrees₂) × (xors₁ ≡ xors₂) × (queue₁ ≡ queue₂) × (order₁ ≡ order₂) × (marks₁ ≡ marks₂)) × (seen₁ ≡ seen₂)
one_build_assigned p q = (one_built p.to q.to, p.seen_is ∙ sym q.seen_is)

pub one_build_compact : {keys table occupancy degrees xors queue : List ℕ} {order : List Pair} {marks : List ℕ} {x y : Result Index Refusal} {table₁ occupancy₁ degrees₁ xors₁ queue₁ : List ℕ} {order₁ : List Pair} {marks₁ table₂ occupancy₂ degrees₂ xors₂ queue₂ : List ℕ} {order₂ : List Pair} {marks₂ : List ℕ}
    → BuiltCompact keys table occupancy degrees xors queue order marks (told_index x) table₁ occupancy₁ degrees₁ xors₁ queue₁ order₁ marks₁ → BuiltCompact keys table occupancy degrees xors queue order marks (told_index y) table₂ occupancy₂ degrees₂ xors₂ queue₂ order₂ marks₂
    → ((x ≡ y) × (table₁ ≡ table₂) × (degrees₁ ≡ degrees₂) × (xors₁ ≡ xors₂) × (queue₁ ≡ queue₂) × (order₁ ≡ order₂) × (marks₁ ≡ marks₂)) × (occupancy₁ ≡ occupancy₂)
one_build_compact p q = (one_built p.to q.to, p.occupancy_is ∙ sym q.occupancy_is)

-- the owners of their pairs take plain slices
pub one_build_assigned_small : (κs : _) (a : _) → OneOutcome (λ s. (s.1.1.1.0.now ∷ s.1.1.1.1.0.now ∷ s.1.1.1.1.1.0.now ∷ s.1.1.1.1.1.1.0.now ∷ s.1.1.1.1.1.1.1.0.now ∷ s.1.1.1.1.1.1.1.1.0.now ∷ [])) (build-assigned-small.Post κs a)
one_build_assigned_small κs a x y s t p q =
    (one_told_index x y (p.to.answer_is ∙ sym q.to.answer_is), rw (p.to.table_is, p.to.degrees_are, p.to.xors_are, p.to.queue_is, p.to.marks_are, p.seen_is, q.to.table_is, q.to.degrees_are, q.to.xors_are, q.to.queue_is, q.to.marks_are, q.seen_is))

pub one_build_compact_small : (κs : _) (a : _) → OneOutcome (λ s. (s.1.0.now ∷ s.1.1.0.now ∷ s.1.1.1.0.now ∷ s.1.1.1.1.0.now ∷ s.1.1.1.1.1.0.now ∷ s.1.1.1.1.1.1.0.now ∷ [])) (build-compact-small.Post κs a)
one_build_compact_small κs a x y s t p q =
    (one_told_index x y (p.to.answer_is ∙ sym q.to.answer_is), rw (p.to.table_is, p.occupancy_is, p.to.degrees_are, p.to.xors_are, p.to.queue_is, p.to.marks_are, q.to.table_is, q.occupancy_is, q.to.degrees_are, q.to.xors_are, q.to.queue_is, q.to.marks_are))

pub one_new : (m : ℕ) (occ supers : Bor (List ℕ)) (x y : RankView) → (x.m ≡ m) × (x.occ ≡ occ) × (x.supers ≡ supers) → (y.m ≡ m) × (y.occ ≡ occ) × (y.supers ≡ supers) → x ≡ y
one_new m occ supers x y p q = λ i. record { m = (p.0 ∙ sym q.0) i; occ = (p.1 ∙ sym q.1) i; supers = (p.2 ∙ sym q.2) i }

pub one_view_rank : (view : RankView) (v : ℕ) (x y : Result ℕ Refusal) → told_answer x ≡ ranked_of view.m view.occ.now view.supers.now v → told_answer y ≡ ranked_of view.m view.occ.now view.supers.now v → x ≡ y
one_view_rank view v x y p q = one_told_answer x y (p ∙ sym q)
