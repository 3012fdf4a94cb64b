-- Each exported promise leaves one answer. Assumes nothing.
use mathlib.Core.List.{[], ◌∷◌}
use mathlib.Core.Path.{◌≡◌, refl, sym, ◌∙◌}
use seplogic.Ra.Ura.{Ura}
use base.Logic.{SProp}
use prog.Memory.{Memory}
use prog.Routine.{Routine}
use types.Logic.{Logic}
use contract.Monad.{Fun, fact}
use Rattle.bdz_base.proofs.OneAnswer.{OneResult, OneOutcome}
use Rattle.bdz_oracle.proofs.hashing.bdz_splitmix64.Reads as bdz-splitmix64
use Rattle.bdz_oracle.proofs.hashing.bdz_splitmix64_state.Reads as bdz-splitmix64-state
use Rattle.bdz_oracle.proofs.hashing.bdz_mix64.Reads as bdz-mix64
use Rattle.bdz_oracle.proofs.hashing.bdz_high_product.Reads as bdz-high-product
use Rattle.bdz_oracle.proofs.hashing.bdz_vertex_count.Reads as bdz-vertex-count
use Rattle.bdz_oracle.proofs.hashing.bdz_compact_vertex_count.Reads as bdz-compact-vertex-count
use Rattle.bdz_oracle.proofs.hashing.bdz_g_bits_for_modulus.Reads as bdz-g-bits-for-modulus
use Rattle.bdz_oracle.proofs.hashing.bdz_packed_g_bytes.Reads as bdz-packed-g-bytes
use Rattle.bdz_oracle.proofs.hashing.bdz_occ_packed_bytes.Reads as bdz-occ-packed-bytes
use Rattle.bdz_oracle.proofs.hashing.bdz_super_count.Reads as bdz-super-count
use Rattle.bdz_oracle.proofs.packing.bdz_extract_g_window.Reads as bdz-extract-g-window
use Rattle.bdz_oracle.proofs.packing.bdz_unpack_g_at.Reads as bdz-unpack-g-at
use Rattle.bdz_oracle.proofs.hashing.bdz_hash_verts.Reads as bdz-hash-verts
use Rattle.bdz_oracle.proofs.feeding.bdz_feed_ask.Reads as bdz-feed-ask
use Rattle.bdz_oracle.proofs.feeding.bdz_feed_page.Reads as bdz-feed-page
use Rattle.bdz_oracle.proofs.feeding.bdz_feed_start.Reads as bdz-feed-start
use Rattle.bdz_oracle.proofs.feeding.bdz_g_page_need.Reads as bdz-g-page-need
use Rattle.bdz_oracle.proofs.imaging.bdz_audit.Reads as bdz-audit
use Rattle.bdz_oracle.proofs.imaging.bdz_image_len.Reads as bdz-image-len
use Rattle.bdz_oracle.proofs.imaging.bdz_open_compact.Reads as bdz-open-compact
use Rattle.bdz_oracle.proofs.imaging.bdz_open_packed.Reads as bdz-open-packed
use Rattle.bdz_oracle.proofs.imaging.bdz_body_off.Reads as bdz-body-off
use Rattle.bdz_oracle.proofs.imaging.bdz_end_off.Reads as bdz-end-off
use Rattle.bdz_oracle.proofs.imaging.bdz_occ_off.Reads as bdz-occ-off
use Rattle.bdz_oracle.proofs.imaging.bdz_trailer_off.Reads as bdz-trailer-off
use Rattle.bdz_oracle.proofs.imaging.bdz_write_image.Reads as bdz-write-image
use Rattle.bdz_oracle.proofs.listing.bdz_read_list.Reads as bdz-read-list
use Rattle.bdz_oracle.proofs.looking.bdz_index_batch.Reads as bdz-index-batch
use Rattle.bdz_oracle.proofs.looking.bdz_index_words.Reads as bdz-index-words
use Rattle.bdz_oracle.proofs.looking.bdz_popcount_bits.Reads as bdz-popcount-bits
use Rattle.bdz_oracle.proofs.looking.bdz_rank1.Reads as bdz-rank1
use Rattle.bdz_oracle.proofs.looking.bdz_rank1_no.Reads as bdz-rank1-no
use Rattle.bdz_oracle.proofs.looking.bdz_supers_from_occ_bytes.Reads as bdz-supers-from-occ-bytes
use Rattle.bdz_oracle.proofs.packing.bdz_pack_g.Reads as bdz-pack-g
use Rattle.bdz_oracle.proofs.packing.bdz_unpack_g.Reads as bdz-unpack-g
use Rattle.bdz_oracle.specs.Building.{ToldAssigned, ToldCompact}
use Rattle.bdz_oracle.specs.contracts.building.bdz_build_assigned as bdz-build-assigned
use Rattle.bdz_oracle.specs.contracts.building.bdz_build_compact as bdz-build-compact

pub one_bdz_splitmix64 : (κs : _) (a : _) → OneResult (bdz-splitmix64.Post κs a)
one_bdz_splitmix64 κs a x y s t p q = p ∙ sym q

pub one_bdz_splitmix64_state : (κs : _) (a : _) → OneResult (bdz-splitmix64-state.Post κs a)
one_bdz_splitmix64_state κs a x y s t p q = p ∙ sym q

pub one_bdz_mix64 : (κs : _) (a : _) → OneResult (bdz-mix64.Post κs a)
one_bdz_mix64 κs a x y s t p q = p ∙ sym q

pub one_bdz_high_product : (κs : _) (a : _) → OneResult (bdz-high-product.Post κs a)
one_bdz_high_product κs a x y s t p q = p ∙ sym q

pub one_bdz_vertex_count : (κs : _) (a : _) → OneResult (bdz-vertex-count.Post κs a)
one_bdz_vertex_count κs a x y s t p q = p ∙ sym q

pub one_bdz_compact_vertex_count : (κs : _) (a : _) → OneResult (bdz-compact-vertex-count.Post κs a)
one_bdz_compact_vertex_count κs a x y s t p q = p ∙ sym q

pub one_bdz_g_bits_for_modulus : (κs : _) (a : _) → OneResult (bdz-g-bits-for-modulus.Post κs a)
one_bdz_g_bits_for_modulus κs a x y s t p q = p ∙ sym q

pub one_bdz_packed_g_bytes : (κs : _) (a : _) → OneResult (bdz-packed-g-bytes.Post κs a)
one_bdz_packed_g_bytes κs a x y s t p q = p ∙ sym q

pub one_bdz_occ_packed_bytes : (κs : _) (a : _) → OneResult (bdz-occ-packed-bytes.Post κs a)
one_bdz_occ_packed_bytes κs a x y s t p q = p ∙ sym q

pub one_bdz_super_count : (κs : _) (a : _) → OneResult (bdz-super-count.Post κs a)
one_bdz_super_count κs a x y s t p q = p ∙ sym q

pub one_bdz_extract_g_window : (κs : _) (a : _) → OneResult (bdz-extract-g-window.Post κs a)
one_bdz_extract_g_window κs a x y s t p q = p ∙ sym q

pub one_bdz_unpack_g_at : (κs : _) (a : _) → OneResult (bdz-unpack-g-at.Post κs a)
one_bdz_unpack_g_at κs a x y s t p q = p ∙ sym q

pub one_bdz_hash_verts : (κs : _) (a : _) → OneOutcome (λ s. s.1.1.1.1.0.now) (bdz-hash-verts.Post κs a)
one_bdz_hash_verts κs a x y s t p q = (p.number_is ∙ sym q.number_is, p.after_is ∙ sym q.after_is)

pub one_bdz_pack_g : (κs : _) (a : _) → OneOutcome (λ s. s.1.1.0.now) (bdz-pack-g.Post κs a)
one_bdz_pack_g κs a x y s t p q = (p.number_is ∙ sym q.number_is, p.after_is ∙ sym q.after_is)

pub one_bdz_unpack_g : (κs : _) (a : _) → OneOutcome (λ s. s.1.1.0.now) (bdz-unpack-g.Post κs a)
one_bdz_unpack_g κs a x y s t p q = (refl, p ∙ sym q)

pub one_bdz_popcount_bits : (κs : _) (a : _) → OneResult (bdz-popcount-bits.Post κs a)
one_bdz_popcount_bits κs a x y s t p q = p ∙ sym q

pub one_bdz_supers_from_occ_bytes : (κs : _) (a : _) → OneOutcome (λ s. s.1.1.0.now) (bdz-supers-from-occ-bytes.Post κs a)
one_bdz_supers_from_occ_bytes κs a x y s t p q = (p.number_is ∙ sym q.number_is, p.after_is ∙ sym q.after_is)

pub one_bdz_rank1 : (κs : _) (a : _) → OneResult (bdz-rank1.Post κs a)
one_bdz_rank1 κs a x y s t p q = p ∙ sym q

pub one_bdz_rank1_no : (κs : _) (a : _) → OneResult (bdz-rank1-no.Post κs a)
one_bdz_rank1_no κs a x y s t p q = p ∙ sym q

pub one_bdz_index_batch : (κs : _) (a : _) → OneOutcome (λ s. (s.1.1.1.1.1.1.1.1.1.0.now ∷ s.1.1.1.1.1.1.1.1.1.1.0.now ∷ [])) (bdz-index-batch.Post κs a)
one_bdz_index_batch κs a x y s t p q = (p.number_is ∙ sym q.number_is, rw (p.key_room_is, p.out_is, q.key_room_is, q.out_is, p.number_is, q.number_is))

pub one_bdz_index_words : (κs : _) (a : _) → OneOutcome (λ s. s.1.1.1.1.1.1.1.1.1.0.now) (bdz-index-words.Post κs a)
one_bdz_index_words κs a x y s t p q = (p.number_is ∙ sym q.number_is, p.after_is ∙ sym q.after_is)

pub one_bdz_image_len : (κs : _) (a : _) → OneResult (bdz-image-len.Post κs a)
one_bdz_image_len κs a x y s t p q = p ∙ sym q

pub one_bdz_body_off : (κs : _) (a : _) → OneResult (bdz-body-off.Post κs a)
one_bdz_body_off κs a x y s t p q = p ∙ sym q

pub one_bdz_occ_off : (κs : _) (a : _) → OneResult (bdz-occ-off.Post κs a)
one_bdz_occ_off κs a x y s t p q = p ∙ sym q

pub one_bdz_end_off : (κs : _) (a : _) → OneResult (bdz-end-off.Post κs a)
one_bdz_end_off κs a x y s t p q = p ∙ sym q

pub one_bdz_trailer_off : (κs : _) (a : _) → OneResult (bdz-trailer-off.Post κs a)
one_bdz_trailer_off κs a x y s t p q = p ∙ sym q

pub one_bdz_write_image : (κs : _) (a : _) → OneOutcome (λ s. s.1.1.1.1.1.1.1.0.now) (bdz-write-image.Post κs a)
one_bdz_write_image κs a x y s t p q = (p.number_is ∙ sym q.number_is, p.after_is ∙ sym q.after_is)

pub one_bdz_open_packed : (κs : _) (a : _) → OneOutcome (λ s. s.1.1.0.now) (bdz-open-packed.Post κs a)
one_bdz_open_packed κs a x y s t p q = (p.number_is ∙ sym q.number_is, p.answer_is ∙ sym q.answer_is)

pub one_bdz_open_compact : (κs : _) (a : _) → OneOutcome (λ s. s.1.1.0.now) (bdz-open-compact.Post κs a)
one_bdz_open_compact κs a x y s t p q = (p.number_is ∙ sym q.number_is, p.answer_is ∙ sym q.answer_is)

pub one_bdz_audit : (κs : _) (a : _) → OneOutcome (λ s. s.1.1.1.0.now) (bdz-audit.Post κs a)
one_bdz_audit κs a x y s t p q = (p.number_is ∙ sym q.number_is, p.answer_is ∙ sym q.answer_is)

pub one_bdz_g_page_need : (κs : _) (a : _) → OneResult (bdz-g-page-need.Post κs a)
one_bdz_g_page_need κs a x y s t p q = p ∙ sym q

pub one_bdz_feed_start : (κs : _) (a : _) → OneOutcome (λ s. (s.1.1.1.1.1.1.1.1.0.now ∷ s.1.1.1.1.1.1.1.1.1.0.now ∷ s.1.1.1.1.1.1.1.1.1.1.0.now ∷ s.1.1.1.1.1.1.1.1.1.1.1.0.now ∷ s.1.1.1.1.1.1.1.1.1.1.1.1.0.now ∷ [])) (bdz-feed-start.Post κs a)
one_bdz_feed_start κs a x y s t p q =
    (p.number_is ∙ sym q.number_is, rw (p.key_room_is, p.order_is, p.slots_are, p.pages_are, p.told_is, q.key_room_is, q.order_is, q.slots_are, q.pages_are, q.told_is, p.number_is, q.number_is))

pub one_bdz_feed_page : (κs : _) (a : _) → OneOutcome (λ s. s.1.1.1.1.1.1.1.1.1.1.0.now) (bdz-feed-page.Post κs a)
one_bdz_feed_page κs a x y s t p q = (p.number_is ∙ sym q.number_is, p.slots_are ∙ sym q.slots_are)

pub one_bdz_feed_ask : (κs : _) (a : _) → OneOutcome (λ s. s.1.1.1.1.1.1.1.1.1.1.1.1.0.now) (bdz-feed-ask.Post κs a)
one_bdz_feed_ask κs a x y s t p q = (p.number_is ∙ sym q.number_is, p.answer_is ∙ sym q.answer_is)

pub one_bdz_read_list : (κs : _) (a : _) → OneOutcome (λ s. (s.1.0.now ∷ s.1.1.0.now ∷ s.1.1.1.0.now ∷ [])) (bdz-read-list.Post κs a)
one_bdz_read_list κs a x y s t p q =
    (p.number_is ∙ sym q.number_is, rw (p.keys_are, p.values_are, p.told_is, q.keys_are, q.values_are, q.told_is))

-- the builds take a slice of structs, so that their promises are read from the clause itself; OneTold has what follows from them
module _ {M : Type 1} {𝓤 : Ura M} (𝓛 : Logic 𝓤) (mem : Memory → SProp 𝓤) (run : Routine → Fun 𝓤) where
  pub bdz_build_assigned_promises : (κs : _) (a : _) (g : _) (r : _) (s : _) → (bdz-build-assigned.clauses 𝓛 mem run κs a).ensures g r s ≡ fact 𝓤 (ToldAssigned a.0.now a.1.0.now a.1.1.0 a.1.1.1.0.now a.1.1.1.1.0.now a.1.1.1.1.1.0.now a.1.1.1.1.1.1.0.now a.1.1.1.1.1.1.1.0.now a.1.1.1.1.1.1.1.1.0.now a.1.1.1.1.1.1.1.1.1.0.now a.1.1.1.1.1.1.1.1.1.1.0.now a.1.1.1.1.1.1.1.1.1.1.1.0.now s.1.1.1.0.now s.1.1.1.1.0.now s.1.1.1.1.1.0.now s.1.1.1.1.1.1.0.now s.1.1.1.1.1.1.1.0.now s.1.1.1.1.1.1.1.1.0.now s.1.1.1.1.1.1.1.1.1.0.now s.1.1.1.1.1.1.1.1.1.1.0.now s.1.1.1.1.1.1.1.1.1.1.1.0.now s.1.1.1.1.1.1.1.1.1.1.1.1.0.now)
  bdz_build_assigned_promises κs a g r s = refl

  pub bdz_build_compact_promises : (κs : _) (a : _) (g : _) (r : _) (s : _) → (bdz-build-compact.clauses 𝓛 mem run κs a).ensures g r s ≡ fact 𝓤 (ToldCompact a.0.now a.1.0.now a.1.1.0.now a.1.1.1.0.now a.1.1.1.1.0.now a.1.1.1.1.1.0.now a.1.1.1.1.1.1.0.now a.1.1.1.1.1.1.1.0.now a.1.1.1.1.1.1.1.1.0.now s.1.0.now s.1.1.0.now s.1.1.1.0.now s.1.1.1.1.0.now s.1.1.1.1.1.0.now s.1.1.1.1.1.1.0.now s.1.1.1.1.1.1.1.0.now s.1.1.1.1.1.1.1.1.0.now s.1.1.1.1.1.1.1.1.1.0.now)
  bdz_build_compact_promises κs a g r s = refl
