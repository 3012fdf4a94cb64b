-- A promise leaves one answer: any two outcomes that it allows coincide. Each theorem is stated of `Post`, which is the promise that
-- the source makes, as the check reads it, at any arguments. Assumes nothing.
use Rattle.std.proofs.Common.{◌≡◌, sym, ◌∙◌}
use Rattle.bdz_base.proofs.Refusals.{one_answer}
use Rattle.bdz_base.proofs.Widths.{one_told_width}
use Rattle.bdz_base.proofs.mix.mix64.Reads as mix64
use Rattle.bdz_base.proofs.mix.splitmix64.Reads as splitmix64
use Rattle.bdz_base.proofs.pack.extract_g_window.Reads as extract-g-window
use Rattle.bdz_base.proofs.pack.pack_g.Reads as pack-g
use Rattle.bdz_base.proofs.pack.unpack_g_at.Reads as unpack-g-at
use Rattle.bdz_base.proofs.refusal.refusal_text.Reads as refusal-text
use Rattle.bdz_base.proofs.size.compact_vertex_count.Reads as compact-vertex-count
use Rattle.bdz_base.proofs.size.g_bits_for_modulus.Reads as g-bits-for-modulus
use Rattle.bdz_base.proofs.size.occ_packed_bytes.Reads as occ-packed-bytes
use Rattle.bdz_base.proofs.size.packed_g_bytes.Reads as packed-g-bytes
use Rattle.bdz_base.proofs.size.super_count.Reads as super-count
use Rattle.bdz_base.proofs.size.vertex_count.Reads as vertex-count
use Rattle.bdz_base.proofs.verts.hash3.Reads as hash3
use Rattle.bdz_base.proofs.verts.hash3_partite.Reads as hash3-partite
use Rattle.bdz_base.proofs.verts.hash_verts.Reads as hash-verts
use Rattle.bdz_base.proofs.width.Width.bits.Reads as width-bits
use Rattle.bdz_base.proofs.width.Width.new.Reads as width-new
use Rattle.bdz_base.proofs.words.high_product.Reads as high_product
use Rattle.bdz_base.proofs.words.le64.Reads as le64
use Rattle.bdz_base.proofs.words.mul_high.Reads as mul-high
use Rattle.bdz_base.proofs.words.wrapping_mul64.Reads as wrapping-mul64

-- of a promise about the result: the result is the same
abbrev pub OneResult : {R S : Type 0} → (R → S → Type 0) → Type 0
OneResult {R} {S} Post = (x y : R) (s t : S) → Post x s → Post y t → x ≡ y

-- of one about the lent buffers too: so is what `after` reads of them
abbrev pub OneOutcome : {R S B : Type 0} → (S → B) → (R → S → Type 0) → Type 0
OneOutcome {R} {S} {B} after Post = (x y : R) (s t : S) → Post x s → Post y t → (x ≡ y) × (after s ≡ after t)

pub one_wrapping_mul64 : (κs : _) (a : _) → OneResult (wrapping-mul64.Post κs a)
one_wrapping_mul64 κs a x y s t p q = p ∙ sym q

pub one_high_product : (κs : _) (a : _) → OneResult (high_product.Post κs a)
one_high_product κs a x y s t p q = p ∙ sym q

pub one_mul_high : (κs : _) (a : _) → OneResult (mul-high.Post κs a)
one_mul_high κs a x y s t p q = p.0 ∙ sym q.0

pub one_le64 : (κs : _) (a : _) → OneResult (le64.Post κs a)
one_le64 κs a x y s t p q = p ∙ sym q

pub one_splitmix64 : (κs : _) (a : _) → OneResult (splitmix64.Post κs a)
one_splitmix64 κs a x y s t p q = p ∙ sym q

pub one_mix64 : (κs : _) (a : _) → OneResult (mix64.Post κs a)
one_mix64 κs a x y s t p q = p ∙ sym q

pub one_hash3 : (κs : _) (a : _) → OneResult (hash3.Post κs a)
one_hash3 κs a x y s t p q = p ∙ sym q

pub one_hash3_partite : (κs : _) (a : _) → OneResult (hash3-partite.Post κs a)
one_hash3_partite κs a x y s t p q = p ∙ sym q

pub one_hash_verts : (κs : _) (a : _) → OneResult (hash-verts.Post κs a)
one_hash_verts κs a x y s t p q = p ∙ sym q

pub one_vertex_count : (κs : _) (a : _) → OneResult (vertex-count.Post κs a)
one_vertex_count κs a x y s t p q = p ∙ sym q

pub one_compact_vertex_count : (κs : _) (a : _) → OneResult (compact-vertex-count.Post κs a)
one_compact_vertex_count κs a x y s t p q = p ∙ sym q

pub one_g_bits_for_modulus : (κs : _) (a : _) → OneResult (g-bits-for-modulus.Post κs a)
one_g_bits_for_modulus κs a x y s t p q = p ∙ sym q

pub one_packed_g_bytes : (κs : _) (a : _) → OneResult (packed-g-bytes.Post κs a)
one_packed_g_bytes κs a x y s t p q = p ∙ sym q

pub one_occ_packed_bytes : (κs : _) (a : _) → OneResult (occ-packed-bytes.Post κs a)
one_occ_packed_bytes κs a x y s t p q = p ∙ sym q

pub one_super_count : (κs : _) (a : _) → OneResult (super-count.Post κs a)
one_super_count κs a x y s t p q = p ∙ sym q

pub one_extract_g_window : (κs : _) (a : _) → OneResult (extract-g-window.Post κs a)
one_extract_g_window κs a x y s t p q = p ∙ sym q

pub one_unpack_g_at : (κs : _) (a : _) → OneResult (unpack-g-at.Post κs a)
one_unpack_g_at κs a x y s t p q = p ∙ sym q

pub one_pack_g : (κs : _) (a : _) → OneOutcome (λ s. s.1.1.0.now) (pack-g.Post κs a)
one_pack_g κs a x y s t p q = (one_answer x y (p.number_is ∙ sym q.number_is), p.after_is ∙ sym q.after_is)

pub one_refusal_text : (κs : _) (a : _) (x y : _) (s t : _) → refusal-text.Post κs a x s → refusal-text.Post κs a y t
    → x.now ≡ y.now
one_refusal_text κs a x y s t p q = p ∙ sym q

pub one_width_new : (κs : _) (a : _) → OneResult (width-new.Post κs a)
one_width_new κs a x y s t p q = one_told_width x y a.0 (p.0 ∙ sym q.0) p.1 q.1

pub one_width_bits : (κs : _) (a : _) → OneResult (width-bits.Post κs a)
one_width_bits κs a x y s t p q = p.0 ∙ sym q.0
