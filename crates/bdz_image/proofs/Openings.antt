-- Both openers are one, by kind. Assumes nothing.
use Rattle.std.proofs.Common.{◌≡◌, ℕ, List, not, eqb, ltb, refl}
use Rattle.bdz_base.specs.Refusal.{refuse, accept}
use Rattle.bdz_base.specs.declared.verts.Kind.{Kind}
use Rattle.bdz_base.specs.declared.verts.Kind.TheVariants.{Assigned, Compact}
use Rattle.bdz_image.specs.Image.{magic_of, size_of}
use Rattle.bdz_image.specs.Open.{opened_m, opened_width, lacks_width, kind_lacks_modulus, packed_no, compact_no, header_no, packed_index, compact_index, opened_by, open_packed, open_compact}
use Rattle.bdz_image.specs.declared.header.Header.{Header}

-- one cascade for both
pub header_cascade : (kind : Kind) (h : Header) (len : ℕ) → header_no kind h len ≡
    refuse 8 (not (eqb h.magic (magic_of kind)))
    (refuse 9 (not (eqb h.version 1))
    (refuse 10 (lacks_width kind h.width)
    (accept (eqb h.n 0)
    (refuse 11 (kind_lacks_modulus kind h)
    (refuse 7 (ltb len (size_of kind (opened_width kind h.width) (opened_m h.n h.m)))
    0)))))
unfolding packed_no compact_no
header_cascade Assigned h len = refl
header_cascade Compact h len = refl

pub packed_by : (first : List ℕ) (len : ℕ) → opened_by 6 Assigned first len ≡ open_packed first len
unfolding open_packed packed_index
packed_by first len = refl

pub compact_by : (first : List ℕ) (len : ℕ) → opened_by 7 Compact first len ≡ open_compact first len
unfolding open_compact compact_index
compact_by first len = refl
