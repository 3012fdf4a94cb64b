-- The parts of an opened image lie within its file, whatever width its header has; those of a written image are where the writer put
-- them. Assumes nothing.
use mathlib.Core.Path.{◌≡◌, refl}
use mathlib.Core.Bool.{Bool, true, false, cond, not, ◌||◌}
use mathlib.Core.List.{List}
use mathlib.Core.Logic.{⊎_elim}
use Prim.Native.Nat.{ℕ, ◌≤◌}
use native.Mathlib.Nat.{zero-mul}
use borrow.Author.Tests.{ltb-false}
use lib.Dec.{eqb, ltb}
use lib.ListN.{length}
use Rattle.bdz_base.specs.Refusal.{refuse, accept}
use Rattle.bdz_base.specs.declared.verts.Kind.{Kind}
use Rattle.bdz_base.specs.declared.verts.Kind.TheVariants.{Assigned, Compact}
use Rattle.bdz_table.specs.declared.index.Index.{Index}
use Rattle.bdz_table.proofs.Answered.{built}
use Rattle.bdz_table.proofs.Begun.{refuse_none, accept_none}
use Rattle.bdz_table.proofs.Has.{lt_or_ge}
use Rattle.bdz_image.specs.declared.header.Header.{Header}
use Rattle.bdz_image.specs.Header.{header_at}
use Rattle.bdz_image.specs.Image.{magic_of, words_in, size_of, image_len}
use Rattle.bdz_image.specs.Open.{opened_m, lacks_modulus, packed_no, compact_no, packed_index, compact_index, open_file}
use Rattle.bdz_image.specs.Parts.{end_off}
use Rattle.bdz_image.proofs.Judged.{number_by, index_by, open_long, open_short}
use Rattle.bdz_image.proofs.Made.{Made}

-- no keys have no words and need the header alone; else the test of 7 has passed
fits : (kind : Kind) (w n m len : ℕ) → 32 ≤ len → (eqb n 0 ≡ false → ltb len (size_of kind w (opened_m n m)) ≡ false) → size_of kind w (words_in n (opened_m n m)) ≤ len
fits kind w n m len h passed = go (eqb n 0) refl
  where
    none : (kind : Kind) → size_of kind w 0 ≤ len
    none Assigned = rw (zero-mul w) h
    none Compact = rw (zero-mul w) h

    go : (b : Bool) → eqb n 0 ≡ b → size_of kind w (cond b 0 (opened_m n m)) ≤ len
    go true t = none kind
    go false t = ltb-false len (size_of kind w (opened_m n m)) (passed t)

-- the last test of an opening that is accepted and has keys; only BDZ2 has the test of 11
passed : (a b c d e f : Bool) → refuse 8 a (refuse 9 b (refuse 10 c (accept d (refuse 11 e (refuse 7 f 0))))) ≡ 0 → d ≡ false → f ≡ false
passed a b c d e f z t =
    let inner = refuse 11 e (refuse 7 f 0) in
    let version = (refuse_none 7 a (refuse 9 b (refuse 10 c (accept d inner))) z).1 in
    let width = (refuse_none 8 b (refuse 10 c (accept d inner)) version).1 in
    let keys = accept_none d inner t (refuse_none 9 c (accept d inner) width).1 in
    (refuse_none 6 f 0 (refuse_none 10 e (refuse 7 f 0) keys).1).0

within : (kind : Kind) (h : Header) (len : ℕ) → 32 ≤ len → number_by kind h len ≡ 0 → end_off (index_by kind h) ≤ len
unfolding packed_no compact_no packed_index compact_index end_off
within Assigned h len l e =
    let size = size_of Assigned h.width (opened_m h.n h.m) in
    fits Assigned h.width h.n h.m len l
    (passed (not (eqb h.magic (magic_of Assigned))) (not (eqb h.version 1)) (eqb h.width 0 || ltb 32 h.width) (eqb h.n 0) (lacks_modulus h.n h.m h.modulus) (ltb len size) e)
within Compact h len l e =
    let size = size_of Compact 2 (opened_m h.n h.m) in
    fits Compact 2 h.n h.m len l
    (passed (not (eqb h.magic (magic_of Compact))) (not (eqb h.version 1)) (not (eqb h.width 2)) (eqb h.n 0) false (ltb len size) e)

-- a file that opens holds all parts of its image
pub parts_within : (kind : Kind) (file : List ℕ) → (open_file kind file).no ≡ 0 → end_off (open_file kind file).index ≤ length file
parts_within kind file e = ⊎_elim (λ h. absurd (open_short kind file h e)) long (lt_or_ge (length file) 32)
  where
    long : 32 ≤ length file → end_off (open_file kind file).index ≤ length file
    long h =
        let number = number_by kind (header_at file) (length file) in
        let index = index_by kind (header_at file) in
        let is = built number index (open_file kind file) (open_long kind file h) e in
        rw is.1 (within kind (header_at file) (length file) h is.0)

-- and the parts of an image that a build made are the writer's
pub parts_written : {index : Index} {table occ : List ℕ} → Made index table occ → end_off index ≡ image_len index
unfolding end_off image_len
parts_written {index} made = rw made.width
