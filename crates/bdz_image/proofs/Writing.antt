-- What the writer's steps come to: bytes copied, words packed into a part of their own, and three parts of one buffer
-- lent one after the other. Assumes nothing.
use Rattle.std.proofs.Common.{◌≡◌, refl, sym, ap, ap₂, ◌∙◌, List, [], ◌∷◌, ◌++◌, append_assoc, append-nil, ℕ, zero, suc}
use Rattle.std.proofs.Common.{◌+◌, ◌-◌, ◌≤◌, arith, ne_eqb, le-ltb, ltb-false, ltb, length, get_or, take, drop}
use Rattle.std.proofs.Common.{length-append, drop_of_length-le, take_at, drop_at, drop-drop, length-take-le}
use lib.Seq.{take-suc, take-length}
use native.Mathlib.Nat.{sub-zero}
use borrow.Rule.Slice.PartMut.{put_mid, post_of}
use Rattle.bdz_base.specs.Buffer.{tab, over}
use Rattle.bdz_base.specs.Pack.{pack_of, pack_no, after_pack, Packed}
use Rattle.bdz_base.specs.Sizes.{table_bytes}
use Rattle.bdz_base.specs.declared.verts.Kind.{Kind}
use Rattle.bdz_base.specs.declared.verts.Kind.TheVariants.{Assigned, Compact}
use Rattle.bdz_base.proofs.Digits.{length_packed}
use Rattle.bdz_base.proofs.WidthLaws.{width_le, width_pos}
use Rattle.bdz_table.specs.Build.{width_for}
use Rattle.bdz_table.specs.declared.index.Index.{Index}
use Rattle.bdz_table.proofs.Begun.{refuse_none}
use Rattle.bdz_image.specs.declared.header.Header.{Header}
use Rattle.bdz_image.specs.Header.{header_bytes}
use Rattle.bdz_image.specs.Image.{words_in, occ_in, header_of, body_of, image_of, image_len}
use Rattle.bdz_image.specs.Write.{write_no}
use Rattle.bdz_image.proofs.Fields.{length_header}

-- ---- a list by its elements

tab_take : (xs : List ℕ) (n : ℕ) → n ≤ length xs → tab (λ i. get_or xs i 0) n ≡ take n xs
unfolding tab
tab_take xs zero h = refl
tab_take xs (suc n) h =
    ap (λ (l : List ℕ). l ++ (get_or xs n 0 ∷ [])) (tab_take xs n (omega arith)) ∙ sym (take-suc xs n 0 (omega arith))

pub tab_self : (xs : List ℕ) → tab (λ i. get_or xs i 0) (length xs) ≡ xs
tab_self xs = tab_take xs (length xs) (omega arith) ∙ take-length xs

-- ---- sizes

pub width_for_le : (kind : Kind) (modulus : ℕ) → (1 ≤ width_for kind modulus) × (width_for kind modulus ≤ 32)
width_for_le Assigned modulus = (width_pos modulus, width_le modulus)
width_for_le Compact modulus = (omega arith, omega arith)

-- ---- words packed into a part that is just as long as they need

pub packed_whole : (w : ℕ) (words body : List ℕ) {number : ℕ} {after : List ℕ} → Packed w words body number after → 1 ≤ w → w ≤ 32 → length body ≡ table_bytes w (length words) → after ≡ pack_of w words
unfolding pack_no after_pack
packed_whole w words body p h k l =
    let short : length body ≤ length (pack_of w words) = omega (arith, length_packed w words) in
    let rest : drop (length (pack_of w words)) body ≡ [] = drop_of_length-le body short in
    p.after_is ∙ rw (ne_eqb w 0 (omega arith), le-ltb 32 w k, le-ltb (length body) (table_bytes w (length words)) (omega arith), rest) (append-nil (pack_of w words))

-- and they are not refused
pub packed_accepted : (w : ℕ) (words body : List ℕ) {number : ℕ} {after : List ℕ} → Packed w words body number after → 1 ≤ w → w ≤ 32 → length body ≡ table_bytes w (length words) → number ≡ 0
unfolding pack_no
packed_accepted w words body p h k l =
    p.number_is ∙ rw (ne_eqb w 0 (omega arith), le-ltb 32 w k, le-ltb (length body) (table_bytes w (length words)) (omega arith))

-- ---- parts

-- a part that starts at the start
pub from_start : (k : ℕ) (xs : List ℕ) → take (k - 0) xs ≡ take k xs
from_start k xs = ap (λ (j : ℕ). take j xs) (sub-zero k)

pub length_part : (k : ℕ) (xs : List ℕ) → k ≤ length xs → length (take (k - 0) xs) ≡ k
length_part k xs h = ap length (from_start k xs) ∙ length-take-le k xs h

-- a part in the middle of a list whose start is known
mid : (a k : ℕ) (pre xs ys : List ℕ) → length pre ≡ a → put_mid a k (pre ++ xs) ys ≡ pre ++ (ys ++ drop k xs)
mid a k pre xs ys e =
    ap (λ (l : List ℕ). l ++ (ys ++ drop k (drop a (pre ++ xs)))) (take_at pre xs a e)
    ∙ ap (λ (l : List ℕ). pre ++ (ys ++ drop k l)) (drop_at pre xs a e)

-- what stands in the buffer after the header and the table
abbrev pub after₂ : List ℕ → List ℕ → List ℕ → ℕ → List ℕ
after₂ xs h p n = put_mid 32 (32 + n - 32) (h ++ post_of 0 32 xs) p

-- the header, the packed table and the occupancy, lent one after the other
pub three_parts : (xs h p c occ : List ℕ) (n : ℕ) → length h ≡ 32 → length p ≡ n → c ≡ occ
    → put_mid (32 + n) (32 + n + length occ - (32 + n)) (after₂ xs h p n) c
    ≡ h ++ (p ++ (occ ++ drop (32 + n + length occ) xs))
three_parts xs h p c occ n lh lp e =
    ap₂ (λ (k : ℕ) (l : List ℕ). put_mid (32 + n) k l c) (less (32 + n) (length occ)) two
    ∙ mid (32 + n) (length occ) (h ++ p) rest c front ∙ append_assoc h p (c ++ drop (length occ) rest)
    ∙ ap₂ (λ (l m : List ℕ). h ++ (p ++ (l ++ m))) e (drop-drop (length occ) (32 + n) xs)
  where
    back : (k : ℕ) → 32 + (32 + k - 32) ≡ 32 + k
    back k = omega arith

    less : (a b : ℕ) → a + b - a ≡ b
    less a b = omega arith

    rest : List ℕ
    rest = drop (32 + n) xs

    front : length (h ++ p) ≡ 32 + n
    front = length-append h p ∙ ap₂ (λ (a b : ℕ). a + b) lh lp

    two : after₂ xs h p n ≡ (h ++ p) ++ rest
    two =
        mid 32 (32 + n - 32) h (drop 32 xs) p lh
        ∙ ap (λ (l : List ℕ). h ++ (p ++ l)) (drop-drop (32 + n - 32) 32 xs ∙ ap (λ (k : ℕ). drop k xs) (back n))
        ∙ sym (append_assoc h p rest)

-- ---- the whole writer

-- what is lent suffices where nothing is refused
pub write_passed : (index : Index) (table occ image : ℕ) → write_no index table occ image ≡ 0
    → (occ_in index.kind (words_in index.n index.m) ≤ occ) × (words_in index.n index.m ≤ table) × (image_len index ≤ image)
unfolding write_no
write_passed index table occ image e =
    let words = words_in index.n index.m in
    let a = refuse_none 11 (ltb occ (occ_in index.kind words)) _ e in
    let b = refuse_none 13 (ltb table words) _ a.1 in
    let c = refuse_none 13 (ltb image (image_len index)) 0 b.1 in
    (ltb-false occ (occ_in index.kind words) a.0, ltb-false table words b.0, ltb-false image (image_len index) c.0)

-- header, packed table and occupancy are the image, and past it nothing has changed
pub image_filled : (index : Index) (table occ image : List ℕ) {words bytes width room : ℕ} {h : Header} {after : List ℕ}
    → words ≡ words_in index.n index.m → bytes ≡ occ_in index.kind words → width ≡ width_for index.kind index.modulus
    → room ≡ table_bytes width words → h ≡ header_of index → bytes ≤ length occ → words ≤ length table
    → after ≡ header_bytes h ++ (pack_of width (take (words - 0) table) ++ (take (bytes - 0) occ ++ drop (32 + room + length (take (bytes - 0) occ)) image))
    → after ≡ over (image_of index table occ) image
unfolding image_of body_of
image_filled index table occ image {words} {bytes} {width} {room} {h} {after} ws bs wd r hd o t is =
    let front = pack_of width (take words table) in
    let back = take bytes occ in
    let packed : length front ≡ room = length_packed width (take words table) ∙ ap (table_bytes width) (length-take-le words table t) ∙ sym r in
    let long : length (header_bytes h ++ (front ++ back)) ≡ 32 + room + bytes =
    length-append (header_bytes h) (front ++ back) ∙ omega (arith, length_header h, length-append front back, length-take-le bytes occ o) in
    let parts : List ℕ = header_bytes h ++ (front ++ (back ++ drop (32 + room + bytes) image)) in
    let here : after ≡ parts = is ∙ rw (from_start words table, length_part bytes occ o, from_start bytes occ) in
    let whole : parts ≡ over (header_bytes h ++ (front ++ back)) image = rw long (simp append_assoc) in
    here ∙ whole ∙ rw (hd, wd, bs, ws)
