-- What the openers answer to the header of an index that a build made, with anything behind it: 7 for every length below the image's,
-- else the index. Assumes nothing.
use mathlib.Core.Path.{◌≡◌, refl, sym, ap, ap₂, ◌∙◌}
use mathlib.Core.Bool.{Bool, true, false, cond, ◌&&◌, ◌||◌}
use mathlib.Core.List.{List, ◌++◌}
use Prim.Native.Nat.{ℕ, ◌+◌, ◌^◌, ◌<◌, ◌≤◌}
use native.Mathlib.Nat.{le_of_lt, zero-mul}
use native.Mathlib.Omega.{arith}
use borrow.Author.Tests.{lt-ltb, le-ltb, eqb-true, ltb-true, ne_eqb}
use lib.Dec.{eqb, ltb, lit<}
use lib.ListN.{length, length-append}
use lib.Seq.{take_all, length-take-le}
use Rattle.bdz_base.specs.Refusal.{refuse, accept}
use Rattle.bdz_base.specs.Sizes.{table_bytes}
use Rattle.bdz_base.specs.Width.{width_of}
use Rattle.bdz_base.specs.declared.verts.Kind.{Kind}
use Rattle.bdz_base.specs.declared.verts.Kind.TheVariants.{Assigned, Compact}
use Rattle.bdz_base.proofs.WidthLaws.{width_le, width_pos}
use Rattle.bdz_table.specs.Build.{width_for, built_for}
use Rattle.bdz_table.specs.declared.index.Index.{Index}
use Rattle.bdz_image.specs.declared.header.Header.{Header}
use Rattle.bdz_image.specs.Header.{header_bytes, header_at}
use Rattle.bdz_image.specs.Image.{magic_of, modulus_in, words_in, size_of, header_of, image_len}
use Rattle.bdz_image.specs.Open.{opened_m, opened_seed, lacks_modulus, packed_no, compact_no, packed_index, compact_index, open_packed, open_compact, open_file}
use Rattle.bdz_image.proofs.Fields.{Fits, length_header, fields_back, fields_first}
use Rattle.bdz_image.proofs.Made.{Made}

-- ---- a file, by its length and its header

-- the refusal by the header, and the index that it tells
abbrev pub number_by : Kind → Header → ℕ → ℕ
number_by Assigned h len = packed_no h len
number_by Compact h len = compact_no h len

abbrev pub index_by : Kind → Header → Index
index_by Assigned h = packed_index h
index_by Compact h = compact_index h

pub open_long : (kind : Kind) (file : List ℕ) → 32 ≤ length file → open_file kind file ≡ built_for (number_by kind (header_at file) (length file)) (index_by kind (header_at file))
unfolding open_file open_packed open_compact
open_long Assigned file h = rw (fields_first file, length-take-le 32 file h, le-ltb (length file) 32 h)
open_long Compact file h = rw (fields_first file, length-take-le 32 file h, le-ltb (length file) 32 h)

pub open_short : (kind : Kind) (file : List ℕ) → length file < 32 → (open_file kind file).no ≡ 0 → ⊥
unfolding open_file open_packed open_compact
open_short Assigned file h = rw (take_all 32 file (le_of_lt h), lt-ltb (length file) 32 h) (λ (e : ◌≡◌ {A = ℕ} 6 0). omega arith)
open_short Compact file h = rw (take_all 32 file (le_of_lt h), lt-ltb (length file) 32 h) (λ (e : ◌≡◌ {A = ℕ} 7 0). omega arith)

pub length_headed : (h : Header) (rest : List ℕ) → length (header_bytes h ++ rest) ≡ 32 + length rest
length_headed h rest = length-append (header_bytes h) rest ∙ ap (λ (k : ℕ). k + length rest) (length_header h)

pub open_headed : (kind : Kind) (h : Header) (rest : List ℕ) → Fits h → open_file kind (header_bytes h ++ rest) ≡ built_for (number_by kind h (32 + length rest)) (index_by kind h)
open_headed kind h rest f =
    let file = header_bytes h ++ rest in
    open_long kind file (omega (arith, length_headed h rest))
    ∙ ap₂ (λ (header : Header) (len : ℕ). built_for (number_by kind header len) (index_by kind header)) (fields_back h rest f) (length_headed h rest)

-- ---- the tests, where n, m, seed and modulus are what a build gives

empty_passes : (n x : ℕ) → (n ≡ 0 → x ≡ 0) → accept (eqb n 0) x ≡ x
empty_passes n x none = go (eqb n 0) refl
  where
    go : (b : Bool) → eqb n 0 ≡ b → accept b x ≡ x
    go true t = sym (none (eqb-true n 0 t))
    go false t = refl

opened_m_lem : (n m : ℕ) → (n ≡ 0 → m ≡ 0) → (n ≡ 1 → m ≡ 1) → opened_m n m ≡ m
opened_m_lem n m none one = go (eqb n 0) (eqb n 1) refl refl
  where
    go : (a b : Bool) → eqb n 0 ≡ a → eqb n 1 ≡ b → cond a 0 (cond b 1 m) ≡ m
    go true b s t = sym (none (eqb-true n 0 s))
    go false true s t = sym (one (eqb-true n 1 t))
    go false false s t = refl

lacks_none : (n m modulus : ℕ) → (2 ≤ n → (0 < m) × (0 < modulus)) → lacks_modulus n m modulus ≡ false
lacks_none n m modulus more = go (ltb 1 n) refl
  where
    go : (b : Bool) → ltb 1 n ≡ b → (b && (eqb m 0 || eqb modulus 0)) ≡ false
    go true t =
        let some = more (ltb-true 1 n t) in
        rw (ne_eqb m 0 (omega (arith, some.0)), ne_eqb modulus 0 (omega (arith, some.1)))
    go false t = refl

no_words : (w : ℕ) → table_bytes w 0 ≡ 0
no_words w = rw (zero-mul w)

magic_fits : (kind : Kind) → magic_of kind < 2 ^ 32
magic_fits Assigned = lit< tt
magic_fits Compact = lit< tt

modulus_fits : (kind : Kind) (modulus : ℕ) → modulus < 2 ^ 32 → modulus_in kind modulus < 2 ^ 32
modulus_fits Assigned modulus h = h
modulus_fits Compact modulus h = lit< tt

pub width_fits : (kind : Kind) (modulus : ℕ) → width_for kind modulus ≤ 32
width_fits Assigned modulus = width_le modulus
width_fits Compact modulus = omega arith

-- ---- an index that a build made

module _ (index : Index) (table occ : List ℕ) (made : Made index table occ) where
  pub all_fit : Fits (header_of index)
  unfolding header_of
  all_fit =
      record {
        magic = magic_fits index.kind;
        version = lit< tt;
        n = made.n_fits;
        m = made.m_fits;
        seed = made.seed_fits;
        modulus = modulus_fits index.kind index.modulus made.modulus_fits;
        width = omega (arith, width_fits index.kind index.modulus);
      }

  -- all words of the table are held
  pub all_words : words_in index.n index.m ≡ index.m
  all_words = empty_passes index.n index.m (λ e. (made.none e).0)

  same_m : opened_m index.n index.m ≡ index.m
  same_m = opened_m_lem index.n index.m (λ e. (made.none e).0) made.one

  same_seed : opened_seed index.n index.seed ≡ index.seed
  same_seed = empty_passes index.n index.seed (λ e. (made.none e).1)

  -- 7 for every length below the image's
  abbrev pub size_no : ℕ → ℕ
  size_no len = refuse 7 (ltb len (image_len index)) 0

  packed_number : (len : ℕ) → 32 ≤ len → index.kind ≡ Assigned → packed_no (header_of index) len ≡ size_no len
  unfolding packed_no header_of image_len
  packed_number len h e =
      let w = width_of index.modulus in
      let size = size_of Assigned w index.m in
      let none : index.n ≡ 0 → refuse 7 (ltb len size) 0 ≡ 0 =
      λ z. rw ((made.none z).0, no_words w, le-ltb len 32 h) in
      rw (
        e,
        ne_eqb w 0 (omega (arith, width_pos index.modulus)),
        le-ltb 32 w (width_le index.modulus),
        lacks_none index.n index.m index.modulus made.more,
        same_m,
        all_words,
      )
      (empty_passes index.n (refuse 7 (ltb len size) 0) none)

  compact_number : (len : ℕ) → 32 ≤ len → index.kind ≡ Compact → compact_no (header_of index) len ≡ size_no len
  unfolding compact_no header_of image_len
  compact_number len h e =
      let size = size_of Compact 2 index.m in
      let none : index.n ≡ 0 → refuse 7 (ltb len size) 0 ≡ 0 = λ z. rw ((made.none z).0, le-ltb len 32 h) in
      rw (e, same_m, all_words) (empty_passes index.n (refuse 7 (ltb len size) 0) none)

  packed_index_lem : index.kind ≡ Assigned → packed_index (header_of index) ≡ index
  unfolding packed_index header_of
  packed_index_lem e =
      λ i. record {
        kind = sym e i;
        n = index.n;
        m = same_m i;
        seed = same_seed i;
        modulus = ap (λ (kind : Kind). modulus_in kind index.modulus) e i;
        width = sym made.width i;
      }

  compact_index_lem : index.kind ≡ Compact → compact_index (header_of index) ≡ index
  unfolding compact_index header_of
  compact_index_lem e =
      λ i. record {
        kind = sym e i;
        n = index.n;
        m = same_m i;
        seed = same_seed i;
        modulus = sym (made.compact e) i;
        width = sym (made.width ∙ ap (λ (kind : Kind). width_for kind index.modulus) e) i;
      }

  pub opened : (rest : List ℕ) → open_file index.kind (header_bytes (header_of index) ++ rest) ≡ built_for (size_no (32 + length rest)) index
  opened rest = go index.kind refl
    where
      go : (kind : Kind) → index.kind ≡ kind → open_file kind (header_bytes (header_of index) ++ rest) ≡ built_for (size_no (32 + length rest)) index
      go Assigned e = open_headed Assigned (header_of index) rest all_fit ∙ ap₂ built_for (packed_number (32 + length rest) (omega arith) e) (packed_index_lem e)
      go Compact e = open_headed Compact (header_of index) rest all_fit ∙ ap₂ built_for (compact_number (32 + length rest) (omega arith) e) (compact_index_lem e)
