-- A header's bytes are those of eight packed words, and its fields are read back from them. Assumes nothing.
use mathlib.Core.Path.{◌≡◌, refl, sym, ap, ap₂, ◌∙◌}
use mathlib.Core.List.{List, [], ◌∷◌, ◌++◌, append_assoc, append-nil}
use Prim.Native.Nat.{ℕ, suc, ◌+◌, ◌*◌, ◌/◌, ◌%◌, ◌^◌, ◌<◌}
use native.Mathlib.Nat.{mod-lt, mod-mod, mod-eq_of_lt}
use native.Mathlib.Omega.{arith}
use lib.Dec.{lit<, lit≤}
use lib.ListN.{length, get_or, take}
use lib.Pow.{pow_pos, high, low, recompose}
use Rattle.bdz_base.specs.Pack.{value_of, bytes_of, pack_of, bits_at, word_at}
use Rattle.bdz_base.specs.Sizes.{table_bytes}
use Rattle.bdz_base.proofs.Digits.{bytes_append, bytes_mod, bits_more, bits_part, read_back}
use Rattle.bdz_image.specs.declared.header.Header.{Header}
use Rattle.bdz_image.specs.Header.{header_bytes, header_at}

-- each number fits its bytes
pub record Fits (h : Header) : Type 0 where
  pub magic : h.magic < 2 ^ 32
  pub version : h.version < 2 ^ 32
  pub n : h.n < 2 ^ 32
  pub m : h.m < 2 ^ 32
  pub seed : h.seed < 2 ^ 64
  pub modulus : h.modulus < 2 ^ 32
  pub width : h.width < 2 ^ 32

pub length_header : (h : Header) → length (header_bytes h) ≡ 32
unfolding header_bytes bytes_of
length_header h = refl

-- ---- a header as eight words of 32 bits

-- the seed is two of them
abbrev pub words_of : Header → List ℕ
words_of h = h.magic ∷ h.version ∷ h.n ∷ h.m ∷ h.seed % 2 ^ 32 ∷ h.seed / 2 ^ 32 ∷ h.modulus ∷ h.width ∷ []

word_more : (n : ℕ) → table_bytes 32 (suc n) ≡ 4 + table_bytes 32 n
word_more n = omega arith

packed_cons : (x : ℕ) (xs : List ℕ) → pack_of 32 (x ∷ xs) ≡ bytes_of 4 x ++ pack_of 32 xs
unfolding pack_of value_of
packed_cons x xs =
    let v = value_of 32 xs in
    let l : x % 2 ^ 32 < 2 ^ 32 = mod-lt x (pow_pos 32) in
    let first : bytes_of 4 (v * 2 ^ 32 + x % 2 ^ 32) ≡ bytes_of 4 x =
    sym (bytes_mod 4 0 (v * 2 ^ 32 + x % 2 ^ 32)) ∙ ap (bytes_of 4) (low v 32 l) ∙ bytes_mod 4 0 x in
    ap (λ (k : ℕ). bytes_of k (v * 2 ^ 32 + x % 2 ^ 32)) (word_more (length xs))
    ∙ bytes_append 4 (table_bytes 32 (length xs)) (v * 2 ^ 32 + x % 2 ^ 32)
    ∙ ap₂ ◌++◌ first (ap (bytes_of (table_bytes 32 (length xs))) (high v 32 l))

packed_none : pack_of 32 [] ≡ []
unfolding pack_of bytes_of
packed_none = refl

seed_bytes : (s : ℕ) → bytes_of 4 (s % 2 ^ 32) ++ bytes_of 4 (s / 2 ^ 32) ≡ bytes_of 8 s
seed_bytes s = ap (λ (l : List ℕ). l ++ bytes_of 4 (s / 2 ^ 32)) (bytes_mod 4 0 s) ∙ sym (bytes_append 4 4 s)

pub header_packed : (h : Header) → pack_of 32 (words_of h) ≡ header_bytes h
unfolding header_bytes
header_packed h =
    rw (
      packed_cons h.magic,
      packed_cons h.version,
      packed_cons h.n,
      packed_cons h.m,
      packed_cons (h.seed % 2 ^ 32),
      packed_cons (h.seed / 2 ^ 32),
      packed_cons h.modulus,
      packed_cons h.width,
      packed_none,
      append-nil,
      ← seed_bytes h.seed,
      append_assoc,
    )

-- ---- the fields

module _ (h : Header) (rest : List ℕ) where
  word_back : (v : ℕ) → v < 8 → word_at 32 (header_bytes h ++ rest) v ≡ get_or (words_of h) v 0 % 2 ^ 32
  word_back v l = rw (← header_packed h) (read_back 32 (words_of h) rest v (lit≤ tt) l)

  -- whatever stands behind the header
  pub fields_back : Fits h → header_at (header_bytes h ++ rest) ≡ h
  unfolding header_at word_at bits_at
  fields_back f =
      λ i. record {
        magic = (word_back 0 (lit< tt) ∙ mod-eq_of_lt f.magic) i;
        version = (word_back 1 (lit< tt) ∙ mod-eq_of_lt f.version) i;
        n = (word_back 2 (lit< tt) ∙ mod-eq_of_lt f.n) i;
        m = (word_back 3 (lit< tt) ∙ mod-eq_of_lt f.m) i;
        seed = (bits_more (value_of 8 (header_bytes h ++ rest)) 128 32 32
            ∙ ap₂ (λ (a b : ℕ). a * 2 ^ 32 + b) (word_back 5 (lit< tt)) (word_back 4 (lit< tt) ∙ mod-mod h.seed (2 ^ 32))
            ∙ recompose 32 32 f.seed) i;
        modulus = (word_back 6 (lit< tt) ∙ mod-eq_of_lt f.modulus) i;
        width = (word_back 7 (lit< tt) ∙ mod-eq_of_lt f.width) i;
      }

-- the first 32 bytes are all that is read
pub fields_first : (bytes : List ℕ) → header_at (take 32 bytes) ≡ header_at bytes
unfolding header_at
fields_first bytes =
    λ i. record {
      magic = bits_part 32 32 0 0 bytes (lit≤ tt) i;
      version = bits_part 32 32 0 32 bytes (lit≤ tt) i;
      n = bits_part 32 32 0 64 bytes (lit≤ tt) i;
      m = bits_part 32 32 0 96 bytes (lit≤ tt) i;
      seed = bits_part 64 32 0 128 bytes (lit≤ tt) i;
      modulus = bits_part 32 32 0 192 bytes (lit≤ tt) i;
      width = bits_part 32 32 0 224 bytes (lit≤ tt) i;
    }
