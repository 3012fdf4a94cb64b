-- What opening an image answers, from its first bytes and its length. Assumes nothing.
use Rattle.std.specs.Prelude.{Bool, false, cond, not, ◌&&◌, ◌||◌, List, ℕ, eqb, ltb, length, take}
use Rattle.bdz_base.specs.Refusal.{refuse, accept}
use Rattle.bdz_base.specs.declared.verts.Kind.{Kind}
use Rattle.bdz_base.specs.declared.verts.Kind.TheVariants.{Assigned, Compact}
use Rattle.bdz_table.specs.Build.{built_for}
use Rattle.bdz_table.specs.declared.index.Built.{Built}
use Rattle.bdz_table.specs.declared.index.Index.{Index}
use Rattle.bdz_image.specs.declared.header.Header.{Header}
use Rattle.bdz_image.specs.Header.{header_at}
use Rattle.bdz_image.specs.Image.{magic_of, size_of}

-- ---- what is opened

-- "An opened image of n = 0 has m and seed 0; of n = 1, m 1"
abbrev pub opened_m : ℕ → ℕ → ℕ
opened_m n m = cond (eqb n 0) 0 (cond (eqb n 1) 1 m)

abbrev pub opened_seed : ℕ → ℕ → ℕ
opened_seed n seed = cond (eqb n 0) 0 seed

-- "the opened modulus is n" in BDZ3
abbrev pub opened_modulus : Kind → Header → ℕ
opened_modulus Assigned h = h.modulus
opened_modulus Compact h = h.n

abbrev pub opened_width : Kind → ℕ → ℕ
opened_width Assigned width = width
opened_width Compact width = 2

unfoldable pub packed_index : Header → Index
packed_index h =
    record { kind = Assigned; n = h.n; m = opened_m h.n h.m; seed = opened_seed h.n h.seed; modulus = h.modulus; width = h.width }

-- "the opened modulus is n"
unfoldable pub compact_index : Header → Index
compact_index h =
    record { kind = Compact; n = h.n; m = opened_m h.n h.m; seed = opened_seed h.n h.seed; modulus = h.n; width = 2 }

-- ---- refusals

-- "either under 32 is 6 or 7 by kind"
abbrev pub lacks_header : ℕ → ℕ → Bool
lacks_header first len = ltb first 32 || ltb len 32

-- "n over 1 with m or modulus 0"
abbrev pub lacks_modulus : ℕ → ℕ → ℕ → Bool
lacks_modulus n m modulus = ltb 1 n && (eqb m 0 || eqb modulus 0)

-- by kind: "10 (width 0 or over 32)", "10 (width not 2)"; BDZ3 holds no modulus
abbrev pub lacks_width : Kind → ℕ → Bool
lacks_width Assigned width = eqb width 0 || ltb 32 width
lacks_width Compact width = not (eqb width 2)

abbrev pub kind_lacks_modulus : Kind → Header → Bool
kind_lacks_modulus Assigned h = lacks_modulus h.n h.m h.modulus
kind_lacks_modulus Compact h = false

-- "Open BDZ2: 6, 8, 9, 10 (width 0 or over 32), n = 0 accepted, 11 (n over 1 with m or modulus 0), 7": what comes after 6
unfoldable pub packed_no : Header → ℕ → ℕ
packed_no h len =
    refuse 8 (not (eqb h.magic (magic_of Assigned)))
    (refuse 9 (not (eqb h.version 1))
    (refuse 10 (eqb h.width 0 || ltb 32 h.width)
    (accept (eqb h.n 0)
    (refuse 11 (lacks_modulus h.n h.m h.modulus)
    (refuse 7 (ltb len (size_of Assigned h.width (opened_m h.n h.m)))
    0)))))

-- "Open BDZ3: 7 (header), 8, 9, 10 (width not 2), n = 0 accepted, 7": what comes after the header's 7. "Bytes 24 to 27 of BDZ3 are ignored"
unfoldable pub compact_no : Header → ℕ → ℕ
compact_no h len =
    refuse 8 (not (eqb h.magic (magic_of Compact)))
    (refuse 9 (not (eqb h.version 1))
    (refuse 10 (not (eqb h.width 2))
    (accept (eqb h.n 0)
    (refuse 7 (ltb len (size_of Compact 2 (opened_m h.n h.m)))
    0))))

-- by kind
abbrev pub header_no : Kind → Header → ℕ → ℕ
header_no Assigned = packed_no
header_no Compact = compact_no

-- ---- the openers

unfoldable pub open_packed : List ℕ → ℕ → Built
open_packed first len =
    built_for (refuse 6 (lacks_header (length first) len) (packed_no (header_at first) len)) (packed_index (header_at first))

unfoldable pub open_compact : List ℕ → ℕ → Built
open_compact first len =
    built_for (refuse 7 (lacks_header (length first) len) (compact_no (header_at first) len)) (compact_index (header_at first))

-- by kind, and by the number of a header that is too short
abbrev pub opened_by : ℕ → Kind → List ℕ → ℕ → Built
opened_by short kind first len =
    let h = header_at first in
    built_for (refuse short (lacks_header (length first) len) (header_no kind h len))
    (record { kind = kind; n = h.n; m = opened_m h.n h.m; seed = opened_seed h.n h.seed; modulus = opened_modulus kind h; width = opened_width kind h.width })

-- "The opener takes the first 32 bytes, or all if fewer, and the length": of a whole file
unfoldable pub open_file : Kind → List ℕ → Built
open_file Assigned file = open_packed (take 32 file) (length file)
open_file Compact file = open_compact (take 32 file) (length file)
