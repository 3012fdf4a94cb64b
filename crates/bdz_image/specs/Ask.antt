-- What a feed that is asked for its i-th key answers. Assumes nothing.
use Rattle.bdz_base.specs.Pages.{first_page, last_page}
use Rattle.std.specs.Prelude.{◌≡◌, cond, true, List, ℕ, ◌+◌, ◌*◌, ◌/◌, ◌%◌, ◌^◌, eqb, get_or, Result, Ok, Err}
use Rattle.bdz_base.specs.Refusal.{number}
use Rattle.bdz_base.specs.declared.refusal.Refusal.{Refusal}
use Rattle.bdz_image.specs.declared.ask.KeyWords.{KeyWords}
use Rattle.bdz_image.specs.Feed.{among}

-- what the three slots of a key still miss
abbrev pub missing_at : List ℕ → ℕ → ℕ
missing_at slots i = get_or slots (3 * i) 0 / 2 ^ 32 + get_or slots (3 * i + 1) 0 / 2 ^ 32 + get_or slots (3 * i + 2) 0 / 2 ^ 32

-- the number: 18 while something is missing
unfoldable pub ask_no : List ℕ → ℕ → ℕ
ask_no slots i = cond (eqb (missing_at slots i) 0) 0 18

-- the value, from the three words
unfoldable pub ask_value : (ℕ → ℕ → ℕ → ℕ) → List ℕ → ℕ → ℕ
ask_value finish slots i =
    cond (eqb (missing_at slots i) 0) (finish (get_or slots (3 * i) 0 % 2 ^ 32) (get_or slots (3 * i + 1) 0 % 2 ^ 32) (get_or slots (3 * i + 2) 0 % 2 ^ 32)) 0

-- the three words of a key, or its number with every other field zero
pub record Words : Type 0 where
  pub no : ℕ
  pub a : ℕ
  pub b : ℕ
  pub c : ℕ

abbrev pub told_words : Result KeyWords Refusal → Words
told_words (Ok words) = record { no = 0; a = words.a; b = words.b; c = words.c }
told_words (Err refusal) = record { no = number refusal; a = 0; b = 0; c = 0 }

-- the three words of a key, or 18
unfoldable pub words_of : List ℕ → ℕ → Words
words_of slots i =
    cond (eqb (missing_at slots i) 0)
    (record { no = 0; a = get_or slots (3 * i) 0 % 2 ^ 32; b = get_or slots (3 * i + 1) 0 % 2 ^ 32; c = get_or slots (3 * i + 2) 0 % 2 ^ 32 })
    (record { no = 18; a = 0; b = 0; c = 0 })

-- the pages of the word at v have come
pub record Came (w : ℕ) (ps : List ℕ) (v : ℕ) : Type 0 where
  pub first : among ps (first_page w v) ≡ true
  pub last : among ps (last_page w v) ≡ true
