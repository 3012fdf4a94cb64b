-- A list as it is written, record by record: what the theorems about reading speak of. No promise cites it. Assumes nothing.
use Rattle.std.specs.Prelude.{◌≡◌, List, [], ◌∷◌, ◌++◌, ℕ, ◌^◌, ◌≤◌, ◌<◌, length, get_or}
use Rattle.bdz_base.specs.Pack.{bytes_of}

-- a key with its value
pub record Entry : Type 0 where
  pub key : ℕ
  pub value : ℕ

-- no key and no value
abbrev pub no_entry : Entry
no_entry = record { key = 0; value = 0 }

-- "records 4B 56, key (8), value (4)"
unfoldable pub assigned_record : Entry → List ℕ
assigned_record entry = 0x4b ∷ 0x56 ∷ (bytes_of 8 entry.key ++ bytes_of 4 entry.value)

-- "records 4B 43, key (8)"
unfoldable pub compact_record : ℕ → List ℕ
compact_record key = 0x4b ∷ 0x43 ∷ bytes_of 8 key

-- one behind the other
unfoldable pub joined : {A : Type 0} → (A → List ℕ) → List A → List ℕ
joined bytes [] = []
joined bytes (x ∷ xs) = bytes x ++ joined bytes xs

-- "A list starts with 4B 4D and the modulus (4 bytes), then records"
unfoldable pub assigned_bytes : ℕ → List Entry → List ℕ
assigned_bytes modulus entries = 0x4b ∷ 0x4d ∷ (bytes_of 4 modulus ++ joined assigned_record entries)

-- "or it is only records"
unfoldable pub compact_bytes : List ℕ → List ℕ
compact_bytes keys = joined compact_record keys

-- the bytes are such a list, of a modulus up to 65,536 and at most 1,000 records
pub record WrittenAssigned (bytes : List ℕ) : Type 0 where
  pub modulus : ℕ
  pub entries : List Entry
  pub fits : modulus ≤ 65536
  pub few : length entries ≤ 1000
  pub range : (i : ℕ) → ((get_or entries i no_entry).key < 2 ^ 64) × ((get_or entries i no_entry).value < 2 ^ 32)
  pub is : bytes ≡ assigned_bytes modulus entries

pub record WrittenCompact (bytes : List ℕ) : Type 0 where
  pub keys : List ℕ
  pub some : 1 ≤ length keys
  pub few : length keys ≤ 1000
  pub range : (i : ℕ) → get_or keys i 0 < 2 ^ 64
  pub is : bytes ≡ compact_bytes keys
