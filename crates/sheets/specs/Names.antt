-- Names of zones, matters and moves. Assumes nothing.
use Rattle.std.specs.Prelude.{ℕ, Bool, not, ◌&&◌, ◌||◌, List, length, codes, nat_le}
use Rattle.std.specs.Str.{bytes_eq}
use Rattle.sheets.specs.Bytes.{every}

-- a to z and 0 to 9.
abbrev pub name_byte : ℕ → Bool
name_byte b = (nat_le 97 b && nat_le b 122) || (nat_le 48 b && nat_le b 57)

-- The word for every zone at once, which is therefore no name.
abbrev pub is_all : List ℕ → Bool
is_all text = bytes_eq text (codes "all")

-- A name has 1 to 8 bytes, each a to z or 0 to 9, and is not the word for every zone.
abbrev pub is_name : List ℕ → Bool
is_name text = nat_le 1 (length text) && nat_le (length text) 8 && every name_byte text && not (is_all text)
