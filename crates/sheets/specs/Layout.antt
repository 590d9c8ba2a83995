-- How a depot sheet is laid out: its bytes, letters and numbers of fields. Assumes nothing.
use Rattle.std.specs.Prelude.{◌≡◌, ℕ, Bool, false, ◌&&◌, ◌||◌, ◌⊎◌, List, [], ◌∷◌, length, Some, None, codes, Option, ◌==◌, ◌≢◌, nat_le, slice_index_or}
use Rattle.std.specs.List.{list_any}
use Rattle.std.specs.Str.{bytes_eq}
use Rattle.sheets.specs.declared.layout.Above.{Above}
use Rattle.sheets.specs.declared.letters.Letter.{Letter}
use Rattle.sheets.specs.declared.letters.Letter.TheVariants.{Goal}
use Rattle.sheets.specs.declared.refusals.Refusal.{Refusal}
use Rattle.sheets.specs.declared.refusals.Refusal.TheVariants.{BadLine, BadLetter, FieldCount, NoGoal}
use Rattle.sheets.specs.Bytes.{every}
use Rattle.sheets.specs.Letters.{letter_of, fields_of, MayCome}
use Rattle.sheets.specs.Lines.{Line}
use Rattle.sheets.specs.Pieces.{pieces}

-- The most bytes of a depot sheet.
abbrev pub depot_limit : ℕ
depot_limit = 32768

-- The most bytes of a line, before its end.
abbrev pub line_limit : ℕ
line_limit = 240

-- The fields of a line are parted by tabs.
abbrev pub fields : Line → List (List ℕ)
fields l = pieces 9 l.text

-- The letter of a line is its first field.
abbrev pub letter_on : Line → Option Letter
letter_on l = letter_of (slice_index_or (fields l) 0 [])

-- A byte that a line may have: a tab, or one from 33 to 126.
abbrev pub allowed : ℕ → Bool
allowed b = b == 9 || (nat_le 33 b && nat_le b 126)

-- The line has its end, is not too long and has no byte that is not allowed.
abbrev pub legible : Line → Bool
legible l = l.ended && (nat_le (length l.text) line_limit && every allowed l.text)

-- What is wrong with the layout of a line, below what stands above it.
abbrev pub LayoutFault : Above → Line → Refusal → Type 0
LayoutFault a l w =
    ((w ≡ BadLine) × (legible l ≡ false))
    ⊎ (((w ≡ BadLetter) × ((k : Letter) → letter_on l ≡ Some k → MayCome a.letter a.sight k → ⊥))
    ⊎ ((w ≡ FieldCount) × ((k : Letter) × (letter_on l ≡ Some k) × (length (fields l) ≢ fields_of k))))

-- The letter of the last of some lines.
abbrev pub last_letter : List Line → Option Letter
last_letter [] = None
last_letter (l ∷ []) = letter_on l
last_letter (l ∷ m ∷ ls) = last_letter (m ∷ ls)

-- The line that says that a sheet is of the sight kind.
abbrev pub says_sight : Line → Bool
says_sight l = bytes_eq l.text (codes "K\tsight")

-- A sheet is of the sight kind if one of its lines says so. Only the first can, since the kind is named nowhere else.
abbrev pub is_sight : List Line → Bool
is_sight = list_any says_sight

-- What the lines above say of the next: the letter right above it, and whether the sheet is of the sight kind.
abbrev pub above_of : List Line → Above
above_of ls = record { letter = last_letter ls; sight = is_sight ls }

-- What a sheet lacks whose last line is no goal.
abbrev pub Unfinished : List Line → Refusal → Type 0
Unfinished ls w = (w ≡ NoGoal) × (last_letter ls ≢ Some Goal)
