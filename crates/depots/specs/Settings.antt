-- How a field of settings or strikes is read. Assumes nothing.
use Rattle.std.specs.Prelude.{◌≡◌, ℕ, Bool, false, cond, ◌||◌, List, [], ◌∷◌, map, length, Ok, Err, codes, Result, nat_le}
use Rattle.std.specs.Str.{bytes_eq}
use Rattle.sheets.specs.Pieces.{pieces}
use Rattle.facts.specs.declared.names.NoFact.{NoFact}
use Rattle.facts.specs.ShortLists.{entries_of}
use Rattle.facts.specs.declared.names.NoFact.TheVariants as none
use Rattle.depots.specs.declared.fact_list.FactList.{FactList}
use Rattle.depots.specs.declared.troubles.Trouble.{Trouble}
use Rattle.depots.specs.declared.troubles.Trouble.TheVariants.{NotItsForm, NotListed, Twice}
use Rattle.depots.specs.Fields.{among}

-- The numbers of a list, in their order.
abbrev pub numbers_of : FactList → List ℕ
numbers_of l = entries_of l.kept

-- How many facts a list has.
abbrev pub count_of : FactList → ℕ
count_of l = l.kept.count

-- A list as it was read, or what is wrong with it, is this answer.
abbrev pub Comes : Result (List ℕ) Trouble → Result FactList Trouble → Type 0
Comes read (Ok l) = read ≡ Ok (numbers_of l)
Comes read (Err t) = read ≡ Err t

-- A number is twice in a row of them.
abbrev pub repeats : List ℕ → Bool
repeats [] = false
repeats (n ∷ ns) = among n ns || repeats ns

-- What the first part of a list and the parts after it come to: a part that has not its form is told before one that
-- is not listed, wherever they stand.
abbrev pub joined_to : Result ℕ NoFact → Result (List ℕ) Trouble → Result (List ℕ) Trouble
joined_to (Ok n) (Ok ns) = Ok (n ∷ ns)
joined_to (Ok n) (Err t) = Err t
joined_to (Err none.NotListed) (Ok ns) = Err NotListed
joined_to (Err none.NotListed) (Err t) = Err t
joined_to (Err none.NotItsForm) rest = Err NotItsForm

-- What the parts of a list come to: their numbers, or what is wrong.
abbrev pub gathered : List (Result ℕ NoFact) → Result (List ℕ) Trouble
gathered [] = Ok []
gathered (r ∷ rs) = joined_to r (gathered rs)

-- Numbers that are each there once.
abbrev pub once : Result (List ℕ) Trouble → Result (List ℕ) Trouble
once (Ok ns) = cond (repeats ns) (Err Twice) (Ok ns)
once (Err t) = Err t

-- A list of facts: `-` is none, and else there are 1 to 8, parted by commas; `number` says which listed fact a text is.
abbrev pub list_reading : (List ℕ → Result ℕ NoFact) → List ℕ → Result (List ℕ) Trouble
list_reading number text =
    cond (bytes_eq text (codes "-")) (Ok []) (cond (nat_le (length (pieces 44 text)) 8) (once (gathered (map number (pieces 44 text)))) (Err NotItsForm))
