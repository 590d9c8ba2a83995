-- Lists of a few entries that are kept in place. Assumes nothing.
use Rattle.std.specs.Prelude.{ℕ, min, List, ◌++◌, length, take, drop, replicate}
use Rattle.std.proofs.Math.Nat.{min-le_right}
use Rattle.facts.specs.declared.short_list.ShortList.{ShortList}

-- The entries, in their order.
abbrev pub entries_of : {T : Type 0} {N : ℕ} → ShortList T N → List T
entries_of s = take s.count s.places

-- Entries put into the first places of a row.
abbrev pub put_into : {T : Type 0} → List T → List T → List T
put_into row ws = ws ++ drop (length ws) row

-- The list of these entries, of which there are at most N, where each place left holds the blank.
abbrev pub short_list : {T : Type 0} {N : ℕ} → T → List T → ShortList T N
short_list {T} {N} blank ws = record { places = put_into (replicate N blank) ws; count = min (length ws) N; few = min-le_right (length ws) N }
