-- What a `?` and a `map_err` hand on, and what is read of two fields. Assumes nothing.
use Rattle.std.proofs.Common.{◌≡◌, ℕ, Bool, [], ◌∷◌, Some, None, Ok, Err, MatchResult, Option, Result, sym, ap, ◌∙◌, subst, arith}
use Rattle.std.specs.Result.{IsErrAnd, result_err}
use Rattle.sheets.specs.declared.refusals.Refusal.{Refusal}
use Rattle.sheets.specs.Faults.{Lowest}
use Rattle.sheets.proofs.Handed.{error_made, value_kept}
use Rattle.depots.specs.declared.troubles.Trouble.{Trouble}
use Rattle.depots.specs.Troubles.{LineFault, lower_of, refusal_at, refusal_of}

-- a refusal that was handed on
pub handed_on : {X : Type 0} (r : Result X Refusal) (w : Refusal) → IsErrAnd r (λ v. v ≡ w) → r ≡ Err w
handed_on (Ok x) w is = absurd is
handed_on (Err v) w is = ap Err is

-- what was read is no error
pub ok_err : {X E : Type 0} {x : X} {e : E} → Ok x ≡ Err e → ⊥
ok_err e = let z : ◌≡◌ {A = ℕ} 0 1 = cc in omega arith

same_read : {X : Type 0} (u v : X) → ◌≡◌ {A = Result X Refusal} (Ok u) (Ok v) → ◌≡◌ {A = Result X Trouble} (Ok u) (Ok v)
same_read u v e = let inner : u ≡ v = cc in ap Ok inner

-- the refusal is that of the line's only field
abbrev pub IsOnly : Trouble → Refusal → Type 0
IsOnly t w = (full : Bool) → Lowest (LineFault (Some t ∷ []) full) w

-- what was read of that field, and the refusal that its trouble makes
abbrev pub AsOnly : {X : Type 0} → Result X Trouble → Result X Refusal → Type 0
AsOnly x y = MatchResult x (λ v. y ≡ Ok v) (λ t. IsErrAnd y (IsOnly t))

pub only_told : {X : Type 0} (x : Result X Trouble) (y : Result X Refusal) (w : Refusal) → AsOnly x y → y ≡ Err w → (full : Bool) → Lowest (LineFault (result_err x ∷ []) full) w
only_told x y w told is full =
    let made = error_made IsOnly x y w told is in
    subst (λ o. Lowest (LineFault (o ∷ []) full) w) (sym (ap result_err made.1)) (made.2 full)

pub only_fine : {X : Type 0} (x : Result X Trouble) (y : Result X Refusal) (v : X) (o : Option Trouble) → result_err x ≡ o → AsOnly x y → y ≡ Ok v → o ≡ None
only_fine x y v o found told is = sym found ∙ ap result_err (value_kept IsOnly x y v told is)

-- what was read of a field, or the refusal that names it
abbrev pub AtField : {X : Type 0} → ℕ → Result X Trouble → Result X Refusal → Type 0
AtField field x y = MatchResult x (λ v. y ≡ Ok v) (λ t. y ≡ Err (refusal_at t field))

pub refused-at : {X : Type 0} (field : ℕ) (x : Result X Trouble) (y : Result X Refusal) → AtField field x y → result_err y ≡ refusal_of (result_err x) field
refused-at field (Ok v) y told = ap result_err told
refused-at field (Err t) y told = ap result_err told

pub read-at : {X : Type 0} (field : ℕ) (x : Result X Trouble) (y : Result X Refusal) (v : X) → AtField field x y → y ≡ Ok v → x ≡ Ok v
read-at field (Ok u) y v told is = same_read u v (sym told ∙ is)
read-at field (Err t) y v told is = absurd (ok_err (sym is ∙ told))

-- what was read of two, or the lower refusal
abbrev pub ReadBoth : {A B : Type 0} → Result A Refusal → Result B Refusal → Result (A × B) Refusal → Type 0
ReadBoth first rest r = MatchResult r (λ x. (first ≡ Ok x.0) × (rest ≡ Ok x.1)) (λ w. Some w ≡ lower_of (result_err first) (result_err rest))

pub lower-read : {A B : Type 0} (first : Result A Refusal) (rest : Result B Refusal) (r : Result (A × B) Refusal) → ReadBoth first rest r → result_err r ≡ lower_of (result_err first) (result_err rest)
lower-read first rest (Ok x) read = sym (ap (λ r. lower_of (result_err r) (result_err rest)) read.0 ∙ ap result_err read.1)
lower-read first rest (Err w) read = read

pub both-read : {A B : Type 0} (first : Result A Refusal) (rest : Result B Refusal) (r : Result (A × B) Refusal) (x : A × B) → ReadBoth first rest r → r ≡ Ok x → (first ≡ Ok x.0) × (rest ≡ Ok x.1)
both-read first rest r x read is = subst (ReadBoth first rest) is read

-- the lower refusal of two fields, by what is wrong with them
pub lower-at : {A B : Type 0} (n k : ℕ) (a : Result A Trouble) (b : Result B Trouble) (x : Result A Refusal) (y : Result B Refusal) → AtField n a x → AtField k b y → lower_of (result_err x) (result_err y) ≡ lower_of (refusal_of (result_err a) n) (refusal_of (result_err b) k)
lower-at n k a b x y at-n at-k = ap (λ o. lower_of o (result_err y)) (refused-at n a x at-n) ∙ ap (lower_of (refusal_of (result_err a) n)) (refused-at k b y at-k)
