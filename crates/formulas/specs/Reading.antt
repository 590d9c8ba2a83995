-- What it means to read a formula from a text. Assumes nothing.
use Rattle.std.specs.Prelude.{◌≡◌, ℕ, ◌≤◌, true, List, [], ◌∷◌, ◌++◌, Ok, Err, Result, Vec}
use Rattle.std.specs.Borrow.{Bor}
use Rattle.std.specs.declared.alloc.Global.{Global}
use Rattle.formulas.specs.declared.tree.Formula.{Formula as Tree}
use Rattle.formulas.specs.declared.tree.Unread.{Unread}
use Rattle.formulas.specs.declared.tree.Unread.TheVariants.{NotItsForm, NoMemory}
use Rattle.formulas.specs.Formulas.{Formula, Formulas, fact, neg, all}
use Rattle.formulas.specs.Shapes.{texted, texted_all}
use Rattle.formulas.specs.Spelling.{is_mark, WellTexted, FactText, EachFactIn, spelled, spelled_on, depth_of, depth_in}

-- A text is a formula's, which is at most so deep: it is how the formula is written.
pub record Spells (depth : ℕ) (text : List ℕ) (p : Formula (List ℕ)) : Type 0 where
  pub text_is : spelled p ≡ text
  pub facts : WellTexted p
  pub shallow : depth_of p ≤ depth

-- An answer to the question which formula a text is. Want of memory says nothing of the text.
abbrev pub Answers : ℕ → List ℕ → Result (Tree (Bor (List ℕ))) Unread → Type 0
Answers depth text (Ok t) = Spells depth text (texted t)
Answers depth text (Err NotItsForm) = (p : Formula (List ℕ)) → Spells depth text p → ⊥
Answers depth text (Err NoMemory) = Unit {0}

-- A text ends, or goes on with a mark.
abbrev pub Ends : List ℕ → Type 0
Ends [] = Unit {0}
Ends (b ∷ rest) = is_mark b ≡ true

-- A formula cannot go on into what follows it. Only a fact could, where no mark follows.
abbrev pub Closes : Formula (List ℕ) → List ℕ → Type 0
Closes (fact f) rest = Ends rest
Closes (neg p) rest = Closes p rest
Closes (all ps) rest = Unit {0}

-- A text begins with a formula of at most a depth, and then the rest follows.
pub record Begins (depth : ℕ) (text : List ℕ) (p : Formula (List ℕ)) (rest : List ℕ) : Type 0 where
  pub text_is : text ≡ spelled p ++ rest
  pub facts : WellTexted p
  pub shallow : depth_of p ≤ depth
  pub closes : Closes p rest

-- A text goes on after an opening bracket or an `&`: formulas parted by `&`, one at least, the closing bracket, the rest.
pub record GoesOn (depth : ℕ) (text : List ℕ) (ps : Formulas (List ℕ)) (rest : List ℕ) : Type 0 where
  pub text_is : 38 ∷ text ≡ spelled_on ps ++ 41 ∷ rest
  pub facts : EachFactIn FactText ps
  pub shallow : depth_in ps ≤ depth

-- What stands for a formula at the beginning of a text, or that there is none.
abbrev pub Formed : ℕ → List ℕ → Result (Tree (Bor (List ℕ)) × Bor (List ℕ)) Unread → Type 0
Formed depth text (Ok r) = Begins depth text (texted r.0) r.1.now
Formed depth text (Err NotItsForm) = (p : Formula (List ℕ)) (rest : List ℕ) → Begins depth text p rest → ⊥
Formed depth text (Err NoMemory) = Unit {0}

-- What stands for formulas up to a closing bracket, or that there are none.
abbrev pub FormedOn : ℕ → List ℕ → Result (Vec (Tree (Bor (List ℕ))) Global × Bor (List ℕ)) Unread → Type 0
FormedOn depth text (Ok r) = GoesOn depth text (texted_all r.0.items) r.1.now
FormedOn depth text (Err NotItsForm) = (ps : Formulas (List ℕ)) (rest : List ℕ) → GoesOn depth text ps rest → ⊥
FormedOn depth text (Err NoMemory) = Unit {0}
