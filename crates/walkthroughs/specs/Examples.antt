-- Depots worked through by hand, with their carrying as their kinds have it. Assumes nothing.
use Rattle.std.specs.Prelude.{ℕ, suc, List, [], ◌∷◌, length, Ok, Err, codes, Result}
use Rattle.facts.specs.declared.names.NoFact.{NoFact}
use Rattle.facts.specs.declared.plain.PlainFact.{PlainFact}
use Rattle.facts.specs.declared.sighted.SightFact.{SightFact}
use Rattle.facts.specs.Plain.{plain_reading, plain_same}
use Rattle.facts.specs.Sight.{sight_carries, sight_reading}
use Rattle.formulas.specs.Formulas.{Formula}
use Rattle.formulas.specs.Formulas.Formula.{all, fact, neg}
use Rattle.formulas.specs.Formulas.Formulas.{more, none}
use Rattle.walkthroughs.specs.Depots.{Depot, Move}
use Rattle.walkthroughs.specs.Kinds.{carries_among}

-- The facts that texts are.
abbrev read_all : {F : Type 0} → (List ℕ → Result F NoFact) → List (List ℕ) → List F
read_all reading [] = []
read_all reading (t ∷ texts) = elim (reading t) [ Ok f ↦ f ∷ read_all reading texts | Err why ↦ read_all reading texts ]

-- A formula that is true.
abbrev always : Formula ℕ
always = all none

-- Both of two facts.
abbrev both : ℕ → ℕ → Formula ℕ
both f g = all (more (fact f) (more (fact g) none))

-- The facts of depot S: 1 clear, 2 scan.clear, 3 div.clear, 4 all.clear, 5 count.
abbrev pub facts_s : List SightFact
facts_s = read_all (sight_reading (codes "scan" ∷ codes "div" ∷ []) (codes "clear" ∷ codes "count" ∷ [])) (codes "clear" ∷ codes "scan.clear" ∷ codes "div.clear" ∷ codes "all.clear" ∷ codes "count" ∷ [])

-- Depot S, with the moves 1 tell, 2 call, 3 reset, 4 jam.
abbrev pub depot_s : Depot
depot_s =
    record {
      facts = length facts_s;
      started = 1 ∷ 2 ∷ [];
      carries = carries_among sight_carries facts_s;
      moves =
          record { need = 1; effects = record { condition = 2; settings = 3 ∷ []; strikes = [] } ∷ [] }
          ∷ record { need = 3; effects = record { condition = 4; settings = 4 ∷ []; strikes = [] } ∷ [] }
          ∷ record { need = 5; effects = record { condition = 6; settings = 5 ∷ []; strikes = [] } ∷ [] }
          ∷ record { need = 7; effects = record { condition = 8; settings = []; strikes = 1 ∷ 2 ∷ [] } ∷ [] }
          ∷ [];
      formulas = both 1 2 ∷ always ∷ fact 2 ∷ always ∷ both 1 3 ∷ always ∷ always ∷ always ∷ fact 5 ∷ [];
      goal = 9;
    }

-- The facts of depot Q: 1 a, 2 b, 3 c.
abbrev pub facts_q : List PlainFact
facts_q = read_all (plain_reading (codes "a" ∷ codes "b" ∷ codes "c" ∷ [])) (codes "a" ∷ codes "b" ∷ codes "c" ∷ [])

-- Depot Q, with the moves 1 m1, 2 m2, 3 m3, 4 t, 5 u.
abbrev pub depot_q : Depot
depot_q =
    record {
      facts = length facts_q;
      started = [];
      carries = carries_among plain_same facts_q;
      moves =
          record { need = 1; effects = record { condition = 2; settings = 1 ∷ []; strikes = [] } ∷ [] }
          ∷ record { need = 3; effects = record { condition = 4; settings = 2 ∷ []; strikes = [] } ∷ [] }
          ∷ record { need = 5; effects = record { condition = 6; settings = 3 ∷ []; strikes = [] } ∷ [] }
          ∷ record { need = 7; effects = record { condition = 8; settings = []; strikes = 1 ∷ [] } ∷ record { condition = 9; settings = 1 ∷ []; strikes = [] } ∷ [] }
          ∷ record { need = 10; effects = record { condition = 11; settings = []; strikes = 1 ∷ [] } ∷ record { condition = 12; settings = 1 ∷ []; strikes = [] } ∷ [] }
          ∷ [];
      formulas = always ∷ always ∷ always ∷ always ∷ always ∷ both 1 2 ∷ always ∷ fact 1 ∷ neg (fact 1) ∷ always ∷ fact 1 ∷ neg (fact 1) ∷ always ∷ [];
      goal = 13;
    }

-- The facts of depot G: 1 one.word, 2 two.word, 3 three.word.
abbrev pub facts_g : List SightFact
facts_g = read_all (sight_reading (codes "one" ∷ codes "two" ∷ codes "three" ∷ []) (codes "word" ∷ [])) (codes "one.word" ∷ codes "two.word" ∷ codes "three.word" ∷ [])

-- A call between two zones: what one of them sees, the other then sees too.
abbrev call : ℕ → ℕ → ℕ → Move
call formula f g = record { need = formula; effects = record { condition = suc formula; settings = g ∷ []; strikes = [] } ∷ record { condition = suc (suc formula); settings = f ∷ []; strikes = [] } ∷ [] }

-- Depot G, gossip, with the calls 1 between one and two, and 2 between two and three; zone one sees the word.
abbrev pub depot_g : Depot
depot_g =
    record {
      facts = length facts_g;
      started = 1 ∷ [];
      carries = carries_among sight_carries facts_g;
      moves = call 1 1 2 ∷ call 4 2 3 ∷ [];
      formulas = always ∷ fact 1 ∷ fact 2 ∷ always ∷ fact 2 ∷ fact 3 ∷ fact 3 ∷ [];
      goal = 7;
    }
