-- Lines worked by hand, under the zones scan and div and the matter clear. Assumes nothing.
use Rattle.std.specs.Prelude.{◌≡◌, ℕ, Bool, true, false, List, [], ◌∷◌, map, Some, None, Ok, Err, codes, Option, Result}
use Rattle.facts.specs.declared.names.NoFact.{NoFact}
use Rattle.facts.specs.declared.sighted.SightFact.{SightFact}
use Rattle.facts.specs.Sight.{sight_reading, sight_carries, sight_certain}

-- The fact that a text is.
abbrev read : List ℕ → Result SightFact NoFact
read text = sight_reading (codes "scan" ∷ codes "div" ∷ []) (codes "clear" ∷ []) text

-- What is asked of a fact, if there is one.
abbrev asked : {X : Type 0} → (SightFact → Option X) → Result SightFact NoFact → Option X
asked question (Ok f) = question f
asked question (Err why) = None

-- Whether the first text carries the second, if both are facts.
abbrev carries : List ℕ → List ℕ → Option Bool
carries one other = asked (λ a. asked (λ b. Some (sight_carries a b)) (read other)) (read one)

-- Whether a text is always true, if it is a fact.
abbrev always_true : List ℕ → Option Bool
always_true text = asked (λ f. Some (sight_certain f)) (read text)

-- What carries what.
abbrev carrying_lines : List (List ℕ × List ℕ × Bool)
carrying_lines =
    (codes "all.clear", codes "all.clear", true)
    ∷ (codes "all.clear", codes "scan.clear", true)
    ∷ (codes "all.clear", codes "all.div.clear", true)
    ∷ (codes "all.clear", codes "clear", false)
    ∷ (codes "scan.clear", codes "clear", false)
    ∷ (codes "scan.clear", codes "all.clear", false)
    ∷ []

-- What is always true.
abbrev certain_lines : List (List ℕ × Bool)
certain_lines =
    (codes "scan.scan.clear", true)
    ∷ (codes "div.all.clear", true)
    ∷ (codes "scan.div.scan.clear", false)
    ∷ []

-- Every line comes out as it stands here.
abbrev pub Worked : Type 0
Worked = (map (λ l. carries l.0 l.1) carrying_lines ≡ map (λ l. Some l.2) carrying_lines) × (map (λ l. always_true l.0) certain_lines ≡ map (λ l. Some l.1) certain_lines)
