-- What moves do together, judged at one state. Assumes nothing.
use Rattle.std.specs.Prelude.{◌≡◌, ℕ, Bool, true, cond, not, ◌&&◌, ◌||◌, List, [], ◌∷◌}
use Rattle.std.specs.List.{flat_map, list_any}
use Rattle.depots.specs.Tables.{Effect}
use Rattle.walkthroughs.specs.Depots.{Depot, State, effect_of, move_of, truth_of}

-- Some entry of a list passes a test.
abbrev pub any : {X : Type 0} → (X → Bool) → List X → Bool
any = list_any

-- What an effect has in one of its two lists, if it fires: if its condition is true at the state.
abbrev pub fires : Depot → State → (Effect → List ℕ) → Effect → List ℕ
fires d s list e = cond (truth_of d s e.condition) (list e) []

-- What effect e of the move m sets if it fires.
abbrev pub settings_at : Depot → State → ℕ → ℕ → List ℕ
settings_at d s m e = fires d s (λ x. x.settings) (effect_of d m e)

-- What it strikes if it fires.
abbrev pub strikes_at : Depot → State → ℕ → ℕ → List ℕ
strikes_at d s m e = fires d s (λ x. x.strikes) (effect_of d m e)

-- What the fired effects of a move have in one of their two lists.
unfoldable pub fired_by : Depot → State → (Effect → List ℕ) → ℕ → List ℕ
fired_by d s list m = flat_map (fires d s list) (move_of d m).effects

-- What the fired effects of some moves have in one of their two lists.
abbrev pub fired : Depot → State → (Effect → List ℕ) → List ℕ → List ℕ
fired d s list moves = flat_map (fired_by d s list) moves

-- The facts that moves add: each fact that they set, which carries itself, and every fact that it carries.
abbrev pub adds : Depot → State → List ℕ → ℕ → Bool
adds d s moves f = any (λ g. d.carries g f) (fired d s (λ e. e.settings) moves)

-- The facts that moves remove: each fact that they strike, which carries itself, and every fact that carries it.
abbrev pub removes : Depot → State → List ℕ → ℕ → Bool
removes d s moves f = any (λ g. d.carries f g) (fired d s (λ e. e.strikes) moves)

-- The facts after some moves, judged at a state: the strikes remove, then the settings add.
unfoldable pub after : Depot → State → List ℕ → State
after d s moves f = adds d s moves f || (s f && not (removes d s moves f))

-- Some setting carries some strike.
abbrev pub clash : Depot → List ℕ → List ℕ → Bool
clash d settings strikes = any (λ g. any (λ f. d.carries g f) strikes) settings

-- Moves are contradictory (their effects are): a fired effect sets a fact that carries a fact struck by a fired effect, be
-- it of another move, of the same one, or the same effect.
abbrev pub contradictory : Depot → State → List ℕ → Bool
contradictory d s moves = clash d (fired d s (λ e. e.settings) moves) (fired d s (λ e. e.strikes) moves)

-- The facts after moves that are done one by one, each judged at what those before it left.
abbrev pub one_by_one : Depot → State → List ℕ → State
one_by_one d s [] = s
one_by_one d s (m ∷ moves) = one_by_one d (after d s (m ∷ [])) moves

-- Facts are closed under carrying: a fact that stands has every fact that it carries standing.
abbrev pub Closed : Depot → State → Type 0
Closed d s = (f g : ℕ) → s f ≡ true → d.carries f g ≡ true → s g ≡ true

-- The facts at the start: the started facts, which carry themselves, and every fact that they carry.
abbrev pub start_of : Depot → State
start_of d f = any (λ g. d.carries g f) d.started
