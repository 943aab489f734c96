-- Facts of an answer, and lists of them.
use Rattle.std.specs.Prelude.{◌≡◌, ℕ, ◌++◌, Bool, true, false, List, [], ◌∷◌}
use Rattle.gl_day.specs.declared.flight.Flight.{Flight}
use Rattle.gl_why.specs.declared.fact.Fact as code
use Rattle.gl_why.specs.declared.fact.Fact.TheVariants as fact
use Rattle.gl_why.specs.declared.fact.Obstacle as code_obstacle

-- a fact is that a file can't be used
abbrev pub is_refusal : code.Fact → Bool
is_refusal (fact.Refused file why) = true
is_refusal other = false

abbrev pub refused : List ℕ → code_obstacle.Obstacle → code.Fact
refused file why = fact.Refused file why

-- facts that are told behind others, of which this holds
abbrev pub AddsFacts : (List code.Fact → Type 0) → List code.Fact → List code.Fact → Type 0
AddsFacts R before after = (facts : List code.Fact) × R facts × (after ≡ before ++ facts)

-- facts of each item of a list, in their order
abbrev pub AreFound : {X : Type 0} → (X → List code.Fact → Type 0) → List X → List code.Fact
    → Type 0
AreFound R [] facts = facts ≡ []
AreFound R (x ∷ xs) facts =
    (first : List code.Fact) × (more : List code.Fact) × R x first × AreFound R xs more
    × (facts ≡ first ++ more)

-- facts of each item of a list, and a flight of each, in their order
abbrev pub AreFlown : {X : Type 0} → (X → Flight → List code.Fact → Type 0) → List X → List Flight
    → List code.Fact → Type 0
AreFlown R [] flights facts = (flights ≡ []) × (facts ≡ [])
AreFlown R (x ∷ xs) flights facts =
    (flight : Flight) × (rest : List Flight) × (first : List code.Fact) × (more : List code.Fact)
    × R x flight first × AreFlown R xs rest more × (flights ≡ flight ∷ rest)
    × (facts ≡ first ++ more)
