-- The rules of a list of two stewards.
use Rattle.std.proofs.Common.{◌≡◌, ◌∙◌, sym, ap, subst, List, [], ◌∷◌, ◌++◌, map}
use Rattle.gl_day.specs.Flight.{StewardRules}

-- what is so of any value at a place is so of a value at a place that is the same
pub at_place : {X : Type 0} {F : X → Type 0} {B : Type 0} (rules : (v : X) → F v → B) (v w : X) (value : F v) (known : B) → v ≡ w → ((other : F w) → rules w other ≡ known) → rules v value ≡ known
at_place {F = F} rules v w value known same all = subst (λ x. (other : F x) → rules x other ≡ known) (sym same) all value

-- the rules of a list to which two were added
pub two_rules : {A : Type 0} (rules : A → StewardRules) (none one two : List A) (first second : A) → none ≡ [] → one ≡ none ++ first ∷ [] → two ≡ one ++ second ∷ []
    → (known other : StewardRules) → rules first ≡ known → rules second ≡ other → map rules two ≡ known ∷ other ∷ []
two_rules rules none one two first second is_none is_one is_two known other is_known is_other =
    ap (map rules) (is_two ∙ ap (λ list. list ++ second ∷ []) (is_one ∙ ap (λ list. list ++ first ∷ []) is_none))
    ∙ ap (λ head. head ∷ rules second ∷ []) is_known ∙ ap (λ last. known ∷ last ∷ []) is_other
