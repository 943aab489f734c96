-- One entrant more, whose number is compared with those before it.
use Rattle.std.proofs.Common.{◌≡◌, ◌∙◌, sym, ap, ℕ, ◌+◌, ◌<◌, length, get_or, take, drop, map, Bool, cond, List, [], ◌∷◌, ◌++◌, Option, Some}
use Rattle.std.proofs.lemmas.List.{take_more, drop_more}
use Rattle.std.specs.List.{list_any}
use Rattle.gl_task.specs.declared.task.Entrant.{Entrant}
use Rattle.gl_text.specs.Forms.{is_text}
use Rattle.gl_task.specs.Numbers.{repeated_after}
use Rattle.gl_task_file.proofs.ListLemmas.{any_map}

abbrev pub number_of : Entrant → List ℕ
number_of entrant = entrant.number

-- whether the entrant at a place has the number of an earlier one
pub one_more : (all : List Entrant) (n : ℕ) (rest others : List Entrant) (entrant : Entrant) (hit : Bool) (r : Option ℕ) → rest ≡ entrant ∷ others
    → hit ≡ list_any (λ e. is_text entrant.number e.number) (take n all) → r ≡ repeated_after (map number_of (take n all)) (n + 1) (map number_of rest)
    → r ≡ cond hit (Some (n + 1)) (repeated_after (map number_of (take n all) ++ number_of entrant ∷ []) (n + 1 + 1) (map number_of others))
one_more all n rest others entrant hit r cut hit_is decides =
    decides ∙ ap (λ (l : List Entrant). repeated_after (map number_of (take n all)) (n + 1) (map number_of l)) cut
    ∙ ap (λ (b : Bool). cond b (Some (n + 1)) (repeated_after (map number_of (take n all) ++ number_of entrant ∷ []) (n + 1 + 1) (map number_of others)))
    (any_map (is_text entrant.number) number_of (take n all) ∙ sym hit_is)

-- the entrants before the next place
pub taken_more : (all rest others : List Entrant) (n : ℕ) (entrant : Entrant) → n < length all → rest ≡ drop n all → rest ≡ entrant ∷ others → take (n + 1) all ≡ take n all ++ entrant ∷ []
taken_more all rest others n entrant within is cut =
    take_more all n entrant within ∙ ap (λ (e : Entrant). take n all ++ e ∷ []) (ap (λ (l : List Entrant). get_or l 0 entrant) (sym (drop_more all n entrant within) ∙ sym is ∙ cut))

pub dropped_more : (all rest others : List Entrant) (n : ℕ) (entrant : Entrant) → n < length all → rest ≡ drop n all → rest ≡ entrant ∷ others → others ≡ drop (n + 1) all
dropped_more all rest others n entrant within is cut =
    ap (λ (l : List Entrant). drop 1 l) (sym cut ∙ is ∙ drop_more all n entrant within)
