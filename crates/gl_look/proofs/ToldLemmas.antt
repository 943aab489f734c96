-- What is remarked of entrants, one after the other.
use Rattle.std.proofs.Common.{◌≡◌, ◌∙◌, ℕ, ◌+◌, ◌<◌, add-one, ap, append_assoc, refl, sym, subst, List, [], ◌∷◌, ◌++◌, length, take, get_or}
use Rattle.std.proofs.Math.Seq.{take-suc}
use Rattle.std.proofs.lemmas.List.{append-nil}
use Rattle.gl_task.specs.declared.task.Entrant.{Entrant}
use Rattle.gl_look.specs.Flights.{AddsTold, AreTold}
use Rattle.gl_look.specs.declared.told.Told.{Told}

-- of one more entrant
pub told-snoc : (R : Entrant → List Told → Type 0) (xs : List Entrant) (x : Entrant) (told more : List Told) → AreTold R xs told → R x more → AreTold R (xs ++ x ∷ []) (told ++ more)
told-snoc R [] x told more are is = (more, [], is, refl, ap (λ (t : List Told). t ++ more) are ∙ sym (append-nil more))
told-snoc R (y ∷ xs) x told more are is =
    (are.0, are.1 ++ more, are.2, told-snoc R xs x are.1 more are.3 is, ap (λ (t : List Told). t ++ more) are.4 ∙ append_assoc are.0 are.1 more)

-- of the next one of a list
pub next_told : (R : Entrant → List Told → Type 0) (xs : List Entrant) (before so_far now : List Told) (i : ℕ) (x : Entrant) → i < length xs → x ≡ get_or xs i x → AddsTold (AreTold R (take i xs)) before so_far
    → AddsTold (R x) so_far now → AddsTold (AreTold R (take (i + 1) xs)) before now
next_told R xs before so_far now i x inside is told mine =
    let longer : take (i + 1) xs ≡ take i xs ++ x ∷ [] = rw add-one (take-suc xs i x inside ∙ ap (λ (z : Entrant). take i xs ++ z ∷ []) (sym is)) in (
      told.0 ++ mine.0,
      subst (λ (zs : List Entrant). AreTold R zs (told.0 ++ mine.0)) (sym longer) (told-snoc R (take i xs) x told.0 mine.0 told.1 mine.1),
      mine.2 ∙ ap (λ (t : List Told). t ++ mine.0) told.2 ∙ append_assoc before told.0 mine.0,
    )
