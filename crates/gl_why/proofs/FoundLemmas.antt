-- Facts of one more item of a list, and facts behind others.
use Rattle.std.proofs.Common.{◌≡◌, ◌∙◌, add-one, ap, append_assoc, refl, sym, subst, ℕ, ◌+◌, ◌-◌, ◌<◌, ◌≤◌, length, take, get_or, List, [], ◌∷◌, ◌++◌}
use Rattle.std.proofs.Math.Seq.{take-suc}
use Rattle.std.proofs.lemmas.List.{append-nil}
use Rattle.gl_goal.specs.Free.{numbers_from}
use Rattle.gl_judge.proofs.Numbers.{number-more}
use Rattle.gl_day.specs.declared.flight.Flight.{Flight}
use Rattle.gl_why.specs.Facts.{AddsFacts, AreFlown, AreFound}
use Rattle.gl_why.specs.declared.fact.Fact.{Fact}

-- of one more item
pub found-snoc : {X : Type 0} (R : X → List Fact → Type 0) (xs : List X) (x : X) (facts more : List Fact) → AreFound R xs facts → R x more → AreFound R (xs ++ x ∷ []) (facts ++ more)
found-snoc R [] x facts more are is = (more, [], is, refl, ap (λ (t : List Fact). t ++ more) are ∙ sym (append-nil more))
found-snoc R (y ∷ xs) x facts more are is =
    (are.0, are.1 ++ more, are.2, found-snoc R xs x are.1 more are.3 is, ap (λ (t : List Fact). t ++ more) are.4 ∙ append_assoc are.0 are.1 more)

-- of the next item, behind those of the items before it
pub next_found : {X : Type 0} (R : X → List Fact → Type 0) (xs ys : List X) (x : X) (before so_far now : List Fact) → ys ≡ xs ++ x ∷ [] → AddsFacts (AreFound R xs) before so_far
    → AddsFacts (R x) so_far now → AddsFacts (AreFound R ys) before now
next_found {X} R xs ys x before so_far now longer told mine = (
  told.0 ++ mine.0,
  subst (λ (zs : List X). AreFound R zs (told.0 ++ mine.0)) (sym longer) (found-snoc R xs x told.0 mine.0 told.1 mine.1),
  mine.2 ∙ ap (λ (t : List Fact). t ++ mine.0) told.2 ∙ append_assoc before told.0 mine.0,
)

-- of the item at the next place of a list
pub next_item : {X : Type 0} (R : X → List Fact → Type 0) (xs : List X) (before so_far now : List Fact) (i : ℕ) (x : X) → i < length xs → x ≡ get_or xs i x → AddsFacts (AreFound R (take i xs)) before so_far
    → AddsFacts (R x) so_far now → AddsFacts (AreFound R (take (i + 1) xs)) before now
next_item {X} R xs before so_far now i x inside is told mine =
    let longer : take (i + 1) xs ≡ take i xs ++ x ∷ [] = rw add-one (take-suc xs i x inside ∙ ap (λ (z : X). take i xs ++ z ∷ []) (sym is)) in
    next_found R (take i xs) (take (i + 1) xs) x before so_far now longer told mine

-- of no item
pub none_found : {X : Type 0} (R : X → List Fact → Type 0) (xs : List X) (facts : List Fact) → xs ≡ [] → AddsFacts (AreFound R xs) facts facts
none_found {X} R xs facts none = ([], subst (λ (zs : List X). AreFound R zs []) (sym none) refl, sym (append-nil facts))

-- of two items
pub both_found : {X : Type 0} (R : X → List Fact → Type 0) (x y : X) (before so_far now : List Fact) → AddsFacts (R x) before so_far → AddsFacts (R y) so_far now
    → AddsFacts (AreFound R (x ∷ y ∷ [])) before now
both_found R x y before so_far now first second = (
  first.0 ++ (second.0 ++ []),
  (first.0, second.0 ++ [], first.1, (second.0, [], second.1, refl, refl), refl),
  second.2 ∙ ap (λ (t : List Fact). t ++ second.0) first.2 ∙ append_assoc before first.0 second.0 ∙ ap (λ (t : List Fact). before ++ (first.0 ++ t)) (sym (append-nil second.0)),
)

-- one number more
pub numbers-more : (first i : ℕ) → first ≤ i → numbers_from first (i + 1 - first) ≡ numbers_from first (i - first) ++ i ∷ []
numbers-more first i low = sym (number-more first i (numbers_from first (i - first)) (numbers_from first (i - first) ++ i ∷ []) low refl refl)

-- facts behind others, and more behind these
pub two_added : (R S : List Fact → Type 0) (before so_far now : List Fact) → (told : AddsFacts R before so_far) → (mine : AddsFacts S so_far now) → now ≡ before ++ (told.0 ++ mine.0)
two_added R S before so_far now told mine = mine.2 ∙ ap (λ (t : List Fact). t ++ mine.0) told.2 ∙ append_assoc before told.0 mine.0

-- of one more item, with its flight
pub flown-snoc : {X : Type 0} (R : X → Flight → List Fact → Type 0) (xs : List X) (x : X) (flights : List Flight) (flight : Flight) (facts more : List Fact) → AreFlown R xs flights facts → R x flight more
    → AreFlown R (xs ++ x ∷ []) (flights ++ flight ∷ []) (facts ++ more)
flown-snoc R [] x flights flight facts more are is =
    (flight, [], more, [], is, (refl, refl), ap (λ (t : List Flight). t ++ flight ∷ []) are.0, ap (λ (t : List Fact). t ++ more) are.1 ∙ sym (append-nil more))
flown-snoc R (y ∷ xs) x flights flight facts more are is = (
  are.0,
  are.1 ++ flight ∷ [],
  are.2,
  are.3 ++ more,
  are.4,
  flown-snoc R xs x are.1 flight are.3 more are.5 is,
  ap (λ (t : List Flight). t ++ flight ∷ []) are.6,
  ap (λ (t : List Fact). t ++ more) are.7 ∙ append_assoc are.2 are.3 more,
)

-- of the item at the next place of a list, with its flight
pub next_flown : {X : Type 0} (R : X → Flight → List Fact → Type 0) (xs : List X) (flights longer_flights : List Flight) (before so_far now : List Fact) (i : ℕ) (x : X) (flight : Flight) → i < length xs
    → x ≡ get_or xs i x → AddsFacts (AreFlown R (take i xs) flights) before so_far → AddsFacts (R x flight) so_far now → longer_flights ≡ flights ++ flight ∷ []
    → AddsFacts (AreFlown R (take (i + 1) xs) longer_flights) before now
next_flown {X} R xs flights longer_flights before so_far now i x flight inside is told mine pushed =
    let longer : take (i + 1) xs ≡ take i xs ++ x ∷ [] = rw add-one (take-suc xs i x inside ∙ ap (λ (z : X). take i xs ++ z ∷ []) (sym is)) in (
      told.0 ++ mine.0,
      subst (λ (zs : List X). AreFlown R zs longer_flights (told.0 ++ mine.0)) (sym longer)
          (subst (λ (fs : List Flight). AreFlown R (take i xs ++ x ∷ []) fs (told.0 ++ mine.0)) (sym pushed) (flown-snoc R (take i xs) x flights flight told.0 mine.0 told.1 mine.1)),
      mine.2 ∙ ap (λ (t : List Fact). t ++ mine.0) told.2 ∙ append_assoc before told.0 mine.0,
    )

-- facts behind others of which less is said
pub adds_weaker : (R S : List Fact → Type 0) (before now : List Fact) → ((facts : List Fact) → R facts → S facts) → AddsFacts R before now → AddsFacts S before now
adds_weaker R S before now weaker told = (told.0, weaker told.0 told.1, told.2)
