-- A number among rows.
use Rattle.std.proofs.Common.{◌≡◌, ◌≢◌, ◌∙◌, sym, ap, refl, ℕ, zero, suc, ◌<◌, Bool, true, false, List, [], ◌∷◌, length, get_or, arith, ⊎_elim}
use Rattle.std.specs.Prelude.{All, AllPairs, Contains, if◌then◌else◌}
use Rattle.std.specs.Cmp.Lexicographic.{other_text, same_text}
use Rattle.std.proofs.lemmas.Bool.{cases_Bool}
use Rattle.std.proofs.lemmas.List.Elements.{All-head, All-tail}
use Rattle.gl_series.specs.declared.day.DayRow.{DayRow}
use Rattle.gl_series.specs.declared.standing.Total.{Total}
use Rattle.gl_series.specs.Choices.{points_beside}
use Rattle.gl_text.specs.Forms.{is_text}
use Rattle.gl_series.specs.Totals.{total_beside}
use Rattle.gl_series.proofs.Growing.{pairs_tail}

-- two texts have the same bytes where they are the same
pub text_is : (one other : List ℕ) → one ≡ other → is_text one other ≡ true
text_is one other same =
    ⊎_elim
    (λ (is : is_text one other ≡ true). is)
    (λ (apart : is_text one other ≡ false). absurd (other_text one other (sym apart) same))
    (cases_Bool (is_text one other))

pub text_same : (one other : List ℕ) → is_text one other ≡ true → one ≡ other
text_same one other is = same_text one other (sym is)

pub text_apart : (one other : List ℕ) → is_text one other ≡ false → one ≢ other
text_apart one other is = other_text one other (sym is)

pub text_not : (one other : List ℕ) → one ≢ other → is_text one other ≡ false
text_not one other apart =
    ⊎_elim
    (λ (is : is_text one other ≡ true). absurd (apart (text_same one other is)))
    (λ (is : is_text one other ≡ false). is)
    (cases_Bool (is_text one other))

-- a number that stands once among rows
points_at : (number : List ℕ) (rows : List DayRow) (row : DayRow) (k : ℕ) → AllPairs (λ one other. one.number ≢ other.number) rows → k < length rows → get_or rows k row ≡ row → row.number ≡ number
    → points_beside number rows ≡ row.points
points_at number [] row k apart inside at is = absurd (omega (arith, inside))
points_at number (r ∷ rows) row zero apart inside at is =
    let found : is_text number r.number ≡ true = text_is number r.number (sym is ∙ ap (λ (one : DayRow). one.number) (sym at)) in
    ap (λ (b : Bool). if b then r.points else points_beside number rows) found ∙ ap (λ (one : DayRow). one.points) at
points_at number (r ∷ rows) row (suc k) apart inside at is =
    let away : r.number ≢ (get_or rows k row).number = apart 0 (suc k) row (omega arith) inside in
    let other : is_text number r.number ≡ false = text_not number r.number (λ same. away (sym same ∙ sym is ∙ ap (λ (one : DayRow). one.number) (sym at))) in
    ap (λ (b : Bool). if b then r.points else points_beside number rows) other
    ∙ points_at number rows row k (pairs_tail (λ (one other : DayRow). one.number ≢ other.number) r rows apart) (omega (arith, inside)) at is

pub points_there : (number : List ℕ) (rows : List DayRow) (row : DayRow) → AllPairs (λ one other. one.number ≢ other.number) rows → Contains rows row → row.number ≡ number
    → points_beside number rows ≡ row.points
points_there number rows row apart has is = points_at number rows row has.0 apart has.1 has.2 is

pub points_none : (number : List ℕ) (rows : List DayRow) → All (λ row. row.number ≢ number) rows → points_beside number rows ≡ 0
points_none number [] none = refl
points_none number (r ∷ rows) none =
    let other : is_text number r.number ≡ false = text_not number r.number (λ same. All-head (λ (row : DayRow). row.number ≢ number) r rows none (sym same)) in
    ap (λ (b : Bool). if b then r.points else points_beside number rows) other ∙ points_none number rows (All-tail (λ (row : DayRow). row.number ≢ number) r rows none)

-- a number among pilots
total_at : (number : List ℕ) (pilots : List Total) (pilot : Total) (k : ℕ) → AllPairs (λ one other. one.number ≢ other.number) pilots → k < length pilots → get_or pilots k pilot ≡ pilot
    → pilot.number ≡ number → total_beside number pilots ≡ pilot.total
total_at number [] pilot k apart inside at is = absurd (omega (arith, inside))
total_at number (p ∷ pilots) pilot zero apart inside at is =
    let found : is_text number p.number ≡ true = text_is number p.number (sym is ∙ ap (λ (one : Total). one.number) (sym at)) in
    ap (λ (b : Bool). if b then p.total else total_beside number pilots) found ∙ ap (λ (one : Total). one.total) at
total_at number (p ∷ pilots) pilot (suc k) apart inside at is =
    let away : p.number ≢ (get_or pilots k pilot).number = apart 0 (suc k) pilot (omega arith) inside in
    let other : is_text number p.number ≡ false = text_not number p.number (λ same. away (sym same ∙ sym is ∙ ap (λ (one : Total). one.number) (sym at))) in
    ap (λ (b : Bool). if b then p.total else total_beside number pilots) other
    ∙ total_at number pilots pilot k (pairs_tail (λ (one other : Total). one.number ≢ other.number) p pilots apart) (omega (arith, inside)) at is

pub total_there : (number : List ℕ) (pilots : List Total) (pilot : Total) → AllPairs (λ one other. one.number ≢ other.number) pilots → Contains pilots pilot → pilot.number ≡ number
    → total_beside number pilots ≡ pilot.total
total_there number pilots pilot apart has is = total_at number pilots pilot has.0 apart has.1 has.2 is

pub total_none : (number : List ℕ) (pilots : List Total) → All (λ pilot. pilot.number ≢ number) pilots → total_beside number pilots ≡ 0
total_none number [] none = refl
total_none number (p ∷ pilots) none =
    let other : is_text number p.number ≡ false = text_not number p.number (λ same. All-head (λ (pilot : Total). pilot.number ≢ number) p pilots none (sym same)) in
    ap (λ (b : Bool). if b then p.total else total_beside number pilots) other ∙ total_none number pilots (All-tail (λ (pilot : Total). pilot.number ≢ number) p pilots none)
