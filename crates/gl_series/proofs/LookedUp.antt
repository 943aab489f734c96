-- What a day in the order of its numbers says of a number.
use Rattle.std.proofs.Common.{Bor, ◌≡◌, ◌≢◌, ◌∙◌, sym, ap, refl, ℕ, Bool, true, false, ◌||◌, List, [], ◌∷◌, get_or, Option, Some, None}
use Rattle.std.specs.Prelude.{All, Contains, MatchOption, is_some}
use Rattle.std.proofs.lemmas.List.Elements.{All-head, All-tail}
use Rattle.std.proofs.lemmas.List.Folds.{list_any_at}
use Rattle.gl_series.specs.declared.day.DayRow.{DayRow}
use Rattle.gl_text.specs.Forms.{is_text}
use Rattle.gl_series.specs.Code.Tallies.{has_number}
use Rattle.gl_series.proofs.Beside.{text_is, text_not}

pub has_there : (number : List ℕ) (rows : List DayRow) (row : DayRow) → Contains rows row → row.number ≡ number → has_number number rows ≡ true
has_there number rows row has is =
    list_any_at (λ other. is_text number other.number) rows has.0 row has.1 (text_is number (get_or rows has.0 row).number (sym is ∙ ap (λ (r : DayRow). r.number) (sym has.2)))

pub has_none : (number : List ℕ) (rows : List DayRow) → All (λ row. row.number ≢ number) rows → has_number number rows ≡ false
has_none number [] none = refl
has_none number (r ∷ rows) none =
    let other : is_text number r.number ≡ false = text_not number r.number (λ same. All-head (λ (row : DayRow). row.number ≢ number) r rows none (sym same)) in
    ap (λ (b : Bool). b || has_number number rows) other ∙ has_none number rows (All-tail (λ (row : DayRow). row.number ≢ number) r rows none)

pub has_found : (number : List ℕ) (rows : List DayRow) (found : Option (Bor DayRow))
    → MatchOption found (All (λ row. row.number ≢ number) rows) (λ row. Contains rows row.now × (row.now.number ≡ number)) → is_some found ≡ has_number number rows
has_found number rows None none = sym (has_none number rows none)
has_found number rows (Some row) has = sym (has_there number rows row.now has.0 has.1)
