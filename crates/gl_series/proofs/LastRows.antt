-- The rows whose numbers no later day has: each number of the days stands among them once.
use Rattle.std.proofs.Common.{◌≡◌, ◌≢◌, ◌∙◌, sym, ap, subst, refl, ℕ, suc, ◌+◌, ◌*◌, ◌<◌, ◌≤◌, Bool, true, false, ◌||◌, List, [], ◌∷◌, ◌++◌, length, map, get_or, take, arith, ⊎_elim}
use Rattle.std.specs.Prelude.{All, AllPairs, Contains, cond, count_by, filter, not}
use Rattle.std.proofs.lemmas.Bool.{cases_Bool, false≢true, or_parts}
use Rattle.std.proofs.lemmas.List.{append-nil, append_assoc, length-append, map_push, take_more}
use Rattle.std.proofs.lemmas.List.Elements.{All-append, All-cons, All-head, All-nil, All-tail, All-weaker, filter-append}
use Rattle.std.proofs.lemmas.List.Folds.{list_any_at}
use Rattle.std.proofs.lemmas.List.Sums.{count_by-le-length, length-filter, sum_by-append, sum_by-cons}
use Rattle.gl_series.specs.declared.day.DayRow.{DayRow}
use Rattle.gl_series.specs.declared.day.DaySheet.{DaySheet}
use Rattle.gl_text.specs.Forms.{is_text}
use Rattle.gl_series.specs.Code.Tallies.{has_number, is_in_days, last_rows}
use Rattle.gl_series.specs.Totals.{IsDay, IsLastName}
use Rattle.gl_series.proofs.Beside.{text_apart, text_is, text_not, text_same}
use Rattle.gl_series.proofs.Growing.{pairs_head, pairs_tail}

-- one item more
pub map_more : {X Y : Type 0} (f : X → Y) (xs : List X) (i : ℕ) (x : X) → i < length xs → x ≡ get_or xs i x → map f (take (i + 1) xs) ≡ map f (take i xs) ++ f x ∷ []
map_more f xs i x inside at =
    ap (map f) (take_more xs i x inside ∙ ap (λ y. take i xs ++ y ∷ []) (sym at)) ∙ map_push f (take i xs) x

-- one item more of those that are kept, and one that isn't
filter_more : {X : Type 0} (keeps : X → Bool) (xs : List X) (i : ℕ) (x : X) → i < length xs → x ≡ get_or xs i x → filter keeps (take (i + 1) xs) ≡ filter keeps (take i xs) ++ filter keeps (x ∷ [])
filter_more keeps xs i x inside at =
    ap (filter keeps) (take_more xs i x inside ∙ ap (λ y. take i xs ++ y ∷ []) (sym at)) ∙ filter-append keeps (take i xs) (x ∷ [])

pub one_kept : {X : Type 0} (keeps : X → Bool) (before some more xs : List X) (i : ℕ) (x : X) → i < length xs → x ≡ get_or xs i x → keeps x ≡ true → some ≡ before ++ filter keeps (take i xs)
    → more ≡ some ++ x ∷ [] → more ≡ before ++ filter keeps (take (i + 1) xs)
one_kept {X} keeps before some more xs i x inside at keep so_far pushed =
    let here : filter keeps (x ∷ []) ≡ x ∷ [] = rw keep in
    pushed ∙ ap (λ (l : List X). l ++ x ∷ []) so_far ∙ append_assoc before (filter keeps (take i xs)) (x ∷ []) ∙ ap (λ (l : List X). before ++ (filter keeps (take i xs) ++ l)) (sym here)
    ∙ ap (λ (l : List X). before ++ l) (sym (filter_more keeps xs i x inside at))

pub one_left : {X : Type 0} (keeps : X → Bool) (before some xs : List X) (i : ℕ) (x : X) → i < length xs → x ≡ get_or xs i x → keeps x ≡ false → some ≡ before ++ filter keeps (take i xs)
    → some ≡ before ++ filter keeps (take (i + 1) xs)
one_left {X} keeps before some xs i x inside at leave so_far =
    let here : filter keeps (x ∷ []) ≡ [] = rw leave in
    so_far ∙ ap (λ (l : List X). before ++ l) (sym (append-nil (filter keeps (take i xs)))) ∙ ap (λ (l : List X). before ++ (filter keeps (take i xs) ++ l)) (sym here)
    ∙ ap (λ (l : List X). before ++ l) (sym (filter_more keeps xs i x inside at))

not_true : (b : Bool) → not b ≡ true → b ≡ false
not_true false is = refl
not_true true is = absurd (false≢true is)

-- the items that a test keeps
kept : {X : Type 0} (p : X → Bool) (Q : X → Type 0) (xs : List X) → ((x : X) → Contains xs x → p x ≡ true → Q x) → All Q (filter p xs)
kept p Q [] each = All-nil Q
kept p Q (x ∷ xs) each =
    let rest = kept p Q xs (λ y has is. each y (suc has.0, omega (arith, has.1), has.2) is) in
    ⊎_elim
    (λ (is : p x ≡ true). subst (λ (b : Bool). All Q (cond b (x ∷ filter p xs) (filter p xs))) (sym is) (All-cons Q x (filter p xs) (each x (0, omega arith, refl) is) rest))
    (λ (is : p x ≡ false). subst (λ (b : Bool). All Q (cond b (x ∷ filter p xs) (filter p xs))) (sym is) rest)
    (cases_Bool (p x))

not_in_rows : (number : List ℕ) (rows : List DayRow) → has_number number rows ≡ false → All (λ row. row.number ≢ number) rows
not_in_rows number [] lacks = All-nil (λ row. row.number ≢ number)
not_in_rows number (row ∷ rows) lacks =
    let both = or_parts (is_text number row.number) (has_number number rows) lacks in
    All-cons (λ other. other.number ≢ number) row rows (λ same. text_apart number row.number both.0 (sym same)) (not_in_rows number rows both.1)

not_in_days : (number : List ℕ) (days : List DaySheet) → is_in_days number days ≡ false → All (λ day. All (λ row. row.number ≢ number) day.rows) days
not_in_days number [] lacks = All-nil (λ day. All (λ row. row.number ≢ number) day.rows)
not_in_days number (day ∷ days) lacks =
    let both = or_parts (has_number number day.rows) (is_in_days number days) lacks in
    All-cons (λ other. All (λ row. row.number ≢ number) other.rows) day days (not_in_rows number day.rows both.0) (not_in_days number days both.1)

abbrev IsNamed : List DaySheet → DayRow → Type 0
IsNamed days row = IsLastName days row.number row.name

-- each of them has the name of the last day
pub last_named : (days : List DaySheet) → All (IsNamed days) (last_rows days)
last_named [] = All-nil (IsNamed [])
last_named (day ∷ days) =
    let p : DayRow → Bool = λ row. not (is_in_days row.number days) in
    All-append (IsNamed (day ∷ days)) (filter p day.rows) (last_rows days)
    (kept p (IsNamed (day ∷ days)) day.rows (λ row has is. record {
      front = [];
      last = day;
      behind = days;
      row = row;
      parts = refl;
      has = has;
      number_is = refl;
      name_is = refl;
      no_later = not_in_days row.number days (not_true (is_in_days row.number days) is);
    }))
    (All-weaker (IsNamed days) (IsNamed (day ∷ days)) (λ row named. record {
      front = day ∷ named.front;
      last = named.last;
      behind = named.behind;
      row = named.row;
      parts = ap (λ (ds : List DaySheet). day ∷ ds) named.parts;
      has = named.has;
      number_is = named.number_is;
      name_is = named.name_is;
      no_later = named.no_later;
    }) (last_rows days) (last_named days))

-- how many there are
abbrev EachDay : List DaySheet → Type 0
EachDay days = All (λ day. IsDay day.rows) days

pub last_few : (days : List DaySheet) → EachDay days → length (last_rows days) ≤ length days * 200
last_few [] each = omega arith
last_few (day ∷ days) each =
    let p : DayRow → Bool = λ row. not (is_in_days row.number days) in
    let here = (All-head (λ d. IsDay d.rows) day days each).few in
    omega (arith, here, last_few days (All-tail (λ d. IsDay d.rows) day days each), length-append (filter p day.rows) (last_rows days), length-filter p day.rows, count_by-le-length p day.rows)

-- a number among rows, counted
module _ (number : List ℕ) where
  abbrev is_row : DayRow → Bool
  is_row row = is_text number row.number

  abbrev worth : DayRow → ℕ
  worth row = cond (is_row row) 1 0

  none_counted : (rows : List DayRow) → All (λ row. row.number ≢ number) rows → count_by is_row rows ≡ 0
  none_counted [] none = refl
  none_counted (row ∷ rows) none =
      let lacks : is_row row ≡ false = text_not number row.number (λ same. All-head (λ r. r.number ≢ number) row rows none (sym same)) in
      let nothing : worth row ≡ 0 = ap (λ (b : Bool). cond b 1 0) lacks in
      omega (arith, nothing, sum_by-cons worth row rows, none_counted rows (All-tail (λ r. r.number ≢ number) row rows none))

  rows_counted : (rows : List DayRow) → AllPairs (λ one other. one.number ≢ other.number) rows → count_by is_row rows ≡ cond (has_number number rows) 1 0
  rows_counted [] differ = refl
  rows_counted (row ∷ rows) differ =
      ⊎_elim
      (λ (is : is_row row ≡ true).
      let apart : All (λ r. r.number ≢ number) rows = All-weaker (λ r. row.number ≢ r.number) (λ r. r.number ≢ number) (λ r away same. away (sym (text_same number row.number is) ∙ sym same)) rows
      (pairs_head (λ one other. one.number ≢ other.number) row rows differ) in
      let one : worth row ≡ 1 = ap (λ (b : Bool). cond b 1 0) is in
      let whole : count_by is_row (row ∷ rows) ≡ 1 = omega (arith, one, sum_by-cons worth row rows, none_counted rows apart) in
      whole ∙ sym (ap (λ (b : Bool). cond (b || has_number number rows) 1 0) is))
      (λ (is : is_row row ≡ false).
      let nothing : worth row ≡ 0 = ap (λ (b : Bool). cond b 1 0) is in
      let rest = rows_counted rows (pairs_tail (λ one other. one.number ≢ other.number) row rows differ) in
      let whole : count_by is_row (row ∷ rows) ≡ count_by is_row rows = omega (arith, nothing, sum_by-cons worth row rows) in
      whole ∙ rest ∙ sym (ap (λ (b : Bool). cond (b || has_number number rows) 1 0) is))
      (cases_Bool (is_row row))

  module _ (days : List DaySheet) where
    abbrev is_last : DayRow → Bool
    is_last row = not (is_in_days row.number days)

    abbrev rest_of : DayRow → List DayRow → Bool → List DayRow
    rest_of row rows b = cond b (row ∷ filter is_last rows) (filter is_last rows)

    later_counted : is_in_days number days ≡ true → (rows : List DayRow) → count_by is_row (filter is_last rows) ≡ 0
    later_counted later [] = refl
    later_counted later (row ∷ rows) =
        ⊎_elim
        (λ (is : is_row row ≡ true).
        let gone : is_last row ≡ false = ap (λ (n : List ℕ). not (is_in_days n days)) (sym (text_same number row.number is)) ∙ ap not later in
        ap (λ (b : Bool). count_by is_row (rest_of row rows b)) gone ∙ later_counted later rows)
        (λ (is : is_row row ≡ false).
        let nothing : worth row ≡ 0 = ap (λ (b : Bool). cond b 1 0) is in
        ⊎_elim
        (λ (stays : is_last row ≡ true).
        ap (λ (b : Bool). count_by is_row (rest_of row rows b)) stays ∙ sum_by-cons worth row (filter is_last rows) ∙ (λ i. nothing i + later_counted later rows i))
        (λ (goes : is_last row ≡ false). ap (λ (b : Bool). count_by is_row (rest_of row rows b)) goes ∙ later_counted later rows)
        (cases_Bool (is_last row)))
        (cases_Bool (is_row row))

    last_counted : is_in_days number days ≡ false → (rows : List DayRow) → count_by is_row (filter is_last rows) ≡ count_by is_row rows
    last_counted last [] = refl
    last_counted last (row ∷ rows) =
        ⊎_elim
        (λ (is : is_row row ≡ true).
        let stays : is_last row ≡ true = ap (λ (n : List ℕ). not (is_in_days n days)) (sym (text_same number row.number is)) ∙ ap not last in
        ap (λ (b : Bool). count_by is_row (rest_of row rows b)) stays ∙ sum_by-cons worth row (filter is_last rows) ∙ ap (λ (n : ℕ). worth row + n) (last_counted last rows)
        ∙ sym (sum_by-cons worth row rows))
        (λ (is : is_row row ≡ false).
        let nothing : worth row ≡ 0 = ap (λ (b : Bool). cond b 1 0) is in
        let same : count_by is_row rows ≡ count_by is_row (row ∷ rows) = omega (arith, nothing, sum_by-cons worth row rows) in
        ⊎_elim
        (λ (stays : is_last row ≡ true).
        ap (λ (b : Bool). count_by is_row (rest_of row rows b)) stays ∙ sum_by-cons worth row (filter is_last rows) ∙ ap (λ (n : ℕ). worth row + n) (last_counted last rows)
        ∙ sym (sum_by-cons worth row rows))
        (λ (goes : is_last row ≡ false). ap (λ (b : Bool). count_by is_row (rest_of row rows b)) goes ∙ last_counted last rows ∙ same)
        (cases_Bool (is_last row)))
        (cases_Bool (is_row row))

  -- among the rows of the last days it stands once, where it stands in a day at all
  pub number_counted : (days : List DaySheet) → EachDay days → count_by is_row (last_rows days) ≡ cond (is_in_days number days) 1 0
  number_counted [] each = refl
  number_counted (day ∷ days) each =
      let differ = (All-head (λ d. IsDay d.rows) day days each).numbers_differ in
      let rest = number_counted days (All-tail (λ d. IsDay d.rows) day days each) in
      let parts = sum_by-append worth (filter (is_last days) day.rows) (last_rows days) in
      ⊎_elim
      (λ (later : is_in_days number days ≡ true).
      let none = later_counted days later day.rows in
      let one : count_by is_row (last_rows days) ≡ 1 = rest ∙ ap (λ (b : Bool). cond b 1 0) later in
      let whole : count_by is_row (last_rows (day ∷ days)) ≡ 1 = omega (arith, parts, none, one) in
      let found : (has_number number day.rows || is_in_days number days) ≡ true = either_true (has_number number day.rows) (is_in_days number days) later in
      whole ∙ sym (ap (λ (b : Bool). cond b 1 0) found))
      (λ (last : is_in_days number days ≡ false).
      let here = last_counted days last day.rows ∙ rows_counted day.rows differ in
      let none : count_by is_row (last_rows days) ≡ 0 = rest ∙ ap (λ (b : Bool). cond b 1 0) last in
      let whole : count_by is_row (last_rows (day ∷ days)) ≡ cond (has_number number day.rows) 1 0 = omega (arith, parts, here, none) in
      let found : (has_number number day.rows || is_in_days number days) ≡ has_number number day.rows = ap (λ (b : Bool). has_number number day.rows || b) last
      ∙ or_false (has_number number day.rows) in
      whole ∙ sym (ap (λ (b : Bool). cond b 1 0) found))
      (cases_Bool (is_in_days number days))
    where
      either_true : (a b : Bool) → b ≡ true → (a || b) ≡ true
      either_true false b is = is
      either_true true b is = refl

      or_false : (a : Bool) → (a || false) ≡ a
      or_false false = refl
      or_false true = refl

-- a row of a day is found
pub row_found : (days : List DaySheet) (day : DaySheet) (row : DayRow) → Contains days day → Contains day.rows row → is_in_days row.number days ≡ true
row_found days day row has_day has_row =
    let in_rows : has_number row.number day.rows ≡ true = list_any_at (λ other. is_text row.number other.number) day.rows has_row.0 row has_row.1
    (text_is row.number (get_or day.rows has_row.0 row).number (ap (λ (r : DayRow). r.number) (sym has_row.2))) in
    list_any_at (λ other. has_number row.number other.rows) days has_day.0 day has_day.1 (ap (λ (d : DaySheet). has_number row.number d.rows) has_day.2 ∙ in_rows)
