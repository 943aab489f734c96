-- The pilots of some days, from their tallies.
use Rattle.std.proofs.Common.{Bor, ◌≡◌, ◌∙◌, sym, ap, subst, refl, ℕ, ◌+◌, ◌<◌, ◌≤◌, Bool, List, [], ◌∷◌, ◌++◌, length, map, get_or, take, drop, arith}
use Rattle.std.specs.Prelude.{All, cond, count_by, nat_lt}
use Rattle.std.specs.List.Sorted.{IsPermutation}
use Rattle.std.proofs.lemmas.List.{length-map, map_push}
use Rattle.std.proofs.lemmas.List.Elements.{All-cons, All-head, All-map, All-nil, All-push, All-tail}
use Rattle.std.proofs.lemmas.List.Sorted.{All-permutation, IsPermutation-map, IsPermutation-sym, IsPermutation-trans, sum_by-IsPermutation}
use Rattle.std.proofs.lemmas.List.Sums.{sum_by-cons}
use Rattle.gl_series.specs.declared.day.DayRow.{DayRow}
use Rattle.gl_series.specs.declared.day.DaySheet.{DaySheet}
use Rattle.gl_series.specs.declared.ordered.Ordered.{Ordered}
use Rattle.gl_series.specs.declared.pilots.Tally.{Tally}
use Rattle.gl_series.specs.declared.standing.Total.{Total}
use Rattle.gl_text.specs.Forms.{is_text}
use Rattle.gl_series.specs.Code.Tallies.{AreOrdered, AreRanked, AreTallies, AreTotals, IsTally, days_of, last_rows, pilot_of}
use Rattle.gl_series.specs.Totals.{AreDays, ArePilots, IsLastName, IsPilot, rank_of}
use Rattle.gl_series.proofs.LastRows.{last_few, last_named, map_more, number_counted, row_found}

-- what holds of what a function gives holds of each item
pub all_unmap : {X Y : Type 0} (f : X → Y) (P : Y → Type 0) (xs : List X) → All P (map f xs) → All (λ x. P (f x)) xs
all_unmap f P [] all = All-nil (λ x. P (f x))
all_unmap f P (x ∷ xs) all = All-cons (λ z. P (f z)) x xs (All-head P (f x) (map f xs) all) (all_unmap f P xs (All-tail P (f x) (map f xs) all))

-- two facts of each item
pub all_both : {X : Type 0} (P Q R : X → Type 0) (xs : List X) → ((x : X) → P x → Q x → R x) → All P xs → All Q xs → All R xs
all_both P Q R [] both one other = All-nil R
all_both P Q R (x ∷ xs) both one other =
    All-cons R x xs (both x (All-head P x xs one) (All-head Q x xs other)) (all_both P Q R xs both (All-tail P x xs one) (All-tail Q x xs other))

pub counted_map : {X Y : Type 0} (f : X → Y) (q : Y → Bool) (xs : List X) → count_by q (map f xs) ≡ count_by (λ x. q (f x)) xs
counted_map f q [] = refl
counted_map f q (x ∷ xs) =
    omega (arith, counted_map f q xs, sum_by-cons (λ y. cond (q y) 1 0) (f x) (map f xs), sum_by-cons (λ z. cond (q (f z)) 1 0) x xs)

abbrev row_of : Tally → DayRow
row_of tally = tally.row.now

abbrev total_of : Total → ℕ
total_of pilot = pilot.total

abbrev sum_of : Tally → ℕ
sum_of tally = tally.total

totals_same : (totals : List ℕ) (tallies : List Tally) → map total_of (map (pilot_of totals) tallies) ≡ map sum_of tallies
totals_same totals [] = refl
totals_same totals (tally ∷ tallies) = ap (λ (l : List ℕ). tally.total ∷ l) (totals_same totals tallies)

pub tallies_few : (days : List DaySheet) (tallies : List Tally) → AreDays days → map row_of tallies ≡ last_rows days → length tallies ≤ 6_000
tallies_few days tallies are rows =
    omega (arith, are.few, last_few days are.each, ap length rows, length-map tallies row_of)

-- ranks don't depend on the order
pub ranks_same : (some others : List ℕ) (total : ℕ) → IsPermutation some others → rank_of some total ≡ rank_of others total
ranks_same some others total moved =
    ap (λ (n : ℕ). n + 1) (sym (sum_by-IsPermutation (λ other. cond (nat_lt total other) 1 0) some others moved))

pub pilots_of : (days : List DaySheet) (drop : ℕ) (tallies : List Tally) (pilots : List Total) → AreDays days → AreTallies days drop tallies → AreRanked tallies pilots → ArePilots days drop pilots
pilots_of days drop tallies qs are tallied ranked =
    let ps = map (pilot_of ranked.totals) tallies in
    let moved = ranked.pilots_are in
    record {
      each = All-permutation (IsPilot days drop qs) ps qs moved (All-map (IsPilot days drop qs) (pilot_of ranked.totals) tallies each_one);
      once = λ day has_day row has_row.
          let number = row.number in
          let moved_count = sum_by-IsPermutation (λ pilot. cond (is_text number pilot.number) 1 0) ps qs moved in
          let made_count = counted_map (pilot_of ranked.totals) (λ pilot. is_text number pilot.number) tallies in
          let rows_count : count_by (λ other. is_text number other.number) (last_rows days) ≡ count_by (λ tally. is_text number tally.row.now.number) tallies =
          ap (count_by (λ other. is_text number other.number)) (sym tallied.totals.rows_are) ∙ counted_map row_of (λ other. is_text number other.number) tallies in
          let one = number_counted number days are.each ∙ ap (λ (b : Bool). cond b 1 0) (row_found days day row has_day has_row) in
          moved_count ∙ made_count ∙ sym rows_count ∙ one;
      in_order = ranked.in_order;
    }
  where
    Named : Tally → Type 0
    Named tally = IsLastName days tally.row.now.number tally.row.now.name

    Tallied : Tally → Type 0
    Tallied tally = IsTally days drop tally.row.now.number tally.total tally.dropped

    named : All Named tallies
    named = all_unmap row_of (λ row. IsLastName days row.number row.name) tallies (subst (All (λ row. IsLastName days row.number row.name)) (sym tallied.totals.rows_are) (last_named days))

    totals_moved : IsPermutation ranked.totals (map total_of qs)
    totals_moved =
        let ps = map (pilot_of ranked.totals) tallies in
        let made : IsPermutation (map total_of ps) (map total_of qs) = IsPermutation-map total_of ps qs ranked.pilots_are in
        IsPermutation-trans ranked.totals (map sum_of tallies) (map total_of qs) (IsPermutation-sym (map sum_of tallies) ranked.totals ranked.totals_are)
        (subst (λ (l : List ℕ). IsPermutation l (map total_of qs)) (totals_same ranked.totals tallies) made)

    each_one : All (λ tally. IsPilot days drop qs (pilot_of ranked.totals tally)) tallies
    each_one = all_both Named Tallied (λ tally. IsPilot days drop qs (pilot_of ranked.totals tally)) tallies
        (λ tally name sums. record {
          name_is = name;
          total_is = sums.total_is;
          dropped_is = sums.dropped_is;
          rank_is = ranks_same ranked.totals (map total_of qs) tally.total totals_moved;
        }) named tallied.totals.each

-- no pilot's total is greater than 30,000
pub pilots_low : (days : List DaySheet) (drop : ℕ) (tallies : List Tally) (pilots : List Total) → AreTallies days drop tallies → AreRanked tallies pilots → All (λ pilot. pilot.total ≤ 30_000) pilots
pilots_low days drop tallies pilots tallied ranked =
    let P : Total → Type 0 = λ pilot. pilot.total ≤ 30_000 in
    All-permutation P (map (pilot_of ranked.totals) tallies) pilots ranked.pilots_are (All-map P (pilot_of ranked.totals) tallies tallied.totals.low)

abbrev now_of : Bor DayRow → DayRow
now_of row = row.now

-- one tally more
pub totals_more : (days : List DaySheet) (rows : List (Bor DayRow)) (drop : ℕ) (tallies more : List Tally) (tally : Tally) (i : ℕ) → AreTotals days (map now_of (take i rows)) drop tallies
    → i < length rows → tally.row ≡ get_or rows i tally.row → IsTally days drop tally.row.now.number tally.total tally.dropped → tally.total ≤ 30_000 → more ≡ tallies ++ tally ∷ []
    → AreTotals days (map now_of (take (i + 1) rows)) drop more
totals_more days rows drop tallies more tally i are inside at is low grown =
    let P : Tally → Type 0 = λ one. IsTally days drop one.row.now.number one.total one.dropped in
    let Q : Tally → Type 0 = λ one. one.total ≤ 30_000 in
    record {
      rows_are = ap (map row_of) grown ∙ map_push row_of tallies tally ∙ ap (λ (l : List DayRow). l ++ tally.row.now ∷ []) are.rows_are ∙ sym (map_more now_of rows i tally.row inside at);
      low = subst (All Q) (sym grown) (All-push Q tallies tally are.low low);
      each = subst (All P) (sym grown) (All-push P tallies tally are.each is);
    }

-- the tallies of the rows of the last days are those of all pilots
pub tallies_all : (days : List DaySheet) (ordered : List Ordered) (rows : List DayRow) (drop : ℕ) (tallies : List Tally) → AreDays days → AreOrdered days ordered → rows ≡ last_rows (days_of ordered)
    → AreTotals (days_of ordered) rows drop tallies → AreTallies days drop tallies
tallies_all days ordered rows drop tallies are as_days rows_are totals =
    let last : rows ≡ last_rows days = rows_are ∙ ap last_rows as_days.days_are in
    let moved = subst (λ (ds : List DaySheet). AreTotals ds rows drop tallies) as_days.days_are totals in
    let whole = subst (λ (rs : List DayRow). AreTotals days rs drop tallies) last moved in
    record { totals = whole; few = tallies_few days tallies are whole.rows_are }
