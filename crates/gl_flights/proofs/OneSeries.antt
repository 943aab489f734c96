-- In a folder two right answers of `series` are one.
use Rattle.std.proofs.Common.{◌≡◌, ◌∙◌, refl, sym, ap, subst, ℕ, ◌⊎◌, inl, inr, List, [], ◌∷◌, Option, None, Some}
use Rattle.std.specs.Prelude.{IsSomeAnd}
use Rattle.std.specs.List.{AllZip}
use Rattle.gl_desk.specs.Desk.{FilesByName}
use Rattle.gl_series.proofs.Lines as lines
use Rattle.gl_series.proofs.OneStanding.{standing_once}
use Rattle.gl_series.proofs.Sheets as sheets_of
use Rattle.gl_series.specs.SheetText.{IsSheetOf}
use Rattle.gl_series.specs.StandingText.{standing_text}
use Rattle.gl_series.specs.Totals.{AreDays, IsStanding}
use Rattle.gl_series.specs.declared.day.DaySheet.{DaySheet}
use Rattle.gl_series.specs.declared.error.ListError.{ListError}
use Rattle.gl_series.specs.declared.error.ListError.TheVariants as list
use Rattle.gl_series.specs.declared.error.SheetError.{SheetError}
use Rattle.gl_series.specs.declared.error.SheetError.TheVariants as sheet
use Rattle.gl_series.specs.declared.series.Series.{Series}
use Rattle.gl_words.specs.Words.{SeriesWords}
use Rattle.gl_answer.specs.declared.refusal.Cause.{Cause}
use Rattle.gl_answer.specs.declared.refusal.Refusal.{Refusal}
use Rattle.gl_answer.specs.FileTests.{AllPass, Fails, FileTest, FirstFails, IsNoText, Kind, Reads}
use Rattle.gl_flights.specs.SeriesFiles.{SeriesListText, SheetText, list_cause, sheet_cause}
use Rattle.gl_flights.specs.SeriesFiles.{AreDaysSeen, DaySeen, IsDaySeen, IsListRead, IsSeriesSeen, IsSheetRead, SeriesSeen, days_tests, series_tests}
use Rattle.gl_answer.proofs.FileTests.{AreDecided, none_fails}
use Rattle.gl_flights.proofs.SeriesTests.{days_fit, list_fits, series_decided}
use Rattle.gl_answer.specs.declared.status.Status.TheVariants.{Done}
use Rattle.gl_answer.specs.Answer.{Answer, refused, saying}
use Rattle.gl_flights.specs.Series.{HasOneSeries, IsAddedUp}

-- a text is refused for one cause
no_list_memory : (error : ListError) (cause : Cause) → list_cause error ≡ Some cause → error ≡ list.Memory → ⊥
no_list_memory error cause why same = let e : ◌≡◌ {A = Option Cause} None (Some cause) = sym (ap list_cause same) ∙ why in cc

no_sheet_memory : (error : SheetError) (cause : Cause) → sheet_cause error ≡ Some cause → error ≡ sheet.Memory → ⊥
no_sheet_memory error cause why same = let e : ◌≡◌ {A = Option Cause} None (Some cause) = sym (ap sheet_cause same) ∙ why in cc

some_once : (a b : Cause) → ◌≡◌ {A = Option Cause} (Some a) (Some b) → a ≡ b
some_once a b same = cc

list_once : (text : List ℕ) (a b : Cause) → IsNoText SeriesListText text a → IsNoText SeriesListText text b → a ≡ b
list_once text a b (error, told, why) (other, also, so) =
    some_once a b (sym why ∙ ap list_cause (lines.refused_once text error other (no_list_memory error a why) (no_list_memory other b so) told also) ∙ so)

sheet_once : (text : List ℕ) (a b : Cause) → IsNoText SheetText text a → IsNoText SheetText text b → a ≡ b
sheet_once text a b (error, told, why) (other, also, so) =
    some_once a b (sym why ∙ ap sheet_cause (sheets_of.refused_once text error other (no_sheet_memory error a why) (no_sheet_memory other b so) told also) ∙ so)

-- each of some tests fails for one cause
abbrev AreSure : List FileTest → Type 0
AreSure [] = Unit {0}
AreSure (test ∷ tests) = ((a b : Cause) → Fails test a → Fails test b → a ≡ b) × AreSure tests

text_sure : (kind : Kind) → ((text : List ℕ) (a b : Cause) → IsNoText kind text a → IsNoText kind text b → a ≡ b) → (file : List ℕ) (seen : Option (List ℕ)) (a b : Cause)
    → Fails (Reads kind file seen) a → Fails (Reads kind file seen) b → a ≡ b
text_sure kind once file None a b one other = absurd one
text_sure kind once file (Some text) a b one other = once text a b one other

days_sure : (days : List DaySeen) → AreSure (days_tests days)
days_sure [] = tt
days_sure (day ∷ days) =
    (λ a b one other. one.1 ∙ sym other.1, (λ a b one other. one.1 ∙ sym other.1, (text_sure SheetText sheet_once day.file day.sheet, days_sure days)))

series_sure : (words : SeriesWords) (seen : SeriesSeen) → AreSure (series_tests words seen)
series_sure words seen =
    (λ a b one other. one.1 ∙ sym other.1, (λ a b one other. one.1 ∙ sym other.1, (text_sure SeriesListText list_once words.list seen.list, days_sure seen.days)))

-- one of them is the first that fails
first_once : (tests : List FileTest) (one other : Refusal) → AreDecided tests → AreSure tests → FirstFails tests one → FirstFails tests other → (one.file ≡ other.file) × (one.cause ≡ other.cause)
first_once [] one other decided sure fails also = absurd fails
first_once (test ∷ tests) one other decided sure (inl (file, fails)) (inl (same, too)) = (file ∙ sym same, sure.0 one.cause other.cause fails too)
first_once (test ∷ tests) one other decided sure (inl fails) (inr (pass, too)) = absurd (none_fails (test ∷ []) one (decided.0, tt) (pass, tt) (inl fails))
first_once (test ∷ tests) one other decided sure (inr (pass, fails)) (inl too) = absurd (none_fails (test ∷ []) other (decided.0, tt) (pass, tt) (inl too))
first_once (test ∷ tests) one other decided sure (inr (pass, fails)) (inr (also, too)) = first_once tests one other decided.1 sure.1 fails too

-- a list reads in one way, and so do sheets
list_one : (seen : Option (List ℕ)) (a b : Series) → IsListRead seen a → IsListRead seen b → a ≡ b
list_one None a b is also = absurd is
list_one (Some text) a b is also = lines.list_unique text a b is.1 also.1

sheet_one : (seen : Option (List ℕ)) (a b : DaySheet) → IsSomeAnd seen (λ text. IsSheetOf text a) → IsSomeAnd seen (λ text. IsSheetOf text b) → a ≡ b
sheet_one None a b is also = absurd is
sheet_one (Some text) a b is also = sheets_of.sheet_unique text a b is also

sheets_one : (days : List DaySeen) (ones others : List DaySheet) → AllZip IsSheetRead days ones → AllZip IsSheetRead days others → ones ≡ others
sheets_one [] [] [] is also = refl
sheets_one [] [] (b ∷ others) is also = absurd also
sheets_one [] (a ∷ ones) others is also = absurd is
sheets_one (day ∷ days) [] others is also = absurd is
sheets_one (day ∷ days) (a ∷ ones) [] is also = absurd also
sheets_one (day ∷ days) (a ∷ ones) (b ∷ others) is also =
    let first = sheet_one day.sheet a b is.0 also.0 in
    let rest = sheets_one days ones others is.1 also.1 in
    λ i. first i ∷ rest i

-- in a folder, one thing is seen of files
day_one : (files : FilesByName) (name : List ℕ) (one other : DaySeen) → IsDaySeen (Some files) name one → IsDaySeen (Some files) name other → one ≡ other
day_one files name one other is also =
    let file = is.0 ∙ sym also.0 in
    let seen = sym is.1 ∙ also.1 in
    λ i. record { file = file i; sheet = seen i }

days_one : (files : FilesByName) (names : List (List ℕ)) (one other : List DaySeen) → AllZip (IsDaySeen (Some files)) names one → AllZip (IsDaySeen (Some files)) names other → one ≡ other
days_one files [] [] [] is also = refl
days_one files [] [] (day ∷ other) is also = absurd also
days_one files [] (day ∷ one) other is also = absurd is
days_one files (name ∷ names) [] other is also = absurd is
days_one files (name ∷ names) (day ∷ one) [] is also = absurd also
days_one files (name ∷ names) (day ∷ one) (then ∷ other) is also =
    let first = day_one files name day then is.0 also.0 in
    let rest = days_one files names one other is.1 also.1 in
    λ i. first i ∷ rest i

days_same : (files : FilesByName) (seen : Option (List ℕ)) (one other : List DaySeen) → AreDaysSeen (Some files) (record { list = seen; days = one })
    → AreDaysSeen (Some files) (record { list = seen; days = other }) → one ≡ other
days_same files seen one other (inl (series, read, are)) (inl (then, reads, also)) =
    days_one files series.days one other are (subst (λ (s : Series). AllZip (IsDaySeen (Some files)) s.days other) (list_one seen then series reads read) also)
days_same files seen one other (inl (series, read, are)) (inr (none, no_days)) = absurd (none series read)
days_same files seen one other (inr (none, no_days)) (inl (series, read, are)) = absurd (none series read)
days_same files seen one other (inr (none, no_days)) (inr (nor, nor_days)) = no_days ∙ sym nor_days

seen_one : (files : FilesByName) (words : SeriesWords) (one other : SeriesSeen) → IsSeriesSeen words (Some files) one → IsSeriesSeen words (Some files) other → one ≡ other
seen_one files words one other is also =
    let seen = sym is.0 ∙ also.0 in
    let days = days_same files other.list one.days other.days (subst (λ (o : Option (List ℕ)). AreDaysSeen (Some files) (record { list = o; days = one.days })) seen is.1) also.1 in
    λ i. record { list = seen i; days = days i }

are_days : (folder : Option FilesByName) (seen : SeriesSeen) (series : Series) (sheets : List DaySheet) → AreDaysSeen folder seen → IsListRead seen.list series → AllZip IsSheetRead seen.days sheets
    → AreDays sheets
are_days folder seen series sheets (inl (then, read, are)) reads zip = days_fit folder then seen.days sheets (list_fits seen.list then read) are zip
are_days folder seen series sheets (inr (none, no_days)) reads zip = absurd (none series reads)

-- what was seen gives one answer
given_one : (folder : Option FilesByName) (words : SeriesWords) (seen : SeriesSeen) (one other : Answer) → AreDaysSeen folder seen → IsAddedUp words seen one → IsAddedUp words seen other → one ≡ other
given_one folder words seen one other days (a, read, ones, reads, said, (standing, is, text), same) (b, also, others, too, says, (then, stands, texts), so) =
    let list = list_one seen.list b a also read in
    let sheets = sheets_one seen.days others ones too reads in
    let there = subst (λ (s : Series). IsStanding s others words.left_out then) list stands in
    let here = subst (λ (l : List DaySheet). IsStanding a l words.left_out then) sheets there in
    let once = standing_once a ones words.left_out standing then (are_days folder seen a ones days read reads) is here in
    same ∙ ap (saying Done) (text ∙ ap standing_text once ∙ sym texts) ∙ sym so

tested_one : (folder : Option FilesByName) (words : SeriesWords) (seen : SeriesSeen) (one other : Answer) → AreDaysSeen folder seen
    → (AllPass (series_tests words seen) × IsAddedUp words seen one) ⊎ ((refusal : Refusal) × FirstFails (series_tests words seen) refusal × (one ≡ refused refusal.file refusal.cause))
    → (AllPass (series_tests words seen) × IsAddedUp words seen other) ⊎ ((refusal : Refusal) × FirstFails (series_tests words seen) refusal × (other ≡ refused refusal.file refusal.cause))
    → one ≡ other
tested_one folder words seen one other days (inl (passes, gives)) (inl (pass, also)) = given_one folder words seen one other days gives also
tested_one folder words seen one other days (inl (passes, gives)) (inr (refusal, fails, same)) = absurd (none_fails (series_tests words seen) refusal (series_decided words seen) passes fails)
tested_one folder words seen one other days (inr (refusal, fails, same)) (inl (passes, gives)) = absurd (none_fails (series_tests words seen) refusal (series_decided words seen) passes fails)
tested_one folder words seen one other days (inr (refusal, fails, same)) (inr (then, too, so)) =
    let first = first_once (series_tests words seen) refusal then (series_decided words seen) (series_sure words seen) fails too in
    let line : refused refusal.file refusal.cause ≡ refused then.file then.cause = λ i. refused (first.0 i) (first.1 i) in
    same ∙ line ∙ sym so

pub series_one : HasOneSeries
series_one files words one other (seen, is, verdict) (then, also, verdicts) =
    let same = seen_one files words then seen also is in
    tested_one (Some files) words seen one other is.1 verdict
    (subst (λ (s : SeriesSeen). (AllPass (series_tests words s) × IsAddedUp words s other)
    ⊎ ((refusal : Refusal) × FirstFails (series_tests words s) refusal × (other ≡ refused refusal.file refusal.cause))) same verdicts)
