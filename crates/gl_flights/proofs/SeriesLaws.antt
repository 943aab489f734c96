-- The laws of `series`.
use Rattle.std.proofs.Common.{◌≡◌, ◌≢◌, ◌∙◌, sym, ap, subst, refl, ℕ, inl, inr, true, List, [], ◌∷◌, Option, None, Some, Ok, Vec}
use Rattle.std.specs.declared.alloc.Global.{Global}
use Rattle.std.specs.List.{AllZip, flat_map}
use Rattle.gl_desk.specs.Desk.{FilesByName}
use Rattle.gl_series.specs.SeriesList.{IsLineOf, IsList, day_of}
use Rattle.gl_series.specs.declared.entry.Entry.{Entry}
use Rattle.gl_series.specs.declared.entry.Entry.TheVariants.{Day, Team}
use Rattle.gl_series.specs.declared.day.DaySheet.{DaySheet}
use Rattle.gl_series.specs.declared.series.Series.{Series}
use Rattle.gl_words.specs.Words.{SeriesWords}
use Rattle.gl_text.proofs.Forms.{is_unbroken, is_unbroken-file}
use Rattle.gl_answer.specs.FileTests.{HasTested}
use Rattle.gl_flights.specs.SeriesFiles.{AreDaysSeen, AreSeriesRead, DaySeen, IsDaySeen, IsListRead, IsSeriesSeen, SeriesSeen, days_tests, series_tests}
use Rattle.gl_answer.proofs.FileTests.{AreNamed, refusal_named}
use Rattle.gl_answer.specs.declared.status.Status.TheVariants.{Done}
use Rattle.gl_answer.specs.Answer.{Answer, saying}
use Rattle.gl_flights.specs.Series.{IsAddedUp, IsSeries, IsStandingText, series_promise}
use Rattle.gl_answer.specs.Texts.{IsLine}
use Rattle.gl_flights.proofs.SeriesTests.{series_decided}
use Rattle.gl_answer.proofs.ByTests.{by_tests_passes, by_tests_result}
use Rattle.gl_answer.proofs.LineTexts.{said_by}
use Rattle.gl_answer.proofs.Promises.{IsLawful, done_no_refusal, reading_lawful}

abbrev AreUnbrokenDays : List (List ℕ) → Type 0
AreUnbrokenDays [] = Unit {0}
AreUnbrokenDays (name ∷ names) = (is_unbroken name ≡ true) × AreUnbrokenDays names

entries_unbroken : (lines : List (List ℕ)) (entries : List Entry) → AllZip IsLineOf lines entries → AreUnbrokenDays (flat_map day_of entries)
entries_unbroken [] [] each = tt
entries_unbroken [] (entry ∷ entries) each = absurd each
entries_unbroken (line ∷ lines) [] each = absurd each
entries_unbroken (line ∷ lines) (Day name ∷ entries) each = (is_unbroken-file name each.0.is_entry.1, entries_unbroken lines entries each.1)
entries_unbroken (line ∷ lines) (Team member ∷ entries) each = entries_unbroken lines entries each.1

list_unbroken : (text : List ℕ) (series : Series) → IsList text series → AreUnbrokenDays series.days
list_unbroken text series is = subst (λ (s : Series). AreUnbrokenDays s.days) (sym is.says) (entries_unbroken is.rest is.entries is.reads.each)

read_unbroken : (seen : Option (List ℕ)) (series : Series) → IsListRead seen series → AreUnbrokenDays series.days
read_unbroken None series read = absurd read
read_unbroken (Some text) series read = list_unbroken text series read.1

days_named : (folder : Option FilesByName) (names : List (List ℕ)) (days : List DaySeen) → AreUnbrokenDays names → AllZip (IsDaySeen folder) names days → AreNamed (days_tests days)
days_named folder [] [] named are = tt
days_named folder [] (day ∷ days) named are = absurd are
days_named folder (name ∷ names) [] named are = absurd are
days_named folder (name ∷ names) (day ∷ days) named are =
    let one = ap is_unbroken are.0.0 ∙ named.0 in
    (one, (one, (one, days_named folder names days named.1 are.1)))

all_days_named : (folder : Option FilesByName) (seen : SeriesSeen) → AreDaysSeen folder seen → AreNamed (days_tests seen.days)
all_days_named folder seen (inl (series, read, are)) = days_named folder series.days seen.days (read_unbroken seen.list series read) are
all_days_named folder seen (inr (none, no_days)) = subst (λ (l : List DaySeen). AreNamed (days_tests l)) (sym no_days) tt

series_named : (folder : Option FilesByName) (words : SeriesWords) (seen : SeriesSeen) → is_unbroken words.list ≡ true → IsSeriesSeen words folder seen → AreNamed (series_tests words seen)
series_named folder words seen named is = (named, (named, (named, all_days_named folder seen is.1)))

added_done : (words : SeriesWords) (seen : SeriesSeen) (answer : Answer) → IsAddedUp words seen answer → answer.status ≡ Done
added_done words seen answer (series, read, sheets, reads, said, is, same) = ap (λ (a : Answer). a.status) same

series_line : (folder : Option FilesByName) (words : SeriesWords) → is_unbroken words.list ≡ true → (answer : Answer) → IsSeries folder words answer → answer.status ≢ Done → IsLine answer.said
series_line folder words named answer (seen, is, inl (all, gives)) unless = absurd (unless (added_done words seen answer gives))
series_line folder words named answer (seen, is, inr (refusal, fails, same)) unless =
    said_by answer refusal.file refusal.cause same (refusal_named (series_tests words seen) refusal (series_named folder words seen named is) fails)

pub series_lawful : (folder : Option FilesByName) (words : SeriesWords) → is_unbroken words.list ≡ true → IsLawful (series_promise folder words)
series_lawful folder words named =
    reading_lawful (IsSeries folder words) (series_promise folder words).Passes
    (by_tests_result (IsSeriesSeen words folder) (series_tests words) (IsAddedUp words) (λ seen answer is. inl (added_done words seen answer is)))
    (by_tests_passes folder (IsSeriesSeen words) (series_tests words) (IsAddedUp words) (series_decided words) (λ seen answer is. done_no_refusal answer.status (inl (added_done words seen answer is))))
    (series_line folder words named)

-- the text of the standing is the answer
pub series_answered : (folder : Option FilesByName) (words : SeriesWords) (series : Series) (sheets : Vec DaySheet Global) (text : List ℕ)
    → HasTested (IsSeriesSeen words folder) (series_tests words) AreSeriesRead (Ok (series, sheets)) → IsStandingText series sheets.items words.left_out text
    → IsSeries folder words (saying Done text)
series_answered folder words series sheets text (seen, is, passes, read) says =
    (seen, is, inl (passes, (series, read.0, sheets.items, read.1, text, says, refl)))
