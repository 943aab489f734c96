-- In a folder two right answers of `score` end and say the same.
use Rattle.std.proofs.Common.{◌≡◌, ◌∙◌, refl, sym, ap, subst, ℕ, ◌⊎◌, inl, inr, List, [], ◌∷◌, Option, Some}
use Rattle.std.specs.List.{AllZip}
use Rattle.gl_desk.specs.Desk.{FilesByName}
use Rattle.gl_proof.proofs.Unique.{text_unique}
use Rattle.gl_proof.specs.Claim.{Statement}
use Rattle.gl_proof.specs.Text.{IsTextOf}
use Rattle.gl_proof.specs.declared.version.Version.TheVariants.{Two}
use Rattle.gl_task.specs.declared.task.Entrant.{Entrant}
use Rattle.gl_day.specs.Flight.{IsFlight, StewardRules}
use Rattle.gl_day.proofs.Sheets.{sheet_of-one}
use Rattle.gl_words.specs.DayWords.{DayNames}
use Rattle.gl_day_files.specs.declared.day_files.DayFiles.{DayFiles}
use Rattle.gl_answer.specs.declared.refusal.Refusal.{Refusal}
use Rattle.gl_day_files.specs.DayFiles.{ScoreSeen, score_tests}
use Rattle.gl_answer.specs.FileTests.{AllPass, FirstFails}
use Rattle.gl_day_files.proofs.DayDecided.{score_decided}
use Rattle.gl_answer.proofs.FileTests.{none_fails}
use Rattle.gl_day_files.proofs.OneDay.{day_one, refusal_one, seen_alone, seen_one}
use Rattle.gl_day_claims.specs.Alike.{AreAlike}
use Rattle.gl_day_claims.specs.Scored.{IsScored, Scored, flights_of_all, statements_of_all}
use Rattle.gl_day_claims.proofs.OneFlight.{IsOneFlight, flight_one}
use Rattle.gl_answer.specs.Answer.{Answer, refused}
use Rattle.gl_day_claims.specs.Laws.{AreProofsAlike, HasOneAnswer}
use Rattle.gl_day_claims.specs.Score.{IsDayScored, IsScore, IsScoreTold}
use Rattle.gl_text.proofs.Lists.{AllZip-append}

-- two answers end and say the same, and append proofs that are alike
pub record IsOneAnswer (one other : Answer) : Type 0 where
  pub status : one.status ≡ other.status
  pub said : one.said ≡ other.said
  pub proofs : AreProofsAlike one.appended other.appended

-- an entrant of a folder has one flight
scored_one : (files : FilesByName) (day : DayFiles) (stewards : List StewardRules) (entrant : Entrant) (s t : Scored) → IsScored (Some files) day stewards entrant s
    → IsScored (Some files) day stewards entrant t → IsOneFlight s.statements t.statements s.flight t.flight
scored_one files day stewards entrant s t (seen, there, is) (other, too, also) =
    flight_one day.task day.airspace stewards entrant seen s.statements t.statements s.flight t.flight is
    (subst (λ (o : Option (List ℕ)). IsFlight day.task day.airspace stewards entrant o t.statements t.flight) (seen_alone files entrant.file seen other there too) also)

-- the flights of some entrants are one list, and their claims are alike
record AreOneDay (one other : List Scored) : Type 0 where
  claims : AllZip AreAlike (statements_of_all one) (statements_of_all other)
  flights : flights_of_all one ≡ flights_of_all other

each_one : (files : FilesByName) (day : DayFiles) (stewards : List StewardRules) (entrants : List Entrant) (one other : List Scored) → AllZip (IsScored (Some files) day stewards) entrants one
    → AllZip (IsScored (Some files) day stewards) entrants other → AreOneDay one other
each_one files day stewards [] [] [] is also = record { claims = tt; flights = refl }
each_one files day stewards [] [] (t ∷ other) is also = absurd also
each_one files day stewards [] (s ∷ one) other is also = absurd is
each_one files day stewards (e ∷ entrants) [] other is also = absurd is
each_one files day stewards (e ∷ entrants) (s ∷ one) [] is also = absurd also
each_one files day stewards (e ∷ entrants) (s ∷ one) (t ∷ other) is also =
    let first = scored_one files day stewards e s t is.0 also.0 in
    let rest = each_one files day stewards entrants one other is.1 also.1 in
    record {
      claims = AllZip-append AreAlike s.statements (statements_of_all one) t.statements (statements_of_all other) first.claims rest.claims;
      flights = λ i. first.flight i ∷ rest.flights i;
    }

-- proofs whose claims are alike
proofs_alike : (one other : List ℕ) (ss ts : List Statement) → AllZip AreAlike ss ts → IsTextOf Two one ss → IsTextOf Two other ts → AreProofsAlike one other
proofs_alike one other ss ts alike is also statements others is_one is_other =
    subst (λ (list : List Statement). AllZip AreAlike statements list) (text_unique other ts others also is_other)
    (subst (λ (list : List Statement). AllZip AreAlike list ts) (text_unique one ss statements is is_one) alike)

-- a day has one answer
day_answer : (files : FilesByName) (day : DayFiles) (stewards : List StewardRules) (one other : Answer) → IsDayScored (Some files) day stewards one → IsDayScored (Some files) day stewards other
    → IsOneAnswer one other
day_answer files day stewards one other is also =
    let same = each_one files day stewards day.task.entrants is.scored also.scored is.each also.each in
    record {
      status = is.ended ∙ sym also.ended;
      said = sheet_of-one day.task (flights_of_all is.scored) (flights_of_all also.scored) one.said other.said same.flights is.said also.said;
      proofs = proofs_alike one.appended other.appended (statements_of_all is.scored) (statements_of_all also.scored) same.claims is.appended also.appended;
    }

same_alike : (ss : List Statement) → AllZip AreAlike ss ss
same_alike [] = tt
same_alike (s ∷ ss) = (record { number = refl; kind = refl; total = refl }, same_alike ss)

-- two answers that are one
same_one : (one other : Answer) → one ≡ other → IsOneAnswer one other
same_one one other same = subst (IsOneAnswer one) same
    (record {
      status = refl;
      said = refl;
      proofs = λ statements others is also. subst (λ (list : List Statement). AllZip AreAlike statements list) (text_unique one.appended statements others is also) (same_alike statements);
    })

-- what is seen gives one answer
abbrev IsAnswered : FilesByName → List StewardRules → DayNames → Answer → ScoreSeen → Type 0
IsAnswered files stewards names answer seen =
    (AllPass (score_tests names seen) × IsScoreTold (Some files) stewards seen answer)
    ⊎ ((refusal : Refusal) × FirstFails (score_tests names seen) refusal × (answer ≡ refused refusal.file refusal.cause))

seen_answer : (files : FilesByName) (stewards : List StewardRules) (names : DayNames) (seen : ScoreSeen) (one other : Answer) → IsAnswered files stewards names one seen
    → IsAnswered files stewards names other seen → IsOneAnswer one other
seen_answer files stewards names seen one other (inl (passes, (day, read, is))) (inl (pass, (second, too, also))) =
    day_answer files day stewards one other is
    (subst (λ (d : DayFiles). IsDayScored (Some files) d stewards other) (day_one seen.task second day too read) also)
seen_answer files stewards names seen one other (inl (passes, is)) (inr (refusal, fails, same)) = absurd (none_fails (score_tests names seen) refusal (score_decided names seen) passes fails)
seen_answer files stewards names seen one other (inr (refusal, fails, same)) (inl (passes, is)) = absurd (none_fails (score_tests names seen) refusal (score_decided names seen) passes fails)
seen_answer files stewards names seen one other (inr (refusal, fails, is)) (inr (second, fail, also)) =
    same_one one other (is ∙ ap (λ (r : Refusal). refused r.file r.cause) (refusal_one names seen refusal second fails fail) ∙ sym also)

answer_one : (files : FilesByName) (stewards : List StewardRules) (names : DayNames) (one other : Answer) → IsScore (Some files) stewards names one → IsScore (Some files) stewards names other
    → IsOneAnswer one other
answer_one files stewards names one other (seen, there, is) (second, too, also) =
    seen_answer files stewards names seen one other is
    (subst (IsAnswered files stewards names other) (seen_one files names seen second there too) also)

-- in a folder two right answers of `score` end and say the same, and their proofs are alike
pub one_right : HasOneAnswer
one_right files stewards names one other is also =
    let same = answer_one files stewards names one other is also in
    (same.status, same.said, same.proofs)
