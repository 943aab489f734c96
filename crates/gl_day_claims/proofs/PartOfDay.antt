-- What a stopped `score` has begun is a first part of a right answer.
use Rattle.std.proofs.Common.{◌≡◌, ◌∙◌, sym, refl, ℕ, List, take, Option}
use Rattle.gl_desk.specs.Desk.{FilesByName}
use Rattle.gl_proof.specs.Text.{proof_text}
use Rattle.gl_proof.specs.declared.version.Version.TheVariants.{Two}
use Rattle.gl_day.specs.Flight.{StewardRules}
use Rattle.gl_day.proofs.Sheets.{some_sheet}
use Rattle.gl_day_files.specs.declared.day_files.DayFiles.{DayFiles}
use Rattle.gl_day_claims.specs.Scored.{IsScored, flights_of_all, statements_of_all}
use Rattle.gl_day_claims.proofs.Completing.{IsPartOfScored}
use Rattle.gl_day_claims.proofs.Flights.{all_texts, length-flights}
use Rattle.gl_answer.specs.declared.status.Status.TheVariants.{Done}
use Rattle.gl_answer.specs.Answer.{Answer}
use Rattle.gl_day_claims.specs.Score.{IsDayScored}
use Rattle.gl_text.proofs.Lists.{AllZip-length}

-- an answer of a day, of which a text is a first part
pub record IsPartOfDay (folder : Option FilesByName) (day : DayFiles) (stewards : List StewardRules) (text : List ℕ) : Type 0 where
  pub answer : Answer
  pub right : IsDayScored folder day stewards answer
  pub count : ℕ
  pub is : text ≡ take count answer.appended

-- flights of all entrants are an answer
pub part_of_day : (folder : Option FilesByName) (day : DayFiles) (stewards : List StewardRules) (text : List ℕ) → IsPartOfScored folder day stewards text → IsPartOfDay folder day stewards text
part_of_day folder day stewards text part =
    let scored = part.scored in
    let sheet = some_sheet day.task (flights_of_all scored) (length-flights scored ∙ sym (AllZip-length (IsScored folder day stewards) day.task.entrants scored part.each)) in
    record {
      answer = record { status = Done; said = sheet.0; appended = proof_text Two (statements_of_all scored) };
      right = record {
        scored = scored;
        each = part.each;
        ended = refl;
        appended = record { each = all_texts folder day stewards day.task.entrants scored part.each; is = refl };
        said = sheet.1;
      };
      count = part.count;
      is = part.is;
    }
