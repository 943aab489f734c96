-- How the commands of a day answer, and how they are stopped.
use Rattle.std.proofs.Common.{◌≡◌, ◌∙◌, ap, subst, refl, ℕ, ◌⊎◌, inl, inr, List, [], take, Option, None, Some, Result, Ok, Err, arith}
use Rattle.std.specs.Prelude.{IfOk}
use Rattle.std.specs.List.{AllZip}
use Rattle.std.proofs.lemmas.Bool.{cases_lt}
use Rattle.std.proofs.lemmas.List.{length-take, take-take, take_all}
use Rattle.gl_desk.specs.Answers.{OnlyReads, stop_of}
use Rattle.gl_desk.specs.Desk.{FilesByName, Rose, Told}
use Rattle.gl_desk.specs.declared.error.DeskError.{DeskError}
use Rattle.gl_desk.specs.declared.error.DeskError.TheVariants.{Failed, Memory}
use Rattle.gl_proof.specs.Claim.{Statement}
use Rattle.gl_proof.specs.Text.{proof_text}
use Rattle.gl_proof.specs.declared.version.Version.TheVariants.{Two}
use Rattle.gl_day.specs.Expected.{Proves}
use Rattle.gl_day.specs.Flight.{StewardRules}
use Rattle.gl_words.specs.DayWords.{DayNames}
use Rattle.gl_day_files.specs.declared.day_files.DayFiles.{DayFiles}
use Rattle.gl_answer.specs.declared.halt.Halt.{Halt}
use Rattle.gl_answer.specs.declared.halt.Halt.TheVariants.{Refused, Stopped}
use Rattle.gl_day_files.specs.DayFiles.{IsScoreRead, IsScoreSeen, score_tests}
use Rattle.gl_answer.specs.FileTests.{HasTested}
use Rattle.gl_answer.specs.Halts.{halt_stop}
use Rattle.gl_answer.proofs.ReadsTwice.{reads_twice}
use Rattle.gl_answer.specs.Appending.{HasGiven}
use Rattle.gl_day_claims.specs.Scored.{IsBegun, IsScored, statements_of_all, text_so_far}
use Rattle.gl_day_claims.specs.Scoring.{IsDayDone, IsDayStopped}
use Rattle.gl_answer.proofs.Appended.{HasAppended-none, HasAppended-reads, HasAppended-then, part_after}
use Rattle.gl_day_claims.proofs.Flights.{all_texts}
use Rattle.gl_answer.specs.declared.answer.Answer as code
use Rattle.gl_answer.specs.declared.status.Status.TheVariants.{Done}
use Rattle.gl_answer.specs.Answer.{answer_of, AnswersHalt}
use Rattle.gl_day_claims.specs.Check.{IsCheck, check_promise}
use Rattle.gl_answer.specs.Given.{HasAnswered, IsStopped}
use Rattle.gl_day_claims.specs.Score.{IsScore, IsScoreDay, score_promise}

-- a first part of a first part is one
part_of : (k count : ℕ) (whole : List ℕ) → (n : ℕ) × (take k (take count whole) ≡ take n whole)
part_of k count whole =
    elim (cases_lt k count) [
      | inl less ↦ (k, take-take k count whole (omega (arith, less)))
      | inr more ↦ (count, take_all k (take count whole) (omega (arith, more, length-take count whole)))
    ]

-- a first part of one text or of another
part_cut : (A B : Type 0) (text one other : List ℕ) (k count : ℕ) → (text ≡ take count one) ⊎ (A × B × (text ≡ take count other))
    → (n : ℕ) × ((take k text ≡ take n one) ⊎ (A × B × (take k text ≡ take n other)))
part_cut A B text one other k count (inl is) = let n = part_of k count one in (n.0, inl (ap (take k) is ∙ n.1))
part_cut A B text one other k count (inr is) = let n = part_of k count other in (n.0, inr (is.0, is.1, ap (take k) is.2 ∙ n.1))

begun_part : (folder : Option FilesByName) (day : DayFiles) (text : List ℕ) (k : ℕ) → IsBegun folder day text → IsBegun folder day (take k text)
begun_part folder day text k begun =
    let n = part_cut (begun.others ≡ []) (AllZip Proves begun.expected begun.statements) text (text_so_far begun.statements) (proof_text Two begun.statements) k begun.count begun.part in
    record {
      entrants = begun.entrants;
      others = begun.others;
      are = begun.are;
      expected = begun.expected;
      asked = begun.asked;
      statements = begun.statements;
      partly = begun.partly;
      count = n.0;
      part = n.1;
    }

-- `score` was stopped behind its tests
pub score_stopped : (names : DayNames) (stewards : List StewardRules) (day : DayFiles) (x m y z : Told) (stop : DeskError) → OnlyReads None x m → IsScoreDay m.folder names day → OnlyReads None m y
    → IsDayStopped day names.proof y z stop → IsStopped (score_promise x.folder stewards names) x z stop
score_stopped names stewards day x m y z stop lists tested reads stopped =
    let all = reads_twice x m y lists reads in
    let part = part_after names.proof stopped.text x y z stop all stopped.appended in
    record {
      gave = inr (record {
        text = take part.count stopped.text;
        begun = (
          day,
          subst (λ (f : Option FilesByName). IsScoreDay f names day) lists.folder tested,
          begun_part x.folder day stopped.text part.count (subst (λ (f : Option FilesByName). IsBegun f day stopped.text) all.folder stopped.begun),
        );
        said = part.said;
        appended = part.appended;
      });
      faults = part.faults;
    }

-- a proof has a text
pub some_text : (statements : List Statement) → proof_text Two statements ≡ [] → ⊥
some_text statements none = cc

-- `score` has its answer
pub score_right : (names : DayNames) (stewards : List StewardRules) (day : DayFiles) (x m y z : Told) (sheet : List ℕ) → OnlyReads None x m → IsScoreDay m.folder names day → OnlyReads None m y
    → IsDayDone day stewards names.proof y z sheet → (text : List ℕ) × IsScore x.folder stewards names (record { status = Done; said = sheet; appended = text }) × HasGiven (Some names.proof) text x z
score_right names stewards day x m y z sheet lists tested reads done =
    let all = reads_twice x m y lists reads in
    let text = proof_text Two (statements_of_all done.scored) in
    let seen = subst (λ (f : Option FilesByName). IsScoreDay f names day) lists.folder tested in
    let right : IsScore x.folder stewards names (record { status = Done; said = sheet; appended = text }) = (
      seen.0,
      seen.1,
      inl (
        seen.2,
        (
          day,
          seen.3,
          record {
            scored = done.scored;
            each = subst (λ (f : Option FilesByName). AllZip (IsScored f day stewards) day.task.entrants done.scored) all.folder done.each;
            ended = refl;
            appended = record { each = all_texts y.folder day stewards day.task.entrants done.scored done.each; is = refl };
            said = done.sheet_is;
          },
        ),
      ),
    ) in (
      text,
      right,
      record {
        written = HasAppended-then names.proof [] text x y z (HasAppended-reads names.proof [] x x y (HasAppended-none names.proof x) all) done.appended;
        untouched = λ none. absurd (some_text (statements_of_all done.scored) none);
      },
    )

-- `score` refuses a file
pub score_refused : (names : DayNames) (stewards : List StewardRules) (x m y : Told) (halt : Halt) (result : Result code.Answer DeskError) → OnlyReads None x m
    → HasTested (IsScoreSeen names m.folder) (score_tests names) IsScoreRead (Err halt) → OnlyReads (halt_stop {X = DayFiles} (Err halt)) m y → AnswersHalt halt result
    → IfOk result (HasAnswered (score_promise x.folder stewards names) x y)
score_refused names stewards x m y (Refused refusal) (Ok answer) lists tested reads same =
    let all = reads_twice x m y lists reads in
    let seen = subst (λ (f : Option FilesByName). HasTested {X = DayFiles} (IsScoreSeen names f) (score_tests names) IsScoreRead (Err (Refused refusal))) lists.folder tested in
    ([], (seen.0, seen.1, inr (refusal, seen.2, same)), record { written = HasAppended-reads names.proof [] x x y (HasAppended-none names.proof x) all; untouched = λ none. (all.folder, all.outputs) })
score_refused names stewards x m y (Refused refusal) (Err stop) lists tested reads same = tt
score_refused names stewards x m y (Stopped stop) (Ok answer) lists tested reads same = absurd same
score_refused names stewards x m y (Stopped stop) (Err error) lists tested reads same = tt

-- a call that only reads, and then one that was stopped
pub reads_on : (x y z : Told) (stop : DeskError) → OnlyReads None x y → OnlyReads (Some stop) y z → OnlyReads (Some stop) x z
reads_on x y z Failed one two =
    record { folder = two.folder ∙ one.folder; said = two.said ∙ one.said; outputs = two.outputs ∙ one.outputs; faults = subst (λ (n : ℕ). Rose n z.faults) one.faults two.faults }
reads_on x y z Memory one two =
    record { folder = two.folder ∙ one.folder; said = two.said ∙ one.said; outputs = two.outputs ∙ one.outputs; faults = two.faults ∙ one.faults }

-- `check` has its answer
pub check_right : (names : DayNames) (x y : Told) (result : Result code.Answer DeskError) → IfOk result (λ answer. IsCheck x.folder names (answer_of answer)) → OnlyReads (stop_of result) x y
    → IfOk result (HasAnswered (check_promise x.folder names) x y)
check_right names x y (Ok answer) right reads =
    ([], right, record { written = record { appended = (refl, reads.folder, reads.outputs); said = reads.said; faults = reads.faults }; untouched = λ none. (reads.folder, reads.outputs) })
check_right names x y (Err stop) right reads = tt
