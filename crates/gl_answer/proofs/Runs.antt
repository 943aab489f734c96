-- How a run ends that gives the answer of its command, or is stopped.
use Rattle.std.proofs.Common.{◌≡◌, ◌≢◌, ◌∙◌, refl, sym, ap, subst, ℕ, ◌-◌, inl, inr, List, [], length, take, Option, None, Some, Result, Ok, Err, append-nil}
use Rattle.std.specs.Prelude.{◌↔◌, IfErr, IfNone, IfOk, MatchOption}
use Rattle.std.proofs.Math.Seq.{take-length}
use Rattle.gl_desk.specs.Answers.{CountsFaults}
use Rattle.gl_desk.specs.Desk.{AppendedByName, FilesByName, FileTakes, Told, file_of, followed_by, output_of}
use Rattle.gl_desk.specs.declared.error.DeskError.{DeskError}
use Rattle.gl_desk.specs.declared.error.DeskError.TheVariants.{Failed, Memory}
use Rattle.gl_answer.specs.declared.answer.Answer as code
use Rattle.gl_answer.specs.declared.status.Status.{Status}
use Rattle.gl_answer.specs.declared.status.Status.TheVariants.{Done, Refused, Words}
use Rattle.gl_answer.specs.declared.status.Status.TheVariants as status
use Rattle.gl_answer.specs.Answer.{Answer, answer_with}
use Rattle.gl_answer.specs.Appending.{HasGiven, IsAppended}
use Rattle.gl_answer.specs.Delivered.{IsDelivered}
use Rattle.gl_answer.specs.Given.{Ends, Gives, GivesBegun, HasAnswered, IsStopped, Stops}
use Rattle.gl_answer.specs.Promise.{Promise, no_command}
use Rattle.gl_answer.specs.Run.{IsRunOf}
use Rattle.gl_answer.specs.Statuses.{status_of, stop_at}
use Rattle.gl_answer.specs.Texts.{IsLine, usage_line}
use Rattle.gl_answer.proofs.LineTexts.{line_of}
use Rattle.gl_answer.proofs.Promises.{IsLawful, IsPart, result_goes_on, result_no_words}

-- What a run needs of the promise of its words: a right answer has no status of a run that is stopped; it is the usage line
-- exactly where the words are of no form; files that pass the tests give a result; a proof of this program's own is
-- accepted; without a result one line is said; and what a stopped command leaves is a first part of a right answer.
pub record HasRunLaws (promise : Promise) (NoForm : Type 0) : Type 0 where
  pub goes_on : (answer : Answer) → promise.IsRight answer → stop_at answer.status ≡ None
  pub words : (answer : Answer) → promise.IsRight answer → (answer.status ≡ Words) ↔ NoForm
  pub passes : promise.Passes → (answer : Answer) → promise.IsRight answer → (answer.status ≢ Words) × (answer.status ≢ Refused)
  pub own : promise.ChecksOwn → (answer : Answer) → promise.IsRight answer → answer.status ≡ Done
  pub line : (answer : Answer) → promise.IsRight answer → answer.status ≢ Done → IsLine answer.said
  pub begun : (text : List ℕ) → promise.IsBegun text → IsPart promise text

-- the promise of a command has them, whose words are of its form
pub lawful_runs : (promise : Promise) (NoForm : Type 0) → IsLawful promise → (NoForm → ⊥) → HasRunLaws promise NoForm
lawful_runs promise NoForm lawful form = record {
  goes_on = λ answer right. result_goes_on answer.status (lawful.result answer right);
  words = λ answer right. (λ same. absurd (result_no_words answer.status (lawful.result answer right) same), λ none. absurd (form none));
  passes = λ passes answer right. (result_no_words answer.status (lawful.result answer right), lawful.passes passes answer right);
  own = lawful.own;
  line = lawful.line;
  begun = lawful.begun;
}

usage_is_line : IsLine usage_line
usage_is_line = line_of (take (length usage_line - 1) usage_line) refl

-- so has that of words of no form
pub no_command_runs : (NoForm : Type 0) → NoForm → HasRunLaws no_command NoForm
no_command_runs NoForm none = record {
  goes_on = λ answer right. ap (λ (a : Answer). stop_at a.status) right;
  words = λ answer right. (λ _. none, λ _. ap (λ (a : Answer). a.status) right);
  passes = λ passes answer right. absurd passes;
  own = λ own answer right. absurd own;
  line = λ answer right unless. subst (λ (a : Answer). IsLine a.said) (sym right) usage_is_line;
  begun = λ text begun. absurd begun;
}

if_none : {X P : Type 0} (o : Option X) → P → IfNone o P
if_none None holds = holds
if_none (Some x) holds = tt

appended_then : (target : Option (List ℕ)) (text : List ℕ) (x y z : Told) → IsAppended target text x y → z.folder ≡ y.folder → z.outputs ≡ y.outputs → IsAppended target text x z
appended_then None text x y z written folder outputs = (written.0, folder ∙ written.1, outputs ∙ written.2)
appended_then (Some file) text x y z written folder outputs = (
  ap (λ (o : Option AppendedByName). output_of o file) outputs ∙ written.0,
  subst (λ (f : Option FilesByName). FileTakes x.folder f file text) (sym folder) written.1,
  λ other differs. (
    ap (λ (o : Option AppendedByName). output_of o other) outputs ∙ (written.2 other differs).0,
    ap (λ (f : Option FilesByName). file_of f other) folder ∙ (written.2 other differs).1,
  ),
)

-- the answer was said, once its text was appended
ends_said : (promise : Promise) (answer : Answer) (x y z : Told) → stop_at answer.status ≡ None → promise.IsRight answer → HasGiven promise.target answer.appended x y
    → z.said ≡ followed_by y.said answer.said → z.folder ≡ y.folder → z.outputs ≡ y.outputs → Ends promise answer.status x z
ends_said promise answer x y z goes_on right given said folder_same outputs_same =
    let written = given.written in
    subst (λ (stop : _). MatchOption stop ((a : Answer) × promise.IsRight a × Gives promise.target a answer.status x z) (λ _. Stops promise x z))
    (sym goes_on) (
      answer,
      right,
      record {
        ended = refl;
        said = said ∙ ap (λ (t : Option (List ℕ)). followed_by t answer.said) written.said;
        appended = appended_then promise.target answer.appended x y z written.appended folder_same outputs_same;
        untouched = λ none. (folder_same ∙ (given.untouched none).0, outputs_same ∙ (given.untouched none).1);
      },
    )

-- a first part of it was said
stops_saying : (promise : Promise) (answer : Answer) (n : ℕ) (x y z : Told) → promise.IsRight answer → HasGiven promise.target answer.appended x y
    → z.said ≡ followed_by y.said (take n answer.said) → z.folder ≡ y.folder → z.outputs ≡ y.outputs → Stops promise x z
stops_saying promise answer n x y z right given said folder_same outputs_same =
    let written = given.written in
    let target = promise.target in
    inr (
      answer,
      right,
      record {
        appended_bytes = length answer.appended;
        said_bytes = n;
        said = said ∙ ap (λ (t : Option (List ℕ)). followed_by t (take n answer.said)) written.said;
        appended = appended_then target (take (length answer.appended) answer.appended) x y z
            (subst (λ (text : List ℕ). IsAppended target text x y) (sym (take-length answer.appended)) written.appended) folder_same outputs_same;
        in_order = inr (take-length answer.appended);
      },
    )

said_none : (said : Option (List ℕ)) → said ≡ followed_by said []
said_none None = refl
said_none (Some text) = ap Some (sym (append-nil text))

-- what a stopped command leaves is a first part of a right answer
given_part : (promise : Promise) (x z : Told) → ((text : List ℕ) → promise.IsBegun text → IsPart promise text) → GivesBegun promise x z → Stops promise x z
given_part promise x z begun gave =
    let part = begun gave.text gave.begun in
    let target = promise.target in
    inr (
      part.answer,
      part.right,
      record {
        appended_bytes = part.count;
        said_bytes = 0;
        said = gave.said ∙ said_none x.said;
        appended = subst (λ (text : List ℕ). IsAppended target text x z) part.is gave.appended;
        in_order = inl refl;
      },
    )

-- a command that is stopped before its answer gave nothing, or a first part of a right answer
stopped_right : (promise : Promise) (x z : Told) (stop : DeskError) → ((text : List ℕ) → promise.IsBegun text → IsPart promise text) → IsStopped promise x z stop → Stops promise x z
stopped_right promise x z stop begun stopped = elim stopped.gave [
  | inl none ↦ inl none
  | inr gave ↦ given_part promise x z begun gave
]

-- a run whose answer was said
said_run : {Rules : Type 0} (promise : Promise) (NoForm : Type 0) (stewards left : Rules) (answer : Answer) (x y z : Told) → HasRunLaws promise NoForm → promise.IsRight answer
    → HasGiven promise.target answer.appended x y → z.said ≡ followed_by y.said answer.said → z.folder ≡ y.folder → z.outputs ≡ y.outputs → z.faults ≡ y.faults → left ≡ stewards
    → IsRunOf promise NoForm stewards left answer.status x z
said_run promise NoForm stewards left answer x y z laws right given said folder outputs faults kept = record {
  right = ends_said promise answer x y z (laws.goes_on answer right) right given said folder outputs;
  complete = λ passes. laws.passes passes answer right;
  accepted = λ own. if_none (stop_at answer.status) (laws.own own answer right);
  words = if_none (stop_at answer.status) (laws.words answer right);
  line = if_none (stop_at answer.status) (λ unless. (
    answer.said,
    laws.line answer right unless,
    said ∙ ap (λ (t : Option (List ℕ)). followed_by t answer.said) given.written.said,
  ));
  faults = subst (λ (stop : Option DeskError). CountsFaults stop x.faults z.faults) (sym (laws.goes_on answer right)) (faults ∙ given.written.faults);
  kept = kept;
}

-- a run that was stopped
stopped_run : {Rules : Type 0} (promise : Promise) (NoForm : Type 0) (stewards left : Rules) (stop : DeskError) (x z : Told) → Stops promise x z → CountsFaults (Some stop) x.faults z.faults
    → left ≡ stewards → IsRunOf promise NoForm stewards left (status_of stop) x z
stopped_run promise NoForm stewards left Failed x z stops faults kept = record {
  right = stops;
  complete = λ passes. (λ same. let e : ◌≡◌ {A = Status} status.Desk Words = same in cc, λ same. let e : ◌≡◌ {A = Status} status.Desk Refused = same in cc);
  accepted = λ own. tt;
  words = tt;
  line = tt;
  faults = faults;
  kept = kept;
}
stopped_run promise NoForm stewards left Memory x z stops faults kept = record {
  right = stops;
  complete = λ passes. (λ same. let e : ◌≡◌ {A = Status} status.Memory Words = same in cc, λ same. let e : ◌≡◌ {A = Status} status.Memory Refused = same in cc);
  accepted = λ own. tt;
  words = tt;
  line = tt;
  faults = faults;
  kept = kept;
}

faults_then : (stop : DeskError) (x y z : Told) → y.faults ≡ x.faults → CountsFaults (Some stop) y.faults z.faults → CountsFaults (Some stop) x.faults z.faults
faults_then stop x y z same counted = subst (λ (n : ℕ). CountsFaults (Some stop) n z.faults) same counted

-- A run that gave the answer of its command, or that was stopped, owes nothing more.
pub delivered_run : {Rules : Type 0} (promise : Promise) (NoForm : Type 0) (stewards left : Rules) (answered : Result code.Answer DeskError) (ended : Status) (x y z : Told)
    → HasRunLaws promise NoForm → IfOk answered (HasAnswered promise x y) → IfErr answered (IsStopped promise x y) → IsDelivered answered ended y z → left ≡ stewards
    → IsRunOf promise NoForm stewards left ended x z
delivered_run promise NoForm stewards left (Ok answer) ended x y z laws (text, right, given) stopped (inl said) kept =
    subst (λ (s : Status). IsRunOf promise NoForm stewards left s x z) (sym said.ended)
    (said_run promise NoForm stewards left (answer_with answer text) x y z laws right given said.said said.folder said.outputs said.faults kept)
delivered_run promise NoForm stewards left (Ok answer) ended x y z laws (text, right, given) stopped (inr cut) kept =
    subst (λ (s : Status). IsRunOf promise NoForm stewards left s x z) (sym cut.ended)
    (stopped_run promise NoForm stewards left cut.stop x z (stops_saying promise (answer_with answer text) cut.count x y z right given cut.said cut.folder cut.outputs)
    (faults_then cut.stop x y z given.written.faults cut.faults) kept)
delivered_run promise NoForm stewards left (Err stop) ended x y z laws right stopped (is, same) kept =
    subst (λ (s : Status). IsRunOf promise NoForm stewards left s x z) (sym is)
    (subst (λ (t : Told). IsRunOf promise NoForm stewards left (status_of stop) x t) (sym same)
    (stopped_run promise NoForm stewards left stop x y (stopped_right promise x y stop laws.begun stopped) stopped.faults kept))
