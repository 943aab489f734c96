-- The files of a day have names without an LF.
use Rattle.std.proofs.Common.{◌≡◌, refl, subst, ℕ, Bool, true, false, if◌then◌else◌, List, Option, None, Some, codes}
use Rattle.std.specs.Option.{option_and_then}
use Rattle.toml.specs.Data.{Data, Members, as_str, get_member}
use Rattle.toml.specs.Parse.{parse_document}
use Rattle.gl_text.specs.Forms.{is_file_name}
use Rattle.gl_task_file.specs.Keys.{said}
use Rattle.gl_task_file.specs.Values.{file_name, in_form}
use Rattle.gl_words.specs.DayWords.{DayNames}
use Rattle.gl_text.proofs.Forms.{is_unbroken, is_unbroken-file}
use Rattle.gl_words.proofs.UnbrokenNames.{AreUnbroken}
use Rattle.gl_day_files.specs.DayFiles.{ScoreSeen, TaskSeen, airspace_file, airspace_tests, check_tests, named_airspace, score_tests, task_tests}
use Rattle.gl_answer.specs.FileTests.{ProofText, text_tests}
use Rattle.gl_answer.proofs.FileTests.{AreNamed, all_named}

form_is : (text file : List ℕ) (fits : Bool) → is_file_name text ≡ fits → (if fits then Some text else None) ≡ Some file → is_unbroken file ≡ true
form_is text file true fits same =
    let e : text ≡ file = cc in
    is_unbroken-file file (subst (λ (t : List ℕ). is_file_name t ≡ true) e fits)
form_is text file false fits same = absurd (cc)

text_is : (text : Option (List ℕ)) (file : List ℕ) → option_and_then (in_form is_file_name) text ≡ Some file → is_unbroken file ≡ true
text_is None file same = absurd (cc)
text_is (Some text) file same = form_is text file (is_file_name text) refl same

value_is : (value : Option Data) (file : List ℕ) → option_and_then file_name value ≡ Some file → is_unbroken file ≡ true
value_is None file same = absurd (cc)
value_is (Some value) file same = text_is (as_str value) file same

table_is : (table : Option Members) (file : List ℕ) → option_and_then (said (codes "airspace") file_name) table ≡ Some file → is_unbroken file ≡ true
table_is None file same = absurd (cc)
table_is (Some table) file same = value_is (get_member (codes "airspace") table) file same

named_unbroken : (text file : List ℕ) → named_airspace text ≡ Some file → is_unbroken file ≡ true
unfolding named_airspace
named_unbroken text file same = table_is (parse_document text) file same

seen_unbroken : (seen : Option (List ℕ)) (file : List ℕ) → airspace_file seen ≡ Some file → is_unbroken file ≡ true
seen_unbroken None file same = absurd (cc)
seen_unbroken (Some text) file same = named_unbroken text file same

airspace_named : (file seen : Option (List ℕ)) → ((name : List ℕ) → file ≡ Some name → is_unbroken name ≡ true) → AreNamed (airspace_tests file seen)
airspace_named None seen named = tt
airspace_named (Some file) seen named = (named file refl, (named file refl, (named file refl, tt)))

task_named : (file : List ℕ) (seen : TaskSeen) → is_unbroken file ≡ true → AreNamed (task_tests file seen)
task_named file seen named = (named, (named, airspace_named (airspace_file seen.text) seen.airspace (seen_unbroken seen.text)))

pub score_named : (names : DayNames) → AreUnbroken names → (seen : ScoreSeen) → AreNamed (score_tests names seen)
score_named names named seen = (named.task, (named.proof, task_named names.task seen.task named.task))

pub check_named : (most : ℕ) (names : DayNames) → AreUnbroken names → (seen : ScoreSeen) → AreNamed (check_tests most names seen)
check_named most names named seen = (
  named.task,
  (named.proof, all_named (task_tests names.task seen.task) (text_tests ProofText most names.proof seen.proof) (task_named names.task seen.task named.task) (named.proof, (named.proof, tt))),
)
