-- The files of a generated day pass the tests of `score`.
use Rattle.std.proofs.Common.{◌≡◌, ◌∙◌, refl, sym, ap, subst, arith, ℕ, inl, inr, Bool, true, false, List, length, map, Option, None, Some, codes}
use Rattle.std.proofs.lemmas.Bool.{lt-ltb}
use Rattle.std.proofs.lemmas.List.Elements.{All-cons, All-map}
use Rattle.std.proofs.lemmas.Str.{IsUtf8-from_is_utf8}
use Rattle.std.specs.Char.{encode_utf8}
use Rattle.std.specs.List.{range_with_len}
use Rattle.std.specs.Option.{option_and_then}
use Rattle.std.specs.Prelude.{All, Any, is_some, nat_lt, slice_index, unwrap_or}
use Rattle.std.specs.Str.{chars, is_utf8}
use Rattle.toml.proofs.OnLiterals.{toml_on_literals}
use Rattle.toml.specs.Data.{Members, no_members}
use Rattle.toml.specs.Parse.{parse_document}
use Rattle.gl_desk.specs.Limits.{most_bytes}
use Rattle.gl_demo.specs.Day.{entrant_file, generated_files}
use Rattle.gl_demo.specs.Recording.{recording_name}
use Rattle.gl_demo.specs.Task.{task_file_name, task_text}
use Rattle.gl_desk.specs.Desk.{FilesByName}
use Rattle.gl_igc.specs.Dates.{day_number, is_in_calendar}
use Rattle.gl_sphere.specs.Components.{written_x, written_y, written_z}
use Rattle.gl_sphere.specs.Place.{written_vector}
use Rattle.gl_sphere.specs.PlaceText.{angle_of, latitude_of, longitude_of, place_of_text, signed_by}
use Rattle.gl_sphere.specs.Product.{product, scaled, with_sign_of}
use Rattle.gl_sphere.specs.Sine.{half_turn_sine, quarter_sine, radians, sine_sum, sine_term, written_cosine, written_sine}
use Rattle.gl_task_file.specs.Keys.{first_failed, said}
use Rattle.gl_task_file.specs.Places.{grid_at, grid_of_text, other_point}
use Rattle.gl_task.specs.SamePoint.{is_same_vector}
use Rattle.gl_task_file.specs.Reading.{IsDocument}
use Rattle.gl_task_file.specs.Tests.{course_tests, day_tests, entrant_tests, entrants_tests, finish_tests, head_tests, lists_tests, numbered_tests, part_tests, people_tests, pilot_tests, plan_tests, rules_tests, start_tests, tests, time_tests, way_tests, word_tests, zone_tests, zones_tests}
use Rattle.gl_task_file.specs.Values.{day_of, file_name, kind_of, list_word_of, recent_day}
use Rattle.gl_text.specs.Digits.{number_of}
use Rattle.gl_text.specs.Forms.{is_file_name}
use Rattle.gl_answer.specs.declared.refusal.Refusal.{Refusal}
use Rattle.gl_answer.specs.declared.refusal.Cause.{Cause}
use Rattle.gl_day_files.specs.DayFiles.{IsScoreSeen, ScoreSeen, airspace_tests, named_airspace, score_tests, task_tests}
use Rattle.gl_answer.specs.FileTests.{FirstFails, IsNoText}
use Rattle.gl_day_files.specs.DayFiles.{TaskText, task_cause}
use Rattle.gl_day_files.proofs.Readings.{table_refused}
use Rattle.gl_app.specs.Demo.{HasJust, demo_names}

-- the table of the task
unfoldable pub demo_table : Members
demo_table = unwrap_or (parse_document task_text) no_members

demo_is_read : is_some (parse_document task_text) ≡ true
unfolding toml_on_literals task_text
demo_is_read = refl

held : {A : Type 0} (o : Option A) (other : A) → is_some o ≡ true → o ≡ Some (unwrap_or o other)
held None other is = absurd (cc)
held (Some a) other is = refl

demo_reads : parse_document task_text ≡ Some demo_table
unfolding demo_table
demo_reads = held (parse_document task_text) no_members demo_is_read

demo_utf8 : is_utf8 task_text ≡ true
unfolding is_utf8 chars encode_utf8 task_text
demo_utf8 = refl

-- the task's text is that table
pub demo_document : IsDocument task_text demo_table
demo_document = record { utf8 = IsUtf8-from_is_utf8 task_text demo_utf8; reads = demo_reads }

-- it passes all tests
pub demo_table_passes : first_failed (tests demo_table) ≡ None
unfolding toml_on_literals task_text demo_table tests plan_tests head_tests course_tests way_tests people_tests numbered_tests day_tests word_tests lists_tests start_tests time_tests pilot_tests
    part_tests zone_tests zones_tests finish_tests rules_tests entrant_tests entrants_tests day_of recent_day kind_of list_word_of grid_at grid_of_text is_same_vector other_point number_of day_number
    is_in_calendar angle_of latitude_of longitude_of place_of_text signed_by written_vector written_x written_y written_z product scaled with_sign_of half_turn_sine quarter_sine radians sine_sum
    sine_term written_cosine written_sine is_file_name
demo_table_passes = refl

-- and names no airspace
pub demo_names_no_airspace : said (codes "airspace") file_name demo_table ≡ None
unfolding toml_on_literals task_text demo_table
demo_names_no_airspace = refl

large_or_not : (large : Bool) → large ≡ false → large ≡ true → ⊥
large_or_not large small is = cc

-- the text is small
demo_text_small : nat_lt most_bytes (length task_text) ≡ false
unfolding task_text
demo_text_small = refl

no_refusal : (cause : Cause) → IsNoText TaskText task_text cause → ⊥
no_refusal cause (error, is, why) =
    let memory = table_refused task_text demo_table error demo_document demo_table_passes is in
    let e : ◌≡◌ {A = Option Cause} None (Some cause) = sym (ap task_cause memory) ∙ why in cc

-- it names no airspace file
no_airspace : named_airspace task_text ≡ None
unfolding named_airspace
no_airspace = ap (option_and_then (said (codes "airspace") file_name)) demo_reads ∙ demo_names_no_airspace

no_tests : (file seen : Option (List ℕ)) (refusal : Refusal) → file ≡ None → FirstFails (airspace_tests file seen) refusal → ⊥
no_tests None seen refusal none fails = fails
no_tests (Some file) seen refusal none fails = absurd (cc)

-- so no test fails of that text
text_passes : (file : List ℕ) (air : Option (List ℕ)) (refusal : Refusal) → FirstFails (task_tests file (record { text = Some task_text; airspace = air })) refusal → ⊥
text_passes file air refusal (inl (same, (large, why))) = large_or_not (nat_lt most_bytes (length task_text)) demo_text_small (lt-ltb most_bytes (length task_text) large)
text_passes file air refusal (inr (small, inl (same, wrong))) = no_refusal refusal.cause wrong
text_passes file air refusal (inr (small, inr (reads, fails))) = no_tests (named_airspace task_text) air refusal no_airspace fails

-- each name begins with D
abbrev BeginsWithD : List ℕ × List ℕ → Type 0
BeginsWithD file = slice_index file.0 0 ≡ 68

entrant_named : (number entrant : ℕ) → BeginsWithD (entrant_file number entrant)
unfolding recording_name
entrant_named number entrant = refl

all_named : (number : ℕ) → All BeginsWithD (generated_files number)
unfolding generated_files
all_named number =
    All-cons BeginsWithD (task_file_name, task_text) (map (entrant_file number) (range_with_len 0 4)) refl
    (All-map BeginsWithD (entrant_file number) (range_with_len 0 4) (λ k d less. entrant_named number _))

begins_so : (files : List (List ℕ × List ℕ)) (name : List ℕ) → All BeginsWithD files → Any (λ file. file.0 ≡ name) files → slice_index name 0 ≡ 68
begins_so files name all any =
    sym (ap (λ (f : List ℕ × List ℕ). slice_index f.0 0) any.3 ∙ ap (λ (n : List ℕ). slice_index n 0) any.4) ∙ all any.0 any.1 any.2

begins_otherwise : slice_index demo_names.proof 0 ≡ 68 → ⊥
begins_otherwise same = let e : ◌≡◌ {A = ℕ} 80 68 = same in cc

no_proof_named : (number : ℕ) → Any (λ (file : List ℕ × List ℕ). file.0 ≡ demo_names.proof) (generated_files number) → ⊥
no_proof_named number any = begins_otherwise (begins_so (generated_files number) demo_names.proof (all_named number) any)

no_proof : (number : ℕ) (folder : FilesByName) (there : Option (List ℕ)) → HasJust (generated_files number) folder → folder demo_names.proof ≡ there → there ≡ None
no_proof number folder None has same = refl
no_proof number folder (Some bytes) has same = absurd (no_proof_named number (has.only demo_names.proof (ap is_some same)))

task_there : (number : ℕ) (folder : FilesByName) → HasJust (generated_files number) folder → folder task_file_name ≡ Some task_text
unfolding generated_files
task_there number folder has = has.each 0 (task_file_name, task_text) (omega arith)

-- the tests of `score` refuse no file of a generated day
not_refused : (text proof air : Option (List ℕ)) (refusal : Refusal) → text ≡ Some task_text → proof ≡ None
    → FirstFails (score_tests demo_names (record { task = record { text = text; airspace = air }; proof = proof })) refusal → ⊥
not_refused None proof air refusal there new fails = absurd (cc)
not_refused (Some text) (Some bytes) air refusal there new fails = absurd (cc)
not_refused (Some text) None air refusal there new (inl (same, (none, why))) = cc
not_refused (Some text) None air refusal there new (inr (listed, inl (same, (some, why)))) = cc
not_refused (Some text) None air refusal there new (inr (listed, inr (unlisted, fails))) =
    let e : text ≡ task_text = cc in
    text_passes task_file_name air refusal (subst (λ (t : List ℕ). FirstFails (task_tests task_file_name (record { text = Some t; airspace = air })) refusal) e fails)

pub demo_not_refused : (number : ℕ) (folder : FilesByName) (seen : ScoreSeen) (refusal : Refusal) → HasJust (generated_files number) folder → IsScoreSeen demo_names (Some folder) seen
    → FirstFails (score_tests demo_names seen) refusal → ⊥
demo_not_refused number folder seen refusal has is fails =
    not_refused seen.task.text seen.proof seen.task.airspace refusal (sym is.task.text ∙ task_there number folder has) (no_proof number folder seen.proof has is.proof) fails
