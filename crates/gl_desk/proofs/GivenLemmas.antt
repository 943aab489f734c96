use Rattle.std.proofs.Common.{◌≡◌, ℕ, ◌<◌, Bool, true, false, not, ◌&&◌, ◌||◌, cond, List, [], ◌∷◌, ◌++◌, length, get_or, Vec, Global, Option, None, Some, IsSome, refl, sym, ap, ◌∙◌}
use Rattle.std.specs.Prelude.{All, Any, option_map, slice_get}
use Rattle.std.specs.List.{AllByRecursion, IsDistinct, list_any}
use Rattle.std.specs.Str.{bytes_eq}
use Rattle.std.specs.Cmp.{IsEquivalence, eq_by_cmp_equiv}
use Rattle.std.specs.BTreeMap.{UpdatesBy}
use Rattle.std.specs.Cmp.Lexicographic.{nat_list_cmp_total, slice_cmp}
use Rattle.std.specs.Ordering.{nat_cmp}
use Rattle.std.specs.Map.{keys_of, lookup, update_all}
use Rattle.std.specs.Option.{is_some}
use Rattle.std.proofs.lemmas.Bool.{false≢true}
use Rattle.std.proofs.lemmas.List.{append-nil, map-append}
use Rattle.std.proofs.lemmas.Map.{update_all_push}
use Rattle.std.proofs.lemmas.List.Folds.{Any-from_list_any}
use Rattle.std.proofs.lemmas.Map.Entries.{lookup_from_place}
use Rattle.std.proofs.lemmas.Map.Keys.{IsDistinct-cons}
use Rattle.std.proofs.lemmas.Map.Made.{is_some-lookup, update_all_none}
use Rattle.std.proofs.lemmas.Map.Text.{is_eq-slice_cmp}
use Rattle.std.proofs.lemmas.Option.{slice_get-map, slice_get-get_or}
use Rattle.gl_desk.specs.MemDesk.{StoredFile, StoredFiles, stored, bytes_of, appended_to, files_in, outputs_in, all_differ, HoldsFiles}
use Rattle.gl_desk.specs.Code.MemDesk.{given_files}
use Rattle.gl_desk.proofs.StoredLemmas.{same_name, same_name-Decides, is_some-bytes_of}

-- a file as it is given: its name and its bytes
abbrev GivenFile : Type 0
GivenFile = List ℕ × Vec ℕ Global

laws : IsEquivalence same_name
laws = eq_by_cmp_equiv nat_list_cmp_total

apart_from_one : (name other : List ℕ) (names : List (List ℕ)) (b : Bool) → bytes_eq name other ≡ b → (b || list_any (bytes_eq name) names) ≡ false
    → (list_any (bytes_eq name) names ≡ false → AllByRecursion (λ y. same_name name y ≡ false) names)
    → AllByRecursion (λ y. same_name name y ≡ false) (other ∷ names)
apart_from_one name other names true same none rest = absurd (false≢true (sym none))
apart_from_one name other names false differs none rest = (is_eq-slice_cmp name other ∙ differs, rest none)

apart_from_all : (name : List ℕ) (names : List (List ℕ)) → list_any (bytes_eq name) names ≡ false → AllByRecursion (λ other. same_name name other ≡ false) names
apart_from_all name [] none = tt
apart_from_all name (other ∷ names) none = apart_from_one name other names (bytes_eq name other) refl none (apart_from_all name names)

distinct_from : (name : List ℕ) (names : List (List ℕ)) (b : Bool) → list_any (bytes_eq name) names ≡ b → (not b && all_differ names) ≡ true
    → (all_differ names ≡ true → IsDistinct same_name names) → IsDistinct same_name (name ∷ names)
distinct_from name names true same differ rest = absurd (false≢true differ)
distinct_from name names false none differ rest = IsDistinct-cons same_name name names (apart_from_all name names none) (rest differ)

-- the test says what it is called
distinct : (names : List (List ℕ)) → all_differ names ≡ true → IsDistinct same_name names
unfolding IsDistinct
distinct [] differ = tt
distinct (name ∷ names) differ = distinct_from name names (list_any (bytes_eq name) names) refl differ (distinct names)

keys_of-given_files : (files : List GivenFile) → keys_of (given_files files) ≡ keys_of files
keys_of-given_files [] = refl
keys_of-given_files (file ∷ files) = ap (λ (names : List (List ℕ)). file.0 ∷ names) (keys_of-given_files files)

given_distinct : (files : List GivenFile) → all_differ (keys_of files) ≡ true → IsDistinct same_name (keys_of (given_files files))
given_distinct files differ = rw keys_of-given_files (distinct (keys_of files) differ)

-- files put into a map one after another, where no two have one name
pub lookup-given_files : (files : List GivenFile) (name : List ℕ) → all_differ (keys_of files) ≡ true
    → update_all same_name (λ _. None) (given_files files) name ≡ lookup (same_name name) (given_files files)
lookup-given_files files name differ = update_all_none laws same_name (λ _ _. refl) (given_files files) name (given_distinct files differ)

-- one file more that is put into the map
pub stored_more : (made new : StoredFiles) (files : List GivenFile) (file : GivenFile)
    → ((name : List ℕ) → stored made name ≡ update_all same_name (λ _. None) (given_files files) name)
    → UpdatesBy (slice_cmp nat_cmp) (slice_cmp nat_cmp file.0) made new (Some (file.1.items, []))
    → (name : List ℕ) → stored new name ≡ update_all same_name (λ _. None) (given_files (files ++ file ∷ [])) name
stored_more made new files file so_far updates name =
    let stands : StoredFile = (file.1.items, []) in
    updates.0 name ∙ (update_all_push same_name (λ _. None) (stored made) (given_files files) (file.0, stands) name (so_far name)
    ∙ ap (λ (l : List (List ℕ × StoredFile)). update_all same_name (λ _. None) l name) (sym (map-append _ files (file ∷ []))))

-- what a map holds that answers as the files do
abbrev pub Answers : List GivenFile → StoredFiles → Type 0
Answers files made = (name : List ℕ) → stored made name ≡ lookup (same_name name) (given_files files)

at_place : (files : List GivenFile) (k : ℕ) (d : GivenFile) → k < length files
    → slice_get (given_files files) k ≡ Some ((get_or files k d).0, ((get_or files k d).1.items, []))
at_place files k d within = slice_get-map _ files k ∙ ap (option_map _) (slice_get-get_or files k d within)

each : (files : List GivenFile) (made : StoredFiles) → all_differ (keys_of files) ≡ true → Answers files made
    → All (λ file. files_in made file.0 ≡ Some file.1.items) files
unfolding files_in
each files made differ answers k d within =
    ap (option_map bytes_of) (answers _ ∙ lookup_from_place laws (given_files files) k _ _ (given_distinct files differ) (at_place files k d within))
    ∙ ap Some (append-nil _)

tests_keys : (test : List ℕ → Bool) (files : List GivenFile) → list_any test (keys_of (given_files files)) ≡ list_any (λ file. test file.0) files
tests_keys test [] = refl
tests_keys test (file ∷ files) = ap (λ (b : Bool). test file.0 || b) (tests_keys test files)

only : (files : List GivenFile) (made : StoredFiles) → Answers files made
    → (name : List ℕ) → IsSome (files_in made name) → Any (λ file. file.0 ≡ name) files
unfolding files_in
only files made answers name there =
    let found : is_some (stored made name) ≡ true = sym (is_some-bytes_of (stored made name)) ∙ there in
    let tested : list_any (λ (file : GivenFile). same_name name file.0) files ≡ true =
    sym (tests_keys (same_name name) files) ∙ sym (is_some-lookup (same_name name) (given_files files)) ∙ sym (ap is_some (answers name)) ∙ found in
    let place = Any-from_list_any (λ (file : GivenFile). same_name name file.0) files tested in
    (place.0, place.1, place.2, place.3, sym ((same_name-Decides name place.1.0).0 place.4))

pub holds_files : (files : List GivenFile) (made : StoredFiles) → all_differ (keys_of files) ≡ true → Answers files made → HoldsFiles files (files_in made)
holds_files files made differ answers = record { each = each files made differ answers; only = only files made answers }

nothing_at : (b : Bool) (bytes : List ℕ) (rest : Option StoredFile) → appended_to rest ≡ [] → appended_to (cond b (Some (bytes, [])) rest) ≡ []
nothing_at true bytes rest none = refl
nothing_at false bytes rest none = none

nothing_appended : (files : List GivenFile) (test : List ℕ → Bool) → appended_to (lookup test (given_files files)) ≡ []
nothing_appended [] test = refl
nothing_appended (file ∷ files) test = nothing_at (test file.0) file.1.items (lookup test (given_files files)) (nothing_appended files test)

pub no_output : (files : List GivenFile) (made : StoredFiles) → Answers files made → (name : List ℕ) → outputs_in made name ≡ []
unfolding outputs_in
no_output files made answers name = ap appended_to (answers name) ∙ nothing_appended files (same_name name)
