-- The files that the words of a day name have names without an LF.
use Rattle.std.proofs.Common.{◌≡◌, refl, ℕ, Bool, true, false, ◌&&◌, if◌then◌else◌, List, [], ◌∷◌, Option, None, Some, codes}
use Rattle.std.specs.Prelude.{option_map}
use Rattle.std.specs.Cmp.{first_so, second_so}
use Rattle.std.specs.Option.{option_or}
use Rattle.gl_text.specs.Forms.{is_file_name, is_text}
use Rattle.gl_text.proofs.Forms.{is_unbroken-file}
use Rattle.gl_words.specs.DayWords.{Check, DayCommand, DayNames, Score, check_form, day_command_of, day_names, is_worker_count, score_form}
use Rattle.gl_words.proofs.UnbrokenNames.{AreUnbroken}

-- the files of a command of a day have such names
abbrev pub HasUnbrokenDay : Option DayCommand → Type 0
HasUnbrokenDay None = Unit {0}
HasUnbrokenDay (Some (Score names)) = AreUnbroken names
HasUnbrokenDay (Some (Check names)) = AreUnbroken names

-- so have those that words may give
abbrev HaveUnbroken : Option DayNames → Type 0
HaveUnbroken None = Unit {0}
HaveUnbroken (Some names) = AreUnbroken names

pair_names : (are : Bool) (task proof : List ℕ) → (are ≡ true → AreUnbroken (record { task = task; proof = proof })) → HaveUnbroken (if are then Some (record { task = task; proof = proof }) else None)
pair_names true task proof named = named refl
pair_names false task proof named = tt

day_names_unbroken : (task proof : List ℕ) → HaveUnbroken (day_names task proof)
day_names_unbroken task proof = pair_names (is_file_name task && is_file_name proof) task proof (λ are. record {
  task = is_unbroken-file task (first_so (is_file_name task) (is_file_name proof) are);
  proof = is_unbroken-file proof (second_so (is_file_name task) (is_file_name proof) are);
})

if_names : (is : Bool) (names : Option DayNames) → HaveUnbroken names → HaveUnbroken (if is then names else None)
if_names true names named = named
if_names false names named = tt

score_names : (words : List (List ℕ)) → HaveUnbroken (score_form words)
score_names [] = tt
score_names (word ∷ []) = tt
score_names (word ∷ task ∷ []) = tt
score_names (word ∷ task ∷ proof ∷ []) = tt
score_names (word ∷ task ∷ proof ∷ workers ∷ []) = if_names (is_text word (codes "score") && is_worker_count workers) (day_names task proof) (day_names_unbroken task proof)
score_names (word ∷ task ∷ proof ∷ workers ∷ more ∷ words) = tt

check_names : (words : List (List ℕ)) → HaveUnbroken (check_form words)
check_names [] = tt
check_names (word ∷ []) = tt
check_names (word ∷ task ∷ []) = tt
check_names (word ∷ task ∷ proof ∷ []) = if_names (is_text word (codes "check")) (day_names task proof) (day_names_unbroken task proof)
check_names (word ∷ task ∷ proof ∷ more ∷ words) = tt

as_score : (names : Option DayNames) → HaveUnbroken names → HasUnbrokenDay (option_map Score names)
as_score None named = tt
as_score (Some names) named = named

as_check : (names : Option DayNames) → HaveUnbroken names → HasUnbrokenDay (option_map Check names)
as_check None named = tt
as_check (Some names) named = named

or_names : (first other : Option DayCommand) → HasUnbrokenDay first → HasUnbrokenDay other → HasUnbrokenDay (option_or first other)
or_names None other named others = others
or_names (Some command) other named others = named

-- those of words
pub day_command_names : (words : List (List ℕ)) → HasUnbrokenDay (day_command_of words)
day_command_names words =
    or_names (option_map Score (score_form words)) (option_map Check (check_form words)) (as_score (score_form words) (score_names words)) (as_check (check_form words) (check_names words))
