-- The files of the day, one after the other, and their names.
use Rattle.std.proofs.Common.{◌≡◌, ◌∙◌, ap, refl, ℕ, ◌+◌, ◌<◌, List, [], ◌∷◌, ◌++◌, map, true, arith, codes, Vec}
use Rattle.std.specs.declared.alloc.Global.{Global}
use Rattle.std.specs.List.{range_with_len}
use Rattle.std.specs.Map.{keys_of}
use Rattle.std.proofs.lemmas.List.FromFn.{map-range_with_len_more}
use Rattle.std.proofs.lemmas.Fmt.{decimal_digit}
use Rattle.gl_desk.specs.MemDesk.{all_differ}
use Rattle.gl_demo.specs.Draws.{after}
use Rattle.gl_demo.specs.Recording.{draws_before, recording_name, recording_text}
use Rattle.gl_demo.specs.Task.{task_file_name, task_text}
use Rattle.gl_demo.specs.Day.{entrant_file, generated_files, named}

named-append : (files more : List (List ℕ × Vec ℕ Global)) → named (files ++ more) ≡ named files ++ named more
named-append [] more = refl
named-append (file ∷ files) more = ap (λ (rest : List (List ℕ × List ℕ)). (file.0, file.1.items) ∷ rest) (named-append files more)

-- the task alone
pub day-begun : (files now : List (List ℕ × Vec ℕ Global)) (name : List ℕ) (text : Vec ℕ Global) → files ≡ [] → now ≡ files ++ (name, text) ∷ [] → name ≡ task_file_name → text.items ≡ task_text
    → named now ≡ (task_file_name, task_text) ∷ []
day-begun files now name text empty is-now is-name is-text = rw (is-now, empty) (cc)

-- one more recording
pub day-more : (number e v : ℕ) (before now : List (List ℕ × Vec ℕ Global)) (name : List ℕ) (text : Vec ℕ Global)
    → named before ≡ (task_file_name, task_text) ∷ map (entrant_file number) (range_with_len 0 e) → v ≡ after (draws_before e) number → now ≡ before ++ (name, text) ∷ [] → name ≡ recording_name e
    → text.items ≡ recording_text e v → named now ≡ (task_file_name, task_text) ∷ map (entrant_file number) (range_with_len 0 (e + 1))
day-more number e v before now name text is-before is-after is-now is-name is-text =
    let file : (name, text.items) ≡ entrant_file number e = cc in
    rw (is-now, named-append before ((name, text) ∷ []), is-before, file, map-range_with_len_more (entrant_file number) 0 e e (omega arith))

-- the files of all entrants
pub day-whole : (number e : ℕ) (files : List (List ℕ × Vec ℕ Global)) → named files ≡ (task_file_name, task_text) ∷ map (entrant_file number) (range_with_len 0 e) → e ≡ 4
    → named files ≡ generated_files number
unfolding generated_files
day-whole number e files is-files all =
    is-files ∙ ap (λ (n : ℕ). (task_file_name, task_text) ∷ map (entrant_file number) (range_with_len 0 n)) all

-- a recording's name has the digit of its entrant
recording_name-is : (e : ℕ) → e < 10 → recording_name e ≡ 68 ∷ (48 + e) ∷ codes ".IGC"
unfolding recording_name
recording_name-is e small = rw (decimal_digit e small)

keys-named : (files : List (List ℕ × Vec ℕ Global)) → keys_of files ≡ keys_of (named files)
keys-named [] = refl
keys-named (file ∷ files) = ap (λ (names : List (List ℕ)). file.0 ∷ names) (keys-named files)

names-differ : (number : ℕ) → all_differ (keys_of (generated_files number)) ≡ true
unfolding generated_files
names-differ number =
    rw (recording_name-is 0 (omega arith), recording_name-is 1 (omega arith), recording_name-is 2 (omega arith), recording_name-is 3 (omega arith))

-- no two names of the day are one
pub day-differs : (number : ℕ) (files : List (List ℕ × Vec ℕ Global)) → named files ≡ generated_files number → all_differ (keys_of files) ≡ true
day-differs number files is-files = rw (keys-named files, is-files) (names-differ number)
