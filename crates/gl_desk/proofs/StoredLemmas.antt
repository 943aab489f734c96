use Rattle.std.proofs.Common.{◌≡◌, ◌≢◌, ℕ, Bool, List, [], ◌++◌, Option, None, Some, unwrap_or, Decides, refl, sym, ap, ◌∙◌, append_assoc}
use Rattle.std.specs.Prelude.{Contains, is_some, option_map}
use Rattle.std.specs.Ordering.{nat_cmp, eq_by_cmp}
use Rattle.std.specs.Cmp.Lexicographic.{slice_cmp}
use Rattle.std.specs.BTreeMap.{UpdatesBy, IsOrdered, keys}
use Rattle.std.proofs.lemmas.Bool.{false_from_ne_true}
use Rattle.std.proofs.lemmas.Map.Keys.{IsDistinct-from_sorted}
use Rattle.std.proofs.lemmas.Map.Made.{AllPairs-from_IsDistinct, is_member-Decides, is_some-lookup}
use Rattle.std.proofs.lemmas.Map.Text.{is_eq-slice_cmp}
use Rattle.std.proofs.lemmas.Slice.Eq.{bytes_eq-Decides}
use Rattle.gl_desk.specs.declared.mem.MemDesk.{MemDesk}
use Rattle.gl_desk.specs.Desk.{ListsNames}
use Rattle.gl_desk.specs.MemDesk.{StoredFile, StoredFiles, stored, bytes_of, appended_to, files_in, outputs_in, IsSameUnder, AppendsUnder}
use Rattle.gl_desk.specs.Code.MemDesk.{with_piece}

-- the order of names ties two names exactly where they are one
abbrev pub same_name : List ℕ → List ℕ → Bool
same_name = eq_by_cmp (slice_cmp nat_cmp)

pub same_name-Decides : (a b : List ℕ) → Decides (same_name a b) (a ≡ b)
same_name-Decides a b = rw is_eq-slice_cmp (bytes_eq-Decides a b)

-- a change under one name leaves the others
pub other_files_stay : (old new : StoredFiles) (name : List ℕ) (file : Option StoredFile) → UpdatesBy (slice_cmp nat_cmp) (slice_cmp nat_cmp name) old new file
    → (other : List ℕ) → other ≢ name → stored new other ≡ stored old other
other_files_stay old new name file changes other differs =
    changes.2 other (false_from_ne_true _ (λ same. differs (sym ((same_name-Decides name other).0 same))))

-- what is stored under a name decides what its file holds and what was appended to it
pub same_file : (old new : StoredFiles) (name : List ℕ) → stored new name ≡ stored old name → files_in new name ≡ files_in old name
unfolding files_in
same_file old new name same = ap (option_map bytes_of) same

pub same_output : (old new : StoredFiles) (name : List ℕ) → stored new name ≡ stored old name → outputs_in new name ≡ outputs_in old name
unfolding outputs_in
same_output old new name same = ap appended_to same

file_with_piece : (file : Option StoredFile) (piece : List ℕ)
    → option_map bytes_of (Some (with_piece file piece)) ≡ Some (unwrap_or (option_map bytes_of file) [] ++ piece)
file_with_piece None piece = refl
file_with_piece (Some file) piece = ap Some (sym (append_assoc file.0 file.1 piece))

output_with_piece : (file : Option StoredFile) (piece : List ℕ) → appended_to (Some (with_piece file piece)) ≡ appended_to file ++ piece
output_with_piece None piece = refl
output_with_piece (Some file) piece = refl

pub grown_file : (old new : StoredFiles) (name piece : List ℕ) → stored new name ≡ Some (with_piece (stored old name) piece)
    → files_in new name ≡ Some (unwrap_or (files_in old name) [] ++ piece)
unfolding files_in
grown_file old new name piece grown = ap (option_map bytes_of) grown ∙ file_with_piece (stored old name) piece

pub grown_output : (old new : StoredFiles) (name piece : List ℕ) → stored new name ≡ Some (with_piece (stored old name) piece)
    → outputs_in new name ≡ outputs_in old name ++ piece
unfolding outputs_in
grown_output old new name piece grown = ap appended_to grown ∙ output_with_piece (stored old name) piece

pub same_under : (old new : MemDesk) (name : List ℕ) → stored new.files name ≡ stored old.files name → IsSameUnder old new name
same_under old new name same =
    record { file = same_file old.files new.files name same; output = same_output old.files new.files name same }

pub appends : (old new : MemDesk) (name part : List ℕ) → stored new.files name ≡ Some (with_piece (stored old.files name) part) → AppendsUnder old new name part
appends old new name part grown =
    record { file = grown_file old.files new.files name part grown; output = grown_output old.files new.files name part grown }

-- the keys of the files are the folder's names, each once
pub is_some-bytes_of : (file : Option StoredFile) → is_some (option_map bytes_of file) ≡ is_some file
is_some-bytes_of None = refl
is_some-bytes_of (Some file) = refl

has_key : (files : StoredFiles) (name : List ℕ) → Decides (is_some (files_in files name)) (Contains (keys files) name)
unfolding files_in
has_key files name =
    rw (is_some-bytes_of, is_some-lookup) (is_member-Decides same_name-Decides (keys files) name)

pub lists_names : (files : StoredFiles) → IsOrdered (slice_cmp nat_cmp) files → ListsNames (Some (files_in files)) (keys files)
lists_names files ordered = (
  AllPairs-from_IsDistinct same_name-Decides (keys files) (IsDistinct-from_sorted (slice_cmp nat_cmp) (keys files) ordered),
  λ name. ((has_key files name).1, (has_key files name).0),
)
