use Rattle.std.specs.Prelude.{◌≡◌, ◌≢◌, ◌↔◌, ℕ, ◌-◌, ◌^◌, ◌<◌, ◌≤◌, List, [], ◌++◌, length, take, drop, Option, None, Some, IsSome, IfSome, unwrap_or, Contains, AllPairs, ⊤, ◌⊎◌}

-- a folder: the bytes of the file under each name, if there is one
abbrev pub FilesByName : Type 0
FilesByName = List ℕ → Option (List ℕ)

-- for each name, the bytes appended so far
abbrev pub AppendedByName : Type 0
AppendedByName = List ℕ → List ℕ

-- What a desk tells: the files of its folder, the text said so far and what was appended under each
-- name, each where the desk tells it; and how often the outside failed.
pub record Told : Type 0 where
  pub folder : Option FilesByName
  pub said : Option (List ℕ)
  pub outputs : Option AppendedByName
  pub faults : ℕ

-- the count of faults rose; a count at the last value of a `u64` stands still there
abbrev pub Rose : ℕ → ℕ → Type 0
Rose before after = (before < after) ⊎ ((before ≡ 2 ^ 64 - 1) × (after ≡ 2 ^ 64 - 1))

-- where the desk tells its folder, the folder has the name
abbrev pub HasFile : Option FilesByName → List ℕ → Type 0
HasFile None name = ⊤
HasFile (Some files) name = IsSome (files name)

-- where the desk tells its folder, the fact holds of the bytes of the file with this name
abbrev pub OnFile : Option FilesByName → List ℕ → (List ℕ → Type 0) → Type 0
OnFile None name P = ⊤
OnFile (Some files) name P = IfSome (files name) P

-- where the desk tells its folder, this is what it has under the name: the bytes of a file, or none
abbrev pub IsSeenIn : Option FilesByName → List ℕ → Option (List ℕ) → Type 0
IsSeenIn None name seen = ⊤
IsSeenIn (Some files) name seen = files name ≡ seen

-- there are more bytes than the limit to see under the name
abbrev pub IsLongerThan : ℕ → Option FilesByName → List ℕ → Type 0
IsLongerThan limit folder name =
    (file : List ℕ) × (limit < length file) × IsSeenIn folder name (Some file)

-- where the desk tells its folder, these are its names, each once
abbrev pub ListsNames : Option FilesByName → List (List ℕ) → Type 0
ListsNames None names = ⊤
ListsNames (Some files) names =
    AllPairs (λ x y. x ≢ y) names × ((name : List ℕ) → Contains names name ↔ IsSome (files name))

-- the n bytes at the front of the buffer stand in the file from place `at` on; in a buffer with
-- room, n is 0 exactly where `at` is at or past the end
pub record ReadsFrom (file : List ℕ) (at : ℕ) (buffer : List ℕ) (n : ℕ) : Type 0 where
  pub bytes : take n buffer ≡ take n (drop at file)
  pub within : n ≤ length file - at
  pub end : 0 < length buffer → ((n ≡ 0) ↔ (length file ≤ at))

-- the text and then the piece, where the text is told
abbrev pub followed_by : Option (List ℕ) → List ℕ → Option (List ℕ)
followed_by None piece = None
followed_by (Some text) piece = Some (text ++ piece)

-- what was appended under a name, where it is told
abbrev pub output_of : Option AppendedByName → List ℕ → Option (List ℕ)
output_of None name = None
output_of (Some outputs) name = Some (outputs name)

-- the file with a name, if there is one, where the folder is told
abbrev pub file_of : Option FilesByName → List ℕ → Option (Option (List ℕ))
file_of None name = None
file_of (Some files) name = Some (files name)

-- the file and then the piece, where the folder is told; a file that isn't there is made
abbrev pub grown_by : Option (Option (List ℕ)) → List ℕ → Option (Option (List ℕ))
grown_by None piece = None
grown_by (Some file) piece = Some (Some (unwrap_or file [] ++ piece))

-- the part was added to what was appended under the name
abbrev pub OutputGrows : Option AppendedByName → Option AppendedByName → List ℕ → List ℕ → Type 0
OutputGrows before after name part = output_of after name ≡ followed_by (output_of before name) part

-- the part was added to the file with the name, which is made where it isn't there
abbrev pub FileGrows : Option FilesByName → Option FilesByName → List ℕ → List ℕ → Type 0
FileGrows before after name part = file_of after name ≡ grown_by (file_of before name) part

-- the part was added to the file, or there was nothing to add and the file is as it was
abbrev pub FileTakes : Option FilesByName → Option FilesByName → List ℕ → List ℕ → Type 0
FileTakes before after name part =
    FileGrows before after name part ⊎ ((part ≡ []) × (file_of after name ≡ file_of before name))

-- some first part of the piece meets the fact
abbrev pub TakesPrefix : List ℕ → (List ℕ → Type 0) → Type 0
TakesPrefix piece P = (n : ℕ) × P (take n piece)

-- each of the names has a file, as far as is told
abbrev pub HaveFiles : Option FilesByName → List (List ℕ) → Type 0
HaveFiles folder names = (name : List ℕ) → Contains names name → HasFile folder name
