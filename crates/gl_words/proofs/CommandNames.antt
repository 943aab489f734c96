-- The files that words name have names without an LF.
use Rattle.std.proofs.Common.{◌≡◌, refl, ℕ, Bool, true, false, ◌&&◌, if◌then◌else◌, List, [], ◌∷◌, Option, None, Some, codes}
use Rattle.std.specs.Prelude.{is_some, option_map}
use Rattle.std.specs.Cmp.{first_so, second_so}
use Rattle.std.specs.Str.Parse.{digits_value}
use Rattle.std.specs.Option.{option_or}
use Rattle.gl_sphere.specs.PlaceText.{place_of_text}
use Rattle.gl_text.specs.Forms.{is_file_name, is_text}
use Rattle.gl_words.specs.Words.{Badge, BadgeCheck, BadgeWords, Command, Demo, Free, Near, NearCheck, NearWords, Point, Replay, ReplayWords, Series, SeriesWords, Triangle, badge_form, command_of, demo_form, file_form, near_form, near_words, number_within, point_form, replay_form, replay_words, series_form, series_words}
use Rattle.gl_words.specs.DayWords.{is_worker_count}
use Rattle.gl_text.proofs.Forms.{is_unbroken, is_unbroken-file}
use Rattle.gl_words.proofs.Unbroken.{HasUnbrokenBadge, HasUnbrokenNear, HasUnbrokenFiles}

-- the files of a command have such names
abbrev pub HasUnbrokenNames : Option Command → Type 0
HasUnbrokenNames None = Unit {0}
HasUnbrokenNames (Some (Free file)) = is_unbroken file ≡ true
HasUnbrokenNames (Some (Triangle file)) = is_unbroken file ≡ true
HasUnbrokenNames (Some (Replay words)) = HasUnbrokenFiles words
HasUnbrokenNames (Some (Near words)) = HasUnbrokenNear words
HasUnbrokenNames (Some (NearCheck words)) = HasUnbrokenNear words
HasUnbrokenNames (Some (Point words)) = is_unbroken words.flight ≡ true
HasUnbrokenNames (Some (Badge words)) = HasUnbrokenBadge words
HasUnbrokenNames (Some (BadgeCheck words)) = HasUnbrokenBadge words
HasUnbrokenNames (Some (Series words)) = is_unbroken words.list ≡ true
HasUnbrokenNames (Some (Demo number)) = Unit {0}

-- so has one file
abbrev HasUnbroken : Option (List ℕ) → Type 0
HasUnbroken None = Unit {0}
HasUnbroken (Some file) = is_unbroken file ≡ true

file_name : (is : Bool) (file : List ℕ) → (is ≡ true → is_unbroken file ≡ true) → HasUnbroken (if is then Some file else None)
file_name true file named = named refl
file_name false file named = tt

file_names : (first : List ℕ) (words : List (List ℕ)) → HasUnbroken (file_form first words)
file_names first [] = tt
file_names first (word ∷ []) = tt
file_names first (word ∷ file ∷ []) = file_name (is_text word first && is_file_name file) file (λ is. is_unbroken-file file (second_so (is_text word first) (is_file_name file) is))
file_names first (word ∷ file ∷ more ∷ words) = tt

as_free : (file : Option (List ℕ)) → HasUnbroken file → HasUnbrokenNames (option_map Free file)
as_free None named = tt
as_free (Some file) named = named

as_triangle : (file : Option (List ℕ)) → HasUnbroken file → HasUnbrokenNames (option_map Triangle file)
as_triangle None named = tt
as_triangle (Some file) named = named

-- so have the two files of `replay`
abbrev HaveUnbrokenFiles : Option ReplayWords → Type 0
HaveUnbrokenFiles None = Unit {0}
HaveUnbrokenFiles (Some words) = HasUnbrokenFiles words

some_files : (are : Bool) (words : ReplayWords) → (are ≡ true → HasUnbrokenFiles words) → HaveUnbrokenFiles (if are then Some words else None)
some_files true words named = named refl
some_files false words named = tt

replay_files : (flight schedule : List ℕ) (workers : ℕ) → HaveUnbrokenFiles (replay_words flight schedule workers)
replay_files flight schedule workers = some_files (is_file_name flight && is_file_name schedule) (record { flight = flight; schedule = schedule; workers = workers }) (λ are. record {
  flight = is_unbroken-file flight (first_so (is_file_name flight) (is_file_name schedule) are);
  schedule = is_unbroken-file schedule (second_so (is_file_name flight) (is_file_name schedule) are);
})

if_files : (is : Bool) (words : Option ReplayWords) → HaveUnbrokenFiles words → HaveUnbrokenFiles (if is then words else None)
if_files true words named = named
if_files false words named = tt

replay_names : (words : List (List ℕ)) → HaveUnbrokenFiles (replay_form words)
replay_names [] = tt
replay_names (word ∷ []) = tt
replay_names (word ∷ flight ∷ []) = tt
replay_names (word ∷ flight ∷ schedule ∷ []) = tt
replay_names (word ∷ flight ∷ schedule ∷ workers ∷ []) = if_files (is_text word (codes "replay") && is_worker_count workers) (replay_words flight schedule (digits_value 10 workers))
    (replay_files flight schedule (digits_value 10 workers))
replay_names (word ∷ flight ∷ schedule ∷ workers ∷ more ∷ words) = tt

as_replay : (words : Option ReplayWords) → HaveUnbrokenFiles words → HasUnbrokenNames (option_map Replay words)
as_replay None named = tt
as_replay (Some words) named = named

-- so have the three files of `near`
abbrev HaveUnbrokenNear : Option NearWords → Type 0
HaveUnbrokenNear None = Unit {0}
HaveUnbrokenNear (Some words) = HasUnbrokenNear words

some_near : (one other third : Bool) (words : NearWords) → (one ≡ true → other ≡ true → third ≡ true → HasUnbrokenNear words) → HaveUnbrokenNear (if one && other && third then Some words else None)
some_near true true true words named = named refl refl refl
some_near true true false words named = tt
some_near true false third words named = tt
some_near false other third words named = tt

near_files : (flight other : List ℕ) (seconds : Option ℕ) (proof : List ℕ) → HaveUnbrokenNear (near_words flight other seconds proof)
near_files flight other None proof = tt
near_files flight other (Some seconds) proof =
    some_near (is_file_name flight) (is_file_name other) (is_file_name proof) (record { flight = flight; other = other; seconds = seconds; proof = proof })
    (λ one two three. record { flight = is_unbroken-file flight one; other = is_unbroken-file other two; proof = is_unbroken-file proof three })

if_near : (is : Bool) (words : Option NearWords) → HaveUnbrokenNear words → HaveUnbrokenNear (if is then words else None)
if_near true words named = named
if_near false words named = tt

near_names : (first : List ℕ) (words : List (List ℕ)) → HaveUnbrokenNear (near_form first words)
near_names first [] = tt
near_names first (word ∷ []) = tt
near_names first (word ∷ flight ∷ []) = tt
near_names first (word ∷ flight ∷ other ∷ []) = tt
near_names first (word ∷ flight ∷ other ∷ seconds ∷ []) = tt
near_names first (word ∷ flight ∷ other ∷ seconds ∷ proof ∷ []) =
    if_near (is_text word first) (near_words flight other (number_within 0 3_600 seconds) proof) (near_files flight other (number_within 0 3_600 seconds) proof)
near_names first (word ∷ flight ∷ other ∷ seconds ∷ proof ∷ more ∷ words) = tt

as_near : (words : Option NearWords) → HaveUnbrokenNear words → HasUnbrokenNames (option_map Near words)
as_near None named = tt
as_near (Some words) named = named

as_near_check : (words : Option NearWords) → HaveUnbrokenNear words → HasUnbrokenNames (option_map NearCheck words)
as_near_check None named = tt
as_near_check (Some words) named = named

some_point : (one other third : Bool) (flight place : List ℕ) → (other ≡ true → is_unbroken flight ≡ true)
    → HasUnbrokenNames (option_map Point (if one && other && third then Some (record { flight = flight; place = place }) else None))
some_point true true true flight place named = named refl
some_point true true false flight place named = tt
some_point true false third flight place named = tt
some_point false other third flight place named = tt

point_names : (words : List (List ℕ)) → HasUnbrokenNames (option_map Point (point_form words))
point_names [] = tt
point_names (word ∷ []) = tt
point_names (word ∷ flight ∷ []) = tt
point_names (word ∷ flight ∷ place ∷ []) =
    some_point (is_text word (codes "point")) (is_file_name flight) (is_some (place_of_text place)) flight place (is_unbroken-file flight)
point_names (word ∷ flight ∷ place ∷ more ∷ words) = tt

-- so have the two files of `badge`
abbrev HaveUnbrokenBadge : Option BadgeWords → Type 0
HaveUnbrokenBadge None = Unit {0}
HaveUnbrokenBadge (Some words) = HasUnbrokenBadge words

some_badge : (one other third : Bool) (flight proof : List ℕ) → (other ≡ true → is_unbroken flight ≡ true) → (third ≡ true → is_unbroken proof ≡ true)
    → HaveUnbrokenBadge (if one && other && third then Some (record { flight = flight; proof = proof }) else None)
some_badge true true true flight proof named also = record { flight = named refl; proof = also refl }
some_badge true true false flight proof named also = tt
some_badge true false third flight proof named also = tt
some_badge false other third flight proof named also = tt

badge_names : (first : List ℕ) (words : List (List ℕ)) → HaveUnbrokenBadge (badge_form first words)
badge_names first [] = tt
badge_names first (word ∷ []) = tt
badge_names first (word ∷ flight ∷ []) = tt
badge_names first (word ∷ flight ∷ proof ∷ []) =
    some_badge (is_text word first) (is_file_name flight) (is_file_name proof) flight proof (is_unbroken-file flight) (is_unbroken-file proof)
badge_names first (word ∷ flight ∷ proof ∷ more ∷ words) = tt

as_badge : (words : Option BadgeWords) → HaveUnbrokenBadge words → HasUnbrokenNames (option_map Badge words)
as_badge None named = tt
as_badge (Some words) named = named

as_badge_check : (words : Option BadgeWords) → HaveUnbrokenBadge words → HasUnbrokenNames (option_map BadgeCheck words)
as_badge_check None named = tt
as_badge_check (Some words) named = named

-- so has the list of `series`
some_list : (is : Bool) (words : SeriesWords) → (is ≡ true → is_unbroken words.list ≡ true) → HasUnbrokenNames (option_map Series (if is then Some words else None))
some_list true words named = named refl
some_list false words named = tt

series_list : (list : List ℕ) (days : Option ℕ) → HasUnbrokenNames (option_map Series (series_words list days))
series_list list None = tt
series_list list (Some days) = some_list (is_file_name list) (record { list = list; left_out = days }) (is_unbroken-file list)

if_series : (is : Bool) (words : Option SeriesWords) → HasUnbrokenNames (option_map Series words) → HasUnbrokenNames (option_map Series (if is then words else None))
if_series true words named = named
if_series false words named = tt

series_names : (words : List (List ℕ)) → HasUnbrokenNames (option_map Series (series_form words))
series_names [] = tt
series_names (word ∷ []) = tt
series_names (word ∷ list ∷ []) = tt
series_names (word ∷ list ∷ days ∷ []) = if_series (is_text word (codes "series")) (series_words list (number_within 0 30 days)) (series_list list (number_within 0 30 days))
series_names (word ∷ list ∷ days ∷ more ∷ words) = tt

as_demo : (number : Option ℕ) → HasUnbrokenNames (option_map Demo number)
as_demo None = tt
as_demo (Some number) = tt

or_names : (first other : Option Command) → HasUnbrokenNames first → HasUnbrokenNames other → HasUnbrokenNames (option_or first other)
or_names None other named others = others
or_names (Some command) other named others = named

-- those of words
pub command_names : (words : List (List ℕ)) → HasUnbrokenNames (command_of words)
unfolding command_of
command_names words =
    let free = file_form (codes "free") words in
    let triangle = file_form (codes "triangle") words in
    let replay = option_map Replay (replay_form words) in
    let demo = option_map Demo (demo_form words) in
    let near = option_map Near (near_form (codes "near") words) in
    let near_check = option_map NearCheck (near_form (codes "nearcheck") words) in
    let point = option_map Point (point_form words) in
    let nearest = option_or near (option_or near_check point) in
    let series = option_map Series (series_form words) in
    let numbered = option_or series demo in
    let badge = option_map Badge (badge_form (codes "badge") words) in
    let badge_check = option_map BadgeCheck (badge_form (codes "badgecheck") words) in
    let badges = option_or badge badge_check in
    let flights = option_or nearest badges in
    let last = option_or flights numbered in
    or_names (option_or (option_map Free free) (option_map Triangle triangle)) (option_or replay last)
    (or_names (option_map Free free) (option_map Triangle triangle) (as_free free (file_names (codes "free") words)) (as_triangle triangle (file_names (codes "triangle") words)))
    (or_names replay last (as_replay (replay_form words) (replay_names words))
    (or_names flights numbered
    (or_names nearest badges
    (or_names near (option_or near_check point) (as_near (near_form (codes "near") words) (near_names (codes "near") words))
    (or_names near_check point (as_near_check (near_form (codes "nearcheck") words) (near_names (codes "nearcheck") words)) (point_names words)))
    (or_names badge badge_check (as_badge (badge_form (codes "badge") words) (badge_names (codes "badge") words))
    (as_badge_check (badge_form (codes "badgecheck") words) (badge_names (codes "badgecheck") words))))
    (or_names series demo (series_names words) (as_demo (demo_form words)))))
