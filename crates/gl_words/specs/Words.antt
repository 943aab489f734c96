-- The words of the commands that aren't those of a day.
use Rattle.std.specs.Prelude.{ℕ, ◌&&◌, nat_le, if◌then◌else◌, List, [], ◌∷◌, Option, None, Some, codes, is_some, option_map}
use Rattle.std.specs.Fmt.{decimal}
use Rattle.std.specs.Option.{option_or}
use Rattle.std.specs.Str.Parse.{digits_value}
use Rattle.gl_sphere.specs.PlaceText.{place_of_text}
use Rattle.gl_words.specs.DayWords.{is_worker_count}
use Rattle.gl_text.specs.Forms.{is_text, is_file_name}

-- the names of a recording and of a schedule, and how many workers follow it
pub record ReplayWords : Type 0 where
  pub flight : List ℕ
  pub schedule : List ℕ
  pub workers : ℕ

-- the names of two recordings and of a proof, and how many seconds the fixes of a pair may be apart
pub record NearWords : Type 0 where
  pub flight : List ℕ
  pub other : List ℕ
  pub seconds : ℕ
  pub proof : List ℕ

-- the names of a recording and of a proof
pub record BadgeWords : Type 0 where
  pub flight : List ℕ
  pub proof : List ℕ

-- the name of a recording, and the text of a place
pub record PointWords : Type 0 where
  pub flight : List ℕ
  pub place : List ℕ

-- the name of a list of days, and how many of the days are left out for each pilot
pub record SeriesWords : Type 0 where
  pub list : List ℕ
  pub left_out : ℕ

-- a command that isn't one of a day, and what it is given
pub data Command : Type 0 where
  Free : List ℕ → Command
  Triangle : List ℕ → Command
  Replay : ReplayWords → Command
  Near : NearWords → Command
  NearCheck : NearWords → Command
  Point : PointWords → Command
  Badge : BadgeWords → Command
  BadgeCheck : BadgeWords → Command
  Series : SeriesWords → Command
  Demo : ℕ → Command

-- `free FILE`, or another first word
abbrev pub file_form : List ℕ → List (List ℕ) → Option (List ℕ)
file_form first [] = None
file_form first (word ∷ []) = None
file_form first (word ∷ file ∷ []) =
    if is_text word first && is_file_name file then Some file else None
file_form first (word ∷ file ∷ more ∷ words) = None

-- what `replay` is given, where both names are those of files
abbrev pub replay_words : List ℕ → List ℕ → ℕ → Option ReplayWords
replay_words flight schedule workers =
    if is_file_name flight && is_file_name schedule
    then Some (record { flight = flight; schedule = schedule; workers = workers }) else None

-- `replay FILE SCHEDULE WORKERS`, where the number of workers is 1 to 16
abbrev pub replay_form : List (List ℕ) → Option ReplayWords
replay_form [] = None
replay_form (word ∷ []) = None
replay_form (word ∷ flight ∷ []) = None
replay_form (word ∷ flight ∷ schedule ∷ []) = None
replay_form (word ∷ flight ∷ schedule ∷ workers ∷ []) =
    if is_text word (codes "replay") && is_worker_count workers
    then replay_words flight schedule (digits_value 10 workers) else None
replay_form (word ∷ flight ∷ schedule ∷ workers ∷ more ∷ words) = None

-- the number within two limits that a word writes, without a sign and a leading zero
abbrev pub number_within : ℕ → ℕ → List ℕ → Option ℕ
number_within least most word =
    let number = digits_value 10 word in
    if is_text word (decimal number) && nat_le least number && nat_le number most
    then Some number else None

-- what `near` and `nearcheck` are given, where the names are those of files, and the seconds are at
-- most 3,600
abbrev pub near_words : List ℕ → List ℕ → Option ℕ → List ℕ → Option NearWords
near_words flight other None proof = None
near_words flight other (Some seconds) proof =
    if is_file_name flight && is_file_name other && is_file_name proof
    then Some (record { flight = flight; other = other; seconds = seconds; proof = proof })
    else None

-- `near FILE OTHER SECONDS PROOF`, or another first word
abbrev pub near_form : List ℕ → List (List ℕ) → Option NearWords
near_form first [] = None
near_form first (word ∷ []) = None
near_form first (word ∷ flight ∷ []) = None
near_form first (word ∷ flight ∷ other ∷ []) = None
near_form first (word ∷ flight ∷ other ∷ seconds ∷ []) = None
near_form first (word ∷ flight ∷ other ∷ seconds ∷ proof ∷ []) =
    if is_text word first then near_words flight other (number_within 0 3_600 seconds) proof
    else None
near_form first (word ∷ flight ∷ other ∷ seconds ∷ proof ∷ more ∷ words) = None

-- `point FILE PLACE`, where the place is one of the sphere
abbrev pub point_form : List (List ℕ) → Option PointWords
point_form [] = None
point_form (word ∷ []) = None
point_form (word ∷ flight ∷ []) = None
point_form (word ∷ flight ∷ place ∷ []) =
    if is_text word (codes "point") && is_file_name flight && is_some (place_of_text place)
    then Some (record { flight = flight; place = place }) else None
point_form (word ∷ flight ∷ place ∷ more ∷ words) = None

-- `badge FILE PROOF`, or behind another first word
abbrev pub badge_form : List ℕ → List (List ℕ) → Option BadgeWords
badge_form first [] = None
badge_form first (word ∷ []) = None
badge_form first (word ∷ flight ∷ []) = None
badge_form first (word ∷ flight ∷ proof ∷ []) =
    if is_text word first && is_file_name flight && is_file_name proof
    then Some (record { flight = flight; proof = proof }) else None
badge_form first (word ∷ flight ∷ proof ∷ more ∷ words) = None

-- what `series` is given, where the name is that of a file
abbrev pub series_words : List ℕ → Option ℕ → Option SeriesWords
series_words list None = None
series_words list (Some days) =
    if is_file_name list then Some (record { list = list; left_out = days }) else None

-- `series LIST DROP`, where the number of days is 0 to 30
abbrev pub series_form : List (List ℕ) → Option SeriesWords
series_form [] = None
series_form (word ∷ []) = None
series_form (word ∷ list ∷ []) = None
series_form (word ∷ list ∷ days ∷ []) =
    if is_text word (codes "series") then series_words list (number_within 0 30 days) else None
series_form (word ∷ list ∷ days ∷ more ∷ words) = None

-- the number from 1 to 1,000,000 that a word writes, without a sign and a leading zero
abbrev pub day_number : List ℕ → Option ℕ
day_number word = number_within 1 1_000_000 word

-- `demo NUMBER`
abbrev pub demo_form : List (List ℕ) → Option ℕ
demo_form [] = None
demo_form (word ∷ []) = None
demo_form (word ∷ number ∷ []) = if is_text word (codes "demo") then day_number number else None
demo_form (word ∷ number ∷ more ∷ words) = None

-- the command that says something of one recording, if the words are a form of one
abbrev pub file_command : List (List ℕ) → Option Command
file_command words =
    option_or (option_map Free (file_form (codes "free") words))
    (option_map Triangle (file_form (codes "triangle") words))

-- the command that is about how near flights came, if the words are a form of one
abbrev pub near_command : List (List ℕ) → Option Command
near_command words =
    option_or (option_map Near (near_form (codes "near") words))
    (option_or (option_map NearCheck (near_form (codes "nearcheck") words))
    (option_map Point (point_form words)))

-- the command that is about badges, if the words are a form of one
abbrev pub badge_command : List (List ℕ) → Option Command
badge_command words =
    option_or (option_map Badge (badge_form (codes "badge") words))
    (option_map BadgeCheck (badge_form (codes "badgecheck") words))

-- the command that is about flights without a task, if the words are a form of one
abbrev pub flights_command : List (List ℕ) → Option Command
flights_command words = option_or (near_command words) (badge_command words)

-- the command that is given a number at its end, if the words are a form of one
abbrev pub numbered_command : List (List ℕ) → Option Command
numbered_command words =
    option_or (option_map Series (series_form words)) (option_map Demo (demo_form words))

-- The command, not one of a day, that the words are a form of, if they are one. A further form is
-- tried where none before it reads.
unfoldable pub command_of : List (List ℕ) → Option Command
command_of words =
    option_or (file_command words)
    (option_or (option_map Replay (replay_form words))
    (option_or (flights_command words) (numbered_command words)))
