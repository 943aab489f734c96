-- A proof of all that a day asks for is accepted, also where the proof itself lies in the folder.
use Rattle.std.proofs.Common.{◌≡◌, ◌≢◌, ◌∙◌, sym, ap, subst, refl, ℕ, ◌⊎◌, inl, inr, Bool, true, false, List, [], ◌∷◌, ◌++◌, length, Option, None, Some, Result, Ok, Err, arith, append_assoc, append-nil}
use Rattle.std.specs.Prelude.{MatchBool, nat_lt}
use Rattle.std.specs.List.{AllZip}
use Rattle.std.proofs.lemmas.Bool.{cases_lt}
use Rattle.gl_airspace.specs.declared.volume.Airspace.{Airspace}
use Rattle.gl_desk.specs.Desk.{FilesByName}
use Rattle.gl_igc.specs.declared.error.IgcError.{IgcError}
use Rattle.gl_igc.specs.declared.error.IgcError.TheVariants.{NotIgc}
use Rattle.gl_igc.specs.declared.recording.Recording.{Recording}
use Rattle.gl_igc.specs.Reading.{Reading, recording_of}
use Rattle.gl_judge.specs.Claims.{AreExpected}
use Rattle.gl_proof.specs.Claim.{Statement}
use Rattle.gl_task.specs.declared.task.Entrant.{Entrant}
use Rattle.gl_task.specs.declared.task.Task.{Task}
use Rattle.gl_day.specs.declared.fault.Checked.{Checked}
use Rattle.gl_day.specs.declared.fault.Checked.TheVariants as checked
use Rattle.gl_day.specs.Expected.{Proves, expected_of, Expected}
use Rattle.gl_day.proofs.Checks.{none_wrong, not_proved_more, proof_accepted}
use Rattle.gl_judge.proofs.OneList.{expected_alone}
use Rattle.gl_igc.proofs.SameRecording.{recording_same}
use Rattle.gl_day.specs.Asked.{AreAskedOf, AreAskedOfReading}
use Rattle.gl_day_files.specs.declared.day_files.DayFiles.{DayFiles}
use Rattle.gl_day_claims.specs.Asked.{AreAsked, AreAskedIn}
use Rattle.gl_day_claims.specs.DayChecked.{IsDayChecked, IsSaidBehind}
use Rattle.gl_text.proofs.Lists.{AllZip-length}

-- two names are the same, or aren't
same_or_not : (a b : List ℕ) → (a ≡ b) ⊎ (a ≢ b)
same_or_not [] [] = inl refl
same_or_not [] (y ∷ b) = inr (λ same. cc)
same_or_not (x ∷ a) [] = inr (λ same. cc)
same_or_not (x ∷ a) (y ∷ b) =
    elim (same_or_not a b) [
      | inr differ ↦ inr (λ same. let e : a ≡ b = cc in differ e)
      | inl rest ↦ elim (cases_lt x y) [
        | inl below ↦ inr (λ same. let e : x ≡ y = cc in omega (arith, below, e))
        | inr least ↦ elim (cases_lt y x) [
          | inl above ↦ inr (λ same. let e : x ≡ y = cc in omega (arith, above, e))
          | inr most ↦ (let e : x ≡ y = omega (arith, least, most) in inl (rw (e, rest) refl))
        ]
      ]
    ]

-- a file that was there is there still
pub moved : (before files : FilesByName) (proof file bytes : List ℕ) → before proof ≡ None → ((other : List ℕ) → other ≢ proof → files other ≡ before other) → before file ≡ Some bytes
    → files file ≡ Some bytes
moved before files proof file bytes new others there =
    others file (λ same. let e : ◌≡◌ {A = Option (List ℕ)} None (Some bytes) = sym new ∙ ap before (sym same) ∙ there in cc) ∙ there

-- the proof asks for no claim, where an entrant names it
none_of_proof : (large : Bool) (task : Task) (air : Airspace) (entrant : Entrant) (read : Result Reading IgcError) → read ≡ Err NotIgc
    → MatchBool large (◌≡◌ {A = List Expected} [] []) (AreAskedOfReading task air entrant read [])
none_of_proof true task air entrant read is = refl
none_of_proof false task air entrant read is = subst (λ (r : Result Reading IgcError). AreAskedOfReading task air entrant r []) (sym is) refl

asked_moved_none : (files : FilesByName) (proof text : List ℕ) (task : Task) (air : Airspace) (entrant : Entrant) (claims : List Expected) (now : Option (List ℕ)) → files entrant.file ≡ now
    → files proof ≡ Some text → recording_of text (Some task.date) ≡ Err NotIgc → (entrant.file ≢ proof → files entrant.file ≡ None) → claims ≡ [] → AreAskedIn (Some files) task air entrant claims
asked_moved_none files proof text task air entrant claims None there is foreign other none = (None, there, none)
asked_moved_none files proof text task air entrant claims (Some bytes) there is foreign other none =
    elim (same_or_not entrant.file proof) [
      | inl same ↦ (let e : files entrant.file ≡ Some text = ap files same ∙ is in
          (Some text, e, subst (AreAskedOf task air entrant (Some text)) (sym none) (none_of_proof (nat_lt 16_777_216 (length text)) task air entrant (recording_of text (Some task.date)) foreign)))
      | inr differ ↦ (let e : ◌≡◌ {A = Option (List ℕ)} (Some bytes) None = sym there ∙ other differ in absurd (cc))
    ]

asked_moved : (before files : FilesByName) (proof text : List ℕ) (task : Task) (air : Airspace) (entrant : Entrant) (claims : List Expected) → before proof ≡ None → files proof ≡ Some text
    → recording_of text (Some task.date) ≡ Err NotIgc → ((other : List ℕ) → other ≢ proof → files other ≡ before other) → AreAskedIn (Some before) task air entrant claims
    → AreAskedIn (Some files) task air entrant claims
asked_moved before files proof text task air entrant claims new is foreign others (None, there, none) =
    asked_moved_none files proof text task air entrant claims (files entrant.file) refl is foreign (λ differ. others entrant.file differ ∙ there) none
asked_moved before files proof text task air entrant claims new is foreign others (Some bytes, there, asked) =
    (Some bytes, moved before files proof entrant.file bytes new others there, asked)

pub all_moved : (before files : FilesByName) (proof text : List ℕ) (task : Task) (air : Airspace) (entrants : List Entrant) (claims : List Expected) → before proof ≡ None → files proof ≡ Some text
    → recording_of text (Some task.date) ≡ Err NotIgc → ((other : List ℕ) → other ≢ proof → files other ≡ before other) → AreAsked (Some before) task air entrants claims
    → AreAsked (Some files) task air entrants claims
all_moved before files proof text task air [] claims new is foreign others none = none
all_moved before files proof text task air (e ∷ entrants) claims new is foreign others (first, rest, asked, more, are) =
    (first, rest, asked_moved before files proof text task air e first new is foreign others asked, all_moved before files proof text task air entrants rest new is foreign others more, are)

-- what is asked for is one list
reading_alone : (task : Task) (air : Airspace) (entrant : Entrant) (read : Result Reading IgcError) (a b : List Expected) → AreAskedOfReading task air entrant read a
    → AreAskedOfReading task air entrant read b → a ≡ b
reading_alone task air entrant (Ok reading) a b (r, r_is, l, l_is, a_is) (s, s_is, m, m_is, b_is) =
    let same = recording_same r s (r_is ∙ sym s_is) in
    let lists = expected_alone task air s l m (subst (λ (t : Recording). AreExpected task air t l) same l_is) m_is in
    a_is ∙ ap (expected_of entrant.number) lists ∙ sym b_is
reading_alone task air entrant (Err error) a b a_is b_is = a_is ∙ sym b_is

bytes_alone : (large : Bool) (task : Task) (air : Airspace) (entrant : Entrant) (read : Result Reading IgcError) (a b : List Expected)
    → MatchBool large (a ≡ []) (AreAskedOfReading task air entrant read a) → MatchBool large (b ≡ []) (AreAskedOfReading task air entrant read b) → a ≡ b
bytes_alone true task air entrant read a b a_is b_is = a_is ∙ sym b_is
bytes_alone false task air entrant read a b a_is b_is = reading_alone task air entrant read a b a_is b_is

asked_alone : (task : Task) (air : Airspace) (entrant : Entrant) (seen : Option (List ℕ)) (a b : List Expected) → AreAskedOf task air entrant seen a → AreAskedOf task air entrant seen b → a ≡ b
asked_alone task air entrant None a b a_is b_is = a_is ∙ sym b_is
asked_alone task air entrant (Some bytes) a b a_is b_is = bytes_alone (nat_lt 16_777_216 (length bytes)) task air entrant (recording_of bytes (Some task.date)) a b a_is b_is

asked_alone_in : (files : FilesByName) (task : Task) (air : Airspace) (entrant : Entrant) (a b : List Expected) → AreAskedIn (Some files) task air entrant a
    → AreAskedIn (Some files) task air entrant b → a ≡ b
asked_alone_in files task air entrant a b (seen, there, is) (other, also, too) =
    asked_alone task air entrant seen a b is (subst (λ (o : Option (List ℕ)). AreAskedOf task air entrant o b) (sym also ∙ there) too)

-- what is asked for of the first entrants comes first
asked_front : (files : FilesByName) (task : Task) (air : Airspace) (entrants others : List Entrant) (a b : List Expected) → AreAsked (Some files) task air entrants a
    → AreAsked (Some files) task air (entrants ++ others) b → (rest : List Expected) × (b ≡ a ++ rest) × AreAsked (Some files) task air others rest
asked_front files task air [] others a b none all = (b, ap (λ (l : List Expected). l ++ b) (sym none), all)
asked_front files task air (e ∷ entrants) others a b (first, more, asked, front, are) (first_too, more_too, asked_too, all, are_too) =
    let same = asked_alone_in files task air e first_too first asked_too asked in
    let rest = asked_front files task air entrants others more more_too front all in (
      rest.0,
      are_too ∙ ap (λ (l : List Expected). l ++ more_too) same ∙ ap (λ (l : List Expected). first ++ l) rest.1 ∙ sym (append_assoc first more rest.0)
          ∙ ap (λ (l : List Expected). l ++ rest.0) (sym are),
      rest.2,
    )

-- a proof of all that is asked for is accepted, with the count of its claims
said_accepted : (files : FilesByName) (task : Task) (air : Airspace) (others : List Entrant) (expected rest : List Expected) (statements : List Statement) (said : Checked)
    → AreAsked (Some files) task air others rest → AllZip Proves (expected ++ rest) statements → IsSaidBehind others expected statements said → said ≡ checked.Accepted (length statements)
said_accepted files task air [] expected rest statements said none each is =
    let all : AllZip Proves expected statements = subst (λ (l : List Expected). AllZip Proves l statements) (ap (λ (l : List Expected). expected ++ l) none ∙ append-nil expected) each in
    proof_accepted expected statements said all is ∙ ap checked.Accepted (AllZip-length Proves expected statements all)
said_accepted files task air (e ∷ others) expected rest statements said more each (wrong, same, first) =
    absurd (none_wrong (expected ++ rest) statements wrong each (not_proved_more expected rest statements wrong first))

pub day_accepted : (files : FilesByName) (day : DayFiles) (claims : List Expected) (statements : List Statement) (said : Checked) → AreAsked (Some files) day.task day.airspace day.task.entrants claims
    → AllZip Proves claims statements → IsDayChecked (Some files) day statements said → said ≡ checked.Accepted (length statements)
day_accepted files day claims statements said asked each is =
    let all = subst (λ (l : List Entrant). AreAsked (Some files) day.task day.airspace l claims) is.are asked in
    let rest = asked_front files day.task day.airspace is.entrants is.others is.expected claims is.asked all in
    said_accepted files day.task day.airspace is.others is.expected rest.0 statements said rest.2
    (subst (λ (l : List Expected). AllZip Proves l statements) rest.1 each) is.is
