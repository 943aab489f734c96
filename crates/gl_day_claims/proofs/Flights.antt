-- Entrants, one after the other.
use Rattle.std.proofs.Common.{◌≡◌, ◌≢◌, ◌∙◌, sym, ap, subst, refl, ℕ, suc, ◌+◌, ◌≤◌, ◌⊎◌, inl, inr, Bool, true, false, List, [], ◌∷◌, ◌++◌, length, take, drop, Option, None, Some, Result, Ok, Err, append_assoc, append-nil}
use Rattle.std.specs.Prelude.{All, Contains, IfErr, IfOk, IsSome, MatchBool, nat_lt}
use Rattle.std.specs.List.{AllZip, flat_map}
use Rattle.std.proofs.Math.Seq.{take-length}
use Rattle.std.proofs.lemmas.List.{take_all, take_more, take-append-drop, map-append}
use Rattle.std.proofs.lemmas.List.Concat.{flat_map-append}
use Rattle.std.proofs.lemmas.List.Elements.{All-append, All-nil, All-same}
use Rattle.gl_airspace.specs.declared.volume.Airspace.{Airspace}
use Rattle.gl_desk.specs.Answers.{OnlyReads}
use Rattle.gl_desk.specs.Desk.{FilesByName, HasFile, IsSeenIn, ListsNames, Told, file_of, HaveFiles}
use Rattle.gl_desk.specs.declared.error.DeskError.{DeskError}
use Rattle.gl_desk.specs.declared.error.DeskError.TheVariants.{Memory}
use Rattle.gl_igc.specs.declared.error.IgcError.{IgcError}
use Rattle.gl_igc.specs.declared.recording.Recording.{Recording}
use Rattle.gl_igc.specs.Reading.{Reading, recording_of}
use Rattle.gl_igc.specs.Recording.{reading_of}
use Rattle.gl_judge.specs.Claims.{AreExpected}
use Rattle.gl_proof.specs.Claim.{IsStatement, Statement, claim_text}
use Rattle.gl_proof.specs.Line.{EndLine, HeadingLine, ended}
use Rattle.gl_proof.specs.Text.{proof_text}
use Rattle.gl_proof.specs.declared.version.Version.TheVariants.{Two}
use Rattle.gl_task.specs.declared.task.Entrant.{Entrant}
use Rattle.gl_task.specs.declared.task.Task.{Task}
use Rattle.gl_day.specs.declared.flight.Flight.{Flight}
use Rattle.gl_day.specs.declared.flight.Seen.{Seen}
use Rattle.gl_day.specs.declared.flight.Seen.TheVariants.{Recorded, Refused}
use Rattle.gl_day.specs.Day.{IsSheetOf}
use Rattle.gl_day.specs.Expected.{Expected, Proves, expected_of}
use Rattle.gl_day.specs.Flight.{IsFlight, IsReadFlight, IsRefusedFlight, IsSeen, StewardRules}
use Rattle.gl_desk.specs.Limits.{most_bytes}
use Rattle.gl_day.proofs.Written.{expected_statements}
use Rattle.gl_day.proofs.Texts.{claim_texts-append, proof_text-parts}
use Rattle.gl_day.specs.Asked.{AreAskedOf, AreAskedOfReading}
use Rattle.gl_day_files.specs.declared.day_files.DayFiles.{DayFiles}
use Rattle.gl_answer.proofs.Listing.{not_listed}
use Rattle.gl_answer.specs.Appending.{HasAppended, HasAppendedPart}
use Rattle.gl_day_claims.specs.Asked.{AreAsked, AreAskedIn}
use Rattle.gl_day_claims.specs.Code.Asked.{IsEntrantSeen, IsSeenAmong}
use Rattle.gl_day_claims.specs.Scored.{ArePartlyProved, IsBegun, IsScored, Scored, flights_of_all, statements_of_all, text_so_far}
use Rattle.gl_day_claims.specs.Code.Scoring.{IsEntrantBegun, IsEntrantScored}
use Rattle.gl_day_claims.specs.Scoring.{IsDayDone, IsDayStopped}
use Rattle.gl_day_claims.proofs.Runs.{AreDone, DayRun, EntrantRun, HasSeen, IsAt, entrants_of}
use Rattle.gl_answer.proofs.Appended.{HasAppended-then, HasAppendedPart-memory, HasAppendedPart-then, reads-none, part_after}
use Rattle.gl_text.proofs.Lists.{AllZip-append, AllZip-push, AllZip-length}
use Rattle.gl_desk.proofs.DeskLemmas.{HasFile-from_names}
use Rattle.gl_judge.specs.Claimed.{FlightClaim}

-- what a flight has is expected and proved
record HasAsked (task : Task) (air : Airspace) (entrant : Entrant) (seen : Option (List ℕ)) (statements : List Statement) : Type 0 where
  claims : List Expected
  asked : AreAskedOf task air entrant seen claims
  each : AllZip Proves claims statements

none_proved : (statements : List Statement) → statements ≡ [] → AllZip Proves [] statements
none_proved statements none = subst (λ (l : List Statement). AllZip Proves [] l) (sym none) tt

-- of a file that was read
record HasAskedRead (task : Task) (air : Airspace) (entrant : Entrant) (read : Result Reading IgcError) (statements : List Statement) : Type 0 where
  claims : List Expected
  asked : AreAskedOfReading task air entrant read claims
  each : AllZip Proves claims statements

read_asked : (task : Task) (air : Airspace) (stewards : List StewardRules) (entrant : Entrant) (read : Result Reading IgcError) (statements : List Statement) (flight : Flight)
    → IsReadFlight task air stewards entrant read statements flight → HasAskedRead task air entrant read statements
read_asked task air stewards entrant (Ok reading) statements flight (recording, same, is) = record {
  claims = expected_of entrant.number is.claims;
  asked = (recording, same, is.claims, is.expected, refl);
  each = is.proved;
}
read_asked task air stewards entrant (Err error) statements flight (number, refused, is) = record {
  claims = [];
  asked = refl;
  each = none_proved statements is.0;
}

bytes_asked : (large : Bool) (task : Task) (air : Airspace) (stewards : List StewardRules) (entrant : Entrant) (read : Result Reading IgcError) (statements : List Statement) (flight : Flight)
    → MatchBool large (IsRefusedFlight task entrant 7 statements flight) (IsReadFlight task air stewards entrant read statements flight)
    → (claims : List Expected) × MatchBool large (claims ≡ []) (AreAskedOfReading task air entrant read claims) × AllZip Proves claims statements
bytes_asked true task air stewards entrant read statements flight is = ([], refl, none_proved statements is.0)
bytes_asked false task air stewards entrant read statements flight is =
    let has = read_asked task air stewards entrant read statements flight is in
    (has.claims, has.asked, has.each)

flight_asked : (task : Task) (air : Airspace) (stewards : List StewardRules) (entrant : Entrant) (seen : Option (List ℕ)) (statements : List Statement) (flight : Flight)
    → IsFlight task air stewards entrant seen statements flight → HasAsked task air entrant seen statements
flight_asked task air stewards entrant None statements flight is = record { claims = []; asked = refl; each = none_proved statements is.0 }
flight_asked task air stewards entrant (Some bytes) statements flight is =
    let has = bytes_asked (nat_lt most_bytes (length bytes)) task air stewards entrant (recording_of bytes (Some task.date)) statements flight is in
    record { claims = has.0; asked = has.1; each = has.2 }

-- what was proved of some entrants is what is expected of them
pub record HaveAsked (folder : Option FilesByName) (day : DayFiles) (entrants : List Entrant) (statements : List Statement) : Type 0 where
  pub claims : List Expected
  pub asked : AreAsked folder day.task day.airspace entrants claims
  pub each : AllZip Proves claims statements

pub all_asked : (folder : Option FilesByName) (day : DayFiles) (stewards : List StewardRules) (entrants : List Entrant) (scored : List Scored) → AllZip (IsScored folder day stewards) entrants scored
    → HaveAsked folder day entrants (statements_of_all scored)
all_asked folder day stewards [] [] each = record { claims = []; asked = refl; each = tt }
all_asked folder day stewards [] (s ∷ scored) each = absurd each
all_asked folder day stewards (e ∷ entrants) [] each = absurd each
all_asked folder day stewards (e ∷ entrants) (s ∷ scored) ((seen, there, is), others) =
    let first = flight_asked day.task day.airspace stewards e seen s.statements s.flight is in
    let rest = all_asked folder day stewards entrants scored others in
    record {
      claims = first.claims ++ rest.claims;
      asked = (first.claims, rest.claims, (seen, there, first.asked), rest.asked, refl);
      each = AllZip-append Proves first.claims rest.claims s.statements (statements_of_all scored) first.each rest.each;
    }

-- one entrant more is asked
pub asked-push : (folder : Option FilesByName) (task : Task) (air : Airspace) (entrants : List Entrant) (e : Entrant) (claims more : List Expected) → AreAsked folder task air entrants claims
    → AreAskedIn folder task air e more → AreAsked folder task air (entrants ++ e ∷ []) (claims ++ more)
asked-push folder task air [] e claims more none last =
    (more, [], last, refl, ap (λ (l : List Expected). l ++ more) none ∙ sym (append-nil more))
asked-push folder task air (x ∷ entrants) e claims more (first, rest, is, others, are) last =
    (first, rest ++ more, is, asked-push folder task air entrants e rest more others last, ap (λ (l : List Expected). l ++ more) are ∙ append_assoc first rest more)

-- the file of a name that isn't the proof's is as it was
same_file : (x y : Option FilesByName) (file : List ℕ) (seen : Option (List ℕ)) → file_of y file ≡ file_of x file → IsSeenIn y file seen → IsSeenIn x file seen
same_file None y file seen same there = tt
same_file (Some before) None file seen same there = absurd (cc)
same_file (Some before) (Some after) file seen same there =
    let e : after file ≡ before file = cc in
    sym e ∙ there

has_same : (x y : Option FilesByName) (file : List ℕ) → file_of y file ≡ file_of x file → HasFile x file → HasFile y file
has_same x None file same has = tt
has_same None (Some after) file same has = absurd (cc)
has_same (Some before) (Some after) file same has =
    let e : before file ≡ after file = cc in
    subst IsSome e has

other_name : (names : List (List ℕ)) (proof file : List ℕ) → (Contains names proof → ⊥) → Contains names file → file ≢ proof
other_name names proof file new has same = new (subst (Contains names) same has)

-- the names still have their files
pub have_files : (names : List (List ℕ)) (proof text : List ℕ) (x y : Told) → ListsNames x.folder names → (Contains names proof → ⊥) → HasAppended proof text x y → HaveFiles y.folder names
have_files names proof text x y lists new written name has =
    has_same x.folder y.folder name (written.appended.2 name (other_name names proof name new has)).1
    (HasFile-from_names x.folder names name lists has)

-- what is seen of an entrant's file is what the folder had
pub seen_before : (names : List (List ℕ)) (proof text file : List ℕ) (seen : Option (List ℕ)) (x y : Told) → ListsNames x.folder names → (Contains names proof → ⊥) → HasAppended proof text x y
    → IsSeenAmong names y.folder file seen → IsSeenIn x.folder file seen
seen_before names proof text file None x y lists new written none = not_listed x.folder names file lists none
seen_before names proof text file (Some bytes) x y lists new written there =
    same_file x.folder y.folder file (Some bytes) (written.appended.2 file (other_name names proof file new there.0)).1 there.1

-- the texts of the claims of entrants and of one more
statements-push : (scored : List Scored) (s : Scored) → statements_of_all (scored ++ s ∷ []) ≡ statements_of_all scored ++ s.statements
statements-push scored s =
    flat_map-append (λ (o : Scored). o.statements) scored (s ∷ []) ∙ ap (λ (l : List Statement). statements_of_all scored ++ l) (append-nil s.statements)

text-more : (front back : List Statement) → text_so_far (front ++ back) ≡ text_so_far front ++ flat_map claim_text back
text-more front back =
    ap (λ (l : List ℕ). ended (HeadingLine Two) ++ l) (claim_texts-append front back) ∙ sym (append_assoc (ended (HeadingLine Two)) (flat_map claim_text front) (flat_map claim_text back))

-- the heading was appended
pub none_scored : (run : DayRun) (heading : List ℕ) (now : Told) → heading ≡ ended (HeadingLine Two) → HasAppended run.proof heading run.before now → AreDone run [] now []
none_scored run heading now is appended = record {
  scored = [];
  each = tt;
  are = refl;
  appended = subst (λ (text : List ℕ). HasAppended run.proof text run.before now) (is ∙ sym (append-nil (ended (HeadingLine Two)))) appended;
}

push_scored : (run : DayRun) (entrants : List Entrant) (e : Entrant) (seen : Option (List ℕ)) (y z : Told) (flights : List Flight) (flight : Flight) → AreDone run entrants y flights
    → IsSeenIn run.before.folder e.file seen → IsEntrantScored run.files run.stewards e seen run.proof y z flight → AreDone run (entrants ++ e ∷ []) z (flights ++ flight ∷ [])
push_scored run entrants e seen y z flights flight so_far there is =
    let s : Scored = record { statements = is.statements; flight = flight } in
    record {
      scored = so_far.scored ++ s ∷ [];
      each = AllZip-push (IsScored run.before.folder run.files run.stewards) entrants so_far.scored e s so_far.each (seen, there, is.is);
      are = ap (λ (l : List Flight). l ++ flight ∷ []) so_far.are ∙ sym (map-append (λ (o : Scored). o.flight) so_far.scored (s ∷ []));
      appended = subst (λ (text : List ℕ). HasAppended run.proof text run.before z)
          (sym (text-more (statements_of_all so_far.scored) is.statements) ∙ ap text_so_far (sym (statements-push so_far.scored s)))
          (HasAppended-then run.proof (text_so_far (statements_of_all so_far.scored)) (flat_map claim_text is.statements) run.before y z so_far.appended is.appended);
    }

-- the entrants up to one are those before it and this one
next_entrant : (run : DayRun) (i : ℕ) (e : Entrant) → IsAt run i e → take (i + 1) (entrants_of run) ≡ take i (entrants_of run) ++ e ∷ []
next_entrant run i e here =
    take_more (entrants_of run) i e here.below ∙ ap (λ (o : Entrant). take i (entrants_of run) ++ o ∷ []) (sym here.is)

-- one entrant more is done
pub entrants_more : (run : DayRun) (i : ℕ) (e : Entrant) (seen : Option (List ℕ)) (y z : Told) (flights : List Flight) (flight : Flight) → IsAt run i e
    → AreDone run (take i (entrants_of run)) y flights → IsSeenAmong run.names y.folder e.file seen → IsEntrantScored run.files run.stewards e seen run.proof y z flight
    → AreDone run (take (i + 1) (entrants_of run)) z (flights ++ flight ∷ [])
entrants_more run i e seen y z flights flight here so_far there is =
    subst (λ (l : List Entrant). AreDone run l z (flights ++ flight ∷ [])) (sym (next_entrant run i e here))
    (push_scored run (take i (entrants_of run)) e seen y z flights flight so_far
    (seen_before run.names run.proof (text_so_far (statements_of_all so_far.scored)) e.file seen run.before y run.lists run.new so_far.appended there) is)

-- all that is expected so far is proved
whole : (expected : List Expected) (statements : List Statement) → AllZip Proves expected statements → ArePartlyProved expected statements
whole expected statements each = record { proved = expected; open_claims = []; parts = sym (append-nil expected); each = each }

begun_at : (run : DayRun) (entrants others : List Entrant) (now : Told) (flights : List Flight) → entrants_of run ≡ entrants ++ others
    → (so_far : AreDone run entrants now flights) → IsBegun run.before.folder run.files (text_so_far (statements_of_all so_far.scored))
begun_at run entrants others now flights are so_far =
    let have = all_asked run.before.folder run.files run.stewards entrants so_far.scored so_far.each in
    let text = text_so_far (statements_of_all so_far.scored) in
    record {
      entrants = entrants;
      others = others;
      are = are;
      expected = have.claims;
      asked = have.asked;
      statements = statements_of_all so_far.scored;
      partly = whole have.claims (statements_of_all so_far.scored) have.each;
      count = length text;
      part = inl (sym (take-length text));
    }

-- the heading wasn't appended whole
pub heading_stopped : (day : DayFiles) (proof heading : List ℕ) (x y : Told) (stop : DeskError) → heading ≡ ended (HeadingLine Two) → HasAppendedPart proof heading x y stop
    → IsDayStopped day proof x y stop
heading_stopped day proof heading x y stop is part = record {
  text = heading;
  begun = record {
    entrants = [];
    others = day.task.entrants;
    are = refl;
    expected = [];
    asked = refl;
    statements = [];
    partly = whole [] [] tt;
    count = length heading;
    part = inl (sym (take-length heading) ∙ ap (take (length heading)) (is ∙ sym (append-nil (ended (HeadingLine Two)))));
  };
  appended = part;
}

-- nothing more was appended
pub entrants_stopped : (run : DayRun) (i : ℕ) (y z : Told) (flights : List Flight) (stop : DeskError) → AreDone run (take i (entrants_of run)) y flights → HasAppendedPart run.proof [] y z stop
    → IsDayStopped run.files run.proof run.before z stop
entrants_stopped run i y z flights stop so_far part =
    let text = text_so_far (statements_of_all so_far.scored) in
    record {
      text = text;
      begun = begun_at run (take i (entrants_of run)) (drop i (entrants_of run)) y flights (sym (take-append-drop i (entrants_of run))) so_far;
      appended = subst (λ (l : List ℕ). HasAppendedPart run.proof l run.before z stop) (append-nil text)
          (HasAppendedPart-then run.proof text [] run.before y z stop so_far.appended part);
    }

-- memory was wanting
pub entrants_memory : (run : DayRun) (i : ℕ) (now : Told) (flights : List Flight) → AreDone run (take i (entrants_of run)) now flights → IsDayStopped run.files run.proof run.before now Memory
entrants_memory run i now flights so_far =
    let text = text_so_far (statements_of_all so_far.scored) in
    record {
      text = text;
      begun = begun_at run (take i (entrants_of run)) (drop i (entrants_of run)) now flights (sym (take-append-drop i (entrants_of run))) so_far;
      appended = HasAppendedPart-memory run.proof text run.before now so_far.appended;
    }

partly-append : (claims more : List Expected) (front back : List Statement) → AllZip Proves claims front → ArePartlyProved more back → ArePartlyProved (claims ++ more) (front ++ back)
partly-append claims more front back each partly = record {
  proved = claims ++ partly.proved;
  open_claims = partly.open_claims;
  parts = ap (λ (l : List Expected). claims ++ l) partly.parts ∙ sym (append_assoc claims partly.proved partly.open_claims);
  each = AllZip-append Proves claims partly.proved front back each partly.each;
}

-- the run was stopped at the claims of an entrant
pub entrant_stopped : (run : DayRun) (i : ℕ) (e : Entrant) (seen : Option (List ℕ)) (y z : Told) (flights : List Flight) (stop : DeskError) → IsAt run i e
    → AreDone run (take i (entrants_of run)) y flights → IsSeenAmong run.names y.folder e.file seen → IsEntrantBegun run.files e seen run.proof y z stop
    → IsDayStopped run.files run.proof run.before z stop
entrant_stopped run i e seen y z flights stop here so_far there begun =
    let all = entrants_of run in
    let folder = run.before.folder in
    let front = statements_of_all so_far.scored in
    let back = begun.partly.statements in
    let have = all_asked folder run.files run.stewards (take i all) so_far.scored so_far.each in
    let seen_in = seen_before run.names run.proof (text_so_far front) e.file seen run.before y run.lists run.new so_far.appended there in
    let text = text_so_far (front ++ back) in
    record {
      text = text;
      begun = record {
        entrants = take (i + 1) all;
        others = drop (i + 1) all;
        are = sym (take-append-drop (i + 1) all);
        expected = have.claims ++ begun.expected;
        asked = subst (λ (l : List Entrant). AreAsked folder run.files.task run.files.airspace l (have.claims ++ begun.expected)) (sym (next_entrant run i e here))
            (asked-push folder run.files.task run.files.airspace (take i all) e have.claims begun.expected have.asked (seen, seen_in, begun.asked));
        statements = front ++ back;
        partly = partly-append have.claims begun.expected front back have.each begun.partly.partly;
        count = length text;
        part = inl (sym (take-length text));
      };
      appended = subst (λ (l : List ℕ). HasAppendedPart run.proof l run.before z stop) (sym (text-more front back))
          (HasAppendedPart-then run.proof (text_so_far front) (flat_map claim_text back) run.before y z stop so_far.appended begun.partly.appended);
    }

-- the text of a proof is what is there so far, and its end
text-ended : (statements : List Statement) → proof_text Two statements ≡ text_so_far statements ++ ended EndLine
text-ended statements =
    proof_text-parts Two statements ∙ sym (append_assoc (ended (HeadingLine Two)) (flat_map claim_text statements) (ended EndLine))

-- the end wasn't appended whole
pub end_stopped : (run : DayRun) (end : List ℕ) (y z : Told) (flights : List Flight) (stop : DeskError) → end ≡ ended EndLine → AreDone run (entrants_of run) y flights
    → HasAppendedPart run.proof end y z stop → IsDayStopped run.files run.proof run.before z stop
end_stopped run end y z flights stop is so_far part =
    let statements = statements_of_all so_far.scored in
    let have = all_asked run.before.folder run.files run.stewards (entrants_of run) so_far.scored so_far.each in
    let text = proof_text Two statements in
    record {
      text = text;
      begun = record {
        entrants = entrants_of run;
        others = [];
        are = sym (append-nil (entrants_of run));
        expected = have.claims;
        asked = have.asked;
        statements = statements;
        partly = whole have.claims statements have.each;
        count = length text;
        part = inr (refl, have.each, sym (take-length text));
      };
      appended = subst (λ (l : List ℕ). HasAppendedPart run.proof l run.before z stop) (ap (λ (l : List ℕ). text_so_far statements ++ l) is ∙ sym (text-ended statements))
          (HasAppendedPart-then run.proof (text_so_far statements) end run.before y z stop so_far.appended part);
    }

-- the end was appended
pub day_done : (run : DayRun) (end sheet : List ℕ) (y z : Told) (flights : List Flight) → end ≡ ended EndLine → AreDone run (entrants_of run) y flights → IsSheetOf run.files.task flights sheet
    → HasAppended run.proof end y z → IsDayDone run.files run.stewards run.proof run.before z sheet
day_done run end sheet y z flights is so_far said appended =
    let statements = statements_of_all so_far.scored in
    record {
      scored = so_far.scored;
      each = so_far.each;
      appended = subst (λ (l : List ℕ). HasAppended run.proof l run.before z) (ap (λ (l : List ℕ). text_so_far statements ++ l) is ∙ sym (text-ended statements))
          (HasAppended-then run.proof (text_so_far statements) end run.before y z so_far.appended appended);
      sheet_is = subst (λ (l : List Flight). IsSheetOf run.files.task l sheet) so_far.are said;
    }

-- what is seen of the bytes of an entrant's file
pub entrant_seen : (task : Task) (entrant : Entrant) (bytes : List ℕ) (seen : Seen) → IsSeen task entrant bytes seen → IsEntrantSeen task entrant (Some bytes) seen
entrant_seen task entrant bytes (Recorded recording) is = (bytes, refl, is)
entrant_seen task entrant bytes (Refused flight) is = is

-- what is expected of an entrant whose file is this recording
pub recorded_asked : (task : Task) (air : Airspace) (entrant : Entrant) (recording : Recording) (bytes : List ℕ) (list : List FlightClaim) → IsSeen task entrant bytes (Recorded recording)
    → AreExpected task air recording list → AreAskedOf task air entrant (Some bytes) (expected_of entrant.number list)
recorded_asked task air entrant recording bytes list seen expected =
    let claims = expected_of entrant.number list in
    let read : AreAskedOfReading task air entrant (Ok (reading_of recording)) claims = (recording, refl, list, expected, refl) in
    subst (λ (b : Bool). MatchBool b (claims ≡ []) (AreAskedOfReading task air entrant (recording_of bytes (Some task.date)) claims)) (sym seen.0)
    (subst (λ (r : Result Reading IgcError). AreAskedOfReading task air entrant r claims) (sym seen.1) read)

pub scored_after : (day : DayFiles) (stewards : List StewardRules) (entrant : Entrant) (seen : Option (List ℕ)) (proof : List ℕ) (x y z : Told) (flight : Flight) → OnlyReads None x y
    → IsEntrantScored day stewards entrant seen proof y z flight → IsEntrantScored day stewards entrant seen proof x z flight
scored_after day stewards entrant seen proof x y z flight reads is = record {
  statements = is.statements;
  is = is.is;
  appended = HasAppended-then proof [] (flat_map claim_text is.statements) x y z (reads-none proof x y reads) is.appended;
}

pub begun_after : (day : DayFiles) (entrant : Entrant) (seen : Option (List ℕ)) (proof : List ℕ) (x y z : Told) (stop : DeskError) → OnlyReads None x y → IsEntrantBegun day entrant seen proof y z stop
    → IsEntrantBegun day entrant seen proof x z stop
begun_after day entrant seen proof x y z stop reads is = record {
  expected = is.expected;
  asked = is.asked;
  partly = record {
    statements = is.partly.statements;
    partly = is.partly.partly;
    appended = HasAppendedPart-then proof [] (flat_map claim_text is.partly.statements) x y z stop (reads-none proof x y reads) is.partly.appended;
  };
}

-- what is seen of a file among the names is what the folder has
seen_in : (folder : Option FilesByName) (names : List (List ℕ)) (file : List ℕ) (seen : Option (List ℕ)) → ListsNames folder names → IsSeenAmong names folder file seen → IsSeenIn folder file seen
seen_in folder names file None lists none = not_listed folder names file lists none
seen_in folder names file (Some bytes) lists there = there.1

-- the claims that are asked for by a recording
pub asked_recorded : (folder : Option FilesByName) (names : List (List ℕ)) (task : Task) (air : Airspace) (entrant : Entrant) (there : Option (List ℕ)) (seen : Seen) (recording : Recording)
    (list : List FlightClaim) → ListsNames folder names → IsSeenAmong names folder entrant.file there → IsEntrantSeen task entrant there seen → seen ≡ Recorded recording
    → AreExpected task air recording list → AreAskedIn folder task air entrant (expected_of entrant.number list)
asked_recorded folder names task air entrant there (Refused flight) recording list lists among is same expected = absurd (cc)
asked_recorded folder names task air entrant there (Recorded other) recording list lists among (bytes, some, is) same expected =
    let e : other ≡ recording = cc in
    let seen_is : IsSeen task entrant bytes (Recorded recording) = subst (λ (r : Recording). IsSeen task entrant bytes (Recorded r)) e is in (
      Some bytes,
      subst (λ (o : Option (List ℕ)). IsSeenIn folder entrant.file o) some (seen_in folder names entrant.file there lists among),
      recorded_asked task air entrant recording bytes list seen_is expected,
    )

no_claim : (claims : List Expected) → AllZip Proves claims [] → claims ≡ []
no_claim [] each = refl
no_claim (claim ∷ claims) each = absurd each

none_asked : (task : Task) (air : Airspace) (entrant : Entrant) (seen : Option (List ℕ)) → HasAsked task air entrant seen [] → AreAskedOf task air entrant seen []
none_asked task air entrant seen has = subst (AreAskedOf task air entrant seen) (no_claim has.claims has.each) has.asked

-- none is asked for where there is no recording
pub asked_refused : (folder : Option FilesByName) (names : List (List ℕ)) (task : Task) (air : Airspace) (entrant : Entrant) (there : Option (List ℕ)) (seen : Seen) (flight : Flight)
    → ListsNames folder names → IsSeenAmong names folder entrant.file there → IsEntrantSeen task entrant there seen → seen ≡ Refused flight → AreAskedIn folder task air entrant []
asked_refused folder names task air entrant there (Recorded recording) flight lists among is same = absurd (cc)
asked_refused folder names task air entrant there (Refused other) flight lists among is same =
    (there, seen_in folder names entrant.file there lists among, none_asked task air entrant there (flight_asked task air [] entrant there [] other (is air [])))

-- a recording that was seen of the entrant's file, by its bytes
seen_bytes : (run : EntrantRun) (other recording : Recording) (bytes : List ℕ) → Recorded other ≡ Recorded recording → IsSeen run.files.task run.entrant bytes (Recorded other)
    → IsSeen run.files.task run.entrant bytes (Recorded recording)
seen_bytes run other recording bytes same is =
    subst (λ (s : Seen). IsSeen run.files.task run.entrant bytes s) same is

-- an entrant with a recording is done, by what was seen of the file
pub scored_seen : (run : EntrantRun) (seen : Seen) (recording : Recording) (y z : Told) (result : Result Flight DeskError) → HasSeen run seen y → seen ≡ Recorded recording
    → IfOk result (λ flight. (bytes : List ℕ) → IsSeen run.files.task run.entrant bytes (Recorded recording) → IsEntrantScored run.files run.stewards run.entrant (Some bytes) run.proof y z flight)
    → IfOk result (λ flight. (o : Option (List ℕ)) × IsSeenAmong run.names run.before.folder run.entrant.file o × IsEntrantScored run.files run.stewards run.entrant o run.proof run.before z flight)
scored_seen run (Refused flight) recording y z result has same scored = absurd (cc)
scored_seen run (Recorded other) recording y z (Err stop) has same scored = scored
scored_seen run (Recorded other) recording y z (Ok flight) has same scored =
    let bytes = has.is.0 in (
      Some bytes,
      subst (λ (o : Option (List ℕ)). IsSeenAmong run.names run.before.folder run.entrant.file o) has.is.1 has.among,
      scored_after run.files run.stewards run.entrant (Some bytes) run.proof run.before y z flight has.reads (scored bytes (seen_bytes run other recording bytes same has.is.2)),
    )

-- the run was stopped at such an entrant
pub begun_seen : (run : EntrantRun) (seen : Seen) (recording : Recording) (y z : Told) (result : Result Flight DeskError) → HasSeen run seen y → seen ≡ Recorded recording
    → IfErr result (λ stop. HasAppendedPart run.proof [] y z stop ⊎ ((bytes : List ℕ) → IsSeen run.files.task run.entrant bytes (Recorded recording)
    → IsEntrantBegun run.files run.entrant (Some bytes) run.proof y z stop))
    → IfErr result (λ stop. HasAppendedPart run.proof [] run.before z stop ⊎ ((o : Option (List ℕ)) × IsSeenAmong run.names run.before.folder run.entrant.file o
    × IsEntrantBegun run.files run.entrant o run.proof run.before z stop))
begun_seen run (Refused flight) recording y z result has same begun = absurd (cc)
begun_seen run (Recorded other) recording y z (Ok flight) has same begun = begun
begun_seen run (Recorded other) recording y z (Err stop) has same (inl none) = inl (part_after run.proof [] run.before y z stop has.reads none)
begun_seen run (Recorded other) recording y z (Err stop) has same (inr begun) =
    let bytes = has.is.0 in
    inr (
      Some bytes,
      subst (λ (o : Option (List ℕ)). IsSeenAmong run.names run.before.folder run.entrant.file o) has.is.1 has.among,
      begun_after run.files run.entrant (Some bytes) run.proof run.before y z stop has.reads (begun bytes (seen_bytes run other recording bytes same has.is.2)),
    )

-- an entrant without a recording is done
pub refused_seen : (run : EntrantRun) (seen : Seen) (flight : Flight) (now : Told) → HasSeen run seen now → seen ≡ Refused flight
    → (o : Option (List ℕ)) × IsSeenAmong run.names run.before.folder run.entrant.file o × IsEntrantScored run.files run.stewards run.entrant o run.proof run.before now flight
refused_seen run (Recorded recording) flight now has same = absurd (cc)
refused_seen run (Refused other) flight now has same =
    let e : other ≡ flight = cc in (
      has.there,
      has.among,
      record {
        statements = [];
        is = subst (IsFlight run.files.task run.files.airspace run.stewards run.entrant has.there []) e (has.is run.files.airspace run.stewards);
        appended = reads-none run.proof run.before now has.reads;
      },
    )

-- the run was stopped at an entrant, one way or the other
pub stopped_either : (run : DayRun) (i : ℕ) (e : Entrant) (y z : Told) (flights : List Flight) (stop : DeskError) → IsAt run i e → AreDone run (take i (entrants_of run)) y flights
    → HasAppendedPart run.proof [] y z stop ⊎ ((seen : Option (List ℕ)) × IsSeenAmong run.names y.folder e.file seen × IsEntrantBegun run.files e seen run.proof y z stop)
    → IsDayStopped run.files run.proof run.before z stop
stopped_either run i e y z flights stop here so_far (inl none) = entrants_stopped run i y z flights stop so_far none
stopped_either run i e y z flights stop here so_far (inr (seen, there, begun)) = entrant_stopped run i e seen y z flights stop here so_far there begun

-- memory was wanting behind all entrants
pub day_memory : (run : DayRun) (now : Told) (flights : List Flight) → AreDone run (entrants_of run) now flights → IsDayStopped run.files run.proof run.before now Memory
day_memory run now flights so_far =
    let text = text_so_far (statements_of_all so_far.scored) in
    record {
      text = text;
      begun = begun_at run (entrants_of run) [] now flights (sym (append-nil (entrants_of run))) so_far;
      appended = HasAppendedPart-memory run.proof text run.before now so_far.appended;
    }

pub length-flights : (scored : List Scored) → length (flights_of_all scored) ≡ length scored
length-flights [] = refl
length-flights (s ∷ scored) = ap suc (length-flights scored)

-- there is a flight for each entrant
pub flights_count : (run : DayRun) (entrants : List Entrant) (now : Told) (flights : List Flight) → AreDone run entrants now flights → length flights ≡ length entrants
flights_count run entrants now flights so_far =
    ap length so_far.are ∙ length-flights so_far.scored ∙ sym (AllZip-length (IsScored run.before.folder run.files run.stewards) entrants so_far.scored so_far.each)

-- no entrant is left
pub entrants_all : (run : DayRun) (i : ℕ) (now : Told) (flights : List Flight) → length (entrants_of run) ≤ i → AreDone run (take i (entrants_of run)) now flights
    → AreDone run (entrants_of run) now flights
entrants_all run i now flights last so_far =
    subst (λ (l : List Entrant). AreDone run l now flights) (take_all i (entrants_of run) last) so_far

-- the claims of a flight have a text
no_texts : (statements : List Statement) → statements ≡ [] → All IsStatement statements
no_texts statements none = All-same IsStatement statements [] none (All-nil IsStatement)

read_texts : (task : Task) (air : Airspace) (stewards : List StewardRules) (entrant : Entrant) (read : Result Reading IgcError) (statements : List Statement) (flight : Flight)
    → IsReadFlight task air stewards entrant read statements flight → All IsStatement statements
read_texts task air stewards entrant (Ok reading) statements flight (recording, same, is) =
    expected_statements task air recording entrant.number is.claims statements entrant.number_form is.expected is.proved
read_texts task air stewards entrant (Err error) statements flight (number, refused, is) = no_texts statements is.0

bytes_texts : (large : Bool) (task : Task) (air : Airspace) (stewards : List StewardRules) (entrant : Entrant) (read : Result Reading IgcError) (statements : List Statement) (flight : Flight)
    → MatchBool large (IsRefusedFlight task entrant 7 statements flight) (IsReadFlight task air stewards entrant read statements flight) → All IsStatement statements
bytes_texts true task air stewards entrant read statements flight is = no_texts statements is.0
bytes_texts false task air stewards entrant read statements flight is = read_texts task air stewards entrant read statements flight is

flight_texts : (task : Task) (air : Airspace) (stewards : List StewardRules) (entrant : Entrant) (seen : Option (List ℕ)) (statements : List Statement) (flight : Flight)
    → IsFlight task air stewards entrant seen statements flight → All IsStatement statements
flight_texts task air stewards entrant None statements flight is = no_texts statements is.0
flight_texts task air stewards entrant (Some bytes) statements flight is =
    bytes_texts (nat_lt most_bytes (length bytes)) task air stewards entrant (recording_of bytes (Some task.date)) statements flight is

pub all_texts : (folder : Option FilesByName) (day : DayFiles) (stewards : List StewardRules) (entrants : List Entrant) (scored : List Scored) → AllZip (IsScored folder day stewards) entrants scored
    → All IsStatement (statements_of_all scored)
all_texts folder day stewards [] [] each = All-nil IsStatement
all_texts folder day stewards [] (s ∷ scored) each = absurd each
all_texts folder day stewards (e ∷ entrants) [] each = absurd each
all_texts folder day stewards (e ∷ entrants) (s ∷ scored) ((seen, there, is), others) =
    All-append IsStatement s.statements (statements_of_all scored) (flight_texts day.task day.airspace stewards e seen s.statements s.flight is)
    (all_texts folder day stewards entrants scored others)
