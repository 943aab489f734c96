-- What is told of an entrant with a recording, part by part.
use Rattle.std.proofs.Common.{◌≡◌, ◌≢◌, ◌∙◌, ap, append_assoc, refl, subst, sym, ℕ, ℤ, List, [], ◌∷◌, ◌++◌, Option, None, Result, Ok, Err}
use Rattle.std.specs.Prelude.{IfErr, IfOk}
use Rattle.std.specs.declared.alloc.AllocError.{AllocError}
use Rattle.gl_airspace.specs.declared.volume.Airspace.{Airspace}
use Rattle.gl_day.specs.Flight.{IsFlight, IsSeen}
use Rattle.gl_day.specs.declared.flight.Flight.{Flight}
use Rattle.gl_day.specs.declared.flight.Seen.TheVariants.{Recorded, Refused}
use Rattle.gl_igc.specs.Reading.{recording_of}
use Rattle.gl_igc.specs.Recording.{IsReadAs, reading_of}
use Rattle.gl_igc.specs.declared.error.IgcError.{IgcError}
use Rattle.gl_igc.specs.declared.error.IgcError.TheVariants.{Memory}
use Rattle.gl_igc.specs.declared.recording.Recording.{Recording}
use Rattle.gl_task.specs.declared.task.Entrant as task_entrant
use Rattle.gl_task.specs.declared.task.Task.{Task}
use Rattle.gl_why.specs.Code.Entrants.{IsRecordingTold}
use Rattle.gl_why.specs.Code.Scoring.{IsScored}
use Rattle.gl_why.specs.Credits.{AreCreditsTold}
use Rattle.gl_why.specs.Entrants.{IsBytesTold, IsExtent, IsRecordedTold, IsSeenTold}
use Rattle.gl_why.specs.Facts.{AddsFacts}
use Rattle.gl_why.specs.Fines.{AreFinesTold}
use Rattle.gl_why.specs.Flights.{AreFlightTold}
use Rattle.gl_why.specs.Stewards.{the_stewards}
use Rattle.gl_why.specs.declared.fact.Extent.{Extent}
use Rattle.gl_why.specs.declared.fact.Fact.{Fact}
use Rattle.gl_why.specs.declared.fact.Fact.TheVariants.{Counted, Entrant, Read}
use Rattle.gl_why.specs.declared.scoring.Scored.{Scored}
use Rattle.gl_why.specs.declared.sight.Sight as code_sight
use Rattle.gl_why.specs.declared.sight.Sight.TheVariants.{Absent}
use Rattle.gl_why.proofs.FineLemmas.{penalty_known, points_charged}

-- lists behind one another
behind : (a e r f c p k : List Fact) → (((((a ++ e) ++ r) ++ f) ++ c) ++ p) ++ k ≡ a ++ ((e ++ r) ++ (f ++ (c ++ (p ++ k))))
behind a e r f c p k =
    append_assoc ((((a ++ e) ++ r) ++ f) ++ c) p k ∙ append_assoc (((a ++ e) ++ r) ++ f) c (p ++ k) ∙ append_assoc ((a ++ e) ++ r) f (c ++ (p ++ k))
    ∙ ap (λ (t : List Fact). t ++ (f ++ (c ++ (p ++ k)))) (append_assoc a e r) ∙ append_assoc a (e ++ r) (f ++ (c ++ (p ++ k)))

-- what is told of a recording, for whichever bytes it is read from
recorded : (task : Task) (air : Airspace) (entrant : task_entrant.Entrant) (rec : Recording) (scored : Scored) (extent : Extent) (found credits fines : List Fact) → (is : IsScored task air entrant rec scored)
    → IsExtent rec extent → AreFlightTold task air rec scored.judged found → AreCreditsTold rec.fixes scored.credited.items credits → AreFinesTold task.rules rec.fixes scored.judged fines
    → (bytes : List ℕ) → IsSeen task entrant bytes (Recorded rec)
    → IsRecordedTold task air entrant rec is.statements scored.flight
    ((Entrant entrant.number scored.flight.outcome ∷ Read extent ∷ []) ++ (found ++ (credits ++ (fines ++ Counted entrant.number scored.flight ∷ []))))
recorded task air entrant rec scored extent found credits fines is extent_is found_are credits_are fines_are bytes seen = record {
  judged = scored.judged;
  extent = extent;
  extent_is = extent_is;
  found = found;
  found_are = found_are;
  credits = credits;
  credits_are = subst (λ (choice : List ℕ). AreCreditsTold rec.fixes choice credits) is.credited_are credits_are;
  fines = fines;
  fines_are = fines_are;
  penalty_is = penalty_known task air entrant rec scored.judged bytes is.statements scored.flight is.judged_is seen (is.flight_is bytes seen)
      ∙ points_charged task rec.fixes scored.judged fines fines_are;
  told = refl;
}

pub recording_told : (task : Task) (air : Airspace) (entrant : task_entrant.Entrant) (rec : Recording) (scored : Scored) (extent : Extent) (before one two three four five now : List Fact)
    → IsScored task air entrant rec scored → IsExtent rec extent → one ≡ before ++ Entrant entrant.number scored.flight.outcome ∷ [] → two ≡ one ++ Read extent ∷ []
    → AddsFacts (AreFlightTold task air rec scored.judged) two three → AddsFacts (AreCreditsTold rec.fixes scored.credited.items) three four
    → AddsFacts (AreFinesTold task.rules rec.fixes scored.judged) four five
    → now ≡ five ++ Counted entrant.number scored.flight ∷ [] → AddsFacts (IsRecordingTold task air entrant rec scored.flight) before now
recording_told task air entrant rec scored extent before one two three four five now is extent_is first second found credits fines counted = (
  (Entrant entrant.number scored.flight.outcome ∷ Read extent ∷ []) ++ (found.0 ++ (credits.0 ++ (fines.0 ++ Counted entrant.number scored.flight ∷ []))),
  record {
    statements = is.statements;
    flight_is = is.flight_is;
    told = recorded task air entrant rec scored extent found.0 credits.0 fines.0 is extent_is found.1 credits.1 fines.1;
  },
  counted
      ∙ ap (λ (t : List Fact). t ++ Counted entrant.number scored.flight ∷ [])
      (fines.2 ∙ ap (λ (t : List Fact). t ++ fines.0)
      (credits.2 ∙ ap (λ (t : List Fact). t ++ credits.0) (found.2 ∙ ap (λ (t : List Fact). t ++ found.0) (second ∙ ap (λ (t : List Fact). t ++ Read extent ∷ []) first))))
      ∙ behind before (Entrant entrant.number scored.flight.outcome ∷ []) (Read extent ∷ []) found.0 credits.0 fines.0 (Counted entrant.number scored.flight ∷ []),
)

-- what is told by the bytes of a recording
pub bytes_recorded : (task : Task) (air : Airspace) (entrant : task_entrant.Entrant) (text : List ℕ) (rec : Recording) (flight : Flight) (facts : List Fact) → IsSeen task entrant text (Recorded rec)
    → IsRecordingTold task air entrant rec flight facts → IsBytesTold task air entrant text flight facts
bytes_recorded task air entrant text rec flight facts seen told = record { statements = told.statements; flight_is = told.flight_is text seen; file = Recorded rec; file_is = seen; is = told.told text seen }

-- what is told by bytes that are refused
pub bytes_refused : (task : Task) (air : Airspace) (entrant : task_entrant.Entrant) (text : List ℕ) (flight : Flight) → IsSeen task entrant text (Refused flight)
    → IsBytesTold task air entrant text flight (Entrant entrant.number flight.outcome ∷ [])
bytes_refused task air entrant text flight seen = record { statements = []; flight_is = seen air the_stewards; file = Refused flight; file_is = seen; is = refl }

-- how a text is read
pub read_as : (text : List ℕ) (day : Option ℤ) (read : Result Recording IgcError) → IfOk read (λ (r : Recording). recording_of text day ≡ Ok (reading_of r))
    → IfErr read (λ (e : IgcError). e ≢ Memory → recording_of text day ≡ Err e) → IsReadAs text day read
read_as text day (Ok rec) ok refused = ok
read_as text day (Err error) ok refused = refused

-- what is told of an entrant without a file
pub absent_told : (told : Result Flight AllocError) (task : Task) (air : Airspace) (entrant : task_entrant.Entrant) (sight : code_sight.Sight) (flight : Flight) (before now : List Fact) → sight ≡ Absent
    → IsFlight task air the_stewards entrant None [] flight → IfOk told (λ (f : Flight). f ≡ flight) → IfOk told (λ (f : Flight). now ≡ before ++ Entrant entrant.number flight.outcome ∷ [])
    → IfOk told (λ (f : Flight). AddsFacts (IsSeenTold task air entrant sight f) before now)
absent_told (Ok f) task air entrant sight flight before now absent is same lines =
    subst (λ (s : code_sight.Sight). AddsFacts (IsSeenTold task air entrant s f) before now) (sym absent) (
      Entrant entrant.number f.outcome ∷ [],
      (subst (λ (g : Flight). IsFlight task air the_stewards entrant None [] g) (sym same) is, refl),
      lines ∙ ap (λ (g : Flight). before ++ Entrant entrant.number g.outcome ∷ []) (sym same),
    )
absent_told (Err error) task air entrant sight flight before now absent is same lines = tt
