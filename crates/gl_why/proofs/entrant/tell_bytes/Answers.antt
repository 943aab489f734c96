use Rattle.std.proofs.Common.{subst, rules, FitsSigned, ℤ, of_z, to_z, w32, List, Some, [], ◌∷◌}
use Rattle.std.proofs.lemmas.Int.{to_z-of_z}
use Rattle.std.proofs.lemmas.Result.{IfOk-weaker}
use Rattle.gl_day.specs.Flight.{IsSeen}
use Rattle.gl_day.specs.declared.flight.Flight.{Flight}
use Rattle.gl_day.specs.declared.flight.Seen.{Seen}
use Rattle.gl_igc.specs.Recording.{IsReadAs}
use Rattle.gl_why.specs.Code.Entrants.{IsRecordingTold}
use Rattle.gl_why.specs.Entrants.{IsBytesTold}
use Rattle.gl_why.specs.Facts.{AddsFacts}
use Rattle.gl_why.specs.declared.fact.Fact.{Fact}
use Rattle.gl_why.specs.declared.fact.Fact.TheVariants.{Entrant}
use Rattle.gl_why.proofs.EntrantLemmas.{bytes_recorded, bytes_refused, read_as}
use Rattle.gl_why.proofs.entrant.tell_bytes.Goals as goal

pub returns-in-Recorded : goal.returns-in-Recorded
returns-in-Recorded c =
    let task = c.args.task.now in
    let air = c.args.air.now in
    let entrant = c.args.entrant.now in
    let text = c.args.text.now in
    let rec = c.in-Recorded.rec in
    let fits : FitsSigned w32 task.date = search rules in
    let read = subst (λ (day : ℤ). IsReadAs text (Some day) c.read_igc-read.result) (to_z-of_z w32 task.date fits)
    (read_as text (Some (to_z w32 (of_z w32 task.date))) c.read_igc-read.result c.read_igc-read.ensures.ok c.read_igc-read.ensures.refused) in
    let seen = subst (λ (s : Seen). IsSeen task entrant text s) c.in-Recorded.is (c.in_ok-rec.ensures text c.requires read) in
    IfOk-weaker c.tell_recorded.result (λ (flight : Flight). AddsFacts (IsRecordingTold task air entrant rec flight) c.args.lines.now c.tell_recorded.new.lines)
    (λ (flight : Flight). AddsFacts (IsBytesTold task air entrant text flight) c.args.lines.now c.tell_recorded.new.lines)
    (λ flight told. (told.0, bytes_recorded task air entrant text rec flight told.0 seen told.1, told.2)) c.tell_recorded.ensures

pub returns-in_ok-tell_outcome-in-Refused : goal.returns-in_ok-tell_outcome-in-Refused
returns-in_ok-tell_outcome-in-Refused c =
    let task = c.args.task.now in
    let entrant = c.args.entrant.now in
    let text = c.args.text.now in
    let fits : FitsSigned w32 task.date = search rules in
    let read = subst (λ (day : ℤ). IsReadAs text (Some day) c.read_igc-read.result) (to_z-of_z w32 task.date fits)
    (read_as text (Some (to_z w32 (of_z w32 task.date))) c.read_igc-read.result c.read_igc-read.ensures.ok c.read_igc-read.ensures.refused) in
    let seen = subst (λ (s : Seen). IsSeen task entrant text s) c.in-Refused.is (c.in_ok-rec.ensures text c.requires read) in (
      Entrant entrant.number c.in-Refused.flight.outcome ∷ [],
      bytes_refused task c.args.air.now entrant text c.in-Refused.flight seen,
      c.in_ok-tell_outcome-in-Refused.ensures,
    )
