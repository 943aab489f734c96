use Rattle.std.proofs.Common.{◌≡◌, ◌∙◌, sym, ap, subst, Option, ℤ, w32, take}
use Rattle.std.specs.Prelude.{◌↔◌, IsTrue}
use Rattle.std.specs.List.{list_any}
use Rattle.std.proofs.lemmas.Int.{to_z-of_z}
use Rattle.gl_task.specs.declared.task.PilotStart.{PilotStart}
use Rattle.gl_judge.specs.Starts.{IsAnnounced, is_in_window}
use Rattle.gl_judge.proofs.Announcements.{event_found, has_event}
use Rattle.gl_judge.proofs.announcement.is_announced.Goals as goal

pub returns-in-Some : goal.returns-in-Some
returns-in-Some c =
    let found : c.has_event.result ≡ list_any (is_in_window c.in-Some.pilot c.args.time) (take 3 c.args.events.now) =
    c.has_event.ensures ∙ ap (λ (time : ℤ). list_any (is_in_window c.in-Some.pilot time) (take 3 c.args.events.now)) (to_z-of_z w32 c.args.time c.ranges.time)
    in
    subst (λ (pilot : Option PilotStart). IsTrue c.has_event.result ↔ IsAnnounced pilot c.args.events.now c.args.time) (sym c.in-Some.is)
    (λ is. has_event c.in-Some.pilot c.args.events.now c.args.time (sym found ∙ is), λ h. found ∙ event_found c.in-Some.pilot c.args.events.now c.args.time h)
