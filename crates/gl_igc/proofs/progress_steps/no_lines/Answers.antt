use Rattle.std.proofs.Common.{sym, ap, subst, refl, List, [], map, None, arith}
use Rattle.gl_igc.specs.Recording.{sighting_of}
use Rattle.gl_igc.specs.Code.Seconds.{AreOwnSeconds, last_second}
use Rattle.gl_igc.specs.Seconds.{is_rising}
use Rattle.gl_igc.specs.UsedFixes.{used_upwards, event_seconds, events_upwards}
use Rattle.gl_igc.specs.declared.fix.Fix.{Fix}
use Rattle.gl_igc.proofs.progress_steps.no_lines.Goals as goal

no_seconds : AreOwnSeconds [] None
unfolding is_rising last_second
no_seconds = record { few = omega arith; rising = refl; latest = refl; below = λ k second is. absurd (cc); last_below = λ own is. absurd (cc) }

pub invariant_of-result : goal.invariant_of-result
invariant_of-result c = record { own = subst (λ (fixes : List Fix). AreOwnSeconds (map (λ fix. fix.second) fixes) None) (sym c.new.ensures.items) no_seconds }

pub returns : goal.returns
unfolding used_upwards event_seconds events_upwards
returns c = record {
  number = refl;
  opening = refl;
  date = refl;
  fields = refl;
  track = record { excess = refl; kept = λ none. record { fixes = ap (map sighting_of) c.new.ensures.items; last = refl; skipped = refl; within = omega arith } };
  events = λ none. c.new-2.ensures.items;
  declaration = (refl, c.new-3.ensures.items);
}
