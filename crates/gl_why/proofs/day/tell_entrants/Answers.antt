use Rattle.std.proofs.Common.{◌∙◌, ap, rules, subst, ℕ, ◌+◌, [], ◌∷◌, Option, length}
use Rattle.std.proofs.lemmas.List.{length-append}
use Rattle.std.specs.Prelude.{option_map}
use Rattle.gl_desk.specs.Desk.{FilesByName}
use Rattle.gl_why.specs.Entrants.{IsToldIfWanted}
use Rattle.gl_why.specs.Facts.{AddsFacts}
use Rattle.gl_why.proofs.FoundLemmas.{next_flown}
use Rattle.gl_why.proofs.day.tell_entrants.Goals as goal

pub entrants-preserved : goal.entrants-preserved
entrants-preserved g c =
    let R : Option FilesByName → Type 0 = λ folder. AddsFacts (IsToldIfWanted (option_map (λ number. number.now) c.args.choice) folder c.args.names.now c.args.task.now c.args.air.now c.entrant-item.result
    c.in_ok-flight.flight) c.entrants.lines c.tell_if_wanted.new.lines in
    record {
      told = next_flown _ _ _ _ _ _ _ _ _ _ c.entrants-test.true c.entrant-item.is c.entrants.invariant.told (subst R c.entrants.invariant.reads.folder c.in_ok-flight.ensures.told)
          c.in_ok-push.ensures.items;
      as_many = ap length c.in_ok-push.ensures.items ∙ length-append c.entrants.flights.items (c.in_ok-flight.flight ∷ []) ∙ ap (λ (n : ℕ). n + 1) c.entrants.invariant.as_many;
      reads = search rules;
    }
