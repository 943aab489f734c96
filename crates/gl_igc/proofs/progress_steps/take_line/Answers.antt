use Rattle.std.proofs.Common.{◌∙◌, sym, ap, List, [], ◌∷◌, ◌++◌, ℕ, ℤ, ◌+◌, subst, min, ◌-◌, ◌^◌}
use Rattle.std.specs.Prelude.{filter, length, option_map, pos}
use Rattle.std.specs.Option.{option_or, option_to_list}
use Rattle.gl_igc.specs.Dates.{date_of_line}
use Rattle.gl_igc.specs.Declaration.{is_declaration_line}
use Rattle.gl_igc.specs.Extension.{extension_of_line}
use Rattle.gl_igc.specs.FixLine.{is_fix_line}
use Rattle.gl_igc.specs.Parts.{IsDeclarationOf, extension_view}
use Rattle.gl_igc.specs.Reading.{opening_of_line}
use Rattle.gl_igc.specs.UsedFixes.{own_second, event_time}
use Rattle.gl_igc.proofs.ProgressLemmas.{Lines, capped-more, first-push, number-push, track-push, no_excess_before, events-push, declared-push}
use Rattle.gl_igc.proofs.progress_steps.take_line.Goals as goal

pub returns : goal.returns
returns c = λ lines of.
    let old = c.args.progress.now in
    let line = c.args.line.now in
    let number = c.saturating_add-progress.ensures ∙ number-push lines line old.lines of.number in
    let track = track-push lines line old.fields c.saturating_add-progress.result old.track c.take_fix.new.track of.fields (c.saturating_add-progress.ensures
    ∙ ap (λ (n : ℕ). min (n + 1) (2 ^ 32 - 1)) of.number ∙ capped-more (length lines)) of.track c.in_ok-take_fix.ensures in
    record {
      number = number;
      opening = first-push opening_of_line lines line old.opening c.or-progress.result of.opening (c.or-progress.ensures ∙ ap (option_or old.opening) c.opening_of_line.ensures);
      date = first-push date_of_line lines line old.date c.first_date-progress.result of.date c.first_date-progress.ensures;
      fields = first-push extension_of_line lines line (option_map extension_view old.fields) (option_map extension_view c.first_fields-progress.result) of.fields c.first_fields-progress.ensures;
      track = track;
      events = λ none.
          let before = no_excess_before lines line old.fields (length (filter is_fix_line lines))
          (length (filter is_fix_line (lines ++ line ∷ []))) old.track c.take_fix.new.track of.fields of.track track none in
          c.in_ok-take_event.ensures.kept before ∙ ap (λ (seconds : List ℤ). seconds ++ option_to_list (option_map (λ time. pos (own_second old.track.last time)) (event_time line))) (of.events before)
          ∙ sym (events-push lines line old.track.last (of.track.kept before).last);
      declaration = subst (λ (lines : Lines). IsDeclarationOf lines c.take_declared.new.declaration) (sym (declared-push lines line))
          (c.in_ok-take_declared.ensures (filter is_declaration_line lines) of.declaration);
    }
