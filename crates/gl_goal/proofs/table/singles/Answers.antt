use Rattle.std.proofs.Common.{◌≡◌, length, get_or, List, sym, subst, ap, ◌∙◌, arith, length-append}
use Rattle.std.proofs.lemmas.List.Elements.{All-push}
use Rattle.std.specs.Prelude.{All}
use Rattle.gl_goal.specs.Hull.{box_of}
use Rattle.gl_goal.specs.Table.{IsEntry}
use Rattle.gl_goal.specs.declared.entry.Entry.{Entry}
use Rattle.gl_goal.specs.Lemmas.Spans.{single-least}
use Rattle.gl_goal.proofs.table.singles.Goals as goal

pub loop-place-preserved : goal.loop-place-preserved
loop-place-preserved c =
    let fixes = c.args.fixes.now in
    let span = c.point.result in
    let entry : Entry = record { span = span; hull = c.of_fix.result } in
    let P : List Entry → Type 0 = All (IsEntry fixes) in
    let first = c.in_ok-push.ensures.items in
    let second = c.in_ok-push-2.ensures.items in
    let same : span.lo ≡ span.hi = c.point.ensures.lo ∙ sym c.point.ensures.hi in
    let is_there = c.index-fixes-place.is ∙ ap (λ n. get_or fixes n c.index-fixes-place.result) (sym c.point.ensures.lo) in
    let holds : IsEntry fixes entry = single-least (box_of c.of_fix.result) fixes span.lo span.hi c.index-fixes-place.result same (omega arith) is_there c.of_fix.ensures in
    record {
      sized = omega (arith, length-append {A = Entry}, ap length first, ap length second);
      entries = subst P (sym second) (All-push (IsEntry fixes) _ _ (subst P (sym first) (All-push (IsEntry fixes) _ _ c.loop-place.invariant.entries holds)) holds);
    }
