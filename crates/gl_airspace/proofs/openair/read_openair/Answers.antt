use Rattle.std.proofs.Common.{◌≡◌, ◌∙◌, sym, ap, subst, ℕ, ◌+◌, ◌-◌, ◌++◌, ◌∷◌, [], ◌≤◌, vec_len, length, drop, List, Option, None, arith}
use Rattle.std.proofs.lemmas.Grind.{common_steps}
use Rattle.gl_airspace.specs.declared.volume.Volume.{Volume}
use Rattle.gl_airspace.specs.Code.Volumes.{IsGathered}
use Rattle.gl_airspace.specs.Code.Going.{Fits, volume_of}
use Rattle.gl_airspace.specs.Parts.{Tells}
use Rattle.gl_airspace.specs.Volumes.{Reading, Refusal, corners_in, first_trouble, parted, readings_of, refusal_of, trouble}
use Rattle.gl_airspace.proofs.Gathers.{all_fit, gathered_at, gathers, refusal_at, tells_first, trouble_behind}
use Rattle.gl_airspace.proofs.Goings.{corners_said, readings_on}
use Rattle.gl_airspace.proofs.openair.read_openair.Goals as goal

pub returns-in-Err-clause-refused : goal.returns-in-Err-clause-refused
returns-in-Err-clause-refused c =
    let text = c.args.text.now in
    let rest = readings_of (drop c.in-Some.line.next text) in
    let on = readings_on text _ c.volumes.at c.in-Some.line.next c.in-Some.ensures.line in
    let refusal = refusal_at (refusal_of (readings_of text)) c.volumes.first (vec_len c.volumes.volumes) c.volumes.corners _ rest _ c.volumes.invariant.ahead on c.volumes.invariant.refusal in
    let judged = c.in-Err.ensures.judged text rest c.volumes.corners c.in_ok-part.ensures.goes in
    let told : Tells (trouble c.volumes.first (vec_len c.volumes.volumes) c.volumes.corners (volume_of rest)) c.in-Err.error =
    subst (λ (n : ℕ). Tells (trouble c.volumes.first n c.volumes.corners (volume_of rest)) c.in-Err.error) c.len.ensures judged in
    subst (λ (r : Option Refusal). Tells r c.in-Err.error) (sym refusal) (tells_first _ _ c.in-Err.error told)

pub volumes-preserved : goal.volumes-preserved
volumes-preserved c =
    let text = c.args.text.now in
    let rest = readings_of (drop c.in-Some.line.next text) in
    let lines = volume_of rest in
    let on = readings_on text _ c.volumes.at c.in-Some.line.next c.in-Some.ensures.line in
    let fit : Fits text rest (4_096 - c.volumes.corners) c.in_ok-part.part = all_fit text rest (4_096 - c.volumes.corners) c.in_ok-part.part c.in-Ok.ensures.fits c.in_ok-part.ensures.goes in
    let judged = c.in-Ok.ensures.judged text rest c.volumes.corners c.in_ok-part.ensures.goes in
    let none : trouble c.volumes.first (vec_len c.volumes.volumes) c.volumes.corners lines ≡ None = ap (λ (n : ℕ). trouble c.volumes.first n c.volumes.corners lines) (sym c.len.ensures) ∙ judged.0 in
    let refusal = refusal_at (refusal_of (readings_of text)) c.volumes.first (vec_len c.volumes.volumes) c.volumes.corners _ rest _ c.volumes.invariant.ahead on c.volumes.invariant.refusal in
    let more : c.len-more.result ≡ length (corners_in lines) = c.len-more.ensures ∙ corners_said c.in_ok-part.part.draft lines fit.says in
    let few : length (corners_in lines) ≤ 4_096 - c.volumes.corners = fit.few c.in-Ok.ensures.few_corners in
    let pushed : vec_len c.push.new.self ≡ vec_len c.volumes.volumes + 1 = grind (arith, common_steps) in
    let others : (parted (readings_of (drop c.in_ok-part.part.next text))).1 ≡ (parted rest).1 = ap (λ (p : List Reading × List (List Reading)). p.1) fit.behind in
    record {
      within = c.in_ok-part.ensures.goes.within;
      counted = grind (arith, common_steps);
      corners = omega (arith, few, more, c.volumes.invariant.corners);
      few = omega (arith, pushed, c.volumes.invariant.few, c.in-Ok.ensures.few_volumes, c.len.ensures);
      ahead = ap (λ (p : List Reading × List (List Reading)). p.0) fit.behind;
      refusal = refusal ∙ trouble_behind c.volumes.first (vec_len c.volumes.volumes) c.volumes.corners lines (parted rest).1 none
          ∙ ap (λ (n : ℕ). first_trouble (c.volumes.first + 1 + n) (vec_len c.volumes.volumes + 1) (c.volumes.corners + length (corners_in lines)) (parted rest).1) (sym fit.count)
          ∙ ap (λ (n : ℕ). first_trouble (c.volumes.first + 1 + c.in_ok-part.part.lines) n (c.volumes.corners + length (corners_in lines)) (parted rest).1) (sym pushed)
          ∙ ap (λ (n : ℕ). first_trouble (c.volumes.first + 1 + c.in_ok-part.part.lines) (vec_len c.push.new.self) (c.volumes.corners + n) (parted rest).1) (sym more)
          ∙ ap (first_trouble (c.volumes.first + 1 + c.in_ok-part.part.lines) (vec_len c.push.new.self) (c.volumes.corners + c.len-more.result)) (sym others);
      gathered =
          subst (λ (v : List Volume). IsGathered (parted (readings_of text)).1 (parted (readings_of (drop c.in_ok-part.part.next text))).1 v) (sym c.in_ok-push.ensures.items)
          (subst (λ (o : List (List Reading)). IsGathered (parted (readings_of text)).1 o (c.volumes.volumes.items ++ c.in-Ok.volume ∷ [])) (sym others)
          (gathers (parted (readings_of text)).1 (parted rest).1 lines c.volumes.volumes.items c.in-Ok.volume judged.1
          (gathered_at (parted (readings_of text)).1 c.volumes.volumes.items _ rest _ c.volumes.invariant.ahead on c.volumes.invariant.gathered)));
    }
