use Rattle.std.proofs.Common.{◌≡◌, ℕ, ◌+◌, ◌<◌, ◌++◌, ◌∷◌, [], length, map, take, get_or, List, Some, slice_get, refl, sym, ap, ◌∙◌, arith, length-append}
use Rattle.std.proofs.lemmas.List.{map-append, take_more}
use Rattle.std.proofs.lemmas.Option.{slice_get-get_or}
use Rattle.gl_igc.specs.declared.fix.Fix.{Fix}
use Rattle.gl_goal.proofs.hulls.Hulls.new.Goals as goal

-- one more fix, by one more number
picked-more : (fixes picked more : List Fix) (numbers : List ℕ) (at number : ℕ) (fix : Fix) → more ≡ picked ++ fix ∷ [] → at < length numbers → number ≡ get_or numbers at 0 → number < length fixes
    → fix ≡ get_or fixes number fix → map Some picked ≡ map (slice_get fixes) (take at numbers) → map Some more ≡ map (slice_get fixes) (take (at + 1) numbers)
picked-more fixes picked more numbers at number fix pushed within number_is below fix_is before =
    let there : slice_get fixes (get_or numbers at 0) ≡ Some fix = ap (slice_get fixes) (sym number_is) ∙ slice_get-get_or fixes number fix below ∙ ap Some (sym fix_is) in
    let left : map Some more ≡ map Some picked ++ Some fix ∷ [] = ap (map Some) pushed ∙ map-append Some picked (fix ∷ []) in
    let right : map (slice_get fixes) (take (at + 1) numbers) ≡ map (slice_get fixes) (take at numbers) ++ slice_get fixes (get_or numbers at 0) ∷ [] =
    ap (map (slice_get fixes)) (take_more numbers at 0 within) ∙ map-append (slice_get fixes) (take at numbers) (get_or numbers at 0 ∷ []) in
    cc

pub loop-number-preserved : goal.loop-number-preserved
loop-number-preserved c = record {
  sized = omega (arith, length-append {A = Fix}, ap length c.in_ok-push.ensures.items);
  picked = picked-more c.args.fixes.now c.loop-number.picked.items _ c.args.numbers.now c.loop-number.number-index _ c.index-fixes-number.result c.in_ok-push.ensures.items (omega arith) refl
      (c.requires.named c.loop-number.number-index 0 (omega arith)) c.index-fixes-number.is c.loop-number.invariant.picked;
}
