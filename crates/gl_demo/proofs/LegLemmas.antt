-- The lines of a leg, fix by fix.
use Rattle.std.proofs.Common.{◌≡◌, ◌∙◌, ap, ℕ, ◌+◌, ◌*◌, List, ◌++◌, append_assoc, map}
use Rattle.std.specs.List.{concat, range_with_len}
use Rattle.gl_demo.specs.declared.leg.Leg.{Leg}
use Rattle.gl_demo.specs.declared.place.Place.{Place}
use Rattle.gl_demo.specs.Draws.{after}
use Rattle.gl_demo.specs.Leg.{fix_line, fix_place, leg_text}
use Rattle.gl_demo.specs.Line.{b_line}
use Rattle.gl_demo.proofs.LineLemmas.{concat-more}

-- the line of a place that is drawn behind the fixes before it
fix_line-is : (leg : Leg) (x fix v : ℕ) (place : Place) → v ≡ after (2 * fix) x → place ≡ fix_place leg fix v → b_line (leg.begins + fix) place ≡ fix_line leg x fix
unfolding fix_line
fix_line-is leg x fix v place is-after is-place =
    ap (b_line (leg.begins + fix)) (is-place ∙ ap (fix_place leg fix) is-after)

-- one more line
pub leg-more : (leg : Leg) (x fix v : ℕ) (place : Place) (old before now : List ℕ) → v ≡ after (2 * fix) x → place ≡ fix_place leg fix v
    → before ≡ old ++ concat (map (fix_line leg x) (range_with_len 0 fix)) → now ≡ before ++ b_line (leg.begins + fix) place → now ≡ old ++ concat (map (fix_line leg x) (range_with_len 0 (fix + 1)))
leg-more leg x fix v place old before now is-after is-place is-before is-now =
    rw (concat-more (fix_line leg x) fix, ← append_assoc, ← is-before, ← (fix_line-is leg x fix v place is-after is-place)) is-now

-- all lines
pub leg-whole : (leg : Leg) (x fix : ℕ) (old now : List ℕ) → now ≡ old ++ concat (map (fix_line leg x) (range_with_len 0 fix)) → fix ≡ leg.fixes → now ≡ old ++ leg_text leg x
unfolding leg_text
leg-whole leg x fix old now is-now all =
    is-now ∙ ap (λ (n : ℕ). old ++ concat (map (fix_line leg x) (range_with_len 0 n))) all
