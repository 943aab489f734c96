-- The two rules of legs below 750 kilometres.
use Rattle.std.proofs.Common.{◌≡◌, ◌∙◌, ℕ, ◌<◌, ◌≤◌, ◌*◌, ◌/◌, Bool, true, false, ◌&&◌, ◌||◌, List, [], ◌∷◌, map, refl, ap, arith}
use Rattle.std.specs.Prelude.{fold, if◌then◌else◌, min, nat_eq, nat_le, nat_lt}
use Rattle.std.specs.List.{sum}
use Rattle.std.proofs.Math.Bool.{and-true, or-false}
use Rattle.std.proofs.lemmas.Bool.{lt-leb, lt-ltb}
use Rattle.gl_goal.specs.Lemmas.Fair.{fold-at_most}
use Rattle.gl_goal.specs.Fair.{by_25_to_45_percent, by_28_percent, is_fair, is_none_fair, large, most_from, most_of_fair, never_28_percent}
use Rattle.gl_laws.specs.Triangles.{IsAsBefore}

fair : (legs : List ℕ) → sum legs < large → is_fair legs ≡ (nat_lt 0 (sum legs) && by_28_percent legs)
unfolding is_fair
fair legs short = rw (lt-leb large (sum legs) short, or-false (by_28_percent legs)) refl

none_fair : (least greatest : List ℕ) → sum greatest < large → is_none_fair least greatest ≡ (nat_eq (sum greatest) 0 || never_28_percent least greatest)
unfolding is_none_fair
none_fair least greatest short = rw (lt-ltb (sum greatest) large short, and-true (never_28_percent least greatest)) refl

bound : (greatest : List ℕ) → sum greatest < large → most_of_fair greatest ≡ most_from 28 greatest
unfolding most_of_fair
bound greatest short =
    let low = fold-at_most (sum greatest) (map (λ (leg : ℕ). 100 * leg / 25) greatest) in
    let small : most_from 25 greatest < large = omega (arith, low, short) in
    rw (lt-ltb (most_from 25 greatest) large small) refl

pub as_before : IsAsBefore
as_before = record { fair = fair; none_fair = none_fair; bound = bound }
