-- Ways that go on by one leg.
use Rattle.std.proofs.Common.{◌≡◌, ◌∙◌, ap, sym, subst, ℕ, ◌+◌, ◌-◌, ◌*◌, ◌/◌, ◌<◌, ◌≤◌, ◌⊎◌, inl, inr, ⊎_elim, List, ◌++◌, length, take, replicate, get_or, Some, slice_get, arith}
use Rattle.std.specs.Prelude.{All}
use Rattle.std.proofs.lemmas.Bool.{cases_lt}
use Rattle.std.proofs.lemmas.List.Elements.{All-replicate}
use Rattle.std.proofs.Math.Seq.{take-append_seam}
use Rattle.std.proofs.Math.Nat.{mul-le-mul}
use Rattle.gl_sphere.specs.Distance.{arc_over, floor_root, second_term_of, squared_chord, third_term_of, fourth_term_of, written_distance}
use Rattle.gl_sphere.proofs.Arcs.{arc_over-two, second_term_of-mono, second_term_of-short, written_distance-mono}
use Rattle.gl_sphere.proofs.Roots.{IsRoot-floor_root}
use Rattle.gl_igc.specs.declared.fix.Fix.{Fix}
use Rattle.gl_box.specs.Cell.{ends}
use Rattle.gl_goal.specs.Box.{Box, IsInside, fixes_in, hull_of, point_box}
use Rattle.gl_goal.specs.Chords.{IsGreatestChord}
use Rattle.gl_goal.specs.Lemmas.Held.{named, point_box-inside}
use Rattle.gl_places.specs.declared.by_place.ByPlace.{ByPlace}
use Rattle.gl_places.specs.ByPlace.{IsByPlace}
use Rattle.gl_places.proofs.Orders.{hulls_long, numbered_fix, numbers_below, numbers_long, placed}
use Rattle.gl_free.specs.declared.branch.Branch.{Branch}
use Rattle.gl_free.specs.declared.way.Longest.{Longest}
use Rattle.gl_free.specs.declared.way.Most.{Most}
use Rattle.gl_free.specs.declared.way.Target.{Target}
use Rattle.gl_free.specs.declared.side.Side.{Side}
use Rattle.gl_free.specs.declared.side.Side.TheVariants.{Before, After}
use Rattle.gl_free.specs.Code.Ends.{IsPast, Stands}
use Rattle.gl_free.specs.Code.Places.{chord, leg}
use Rattle.gl_free.proofs.PlaceLemmas.{chord-is, held}
use Rattle.gl_free.specs.Code.Ways.{AreAtMost, IsBranch, IsKnown, IsTarget, IsThere, IsWay, Lengthens, onward, way_to}

-- the fix with a number has its place in a span, before another place
pub record IsThereBelow (numbers : List ℕ) (from before number : ℕ) : Type 0 where
  pub place : ℕ
  pub low : from ≤ place
  pub high : place < before
  pub within : place < length numbers
  pub is : get_or numbers place 0 ≡ number

-- a chord whose root and the second term over a longer one are no more than a length
pub within-two : (square length second : ℕ) → length < 32000000 → second ≡ length * (length * length) / 8192 / 1189149638671875 → square < (length - second + 1) * (length - second + 1)
    → written_distance square ≤ length
unfolding written_distance second_term_of
within-two square length second short is below =
    let root = floor_root square in
    let rooted = IsRoot-floor_root square in
    let small : root ≤ length - second = ⊎_elim
    (λ (above : length - second < root).
    let square_above : (length - second + 1) * (length - second + 1) ≤ root * root = mul-le-mul (omega arith) (omega arith) in
    absurd (omega (arith, rooted.square_at_most, square_above)))
    (λ (fits : root ≤ length - second). fits)
    (cases_lt (length - second) root) in
    let term : second ≡ second_term_of length = second_term_of-short length second is in
    let mono = second_term_of-mono root length (omega (arith, small)) in
    let two = arc_over-two root (omega (arith, small)) in
    ⊎_elim
    (λ (above : length < second).
    let none : root ≡ 0 = omega (arith, small) in
    let zero_term : second_term_of root ≡ 0 = ap second_term_of none in
    omega (arith, two, none, zero_term))
    (λ (fits : second ≤ length). omega (arith, two, small, mono, term))
    (cases_lt length second)

-- what has its place in a span has it in one of the halves
pub there-parts : (numbers : List ℕ) (span low high : ℕ × ℕ) (number : ℕ) → low.0 ≡ span.0 → high.0 ≡ low.1 + 1 → high.1 ≡ span.1 → IsThere numbers span number
    → IsThere numbers low number ⊎ IsThere numbers high number
there-parts numbers span low high number first next last there = ⊎_elim
    (λ (above : low.1 < there.place). inr (record { place = there.place; inside = (omega arith, omega (arith, there.inside.1)); within = there.within; is = there.is }))
    (λ (below : there.place ≤ low.1). inl (record { place = there.place; inside = (omega (arith, there.inside.0), below); within = there.within; is = there.is }))
    (cases_lt low.1 there.place)

pub branch-joined : (numbers ways : List ℕ) (low high joined : Branch) → low.span.lo ≡ joined.span.lo → high.span.lo ≡ low.span.hi + 1 → high.span.hi ≡ joined.span.hi → IsBranch numbers ways low
    → IsBranch numbers ways high → joined.numbers.lo ≤ low.numbers.lo → joined.numbers.lo ≤ high.numbers.lo → low.numbers.hi ≤ joined.numbers.hi → high.numbers.hi ≤ joined.numbers.hi
    → low.most ≤ joined.most → high.most ≤ joined.most → IsBranch numbers ways joined
branch-joined numbers ways low high joined first next last is_low is_high lo_low lo_high hi_low hi_high most_low most_high number there = ⊎_elim
    (λ (below : IsThere numbers (ends low.span) number).
    let is = is_low number below in
    (omega (arith, is.0), omega (arith, is.1), omega (arith, is.2)))
    (λ (above : IsThere numbers (ends high.span) number).
    let is = is_high number above in
    (omega (arith, is.0), omega (arith, is.1), omega (arith, is.2)))
    (there-parts numbers (ends joined.span) (ends low.span) (ends high.span) number first next last there)

-- nothing was found, since no way by a fix of the kind is longer
pub lengthens-none : (fixes : List Fix) (ways : List ℕ) (target : Target) (kind : ℕ → Type 0) (old : Longest) → IsKnown old
    → ((from : ℕ) → kind from → IsWay ways target from → onward fixes ways target from ≤ old.length) → Lengthens fixes ways target kind old old
lengthens-none fixes ways target kind old known above = record {
  longer = omega arith;
  known = known;
  found = λ floor is. is;
  above = above;
}

-- fixes of a kind are gone over in two parts
pub lengthens-parts : (fixes : List Fix) (ways : List ℕ) (target : Target) (kind one other : ℕ → Type 0) (old between new : Longest) → ((from : ℕ) → kind from → one from ⊎ other from)
    → Lengthens fixes ways target one old between → Lengthens fixes ways target other between new → Lengthens fixes ways target kind old new
lengthens-parts fixes ways target kind one other old between new parts first second = record {
  longer = omega (arith, first.longer, second.longer);
  known = second.known;
  found = λ floor is. second.found floor (first.found floor is);
  above = λ from is_kind way. ⊎_elim
      (λ (is_one : one from). omega (arith, first.above from is_one way, second.longer))
      (λ (is_other : other from). second.above from is_other way)
      (parts from is_kind);
}

-- no way by a fix of a span is longer than what is more than all of them
pub beaten-above : (fixes : List Fix) (numbers ways : List ℕ) (target : Target) (span : ℕ × ℕ) (most : Most) (longest : ℕ) → AreAtMost fixes numbers ways target span most
    → (0 < most.way → most.way + written_distance most.chord ≤ longest) → (from : ℕ) → IsThere numbers span from → IsWay ways target from → onward fixes ways target from ≤ longest
unfolding leg
beaten-above fixes numbers ways target span most longest at_most beaten from there way =
    let is = at_most from there way in
    omega (arith, is.0, way.some, beaten (omega (arith, is.0, way.some)), written_distance-mono (chord fixes from target.number) most.chord is.1)

-- the way by a fix is taken
pub lengthens-taken : (fixes : List Fix) (ways : List ℕ) (target : Target) (from way square far : ℕ) (old new : Longest) → from < length ways → 0 < way → way ≡ way_to ways from
    → Stands target.side from target.number → square ≡ chord fixes from target.number → far ≡ written_distance square → old.length ≤ way + far → new.length ≡ way + far → new.from ≡ from
    → new.way ≡ way → new.chord ≡ square → Lengthens fixes ways target (λ number. number ≡ from) old new
unfolding leg
lengthens-taken fixes ways target from way square far old new within some way_is stands square_is far_is order length_is from_is new_way new_square =
    let leg_is : far ≡ leg fixes from target.number = far_is ∙ ap written_distance square_is in
    let is_way : IsWay ways target from = record { within = within; some = omega arith; stands = stands } in
    let worth : new.length ≡ onward fixes ways target from = omega (arith, leg_is) in
    record {
      longer = omega arith;
      known = omega (arith, ap written_distance new_square, far_is);
      found = λ floor is. record {
        within = omega arith;
        reached = λ more. subst (λ (n : ℕ). IsWay ways target n × (new.length ≡ onward fixes ways target n)) (sym from_is) (is_way, worth);
      };
      above = λ number is way_there. subst (λ (n : ℕ). onward fixes ways target n ≤ new.length) (sym is) (omega arith);
    }

-- the way by a fix is no longer than what was found
pub lengthens-beaten : (fixes : List Fix) (ways : List ℕ) (target : Target) (from way square : ℕ) (old : Longest) → IsKnown old → way ≡ way_to ways from → square ≡ chord fixes from target.number
    → (0 < way → way + written_distance square ≤ old.length) → Lengthens fixes ways target (λ number. number ≡ from) old old
unfolding leg
lengthens-beaten fixes ways target from way square old known way_is square_is beaten = lengthens-none fixes ways target (λ number. number ≡ from) old known
    (λ number is is_way.
    let some : 0 < way = omega (arith, is_way.some, ap (way_to ways) is, way_is) in
    let leg_is : written_distance square ≡ leg fixes from target.number = ap written_distance square_is in
    subst (λ (n : ℕ). onward fixes ways target n ≤ old.length) (sym is) (omega (arith, beaten some, leg_is, way_is)))

pub lengthens-kind : (fixes : List Fix) (ways : List ℕ) (target : Target) (kind one : ℕ → Type 0) (old new : Longest) → ((from : ℕ) → kind from → one from) → Lengthens fixes ways target one old new
    → Lengthens fixes ways target kind old new
lengthens-kind fixes ways target kind one old new each is = record {
  longer = is.longer;
  known = is.known;
  found = is.found;
  above = λ from is_kind way. is.above from (each from is_kind) way;
}

-- a fix that doesn't lie past another stands on its side
pub stood : (side : Side) (span of_ : ℕ × ℕ) (from to : ℕ) → span.0 ≡ from → span.1 ≡ from → of_.0 ≡ to → of_.1 ≡ to → (IsPast side span of_ → ⊥) → Stands side from to
stood Before span of_ from to lo hi first last not_past =
    ⊎_elim (λ (past : of_.1 < span.0). absurd (not_past past)) (λ (fits : span.0 ≤ of_.1). omega (arith, fits)) (cases_lt of_.1 span.0)
stood After span of_ from to lo hi first last not_past =
    ⊎_elim (λ (past : span.1 < of_.0). absurd (not_past past)) (λ (fits : of_.0 ≤ span.1). omega (arith, fits)) (cases_lt span.1 of_.0)

pub past-none : (side : Side) (span of_ : ℕ × ℕ) (from to : ℕ) → span.0 ≤ from → from ≤ span.1 → of_.0 ≡ to → of_.1 ≡ to → IsPast side span of_ → Stands side from to → ⊥
past-none Before span of_ from to lo hi first last past stands = omega (arith, past, stands)
past-none After span of_ from to lo hi first last past stands = omega (arith, past, stands)

-- no chord from a fix of a span of the order by place is greater than that of its hull
pub chord-by_place : (fixes : List Fix) (by_place : ByPlace) (span : ℕ × ℕ) (from : ℕ) (target : Target) (one other : Box) (most : ℕ) → IsByPlace fixes by_place → span.1 < length fixes
    → from < length fixes → IsThere by_place.numbers.items span from → IsTarget fixes target → one ≡ hull_of (fixes_in by_place.hulls span) → other ≡ point_box target.at
    → IsGreatestChord one other most → chord fixes from target.number ≤ most
chord-by_place fixes by_place span from target one other most is within below there is_target one_is other_is greatest =
    let f = named fixes from below in
    let long = hulls_long fixes by_place is in
    let at : slice_get by_place.hulls there.place ≡ Some f.0 = numbered_fix fixes by_place is there.place f.0 (omega (arith, long, there.inside.1, within)) (ap (slice_get fixes) there.is ∙ f.1) in
    let inside : IsInside one f.0.at = subst (λ (box : Box). IsInside box f.0.at) (sym one_is) (held by_place.hulls span there.place f.0 there.inside (omega (arith, long, within)) at).inside in
    let here : IsInside other target.at = subst (λ (box : Box). IsInside box target.at) (sym other_is) (point_box-inside target.at) in
    let less = greatest.greatest f.0.at target.at inside here in
    let same : chord fixes from target.number ≡ squared_chord f.0.at target.at = chord-is fixes from target.number f.0 is_target.fix f.1 is_target.there
    ∙ ap (squared_chord f.0.at) (sym is_target.at) in
    omega (arith, less, same)

-- each fix has its place in the span of all
pub all-there : (fixes : List Fix) (by_place : ByPlace) (span : ℕ × ℕ) (from : ℕ) → IsByPlace fixes by_place → span.0 ≡ 0 → span.1 + 1 ≡ length fixes → from < length fixes
    → IsThere by_place.numbers.items span from
all-there fixes by_place span from is first last below =
    let at = placed fixes by_place is from below in
    record {
      place = at.0;
      inside = (omega arith, omega (arith, at.1));
      within = omega (arith, at.1, numbers_long fixes by_place is);
      is = at.2;
    }

-- nothing is known of no leg
pub known-none : (floor : ℕ) → 0 + written_distance 0 ≤ floor
unfolding written_distance floor_root arc_over second_term_of third_term_of fourth_term_of
known-none floor = omega arith

below-none : (numbers : List ℕ) (from number : ℕ) → IsThereBelow numbers from from number → ⊥
below-none numbers from number there = omega (arith, there.low, there.high)

pub scan-init : (fixes : List Fix) (ways numbers : List ℕ) (target : Target) (from : ℕ) (old : Longest) → IsKnown old → Lengthens fixes ways target (IsThereBelow numbers from from) old old
scan-init fixes ways numbers target from old known = lengthens-none fixes ways target (IsThereBelow numbers from from) old known (λ number there way. absurd (below-none numbers from number there))

pub scan-next : (fixes : List Fix) (ways numbers : List ℕ) (target : Target) (from at number : ℕ) (old between new : Longest) → get_or numbers at 0 ≡ number
    → Lengthens fixes ways target (IsThereBelow numbers from at) old between → Lengthens fixes ways target (λ other. other ≡ number) between new
    → Lengthens fixes ways target (IsThereBelow numbers from (at + 1)) old new
scan-next fixes ways numbers target from at number old between new is first second =
    lengthens-parts fixes ways target (IsThereBelow numbers from (at + 1)) (IsThereBelow numbers from at) (λ other. other ≡ number) old between new
    (λ other there. ⊎_elim
    (λ (early : there.place < at). inl (record { place = there.place; low = there.low; high = early; within = there.within; is = there.is }))
    (λ (late : at ≤ there.place).
    let last : there.place ≡ at = omega (arith, there.high) in
    inr (sym there.is ∙ ap (λ (n : ℕ). get_or numbers n 0) last ∙ is))
    (cases_lt there.place at))
    first second

pub scan-all : (fixes : List Fix) (ways numbers : List ℕ) (target : Target) (span : ℕ × ℕ) (next : ℕ) (old new : Longest) → next ≡ span.1 + 1
    → Lengthens fixes ways target (IsThereBelow numbers span.0 next) old new → Lengthens fixes ways target (IsThere numbers span) old new
scan-all fixes ways numbers target span next old new is =
    lengthens-kind fixes ways target (IsThere numbers span) (IsThereBelow numbers span.0 next) old new
    (λ number there. record { place = there.place; low = there.inside.0; high = omega (arith, there.inside.1); within = there.within; is = there.is })

-- what is said of a branch of which nothing is known
pub branch-unknown : (fixes : List Fix) (by_place : ByPlace) (ways : List ℕ) (branch : Branch) → IsByPlace fixes by_place → length fixes ≤ 90000 → length ways ≡ length fixes
    → All (λ way. way ≤ 1099511627776) ways → branch.numbers.lo ≡ 0 → branch.numbers.hi ≡ 90000 → branch.most ≡ 1099511627776 → IsBranch by_place.numbers.items ways branch
branch-unknown fixes by_place ways branch is few long limited lo hi most number there =
    let below : number < length fixes = subst (λ (n : ℕ). n < length fixes) there.is (numbers_below fixes by_place is there.place 0 there.within) in
    (omega arith, omega (arith, below), omega (arith, limited number 0 (omega (arith, below))))

pub branches-unknown : (fixes : List Fix) (by_place : ByPlace) (ways : List ℕ) (branch : Branch) (count : ℕ) (branches : List Branch) → IsByPlace fixes by_place → length fixes ≤ 90000
    → length ways ≡ length fixes → All (λ way. way ≤ 1099511627776) ways → branch.numbers.lo ≡ 0 → branch.numbers.hi ≡ 90000 → branch.most ≡ 1099511627776 → branches ≡ replicate count branch
    → All (IsBranch by_place.numbers.items ways) branches
branches-unknown fixes by_place ways branch count branches is few long limited lo hi most all =
    subst (λ (bs : List Branch). All (IsBranch by_place.numbers.items ways) bs) (sym all)
    (All-replicate (IsBranch by_place.numbers.items ways) count branch (branch-unknown fixes by_place ways branch is few long limited lo hi most))

-- a table that is written back
pub branches-back : (numbers ways : List ℕ) (new rest : List Branch) (len : ℕ) → len ≡ length new → All (IsBranch numbers ways) new → All (IsBranch numbers ways) (take len (new ++ rest))
branches-back numbers ways new rest len is all =
    subst (λ (bs : List Branch). All (IsBranch numbers ways) bs) (sym (ap (λ (n : ℕ). take n (new ++ rest)) is ∙ take-append_seam new rest)) all
