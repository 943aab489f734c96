-- The reach from a place, by that of the place before it.
use Rattle.std.proofs.Common.{◌≡◌, ◌∙◌, ap, sym, subst, ℕ, ◌+◌, ◌-◌, ◌*◌, ◌<◌, ◌≤◌, max, List, [], ◌∷◌, ◌++◌, length, get_or, below_more, Option, None, Some, slice_get, ⊎_elim, ℤ, ◌-ℤ◌, arith}
use Rattle.std.specs.Prelude.{MatchOption, unsigned_abs, unwrap_or}
use Rattle.std.proofs.lemmas.Bool.{cases_lt}
use Rattle.std.proofs.lemmas.Int.{ints}
use Rattle.std.proofs.lemmas.Option.{get_or_from_slice_get, slice_get_within}
use Rattle.std.proofs.Math.ListN.{get_or-append}
use Rattle.std.proofs.Math.Seq.{get_or-append_seam}
use Rattle.gl_sphere.specs.declared.place.Vec3.{Vec3}
use Rattle.gl_sphere.specs.Distance.{arc_over, floor_root, fourth_term_of, second_term_of, squared_chord, squared_gap, third_term_of, written_distance, distance}
use Rattle.gl_igc.specs.declared.fix.Fix.{Fix}
use Rattle.gl_goal.specs.Box.{Box, IsInside, fixes_in, hull_of}
use Rattle.gl_goal.specs.Lemmas.Held.{hull_of-holds, named}
use Rattle.gl_goal.specs.Near.{IsLastNear, IsLastNearBox, IsNear, IsNearBox, IsNoneNear, IsNoneNearBox}
use Rattle.gl_goal.specs.Reach.{Closes, IsReach}
use Rattle.gl_goal.specs.Code.Round.{IsNoneBehind}
use Rattle.gl_goal.proofs.Reaches.{Closes-mono}

squared_gap-self : (a : ℤ) → squared_gap a a ≡ 0
unfolding squared_gap
squared_gap-self a =
    let none : unsigned_abs (a -ℤ a) ≡ 0 = omega (arith, ints) in
    ap (λ n. n * n) none

squared_chord-self : (p : Vec3) → squared_chord p p ≡ 0
unfolding squared_chord
squared_chord-self p =
    let x = squared_gap-self p.x in
    let y = squared_gap-self p.y in
    let z = squared_gap-self p.z in
    omega arith

distance-self : (p : Vec3) → distance p p ≡ 0
unfolding written_distance floor_root arc_over second_term_of third_term_of fourth_term_of
distance-self p = ap written_distance (squared_chord-self p)

-- a flight closes from a place to itself
own-closes : (fixes : List Fix) (closing place : ℕ) → place < length fixes → Closes fixes closing place place
own-closes fixes closing place within =
    let fix = named fixes place within in
    record {
      from = place;
      to = place;
      start = fix.0;
      finish = fix.0;
      start_is = fix.1;
      finish_is = fix.1;
      from_in = omega arith;
      to_in = omega arith;
      near = omega (arith, distance-self fix.0.at);
    }

-- a flight closes to this place, and to none after it from earlier places
pub record IsLeastReach (fixes : List Fix) (closing place least : ℕ) : Type 0 where
  pub own : place ≤ least
  pub within : least < length fixes
  pub closes : Closes fixes closing place least
  pub earlier : (c : ℕ) (found : Closes fixes closing place c) → found.from < place → c ≤ least

least-before : (fixes : List Fix) (closing place reach least : ℕ) → place < length fixes → IsReach fixes closing (place - 1) reach → least ≡ max reach place → IsLeastReach fixes closing place least
least-before fixes closing place reach least within is least_is = record {
  own = omega arith;
  within = omega (arith, is.within);
  closes = ⊎_elim
      (λ (lt : place < reach). Closes-mono fixes closing (place - 1) place reach least (omega arith) (omega arith) is.closes)
      (λ (ge : reach ≤ place). Closes-mono fixes closing place place place least (omega arith) (omega arith) (own-closes fixes closing place within))
      (cases_lt place reach);
  earlier = λ c found before.
      let sooner : Closes fixes closing (place - 1) c = record {
        from = found.from;
        to = found.to;
        start = found.start;
        finish = found.finish;
        start_is = found.start_is;
        finish_is = found.finish_is;
        from_in = omega (arith, before);
        to_in = found.to_in;
        near = found.near;
      } in
      omega (arith, is.greatest c sooner);
}

pub least-reach : (fixes : List Fix) (closing place least : ℕ) (before : Option ℕ) → place < length fixes → MatchOption before (place ≡ 0) (IsReach fixes closing (place - 1))
    → least ≡ max (unwrap_or before 0) place → IsLeastReach fixes closing place least
least-reach fixes closing place least None within first least_is = record {
  own = omega arith;
  within = omega arith;
  closes = Closes-mono fixes closing place place place least (omega arith) (omega arith) (own-closes fixes closing place within);
  earlier = λ c found before. absurd (omega (arith, before, first));
}
least-reach fixes closing place least (Some reach) within is least_is =
    least-before fixes closing place reach least within is least_is

-- what closes beyond the least reach is near the fix at the place itself
own-near : (fixes : List Fix) (closing place least c : ℕ) (fix : Fix) → slice_get fixes place ≡ Some fix → IsLeastReach fixes closing place least → least < c → (found : Closes fixes closing place c)
    → IsNear fixes fix.at closing found.to
own-near fixes closing place least c fix there is beyond found =
    let at_place : found.from ≡ place =
    ⊎_elim
    (λ (before : found.from < place). absurd (omega (arith, is.earlier c found before)))
    (λ (after : place ≤ found.from). omega (arith, found.from_in))
    (cases_lt found.from place) in
    let same : found.start ≡ fix = sym (get_or_from_slice_get fixes found.from found.start fix found.start_is) ∙ ap (λ n. get_or fixes n fix) at_place
    ∙ get_or_from_slice_get fixes place fix fix there in
    let P : Fix → Type 0 = λ f. distance f.at found.finish.at ≤ closing in
    record { fix = found.finish; there = found.finish_is; near = subst P same found.near }

-- where no fix behind an end is near, and none up to it, there is no farther reach
reach-none : (fixes : List Fix) (closing place least end : ℕ) (fix : Fix) → slice_get fixes place ≡ Some fix → IsNoneBehind fixes closing end place → IsLeastReach fixes closing place least
    → IsNoneNear fixes fix.at closing (least + 1, end) → IsReach fixes closing place least
reach-none fixes closing place least end fix there behind is none = record {
  within = is.within;
  closes = is.closes;
  greatest = λ c found.
      ⊎_elim
      (λ (beyond : least < c).
      let near = own-near fixes closing place least c fix there is beyond found in
      ⊎_elim
      (λ (after : end < found.to). absurd (behind fix there found.to after near))
      (λ (up_to : found.to ≤ end). absurd (none found.to (omega (arith, beyond, found.to_in), up_to) near))
      (cases_lt end found.to))
      (λ (within : c ≤ least). within)
      (cases_lt least c);
}

-- nothing is beyond the least reach where the end isn't
pub reach-least : (fixes : List Fix) (closing place least end : ℕ) → place < length fixes → IsNoneBehind fixes closing end place → end ≤ least → IsLeastReach fixes closing place least
    → IsReach fixes closing place least
reach-least fixes closing place least end within behind short is =
    let fix = named fixes place within in
    reach-none fixes closing place least end fix.0 fix.1 behind is (λ beyond inside near. absurd (omega (arith, short, inside.0, inside.1)))

reach-some : (fixes : List Fix) (closing place least end reach : ℕ) (fix : Fix) → slice_get fixes place ≡ Some fix → end < length fixes → IsNoneBehind fixes closing end place
    → IsLeastReach fixes closing place least → IsLastNear fixes fix.at closing (least + 1, end) reach → IsReach fixes closing place reach
reach-some fixes closing place least end reach fix there within behind is near = record {
  within = omega (arith, near.within.1);
  closes = record {
    from = place;
    to = reach;
    start = fix;
    finish = near.near.fix;
    start_is = there;
    finish_is = near.near.there;
    from_in = omega arith;
    to_in = omega arith;
    near = near.near.near;
  };
  greatest = λ c found.
      ⊎_elim
      (λ (beyond : reach < c).
      let found_near = own-near fixes closing place least c fix there is (omega (arith, beyond, near.within.0)) found in
      ⊎_elim
      (λ (after : end < found.to). absurd (behind fix there found.to after found_near))
      (λ (up_to : found.to ≤ end). absurd (near.last found.to (omega (arith, beyond, found.to_in)) up_to found_near))
      (cases_lt end found.to))
      (λ (within : c ≤ reach). within)
      (cases_lt reach c);
}

pub reach-found : (fixes : List Fix) (closing place least end : ℕ) (fix : Fix) (found : Option ℕ) → slice_get fixes place ≡ Some fix → end < length fixes → IsNoneBehind fixes closing end place
    → IsLeastReach fixes closing place least → MatchOption found (IsNoneNear fixes fix.at closing (least + 1, end)) (IsLastNear fixes fix.at closing (least + 1, end))
    → IsReach fixes closing place (unwrap_or found least)
reach-found fixes closing place least end fix None there within behind is none =
    reach-none fixes closing place least end fix there behind is none
reach-found fixes closing place least end fix (Some reach) there within behind is near =
    reach-some fixes closing place least end reach fix there within behind is near

-- what is near a fix of a stretch is near the hull of the stretch
stretch-near : (fixes : List Fix) (closing lo hi place later : ℕ) (box : Box) (fix : Fix) → box ≡ hull_of (fixes_in fixes (lo, hi)) → hi < length fixes → lo ≤ place → place ≤ hi
    → slice_get fixes place ≡ Some fix → IsNear fixes fix.at closing later → IsNearBox fixes box closing later
stretch-near fixes closing lo hi place later box fix is within low high there near =
    let held = hull_of-holds fixes (lo, hi) place fix low high within (get_or_from_slice_get fixes place fix fix there) in
    let P : Box → Type 0 = λ b. IsInside b fix.at in
    record { point = fix.at; inside = subst P (sym is) held.inside; near = near }

-- nothing is behind the last place
pub none_behind-last : (fixes : List Fix) (closing last place : ℕ) → last + 1 ≡ length fixes → IsNoneBehind fixes closing last place
none_behind-last fixes closing last place is_last fix there later after near =
    absurd (omega (arith, after, slice_get_within fixes later near.fix near.there))

-- behind the last place whose fix is near the hull of a stretch, none is near a fix of the stretch
pub none_behind-found : (fixes : List Fix) (closing lo hi last : ℕ) (box : Box) (found : Option ℕ) → box ≡ hull_of (fixes_in fixes (lo, hi)) → hi < last → last + 1 ≡ length fixes
    → MatchOption found (IsNoneNearBox fixes box closing (hi + 1, last)) (IsLastNearBox fixes box closing (hi + 1, last)) → (place : ℕ) → lo ≤ place → place ≤ hi
    → IsNoneBehind fixes closing (unwrap_or found hi) place
none_behind-found fixes closing lo hi last box None is before is_last none = λ place low high fix there later after near.
    none later (omega (arith, after), omega (arith, is_last, slice_get_within fixes later near.fix near.there))
    (stretch-near fixes closing lo hi place later box fix is (omega arith) low high there near)
none_behind-found fixes closing lo hi last box (Some end) is before is_last found = λ place low high fix there later after near.
    found.last later after (omega (arith, is_last, slice_get_within fixes later near.fix near.there)) (stretch-near fixes closing lo hi place later box fix is (omega arith) low high there near)

-- the place that was found is one of the list
pub found-within : (fixes : List Fix) (closing hi last : ℕ) (box : Box) (found : Option ℕ) → hi < last → last + 1 ≡ length fixes
    → MatchOption found (IsNoneNearBox fixes box closing (hi + 1, last)) (IsLastNearBox fixes box closing (hi + 1, last)) → unwrap_or found hi < length fixes
found-within fixes closing hi last box None before is_last none = omega (arith, before, is_last)
found-within fixes closing hi last box (Some end) before is_last found =
    omega (arith, found.within.1, is_last)

-- what was known of the places up to the next stretch, under other names
pub none_behind-same : (fixes : List Fix) (closing place was_next was_end next end : ℕ) → next ≡ was_next → end ≡ was_end → ((k : ℕ) → place ≤ k → k < was_next → IsNoneBehind fixes closing was_end k)
    → (k : ℕ) → place ≤ k → k < next → IsNoneBehind fixes closing end k
none_behind-same fixes closing place was_next was_end next end next_is end_is known k low below =
    let P : ℕ → Type 0 = λ n. IsNoneBehind fixes closing n k in
    subst P (sym end_is) (known k low (omega (arith, below)))

-- one more place, and its reach
pub reaches_more : (fixes : List Fix) (closing place reach : ℕ) (reaches more : List ℕ) → more ≡ reaches ++ reach ∷ [] → length reaches ≡ place
    → ((k : ℕ) → k < place → IsReach fixes closing k (get_or reaches k 0)) → IsReach fixes closing place reach → (k : ℕ) → k < place + 1 → IsReach fixes closing k (get_or more k 0)
reaches_more fixes closing place reach reaches more pushed sized each is =
    let P : ℕ → Type 0 = λ k. IsReach fixes closing k (get_or more k 0) in
    let there : get_or more place 0 ≡ reach = (λ i. get_or (pushed i) (sym sized i) 0) ∙ get_or-append_seam reaches reach [] 0 in
    let Q : ℕ → Type 0 = IsReach fixes closing place in
    below_more P place
    (λ k below. let R : ℕ → Type 0 = IsReach fixes closing k in subst R (sym (ap (λ xs. get_or xs k 0) pushed ∙ get_or-append reaches (reach ∷ []) 0 k (omega arith))) (each k below))
    (subst Q (sym there) is)
