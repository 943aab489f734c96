-- The farthest ends by place, and the longest arms to a middle fix.
use Rattle.std.proofs.Common.{◌≡◌, ◌∙◌, ap, sym, subst, ℕ, suc, ◌+◌, ◌-◌, ◌<◌, ◌≤◌, ◌≤ℤ◌, ⊎_elim, List, [], ◌∷◌, ◌++◌, length, length-append, get_or, Option, None, Some, slice_get, ℤ, ◌-ℤ◌, ◌<ℤ◌, MatchOption, arith}
use Rattle.std.specs.Prelude.{All}
use Rattle.std.proofs.lemmas.Bool.{cases_lt}
use Rattle.std.proofs.lemmas.List.{get_or_default}
use Rattle.std.proofs.Math.ListN.{get_or-append}
use Rattle.std.proofs.Math.Seq.{get_or-append_seam}
use Rattle.gl_igc.specs.declared.fix.Fix.{Fix}
use Rattle.gl_places.specs.declared.by_place.ByPlace.{ByPlace}
use Rattle.gl_free.specs.declared.arm.Arm.{Arm}
use Rattle.gl_free.specs.declared.arm.Arms.{Arms}
use Rattle.gl_free.specs.declared.ends.Ends.{Ends}
use Rattle.gl_free.specs.declared.ends.Sides.{Sides}
use Rattle.gl_free.specs.declared.far.Far.{Far}
use Rattle.gl_free.specs.declared.half.Half.{Half}
use Rattle.gl_free.specs.declared.pair.Pair.{Pair}
use Rattle.gl_free.specs.declared.side.Side.{Side}
use Rattle.gl_free.specs.declared.way.Longest.{Longest}
use Rattle.gl_free.specs.declared.way.Target.{Target}
use Rattle.gl_free.specs.Code.Arms.{IsArm, arm_length}
use Rattle.gl_free.specs.Code.Choices.{IsLow}
use Rattle.gl_free.specs.Code.Ends.{IsAllowed, Stands}
use Rattle.gl_free.specs.Code.Farthest.{IsFarthest}
use Rattle.gl_free.specs.Code.Halves.{AreEnds, AreFarthest, AreLongest, AreWaysBy, IsHalf, IsLongestArm}
use Rattle.gl_free.specs.Code.Places.{altitude_at, leg}
use Rattle.gl_free.specs.Code.Search.{IsBetter, IsOver}
use Rattle.gl_free.specs.Code.Ways.{IsFound, IsWay, onward, way_to}
use Rattle.gl_free.proofs.PlaceLemmas.{altitude-is, leg-limited}
use Rattle.gl_free.proofs.SearchLemmas.{better-wider}

-- what stands at a place of a list with one more at its end
pushed-elim : {X : Type 0} → (P : ℕ → X → Type 0) (xs : List X) (x d : X) (k : ℕ) → k < length (xs ++ x ∷ []) → (k < length xs → P k (get_or xs k d)) → (k ≡ length xs → P k x)
    → P k (get_or (xs ++ x ∷ []) k d)
pushed-elim P xs x d k below early late = ⊎_elim
    (λ (less : k < length xs). subst (P k) (sym (get_or-append xs (x ∷ []) d k less)) (early less))
    (λ (more : length xs ≤ k).
    let last : k ≡ length xs = omega (arith, below, length-append xs (x ∷ [])) in
    subst (P k) (sym (ap (λ (n : ℕ). get_or (xs ++ x ∷ []) n d) last ∙ get_or-append_seam xs x [] d)) (late last))
    (cases_lt k (length xs))

pub ends-pushed : (fixes : List Fix) (allowed : Ends) (ways : List ℕ) (fix : Fix) (way : ℕ) → AreEnds fixes allowed ways → slice_get fixes (length ways) ≡ Some fix → length ways < length fixes
    → way ≤ 1 → (0 < way → (allowed.lowest ≤ℤ fix.alt) × (fix.alt ≤ℤ allowed.highest)) → (allowed.lowest ≤ℤ fix.alt → fix.alt ≤ℤ allowed.highest → way ≡ 1) → AreEnds fixes allowed (ways ++ way ∷ [])
ends-pushed fixes allowed ways fix way is there within small is_allowed all =
    let altitude = altitude-is fixes (length ways) fix there in
    record {
      at_most = λ number below. pushed-elim (λ n w. w ≤ 1) ways way 0 number below (is.at_most number) (λ last. small);
      is_allowed = λ number below. pushed-elim (λ n w. 0 < w → IsAllowed fixes allowed n) ways way 0 number below (is.is_allowed number)
          (λ last some. subst (IsAllowed fixes allowed) (sym last) (record {
            within = within;
            not_lower = subst (λ z. allowed.lowest ≤ℤ z) (sym altitude) (is_allowed some).0;
            not_higher = subst (λ z. z ≤ℤ allowed.highest) (sym altitude) (is_allowed some).1;
          }));
      all = λ number below. pushed-elim (λ n w. IsAllowed fixes allowed n → w ≡ 1) ways way 0 number below (is.all number)
          (λ last end.
          let here = subst (IsAllowed fixes allowed) last end in
          all (subst (λ z. allowed.lowest ≤ℤ z) altitude here.not_lower) (subst (λ z. z ≤ℤ allowed.highest) altitude here.not_higher));
    }

pub farthest-pushed : (fixes : List Fix) (allowed : Ends) (ends : List Far) (far : Far) → AreFarthest fixes allowed ends → IsFarthest fixes allowed (length ends, length ends) far
    → AreFarthest fixes allowed (ends ++ far ∷ [])
farthest-pushed fixes allowed ends far are is number d below =
    pushed-elim (λ n f. IsFarthest fixes allowed (n, n) f) ends far d number below (are number d)
    (λ last. subst (λ (n : ℕ). IsFarthest fixes allowed (n, n) far) (sym last) is)

-- the longest way of one leg to a fix is from its farthest end
pub found-farthest : (fixes : List Fix) (allowed : Ends) (ways : List ℕ) (target : Target) (found : Longest) (number : ℕ) → AreEnds fixes allowed ways → length ways ≡ length fixes
    → target.number ≡ number → target.side ≡ allowed.side → IsFound fixes ways target 0 found → ((from : ℕ) → IsWay ways target from → onward fixes ways target from ≤ found.length)
    → IsFarthest fixes allowed (number, number) (record { value = found.length; place = found.from })
found-farthest fixes allowed ways target found number ends long number_is side_is is above =
    let one : (0 < found.length) → way_to ways found.from ≡ 1 = λ some. omega (arith, ends.at_most found.from is.within, (is.reached some).0.some) in
    let far : (0 < found.length) → found.length ≡ suc (leg fixes found.from number) = λ some. omega (arith, one some, (is.reached some).1, ap (leg fixes found.from) number_is) in
    record {
      above = λ end inner in_of is_end.
          let here : inner ≡ target.number = omega (arith, in_of.0, in_of.1, number_is) in
          let within : end < length ways = omega (arith, is_end.allowed.within, long) in
          let worth = ends.all end within is_end.allowed in
          let stands : Stands target.side end target.number = subst (λ (s : Side). Stands s end target.number) (sym side_is) (subst (Stands allowed.side end) here is_end.stands) in
          omega (arith, above end (record { within = within; some = omega (arith, worth); stands = stands }), worth, ap (leg fixes end) here);
      reached = λ single some.
          let reached = is.reached some in (
            record {
              allowed = ends.is_allowed found.from is.within reached.0.some;
              stands = subst (λ (s : Side). Stands s found.from number) side_is (subst (Stands target.side found.from) number_is reached.0.stands);
            },
            far some,
          );
      limited = ⊎_elim
          (λ (some : 0 < found.length). omega (arith, far some, leg-limited fixes found.from number))
          (λ (none : found.length ≤ 0). omega (arith, none))
          (cases_lt 0 found.length);
    }

-- an arm is shorter than the longest way to the middle
pub arm-shorter : (fixes : List Fix) (by_place : ByPlace) (half : Half) (target : Target) (middle most : ℕ) → IsHalf fixes by_place half → target.number ≡ middle → target.side ≡ half.allowed.side
    → ((from : ℕ) → IsWay half.tree.ways.items target from → onward fixes half.tree.ways.items target from ≤ most) → (inner end : ℕ) → IsArm fixes half.allowed middle inner end
    → arm_length fixes middle inner end < most
arm-shorter fixes by_place half target middle most is number_is side_is above inner end arm =
    let d : Far = record { value = 0; place = 0 } in
    let within : inner < length half.ends.items = omega (arith, arm.inner_in, is.long) in
    let inside : inner < length half.tree.ways.items = omega (arith, arm.inner_in, is.tree.long) in
    let far = is.farthest inner d within in
    let less = far.above end inner (omega arith, omega arith) arm.is_end in
    let way = is.ways inner d inside in
    let stands : Stands target.side inner target.number = subst (λ (s : Side). Stands s inner target.number) (sym side_is) (subst (Stands half.allowed.side inner) (sym number_is) arm.stands) in
    omega (arith, above inner (record { within = inside; some = omega (arith, less, way); stands = stands }), less, way, ap (leg fixes inner) number_is)

-- the longest way to the middle is an arm
pub found-arm : (fixes : List Fix) (by_place : ByPlace) (half : Half) (target : Target) (middle floor : ℕ) (found : Longest) (far : Far) → IsHalf fixes by_place half → target.number ≡ middle
    → target.side ≡ half.allowed.side → IsFound fixes half.tree.ways.items target floor found
    → ((from : ℕ) → IsWay half.tree.ways.items target from → onward fixes half.tree.ways.items target from ≤ found.length) → far ≡ get_or half.ends.items found.from far
    → IsLongestArm fixes half.allowed middle floor (record { most = found.length; inner = found.from; end = far.place })
found-arm fixes by_place half target middle floor found far is number_is side_is is_found above there = record {
  reached = λ more.
      let reached = is_found.reached more in
      let within : found.from < length half.ends.items = omega (arith, is_found.within, is.long, is.tree.long) in
      let farthest : IsFarthest fixes half.allowed (found.from, found.from) far = subst (IsFarthest fixes half.allowed (found.from, found.from)) (sym there) (is.farthest found.from far within) in
      let way : way_to half.tree.ways.items found.from ≡ far.value = is.ways found.from far is_found.within ∙ ap (λ (f : Far). f.value) (sym there) in
      let end = farthest.reached (λ i. found.from) (omega (arith, way, reached.0.some)) in
      let stands : Stands half.allowed.side found.from middle = subst (λ (s : Side). Stands s found.from middle) side_is (subst (Stands target.side found.from) number_is reached.0.stands) in (
        record { inner_in = omega (arith, within, is.long); is_end = end.0; stands = stands },
        omega (arith, reached.1, way, end.1, ap (leg fixes found.from) number_is),
      );
  shorter = arm-shorter fixes by_place half target middle found.length is number_is side_is above;
}

-- a better choice with a middle fix has two arms there
pub record ArmsAt (fixes : List Fix) (sides : Sides) (middle : ℕ) (found : ℕ) (better : IsBetter fixes sides (middle, middle) found) : Type 0 where
  pub third_is : better.third ≡ middle
  pub before : IsArm fixes sides.before middle better.second better.first
  pub after : IsArm fixes sides.after middle better.fourth better.last

pub arms-at : (fixes : List Fix) (sides : Sides) (middle found : ℕ) (better : IsBetter fixes sides (middle, middle) found) → ArmsAt fixes sides middle found better
arms-at fixes sides middle found better =
    let same : better.third ≡ middle = omega (arith, better.third_in.0, better.third_in.1) in
    record {
      third_is = same;
      before = subst (λ (n : ℕ). IsArm fixes sides.before n better.second better.first) same better.before;
      after = subst (λ (n : ℕ). IsArm fixes sides.after n better.fourth better.last) same better.after;
    }

-- no choice with an earlier middle fix is better
abbrev pub AreDone : List Fix → Sides → ℕ × ℕ → ℕ → ℕ → Type 0
AreDone fixes sides whole found middle = (better : IsBetter fixes sides whole found) → middle ≤ better.third

pub done-next : (fixes : List Fix) (sides : Sides) (whole : ℕ × ℕ) (found more middle : ℕ) → found ≤ more → AreDone fixes sides whole found middle → ¬ IsBetter fixes sides (middle, middle) more
    → AreDone fixes sides whole more (middle + 1)
done-next fixes sides whole found more middle order done none better =
    let from = done (better-wider fixes sides whole whole more found (λ place inside. inside) order better) in
    ⊎_elim
    (λ (later : middle < better.third). omega arith)
    (λ (here : better.third ≤ middle).
    absurd (none (record {
      first = better.first;
      second = better.second;
      third = better.third;
      fourth = better.fourth;
      last = better.last;
      third_in = (from, here);
      before = better.before;
      after = better.after;
      more = better.more;
    })))
    (cases_lt middle better.third)

pub none-longer : (fixes : List Fix) (sides : Sides) (middle found more : ℕ) (arms : Arms) → found ≤ more → AreLongest fixes sides middle found arms
    → arm_length fixes middle arms.before.inner arms.before.end + arm_length fixes middle arms.after.inner arms.after.end ≤ more → ¬ IsBetter fixes sides (middle, middle) more
none-longer fixes sides middle found more arms order longest less better =
    absurd (omega (arith, better.more, longest.longest (better-wider fixes sides (middle, middle) (middle, middle) more found (λ place inside. inside) order better), less))

-- the ways of the ends have no length
pub ends-limited : (fixes : List Fix) (allowed : Ends) (ways : List ℕ) → AreEnds fixes allowed ways → All (λ way. way ≤ 1099511627776) ways
ends-limited fixes allowed ways are number d below = omega (arith, are.at_most number below, get_or_default ways number d 0 below)

pub ways-limited : (fixes : List Fix) (allowed : Ends) (ends : List Far) (ways : List ℕ) → AreFarthest fixes allowed ends → AreWaysBy ends ways → length ways ≡ length ends
    → All (λ way. way ≤ 1099511627776) ways
ways-limited fixes allowed ends ways farthest by long number d below =
    let far : Far = record { value = 0; place = 0 } in
    omega (arith, (farthest number far (omega (arith, below, long))).limited, by number far below, get_or_default ways number d 0 below)

pub none-after : (fixes : List Fix) (sides : Sides) (allowed_before allowed_after : Ends) (middle found floor_before floor : ℕ) (before after : Arm) → allowed_before ≡ sides.before
    → allowed_after ≡ sides.after → IsLongestArm fixes allowed_before middle floor_before before → IsLongestArm fixes allowed_after middle floor after → floor ≡ found + 2 - before.most
    → after.most ≤ floor → ¬ IsBetter fixes sides (middle, middle) found
none-after fixes sides allowed_before allowed_after middle found floor_before floor before after before_is after_is longest_before longest floor_is short better =
    let at = arms-at fixes sides middle found better in
    let first = longest_before.shorter better.second better.first (subst (λ (e : Ends). IsArm fixes e middle better.second better.first) (sym before_is) at.before) in
    let last = longest.shorter better.fourth better.last (subst (λ (e : Ends). IsArm fixes e middle better.fourth better.last) (sym after_is) at.after) in
    let one : arm_length fixes better.third better.second better.first ≡ arm_length fixes middle better.second better.first =
    ap (λ (n : ℕ). arm_length fixes n better.second better.first) at.third_is in
    let two : arm_length fixes better.third better.fourth better.last ≡ arm_length fixes middle better.fourth better.last = ap (λ (n : ℕ). arm_length fixes n better.fourth better.last) at.third_is in
    absurd (omega (arith, first, last, one, two, better.more))

pub longest-both : (fixes : List Fix) (sides : Sides) (allowed_before allowed_after : Ends) (middle found floor_before floor : ℕ) (before after : Arm) → allowed_before ≡ sides.before
    → allowed_after ≡ sides.after → IsLongestArm fixes allowed_before middle floor_before before → IsLongestArm fixes allowed_after middle floor after → floor_before < before.most → floor < after.most
    → AreLongest fixes sides middle found (record { before = before; after = after })
longest-both fixes sides allowed_before allowed_after middle found floor_before floor before after before_is after_is longest_before longest some_before some_after =
    let one = longest_before.reached some_before in
    let two = longest.reached some_after in
    record {
      before = subst (λ (e : Ends). IsArm fixes e middle before.inner before.end) before_is one.0;
      after = subst (λ (e : Ends). IsArm fixes e middle after.inner after.end) after_is two.0;
      longest = λ better.
          let at = arms-at fixes sides middle found better in
          let first = longest_before.shorter better.second better.first (subst (λ (e : Ends). IsArm fixes e middle better.second better.first) (sym before_is) at.before) in
          let last = longest.shorter better.fourth better.last (subst (λ (e : Ends). IsArm fixes e middle better.fourth better.last) (sym after_is) at.after) in
          let third : arm_length fixes better.third better.second better.first ≡ arm_length fixes middle better.second better.first =
          ap (λ (n : ℕ). arm_length fixes n better.second better.first) at.third_is in
          let same : arm_length fixes better.third better.fourth better.last ≡ arm_length fixes middle better.fourth better.last =
          ap (λ (n : ℕ). arm_length fixes n better.fourth better.last) at.third_is in
          omega (arith, first, last, third, same, one.1, two.1);
    }

-- what was chosen at a middle fix
pub over-chosen : (fixes : List Fix) (sides : Sides) (middle : ℕ) (loss : ℤ) (found more : ℕ) (arms : Arms) (low : Option Pair) → found ≤ more → AreLongest fixes sides middle found arms
    → MatchOption low (arm_length fixes middle arms.before.inner arms.before.end + arm_length fixes middle arms.after.inner arms.after.end ≤ more) (IsLow fixes loss arms.before.end arms.after.end)
    → IsOver fixes sides (middle, middle) loss more low
over-chosen fixes sides middle loss found more arms None order longest chosen = none-longer fixes sides middle found more arms order longest chosen
over-chosen fixes sides middle loss found more arms (Some pair) order longest chosen = record {
  first = subst (λ (n : ℕ). IsAllowed fixes sides.before n) (sym chosen.first_is) longest.before.is_end.allowed;
  last = subst (λ (n : ℕ). IsAllowed fixes sides.after n) (sym chosen.last_is) longest.after.is_end.allowed;
  low = subst (λ (n : ℕ). loss <ℤ (altitude_at fixes n -ℤ altitude_at fixes pair.last)) (sym chosen.first_is)
      (subst (λ (n : ℕ). loss <ℤ (altitude_at fixes arms.before.end -ℤ altitude_at fixes n)) (sym chosen.last_is) chosen.low);
}

-- where all middle fixes are done, no choice is better
pub done-all : (fixes : List Fix) (sides : Sides) (found middle : ℕ) → 0 < length fixes → middle ≡ length fixes → AreDone fixes sides (0, length fixes - 1) found middle
    → ¬ IsBetter fixes sides (0, length fixes - 1) found
done-all fixes sides found middle some is done better = absurd (omega (arith, done better, better.third_in.1))
