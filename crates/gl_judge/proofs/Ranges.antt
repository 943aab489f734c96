-- The range of the judged fixes.
use Rattle.std.proofs.Common.{◌≡◌, ◌∙◌, sym, ap, refl, ℕ, zero, suc, ◌+◌, ◌-◌, ◌<◌, ◌≤◌, max, Bool, true, false, List, [], ◌∷◌, length, take, drop, get_or, Some, ℤ, pos, ◌≤ℤ◌, map, arith, inl, inr}
use Rattle.std.specs.Prelude.{IsTrue, slice_get, slice_range, int_le, int_lt}
use Rattle.std.proofs.lemmas.Bool.{cases_lt}
use Rattle.std.proofs.lemmas.Int.{ints}
use Rattle.std.proofs.lemmas.List.{get_or-drop, get_or-take, length-drop, length-take}
use Rattle.std.proofs.lemmas.Option.{get_or_from_slice_get, slice_get_read}
use Rattle.gl_igc.specs.declared.fix.Fix.{Fix}
use Rattle.gl_igc.specs.Seconds.{is_rising}
use Rattle.gl_airspace.specs.declared.volume.Volume.{Volume}
use Rattle.gl_judge.specs.JudgedFixes.{IsJudgedFix, IsJudgedRange, is_in_airspace}
use Rattle.gl_judge.proofs.Fronts.{front, front-at, front-before, front-within}
use Rattle.gl_judge.proofs.Order.{not_earlier}

-- items of a part of a list
part-length : (fixes : List Fix) (from end : ℕ) → from ≤ end → end ≤ length fixes → length (slice_range fixes from end) ≡ end - from
part-length fixes from end order within =
    let dropped : length (drop from fixes) ≡ length fixes - from = length-drop from fixes in
    omega (arith, length-take (end - from) (drop from fixes))

part-get : (fixes : List Fix) (from end k : ℕ) (fix : Fix) → from ≤ end → end ≤ length fixes → from + k < end → slice_get fixes (from + k) ≡ Some fix
    → slice_get (slice_range fixes from end) k ≡ Some fix
part-get fixes from end k fix order within before is =
    let same : get_or fixes (from + k) fix ≡ fix = get_or_from_slice_get fixes (from + k) fix fix is in
    let short : k < end - from = omega arith in
    let e : get_or (take (end - from) (drop from fixes)) k fix ≡ fix = get_or-take (end - from) (drop from fixes) k fix short ∙ get_or-drop from fixes k fix ∙ same in
    slice_get_read (slice_range fixes from end) (end - from) k fix (sym (part-length fixes from end order within)) short (sym e)

record At (fixes : List Fix) (k : ℕ) : Type 0 where
  fix : Fix
  is : slice_get fixes k ≡ Some fix

item_at : (fixes : List Fix) (k : ℕ) → k < length fixes → At fixes k
item_at [] k within = absurd (omega arith)
item_at (fix ∷ fixes) zero within = record { fix = fix; is = refl }
item_at (fix ∷ fixes) (suc k) within =
    let a : At fixes k = item_at fixes k (omega arith) in
    record { fix = a.fix; is = a.is }

abbrev of_day : Fix → Bool
of_day fix = int_le (pos 0) fix.second

abbrev too_late : ℤ → Fix → Bool
too_late closes fix = int_lt closes fix.second

is_of_day : (fix : Fix) → of_day fix ≡ true → pos 0 ≤ℤ fix.second
is_of_day fix h = grind (arith, ints)

is_before_day : (fix : Fix) → of_day fix ≡ false → pos 0 ≤ℤ fix.second → ⊥
is_before_day fix h le = grind (arith, ints)

is_too_late : (closes : ℤ) (fix : Fix) → too_late closes fix ≡ true → fix.second ≤ℤ closes → ⊥
is_too_late closes fix h le = grind (arith, ints)

is_in_time : (closes : ℤ) (fix : Fix) → too_late closes fix ≡ false → fix.second ≤ℤ closes
is_in_time closes fix h = grind (arith, ints)

-- the places that part the fixes
record Parts (closes : ℤ) (volumes : List Volume) (fixes : List Fix) (from end to : ℕ) : Type 0 where
  rising : IsTrue (is_rising (map (λ fix. fix.second) fixes))
  closes_of_day : pos 0 ≤ℤ closes
  from_is : from ≡ front of_day fixes
  end_is : end ≡ front (too_late closes) fixes
  to_is : to ≡ from + front (is_in_airspace volumes) (slice_range fixes from (max end from))

from-within : (closes : ℤ) (volumes : List Volume) (fixes : List Fix) (from end to : ℕ) → Parts closes volumes fixes from end to → from ≤ length fixes
from-within closes volumes fixes from end to p = omega (arith, p.from_is, front-within of_day fixes)

end-within : (closes : ℤ) (volumes : List Volume) (fixes : List Fix) (from end to : ℕ) → Parts closes volumes fixes from end to → max end from ≤ length fixes
end-within closes volumes fixes from end to p = omega (arith, p.end_is, front-within (too_late closes) fixes, from-within closes volumes fixes from end to p)

to-within : (closes : ℤ) (volumes : List Volume) (fixes : List Fix) (from end to : ℕ) → Parts closes volumes fixes from end to → to ≤ max end from
to-within closes volumes fixes from end to p =
    let within : front (is_in_airspace volumes) (slice_range fixes from (max end from)) ≤ length (slice_range fixes from (max end from)) =
    front-within (is_in_airspace volumes) (slice_range fixes from (max end from)) in
    let count : length (slice_range fixes from (max end from)) ≡ max end from - from = part-length fixes from (max end from) (omega arith) (end-within closes volumes fixes from end to p) in
    omega (arith, p.to_is)

-- a fix with second 0 or more isn't before the first
of_day-from : (closes : ℤ) (volumes : List Volume) (fixes : List Fix) (from end to j : ℕ) (fix : Fix) → Parts closes volumes fixes from end to → slice_get fixes j ≡ Some fix → pos 0 ≤ℤ fix.second
    → from ≤ j
of_day-from closes volumes fixes from end to j fix p is of =
    elim (cases_lt j from) as (λ _. from ≤ j) [
      | inl lt ↦ absurd (is_before_day fix (front-before of_day fixes j fix is (omega (arith, p.from_is))) of)
      | inr le ↦ le
    ]

each-judged : (closes : ℤ) (volumes : List Volume) (fixes : List Fix) (from end to i : ℕ) → Parts closes volumes fixes from end to → from ≤ i → i < to → IsJudgedFix closes volumes fixes i
each-judged closes volumes fixes from end to i p after before =
    let within : max end from ≤ length fixes = end-within closes volumes fixes from end to p in
    let last : to ≤ max end from = to-within closes volumes fixes from end to p in
    let first : At fixes from = item_at fixes from (omega arith) in
    record {
      there = omega arith;
      begun = (from, first.fix, after, first.is, is_of_day first.fix (front-at of_day fixes from first.fix first.is p.from_is));
      in_time = λ j fix le is. is_in_time closes fix (front-before (too_late closes) fixes j fix is (omega (arith, p.end_is)));
      outside = λ j fix le is of.
          let from_day : from ≤ j = of_day-from closes volumes fixes from end to j fix p is of in
          let place : from + (j - from) ≡ j = omega arith in
          let at : slice_get fixes (from + (j - from)) ≡ Some fix = ap (slice_get fixes) place ∙ is in
          let in_part : slice_get (slice_range fixes from (max end from)) (j - from) ≡ Some fix = part-get fixes from (max end from) (j - from) fix (omega arith) within (omega arith) at in
          front-before (is_in_airspace volumes) (slice_range fixes from (max end from)) (j - from) fix in_part (omega (arith, p.to_is));
    }

-- no fix from the end of the range on is judged
cut-off : (closes : ℤ) (volumes : List Volume) (fixes : List Fix) (from end to i : ℕ) → Parts closes volumes fixes from end to → IsJudgedFix closes volumes fixes i → to < max end from → to ≤ i → ⊥
cut-off closes volumes fixes from end to i p h inner past =
    let within : max end from ≤ length fixes = end-within closes volumes fixes from end to p in
    let n : to - from ≡ front (is_in_airspace volumes) (slice_range fixes from (max end from)) = omega (arith, p.to_is) in
    let here : At fixes to = item_at fixes to (omega arith) in
    let first : At fixes from = item_at fixes from (omega (arith, p.to_is)) in
    let of : pos 0 ≤ℤ first.fix.second = is_of_day first.fix (front-at of_day fixes from first.fix first.is p.from_is) in
    let later : first.fix.second ≤ℤ here.fix.second = not_earlier fixes from to first.fix here.fix p.rising (omega (arith, p.to_is)) first.is here.is in
    let place : from + (to - from) ≡ to = omega (arith, p.to_is) in
    let at : slice_get fixes (from + (to - from)) ≡ Some here.fix = ap (slice_get fixes) place ∙ here.is in
    let in_part : slice_get (slice_range fixes from (max end from)) (to - from) ≡ Some here.fix = part-get fixes from (max end from) (to - from) here.fix (omega arith) within (omega arith) at in
    let inside : is_in_airspace volumes here.fix ≡ true = front-at (is_in_airspace volumes) (slice_range fixes from (max end from)) (to - from) here.fix in_part n in
    let outside : is_in_airspace volumes here.fix ≡ false = h.outside to here.fix past here.is (omega (arith, ints)) in
    cc

late : (closes : ℤ) (volumes : List Volume) (fixes : List Fix) (from end to i : ℕ) → Parts closes volumes fixes from end to → IsJudgedFix closes volumes fixes i → end < length fixes → end ≤ i → ⊥
late closes volumes fixes from end to i p h inner past =
    let here : At fixes end = item_at fixes end inner in
    is_too_late closes here.fix (front-at (too_late closes) fixes end here.fix here.is p.end_is) (h.in_time end here.fix past here.is)

closed : (closes : ℤ) (volumes : List Volume) (fixes : List Fix) (from end to i : ℕ) → Parts closes volumes fixes from end to → IsJudgedFix closes volumes fixes i → max end from ≤ i → ⊥
closed closes volumes fixes from end to i p h past =
    elim (cases_lt end (length fixes)) as (λ _. ⊥) [
      | inl inner ↦ late closes volumes fixes from end to i p h inner (omega arith)
      | inr whole ↦ absurd (omega (arith, h.there))
    ]

pub range-is : (closes : ℤ) (volumes : List Volume) (fixes : List Fix) (from end to : ℕ) → IsTrue (is_rising (map (λ fix. fix.second) fixes)) → pos 0 ≤ℤ closes → from ≡ front of_day fixes
    → end ≡ front (too_late closes) fixes → to ≡ from + front (is_in_airspace volumes) (slice_range fixes from (max end from))
    → IsJudgedRange closes volumes fixes (record { from = from; to = to })
range-is closes volumes fixes from end to rising of_day_closes from_is end_is to_is =
    let p : Parts closes volumes fixes from end to = record { rising = rising; closes_of_day = of_day_closes; from_is = from_is; end_is = end_is; to_is = to_is } in
    record {
      ordered = omega arith;
      within = omega (arith, to-within closes volumes fixes from end to p, end-within closes volumes fixes from end to p);
      each = λ i w. each-judged closes volumes fixes from end to i p w.0 w.1;
      all = λ i h.
          let began : from ≤ h.begun.0 = of_day-from closes volumes fixes from end to h.begun.0 h.begun.1 p h.begun.3 h.begun.4 in
          let upto : h.begun.0 ≤ i = h.begun.2 in (
            omega arith,
            elim (cases_lt i to) as (λ _. i < to) [
              | inl lt ↦ lt
              | inr past ↦ (elim (cases_lt to (max end from)) as (λ _. i < to) [
                | inl inner ↦ absurd (cut-off closes volumes fixes from end to i p h inner past)
                | inr whole ↦ absurd (closed closes volumes fixes from end to i p h (omega arith))
              ])
            ],
          );
    }
