-- The numbers of seats, after one seat gave or took some.
use Rattle.std.proofs.Common.{◌≡◌, ◌≢◌, ℕ, zero, suc, ◌+◌, ◌<◌, ◌≤◌, max, Bool, true, false, List, [], ◌∷◌, ◌++◌, length, set, eqb, eq-eqb, refl, sym, ap, ◌∙◌, subst, true≢false, arith}
use Rattle.std.proofs.lemmas.Bool.{eqb-true}
use mathlib.Core.Option.{some, some-ne-none, some-injective}
use mathlib.Core.Logic.{dite}
use native.Mathlib.Decide.{dec_le}
use lib.ListN.{get_elem?}
use Rattle.gl_best.specs.declared.rule.View.{View}
use Rattle.gl_best.specs.Rule.{once, times, times_in}
use Rattle.gl_best.specs.Steps.{greatest, unless_is, without}

pub times-append : (number : ℕ) (one other : List ℕ) → times number (one ++ other) ≡ times number one + times number other
times-append number [] other = omega arith
times-append number (first ∷ one) other = omega (arith, times-append number one other)

pub times_in-append : (number : ℕ) (views : List View) (last : View) → times_in number (views ++ last ∷ []) ≡ times_in number views + times number last.numbers
times_in-append number [] last = omega arith
times_in-append number (view ∷ views) last = omega (arith, times_in-append number views last)

once_same : (number : ℕ) → once (eqb number number) ≡ 1
once_same number = ap once (eq-eqb number number refl)

-- a list in which no number stands is empty
pub none_stand : (numbers : List ℕ) → ((number : ℕ) → times number numbers ≡ 0) → numbers ≡ []
none_stand [] none = refl
none_stand (number ∷ numbers) none = absurd (omega (arith, once_same number, none number))

-- the sum after one seat's view changed
pub times_in-set : (number : ℕ) (views : List View) (seat : ℕ) (before after : View) → get_elem? views seat ≡ some before
    → times_in number (set views seat after) + times number before.numbers ≡ times_in number views + times number after.numbers
times_in-set number [] seat before after at = absurd (some-ne-none before (sym at))
times_in-set number (view ∷ views) zero before after at =
    let same : times number view.numbers ≡ times number before.numbers = ap (λ (it : View). times number it.numbers) (some-injective view before at) in
    omega (arith, same)
times_in-set number (view ∷ views) (suc seat) before after at = omega (arith, times_in-set number views seat before after at)

-- a seat has no number more often than all seats have it
pub times_in-one : (number : ℕ) (views : List View) (seat : ℕ) (view : View) → get_elem? views seat ≡ some view → times number view.numbers ≤ times_in number views
times_in-one number [] seat view at = absurd (some-ne-none view (sym at))
times_in-one number (first ∷ views) zero view at =
    let same : times number first.numbers ≡ times number view.numbers = ap (λ (it : View). times number it.numbers) (some-injective first view at) in
    omega (arith, same)
times_in-one number (first ∷ views) (suc seat) view at = omega (arith, times_in-one number views seat view at)

-- nor do two seats
pub times_in-two : (number : ℕ) (views : List View) (one other : ℕ) (view another : View) → one ≢ other → get_elem? views one ≡ some view → get_elem? views other ≡ some another
    → times number view.numbers + times number another.numbers ≤ times_in number views
times_in-two number [] one other view another apart at there = absurd (some-ne-none view (sym at))
times_in-two number (first ∷ views) zero zero view another apart at there = absurd (apart refl)
times_in-two number (first ∷ views) zero (suc other) view another apart at there =
    let same : times number first.numbers ≡ times number view.numbers = ap (λ (it : View). times number it.numbers) (some-injective first view at) in
    omega (arith, same, times_in-one number views other another there)
times_in-two number (first ∷ views) (suc one) zero view another apart at there =
    let same : times number first.numbers ≡ times number another.numbers = ap (λ (it : View). times number it.numbers) (some-injective first another there) in
    omega (arith, same, times_in-one number views one view at)
times_in-two number (first ∷ views) (suc one) (suc other) view another apart at there =
    omega (arith, times_in-two number views one other view another (λ same. apart (ap suc same)) at there)

-- the first number of a list is in it
pub times-first : (number : ℕ) (numbers : List ℕ) → 0 < times number (number ∷ numbers)
times-first number numbers = omega (arith, once_same number)

-- the greater of two that isn't the first is the second
later_is : (one other : ℕ) → eqb (max one other) one ≡ false → max one other ≡ other
later_is one other isnt = dite (dec_le other one) (λ less. absurd (true≢false (sym (eq-eqb (max one other) one (omega arith)) ∙ isnt))) (λ more. omega arith)

greatest_later : (number : ℕ) (numbers : List ℕ) (is : Bool) → eqb (max number (greatest numbers)) number ≡ is → (is ≡ false → 0 < times (greatest numbers) numbers)
    → 0 < times (max number (greatest numbers)) (number ∷ numbers)
greatest_later number numbers true is later = omega (arith, ap once is)
greatest_later number numbers false is later =
    let same = later_is number (greatest numbers) is in
    let there : 0 < times (max number (greatest numbers)) numbers = subst (λ (it : ℕ). 0 < times it numbers) (sym same) (later refl) in
    omega (arith, there)

-- the greatest number of a list that isn't empty is in it
pub times-greatest : (numbers : List ℕ) → 0 < length numbers → 0 < times (greatest numbers) numbers
times-greatest [] some_ = absurd (omega arith)
times-greatest (number ∷ []) some_ = subst (λ (it : ℕ). 0 < times it (number ∷ [])) (omega arith) (times-first number [])
times-greatest (number ∷ next ∷ numbers) some_ =
    greatest_later number (next ∷ numbers) _ refl (λ _. times-greatest (next ∷ numbers) (omega arith))

without_later : (number gone first : ℕ) (numbers : List ℕ) (is : Bool) → eqb gone first ≡ is → 0 < times gone (first ∷ numbers)
    → (0 < times gone numbers → times number (without gone numbers) + times number (gone ∷ []) ≡ times number numbers)
    → times number (unless_is is first numbers (without gone numbers)) + times number (gone ∷ []) ≡ times number (first ∷ numbers)
without_later number gone first numbers true is has later =
    let same : once (eqb number first) ≡ once (eqb number gone) = ap (λ (it : ℕ). once (eqb number it)) (sym (eqb-true gone first is)) in
    omega (arith, same)
without_later number gone first numbers false is has later =
    let there : 0 < times gone numbers = omega (arith, ap once is) in
    omega (arith, later there)

-- a list without a number that is in it
pub times-without : (number gone : ℕ) (numbers : List ℕ) → 0 < times gone numbers → times number (without gone numbers) + times number (gone ∷ []) ≡ times number numbers
times-without number gone [] has = absurd (omega arith)
times-without number gone (first ∷ numbers) has =
    without_later number gone first numbers _ refl has (λ there. times-without number gone numbers there)

-- a list of two numbers and more without one isn't empty
pub without-some : (gone : ℕ) (numbers : List ℕ) → 2 ≤ length numbers → without gone numbers ≡ [] → ⊥
without-some gone [] two none = omega arith
without-some gone (one ∷ []) two none = omega arith
without-some gone (one ∷ two ∷ numbers) more none = by_one (eqb gone one) (eqb gone two) none
  where
    by_one : (is also : Bool) → unless_is is one (two ∷ numbers) (unless_is also two numbers (without gone numbers)) ≡ [] → ⊥
    by_one true also empty = absurd (cc)
    by_one false also empty = absurd (cc)

without_fewer : (gone first : ℕ) (numbers : List ℕ) (is : Bool) → eqb gone first ≡ is → 0 < times gone (first ∷ numbers) → (0 < times gone numbers → length (without gone numbers) + 1 ≡ length numbers)
    → length (unless_is is first numbers (without gone numbers)) + 1 ≡ length (first ∷ numbers)
without_fewer gone first numbers true is has later = omega arith
without_fewer gone first numbers false is has later =
    let there : 0 < times gone numbers = omega (arith, ap once is) in
    omega (arith, later there)

-- a list without a number that is in it has one number fewer
pub length-without : (gone : ℕ) (numbers : List ℕ) → 0 < times gone numbers → length (without gone numbers) + 1 ≡ length numbers
length-without gone [] has = absurd (omega arith)
length-without gone (first ∷ numbers) has = without_fewer gone first numbers _ refl has (λ there. length-without gone numbers there)
