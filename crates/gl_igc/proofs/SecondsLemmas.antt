-- Seconds that rise.
use Rattle.std.proofs.Common.{◌≡◌, ◌∙◌, sym, subst, refl, ap, ℕ, zero, suc, ◌<◌, List, [], ◌∷◌, ◌++◌, map, length, true, Bool, Option, Some, None, arith, ◌&&◌, ℤ, ◌<ℤ◌, ◌≤ℤ◌, ◌+ℤ◌, pos}
use Rattle.std.specs.Prelude.{int_lt, IsTrue, slice_get, option_map}
use Rattle.std.proofs.lemmas.Bool.Decides.{nat_tests}
use Rattle.std.proofs.lemmas.List.{length-append}
use Rattle.std.proofs.lemmas.Bool.{and_parts}
use Rattle.std.proofs.lemmas.Int.{ints}
use Rattle.std.proofs.lemmas.Option.{slice_get-map}
use Rattle.gl_igc.specs.declared.fix.Fix.{Fix}
use Rattle.gl_igc.specs.Seconds.{is_rising}
use Rattle.gl_igc.specs.Code.Seconds.{last_second, AreOwnSeconds}
use Rattle.gl_igc.specs.UsedFixes.{may_follow, seconds_limit}

above : (a b : ℤ) → IsTrue (int_lt a b) → a <ℤ b
above a b test = grind (arith, ints)

above_both : (a b c : ℤ) → a <ℤ b → b <ℤ c → a <ℤ c
above_both a b c first second = grind (arith, ints)

-- the first second is below each one after it
below_rest : (first : ℤ) (seconds : List ℤ) (k : ℕ) (second : ℤ) → IsTrue (is_rising (first ∷ seconds)) → slice_get seconds k ≡ Some second → first <ℤ second
unfolding is_rising
below_rest first [] k second rising is = absurd (cc)
below_rest first (next ∷ seconds) zero second rising is =
    let same : next ≡ second = cc in
    subst (λ (other : ℤ). first <ℤ other) same (above first next (and_parts _ _ rising).0)
below_rest first (next ∷ seconds) (suc k) second rising is =
    above_both first next second (above first next (and_parts _ _ rising).0) (below_rest next seconds k second (and_parts _ _ rising).1 is)

-- each second is below each one after it
below_later : (seconds : List ℤ) (i j : ℕ) (a b : ℤ) → IsTrue (is_rising seconds) → i < j → slice_get seconds i ≡ Some a → slice_get seconds j ≡ Some b → a <ℤ b
unfolding is_rising
below_later [] i j a b rising order first second = absurd (cc)
below_later (x ∷ seconds) i zero a b rising order first second = absurd (omega arith)
below_later (x ∷ seconds) zero (suc j) a b rising order first second =
    let same : x ≡ a = cc in
    subst (λ (other : ℤ). other <ℤ b) same (below_rest x seconds j b rising second)
below_later (x ∷ []) (suc i) (suc j) a b rising order first second = absurd (cc)
below_later (x ∷ next ∷ seconds) (suc i) (suc j) a b rising order first second = below_later (next ∷ seconds) i j a b (and_parts _ _ rising).1 (omega arith) first second

second_at : (fixes : List Fix) (k : ℕ) (fix : Fix) → slice_get fixes k ≡ Some fix → slice_get (map (λ fix. fix.second) fixes) k ≡ Some fix.second
second_at fixes k fix is = slice_get-map (λ (fix : Fix). fix.second) fixes k ∙ ap (option_map (λ (fix : Fix). fix.second)) is

-- each fix is later than each one before it
pub later : (fixes : List Fix) (i j : ℕ) (a b : Fix) → IsTrue (is_rising (map (λ fix. fix.second) fixes)) → i < j → slice_get fixes i ≡ Some a → slice_get fixes j ≡ Some b → a.second <ℤ b.second
later fixes i j a b rising order first second =
    below_later (map (λ fix. fix.second) fixes) i j a.second b.second rising order (second_at fixes i a first) (second_at fixes j b second)

-- what holds of each item of a list and of one more
pub each-push : {X : Type 0} (P : X → Type 0) (xs : List X) (x : X) → ((k : ℕ) (y : X) → slice_get xs k ≡ Some y → P y) → P x → (k : ℕ) (y : X) → slice_get (xs ++ x ∷ []) k ≡ Some y → P y
each-push P [] x each here zero y is = let same : x ≡ y = cc in subst P same here
each-push P [] x each here (suc k) y is = absurd (cc)
each-push P (z ∷ xs) x each here zero y is = each zero y is
each-push P (z ∷ xs) x each here (suc k) y is = each-push P xs x (λ k y is. each (suc k) y is) here k y is

-- the next second is above the last one
abbrev pub IsAboveLast : Option ℤ → ℤ → Type 0
IsAboveLast None next = Unit {0}
IsAboveLast (Some last) next = last <ℤ next

below_test : (a b : ℤ) → a <ℤ b → int_lt a b ≡ true
below_test a b below = grind (arith, ints)

pub rising-push : (seconds : List ℤ) (next : ℤ) → IsTrue (is_rising seconds) → IsAboveLast (last_second seconds) next → IsTrue (is_rising (seconds ++ next ∷ []))
unfolding is_rising last_second
rising-push [] next rising above = refl
rising-push (a ∷ []) next rising above = ap (λ (b : Bool). b && true) (below_test a next above)
rising-push (a ∷ b ∷ seconds) next rising above =
    ap (λ (up : Bool). up && is_rising (b ∷ seconds ++ next ∷ [])) (and_parts _ _ rising).0 ∙ rising-push (b ∷ seconds) next (and_parts _ _ rising).1 above

pub last_second-push : (seconds : List ℤ) (next : ℤ) → last_second (seconds ++ next ∷ []) ≡ Some next
unfolding last_second
last_second-push [] next = refl
last_second-push (a ∷ []) next = refl
last_second-push (a ∷ b ∷ seconds) next = last_second-push (b ∷ seconds) next

above_last : (last : Option ℕ) (own : ℕ) → may_follow last own ≡ true → IsAboveLast (option_map pos last) (pos own)
unfolding may_follow
above_last None own follows = tt
above_last (Some last) own follows =
    let below : last < own = grind (arith, nat_tests) in
    grind (arith, ints)

-- one fix more
pub own-push : (seconds : List ℤ) (last : Option ℕ) (own : ℕ) (second : ℤ) → AreOwnSeconds seconds last → second ≡ pos own → own < seconds_limit → may_follow last own ≡ true → length seconds < 90_000
    → AreOwnSeconds (seconds ++ second ∷ []) (Some own)
own-push seconds last own second are is below follows room = record {
  few = omega (arith, length-append seconds (second ∷ []));
  rising = rising-push seconds second are.rising (subst (λ (s : ℤ). IsAboveLast (last_second seconds) s) (sym is)
      (subst (λ (o : Option ℤ). IsAboveLast o (pos own)) (sym are.latest) (above_last last own follows)));
  latest = last_second-push seconds second ∙ ap Some is;
  below = each-push (λ (second : ℤ). (pos 0 ≤ℤ second) × (second <ℤ pos seconds_limit)) seconds second are.below
      (subst (λ (s : ℤ). (pos 0 ≤ℤ s) × (s <ℤ pos seconds_limit)) (sym is) (grind (arith, ints), grind (arith, ints)));
  last_below = λ other same. let equal : own ≡ other = cc in subst (λ (o : ℕ). o < seconds_limit) equal below;
}

-- seconds that are moved together
pub rising-shift : (seconds : List ℤ) (shift : ℤ) → IsTrue (is_rising seconds) → IsTrue (is_rising (map (λ second. second +ℤ shift) seconds))
unfolding is_rising
rising-shift [] shift rising = refl
rising-shift (a ∷ []) shift rising = refl
rising-shift (a ∷ b ∷ seconds) shift rising =
    ap (λ (up : Bool). up && is_rising (map (λ second. second +ℤ shift) (b ∷ seconds))) (moved a b shift (and_parts _ _ rising).0) ∙ rising-shift (b ∷ seconds) shift (and_parts _ _ rising).1
  where
    moved : (a b shift : ℤ) → IsTrue (int_lt a b) → int_lt (a +ℤ shift) (b +ℤ shift) ≡ true
    moved a b shift up =
        let below = above a b up in
        grind (arith, ints)
