-- The order of the fixes in time.
use Rattle.std.proofs.Common.{◌≡◌, ◌∙◌, sym, ap, ℕ, ◌-◌, ◌<◌, ◌≤◌, List, Some, ◌<ℤ◌, ◌≤ℤ◌, map, arith, length, inl, inr, get_or}
use Rattle.std.specs.Prelude.{IsTrue, slice_get}
use Rattle.std.proofs.lemmas.Bool.{cases_lt}
use Rattle.std.proofs.lemmas.Int.{ints}
use Rattle.std.proofs.lemmas.Option.{slice_get-get_or}
use Rattle.gl_igc.specs.declared.fix.Fix.{Fix}
use Rattle.gl_igc.specs.Seconds.{is_rising}
use Rattle.gl_igc.proofs.SecondsLemmas.{later}

same_fix : (fixes : List Fix) (i j : ℕ) (a b : Fix) → i ≡ j → slice_get fixes i ≡ Some a → slice_get fixes j ≡ Some b → a.second ≤ℤ b.second
same_fix fixes i j a b same first second =
    let e : a ≡ b = cc in
    let f : a.second ≡ b.second = ap (λ (fix : Fix). fix.second) e in
    omega (arith, ints)

-- a fix is no earlier than each one up to it
pub not_earlier : (fixes : List Fix) (i j : ℕ) (a b : Fix) → IsTrue (is_rising (map (λ fix. fix.second) fixes)) → i ≤ j → slice_get fixes i ≡ Some a → slice_get fixes j ≡ Some b → a.second ≤ℤ b.second
not_earlier fixes i j a b rising le first second =
    elim (cases_lt i j) as (λ _. a.second ≤ℤ b.second) [
      | inl lt ↦ (let l : a.second <ℤ b.second = later fixes i j a b rising lt first second in omega (arith, ints))
      | inr ge ↦ same_fix fixes i j a b (omega arith) first second
    ]

-- a fix is later than the one before it
pub next_later : (fixes : List Fix) (i : ℕ) (a b d e : Fix) → IsTrue (is_rising (map (λ fix. fix.second) fixes)) → 0 < i → i < length fixes → a ≡ get_or fixes (i - 1) d → b ≡ get_or fixes i e
    → a.second <ℤ b.second
next_later fixes i a b d e rising some within first second =
    later fixes (i - 1) i a b rising (omega arith) (slice_get-get_or fixes (i - 1) d (omega arith) ∙ ap Some (sym first)) (slice_get-get_or fixes i e within ∙ ap Some (sym second))
