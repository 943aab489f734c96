-- The legs of a recording, one after the other.
use Rattle.std.proofs.Common.{◌≡◌, ◌∙◌, ap, refl, ℕ, ◌+◌, ◌*◌, List, ◌++◌, arith, add-one}
use Rattle.gl_demo.specs.declared.leg.Leg.{Leg}
use Rattle.gl_demo.specs.declared.place.Place.{Place}
use Rattle.gl_demo.specs.Draws.{after}
use Rattle.gl_demo.specs.Place.{moved_place}
use Rattle.gl_demo.specs.Leg.{leg_text}
use Rattle.gl_demo.specs.Recording.{about_first, about_second, begin_of, begin_place, draws_before, draws_before_leg, end_place, first_turn, fixes_of, recording_head, recording_text, second_turn}
use Rattle.gl_demo.proofs.DrawLemmas.{after-join}

-- a leg by its parts
abbrev pub leg_from : Place → Place → ℕ → ℕ → Leg
leg_from from to fixes begins =
    record { from = from; to = to; fixes = fixes; begins = begins }

-- the same leg, drawn from the same value
same_leg : (from from' to to' : Place) (fixes begins begins' x x' : ℕ) → from ≡ from' → to ≡ to' → begins ≡ begins' → x ≡ x'
    → leg_text (leg_from from to fixes begins) x ≡ leg_text (leg_from from' to' fixes begins') x'
same_leg from from' to to' fixes begins begins' x x' h₁ h₂ h₃ h₄ = cc

-- three texts behind a first one
three : (h a b c a' b' c' t₁ t₂ t₃ : List ℕ) → t₁ ≡ h ++ a → t₂ ≡ t₁ ++ b → t₃ ≡ t₂ ++ c → a ≡ a' → b ≡ b' → c ≡ c' → t₃ ≡ h ++ a' ++ b' ++ c'
three h a b c a' b' c' t₁ t₂ t₃ h₁ h₂ h₃ h₄ h₅ h₆ = cc

-- what was drawn before each leg
pub turns-drawn : (e x v₁ v₂ : ℕ) → v₁ ≡ after 2 x → v₂ ≡ after 2 v₁ → v₂ ≡ after (draws_before_leg e 0) x
turns-drawn e x v₁ v₂ h₁ h₂ = after-join 2 2 (draws_before_leg e 0) x v₁ v₂ h₁ h₂ (omega arith)

pub leg-drawn : (e x before next v w : ℕ) → v ≡ after (draws_before_leg e before) x → w ≡ after (2 * fixes_of e) v → before * fixes_of e + fixes_of e ≡ next * fixes_of e
    → w ≡ after (draws_before_leg e next) x
leg-drawn e x before next v w h₁ h₂ sum =
    after-join (draws_before_leg e before) (2 * fixes_of e) (draws_before_leg e next) x v w h₁ h₂ (omega arith)

-- the three legs behind the head
pub recording-pushed : (e x : ℕ) (first second : Place) (v₁ v₂ v₃ v₄ : ℕ) (t₀ t₁ t₂ t₃ : List ℕ) → first ≡ moved_place about_first x → v₁ ≡ after 2 x → second ≡ moved_place about_second v₁
    → v₂ ≡ after 2 v₁ → t₀ ≡ recording_head → t₁ ≡ t₀ ++ leg_text (leg_from begin_place first (fixes_of e) (begin_of e)) v₂ → v₃ ≡ after (2 * fixes_of e) v₂
    → t₂ ≡ t₁ ++ leg_text (leg_from first second (fixes_of e) (begin_of e + fixes_of e)) v₃ → v₄ ≡ after (2 * fixes_of e) v₃
    → t₃ ≡ t₂ ++ leg_text (leg_from second end_place (fixes_of e) (begin_of e + 2 * fixes_of e)) v₄ → t₃ ≡ recording_text e x
unfolding recording_text
recording-pushed e x first second v₁ v₂ v₃ v₄ t₀ t₁ t₂ t₃ is-first is-v₁ is-second is-v₂ is-t₀ is-t₁ is-v₃ is-t₂ is-v₄ is-t₃ =
    let turn : second ≡ second_turn x = is-second ∙ ap (moved_place about_second) is-v₁ in
    let at₀ : v₂ ≡ after (draws_before_leg e 0) x = turns-drawn e x v₁ v₂ is-v₁ is-v₂ in
    let at₁ : v₃ ≡ after (draws_before_leg e 1) x = leg-drawn e x 0 1 v₂ v₃ at₀ is-v₃ (omega arith) in
    let at₂ : v₄ ≡ after (draws_before_leg e 2) x = leg-drawn e x 1 2 v₃ v₄ at₁ is-v₄ (omega arith) in
    three recording_head _ _ _ _ _ _ t₁ t₂ t₃ (rw is-t₀ at is-t₁) is-t₂ is-t₃
    (same_leg begin_place begin_place first (first_turn x) (fixes_of e) (begin_of e) (begin_of e + 0 * fixes_of e) v₂ (after (draws_before_leg e 0) x) refl is-first (omega arith) at₀)
    (same_leg first (first_turn x) second (second_turn x) (fixes_of e) (begin_of e + fixes_of e) (begin_of e + 1 * fixes_of e) v₃ (after (draws_before_leg e 1) x) is-first turn (omega arith) at₁)
    (same_leg second (second_turn x) end_place end_place (fixes_of e) (begin_of e + 2 * fixes_of e) (begin_of e + 2 * fixes_of e) v₄ (after (draws_before_leg e 2) x) turn refl refl at₂)

-- all draws of an entrant
pub recording-drawn : (e x v₁ v₂ v₃ v₄ v₅ : ℕ) → v₁ ≡ after 2 x → v₂ ≡ after 2 v₁ → v₃ ≡ after (2 * fixes_of e) v₂ → v₄ ≡ after (2 * fixes_of e) v₃ → v₅ ≡ after (2 * fixes_of e) v₄
    → v₅ ≡ after (4 + 6 * fixes_of e) x
recording-drawn e x v₁ v₂ v₃ v₄ v₅ is-v₁ is-v₂ is-v₃ is-v₄ is-v₅ =
    let at₀ : v₂ ≡ after (draws_before_leg e 0) x = turns-drawn e x v₁ v₂ is-v₁ is-v₂ in
    let at₁ : v₃ ≡ after (draws_before_leg e 1) x = leg-drawn e x 0 1 v₂ v₃ at₀ is-v₃ (omega arith) in
    let at₂ : v₄ ≡ after (draws_before_leg e 2) x = leg-drawn e x 1 2 v₃ v₄ at₁ is-v₄ (omega arith) in
    after-join (draws_before_leg e 2) (2 * fixes_of e) (4 + 6 * fixes_of e) x v₄ v₅ at₂ is-v₅ (omega arith)

-- the draws before the entrant after this one
pub draws_before-next : (e : ℕ) → draws_before e + (4 + 6 * fixes_of e) ≡ draws_before (e + 1)
unfolding draws_before
draws_before-next e = rw add-one (omega arith)

pub draws_before-none : (x : ℕ) → x ≡ after (draws_before 0) x
unfolding draws_before after
draws_before-none x = refl
