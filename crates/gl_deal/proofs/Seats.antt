-- Where the hand and the passes stand among the views of a deque.
use Rattle.std.proofs.Common.{◌≡◌, ◌∙◌, sym, ap, refl, subst, ℕ, zero, suc, ◌+◌, ◌<◌, true, true≢false, List, [], ◌∷◌, length, map, set, get_or, All, arith}
use Rattle.std.proofs.lemmas.List.Sums.{sum_by-set}
use Rattle.std.specs.List.{sum_by}
use mathlib.Core.Option.{some, some-injective, some-ne-none}
use lib.ListN.{get_elem?}
use Rattle.gl_deal.specs.declared.view.HandView.{HandView}
use Rattle.gl_deal.specs.declared.view.PassView.{PassView}
use Rattle.gl_deal.specs.declared.view.View.{View}
use Rattle.gl_deal.specs.declared.view.View.TheVariants.{OfHand, OfPass}
use Rattle.gl_deal.specs.Views.{as_hand, as_pass, is_hand}

-- the views of a hand and its passes
abbrev pub seated : HandView → List PassView → List View
seated hand passes = OfHand hand ∷ map (λ pass. OfPass pass) passes

no_hand : (passes : List PassView) (at : ℕ) (hand : HandView) → get_elem? (map (λ pass. OfPass pass) passes) at ≡ some (OfHand hand) → ⊥
no_hand [] at hand is = some-ne-none (OfHand hand) (sym is)
no_hand (pass ∷ passes) zero hand is = true≢false (sym (ap is_hand (some-injective (OfPass pass) (OfHand hand) is)))
no_hand (pass ∷ passes) (suc at) hand is = no_hand passes at hand is

-- the hand stands first
pub record IsFirst (hand known : HandView) (passes : List PassView) (port : ℕ) : Type 0 where
  pub same : hand ≡ known
  pub put_back : (after : HandView) → set (seated hand passes) port (OfHand after) ≡ seated after passes

pub hand_first : (hand known : HandView) (passes : List PassView) (port : ℕ) → get_elem? (seated hand passes) port ≡ some (OfHand known) → IsFirst hand known passes port
hand_first hand known passes zero is = record { same = ap as_hand (some-injective (OfHand hand) (OfHand known) is); put_back = λ after. refl }
hand_first hand known passes (suc at) is = absurd (no_hand passes at known is)

pass_at : (passes : List PassView) (at : ℕ) (known : PassView) → get_elem? (map (λ pass. OfPass pass) passes) at ≡ some (OfPass known) → get_elem? passes at ≡ some known
pass_at [] at known is = absurd (some-ne-none (OfPass known) (sym is))
pass_at (pass ∷ passes) zero known is = ap (λ view. some (as_pass view)) (some-injective (OfPass pass) (OfPass known) is)
pass_at (pass ∷ passes) (suc at) known is = pass_at passes at known is

pass_set : (passes : List PassView) (at : ℕ) (after : PassView) → set (map (λ pass. OfPass pass) passes) at (OfPass after) ≡ map (λ pass. OfPass pass) (set passes at after)
pass_set [] at after = refl
pass_set (pass ∷ passes) zero after = refl
pass_set (pass ∷ passes) (suc at) after = ap (λ rest. OfPass pass ∷ rest) (pass_set passes at after)

-- a pass stands behind the hand
pub record IsLater (hand : HandView) (known : PassView) (passes : List PassView) (port : ℕ) : Type 0 where
  pub at : ℕ
  pub same : get_elem? passes at ≡ some known
  pub put_back : (after : PassView) → set (seated hand passes) port (OfPass after) ≡ seated hand (set passes at after)

pub pass_later : (hand : HandView) (known : PassView) (passes : List PassView) (port : ℕ) → get_elem? (seated hand passes) port ≡ some (OfPass known) → IsLater hand known passes port
pass_later hand known passes zero is = absurd (true≢false (ap is_hand (some-injective (OfHand hand) (OfPass known) is)))
pass_later hand known passes (suc at) is = record { at = at; same = pass_at passes at known is; put_back = λ after. ap (λ rest. OfHand hand ∷ rest) (pass_set passes at after) }

-- what is read at a place of a list
module _ {X : Type 0} where
  pub read_at : (xs : List X) (at : ℕ) (x d : X) → get_elem? xs at ≡ some x → (at < length xs) × (get_or xs at d ≡ x)
  read_at [] at x d is = absurd (some-ne-none x (sym is))
  read_at (y ∷ ys) zero x d is = (omega arith, some-injective y x is)
  read_at (y ∷ ys) (suc at) x d is = let rest = read_at ys at x d is in (omega (arith, rest.0), rest.1)

  -- a sum after one element became another
  pub sum_set : (f : X → ℕ) (xs : List X) (at : ℕ) (x y : X) → get_elem? xs at ≡ some x → sum_by f (set xs at y) + f x ≡ sum_by f xs + f y
  sum_set f xs at x y is =
      let read = read_at xs at x x is in
      ap (λ z. sum_by f (set xs at y) + f z) (sym read.1) ∙ sum_by-set f xs at y x read.0

  pub all_at : (P : X → Type 0) (xs : List X) (at : ℕ) (x : X) → get_elem? xs at ≡ some x → All P xs → P x
  all_at P xs at x is all = let read = read_at xs at x x is in subst P read.1 (all at x read.0)

  pub all_one : (P : X → Type 0) (x : X) → P x → All P (x ∷ [])
  all_one P x it zero d within = it
  all_one P x it (suc k) d within = absurd (omega arith)
