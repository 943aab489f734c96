-- Draws one after the other.
use Rattle.std.proofs.Common.{◌≡◌, ◌∙◌, sym, ap, refl, ℕ, zero, suc, ◌+◌, ◌/◌, ◌%◌, arith, add-zero, add-suc}
use Rattle.gl_demo.specs.Draws.{next, after, drawn}

-- one draw
pub after-one : (x : ℕ) → after 1 x ≡ next x
unfolding after
after-one x = refl

pub drawn-first : (x bound : ℕ) → drawn x 0 bound ≡ next x / 65_536 % bound
unfolding after drawn
drawn-first x bound = refl

-- draws, and then some more
pub after-after : (more draws x : ℕ) → after more (after draws x) ≡ after (draws + more) x
unfolding after
after-after zero draws x = ap (λ (n : ℕ). after n x) (sym (add-zero draws))
after-after (suc more) draws x =
    ap next (after-after more draws x) ∙ ap (λ (n : ℕ). after n x) (sym (add-suc draws more))

-- what is drawn after draws
pub drawn-after : (draws x before bound : ℕ) → drawn (after draws x) before bound ≡ drawn x (draws + before) bound
unfolding drawn
drawn-after draws x before bound =
    let sum : draws + (before + 1) ≡ draws + before + 1 = omega arith in
    ap (λ (y : ℕ). y / 65_536 % bound) (after-after (before + 1) draws x ∙ ap (λ (n : ℕ). after n x) sum)

-- the value after draws, and then some more
pub after-join : (draws more all x v w : ℕ) → v ≡ after draws x → w ≡ after more v → draws + more ≡ all → w ≡ after all x
after-join draws more all x v w first then sum =
    then ∙ ap (after more) first ∙ after-after more draws x ∙ ap (λ (n : ℕ). after n x) sum

-- no draw
pub after-none : (x : ℕ) → x ≡ after 0 x
unfolding after
after-none x = refl
