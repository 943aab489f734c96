-- Crossings by the fixes that they are between.
use Rattle.std.proofs.Common.{◌≡◌, ◌∙◌, sym, ap, subst, refl, ℕ, ◌+◌, ◌-◌, ◌<◌, List, Some, ℤ, arith, length, get_or}
use Rattle.std.proofs.lemmas.Option.{slice_get_read}
use Rattle.std.specs.Prelude.{slice_get}
use Rattle.gl_igc.specs.declared.fix.Fix.{Fix}
use Rattle.gl_zone.specs.declared.line.Line.{Line}
use Rattle.gl_zone.specs.Crossing.{CrossesForwards}
use Rattle.gl_judge.specs.declared.stretch.Stretch.{Stretch}
use Rattle.gl_judge.specs.Crossings.{Crosses}

pub crosses-is : (line : Line) (fixes : List Fix) (judged : Stretch) (i : ℕ) (x y : Fix) (t : ℤ) → judged.from < i → i < judged.to → slice_get fixes (i - 1) ≡ Some x → slice_get fixes i ≡ Some y
    → CrossesForwards line x y t → Crosses line fixes judged i t
crosses-is line fixes judged i x y t after within x_is y_is crossed = record {
  before = i - 1;
  next = omega arith;
  before_judged = (omega arith, omega arith);
  behind_judged = (omega arith, within);
  x = x;
  y = y;
  x_is = x_is;
  y_is = y_is;
  crossed = crossed;
}

x_same : (line : Line) (fixes : List Fix) (judged : Stretch) (i : ℕ) (x : Fix) (t : ℤ) → slice_get fixes (i - 1) ≡ Some x → (c : Crosses line fixes judged i t) → c.x ≡ x
x_same line fixes judged i x t x_is c =
    let next : c.before + 1 ≡ i = c.next in
    let at : c.before ≡ i - 1 = omega arith in
    let e : slice_get fixes (i - 1) ≡ Some c.x = subst (λ (n : ℕ). slice_get fixes n ≡ Some c.x) at c.x_is in
    cc

y_same : (line : Line) (fixes : List Fix) (judged : Stretch) (i : ℕ) (y : Fix) (t : ℤ) → slice_get fixes i ≡ Some y → (c : Crosses line fixes judged i t) → c.y ≡ y
y_same line fixes judged i y t y_is c = let e : slice_get fixes i ≡ Some c.y = c.y_is in cc

pub crosses-forwards : (line : Line) (fixes : List Fix) (judged : Stretch) (i : ℕ) (x y : Fix) (t : ℤ) → slice_get fixes (i - 1) ≡ Some x → slice_get fixes i ≡ Some y → Crosses line fixes judged i t
    → CrossesForwards line x y t
crosses-forwards line fixes judged i x y t x_is y_is c =
    let p = x_same line fixes judged i x t x_is c in
    let q = y_same line fixes judged i y t y_is c in
    subst (λ (a : Fix). CrossesForwards line a y t) p (subst (λ (b : Fix). CrossesForwards line c.x b t) q c.crossed)

-- a line is crossed at one time only
pub crosses-once : (line : Line) (fixes : List Fix) (judged : Stretch) (i : ℕ) (t u : ℤ) → Crosses line fixes judged i t → Crosses line fixes judged i u → t ≡ u
crosses-once line fixes judged i t u c d =
    let next : c.before + 1 ≡ i = c.next in
    let at : c.before ≡ i - 1 = omega arith in
    let e : slice_get fixes (i - 1) ≡ Some c.x = subst (λ (n : ℕ). slice_get fixes n ≡ Some c.x) at c.x_is in
    let same : CrossesForwards line c.x c.y u = crosses-forwards line fixes judged i c.x c.y u e c.y_is d in
    c.crossed.time ∙ sym same.time

-- an item that was read is the one there
pub read : (fixes items : List Fix) (i : ℕ) (fix : Fix) → items ≡ fixes → i < length fixes → fix ≡ get_or items i fix → slice_get fixes i ≡ Some fix
read fixes items i fix same within is =
    slice_get_read fixes (length fixes) i fix refl within (is ∙ ap (λ (list : List Fix). get_or list i fix) same)
