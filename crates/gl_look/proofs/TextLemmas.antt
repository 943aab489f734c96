-- Lines of remarks, one after the other.
use Rattle.std.proofs.Common.{◌≡◌, ◌∙◌, ℕ, ◌+◌, ◌<◌, add-one, ap, append_assoc, refl, sym, subst, List, [], ◌∷◌, ◌++◌, length, take, get_or, map}
use Rattle.std.proofs.Math.Seq.{take-suc}
use Rattle.std.proofs.lemmas.List.{map-append, append-nil}
use Rattle.gl_look.specs.Line.{IsLineOf, IsTextOf}
use Rattle.gl_look.specs.declared.told.Told.{Told}
use Rattle.gl_look.specs.declared.remarks.Remark.{Remark}

-- the line of one more remark
pub text-snoc : (ts : List Told) (t : Told) (text line : List ℕ) → IsTextOf ts text → IsLineOf t line → IsTextOf (ts ++ t ∷ []) (text ++ line)
text-snoc [] t text line is has = (line, [], has, refl, ap (λ (s : List ℕ). s ++ line) is ∙ sym (append-nil line))
text-snoc (u ∷ ts) t text line is has =
    (is.0, is.1 ++ line, is.2, text-snoc ts t is.1 line is.3 has, ap (λ (s : List ℕ). s ++ line) is.4 ∙ append_assoc is.0 is.1 line)

-- one more remark of a list, and its line
pub next_line : (rs : List Remark) (text now line : List ℕ) (i : ℕ) (r : Remark) → i < length rs → r ≡ get_or rs i r → IsTextOf (map (λ (x : Remark). x.told) (take i rs)) text → IsLineOf r.told line
    → now ≡ text ++ line → IsTextOf (map (λ (x : Remark). x.told) (take (i + 1) rs)) now
next_line rs text now line i r inside is so_far has pushed =
    let longer : take (i + 1) rs ≡ take i rs ++ r ∷ [] = rw add-one (take-suc rs i r inside ∙ ap (λ (z : Remark). take i rs ++ z ∷ []) (sym is)) in
    let mapped : map (λ (x : Remark). x.told) (take (i + 1) rs) ≡ map (λ (x : Remark). x.told) (take i rs) ++ r.told ∷ [] =
    ap (map (λ (x : Remark). x.told)) longer ∙ map-append (λ (x : Remark). x.told) (take i rs) (r ∷ []) in
    subst (λ (ts : List Told). IsTextOf ts now) (sym mapped) (subst (IsTextOf (map (λ (x : Remark). x.told) (take i rs) ++ r.told ∷ [])) (sym pushed) (text-snoc _ r.told text line so_far has))
