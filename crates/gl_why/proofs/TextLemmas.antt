-- Lines, one after the other.
use Rattle.std.proofs.Common.{◌≡◌, ◌∙◌, ℕ, ◌+◌, ◌<◌, add-one, ap, append_assoc, refl, sym, subst, List, [], ◌∷◌, ◌++◌, length, take, get_or, map}
use Rattle.std.proofs.Math.Seq.{take-suc}
use Rattle.std.proofs.lemmas.List.{map-append, append-nil}
use Rattle.gl_why.specs.Line.{IsLineOf, IsTextOf}
use Rattle.gl_why.specs.declared.fact.Fact.{Fact}
use Rattle.gl_why.specs.declared.lines.Line.{Line}

-- the line of one more fact
pub text-snoc : (ts : List Fact) (t : Fact) (text line : List ℕ) → IsTextOf ts text → IsLineOf t line → IsTextOf (ts ++ t ∷ []) (text ++ line)
text-snoc [] t text line is has = (line, [], has, refl, ap (λ (s : List ℕ). s ++ line) is ∙ sym (append-nil line))
text-snoc (u ∷ ts) t text line is has =
    (is.0, is.1 ++ line, is.2, text-snoc ts t is.1 line is.3 has, ap (λ (s : List ℕ). s ++ line) is.4 ∙ append_assoc is.0 is.1 line)

-- one more fact of a list, and its line
pub next_line : (rs : List Line) (text now line : List ℕ) (i : ℕ) (r : Line) → i < length rs → r ≡ get_or rs i r → IsTextOf (map (λ (x : Line). x.told) (take i rs)) text → IsLineOf r.told line
    → now ≡ text ++ line → IsTextOf (map (λ (x : Line). x.told) (take (i + 1) rs)) now
next_line rs text now line i r inside is so_far has pushed =
    let longer : take (i + 1) rs ≡ take i rs ++ r ∷ [] = rw add-one (take-suc rs i r inside ∙ ap (λ (z : Line). take i rs ++ z ∷ []) (sym is)) in
    let mapped : map (λ (x : Line). x.told) (take (i + 1) rs) ≡ map (λ (x : Line). x.told) (take i rs) ++ r.told ∷ [] =
    ap (map (λ (x : Line). x.told)) longer ∙ map-append (λ (x : Line). x.told) (take i rs) (r ∷ []) in
    subst (λ (ts : List Fact). IsTextOf ts now) (sym mapped) (subst (IsTextOf (map (λ (x : Line). x.told) (take i rs) ++ r.told ∷ [])) (sym pushed) (text-snoc _ r.told text line so_far has))
