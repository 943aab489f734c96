-- Texts that are cut at their first space.
use Rattle.std.proofs.Common.{◌≢◌, ◌∙◌, sym, ap, ℕ, ◌+◌, ◌<◌, List, ◌∷◌, ◌++◌, take, drop, arith}
use Rattle.std.proofs.lemmas.List.{drop_more, get_or-take, length-take-le, take-append-drop}
use Rattle.std.proofs.lemmas.List.Elements.{All-from_get_or}
use Rattle.gl_text.specs.Spaces.{IsSpaced}
use Rattle.gl_text.specs.Code.Spaces.{IsFirstSpace}

-- a text with a space in it, cut there
pub spaced_at : (text : List ℕ) (place : ℕ) → IsFirstSpace text place → IsSpaced text (take place text) (drop (place + 1) text)
spaced_at text place first = record {
  is = sym (take-append-drop place text) ∙ ap (λ (l : List ℕ). take place text ++ l) (drop_more text place 0 first.inside ∙ ap (λ (b : ℕ). b ∷ drop (place + 1) text) first.is);
  none = All-from_get_or (λ byte. byte ≢ 32) (take place text) 0 (λ k below same.
      let inside : k < place = omega (arith, below, length-take-le place text (omega (arith, first.inside))) in
      first.none k inside (sym (get_or-take place text k 0 inside) ∙ same));
}
