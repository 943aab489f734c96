use Rattle.std.proofs.Common.{Bor, ◌≡◌, ◌∙◌, sym, ap, refl, List, ℕ, [], length, map, get_or, below_more, arith}
use Rattle.std.proofs.lemmas.Bool.{false≢true}
use Rattle.std.proofs.lemmas.List.{get_or-map, length-map}
use Rattle.csv.specs.Records.{fields_of}
use Rattle.gl_series.proofs.Sheets.{same_fields, told_apart, told_same}
use Rattle.gl_series.proofs.sheet.has_fields.Goals as goal

pub returns-then-ne : goal.returns-then-ne
returns-then-ne c =
    let now : Bor (List ℕ) → List ℕ = λ field. field.now in
    let place = c.loop-place.place in (
      λ is. absurd (false≢true is),
      λ same. absurd (told_apart _ _ c.ne.result c.ne.ensures c.if-ne.true (c.field.ensures ∙ ap (λ (l : List (List ℕ)). get_or l place []) same
          ∙ get_or-map now c.args.fields.now place _ [] c.loop-place-test.true)),
    )

pub loop-place-preserved : goal.loop-place-preserved
loop-place-preserved c =
    let now : Bor (List ℕ) → List ℕ = λ field. field.now in
    below_more _ _ c.loop-place.invariant (sym c.field.ensures ∙ told_same _ _ c.ne.result c.ne.ensures c.if-ne.false
    ∙ sym (get_or-map now c.args.fields.now c.loop-place.place _ [] c.loop-place-test.true))

pub returns : goal.returns
returns c =
    let now : Bor (List ℕ) → List ℕ = λ field. field.now in
    let many = length-map c.args.fields.now now in
    let long : length (fields_of c.args.columns.now) ≡ length (map now c.args.fields.now) = omega (arith, many, c.len.ensures, c.if-len-fields.false) in (
      λ is. same_fields (fields_of c.args.columns.now) (map now c.args.fields.now) long (λ k below. c.loop-place.invariant k (omega (arith, below, many, c.loop-place-test.false))),
      λ same. refl,
    )
