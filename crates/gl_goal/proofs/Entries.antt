-- An entry of the table serves where it has the span that is asked for.
use Rattle.std.proofs.Common.{◌≡◌, ℕ, ◌&&◌, eqb, true, List, subst, arith}
use Rattle.std.proofs.lemmas.Bool.Decides.{nat_tests}
use Rattle.gl_box.specs.Cell.{ends}
use Rattle.gl_box.specs.declared.span.Span.{Span}
use Rattle.gl_igc.specs.declared.fix.Fix.{Fix}
use Rattle.gl_goal.specs.Box.{IsLeastBox, fixes_in}
use Rattle.gl_goal.specs.Hull.{box_of}
use Rattle.gl_goal.specs.Table.{IsEntry}
use Rattle.gl_goal.specs.declared.entry.Entry.{Entry}

same-ends : (a b d e : ℕ) → true ≡ (eqb a d && eqb b e) → (a ≡ d) × (b ≡ e)
same-ends a b d e same = (grind (arith, nat_tests), grind (arith, nat_tests))

pub entry-serves : (fixes seen : List Fix) (entry : Entry) (span : Span) → fixes ≡ seen → true ≡ (eqb entry.span.lo span.lo && eqb entry.span.hi span.hi) → IsEntry fixes entry
    → IsLeastBox (box_of entry.hull) (fixes_in seen (ends span))
entry-serves fixes seen entry span view same is =
    let both = same-ends entry.span.lo entry.span.hi span.lo span.hi same in
    let P : List Fix → Type 0 = IsLeastBox (box_of entry.hull) in
    subst P (λ i. fixes_in (view i) (both.0 i, both.1 i)) is
