use Rattle.std.proofs.Common.{◌∙◌, sym, ap, subst, ℕ, List, [], ◌∷◌, ◌++◌, drop, append_assoc, append-nil, arith}
use Rattle.std.specs.Prelude.{slice_range}
use Rattle.gl_text.specs.Lines.{lines_of}
use Rattle.gl_igc.specs.Progress.{StandsFor}
use Rattle.gl_igc.proofs.igc_reader.take_rest.Goals as goal

pub loop-line-preserved : goal.loop-line-preserved
loop-line-preserved c =
    let rest = c.args.rest.now in
    let line = slice_range rest c.in-Some.line.from c.in-Some.line.to in
    record {
      within = omega (arith, c.in-Some.ensures.bounds);
      taken = λ before stands.
          let (lines, split, now) = c.loop-line.invariant.taken before stands in (
            lines ++ line ∷ [],
            append_assoc lines (line ∷ []) (lines_of (drop c.in-Some.line.next rest)) ∙ ap (λ (l : List (List ℕ)). lines ++ l) (sym c.in-Some.ensures.line)
                ∙ split,
            c.in_ok-take_line.ensures lines now,
          );
    }

pub returns : goal.returns
returns c = λ before stands.
    let (lines, split, now) = c.loop-line.invariant.taken before stands in
    subst (λ (l : List (List ℕ)). StandsFor l c.loop-line.progress) (sym (append-nil lines) ∙ ap (λ (l : List (List ℕ)). lines ++ l) (sym c.in_default.ensures.over) ∙ split) now
