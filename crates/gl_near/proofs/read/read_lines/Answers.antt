use Rattle.std.proofs.Common.{◌∙◌, sym, ap, subst, List, [], ◌∷◌, ◌++◌, map, None}
use Rattle.gl_near.specs.Certificate.{box_of}
use Rattle.gl_near.specs.Line.{IsTextOf}
use Rattle.gl_near.specs.LineCheck.{Known, known_of, known_with}
use Rattle.gl_near.specs.NearLines.{line_said}
use Rattle.gl_near.specs.declared.found.NearClosed.{NearClosed}
use Rattle.gl_near.proofs.Known.{known_more}
use Rattle.gl_near.proofs.Parsed.{told_of_near, whole_known}
use Rattle.gl_near.proofs.read.read_lines.Goals as goal

pub lines-init : goal.lines-init
lines-init c = record {
  known = (
    [],
    c.in_ok-feed_lines.ensures.fed [] [] c.begin_lines-reader.ensures,
    ap (λ (items : List NearClosed). record { total = None; best = None; boxes = map box_of items }) c.new.ensures.items,
  );
}

pub lines-preserved : goal.lines-preserved
lines-preserved c =
    let known = c.lines.invariant.known in
    record {
      known = (
        known.0 ++ line_said c.in-Some.line ∷ [],
        rw c.in-Some.is at (c.in_ok-line.ensures.read c.args.text.now known.0 known.1),
        c.in_ok-note_line.ensures ∙ ap (λ (k : Known). known_with k (line_said c.in-Some.line)) known.2 ∙ sym (known_more (known_of []) known.0 (line_said c.in-Some.line)),
      );
    }

pub returns-in-Ok-clause-ok : goal.returns-in-Ok-clause-ok
returns-in-Ok-clause-ok c =
    let known = c.lines.invariant.known in
    subst (λ (k : Known). IsTextOf c.args.text.now k.best k.boxes) (sym known.2)
    (whole_known c.args.text.now known.0 (c.in-Ok.ensures c.args.text.now known.0 (rw c.in_default.is at (c.in_ok-line.ensures.read c.args.text.now known.0 known.1))))

pub returns-clause-refused : goal.returns-clause-refused
returns-clause-refused c =
    let known = c.lines.invariant.known in
    told_of_near c.args.text.now c.in-Err.error (c.in-Err.ensures c.args.text.now known.0 (rw c.in_default.is at (c.in_ok-line.ensures.read c.args.text.now known.0 known.1)))
