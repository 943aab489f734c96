use Rattle.std.proofs.Common.{◌≡◌, ◌∙◌, sym, ℕ, ◌<◌, length, map, arith}
use Rattle.std.proofs.lemmas.List.{get_or-map, get_or_default, length-map, same_lists}
use Rattle.gl_box.specs.Tuple.{places_of}
use Rattle.gl_box.specs.Cell.{spans_of}
use Rattle.gl_box.proofs.Spans.{length-places_of, length-spans_of}
use Rattle.gl_box.proofs.cell.Cell.lowest.Goals as goal

pub returns : goal.returns
returns c =
    let cell = c.args.self.now in
    let tuple = c.loop-axis.tuple in
    let low = λ (span : ℕ × ℕ). span.0 in
    let short : length (map low (spans_of cell)) ≡ cell.axes = length-map (spans_of cell) low ∙ length-spans_of cell in
    same_lists (places_of tuple) (map low (spans_of cell)) (length-places_of tuple ∙ c.loop-axis.invariant.axes ∙ sym short)
    (λ k d below.
    let inside : k < length (spans_of cell) = omega (arith, length-places_of tuple, c.loop-axis.invariant.axes, length-spans_of cell) in
    get_or_default (places_of tuple) k d 0 below
    ∙ c.loop-axis.invariant.so_far k (omega (arith, length-spans_of cell, c.loop-axis-test.false))
    ∙ sym (get_or-map low (spans_of cell) k (0, 0) d inside))
