use Rattle.std.proofs.lemmas.Result.{on_ok_weaker}
use Rattle.gl_box.specs.Cell.{Covers, spans_of}
use Rattle.gl_box.proofs.Nodes.{covers_lower, covers_through, covers_upper}
use Rattle.gl_near.specs.Pairing.{whole_cell}
use Rattle.gl_near.specs.Pairs.{pairing_of}
use Rattle.gl_near.proofs.Stack.{within_both}
use Rattle.gl_near.proofs.dive.look.Goals as goal

pub tested-low-requires : goal.tested-low-requires
tested-low-requires c =
    covers_through (whole_cell (pairing_of c.args.pairs.now)) (spans_of c.args.cell.now) (spans_of c.in-Some.lower) c.requires.covers (covers_lower _ _ _ c.in-Some.ensures.halves)

pub tested-high-requires : goal.tested-high-requires
tested-high-requires c =
    covers_through (whole_cell (pairing_of c.args.pairs.now)) (spans_of c.args.cell.now) (spans_of c.in-Some.upper) c.requires.covers (covers_upper _ _ _ c.in-Some.ensures.halves)

pub returns-then-is_nearer-clause-within : goal.returns-then-is_nearer-clause-within
returns-then-is_nearer-clause-within c =
    let pairing = pairing_of c.args.pairs.now in
    let whole = whole_cell pairing in
    let low : Covers whole (spans_of c.in-Some.lower) = covers_through whole (spans_of c.args.cell.now) (spans_of c.in-Some.lower) c.requires.covers (covers_lower _ _ _ c.in-Some.ensures.halves) in
    let high : Covers whole (spans_of c.in-Some.upper) = covers_through whole (spans_of c.args.cell.now) (spans_of c.in-Some.upper) c.requires.covers (covers_upper _ _ _ c.in-Some.ensures.halves) in
    on_ok_weaker _ (λ more. within_both pairing c.args.candidates.now.items c.push_both.new.candidates.items c.tested-high.result c.tested-low.result _ _ c.requires.within
    high low c.tested-high.ensures c.tested-low.ensures more) c.push_both.ensures

pub returns-clause-within : goal.returns-clause-within
returns-clause-within c =
    let pairing = pairing_of c.args.pairs.now in
    let whole = whole_cell pairing in
    let low : Covers whole (spans_of c.in-Some.lower) = covers_through whole (spans_of c.args.cell.now) (spans_of c.in-Some.lower) c.requires.covers (covers_lower _ _ _ c.in-Some.ensures.halves) in
    let high : Covers whole (spans_of c.in-Some.upper) = covers_through whole (spans_of c.args.cell.now) (spans_of c.in-Some.upper) c.requires.covers (covers_upper _ _ _ c.in-Some.ensures.halves) in
    on_ok_weaker _ (λ more. within_both pairing c.args.candidates.now.items c.push_both-2.new.candidates.items c.tested-low.result c.tested-high.result _ _ c.requires.within
    low high c.tested-low.ensures c.tested-high.ensures more) c.push_both-2.ensures
