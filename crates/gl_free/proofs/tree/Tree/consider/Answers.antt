use Rattle.std.proofs.Common.{◌≡◌, ◌∙◌, ◌<◌, length, ap, sym, refl, arith}
use Rattle.std.proofs.lemmas.List.{get_or_default}
use Rattle.gl_box.specs.Cell.{ends}
use Rattle.gl_sphere.specs.Distance.{squared_chord}
use Rattle.gl_free.specs.Code.Places.{chord}
use Rattle.gl_free.proofs.PlaceLemmas.{chord-is}
use Rattle.gl_free.proofs.WayLemmas.{lengthens-beaten, lengthens-taken, stood}
use Rattle.gl_free.proofs.tree.Tree.consider.Goals as goal

pub returns-then-not-is_beaten : goal.returns-then-not-is_beaten
returns-then-not-is_beaten c =
    let fixes = c.args.hulls.now in
    let ways = c.args.self.now.ways.items in
    let target = c.args.target.now in
    let within : c.args.from < length ways = omega (arith, c.requires.long, c.requires.from) in
    let square : c.sq-chord.result ≡ chord fixes c.args.from target.number =
    c.sq-chord.ensures.value ∙ ap (squared_chord c.fix.result.now.at) c.requires.target.at
    ∙ sym (chord-is fixes c.args.from target.number c.fix.result.now c.requires.target.fix c.fix.ensures c.requires.target.there) in
    lengthens-taken fixes ways target c.args.from c.index-way.result.now c.sq-chord.result c.dist.result c.args.found.now _ within (omega arith)
    (c.index-way.ensures ∙ get_or_default ways c.args.from c.index-way.result.now 0 within)
    (stood target.side (ends c.point-from_there.result) (ends c.point-to_here.result) c.args.from target.number c.point-from_there.ensures.lo c.point-from_there.ensures.hi c.point-to_here.ensures.lo
    c.point-to_here.ensures.hi (λ past. grind (arith, c.is_out.ensures.1 past)))
    square c.dist.ensures.value (omega (arith, c.if-not-is_beaten.ensures.longer, c.dist.ensures.value)) refl refl refl refl

pub returns-else-not-is_beaten : goal.returns-else-not-is_beaten
returns-else-not-is_beaten c =
    let fixes = c.args.hulls.now in
    let ways = c.args.self.now.ways.items in
    let target = c.args.target.now in
    let within : c.args.from < length ways = omega (arith, c.requires.long, c.requires.from) in
    let square : c.sq-chord.result ≡ chord fixes c.args.from target.number =
    c.sq-chord.ensures.value ∙ ap (squared_chord c.fix.result.now.at) c.requires.target.at
    ∙ sym (chord-is fixes c.args.from target.number c.fix.result.now c.requires.target.fix c.fix.ensures c.requires.target.there) in
    lengthens-beaten fixes ways target c.args.from c.index-way.result.now c.sq-chord.result c.args.found.now c.requires.known
    (c.index-way.ensures ∙ get_or_default ways c.args.from c.index-way.result.now 0 within) square (c.is_beaten.ensures.none c.if-not-is_beaten.false)
