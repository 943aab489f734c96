use Rattle.std.proofs.Common.{◌≡◌, ◌∙◌, ap, arith, rules, w32, ℤ, map, Ok, to_z, of_z}
use Rattle.std.specs.Prelude.{filter, length, ◌+ℤ◌}
use Rattle.std.proofs.lemmas.Int.{to_z-of_z}
use Rattle.std.proofs.lemmas.Bool.Decides.{nat_tests}
use Rattle.std.proofs.lemmas.List.{length-map}
use Rattle.gl_igc.specs.Declaration.{is_declaration_line}
use Rattle.gl_igc.specs.FixLine.{is_fix_line}
use Rattle.gl_igc.specs.Code.Parts.{shifted}
use Rattle.gl_igc.specs.Recording.{sighting_of, declared_of}
use Rattle.gl_igc.specs.declared.fix.Fix.{Fix}
use Rattle.gl_igc.proofs.FinishLemmas.{finish-excess, finish-empty, finish-some, finish-fixes, finish-events, finish-skipped, reading-is, finish-rising, moved-length, none_from}
use Rattle.gl_igc.proofs.finish.finish_fixes.Goals as goal

pub returns-in-Some : goal.returns-in-Some
returns-in-Some c = λ lines of.
    finish-excess lines (length (filter is_fix_line lines)) c.args.progress.track c.args.date c.args.shift c.in-Some.line of.track c.in-Some.is

pub returns-then-is_empty : goal.returns-then-is_empty
returns-then-is_empty c = λ lines of.
    finish-empty lines (length (filter is_fix_line lines)) c.args.progress.track c.args.date c.args.shift of.track (none_from _ c.in_default.not-Some) (grind (arith, nat_tests))

moved : (c : goal.After-declared) → map sighting_of c.from_vec.result ≡ map (shifted (to_z w32 (of_z w32 c.args.shift))) (map sighting_of c.args.progress.track.fixes.items)
moved c = ap (map sighting_of) c.from_vec.ensures ∙ c.shift_fixes.ensures

pub invariant_of-result-clause-some_fix : goal.invariant_of-result-clause-some_fix
invariant_of-result-clause-some_fix c =
    let long = moved-length (to_z w32 (of_z w32 c.args.shift)) c.args.progress.track.fixes.items c.from_vec.result (moved c) in
    grind (arith, nat_tests)

pub invariant_of-result-clause-at_most_90000 : goal.invariant_of-result-clause-at_most_90000
invariant_of-result-clause-at_most_90000 c =
    let long = moved-length (to_z w32 (of_z w32 c.args.shift)) c.args.progress.track.fixes.items c.from_vec.result (moved c) in
    omega (arith, c.args.progress.track.own.few, length-map c.args.progress.track.fixes.items (λ (fix : Fix). fix.second))

pub invariant_of-result-clause-rising : goal.invariant_of-result-clause-rising
invariant_of-result-clause-rising c =
    finish-rising (to_z w32 (of_z w32 c.args.shift)) c.args.progress.track.fixes.items c.from_vec.result (moved c) c.args.progress.track.own.rising

pub returns : goal.returns
returns c = λ lines of.
    let track = c.args.progress.track in
    let none = none_from _ c.in_default.not-Some in
    let shift : to_z w32 (of_z w32 c.args.shift) ≡ c.args.shift = to_z-of_z w32 c.args.shift (search rules) in
    let all : map sighting_of c.from_vec.result ≡ map (shifted c.args.shift) (map sighting_of track.fixes.items) =
    ap (map sighting_of) c.from_vec.ensures ∙ c.shift_fixes.ensures ∙ ap (λ (s : ℤ). map (shifted s) (map sighting_of track.fixes.items)) shift in
    let seconds : c.from_vec-2.result ≡ map (λ second. second +ℤ c.args.shift) c.args.progress.events.seconds.items =
    c.from_vec-2.ensures ∙ c.shift_events.ensures ∙ ap (λ (s : ℤ). map (λ second. second +ℤ s) c.args.progress.events.seconds.items) shift in
    finish-some lines (length (filter is_fix_line lines)) track c.args.date c.args.shift of.track none (grind (arith, nat_tests))
    ∙ ap Ok (reading-is lines c.args.date c.args.shift (to_z w32 (of_z w32 c.args.date)) (map sighting_of c.from_vec.result) c.from_vec-2.result (declared_of c.declared.result) track.skipped
    (to_z-of_z w32 c.args.date (search rules)) (finish-fixes lines (length (filter is_fix_line lines)) track c.args.shift c.from_vec.result of.track none all)
    (finish-events lines c.args.shift c.args.progress.events.seconds.items c.from_vec-2.result (of.events none) seconds) (c.declared.ensures (filter is_declaration_line lines) of.declaration)
    (finish-skipped lines track of.track none))
