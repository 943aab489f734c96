use Rattle.std.proofs.Common.{◌≡◌, ◌∙◌, sym, ap, ℕ, suc, ◌+◌, ◌-◌, arith, Some, drop, List}
use Rattle.std.proofs.lemmas.List.{take_rest}
use Rattle.std.specs.Prelude.{option_map}
use Rattle.gl_text.specs.Digits.{columns}
use Rattle.gl_igc.specs.Extension.{Extension, Group, groups_of, group_of}
use Rattle.gl_igc.specs.Parts.{extension_view, span_view}
use Rattle.gl_igc.proofs.GroupLemmas.{with_groups, groups-more, groups-stop, group_of-cut}
use Rattle.gl_igc.proofs.groups.read_groups.Goals as goal

pub returns-then-rest-lt-GROUP_LENGTH : goal.returns-then-rest-lt-GROUP_LENGTH
returns-then-rest-lt-GROUP_LENGTH c =
    let l = c.loop-group in
    let more : c.args.count - l._group ≡ suc (c.args.count - (l._group + 1)) = omega arith in
    sym (groups-stop (extension_view l.fields) (c.args.count - l._group) (c.args.count - (l._group + 1)) l.rest.now more (group_of-cut l.rest.now c.if-rest-lt-GROUP_LENGTH.true)) ∙ l.invariant

pub loop-group-preserved : goal.loop-group-preserved
loop-group-preserved c =
    let l = c.loop-group in
    let more : c.args.count - l._group ≡ suc (c.args.count - (l._group + 1)) = omega arith in
    let group : Group = record { code = columns 5 7 l.rest.now; span = span_view c.in_ok-field.field } in
    let reads : group_of l.rest.now ≡ Some group = c.in_ok-field.ensures in
    let step = groups-more (extension_view l.fields) (c.args.count - l._group) (c.args.count - (l._group + 1)) l.rest.now group more reads in
    ap (λ (rest : List ℕ). option_map (with_groups (extension_view c.with_group-fields.result)) (groups_of (c.args.count - (l._group + 1)) rest)) (take_rest l.rest.now 7)
    ∙ ap (λ (fields : Extension). option_map (with_groups fields) (groups_of (c.args.count - (l._group + 1)) (drop 7 l.rest.now))) c.with_group-fields.ensures ∙ sym step ∙ l.invariant
