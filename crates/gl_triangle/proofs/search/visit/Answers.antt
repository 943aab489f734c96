use Rattle.std.proofs.Common.{List, ℕ, ◌+◌, ◌-◌, ◌/◌, ◌<◌, sym, ap, subst, slice_set, [], arith}
use Rattle.std.proofs.lemmas.List.{append-nil}
use Rattle.std.proofs.lemmas.Result.{on_ok_weaker}
use Rattle.gl_box.specs.Halves.{width}
use Rattle.gl_igc.specs.declared.fix.Fix.{Fix}
use Rattle.gl_triangle.specs.Code.Node.{IsVisited, fixes_of}
use Rattle.gl_triangle.specs.Code.Spans.{AreWithin, IsWide, axis_of, cell_of}
use Rattle.gl_triangle.proofs.Cells.{among_tuple, lowest_among, single_held, within_ordered}
use Rattle.gl_triangle.proofs.Nodes.{Tested, both_put, bound_out, left_out}
use Rattle.gl_triangle.proofs.search.visit.Goals as goal

pub corner_to_cut-requires : goal.corner_to_cut-requires
corner_to_cut-requires c =
    let ordered = within_ordered (fixes_of c.args.goal.now) c.args.order.now c.args.node.now.spans c.requires.order c.requires.node.within in
    subst (λ (fixes : List Fix). AreWithin fixes c.args.node.now.spans) (sym c.hulls.ensures) ordered

pub in_time-requires-clause-among : goal.in_time-requires-clause-among
in_time-requires-clause-among c = lowest_among c.args.goal.now c.args.node.now.spans _ c.requires.node.within c.lowest.ensures

pub consider-requires-clause-fits : goal.consider-requires-clause-fits
consider-requires-clause-fits c = among_tuple c.args.goal.now _ c.in_time.ensures.among

pub returns-then-node-known-clause-visited : goal.returns-then-node-known-clause-visited
returns-then-node-known-clause-visited c =
    record {
      added = [];
      on_top = sym (append-nil c.args.nodes.now.items);
      replace = bound_out c.args.goal.now c.args.order.now c.args.node.now _ c.requires.order c.requires.node (omega arith);
    }

pub returns-in_default-clause-visited : goal.returns-in_default-clause-visited
returns-in_default-clause-visited c =
    let node = c.args.node.now in
    record {
      added = [];
      on_top = sym (append-nil c.args.nodes.now.items);
      replace = left_out c.args.goal.now c.args.order.now node _ (single_held c.args.goal.now c.args.order.now
          (cell_of node.spans) _ _ _ c.in_default.ensures c.lowest.ensures c.in_time.ensures.in_time c.consider.ensures.considered);
    }

pub returns-clause-visited : goal.returns-clause-visited
returns-clause-visited c =
    let goal = c.args.goal.now in
    let order = c.args.order.now in
    let node = c.args.node.now in
    let known = c.worth-known.result in
    let lo = c.at-span.result.lo in
    let hi = c.at-span.result.hi in
    let middle = lo + (hi - lo) / 2 in
    let corner = c.in-Some.corner in
    let cell = cell_of node.spans in
    let is_wide : IsWide node.spans corner = c.in-Some.ensures in
    let wide : 0 < hi - lo = omega (arith, is_wide, ap width c.at-span.ensures) in
    let low : Tested goal order node known (slice_set cell (axis_of corner) (lo, middle)) c.narrowed-low.result =
    record { is_node = c.narrowed-low.ensures.node; spans = c.narrowed-low.ensures.spans; left_out = c.narrowed-low.ensures.none } in
    let high : Tested goal order node known (slice_set cell (axis_of corner) (middle + 1, hi)) c.narrowed-high.result =
    record { is_node = c.narrowed-high.ensures.node; spans = c.narrowed-high.ensures.spans; left_out = c.narrowed-high.ensures.none } in
    let last : middle < hi = omega arith in
    on_ok_weaker c.push_some-2.result
    (λ second. subst (λ (most : ℕ). IsVisited goal order node most c.args.nodes.now.items c.push_some-2.new.nodes.items) c.worth-known.ensures
    (both_put goal order node corner (lo, hi) middle known c.narrowed-low.result c.narrowed-high.result c.in_order-less.result c.args.nodes.now.items c.push_some.new.nodes.items
    c.push_some-2.new.nodes.items c.at-span.ensures (omega arith) last low high c.in_order-less.ensures c.in_ok-push_some.ensures second))
    c.push_some-2.ensures
