use Rattle.std.proofs.Common.{◌≡◌, ◌∙◌, sym, ap, subst, refl, ℕ, ◌-◌, ◌<◌, List, length, arith}
use Rattle.gl_box.specs.Cell.{Covers, ends, spans_of}
use Rattle.gl_box.specs.Halves.{span_at}
use Rattle.gl_box.proofs.Held.{covers_at, length-covers}
use Rattle.gl_box.proofs.Spans.{length-spans_of}
use Rattle.gl_box.specs.declared.cell.Cell.{Cell}
use Rattle.gl_box.specs.declared.span.Span.{Span}
use Rattle.gl_goal.specs.Box.{Box, fixes_in, hull_of, point_box}
use Rattle.gl_goal.specs.Hull.{box_of}
use Rattle.gl_near.specs.Pairing.{least, least_distance, whole_cell}
use Rattle.gl_near.specs.Pairs.{pairing_of}
use Rattle.gl_near.specs.declared.pairs.FlightAndPlace.{FlightAndPlace}
use Rattle.gl_near.specs.declared.pairs.Pairs.{Pairs}
use Rattle.gl_near.specs.declared.pairs.Pairs.TheVariants.{Two, One}
use Rattle.gl_near.specs.declared.pairs.TwoFlights.{TwoFlights}
use Rattle.gl_near.proofs.pairs.Pairs.least.Goals as goal

-- a span of a cell ends before the fixes do
span_in : (pairs same : Pairs) (cell : List (ℕ × ℕ)) (axis count : ℕ) (span : Span) → pairs ≡ same → Covers (whole_cell (pairing_of pairs)) cell → axis < length (whole_cell (pairing_of same))
    → ends span ≡ span_at cell axis → (span_at (whole_cell (pairing_of same)) axis).1 ≡ count - 1 → 0 < count → span.hi < count
span_in pairs same cell axis count span is covers below span_is last some =
    let at = covers_at (whole_cell (pairing_of same)) cell axis (subst (λ (p : Pairs). Covers (whole_cell (pairing_of p)) cell) is covers) below in
    omega (arith, at.1, ap (λ (s : ℕ × ℕ). s.1) span_is, last)

axis_in : (pairs same : Pairs) (cell : Cell) (axis : ℕ) → pairs ≡ same → Covers (whole_cell (pairing_of pairs)) (spans_of cell) → axis < length (whole_cell (pairing_of same)) → axis < cell.axes
axis_in pairs same cell axis is covers below =
    let all = length-covers (whole_cell (pairing_of same)) (spans_of cell) (subst (λ (p : Pairs). Covers (whole_cell (pairing_of p)) (spans_of cell)) is covers) in
    omega (arith, all, length-spans_of cell)

least_two : (pairs : Pairs) (two : TwoFlights) (cell : List (ℕ × ℕ)) (a b : Span) (one other : Box) (total : ℕ) → pairs ≡ Two two → ends a ≡ span_at cell 0 → ends b ≡ span_at cell 1
    → one ≡ hull_of (fixes_in two.one (ends a)) → other ≡ hull_of (fixes_in two.other (ends b)) → total ≡ least_distance one other → total ≡ least (pairing_of pairs) cell
least_two pairs two cell a b one other total is a_is b_is one_is other_is total_is =
    total_is
    ∙ (λ i. least_distance (one_is i) (other_is i))
    ∙ (λ i. least_distance (hull_of (fixes_in two.one (a_is i))) (hull_of (fixes_in two.other (b_is i))))
    ∙ ap (λ (p : Pairs). least (pairing_of p) cell) (sym is)

least_one : (pairs : Pairs) (place : FlightAndPlace) (cell : List (ℕ × ℕ)) (a : Span) (one other : Box) (total : ℕ) → pairs ≡ One place → ends a ≡ span_at cell 0
    → one ≡ hull_of (fixes_in place.flight (ends a)) → other ≡ point_box place.point → total ≡ least_distance one other → total ≡ least (pairing_of pairs) cell
least_one pairs place cell a one other total is a_is one_is other_is total_is =
    total_is
    ∙ (λ i. least_distance (one_is i) (other_is i))
    ∙ (λ i. least_distance (hull_of (fixes_in place.flight (a_is i))) (point_box place.point))
    ∙ ap (λ (p : Pairs). least (pairing_of p) cell) (sym is)

pub returns-in-Two : goal.returns-in-Two
returns-in-Two c =
    least_two c.args.self.now c.in-Two.two (spans_of c.args.cell.now) c.span_of.result c.span_of-in-Two.result (box_of c.hull-hull.result) (box_of c.hull.result) c.between.result c.in-Two.is
    c.span_of.ensures c.span_of-in-Two.ensures c.hull-hull.ensures.value c.hull.ensures.value c.between.ensures

pub returns-in-One : goal.returns-in-One
returns-in-One c =
    least_one c.args.self.now c.in-One.one (spans_of c.args.cell.now) c.span_of-in-One.result (box_of c.hull-hull-in-One.result) (box_of c.point.result) c.between-in-One.result c.in-One.is
    c.span_of-in-One.ensures c.hull-hull-in-One.ensures.value c.point.ensures c.between-in-One.ensures

pub span_of-requires : goal.span_of-requires
span_of-requires c = axis_in c.args.self.now (Two c.in-Two.two) c.args.cell.now 0 c.in-Two.is c.requires (omega arith)

pub hull-hull-requires : goal.hull-hull-requires
hull-hull-requires c =
    span_in c.args.self.now (Two c.in-Two.two) (spans_of c.args.cell.now) 0 (length c.in-Two.two.one) c.span_of.result c.in-Two.is c.requires (omega arith) c.span_of.ensures refl c.in-Two.two.some_fix

pub span_of-requires-in-Two : goal.span_of-requires-in-Two
span_of-requires-in-Two c = axis_in c.args.self.now (Two c.in-Two.two) c.args.cell.now 1 c.in-Two.is c.requires (omega arith)

pub hull-requires : goal.hull-requires
hull-requires c =
    span_in c.args.self.now (Two c.in-Two.two) (spans_of c.args.cell.now) 1 (length c.in-Two.two.other) c.span_of-in-Two.result c.in-Two.is c.requires (omega arith) c.span_of-in-Two.ensures refl c.in-Two.two.some_other

pub span_of-requires-in-One : goal.span_of-requires-in-One
span_of-requires-in-One c = axis_in c.args.self.now (One c.in-One.one) c.args.cell.now 0 c.in-One.is c.requires (omega arith)

pub hull-hull-requires-in-One : goal.hull-hull-requires-in-One
hull-hull-requires-in-One c =
    span_in c.args.self.now (One c.in-One.one) (spans_of c.args.cell.now) 0 (length c.in-One.one.flight) c.span_of-in-One.result c.in-One.is c.requires (omega arith) c.span_of-in-One.ensures refl c.in-One.one.some_fix
