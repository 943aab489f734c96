use Rattle.std.proofs.Common.{arith}
use Rattle.gl_sphere.proofs.Arcs.{arc_over_bound, arc_over-sum, arc_over-two, arc_over-three}
use Rattle.gl_sphere.proofs.distance.arc.Goals as goal

pub overflow_add-result : goal.overflow_add-result
overflow_add-result c =
    omega (arith, arc_over-two c.args.chord (omega arith), arc_over_bound c.args.chord c.requires)

pub returns-then-chord-lt-THIRD_TERM_FROM-clause-value : goal.returns-then-chord-lt-THIRD_TERM_FROM-clause-value
returns-then-chord-lt-THIRD_TERM_FROM-clause-value c =
    omega (arith, arc_over-two c.args.chord (omega arith), arc_over_bound c.args.chord c.requires)

pub returns-then-chord-lt-THIRD_TERM_FROM-clause-bound : goal.returns-then-chord-lt-THIRD_TERM_FROM-clause-bound
returns-then-chord-lt-THIRD_TERM_FROM-clause-bound c =
    omega (arith, arc_over-two c.args.chord (omega arith), arc_over_bound c.args.chord c.requires)

pub overflow_add-result-then-chord-lt-FOURTH_TERM_FROM : goal.overflow_add-result-then-chord-lt-FOURTH_TERM_FROM
overflow_add-result-then-chord-lt-FOURTH_TERM_FROM c =
    omega (arith, arc_over-three c.args.chord (omega arith), arc_over_bound c.args.chord c.requires)

pub overflow_add-result-then-chord-lt-FOURTH_TERM_FROM-2 : goal.overflow_add-result-then-chord-lt-FOURTH_TERM_FROM-2
overflow_add-result-then-chord-lt-FOURTH_TERM_FROM-2 c =
    omega (arith, arc_over-three c.args.chord (omega arith), arc_over_bound c.args.chord c.requires)

pub returns-then-chord-lt-FOURTH_TERM_FROM-clause-value : goal.returns-then-chord-lt-FOURTH_TERM_FROM-clause-value
returns-then-chord-lt-FOURTH_TERM_FROM-clause-value c =
    omega (arith, arc_over-three c.args.chord (omega arith), arc_over_bound c.args.chord c.requires)

pub returns-then-chord-lt-FOURTH_TERM_FROM-clause-bound : goal.returns-then-chord-lt-FOURTH_TERM_FROM-clause-bound
returns-then-chord-lt-FOURTH_TERM_FROM-clause-bound c =
    omega (arith, arc_over-three c.args.chord (omega arith), arc_over_bound c.args.chord c.requires)

pub overflow_add-result-2 : goal.overflow_add-result-2
overflow_add-result-2 c =
    omega (arith, arc_over-sum c.args.chord, arc_over_bound c.args.chord c.requires)

pub overflow_add-result-3 : goal.overflow_add-result-3
overflow_add-result-3 c =
    omega (arith, arc_over-sum c.args.chord, arc_over_bound c.args.chord c.requires)

pub overflow_add-result-4 : goal.overflow_add-result-4
overflow_add-result-4 c =
    omega (arith, arc_over-sum c.args.chord, arc_over_bound c.args.chord c.requires)

pub returns-clause-value : goal.returns-clause-value
returns-clause-value c =
    omega (arith, arc_over-sum c.args.chord, arc_over_bound c.args.chord c.requires)

pub returns-clause-bound : goal.returns-clause-bound
returns-clause-bound c =
    omega (arith, arc_over-sum c.args.chord, arc_over_bound c.args.chord c.requires)
