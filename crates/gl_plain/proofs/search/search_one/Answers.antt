use Rattle.std.proofs.Common.{None, map}
use Rattle.std.proofs.lemmas.Result.{IfOk-weaker}
use Rattle.gl_box.proofs.Parts.{mult-held}
use Rattle.gl_goal.specs.Goal.{whole_cell}
use Rattle.gl_goal.proofs.Optimum.{certificate_optimum}
use Rattle.gl_goal.proofs.Totals.{none_exactly}
use Rattle.gl_plain.specs.Found.{boxes_of}
use Rattle.gl_plain.proofs.GivenWay.{whole_done, whole_frontier, whole_needed}
use Rattle.gl_plain.proofs.Stack.{certificate_made}
use Rattle.gl_plain.proofs.search.search_one.Goals as goal

pub finish-requires-clause-parted : goal.finish-requires-clause-parted
finish-requires-clause-parted g c = whole_frontier (g.G.Goal.rule c.args.goal.now) c.whole.result c.whole.ensures

pub finish-requires-clause-done : goal.finish-requires-clause-done
finish-requires-clause-done g c = whole_done (g.G.Goal.rule c.args.goal.now) None c.whole.result

pub returns-clause-certificate : goal.returns-clause-certificate
returns-clause-certificate g c =
    IfOk-weaker c.finish.result _ _ (λ found end. certificate_made (g.G.Goal.rule c.args.goal.now) found.best (boxes_of found) end.sound end.parted end.closed) c.finish.ensures

pub returns-clause-once : goal.returns-clause-once
returns-clause-once g c =
    IfOk-weaker c.finish.result _ _ (λ found end tuple held. mult-held (whole_cell (g.G.Goal.rule c.args.goal.now).axes) (map (λ box. box.0) (boxes_of found)) tuple end.parted held) c.finish.ensures

pub returns-clause-optimum : goal.returns-clause-optimum
returns-clause-optimum g c =
    IfOk-weaker c.finish.result _ _ (λ found certified. certificate_optimum _ _ _ _ (g.met.G.Goal.laws c.args.goal.now) certified) (returns-clause-certificate g c)

pub returns-clause-none : goal.returns-clause-none
returns-clause-none g c =
    IfOk-weaker c.finish.result _ _ (λ found optimum. none_exactly (g.G.Goal.rule c.args.goal.now) found.best optimum) (returns-clause-optimum g c)

pub returns-clause-needed : goal.returns-clause-needed
returns-clause-needed g c =
    IfOk-weaker c.finish.result _ _ (λ found end. whole_needed (g.G.Goal.rule c.args.goal.now) c.whole.result None found c.whole.ensures end) c.finish.ensures
