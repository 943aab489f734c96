use Rattle.std.proofs.Common.{sym, subst, ℕ, ◌<◌, length, get_or, Result, arith}
use Rattle.std.specs.Prelude.{All, IfOk}
use Rattle.std.specs.declared.alloc.AllocError.{AllocError}
use Rattle.std.proofs.lemmas.Result.{IfOk-weaker}
use Rattle.gl_pool.specs.declared.crew.Worker.{Worker}
use Rattle.gl_pool.specs.Code.Crew.{HasTurned}
use Rattle.gl_pool.specs.Code.Tally.{IsTally}
use Rattle.gl_pool.proofs.Turning.{all_reversed, worked_turned}
use Rattle.gl_pool.proofs.crew.work_all.Goals as goal

pub map_vec-requires-after_bounds : goal.map_vec-requires-after_bounds
map_vec-requires-after_bounds g c = λ κs λs i x below read.
    let rule = g.G.Goal.rule c.args.goal.now in
    let P : Worker → Type 0 = λ w. IsTally rule c.args.word.now w.tally in
    let all = all_reversed P c.in_ok-workers.workers.items (c.in_ok-workers.ensures.tallies rule c.requires.tally) in
    let jobs : All P c.reverse.new.self.items = subst (All P) (sym c.reverse.ensures.items) all in
    subst P (sym read) (jobs i x below)

pub returns-clause-tally : goal.returns-clause-tally
returns-clause-tally g c =
    let rule = g.G.Goal.rule c.args.goal.now in
    let jobs = c.reverse.new.self.items in
    let worked = c.in_ok-worked.worked.items in
    let each : (k : ℕ) (d : Result Worker AllocError) (e : Worker) → k < length jobs → IfOk (get_or worked k d) (HasTurned rule c.args.word.now (get_or jobs k e)) =
    λ k d e below.
    let gives = (c.in_ok-worked.ensures.each k d below).1 in
    subst (λ (w : Worker). IfOk (get_or worked k d) (HasTurned rule c.args.word.now w)) (sym (gives.job_is e)) gives.call.met in
    IfOk-weaker c.collected.result _ _
    (λ all collects. (worked_turned rule c.args.word.now c.args.places.items all.0.items c.args.tally all.1 c.in_ok-workers.workers.items jobs worked c.reverse-2.new.self.items c.requires.tally
    c.requires.nothing c.in_ok-workers.ensures c.reverse.ensures.items c.reverse-2.ensures.items
    (omega (arith, c.in_ok-worked.ensures.len, c.reverse.new.self.ok.0, c.in_ok-worked.worked.ok.0)) each collects).0)
    c.collected.ensures

pub returns-clause-worked : goal.returns-clause-worked
returns-clause-worked g c =
    let rule = g.G.Goal.rule c.args.goal.now in
    let jobs = c.reverse.new.self.items in
    let worked = c.in_ok-worked.worked.items in
    let each : (k : ℕ) (d : Result Worker AllocError) (e : Worker) → k < length jobs → IfOk (get_or worked k d) (HasTurned rule c.args.word.now (get_or jobs k e)) =
    λ k d e below.
    let gives = (c.in_ok-worked.ensures.each k d below).1 in
    subst (λ (w : Worker). IfOk (get_or worked k d) (HasTurned rule c.args.word.now w)) (sym (gives.job_is e)) gives.call.met in
    IfOk-weaker c.collected.result _ _
    (λ all collects. (worked_turned rule c.args.word.now c.args.places.items all.0.items c.args.tally all.1 c.in_ok-workers.workers.items jobs worked c.reverse-2.new.self.items c.requires.tally
    c.requires.nothing c.in_ok-workers.ensures c.reverse.ensures.items c.reverse-2.ensures.items
    (omega (arith, c.in_ok-worked.ensures.len, c.reverse.new.self.ok.0, c.in_ok-worked.worked.ok.0)) each collects).1)
    c.collected.ensures
