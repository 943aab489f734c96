use Rattle.std.proofs.Common.{ℕ, List}
use Rattle.gl_series.specs.declared.series.Member.{Member}
use Rattle.gl_series.proofs.Kept.{kept_item}
use Rattle.gl_series.proofs.list.put.Goals as goal

pub returns-in_ok-push-in-Team-clause-kept : goal.returns-in_ok-push-in-Team-clause-kept
returns-in_ok-push-in-Team-clause-kept c =
    let number : Member → List ℕ = λ member. member.number in
    kept_item number c.args.numbers.now.seen c.add.new.self.seen c.args.teams.now.items c.push-in-Team.new.self.items c.in-Team.member c.in_ok-push-in-Team.ensures.items c.in_ok-add-in-Team.ensures
    c.requires
