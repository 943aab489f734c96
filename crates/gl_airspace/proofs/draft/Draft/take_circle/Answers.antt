use Rattle.gl_airspace.proofs.Kept.{says_circle, none_from}
use Rattle.gl_airspace.proofs.draft.Draft.take_circle.Goals as goal

pub returns-clause-says : goal.returns-clause-says
returns-clause-says c = λ lines says _.
    says_circle c.args.self.now lines (record { centre = c.vector-centre.result; radius = c.args.radius }) c.in-Some.place says (none_from _ c.if-is_some.ensures) c.in-Some.is c.vector-centre.ensures
