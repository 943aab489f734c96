use Rattle.gl_airspace.proofs.Kept.{says_centre}
use Rattle.gl_airspace.proofs.draft.Draft.take_centre.Goals as goal

pub returns : goal.returns
returns c = λ lines says. says_centre c.args.self.now lines c.args.place says
