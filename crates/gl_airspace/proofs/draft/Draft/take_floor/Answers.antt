use Rattle.std.proofs.Common.{w32}
use Rattle.std.proofs.lemmas.Int.{to_z-of_z}
use Rattle.gl_airspace.proofs.Kept.{says_floor, none_from}
use Rattle.gl_airspace.proofs.draft.Draft.take_floor.Goals as goal

pub returns-clause-says : goal.returns-clause-says
returns-clause-says c = λ lines says _.
    rw (to_z-of_z w32 c.args.metres c.ranges.metres) (says_floor c.args.self.now lines c.args.metres says (none_from _ c.if-is_some.ensures))
