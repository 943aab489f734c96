use Rattle.std.proofs.Common.{refl, Some}
use Rattle.gl_airspace.specs.Line.{PassedOver, Begins, Names}
use Rattle.gl_airspace.proofs.Kept.{says_other}
use Rattle.gl_airspace.proofs.draft.Draft.take.Goals as goal

pub returns-in-PassedOver-clause-says : goal.returns-in-PassedOver-clause-says
returns-in-PassedOver-clause-says c = λ lines says _. rw c.in-PassedOver.is (says_other c.args.self.now lines (Some PassedOver) refl refl refl refl refl refl says)

pub returns-in-Begins-clause-says : goal.returns-in-Begins-clause-says
returns-in-Begins-clause-says c = λ lines says _. rw c.in-Begins.is (says_other c.args.self.now lines (Some Begins) refl refl refl refl refl refl says)

pub returns-in-Names-clause-says : goal.returns-in-Names-clause-says
returns-in-Names-clause-says c = λ lines says _. rw c.in-Names.is (says_other c.args.self.now lines (Some Names) refl refl refl refl refl refl says)
