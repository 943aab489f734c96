use Rattle.std.proofs.Common.{refl}
use Rattle.gl_judge.proofs.Tours.{lists-then}
use Rattle.gl_judge.proofs.zone_lists.push_numbers.Goals as goal

pub returns : goal.returns
returns c = lists-then (λ list. list.items) c.args.lists.now.items _ c.in_ok-numbers.numbers _ _ refl c.in_ok-push.ensures.items c.in_ok-numbers.ensures
