use Rattle.gl_free.proofs.HalfLemmas.{ways-limited}
use Rattle.gl_free.proofs.half.Half.new.Goals as goal

pub farthest_allowed-requires-clause-order : goal.farthest_allowed-requires-clause-order
farthest_allowed-requires-clause-order c = c.requires.order

pub new-requires-clause-some : goal.new-requires-clause-some
new-requires-clause-some c = c.requires.some

pub new-requires-clause-few : goal.new-requires-clause-few
new-requires-clause-few c = c.requires.few

pub new-requires-clause-order : goal.new-requires-clause-order
new-requires-clause-order c = c.requires.order

pub new-requires-clause-limited : goal.new-requires-clause-limited
new-requires-clause-limited c = ways-limited c.args.hulls.now c.args.allowed.now c.in_ok-ends.ends.items c.in_ok-ways.ways.items c.in_ok-ends.ensures.farthest c.in_ok-ways.ensures.ways
    c.in_ok-ways.ensures.long
