use Rattle.gl_points.proofs.Held.{some_distance, within_distance, within_speed}
use Rattle.gl_points.proofs.points.share.Goals as goal

pub speed_share-requires-clause-at_most : goal.speed_share-requires-clause-at_most
speed_share-requires-clause-at_most c = within_speed c.requires.part.list c.args.day.now c.args.performance.now c.requires.part.day_of c.requires.part.among c.if-performance.true

pub distance_share-requires-clause-some : goal.distance_share-requires-clause-some
distance_share-requires-clause-some c = some_distance c.requires.part.list c.args.day.now c.requires.part.day_of c.requires.far

pub distance_share-requires-clause-at_most : goal.distance_share-requires-clause-at_most
distance_share-requires-clause-at_most c = within_distance c.requires.part.list c.args.day.now c.args.performance.now c.requires.part.day_of c.requires.part.among c.requires.launched
