use Rattle.std.proofs.Common.{refl, ◌+◌}
use Rattle.std.proofs.lemmas.List.{take_rest}
use Rattle.gl_series.proofs.Summed.{sums_at}
use Rattle.gl_series.proofs.teams.team_sums.Goals as goal

pub loop-place-preserved : goal.loop-place-preserved
loop-place-preserved c =
    let share = c.index-shares-place.result in
    sums_at c.args.shares.now c.loop-place.place share c.loop-place.sums.items c.push_sum.new.sums.items
    (record { member = share.member; total = c.loop-place.total + share.points }) c.loop-place.total c.in_ok-total.total c.requires.sorted c.requires.low c.loop-place.invariant
    c.loop-place-test.true c.index-shares-place.is refl refl (rw (take_rest c.args.shares.now (c.loop-place.place + 1)) at c.in_ok-total.ensures)
