use Rattle.gl_words.specs.BadgeWords.{badge_seen}
use Rattle.gl_words.specs.NearWords.{near_seen, point_seen}
use Rattle.gl_words.specs.ReplayWords.{replay_seen}
use Rattle.gl_words.specs.SeriesWords.{series_seen}
use Rattle.gl_app.specs.Demo.{demo_promise}
use Rattle.gl_flights.specs.Free.{free_promise}
use Rattle.gl_flights.specs.Replay.{replay_promise}
use Rattle.gl_flights.specs.Series.{series_promise}
use Rattle.gl_flights.specs.Triangle.{triangle_promise}
use Rattle.gl_app.proofs.Badges.{badge_checked}
use Rattle.gl_answer.proofs.Answered.{reads_right, unread_right}
use Rattle.gl_flights.proofs.Nears.{near_checked, pointed}
use Rattle.gl_app.proofs.running.answer_to_command.Goals as goal

pub returns-in-Free-clause-right : goal.returns-in-Free-clause-right
returns-in-Free-clause-right g c =
    let before = g.D.Desk.told c.args.desk.now in
    let promise = free_promise before.folder c.in-Free.file.now in
    rw c.in-Free.is (reads_right promise.IsRight promise.Passes before (g.D.Desk.told c.answer_of_file.new.desk) c.answer_of_file.result c.answer_of_file.ensures.right c.answer_of_file.ensures.reads)

pub returns-in-Triangle-clause-right : goal.returns-in-Triangle-clause-right
returns-in-Triangle-clause-right g c =
    let before = g.D.Desk.told c.args.desk.now in
    let promise = triangle_promise before.folder c.in-Triangle.file.now in
    rw c.in-Triangle.is (reads_right promise.IsRight promise.Passes before
    (g.D.Desk.told c.answer_of_file-in-Triangle.new.desk) c.answer_of_file-in-Triangle.result c.answer_of_file-in-Triangle.ensures.right c.answer_of_file-in-Triangle.ensures.reads)

pub returns-in-Replay-clause-right : goal.returns-in-Replay-clause-right
returns-in-Replay-clause-right g c =
    let before = g.D.Desk.told c.args.desk.now in
    let promise = replay_promise before.folder (replay_seen c.in-Replay.words) in
    rw c.in-Replay.is (reads_right promise.IsRight promise.Passes before
    (g.D.Desk.told c.replay_schedule.new.desk) c.replay_schedule.result c.replay_schedule.ensures.right c.replay_schedule.ensures.reads)

pub returns-in-NearCheck-clause-right : goal.returns-in-NearCheck-clause-right
returns-in-NearCheck-clause-right g c =
    rw c.in-NearCheck.is (near_checked (near_seen c.in-NearCheck.words) (g.D.Desk.told c.args.desk.now)
    (g.D.Desk.told c.near_check.new.desk) c.near_check.result c.near_check.ensures.right c.near_check.ensures.reads)

pub returns-in-Point-clause-right : goal.returns-in-Point-clause-right
returns-in-Point-clause-right g c =
    let before = g.D.Desk.told c.args.desk.now in
    let words = c.in-Point.words in
    rw c.in-Point.is (pointed (point_seen words) words.place.place words.place.reads before
    (g.D.Desk.told c.answer_of_file-in-Point.new.desk) c.answer_of_file-in-Point.result c.answer_of_file-in-Point.ensures.right c.answer_of_file-in-Point.ensures.reads)

pub returns-in-BadgeCheck-clause-right : goal.returns-in-BadgeCheck-clause-right
returns-in-BadgeCheck-clause-right g c =
    rw c.in-BadgeCheck.is (badge_checked (badge_seen c.in-BadgeCheck.words) (g.D.Desk.told c.args.desk.now)
    (g.D.Desk.told c.badge_check.new.desk) c.badge_check.result c.badge_check.ensures.right c.badge_check.ensures.reads)

pub returns-in-Series-clause-right : goal.returns-in-Series-clause-right
returns-in-Series-clause-right g c =
    let before = g.D.Desk.told c.args.desk.now in
    let promise = series_promise before.folder (series_seen c.in-Series.words) in
    rw c.in-Series.is (reads_right promise.IsRight promise.Passes before (g.D.Desk.told c.series.new.desk) c.series.result c.series.ensures.right c.series.ensures.reads)

pub returns-in-Demo-clause-right : goal.returns-in-Demo-clause-right
returns-in-Demo-clause-right g c =
    let before = g.D.Desk.told c.args.desk.now in
    let promise = demo_promise before.folder _ c.in-Demo.day.number in
    rw c.in-Demo.is (unread_right promise.IsRight promise.Passes before c.demo.result c.demo.ensures.right)
