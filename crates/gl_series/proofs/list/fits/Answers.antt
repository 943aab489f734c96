use Rattle.std.proofs.Common.{◌≢◌, ℕ, List, map}
use Rattle.std.proofs.lemmas.List.Elements.{All-map}
use Rattle.gl_series.specs.declared.series.Member.{Member}
use Rattle.gl_series.proofs.Growing.{member_fits, member_room}
use Rattle.gl_series.proofs.list.fits.Goals as goal
use Rattle.gl_text.proofs.Lists.{All-unmap}

pub returns-then-teams-lt-MOST_MEMBERS : goal.returns-then-teams-lt-MOST_MEMBERS
returns-then-teams-lt-MOST_MEMBERS c =
    let days = c.args.days.now in
    let teams = c.args.teams.now in
    let member = c.in-Team.member in
    let number : Member → List ℕ = λ other. other.number in
    let apart : List ℕ → Type 0 = λ other. other ≢ member.number in
    let new = c.is_new.ensures (map number teams) c.requires.kept in
    rw c.in-Team.is (
      λ is. member_fits days teams member c.requires.series c.if-teams-lt-MOST_MEMBERS.true (All-unmap apart number teams (new.0 is)),
      λ fit. new.1 (All-map apart number teams (member_room days teams member fit).1),
    )
