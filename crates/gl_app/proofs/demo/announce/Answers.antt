use Rattle.std.proofs.Common.{[], refl, subst}
use Rattle.gl_words.specs.DayNames.{names_seen}
use Rattle.gl_answer.specs.declared.status.Status.TheVariants.{Done}
use Rattle.gl_answer.specs.Answer.{answer_with}
use Rattle.gl_app.specs.Demo.{IsCountOf}
use Rattle.gl_app.specs.Code.Shelf.{folder_on, told_on}
use Rattle.gl_app.proofs.Demos.{demo_announced, demo_done, scored_folder, small_of}
use Rattle.gl_app.proofs.demo.announce.Goals as goal

pub returns-clause-right : goal.returns-clause-right
returns-clause-right g c =
    let shelf = c.args.shelf.now in
    let folder = folder_on shelf in
    let behind = c.score.new.desk in
    let right = c.in_ok-scored.ensures.right in
    let answer = answer_with c.in_ok-scored.scored right.0 in
    let names = names_seen c.args.names in
    let scored = scored_folder c.size_of-bytes.result (told_on shelf) (told_on behind) folder (folder_on behind) _ names answer refl refl right.1 c.in-Done.is right.2
    (λ bytes there. small_of c.size_of-bytes.result (folder_on behind names.proof) bytes c.size_of-bytes.ensures there) in
    demo_announced _ c.args.day.number folder names answer _ c.in_ok-claims.claims (record { has = c.requires.files; names_are = c.requires.names; is = right.1 })
    (subst (λ text. IsCountOf text c.in_ok-claims.claims) scored.1 (c.in_ok-claims.ensures.counted scored.0))
    (λ i. record { status = Done; said = c.in_ok-push_claims.ensures i; appended = [] })

pub accepted_claims-requires : goal.accepted_claims-requires
accepted_claims-requires g c =
    let shelf = c.args.shelf.now in
    let folder = folder_on shelf in
    let behind = c.score.new.desk in
    let right = c.in_ok-scored.ensures.right in
    let answer = answer_with c.in_ok-scored.scored right.0 in
    let names = names_seen c.args.names in
    (scored_folder c.size_of-bytes.result (told_on shelf) (told_on behind) folder (folder_on behind) _ names answer refl refl right.1 c.in-Done.is right.2
    (λ bytes there. small_of c.size_of-bytes.result (folder_on behind names.proof) bytes c.size_of-bytes.ensures there)).0

pub unreachable-requires : goal.unreachable-requires
unreachable-requires g c =
    let right = c.in_ok-scored.ensures.right in
    c.in_default.not-Done
    (demo_done _ c.args.day.number (folder_on c.args.shelf.now) (names_seen c.args.names) (answer_with c.in_ok-scored.scored right.0)
    (record { has = c.requires.files; names_are = c.requires.names; is = right.1 }))
