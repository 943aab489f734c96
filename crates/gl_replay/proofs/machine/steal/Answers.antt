use Rattle.std.proofs.Common.{◌≡◌, ◌∙◌, sym, ap, refl, subst, [], ◌<◌, length, get_or, slice_set, arith}
use Rattle.std.specs.Option.{is_some}
use Rattle.std.proofs.lemmas.List.{get_or_default}
use Rattle.gl_box.specs.declared.cell.Cell.{Cell}
use Rattle.gl_replay.specs.declared.worker.Worker.{Worker}
use Rattle.gl_replay.proofs.Turns.{empty_hand, steals_full, still_there, theft_tries, thief_there, there_plain}
use Rattle.std.specs.Prelude.{IfNone, Option}
use Rattle.gl_replay.specs.Code.Workers.{worker_of}
use Rattle.gl_replay.proofs.machine.steal.Goals as goal

pub returns-then-is_some : goal.returns-then-is_some
returns-then-is_some c = steals_full c.args.workers.now c.args.number c.args.other c.index-workers-place.result (omega (arith, c.if-max-workers.false, c.max.ensures)) (sym c.if-is_some.ensures)

pub returns : goal.returns
returns c =
    let workers = c.args.workers.now in
    let victim = get_or workers c.args.other c.index-workers-from.result in
    let robbed = c.give-stolen.new.self in
    let d = c.index-workers-place-2.result in
    let thief = get_or (slice_set workers c.args.other robbed) c.args.number d in
    let holder : Worker = record thief { hand = c.give-stolen.result } in
    let inside : c.args.number < length workers = omega (arith, c.if-max-workers.false, c.max.ensures) in
    let from : c.args.other < length workers = omega (arith, c.if-max-workers.false, c.max.ensures) in
    let still = still_there workers c.args.number c.args.other robbed d c.if-place-from.false ∙ get_or_default workers c.args.number d c.index-workers-place.result inside in
    theft_tries workers c.args.number c.args.other thief robbed holder victim c.give-stolen.result (record {
      another = c.if-place-from.false;
      is_thief = thief_there workers c.args.number c.args.other robbed d c.if-place-from.false inside;
      is_victim = there_plain workers c.args.other c.index-workers-from.result from;
      empty = empty_hand thief.hand (ap (λ (w : Worker). is_some w.hand) still ∙ sym c.if-is_some.ensures);
      emptied = λ nothing. subst (λ (o : Option Cell). IfNone o (victim.deque.items ≡ [])) nothing c.give-stolen.ensures.none;
      taken = c.give-stolen.ensures.given;
      robbed_is = ap worker_of c.give-stolen.ensures.others;
      holder_is = refl;
    })
