use Rattle.std.proofs.Common.{◌≡◌, ◌∙◌, sym, ap, ◌+◌, ◌<◌, List, [], ◌∷◌, ◌++◌, Vec, Global, length, map, set, subst, arith}
use Rattle.std.proofs.Math.Seq.{map-set_same}
use Rattle.gl_deal.specs.declared.hand.Hand.{Hand}
use Rattle.gl_deal.specs.declared.pass.Pass.{Pass}
use Rattle.gl_deal.specs.Tokens.{hand_deque}
use Rattle.gl_deal.proofs.Turns.{IsTurn, turn_own, turn_served}
use Rattle.gl_deal.proofs.dealing.passes_for.Goals.{then-owner-worker+in_ok-serve+in_ok-push, else-owner-worker}
use Rattle.gl_deal.proofs.dealing.passes_for.Goals as goal

pub returns-in_err-serve-clause-deques : goal.returns-in_err-serve-clause-deques
returns-in_err-serve-clause-deques c = map-set_same hand_deque c.loop-owner.hands c.loop-owner.owner c.serve.new.self c.index-hands-owner.result c.serve.ensures.deque
    ∙ c.loop-owner.invariant.deques_are

pub returns-in_err-push-clause-deques : goal.returns-in_err-push-clause-deques
returns-in_err-push-clause-deques c = map-set_same hand_deque c.loop-owner.hands c.loop-owner.owner c.serve.new.self c.index-hands-owner.result c.serve.ensures.deque
    ∙ c.loop-owner.invariant.deques_are

pub loop-owner-preserved : goal.loop-owner-preserved
loop-owner-preserved c =
    let deques = map hand_deque c.args.hands.now in
    let IsNext : List Hand → List Pass → Type 0 = IsTurn deques c.args.worker (c.loop-owner.owner + 1) in
    let within : c.loop-owner.owner < length c.loop-owner.hands = omega (arith, c.loop-owner-test.true, c.loop-owner.auto.hands) in
    elim c.if-owner-worker.branch [
      | then-owner-worker+in_ok-serve+in_ok-push w ↦
          let passes : c.if-owner-worker.passes.items ≡ c.loop-owner.passes.items ++ w.in_ok-serve.field-0 ∷ [] = ap (λ (v : Vec Pass Global). v.items) w.passes-is ∙ w.in_ok-push.ensures.items in
          let next = turn_served deques c.args.worker c.loop-owner.owner c.loop-owner.hands c.loop-owner.passes.items w.index-hands-owner.result w.serve.new.self w.in_ok-serve.field-0
          c.loop-owner.invariant within w.if-owner-worker.true w.serve.ensures.deque w.in_ok-serve.ensures.hand w.in_ok-serve.ensures.pass in
          subst (λ (hands : List Hand). IsNext hands c.if-owner-worker.passes.items) (sym w.hands-is) (subst (IsNext (set c.loop-owner.hands c.loop-owner.owner w.serve.new.self)) (sym passes) next)
      | else-owner-worker w ↦
          let passes : c.if-owner-worker.passes.items ≡ c.loop-owner.passes.items = ap (λ (v : Vec Pass Global). v.items) w.passes-is in
          let next = turn_own deques c.args.worker c.loop-owner.owner c.loop-owner.hands c.loop-owner.passes.items ((0, 0), c.args.alloc) c.loop-owner.invariant within w.if-owner-worker.false in
          subst (λ (hands : List Hand). IsNext hands c.if-owner-worker.passes.items) (sym w.hands-is) (subst (IsNext c.loop-owner.hands) (sym passes) next)
    ]
