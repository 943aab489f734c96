use Rattle.std.proofs.Common.{◌≡◌, ◌∙◌, sym, ap, subst, ℕ, [], ◌∷◌, ◌++◌, List, Option, append_assoc}
use Rattle.std.specs.Prelude.{MatchOption}
use Rattle.std.proofs.lemmas.List.{append-nil}
use Rattle.gl_box.specs.declared.closed.Closed.{Closed}
use Rattle.gl_box.specs.declared.closed.Why.{Why}
use Rattle.gl_box.specs.Closed.{box_of}
use Rattle.gl_box.specs.InLists.{boxes_in, still_in}
use Rattle.gl_check.specs.Verdict.{AreSaid}
use Rattle.gl_check.proofs.boxes.said_of.Goals as goal

pub boxes-preserved : goal.boxes-preserved
boxes-preserved g c =
    let l = c.boxes in
    let done = l.invariant.taking.0 in
    let next = box_of c.in-Some.next in
    let left = still_in c.next.new.self in
    let at : still_in l.boxes ≡ next ∷ left =
    subst (λ (found : Option Closed). MatchOption found (still_in l.boxes ≡ []) (λ closed. still_in l.boxes ≡ box_of closed ∷ left)) c.in-Some.is c.in_ok-next.ensures in
    record {
      goal = ap (λ t. t.goal.now) c.in_ok-take.ensures.test ∙ l.invariant.goal;
      total = ap (λ t. t.total) c.in_ok-take.ensures.test ∙ l.invariant.total;
      taking = (
        done ++ next ∷ [],
        c.in_ok-take.ensures.takes done l.invariant.taking.1,
        append_assoc done (next ∷ []) left ∙ ap (λ (boxes : List (List (ℕ × ℕ) × Why)). done ++ boxes) (sym at) ∙ l.invariant.taking.2,
      );
    }

pub returns : goal.returns
returns g c =
    let l = c.boxes in
    let rule = g.G.Goal.rule in
    let test = l.check.test in
    let done = l.invariant.taking.0 in
    let none : still_in l.boxes ≡ [] =
    subst (λ (found : Option Closed). MatchOption found (still_in l.boxes ≡ []) (λ closed. still_in l.boxes ≡ box_of closed ∷ still_in c.next.new.self)) c.in_default.is c.in_ok-next.ensures in
    let all : done ≡ boxes_in c.args.cells.now =
    sym (append-nil done) ∙ ap (λ (boxes : List (List (ℕ × ℕ) × Why)). done ++ boxes) (sym none) ∙ l.invariant.taking.2 in
    subst (λ (boxes : List (List (ℕ × ℕ) × Why)). AreSaid (rule c.args.goal.now) c.args.total boxes c.said.result) all
    (subst (λ x. AreSaid (rule x) c.args.total done c.said.result) l.invariant.goal
    (subst (λ (total : Option ℕ). AreSaid (rule test.goal.now) total done c.said.result) l.invariant.total (c.said.ensures done l.invariant.taking.1)))
