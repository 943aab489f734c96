-- Each step of a hand or of a pass keeps the rule of its deque.
use Rattle.std.proofs.Common.{◌≡◌, ◌∙◌, sym, ap, refl, subst, ℕ, ◌+◌, true, true≢false, List, [], ◌∷◌, ◌++◌, length, set, arith}
use Rattle.std.proofs.lemmas.List.{map-append}
use Rattle.std.proofs.lemmas.List.Elements.{All-append, All-set}
use Rattle.std.proofs.lemmas.List.Sums.{sum_by-append}
use Rattle.std.specs.List.{sum_by}
use mathlib.Core.Option.{some}
use lib.ListN.{get_elem?}
use Rattle.crossbeam_deque.specs.Tasks.{Pushes, Takes, Pops, Finds, Forks, Merges}
use Rattle.gl_box.specs.declared.cell.Cell.{Cell}
use Rattle.gl_deal.specs.declared.view.HandView.{HandView}
use Rattle.gl_deal.specs.declared.view.PassView.{PassView}
use Rattle.gl_deal.specs.declared.view.View.{View}
use Rattle.gl_deal.specs.declared.view.View.TheVariants.{OfHand, OfPass}
use Rattle.gl_deal.specs.Views.{as_hand, as_pass, is_hand, is_pass, new_pass, with_put, with_settled, with_stolen, with_taken}
use Rattle.gl_deal.specs.Code.Deal.{with_earlier, with_later}
use Rattle.gl_deal.specs.Rule.{IsShared, IsBalanced, HasEachWorkerOnce, HasSettledAll, TookAllItPut, TakesForSomeone, times}
use Rattle.gl_deal.proofs.Workers.{all_taken, once_more, sum_with, times_both, times_more}
use Rattle.gl_deal.proofs.Seats.{all_one, seated, IsFirst, IsLater, hand_first, pass_later, sum_set}

-- the hand of a deque, by the view that stands at its port
first_in : (cells : List Cell) (views : List View) (port : ℕ) (known : HandView) (dealt : IsShared cells views) → get_elem? views port ≡ some (OfHand known)
    → IsFirst dealt.hand known dealt.passes port
first_in cells views port known dealt is = hand_first dealt.hand known dealt.passes port (subst (λ vs. get_elem? vs port ≡ some (OfHand known)) dealt.views_are is)

later_in : (cells : List Cell) (views : List View) (port : ℕ) (known : PassView) (dealt : IsShared cells views) → get_elem? views port ≡ some (OfPass known)
    → IsLater dealt.hand known dealt.passes port
later_in cells views port known dealt is = pass_later dealt.hand known dealt.passes port (subst (λ vs. get_elem? vs port ≡ some (OfPass known)) dealt.views_are is)

-- The hand's new view keeps the rule where it says as much of the workers, and is balanced
hand_steps : (before after : List Cell) (views : List View) (port : ℕ) (known next : HandView) (dealt : IsShared before views) → get_elem? views port ≡ some (OfHand known)
    → (IsBalanced before known dealt.passes → IsBalanced after next dealt.passes)
    → (HasEachWorkerOnce known dealt.passes → HasEachWorkerOnce next dealt.passes)
    → IsShared after (set views port (OfHand next))
hand_steps before after views port known next dealt is balance served =
    let first = first_in before views port known dealt is in
    record {
      hand = next;
      passes = dealt.passes;
      views_are = ap (λ vs. set vs port (OfHand next)) dealt.views_are ∙ first.put_back next;
      balanced = balance (subst (λ hand. IsBalanced before hand dealt.passes) first.same dealt.balanced);
      served = served (subst (λ hand. HasEachWorkerOnce hand dealt.passes) first.same dealt.served);
      idle = dealt.idle;
    }

pub puts : (port : ℕ) (view : View) (cells : List Cell) → is_hand view ≡ true → Pushes IsShared port view cells (λ after. after ≡ OfHand (with_put (as_hand view) cells))
puts port (OfPass pass) cells is items views dealt at = absurd (true≢false (sym is))
puts port (OfHand hand) cells is items views dealt at = (
  OfHand (with_put hand cells),
  hand_steps items (items ++ cells) views port hand (with_put hand cells) dealt at
      (λ balanced weight. let b = balanced weight in omega (arith, sum_by-append weight hand.put cells, sum_by-append weight items cells))
      (λ served. served),
  refl,
)

pub takes : (port : ℕ) (view : View) → is_hand view ≡ true → Takes IsShared port view 1 (λ cells after. after ≡ OfHand (with_taken (as_hand view) cells))
takes port (OfPass pass) is cells items views some_ one dealt at = absurd (true≢false (sym is))
takes port (OfHand hand) is cells items views some_ one dealt at = (
  OfHand (with_taken hand cells),
  hand_steps (cells ++ items) items views port hand (with_taken hand cells) dealt at
      (λ balanced weight. let b = balanced weight in omega (arith, sum_by-append weight hand.taken cells, sum_by-append weight cells items))
      (λ served. served),
  refl,
)

pub pops : (port : ℕ) (view : View) → is_hand view ≡ true → Pops IsShared port view (λ cells after. after ≡ OfHand (with_taken (as_hand view) cells))
pops port (OfPass pass) is cell items views dealt at = absurd (true≢false (sym is))
pops port (OfHand hand) is cell items views dealt at = (
  OfHand (with_taken hand (cell ∷ [])),
  hand_steps (items ++ cell ∷ []) items views port hand (with_taken hand (cell ∷ [])) dealt at
      (λ balanced weight. let b = balanced weight in omega (arith, sum_by-append weight hand.taken (cell ∷ []), sum_by-append weight items (cell ∷ [])))
      (λ served. served),
  refl,
)

-- A pass's new view keeps the rule where it serves the same workers, some of them, and is balanced
pub steals : (port : ℕ) (view : View) → is_pass view ≡ true → length (as_pass view).serves ≡ 1 → Takes IsShared port view 1 (λ cells after. after ≡ OfPass (with_stolen (as_pass view) cells))
steals port (OfHand hand) is one cells items views some_ few dealt at = absurd (true≢false (sym is))
steals port (OfPass pass) is one cells items views some_ few dealt at =
    let later = later_in (cells ++ items) views port pass dealt at in
    let next : PassView = with_stolen pass cells in
    let passes : List PassView = set dealt.passes later.at next in (
      OfPass next,
      record {
        hand = dealt.hand;
        passes = passes;
        views_are = ap (λ vs. set vs port (OfPass next)) dealt.views_are ∙ later.put_back next;
        balanced = λ weight.
            let b = dealt.balanced weight in
            let s = sum_set (λ (p : PassView). sum_by weight p.taken) dealt.passes later.at pass next later.same in
            omega (arith, sum_by-append weight pass.taken cells, sum_by-append weight cells items);
        served = λ worker.
            let b = dealt.served worker in
            let s = sum_set (λ (p : PassView). times worker p.serves) dealt.passes later.at pass next later.same in
            omega arith;
        idle = All-set TakesForSomeone dealt.passes later.at next (λ none. absurd (omega (arith, one, ap length none))) dealt.idle;
      },
      refl,
    )

-- One more pass comes with the hand's new view
forks : (items : List Cell) (views : List View) (port : ℕ) (known next : HandView) (pass : PassView) (dealt : IsShared items views) → get_elem? views port ≡ some (OfHand known)
    → TakesForSomeone pass
    → (IsBalanced items known dealt.passes → IsBalanced items next (dealt.passes ++ pass ∷ []))
    → (HasEachWorkerOnce known dealt.passes → HasEachWorkerOnce next (dealt.passes ++ pass ∷ []))
    → IsShared items (set views port (OfHand next) ++ OfPass pass ∷ [])
forks items views port known next pass dealt is idle balance served =
    let first = first_in items views port known dealt is in
    record {
      hand = next;
      passes = dealt.passes ++ pass ∷ [];
      views_are = ap (λ vs. set vs port (OfHand next) ++ OfPass pass ∷ []) dealt.views_are
          ∙ ap (λ vs. vs ++ OfPass pass ∷ []) (first.put_back next)
          ∙ ap (λ vs. OfHand next ∷ vs) (sym (map-append (λ (p : PassView). OfPass p) dealt.passes (pass ∷ [])));
      balanced = balance (subst (λ hand. IsBalanced items hand dealt.passes) first.same dealt.balanced);
      served = served (subst (λ hand. HasEachWorkerOnce hand dealt.passes) first.same dealt.served);
      idle = All-append TakesForSomeone dealt.passes (pass ∷ []) dealt.idle (all_one TakesForSomeone pass idle);
    }

pub forks_earlier : (port : ℕ) (view : View) → is_hand view ≡ true → (as_hand view).workers ≡ (as_hand view).owner + 1
    → Forks IsShared port view (OfHand (with_earlier (as_hand view))) (OfPass (new_pass ((as_hand view).owner ∷ [])))
forks_earlier port (OfPass pass) is last items views dealt at = absurd (true≢false (sym is))
forks_earlier port (OfHand hand) is last items views dealt at =
    let pass : PassView = new_pass (hand.owner ∷ []) in
    forks items views port hand (with_earlier hand) pass dealt at (λ none. absurd (omega (arith, ap length none)))
    (λ balanced weight. let b = balanced weight in omega (arith, sum_with (λ (p : PassView). sum_by weight p.taken) dealt.passes pass))
    (λ served worker.
    let b = served worker in
    let n = once_more worker hand.workers in
    let o = ap (λ k. times worker (k ∷ [])) last in
    omega (arith, sum_with (λ (p : PassView). times worker p.serves) dealt.passes pass, times_more worker (hand.owner + 1) hand.settled, times_more worker hand.owner hand.settled))

pub forks_later : (port : ℕ) (view : View) → is_hand view ≡ true
    → Forks IsShared port view (OfHand (with_later (as_hand view))) (OfPass (new_pass ((as_hand view).workers ∷ [])))
forks_later port (OfPass pass) is items views dealt at = absurd (true≢false (sym is))
forks_later port (OfHand hand) is items views dealt at =
    let pass : PassView = new_pass (hand.workers ∷ []) in
    forks items views port hand (with_later hand) pass dealt at (λ none. absurd (omega (arith, ap length none)))
    (λ balanced weight. let b = balanced weight in omega (arith, sum_with (λ (p : PassView). sum_by weight p.taken) dealt.passes pass))
    (λ served worker.
    let b = served worker in
    let n = once_more worker hand.workers in
    omega (arith, sum_with (λ (p : PassView). times worker p.serves) dealt.passes pass))

pub merges : (port : ℕ) (view : View) (other : ℕ) (taken_in : View) → is_hand view ≡ true → is_pass taken_in ≡ true
    → Merges IsShared port view other taken_in (OfHand (with_settled (as_hand view) (as_pass taken_in))) (OfPass (new_pass []))
merges port (OfPass hand) other taken_in is is_other items views dealt at two at_other = absurd (true≢false (sym is))
merges port (OfHand hand) other (OfHand pass) is is_other items views dealt at two at_other = absurd (true≢false (sym is_other))
merges port (OfHand hand) other (OfPass pass) is is_other items views dealt at two at_other =
    let next : HandView = with_settled hand pass in
    let spent : PassView = new_pass [] in
    let first = first_in items views port hand dealt at in
    let set_is : set views port (OfHand next) ≡ seated next dealt.passes = ap (λ vs. set vs port (OfHand next)) dealt.views_are ∙ first.put_back next in
    let later = pass_later next pass dealt.passes other (subst (λ vs. get_elem? vs other ≡ some (OfPass pass)) set_is at_other) in
    record {
      hand = next;
      passes = set dealt.passes later.at spent;
      views_are = ap (λ vs. set vs other (OfPass spent)) set_is ∙ later.put_back spent;
      balanced = λ weight.
          let b = subst (λ (h : HandView). IsBalanced items h dealt.passes) first.same dealt.balanced weight in
          let s = sum_set (λ (p : PassView). sum_by weight p.taken) dealt.passes later.at pass spent later.same in
          omega (arith, sum_by-append weight hand.gathered pass.taken);
      served = λ worker.
          let b = subst (λ (h : HandView). HasEachWorkerOnce h dealt.passes) first.same dealt.served worker in
          let s = sum_set (λ (p : PassView). times worker p.serves) dealt.passes later.at pass spent later.same in
          omega (arith, times_both worker (hand.owner ∷ hand.settled) pass.serves);
      idle = All-set TakesForSomeone dealt.passes later.at spent (λ none. refl) dealt.idle;
    }

pub finds : (port : ℕ) (view : View) → is_hand view ≡ true → Finds IsShared port view (HasSettledAll (as_hand view) → TookAllItPut (as_hand view))
finds port (OfPass pass) is views dealt at all = absurd (true≢false (sym is))
finds port (OfHand hand) is views dealt at all =
    let first = first_in [] views port hand dealt at in
    all_taken hand dealt.passes all (subst (λ (h : HandView). IsBalanced [] h dealt.passes) first.same dealt.balanced)
    (subst (λ (h : HandView). HasEachWorkerOnce h dealt.passes) first.same dealt.served) dealt.idle
