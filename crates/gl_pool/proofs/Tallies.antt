-- What a turn and a gathering leave of a tally.
use Rattle.std.proofs.Common.{◌≡◌, ◌∙◌, sym, ap, subst, ℕ, List, ◌++◌, max, inl, inr, Option, Some, None, arith}
use Rattle.std.specs.Option.{option_or}
use Rattle.std.proofs.lemmas.Grind.{flat_map-append}
use Rattle.std.proofs.lemmas.List.Elements.{All-append, All-same}
use Rattle.gl_box.specs.declared.closed.Why.{Why}
use Rattle.gl_goal.specs.Goal.{Goal}
use Rattle.gl_goal.specs.Certificate.{IsClosedFor}
use Rattle.gl_goal.specs.declared.best.Best.{Best}
use Rattle.gl_goal.specs.Best.{IsSound}
use Rattle.gl_best.specs.declared.rule.View.{View}
use Rattle.gl_best.specs.declared.word.BestWord.{BestWord}
use Rattle.gl_best.specs.Steps.{both_of}
use Rattle.gl_best.specs.Seats.{IsSeatOf, view_of}
use Rattle.gl_deal.specs.declared.place.Place.{Place}
use Rattle.gl_pool.specs.declared.share.Haul.{Haul}
use Rattle.gl_pool.specs.declared.tally.Tally.{Tally}
use Rattle.gl_pool.specs.Kept.{IsKept, seen_by}
use Rattle.gl_pool.specs.Code.Tally.{Gathers, IsGreater, IsTally, Turns, word_of}
use Rattle.gl_pool.specs.Work.{HasHauled}
use Rattle.gl_pool.proofs.Hearing.{all_closed_longer}
use Rattle.gl_pool.proofs.Together.{parted_any}
use Rattle.gl_pool.specs.Trail.{boxes_in}
use Rattle.gl_order.specs.Runs.{ArePassed, IsPassed, boxes_by, boxes_in_runs}

kept_sound : (rule : Goal) (before after : View) (kept best : Option Best) → IsKept rule before after kept → IsSound rule best → IsSound rule (option_or kept best)
kept_sound rule before after None best is sound = sound
kept_sound rule before after (Some kept) best is sound = is.0

kept_raised : (rule : Goal) (before after : View) (kept best : Option Best) → IsKept rule before after kept → before.raised ≡ word_of best → after.raised ≡ word_of (option_or kept best)
kept_raised rule before after None best is raised = is ∙ raised
kept_raised rule before after (Some kept) best is raised = is.1

-- what a worker kept and closed joins the tally
pub tally_on : (rule : Goal) (word : BestWord) (place place' : Place) (tally after : Tally) (share : Haul) → IsTally rule word tally → HasHauled rule word place place' tally.seat after.seat share
    → after.best ≡ option_or share.kept tally.best → (boxes_in_runs after.closed.items) ≡ (boxes_in_runs tally.closed.items) ++ (boxes_in share.closed)
    → (ArePassed tally.closed.items → ArePassed after.closed.items) → IsTally rule word after
tally_on rule word place place' tally after share is worked best closed passed = record {
  is_seat = worked.seat.is_seat;
  sound = subst (IsSound rule) (sym best) (kept_sound rule (view_of tally.seat) (view_of after.seat) share.kept tally.best worked.kept is.sound);
  raised = kept_raised rule (view_of tally.seat) (view_of after.seat) share.kept tally.best worked.kept is.raised ∙ ap word_of (sym best);
  closed = All-same (λ (box : List (ℕ × ℕ) × Why). IsClosedFor rule (seen_by after.seat) box.0 box.1) _ _ closed
      (All-append (λ (box : List (ℕ × ℕ) × Why). IsClosedFor rule (seen_by after.seat) box.0 box.1) (boxes_in_runs tally.closed.items) (boxes_in share.closed)
      (all_closed_longer rule tally.seat after.seat (boxes_in_runs tally.closed.items) worked.seat.no_less is.closed) worked.reasons);
  passed = passed is.passed;
}

pub turns_on : (rule : Goal) (word : BestWord) (place place' : Place) (tally after : Tally) (share : Haul) → HasHauled rule word place place' tally.seat after.seat share
    → (boxes_in_runs after.closed.items) ≡ (boxes_in_runs tally.closed.items) ++ (boxes_in share.closed) → Turns rule place place' tally after
turns_on rule word place place' tally after share worked closed = record {
  taken = worked.taken;
  put = worked.put;
  closed = (boxes_in share.closed);
  strange = share.strange.items;
  moves = worked.moves;
  parts = parted_any rule (seen_by tally.seat) worked.taken (boxes_in share.closed) worked.put share.strange.items worked.parts;
  joined = closed;
  numbers = worked.seat.numbers;
  all_put = worked.all_put;
}

-- one tally takes in another
pub gathered : (word : BestWord) (tally other after : Tally) → IsSeatOf word after.seat → view_of after.seat ≡ both_of (view_of tally.seat) (view_of other.seat)
    → IsGreater tally.best other.best after.best → after.closed.items ≡ tally.closed.items ++ other.closed.items → Gathers word tally other after
gathered word tally other after seat both greater appended =
    let joined : boxes_in_runs after.closed.items ≡ boxes_in_runs tally.closed.items ++ boxes_in_runs other.closed.items = ap boxes_in_runs appended
    ∙ flat_map-append boxes_by tally.closed.items other.closed.items in
    let seen : (view_of after.seat).seen ≡ max (view_of tally.seat).seen (view_of other.seat).seen = ap (λ (v : View). v.seen) both in
    let raised : (view_of after.seat).raised ≡ max (view_of tally.seat).raised (view_of other.seat).raised = ap (λ (v : View). v.raised) both in
    record {
      is_seat = seat;
      keeps = λ rule one two. record {
        is_seat = seat;
        sound = elim greater.either [
          | inl is ↦ subst (IsSound rule) (sym is) one.sound
          | inr is ↦ subst (IsSound rule) (sym is) two.sound
        ];
        raised = omega (arith, raised, greater.greatest, one.raised, two.raised);
        closed = All-same (λ (box : List (ℕ × ℕ) × Why). IsClosedFor rule (seen_by after.seat) box.0 box.1) _ _ joined
            (All-append (λ (box : List (ℕ × ℕ) × Why). IsClosedFor rule (seen_by after.seat) box.0 box.1) (boxes_in_runs tally.closed.items) (boxes_in_runs other.closed.items)
            (all_closed_longer rule tally.seat after.seat (boxes_in_runs tally.closed.items) (omega (arith, seen)) one.closed)
            (all_closed_longer rule other.seat after.seat (boxes_in_runs other.closed.items) (omega (arith, seen)) two.closed));
        passed = subst ArePassed (sym appended) (All-append IsPassed tally.closed.items other.closed.items one.passed two.passed);
      };
      joined = joined;
      numbers = ap (λ (v : View). v.numbers) both;
    }
