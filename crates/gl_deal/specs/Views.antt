-- What a hand and what a pass know of their deque, and what the steps add to it.
use Rattle.std.specs.Prelude.{ℕ, ◌+◌, Bool, true, false, List, [], ◌++◌}
use Rattle.gl_box.specs.declared.cell.Cell.{Cell}
use Rattle.gl_deal.specs.declared.view.HandView.{HandView}
use Rattle.gl_deal.specs.declared.view.PassView.{PassView}
use Rattle.gl_deal.specs.declared.view.View.{View}
use Rattle.gl_deal.specs.declared.view.View.TheVariants.{OfHand, OfPass}

-- the hand of an owner among so many workers, which has put, taken and gathered nothing
abbrev pub new_hand : ℕ → ℕ → HandView
new_hand owner workers =
    record { owner = owner; workers = workers; put = []; taken = []; gathered = []; settled = [] }

-- a pass that serves these workers and has taken nothing
abbrev pub new_pass : List ℕ → PassView
new_pass serves = record { taken = []; serves = serves }

abbrev pub with_put : HandView → List Cell → HandView
with_put hand cells = record hand { put = hand.put ++ cells }

abbrev pub with_taken : HandView → List Cell → HandView
with_taken hand cells = record hand { taken = hand.taken ++ cells }

-- the cells of a pass are gathered, and its workers are settled
abbrev pub with_settled : HandView → PassView → HandView
with_settled hand pass =
    record hand {
      gathered = hand.gathered ++ pass.taken;
      settled = hand.settled ++ pass.serves;
    }

abbrev pub with_stolen : PassView → List Cell → PassView
with_stolen pass cells = record pass { taken = pass.taken ++ cells }

abbrev pub is_hand : View → Bool
is_hand (OfHand hand) = true
is_hand (OfPass pass) = false

abbrev pub is_pass : View → Bool
is_pass (OfHand hand) = false
is_pass (OfPass pass) = true

-- the view of a hand; that of a pass isn't one
abbrev pub as_hand : View → HandView
as_hand (OfHand hand) = hand
as_hand (OfPass pass) = new_hand 0 1

-- the view of a pass; that of a hand isn't one
abbrev pub as_pass : View → PassView
as_pass (OfHand hand) = new_pass []
as_pass (OfPass pass) = pass
