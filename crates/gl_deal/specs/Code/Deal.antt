-- What is dealt to the workers, one after another.
use Rattle.std.specs.Prelude.{◌≡◌, ℕ, ◌<◌, List, length, map, slice_index_or, ◌+◌, min, max}
use Rattle.std.specs.declared.alloc.Global.{Global}
use Rattle.std.specs.declared.vec.Vec.{Vec}
use Rattle.gl_deal.specs.Deal.{passes_to}
use Rattle.gl_deal.specs.Tokens.{Deque, end_of, hand_view}
use Rattle.gl_deal.specs.Views.{new_hand}
use Rattle.gl_deal.specs.declared.hand.Hand.{Hand}
use Rattle.gl_deal.specs.declared.pass.Pass.{Pass}
use Rattle.gl_deal.specs.declared.view.HandView.{HandView}

-- the hand of an owner once the first workers, so many of them, have their passes to its deque
abbrev pub partly_dealt : ℕ → ℕ → HandView
partly_dealt served owner = new_hand (min served owner) (max served (min served owner + 1))

-- the hands of all owners once the first workers, so many of them, have their passes
abbrev pub AreDealt : ℕ → List Hand → Type 0
AreDealt served hands =
    (owner : ℕ) (d : Hand) → owner < length hands
    → hand_view (slice_index_or hands owner d) ≡ partly_dealt served owner

-- the passes of each worker in turn
abbrev pub ArePiles : List Deque → List (Vec Pass Global) → Type 0
ArePiles deques piles =
    (worker : ℕ) (d : Vec Pass Global) → worker < length piles
    → map end_of (slice_index_or piles worker d).items ≡ passes_to worker deques

-- one more worker stands before the owner
abbrev pub with_earlier : HandView → HandView
with_earlier hand = record hand { owner = hand.owner + 1; workers = hand.workers + 1 }

-- one more worker stands after the others
abbrev pub with_later : HandView → HandView
with_later hand = record hand { workers = hand.workers + 1 }
