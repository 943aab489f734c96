-- What is dealt to the workers.
use Rattle.std.specs.Prelude.{◌≡◌, ℕ, ◌<◌, List, [], ◌∷◌, length, map, slice_index_or}
use Rattle.std.specs.List.{remove}
use Rattle.gl_deal.specs.declared.place.Place.{Place}
use Rattle.gl_deal.specs.declared.view.PassView.{PassView}
use Rattle.gl_deal.specs.Views.{new_hand, new_pass}
use Rattle.gl_deal.specs.Tokens.{Deque, end_of, hand_deque, hand_view}

-- a pass to each deque but a worker's own, in their order, and each serves this worker
abbrev pub passes_to : ℕ → List Deque → List (Deque × PassView)
passes_to worker deques = map (λ deque. (deque, new_pass (worker ∷ []))) (remove deques worker)

-- The place of one of so many workers: its own hand, which has put, taken and gathered nothing, and
-- its passes to the other deques
pub record IsPlace (workers : ℕ) (deques : List Deque) (worker : ℕ) (place : Place) : Type 0 where
  pub hand : hand_view place.hand ≡ new_hand worker workers
  pub passes : map end_of place.passes.items ≡ passes_to worker deques

-- the deques of some places, in their order
abbrev pub deques_of : List Place → List Deque
deques_of places = map (λ place. hand_deque place.hand) places

-- each of so many workers has its place
pub record IsDeal (workers : ℕ) (places : List Place) : Type 0 where
  pub one_each : length places ≡ workers
  pub place : (worker : ℕ) (d : Place) → worker < workers
      → IsPlace workers (deques_of places) worker (slice_index_or places worker d)
