-- The passes of all workers are taken in at the hands of their deques.
use Rattle.std.specs.Prelude.{◌≡◌, ◌≢◌, ℕ, ◌+◌, ◌<◌, nat_lt, if◌then◌else◌, List, [], ◌∷◌, length, map, slice_index_or, Contains}
use Rattle.std.specs.List.{remove}
use Rattle.gl_box.specs.declared.cell.Cell.{Cell}
use Rattle.gl_deal.specs.declared.place.Place.{Place}
use Rattle.gl_deal.specs.declared.view.PassView.{PassView}
use Rattle.gl_deal.specs.Deal.{deques_of}
use Rattle.gl_deal.specs.Rule.{HasSettledAll}
use Rattle.gl_deal.specs.Tokens.{Deque, hand_deque, hand_view}
use Rattle.gl_pool.specs.Code.Crew.{got_weight}
use Rattle.gl_pool.specs.Taken.{duty_of, ends_of, stolen_weight}

-- what stays of a hand while passes are taken in
pub record Stand : Type 0 where
  pub deque : Deque
  pub owner : ℕ
  pub workers : ℕ
  pub put : List Cell

abbrev pub stand_of : Place → Stand
stand_of place = record {
  deque = hand_deque place.hand;
  owner = (hand_view place.hand).owner;
  workers = (hand_view place.hand).workers;
  put = (hand_view place.hand).put;
}

-- the place at an index
abbrev pub place_at : List Place → ℕ → Place → Place
place_at places index default = slice_index_or places index default

-- the workers that were settled at a place
abbrev pub settled_at : List Place → ℕ → Place → List ℕ
settled_at places index default = (hand_view (place_at places index default).hand).settled

-- whose deque the pass at an index of a worker's passes is for
abbrev pub owner_at : ℕ → ℕ → ℕ
owner_at index worker = if nat_lt index worker then index else index + 1

-- the duties of a worker's passes: one for each deque but its own, in their order
abbrev pub duties : List Deque → ℕ → List (Deque × List ℕ)
duties deques worker = map (λ deque. (deque, worker ∷ [])) (remove deques worker)

-- passes are those of a worker among some places
abbrev pub ArePassesOf : List Place → ℕ → List (Deque × PassView) → Type 0
ArePassesOf places worker passes = map duty_of passes ≡ duties (deques_of places) worker

-- The passes of a worker are taken in: each hand but its own has settled the worker, and what the
-- passes took was gathered.
pub record Settles (before after : List Place) (worker : ℕ)
    (passes : List (Deque × PassView)) : Type 0 where
  pub stands : map stand_of after ≡ map stand_of before
  pub passes_stay : map ends_of after ≡ map ends_of before
  pub got : (weight : Cell → ℕ)
      → got_weight weight after ≡ got_weight weight before + stolen_weight weight passes
  pub kept : (owner other : ℕ) (d : Place) → owner < length before
      → Contains (settled_at before owner d) other → Contains (settled_at after owner d) other
  pub settled : (owner : ℕ) (d : Place) → owner < length before → owner ≢ worker
      → Contains (settled_at after owner d) worker

-- each worker stands at its place with its passes
pub record StandReady (places : List Place) : Type 0 where
  pub owners : (owner : ℕ) (d : Place) → owner < length places
      → (hand_view (place_at places owner d).hand).owner ≡ owner
  pub workers : (owner : ℕ) (d : Place) → owner < length places
      → (hand_view (place_at places owner d).hand).workers ≡ length places
  pub passes : (worker : ℕ) (d : Place) → worker < length places
      → map duty_of (ends_of (place_at places worker d)) ≡ duties (deques_of places) worker

-- All passes are taken in: no place has one any more, each hand has settled all other workers, and
-- what was taken anywhere is taken or gathered there.
pub record SettlesAll (before after : List Place) : Type 0 where
  pub stands : map stand_of after ≡ map stand_of before
  pub none_left : (worker : ℕ) (d : Place) → worker < length before
      → ends_of (place_at after worker d) ≡ []
  pub settled : (owner : ℕ) (d : Place) → owner < length before
      → HasSettledAll (hand_view (place_at after owner d).hand)
  pub got : (weight : Cell → ℕ) → got_weight weight after ≡ got_weight weight before
