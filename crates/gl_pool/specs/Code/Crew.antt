-- The workers of a search and their places, all together.
use Rattle.std.specs.Prelude.{◌≡◌, ℕ, ◌+◌, List, [], ◌∷◌, ◌++◌, map, sum_by, All, None, Result, Ok, IfOk}
use Rattle.std.specs.declared.alloc.AllocError.{AllocError}
use Rattle.gl_box.specs.declared.cell.Cell.{Cell}
use Rattle.gl_box.specs.declared.closed.Why.{Why}
use Rattle.gl_goal.specs.Goal.{Goal}
use Rattle.gl_best.specs.declared.word.BestWord.{BestWord}
use Rattle.gl_best.specs.Rule.{times}
use Rattle.gl_best.specs.Seats.{IsSeatOf, view_of}
use Rattle.gl_deal.specs.declared.place.Place.{Place}
use Rattle.gl_deal.specs.Tokens.{Deque, hand_deque, hand_view}
use Rattle.gl_pool.specs.declared.crew.Worker.{Worker}
use Rattle.gl_pool.specs.declared.tally.Tally.{Tally}
use Rattle.gl_pool.specs.Parts.{ArePartedInto}
use Rattle.gl_pool.specs.Taken.{duty_of, ends_of, taken_weight}
use Rattle.gl_pool.specs.Code.Tally.{IsTally, Turns}
use Rattle.gl_order.specs.Runs.{boxes_in_runs}

-- what stays of a place while its worker works
pub record Post : Type 0 where
  pub deque : Deque
  pub owner : ℕ
  pub workers : ℕ
  pub gathered : List Cell
  pub settled : List ℕ
  pub passes : List (Deque × List ℕ)

abbrev pub post_of : Place → Post
post_of place = record {
  deque = hand_deque place.hand;
  owner = (hand_view place.hand).owner;
  workers = (hand_view place.hand).workers;
  gathered = (hand_view place.hand).gathered;
  settled = (hand_view place.hand).settled;
  passes = map duty_of (ends_of place);
}

-- what the hands of some places have put weighs together
abbrev pub put_weight : (Cell → ℕ) → List Place → ℕ
put_weight weight places = sum_by (λ place. sum_by weight (hand_view place.hand).put) places

-- what was taken at some places, or gathered there, weighs together
abbrev pub got_weight : (Cell → ℕ) → List Place → ℕ
got_weight weight places =
    sum_by (λ place. taken_weight weight place + sum_by weight (hand_view place.hand).gathered)
    places

-- cells were taken and put at some places, and each place keeps its post
pub record MoveAll (before after : List Place) (taken put : List Cell) : Type 0 where
  pub took : (weight : Cell → ℕ)
      → got_weight weight after ≡ got_weight weight before + sum_by weight taken
  pub puts : (weight : Cell → ℕ)
      → put_weight weight after ≡ put_weight weight before + sum_by weight put
  pub posts : map post_of after ≡ map post_of before

-- how often a number stands with the seats of some workers
abbrev pub times_seated : ℕ → List Worker → ℕ
times_seated number workers =
    sum_by (λ worker. times number (view_of worker.tally.seat).numbers) workers

-- a worker has the number of the owner of its place
abbrev pub HasOwnNumber : Worker → Type 0
HasOwnNumber worker = worker.number ≡ (hand_view worker.place.hand).owner

-- Each worker has its place and the number of its owner, and has found and closed nothing, but for
-- what was found before: with that, each is a tally again. They share the numbers of its seat.
pub record AreSeated (word : BestWord) (places : List Place) (tally : Tally)
    (workers : List Worker) : Type 0 where
  pub places_are : map (λ worker. worker.place) workers ≡ places
  pub own : All HasOwnNumber workers
  pub tallies : (goal : Goal) → IsTally goal word tally
      → All (λ worker. IsTally goal word worker.tally) workers
  pub nothing : boxes_in_runs tally.closed.items ≡ []
      → All (λ worker. boxes_in_runs worker.tally.closed.items ≡ []) workers
  pub numbers : (number : ℕ)
      → times_seated number workers ≡ times number (view_of tally.seat).numbers

-- what one turn of a worker leaves
pub record HasTurned (goal : Goal) (word : BestWord) (before after : Worker) : Type 0 where
  pub is_tally : IsTally goal word after.tally
  pub turn : Turns goal before.place after.place before.tally after.tally

-- a worker that has worked has a seat of this word
abbrev pub has_seat : BestWord → Result Worker AllocError → Type 0
has_seat word worked = IfOk worked (λ worker. IsSeatOf word worker.tally.seat)

-- the closed cells of some workers, those of the last one first
abbrev pub closed_by : List Worker → List (List (ℕ × ℕ) × Why)
closed_by [] = []
closed_by (worker ∷ workers) = closed_by workers ++ boxes_in_runs worker.tally.closed.items

-- the places of workers that have worked, and what they found together
pub record Collects (word : BestWord) (worked : List (Result Worker AllocError))
    (places : List Place) (tally : Tally) : Type 0 where
  pub workers : List Worker
  pub all_worked : worked ≡ map Ok workers
  pub places_are : places ≡ map (λ worker. worker.place) workers
  pub is_tally : (goal : Goal) → All (λ worker. IsTally goal word worker.tally) workers
      → IsTally goal word tally
  pub closed : boxes_in_runs tally.closed.items ≡ closed_by workers
  pub numbers : (number : ℕ)
      → times number (view_of tally.seat).numbers ≡ times_seated number workers

-- Workers took and put cells at all places, and closed cells join the tally. Its seat has the
-- numbers that it had.
pub record WorkedAll (goal : Goal) (before after : List Place)
    (tally tally_after : Tally) : Type 0 where
  pub taken : List Cell
  pub put : List Cell
  pub strange : List Cell
  pub moves : MoveAll before after taken put
  pub parts : ArePartedInto goal None taken (boxes_in_runs tally_after.closed.items) put strange
  pub numbers : (number : ℕ)
      → times number (view_of tally_after.seat).numbers ≡ times number (view_of tally.seat).numbers
