-- What is dealt to the workers, and what their places hold once they came back.
use Rattle.std.proofs.Common.{◌≡◌, ◌≢◌, ◌∙◌, sym, ap, refl, subst, inl, inr, ℕ, suc, ◌+◌, ◌<◌, List, [], ◌∷◌, ◌++◌, length, get_or, map, slice_set, arith}
use Rattle.std.specs.List.{remove, sum_by}
use Rattle.std.proofs.Math.Seq.{map-set_same}
use Rattle.std.proofs.lemmas.Bool.{cases_order}
use Rattle.std.proofs.lemmas.List.{get_or-map, get_or-set_other, get_or-set_same, length-map, length-set}
use Rattle.std.proofs.lemmas.List.Sums.{sum_by-cons, sum_by-set}
use Rattle.gl_box.specs.declared.cell.Cell.{Cell}
use Rattle.gl_box.specs.Cell.{spans_of}
use Rattle.gl_goal.specs.Goal.{Goal, whole_cell}
use Rattle.gl_deal.specs.declared.place.Place.{Place}
use Rattle.gl_deal.specs.declared.view.HandView.{HandView}
use Rattle.gl_deal.specs.declared.view.PassView.{PassView}
use Rattle.gl_deal.specs.Deal.{IsDeal, deques_of}
use Rattle.gl_deal.specs.Tokens.{Deque, hand_deque, hand_view}
use Rattle.gl_deal.specs.Views.{new_pass, with_put}
use Rattle.gl_pool.specs.declared.tally.Tally.{Tally}
use Rattle.gl_pool.specs.Code.Crew.{MoveAll, Post, WorkedAll, post_of, put_weight}
use Rattle.gl_pool.specs.Code.Many.{IsDealt, IsLeft}
use Rattle.gl_pool.specs.Code.Settle.{SettlesAll, Stand, StandReady, duties, place_at, stand_of}
use Rattle.gl_pool.specs.Taken.{duty_of, ends_of, stolen_weight, taken_weight}
use Rattle.gl_pool.proofs.Settling.{length-stands}

duties_are : (deques : List Deque) (worker : ℕ) → map duty_of (map (λ (d : Deque). (d, new_pass (worker ∷ []))) deques) ≡ map (λ (d : Deque). (d, worker ∷ [])) deques
duties_are [] worker = refl
duties_are (d ∷ ds) worker = λ i. (d, worker ∷ []) ∷ duties_are ds worker i

none_stolen : (weight : Cell → ℕ) (deques : List Deque) (worker : ℕ) → stolen_weight weight (map (λ (d : Deque). (d, new_pass (worker ∷ []))) deques) ≡ 0
none_stolen weight [] worker = refl
none_stolen weight (d ∷ ds) worker =
    omega (arith, none_stolen weight ds worker, sum_by-cons (λ (pass : Deque × PassView). sum_by weight pass.1.taken) (d, new_pass (worker ∷ [])) (map (λ (d : Deque). (d, new_pass (worker ∷ []))) ds))

sum_none : (f : Place → ℕ) (places : List Place) → ((k : ℕ) (d : Place) → k < length places → f (get_or places k d) ≡ 0) → sum_by f places ≡ 0
sum_none f [] none = refl
sum_none f (p ∷ ps) none =
    let here : f p ≡ 0 = none 0 p (omega arith) in
    omega (arith, sum_none f ps (λ k d below. none (suc k) d (omega arith)), sum_by-cons f p ps)

-- a place is replaced by one that a function can't tell from it
set_keeps : {X : Type 0} (f : Place → X) (places : List Place) (at : ℕ) (old new d : Place) (k : ℕ) → at < length places → ((e : Place) → get_or places at e ≡ old) → f new ≡ f old
    → f (get_or (slice_set places at new) k d) ≡ f (get_or places k d)
set_keeps f places at old new d k inside is same = elim (cases_order k at) [
  | inl own ↦ subst (λ (i : ℕ). f (get_or (slice_set places at new) i d) ≡ f (get_or places i d)) (sym own) (ap f (get_or-set_same places at new d inside) ∙ same ∙ ap f (sym (is d)))
  | inr differ ↦
      let other : k ≢ at = elim differ [ inl less ↦ (λ same. omega (arith, less, same)) | inr more ↦ (λ same. omega (arith, more, same)) ] in
      ap f (get_or-set_other places at k new d other)
]

abbrev deque_in : Place → Deque
deque_in place = hand_deque place.hand

pub dealt : (rule : Goal) (workers : ℕ) (places : List Place) (first : Cell) (old new : Place) → IsDeal workers places → 0 < workers
    → ((e : Place) → get_or places 0 e ≡ old) → hand_deque new.hand ≡ hand_deque old.hand → hand_view new.hand ≡ with_put (hand_view old.hand) (first ∷ []) → ends_of new ≡ ends_of old
    → spans_of first ≡ whole_cell rule.axes → IsDealt rule (slice_set places 0 new)
dealt rule workers places first old new deal within is deque view passes is_whole =
    let inside : 0 < length places = omega (arith, deal.one_each) in
    let long = length-set places 0 new in
    let deques : deques_of (slice_set places 0 new) ≡ deques_of places = map-set_same deque_in places 0 new old (deque ∙ ap deque_in (sym (is old))) in
    let empty : (hand_view old.hand).put ≡ [] = ap (λ (p : Place). (hand_view p.hand).put) (sym (is old)) ∙ ap (λ (v : HandView). v.put) (deal.place 0 old within).hand in
    record {
      first = first;
      is_whole = is_whole;
      begins = λ d. ap (λ (p : Place). (hand_view p.hand).put) (get_or-set_same places 0 new d inside) ∙ ap (λ (v : HandView). v.put) view ∙ ap (λ (l : List Cell). l ++ first ∷ []) empty;
      ready = record {
        owners = λ owner d below. set_keeps (λ p. (hand_view p.hand).owner) places 0 old new d owner inside is (ap (λ (v : HandView). v.owner) view)
            ∙ ap (λ (v : HandView). v.owner) (deal.place owner d (omega (arith, deal.one_each))).hand;
        workers = λ owner d below. set_keeps (λ p. (hand_view p.hand).workers) places 0 old new d owner inside is (ap (λ (v : HandView). v.workers) view)
            ∙ ap (λ (v : HandView). v.workers) (deal.place owner d (omega (arith, deal.one_each))).hand ∙ omega (arith, deal.one_each);
        passes = λ worker d below.
            set_keeps (λ p. map duty_of (ends_of p)) places 0 old new d worker inside is (ap (map duty_of) passes)
            ∙ ap (map duty_of) (deal.place worker d (omega (arith, deal.one_each))).passes
            ∙ duties_are (remove (deques_of places) worker) worker
            ∙ ap (λ (ds : List Deque). duties ds worker) (sym deques);
      };
      got = λ weight. sum_none (λ (p : Place). taken_weight weight p + sum_by weight (hand_view p.hand).gathered) (slice_set places 0 new) (λ k d below.
          let there = deal.place k d (omega (arith, deal.one_each)) in
          let taken : sum_by weight (hand_view (get_or places k d).hand).taken ≡ 0 = ap (λ (v : HandView). sum_by weight v.taken) there.hand in
          let gathered : sum_by weight (hand_view (get_or places k d).hand).gathered ≡ 0 = ap (λ (v : HandView). sum_by weight v.gathered) there.hand in
          let stolen : stolen_weight weight (ends_of (get_or places k d)) ≡ 0 = ap (stolen_weight weight) there.passes ∙ none_stolen weight (remove (deques_of places) k) k in
          let hand_taken : sum_by weight (hand_view new.hand).taken ≡ sum_by weight (hand_view old.hand).taken = ap (λ (v : HandView). sum_by weight v.taken) view in
          let hand_gathered : sum_by weight (hand_view new.hand).gathered ≡ sum_by weight (hand_view old.hand).gathered = ap (λ (v : HandView). sum_by weight v.gathered) view in
          let passes_taken : stolen_weight weight (ends_of new) ≡ stolen_weight weight (ends_of old) = ap (stolen_weight weight) passes in
          set_keeps (λ (p : Place). taken_weight weight p + sum_by weight (hand_view p.hand).gathered) places 0 old new d k inside is (omega arith) ∙ omega arith);
      puts = λ weight.
          let put_of : Place → ℕ = λ p. sum_by weight (hand_view p.hand).put in
          let none : put_weight weight places ≡ 0 = sum_none put_of places (λ k d below. ap (λ (v : HandView). sum_by weight v.put) (deal.place k d (omega (arith, deal.one_each))).hand) in
          let own : put_of old ≡ 0 = ap put_of (sym (is old)) ∙ ap (λ (v : HandView). sum_by weight v.put) (deal.place 0 old within).hand in
          let next : put_of new ≡ sum_by weight (first ∷ []) = ap (λ (v : HandView). sum_by weight v.put) view ∙ ap (λ (l : List Cell). sum_by weight (l ++ first ∷ [])) empty in
          let one = sum_by-cons weight first [] in
          let read : put_of (get_or places 0 old) ≡ put_of old = ap put_of (is old) in
          omega (arith, sum_by-set put_of places 0 new old inside);
    }

length-posts : (before after : List Place) → map post_of after ≡ map post_of before → length after ≡ length before
length-posts before after same = sym (length-map after post_of) ∙ ap length same ∙ length-map before post_of

post_at : (before after : List Place) (k : ℕ) (d : Place) → k < length before → map post_of after ≡ map post_of before → post_of (place_at after k d) ≡ post_of (place_at before k d)
post_at before after k d inside same =
    let many = length-posts before after same in
    sym (get_or-map post_of after k d (post_of d) (omega arith)) ∙ ap (λ (l : List Post). get_or l k (post_of d)) same ∙ get_or-map post_of before k d (post_of d) inside

deques_posts : (places : List Place) → map (λ (p : Post). p.deque) (map post_of places) ≡ deques_of places
deques_posts [] = refl
deques_posts (p ∷ ps) = λ i. hand_deque p.hand ∷ deques_posts ps i

-- workers who took and put cells stand as before
pub still_ready : (before after : List Place) (taken put : List Cell) → MoveAll before after taken put → StandReady before → StandReady after
still_ready before after taken put moves ready =
    let many = length-posts before after moves.posts in
    let deques : deques_of after ≡ deques_of before = sym (deques_posts after) ∙ ap (map (λ (p : Post). p.deque)) moves.posts ∙ deques_posts before in
    record {
      owners = λ owner d inside. ap (λ (p : Post). p.owner) (post_at before after owner d (omega arith) moves.posts) ∙ ready.owners owner d (omega arith);
      workers = λ owner d inside. ap (λ (p : Post). p.workers) (post_at before after owner d (omega arith) moves.posts) ∙ ready.workers owner d (omega arith) ∙ sym many;
      passes = λ worker d inside. ap (λ (p : Post). p.passes) (post_at before after worker d (omega arith) moves.posts) ∙ ready.passes worker d (omega arith)
          ∙ ap (λ (ds : List Deque). duties ds worker) (sym deques);
    }

put_stands : (weight : Cell → ℕ) (places : List Place) → sum_by (λ (s : Stand). sum_by weight s.put) (map stand_of places) ≡ put_weight weight places
put_stands weight [] = refl
put_stands weight (p ∷ ps) =
    let one = sum_by-cons (λ (s : Stand). sum_by weight s.put) (stand_of p) (map stand_of ps) in
    let more = sum_by-cons (λ (q : Place). sum_by weight (hand_view q.hand).put) p ps in
    omega (arith, put_stands weight ps)

put_same : (weight : Cell → ℕ) (before after : List Place) → map stand_of after ≡ map stand_of before → put_weight weight after ≡ put_weight weight before
put_same weight before after same = sym (put_stands weight after) ∙ ap (sum_by (λ (s : Stand). sum_by weight s.put)) same ∙ put_stands weight before

-- what is left once all passes are settled
pub is_left : (rule : Goal) (before after settled : List Place) (tally tally_after : Tally) → IsDealt rule before → WorkedAll rule before after tally tally_after → SettlesAll after settled
    → IsLeft rule settled tally_after
is_left rule before after settled tally tally_after start worked settles =
    let many = length-stands after settled settles.stands in
    record {
      first = start.first;
      taken = worked.taken;
      put = worked.put;
      strange = worked.strange;
      is_whole = start.is_whole;
      parts = worked.parts;
      puts = λ weight. omega (arith, put_same weight after settled settles.stands, worked.moves.puts weight, start.puts weight);
      got = λ weight. omega (arith, settles.got weight, worked.moves.took weight, start.got weight);
      none_left = λ worker d inside. settles.none_left worker d (omega arith);
      settled = λ owner d inside. settles.settled owner d (omega arith);
    }
