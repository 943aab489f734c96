-- Passes that are taken in one after the other, the last one first.
use Rattle.std.proofs.Common.{◌≡◌, ◌≢◌, ◌∙◌, sym, ap, refl, subst, ℕ, ◌+◌, ◌<◌, ◌≤◌, Bool, cond, inl, inr, List, [], ◌∷◌, ◌++◌, length, get_or, drop, map, slice_set, append_assoc, arith}
use Rattle.std.specs.Prelude.{Contains}
use Rattle.std.specs.List.{remove, sum_by}
use Rattle.std.proofs.Math.Seq.{map-set_same}
use Rattle.std.proofs.lemmas.Bool.{cases_lt, cases_order, le-ltb, lt-ltb}
use Rattle.std.proofs.lemmas.List.{append-nil, get_or-map, get_or-set_other, get_or-set_same, get_or_at, length-append, length-map}
use Rattle.std.proofs.lemmas.List.Edits.{get_or-remove_above, get_or-remove_below, length-remove}
use Rattle.std.proofs.lemmas.List.Elements.{Contains-append_left, Contains-push}
use Rattle.std.proofs.lemmas.List.Sums.{sum_by-append, sum_by-cons, sum_by-set}
use Rattle.gl_box.specs.declared.cell.Cell.{Cell}
use Rattle.gl_deal.specs.declared.place.Place.{Place}
use Rattle.gl_deal.specs.declared.view.HandView.{HandView}
use Rattle.gl_deal.specs.declared.view.PassView.{PassView}
use Rattle.gl_deal.specs.Deal.{deques_of}
use Rattle.gl_deal.specs.Tokens.{Deque, hand_deque, hand_view}
use Rattle.gl_deal.specs.Views.{with_settled}
use Rattle.gl_pool.specs.Code.Crew.{got_weight}
use Rattle.gl_pool.specs.Code.Settle.{ArePassesOf, Settles, Stand, owner_at, place_at, settled_at, stand_of}
use Rattle.gl_pool.specs.Taken.{duty_of, ends_of, stolen_weight, taken_weight}

-- some passes at the end of a list are taken in
pub record Settling (before places : List Place) (worker : ℕ) (all rest : List (Deque × PassView)) : Type 0 where
  pub done : List (Deque × PassView)
  pub all_are : all ≡ rest ++ done
  pub stands : map stand_of places ≡ map stand_of before
  pub passes_stay : map ends_of places ≡ map ends_of before
  pub got : (weight : Cell → ℕ) → got_weight weight places ≡ got_weight weight before + stolen_weight weight done
  pub kept : (owner other : ℕ) (d : Place) → owner < length before → Contains (settled_at before owner d) other → Contains (settled_at places owner d) other
  pub below : (owner : ℕ) (d : Place) → owner < length before → owner < worker → length rest ≤ owner → Contains (settled_at places owner d) worker
  pub above : (owner : ℕ) (d : Place) → owner < length before → worker < owner → length rest < owner → Contains (settled_at places owner d) worker

abbrev deque_in : Place → Deque
deque_in place = hand_deque place.hand

length-passes : (before : List Place) (worker : ℕ) (all : List (Deque × PassView)) → worker < length before → ArePassesOf before worker all → length all + 1 ≡ length before
length-passes before worker all within are =
    let served : Deque → Deque × List ℕ = λ deque. (deque, worker ∷ []) in
    omega (
      arith,
      ap length are,
      length-map all duty_of,
      length-map (remove (deques_of before) worker) served,
      length-remove (deques_of before) worker (omega (arith, within, length-map before deque_in)),
      length-map before deque_in,
    )

pub settling_start : (before : List Place) (worker : ℕ) (all : List (Deque × PassView)) → worker < length before → ArePassesOf before worker all → Settling before before worker all all
settling_start before worker all within are =
    let many = length-passes before worker all within are in
    record {
      done = [];
      all_are = sym (append-nil all);
      stands = refl;
      passes_stay = refl;
      got = λ weight. omega arith;
      kept = λ owner other d inside has. has;
      below = λ owner d inside less many_left. absurd (omega arith);
      above = λ owner d inside more many_left. absurd (omega arith);
    }

-- the last pass is for the deque of its owner, and serves the worker
pub record IsFor (places : List Place) (worker owner : ℕ) (pass : Deque × PassView) : Type 0 where
  pub inside : owner < length places
  pub deque : (d : Place) → pass.0 ≡ hand_deque (place_at places owner d).hand
  pub serves : pass.1.serves ≡ worker ∷ []

owner_lower : (index worker : ℕ) → index < worker → owner_at index worker ≡ index
owner_lower index worker less = ap (λ (b : Bool). cond b index (index + 1)) (lt-ltb index worker less)

owner_higher : (index worker : ℕ) → worker ≤ index → owner_at index worker ≡ index + 1
owner_higher index worker more = ap (λ (b : Bool). cond b index (index + 1)) (le-ltb index worker more)

owner_within : (index worker many : ℕ) → index + 1 < many → worker < many → owner_at index worker < many
owner_within index worker many few within = elim (cases_lt index worker) [
  | inl less ↦ omega (arith, owner_lower index worker less)
  | inr more ↦ omega (arith, owner_higher index worker more)
]

removed_at : (deques : List Deque) (index worker : ℕ) (d : Deque) → worker < length deques → get_or (remove deques worker) index d ≡ get_or deques (owner_at index worker) d
removed_at deques index worker d within = elim (cases_lt index worker) [
  | inl less ↦ get_or-remove_below deques worker d index less within ∙ ap (λ (k : ℕ). get_or deques k d) (sym (owner_lower index worker less))
  | inr more ↦ get_or-remove_above deques worker d index more within ∙ ap (λ (k : ℕ). get_or deques k d) (sym (owner_higher index worker more))
]

-- the deques are those of the stands
pub deques_same : (before places : List Place) → map stand_of places ≡ map stand_of before → deques_of places ≡ deques_of before
deques_same [] [] same = refl
deques_same [] (p ∷ ps) same = absurd (omega (arith, ap length same))
deques_same (b ∷ bs) [] same = absurd (omega (arith, ap length same))
deques_same (b ∷ bs) (p ∷ ps) same =
    let first : stand_of p ≡ stand_of b = ap (λ (l : List Stand). get_or l 0 (stand_of b)) same in
    let rest : map stand_of ps ≡ map stand_of bs = ap (λ (l : List Stand). drop 1 l) same in
    λ i. (first i).deque ∷ deques_same bs ps rest i

pub length-stands : (before places : List Place) → map stand_of places ≡ map stand_of before → length places ≡ length before
length-stands before places same = sym (length-map places stand_of) ∙ ap length same ∙ length-map before stand_of

pub last_for : (before places : List Place) (worker : ℕ) (all rest less : List (Deque × PassView)) (pass : Deque × PassView) → worker < length before → ArePassesOf before worker all
    → rest ≡ less ++ pass ∷ [] → Settling before places worker all rest → IsFor places worker (owner_at (length less) worker) pass
last_for before places worker all rest less pass within are last so_far =
    let index = length less in
    let owner = owner_at index worker in
    let many = length-passes before worker all within are in
    let whole : all ≡ less ++ (pass ∷ so_far.done) = so_far.all_are ∙ ap (λ (l : List (Deque × PassView)). l ++ so_far.done) last ∙ append_assoc less (pass ∷ []) so_far.done in
    let below : index < length all = omega (arith, ap length whole, length-append less (pass ∷ so_far.done)) in
    let inside : owner < length before = owner_within index worker (length before) (omega arith) within in
    let long : worker < length (deques_of before) = omega (arith, within, length-map before deque_in) in
    let own : get_or all index pass ≡ pass = ap (λ (l : List (Deque × PassView)). get_or l index pass) whole ∙ get_or_at less pass so_far.done pass index refl in
    let served : Deque → Deque × List ℕ = λ deque. (deque, worker ∷ []) in
    let short : index < length (remove (deques_of before) worker) = omega (arith, many, below, length-remove (deques_of before) worker long, length-map before deque_in) in
    let duty : duty_of pass ≡ served (get_or (remove (deques_of before) worker) index pass.0) =
    ap duty_of (sym own) ∙ sym (get_or-map duty_of all index pass (duty_of pass) below) ∙ ap (λ (l : List (Deque × List ℕ)). get_or l index (duty_of pass)) are
    ∙ get_or-map served (remove (deques_of before) worker) index pass.0 (duty_of pass) short in
    let there : get_or (remove (deques_of before) worker) index pass.0 ≡ get_or (deques_of places) owner pass.0 =
    removed_at (deques_of before) index worker pass.0 long ∙ ap (λ (l : List Deque). get_or l owner pass.0) (sym (deques_same before places so_far.stands)) in
    let many_places = length-stands before places so_far.stands in
    record {
      inside = omega arith;
      deque = λ d. ap (λ (p : Deque × List ℕ). p.0) duty ∙ there ∙ get_or-map deque_in places owner d pass.0 (omega arith);
      serves = ap (λ (p : Deque × List ℕ). p.1) duty;
    }

-- what a hand that takes a pass in leaves of its place
pub record TakesIn (old new : Place) (pass : Deque × PassView) : Type 0 where
  pub deque : hand_deque new.hand ≡ hand_deque old.hand
  pub view : hand_view new.hand ≡ with_settled (hand_view old.hand) pass.1
  pub passes : ends_of new ≡ ends_of old

stand_kept : (old new : Place) (pass : Deque × PassView) → TakesIn old new pass → stand_of new ≡ stand_of old
stand_kept old new pass takes = λ i. record { deque = takes.deque i; owner = (takes.view i).owner; workers = (takes.view i).workers; put = (takes.view i).put }

settled_own : (places after : List Place) (owner : ℕ) (old new d : Place) (pass : Deque × PassView) → owner < length places → after ≡ slice_set places owner new
    → ((e : Place) → get_or places owner e ≡ old) → TakesIn old new pass → settled_at after owner d ≡ settled_at places owner d ++ pass.1.serves
settled_own places after owner old new d pass inside set is takes =
    ap (λ (l : List Place). settled_at l owner d) set
    ∙ ap (λ (p : Place). (hand_view p.hand).settled) (get_or-set_same places owner new d inside)
    ∙ ap (λ (v : HandView). v.settled) takes.view
    ∙ ap (λ (p : Place). (hand_view p.hand).settled ++ pass.1.serves) (sym (is d))

settled_other : (places after : List Place) (owner other : ℕ) (new d : Place) → other ≢ owner → after ≡ slice_set places owner new → settled_at after other d ≡ settled_at places other d
settled_other places after owner other new d differ set =
    ap (λ (l : List Place). settled_at l other d) set ∙ ap (λ (p : Place). (hand_view p.hand).settled) (get_or-set_other places owner other new d differ)

got_in : (Cell → ℕ) → Place → ℕ
got_in weight place = taken_weight weight place + sum_by weight (hand_view place.hand).gathered

got_more : (weight : Cell → ℕ) (old new : Place) (pass : Deque × PassView) → TakesIn old new pass → got_in weight new ≡ got_in weight old + sum_by weight pass.1.taken
unfolding got_in
got_more weight old new pass takes =
    let taken : sum_by weight (hand_view new.hand).taken ≡ sum_by weight (hand_view old.hand).taken = ap (λ (v : HandView). sum_by weight v.taken) takes.view in
    let stolen : stolen_weight weight (ends_of new) ≡ stolen_weight weight (ends_of old) = ap (stolen_weight weight) takes.passes in
    let gathered : sum_by weight (hand_view new.hand).gathered ≡ sum_by weight (hand_view old.hand).gathered + sum_by weight pass.1.taken =
    ap (λ (v : HandView). sum_by weight v.gathered) takes.view ∙ sum_by-append weight (hand_view old.hand).gathered pass.1.taken in
    omega arith

got_set : (weight : Cell → ℕ) (places : List Place) (owner : ℕ) (new d : Place) → owner < length places
    → got_weight weight (slice_set places owner new) + got_in weight (get_or places owner d) ≡ got_weight weight places + got_in weight new
unfolding got_in
got_set weight places owner new d inside = sum_by-set (λ (place : Place). taken_weight weight place + sum_by weight (hand_view place.hand).gathered) places owner new d inside

further : (index worker owner other : ℕ) → other ≢ owner → index < other → worker < other → owner ≡ owner_at index worker → index + 1 < other
further index worker owner other differ past more is = elim (cases_lt index worker) [
  | inl less ↦ omega arith
  | inr beyond ↦
      let high = owner_higher index worker beyond in
      omega arith
]

-- one more pass is taken in
pub settling_more : (before places after : List Place) (worker : ℕ) (all rest less : List (Deque × PassView)) (pass : Deque × PassView) (old new : Place) → rest ≡ less ++ pass ∷ []
    → IsFor places worker (owner_at (length less) worker) pass → after ≡ slice_set places (owner_at (length less) worker) new → ((e : Place) → get_or places (owner_at (length less) worker) e ≡ old)
    → TakesIn old new pass → Settling before places worker all rest → Settling before after worker all less
settling_more before places after worker all rest less pass old new last is_for set is takes so_far =
    let owner = owner_at (length less) worker in
    let many = length-stands before places so_far.stands in
    let long : length rest ≡ length less + 1 = ap length last ∙ length-append less (pass ∷ []) in
    let own : (d : Place) → Contains (settled_at after owner d) worker = λ d.
    subst (λ (l : List ℕ). Contains l worker) (sym (settled_own places after owner old new d pass is_for.inside set is takes ∙ ap (λ (l : List ℕ). settled_at places owner d ++ l) is_for.serves))
    (Contains-push (settled_at places owner d) worker) in
    record {
      done = pass ∷ so_far.done;
      all_are = so_far.all_are ∙ ap (λ (l : List (Deque × PassView)). l ++ so_far.done) last ∙ append_assoc less (pass ∷ []) so_far.done;
      stands = ap (map stand_of) set ∙ map-set_same stand_of places owner new old (stand_kept old new pass takes ∙ ap stand_of (sym (is old))) ∙ so_far.stands;
      passes_stay = ap (map ends_of) set ∙ map-set_same ends_of places owner new old (takes.passes ∙ ap ends_of (sym (is old))) ∙ so_far.passes_stay;
      got = λ weight.
          let more = got_more weight old new pass takes in
          let was : got_in weight (get_or places owner old) ≡ got_in weight old = ap (got_in weight) (is old) in
          let one = sum_by-cons (λ (p : Deque × PassView). sum_by weight p.1.taken) pass so_far.done in
          omega (arith, so_far.got weight, got_set weight places owner new old is_for.inside, ap (got_weight weight) set);
      kept = λ other number d inside has. elim (cases_order other owner) [
        | inl same ↦
            subst (λ (o : ℕ). Contains (settled_at after o d) number) (sym same)
            (subst (λ (l : List ℕ). Contains l number) (sym (settled_own places after owner old new d pass is_for.inside set is takes))
            (Contains-append_left (settled_at places owner d) pass.1.serves number (subst (λ (o : ℕ). Contains (settled_at places o d) number) same (so_far.kept other number d inside has))))
        | inr differ ↦
            let not_owner : other ≢ owner = elim differ [ inl less ↦ (λ same. omega (arith, less, same)) | inr more ↦ (λ same. omega (arith, more, same)) ] in
            subst (λ (l : List ℕ). Contains l number) (sym (settled_other places after owner other new d not_owner set)) (so_far.kept other number d inside has)
      ];
      below = λ other d inside less_worker many_left. elim (cases_order other owner) [
        | inl same ↦ subst (λ (o : ℕ). Contains (settled_at after o d) worker) (sym same) (own d)
        | inr differ ↦
            let not_owner : other ≢ owner = elim differ [ inl less ↦ (λ same. omega (arith, less, same)) | inr more ↦ (λ same. omega (arith, more, same)) ] in
            let lower : owner ≡ length less = owner_lower (length less) worker (omega arith) in
            subst (λ (l : List ℕ). Contains l worker) (sym (settled_other places after owner other new d not_owner set)) (so_far.below other d inside less_worker (omega arith))
      ];
      above = λ other d inside more_worker many_left. elim (cases_order other owner) [
        | inl same ↦ subst (λ (o : ℕ). Contains (settled_at after o d) worker) (sym same) (own d)
        | inr differ ↦
            let not_owner : other ≢ owner = elim differ [ inl less ↦ (λ same. omega (arith, less, same)) | inr more ↦ (λ same. omega (arith, more, same)) ] in
            let past = further (length less) worker owner other not_owner many_left more_worker refl in
            let beyond : length rest < other = omega arith in
            subst (λ (l : List ℕ). Contains l worker) (sym (settled_other places after owner other new d not_owner set)) (so_far.above other d inside more_worker beyond)
      ];
    }

pub settles : (before places : List Place) (worker : ℕ) (all rest : List (Deque × PassView)) → rest ≡ [] → Settling before places worker all rest → Settles before places worker all
settles before places worker all rest none so_far =
    let whole : so_far.done ≡ all = sym (so_far.all_are ∙ ap (λ (l : List (Deque × PassView)). l ++ so_far.done) none) in
    record {
      stands = so_far.stands;
      passes_stay = so_far.passes_stay;
      got = λ weight. so_far.got weight ∙ ap (λ (l : List (Deque × PassView)). got_weight weight before + stolen_weight weight l) whole;
      kept = so_far.kept;
      settled = λ owner d inside differ. elim (cases_order owner worker) [
        | inl same ↦ absurd (differ same)
        | inr other ↦ elim other [
          | inl less ↦ so_far.below owner d inside less (omega (arith, ap length none))
          | inr more ↦ so_far.above owner d inside more (omega (arith, ap length none))
        ]
      ];
    }
