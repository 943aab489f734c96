-- The passes of one worker after the other are taken in.
use Rattle.std.proofs.Common.{◌≡◌, ◌≢◌, ◌∙◌, sym, ap, refl, subst, ℕ, ◌+◌, ◌<◌, ◌≤◌, inl, inr, List, [], length, get_or, map, slice_set, arith}
use Rattle.std.specs.Prelude.{Contains}
use Rattle.std.specs.List.{sum_by}
use Rattle.std.proofs.Math.Seq.{map-set_same}
use Rattle.std.proofs.lemmas.Bool.{cases_order}
use Rattle.std.proofs.lemmas.List.{get_or-map, get_or-set_other, get_or-set_same, length-set}
use Rattle.std.proofs.lemmas.List.Sums.{sum_by-set}
use Rattle.gl_box.specs.declared.cell.Cell.{Cell}
use Rattle.gl_deal.specs.declared.place.Place.{Place}
use Rattle.gl_deal.specs.Tokens.{Deque, hand_view}
use Rattle.gl_pool.specs.Code.Crew.{got_weight}
use Rattle.gl_pool.specs.Code.Settle.{ArePassesOf, Settles, SettlesAll, Stand, StandReady, duties, place_at, settled_at, stand_of}
use Rattle.gl_pool.specs.Taken.{duty_of, ends_of, stolen_weight, taken_weight}
use Rattle.gl_pool.proofs.Settling.{deques_same, length-stands}

-- the passes of the first workers are taken in
pub record SettlingAll (before places : List Place) (worker : ℕ) : Type 0 where
  pub within : worker ≤ length before
  pub stands : map stand_of places ≡ map stand_of before
  pub got : (weight : Cell → ℕ) → got_weight weight places ≡ got_weight weight before
  pub none_left : (other : ℕ) (d : Place) → other < length before → other < worker → ends_of (place_at places other d) ≡ []
  pub left : (other : ℕ) (d : Place) → other < length before → worker ≤ other → ends_of (place_at places other d) ≡ ends_of (place_at before other d)
  pub settled : (owner other : ℕ) (d : Place) → owner < length before → other < worker → owner ≢ other → Contains (settled_at places owner d) other

pub all_start : (before : List Place) → SettlingAll before before 0
all_start before = record {
  within = omega arith;
  stands = refl;
  got = λ weight. refl;
  none_left = λ other d inside less. absurd (omega arith);
  left = λ other d inside more. refl;
  settled = λ owner other d inside less differ. absurd (omega arith);
}

-- the places once a worker's passes are lifted from its own
got_lifted : (weight : Cell → ℕ) (places : List Place) (worker : ℕ) (old new : Place) → worker < length places → new.hand ≡ old.hand → ends_of new ≡ [] → ((e : Place) → get_or places worker e ≡ old)
    → got_weight weight (slice_set places worker new) + stolen_weight weight (ends_of old) ≡ got_weight weight places
got_lifted weight places worker old new inside hand none is =
    let f : Place → ℕ = λ place. taken_weight weight place + sum_by weight (hand_view place.hand).gathered in
    let set = sum_by-set f places worker new old inside in
    let was : f (get_or places worker old) ≡ f old = ap f (is old) in
    let taken : sum_by weight (hand_view new.hand).taken ≡ sum_by weight (hand_view old.hand).taken = ap (λ h. sum_by weight (hand_view h).taken) hand in
    let gathered : sum_by weight (hand_view new.hand).gathered ≡ sum_by weight (hand_view old.hand).gathered = ap (λ h. sum_by weight (hand_view h).gathered) hand in
    let stolen : stolen_weight weight (ends_of new) ≡ 0 = ap (stolen_weight weight) none in
    omega arith

stand_lifted : (old new : Place) → new.hand ≡ old.hand → stand_of new ≡ stand_of old
stand_lifted old new hand = ap (λ h. stand_of (record { hand = h; passes = old.passes })) hand

-- what a worker has before it when its turn comes
pub passes_ready : (before places : List Place) (worker : ℕ) (old new : Place) → StandReady before → SettlingAll before places worker → worker < length places → new.hand ≡ old.hand
    → ((e : Place) → get_or places worker e ≡ old) → ArePassesOf (slice_set places worker new) worker (ends_of old)
passes_ready before places worker old new ready so_far inside hand is =
    let many = length-stands before places so_far.stands in
    let here : worker < length before = omega arith in
    let own : ends_of old ≡ ends_of (place_at before worker old) = ap ends_of (sym (is old)) ∙ so_far.left worker old here (omega arith) in
    let stands : map stand_of (slice_set places worker new) ≡ map stand_of before = map-set_same stand_of places worker new old (stand_lifted old new hand ∙ ap stand_of (sym (is old)))
    ∙ so_far.stands in
    ap (map duty_of) own ∙ ready.passes worker old here ∙ ap (λ (deques : List Deque). duties deques worker) (sym (deques_same before (slice_set places worker new) stands))

settled_lifted : (places : List Place) (worker owner : ℕ) (old new d : Place) → worker < length places → new.hand ≡ old.hand → ((e : Place) → get_or places worker e ≡ old)
    → settled_at (slice_set places worker new) owner d ≡ settled_at places owner d
settled_lifted places worker owner old new d inside hand is = elim (cases_order owner worker) [
  | inl same ↦
      ap (λ (o : ℕ). settled_at (slice_set places worker new) o d) same ∙ ap (λ (p : Place). (hand_view p.hand).settled) (get_or-set_same places worker new d inside)
      ∙ ap (λ h. (hand_view h).settled) hand ∙ ap (λ (p : Place). (hand_view p.hand).settled) (sym (is d)) ∙ ap (λ (o : ℕ). settled_at places o d) (sym same)
  | inr other ↦
      let differ : owner ≢ worker = elim other [ inl less ↦ (λ same. omega (arith, less, same)) | inr more ↦ (λ same. omega (arith, more, same)) ] in
      ap (λ (p : Place). (hand_view p.hand).settled) (get_or-set_other places worker owner new d differ)
]

ends_at : (places after : List Place) (other : ℕ) (d : Place) → other < length places → map ends_of after ≡ map ends_of places → length after ≡ length places
    → ends_of (place_at after other d) ≡ ends_of (place_at places other d)
ends_at places after other d inside same many =
    sym (get_or-map ends_of after other d [] (omega arith)) ∙ ap (λ l. get_or l other []) same ∙ get_or-map ends_of places other d [] inside

-- the passes of one more worker are taken in
pub all_more : (before places after : List Place) (worker : ℕ) (old new : Place) → SettlingAll before places worker → worker < length places → new.hand ≡ old.hand → ends_of new ≡ []
    → ((e : Place) → get_or places worker e ≡ old) → Settles (slice_set places worker new) after worker (ends_of old) → SettlingAll before after (worker + 1)
all_more before places after worker old new so_far inside hand none is settles =
    let lift = slice_set places worker new in
    let many = length-stands before places so_far.stands in
    let long : length lift ≡ length places = length-set places worker new in
    let all_long : length after ≡ length lift = length-stands lift after settles.stands in
    record {
      within = omega arith;
      stands = settles.stands ∙ map-set_same stand_of places worker new old (stand_lifted old new hand ∙ ap stand_of (sym (is old))) ∙ so_far.stands;
      got = λ weight. omega (arith, settles.got weight, got_lifted weight places worker old new inside hand none is, so_far.got weight);
      none_left = λ other d within less. ends_at lift after other d (omega arith) settles.passes_stay all_long ∙ elim (cases_order other worker) [
        | inl same ↦ ap (λ (o : ℕ). ends_of (place_at lift o d)) same ∙ ap ends_of (get_or-set_same places worker new d inside) ∙ none
        | inr differ ↦
            let not_worker : other ≢ worker = elim differ [ inl lower ↦ (λ same. omega (arith, lower, same)) | inr more ↦ (λ same. omega (arith, more, same)) ] in
            ap ends_of (get_or-set_other places worker other new d not_worker) ∙ so_far.none_left other d within (omega (arith, not_worker))
      ];
      left = λ other d within more.
          let not_worker : other ≢ worker = λ same. omega arith in
          ends_at lift after other d (omega arith) settles.passes_stay all_long ∙ ap ends_of (get_or-set_other places worker other new d not_worker) ∙ so_far.left other d within (omega arith);
      settled = λ owner other d within less differ. elim (cases_order other worker) [
        | inl same ↦
            subst (λ (o : ℕ). Contains (settled_at after owner d) o) (sym same) (settles.settled owner d (omega arith) (λ is_worker. differ (is_worker ∙ sym same)))
        | inr apart ↦
            let lower : other < worker = elim apart [ inl low ↦ low | inr high ↦ absurd (omega arith) ] in
            settles.kept owner other d (omega arith) (subst (λ (l : List ℕ). Contains l other) (sym (settled_lifted places worker owner old new d inside hand is))
            (so_far.settled owner other d within lower differ))
      ];
    }

stand_at : (before places : List Place) (owner : ℕ) (d : Place) → owner < length before → map stand_of places ≡ map stand_of before
    → stand_of (place_at places owner d) ≡ stand_of (place_at before owner d)
stand_at before places owner d inside same =
    let many = length-stands before places same in
    sym (get_or-map stand_of places owner d (stand_of d) (omega arith)) ∙ ap (λ (l : List Stand). get_or l owner (stand_of d)) same ∙ get_or-map stand_of before owner d (stand_of d) inside

-- once all are taken in
pub settles_all : (before places : List Place) (worker : ℕ) → StandReady before → length before ≤ worker → SettlingAll before places worker → SettlesAll before places
settles_all before places worker ready all so_far = record {
  stands = so_far.stands;
  none_left = λ other d inside. so_far.none_left other d inside (omega arith);
  settled = λ owner d inside other within differ.
      let stand = stand_at before places owner d inside so_far.stands in
      let own = ap (λ (s : Stand). s.owner) stand ∙ ready.owners owner d inside in
      let count = ap (λ (s : Stand). s.workers) stand ∙ ready.workers owner d inside in
      so_far.settled owner other d inside (omega (arith, count, within, all)) (λ same. differ (sym (own ∙ same)));
  got = so_far.got;
}
