-- How the hands and the passes stand while they are dealt.
use Rattle.std.proofs.Common.{Vec, Global, ◌≡◌, ◌∙◌, sym, ap, refl, ℕ, zero, suc, ◌+◌, ◌<◌, ◌≤◌, min, max, ⊎_elim, List, [], ◌∷◌, ◌++◌, length, map, set, get_or, take, take-suc, add-one, arith}
use Rattle.std.proofs.lemmas.Bool.{cases_lt}
use Rattle.std.proofs.lemmas.List.{map-append, get_or-map, get_or-set_same, get_or-set_other, length-map, length-set, length-take}
use Rattle.std.proofs.Math.Seq.{map-set_same}
use Rattle.std.proofs.lemmas.Simd.{map-map}
use Rattle.std.specs.List.{remove}
use Rattle.gl_deal.specs.declared.hand.Hand.{Hand}
use Rattle.gl_deal.specs.declared.pass.Pass.{Pass}
use Rattle.gl_deal.specs.declared.place.Place.{Place}
use Rattle.gl_deal.specs.Views.{new_hand, new_pass}
use Rattle.gl_deal.specs.Code.Deal.{partly_dealt, AreDealt, ArePiles}
use Rattle.gl_deal.specs.Tokens.{Deque, end_of, hand_deque, hand_view}
use Rattle.gl_deal.specs.Deal.{IsDeal, deques_of, passes_to}

module _ {X : Type 0} where
  remove_more : (xs : List X) (x : X) (place : ℕ) → (place ≡ length xs → ⊥) → remove (xs ++ x ∷ []) place ≡ remove xs place ++ x ∷ []
  remove_more [] x zero other = absurd (other refl)
  remove_more [] x (suc zero) other = refl
  remove_more [] x (suc (suc place)) other = refl
  remove_more (y ∷ ys) x zero other = refl
  remove_more (y ∷ ys) x (suc place) other = ap (λ zs. y ∷ zs) (remove_more ys x place (λ same. other (ap suc same)))

  remove_own : (xs : List X) (x : X) → remove (xs ++ x ∷ []) (length xs) ≡ remove xs (length xs)
  remove_own [] x = refl
  remove_own (y ∷ ys) x = ap (λ zs. y ∷ zs) (remove_own ys x)

pub passes_more : (worker : ℕ) (deques : List Deque) (deque : Deque) → (worker ≡ length deques → ⊥)
    → passes_to worker (deques ++ deque ∷ []) ≡ passes_to worker deques ++ (deque, new_pass (worker ∷ [])) ∷ []
passes_more worker deques deque other =
    ap (map (λ (d : Deque). (d, new_pass (worker ∷ [])))) (remove_more deques deque worker other)
    ∙ map-append (λ (d : Deque). (d, new_pass (worker ∷ []))) (remove deques worker) (deque ∷ [])

pub passes_own : (worker : ℕ) (deques : List Deque) (deque : Deque) → worker ≡ length deques → passes_to worker (deques ++ deque ∷ []) ≡ passes_to worker deques
passes_own worker deques deque own =
    ap (λ w. map (λ (d : Deque). (d, new_pass (worker ∷ []))) (remove (deques ++ deque ∷ []) w)) own
    ∙ ap (map (λ (d : Deque). (d, new_pass (worker ∷ [])))) (remove_own deques deque)
    ∙ ap (λ w. map (λ (d : Deque). (d, new_pass (worker ∷ []))) (remove deques w)) (sym own)

-- the owner's own turn changes nothing of its hand
pub own_turn : (worker : ℕ) → partly_dealt worker worker ≡ partly_dealt (worker + 1) worker
own_turn worker =
    let owner : min worker worker ≡ min (worker + 1) worker = omega arith in
    let workers : max worker (min worker worker + 1) ≡ max (worker + 1) (min (worker + 1) worker + 1) = omega arith in
    ap (λ o. new_hand o (max worker (min worker worker + 1))) owner ∙ ap (new_hand (min (worker + 1) worker)) workers

-- the hands below a number have their pass for a worker
abbrev pub AreDone : List Hand → ℕ → ℕ → Type 0
AreDone hands worker upto = (owner : ℕ) (d : Hand) → owner < upto → hand_view (get_or hands owner d) ≡ partly_dealt (worker + 1) owner

-- those from a number on have none yet
abbrev pub AreLeft : List Hand → ℕ → ℕ → Type 0
AreLeft hands worker from = (owner : ℕ) (d : Hand) → from ≤ owner → owner < length hands → hand_view (get_or hands owner d) ≡ partly_dealt worker owner

pub done_more : (hands : List Hand) (next : Hand) (worker owner : ℕ) → owner < length hands → hand_view next ≡ partly_dealt (worker + 1) owner → AreDone hands worker owner
    → AreDone (set hands owner next) worker (owner + 1)
done_more hands next worker owner within is done other d less = ⊎_elim
    (λ (before : other < owner). ap hand_view (get_or-set_other hands owner other next d (λ same. omega arith)) ∙ done other d before)
    (λ (at : owner ≤ other).
    let same : other ≡ owner = omega arith in
    ap (λ n. hand_view (get_or (set hands owner next) n d)) same ∙ ap hand_view (get_or-set_same hands owner next d within) ∙ is ∙ ap (partly_dealt (worker + 1)) (sym same))
    (cases_lt other owner)

pub left_more : (hands : List Hand) (next : Hand) (worker owner : ℕ) → AreLeft hands worker owner → AreLeft (set hands owner next) worker (owner + 1)
left_more hands next worker owner left other d from within =
    ap hand_view (get_or-set_other hands owner other next d (λ same. omega arith)) ∙ left other d (omega arith) (omega (arith, within, length-set hands owner next))

pub done_own : (hands : List Hand) (worker owner : ℕ) → owner < length hands → owner ≡ worker → AreDone hands worker owner → AreLeft hands worker owner → AreDone hands worker (owner + 1)
done_own hands worker owner within own done left other d less = ⊎_elim
    (λ (before : other < owner). done other d before)
    (λ (at : owner ≤ other).
    let same : other ≡ worker = omega arith in
    left other d at (omega arith) ∙ ap (partly_dealt worker) same ∙ own_turn worker ∙ ap (partly_dealt (worker + 1)) (sym same))
    (cases_lt other owner)

-- The passes of a worker, once one more owner has had its turn
pub passes_next : (worker owner : ℕ) (deques : List Deque) (d : Deque) (passes : List Pass) (pass : Pass) → owner < length deques → (owner ≡ worker → ⊥)
    → map end_of passes ≡ passes_to worker (take owner deques) → end_of pass ≡ (get_or deques owner d, new_pass (worker ∷ []))
    → map end_of (passes ++ pass ∷ []) ≡ passes_to worker (take (owner + 1) deques)
passes_next worker owner deques d passes pass within other are is =
    map-append end_of passes (pass ∷ [])
    ∙ ap (λ ends. ends ++ end_of pass ∷ []) are
    ∙ ap (λ one. passes_to worker (take owner deques) ++ one ∷ []) is
    ∙ sym (passes_more worker (take owner deques) (get_or deques owner d) (λ same. other (omega (arith, length-take owner deques))))
    ∙ ap (passes_to worker) (sym (take-suc deques owner d within) ∙ ap (λ n. take n deques) (sym (add-one owner)))

pub passes_same : (worker owner : ℕ) (deques : List Deque) (d : Deque) → owner < length deques → owner ≡ worker → passes_to worker (take owner deques) ≡ passes_to worker (take (owner + 1) deques)
passes_same worker owner deques d within own =
    sym (passes_own worker (take owner deques) (get_or deques owner d) (omega (arith, length-take owner deques)))
    ∙ ap (passes_to worker) (sym (take-suc deques owner d within) ∙ ap (λ n. take n deques) (sym (add-one owner)))

-- the owners below a number have had their turn to give a worker its pass
pub record IsTurn (deques : List Deque) (worker owner : ℕ) (hands : List Hand) (passes : List Pass) : Type 0 where
  pub within : owner ≤ length hands
  pub deques_are : map hand_deque hands ≡ deques
  pub done : AreDone hands worker owner
  pub left : AreLeft hands worker owner
  pub passes_are : map end_of passes ≡ passes_to worker (take owner deques)

pub turn_served : (deques : List Deque) (worker owner : ℕ) (hands : List Hand) (passes : List Pass) (hand next : Hand) (pass : Pass)
    → IsTurn deques worker owner hands passes → owner < length hands → (owner ≡ worker → ⊥)
    → hand_deque next ≡ hand_deque (get_or hands owner hand) → hand_view next ≡ partly_dealt (worker + 1) owner
    → end_of pass ≡ (hand_deque (get_or hands owner hand), new_pass (worker ∷ []))
    → IsTurn deques worker (owner + 1) (set hands owner next) (passes ++ pass ∷ [])
turn_served deques worker owner hands passes hand next pass turn within other same view is = record {
  within = omega (arith, within, length-set hands owner next);
  deques_are = map-set_same hand_deque hands owner next hand same ∙ turn.deques_are;
  done = done_more hands next worker owner within view turn.done;
  left = left_more hands next worker owner turn.left;
  passes_are =
      let deque : get_or deques owner (hand_deque hand) ≡ hand_deque (get_or hands owner hand) =
      ap (λ ds. get_or ds owner (hand_deque hand)) (sym turn.deques_are) ∙ get_or-map hand_deque hands owner hand (hand_deque hand) within in
      passes_next worker owner deques (hand_deque hand) passes pass (omega (arith, within, length-map hands hand_deque, ap length turn.deques_are)) other turn.passes_are
      (is ∙ ap (λ (d : Deque). (d, new_pass (worker ∷ []))) (sym deque));
}

pub turn_own : (deques : List Deque) (worker owner : ℕ) (hands : List Hand) (passes : List Pass) (d : Deque)
    → IsTurn deques worker owner hands passes → owner < length hands → owner ≡ worker → IsTurn deques worker (owner + 1) hands passes
turn_own deques worker owner hands passes d turn within own = record {
  within = omega (arith, within);
  deques_are = turn.deques_are;
  done = done_own hands worker owner within own turn.done turn.left;
  left = λ other hand from below. turn.left other hand (omega arith) below;
  passes_are = turn.passes_are ∙ passes_same worker owner deques d (omega (arith, within, length-map hands hand_deque, ap length turn.deques_are)) own;
}

all_dealt : (workers owner : ℕ) → owner < workers → partly_dealt workers owner ≡ new_hand owner workers
all_dealt workers owner less =
    let is_owner : min workers owner ≡ owner = omega arith in
    let are_workers : max workers (min workers owner + 1) ≡ workers = omega arith in
    ap (λ o. new_hand o (max workers (min workers owner + 1))) is_owner ∙ ap (new_hand owner) are_workers

-- the hands, once all workers have their passes, and the passes are the places
pub places_dealt : (workers : ℕ) (lone dealt : List Hand) (piles : List (Vec Pass Global)) (places : List Place)
    → length lone ≡ workers → map hand_deque dealt ≡ map hand_deque lone → AreDealt (length lone) dealt
    → length piles ≡ length lone → ArePiles (map hand_deque lone) piles
    → map (λ (place : Place). place.hand) places ≡ dealt → map (λ (place : Place). place.passes) places ≡ piles
    → IsDeal workers places
places_dealt workers lone dealt piles places count same are_dealt many are_piles hands passes =
    let length_is : length places ≡ workers = omega (arith, length-map places (λ (place : Place). place.passes), ap length passes) in
    let deques : deques_of places ≡ map hand_deque lone =
    sym (map-map hand_deque (λ (place : Place). place.hand) places) ∙ ap (map hand_deque) hands ∙ same in
    let dealt_many : length dealt ≡ workers = omega (arith, length-map places (λ (place : Place). place.hand), ap length hands) in
    record {
      one_each = length_is;
      place = λ worker d less. record {
        hand =
            ap hand_view (sym (get_or-map (λ (place : Place). place.hand) places worker d d.hand (omega arith)) ∙ ap (λ hs. get_or hs worker d.hand) hands)
            ∙ are_dealt worker d.hand (omega arith)
            ∙ all_dealt (length lone) worker (omega arith)
            ∙ ap (new_hand worker) count;
        passes =
            ap (λ (pile : Vec Pass Global). map end_of pile.items) (sym (get_or-map (λ (place : Place). place.passes) places worker d d.passes (omega arith))
            ∙ ap (λ ps. get_or ps worker d.passes) passes)
            ∙ are_piles worker d.passes (omega arith)
            ∙ ap (passes_to worker) (sym deques);
      };
    }
