-- Which events announce a start.
use Rattle.std.proofs.Common.{◌≡◌, ◌∙◌, sym, ap, ◌<◌, true, List, length, take, get_or, Option, None, Some, ℤ, arith, inl, inr}
use Rattle.std.specs.List.{list_any}
use Rattle.std.proofs.lemmas.Bool.{cases_Bool, false≢true}
use Rattle.std.proofs.lemmas.List.{get_or-take, length-take}
use Rattle.std.proofs.lemmas.List.Folds.{Any-from_list_any, list_any_at}
use Rattle.std.proofs.lemmas.Option.{get_or_from_slice_get, slice_get-get_or, slice_get_within}
use Rattle.gl_task.specs.declared.task.PilotStart.{PilotStart}
use Rattle.gl_judge.specs.Starts.{HasEvent, IsAnnounced, is_in_window}
use Rattle.gl_judge.proofs.Decided.{Decided}

-- a time that is found in the window of one of the first three events is announced
pub has_event : (pilot : PilotStart) (events : List ℤ) (time : ℤ) → list_any (is_in_window pilot time) (take 3 events) ≡ true → HasEvent pilot events time
has_event pilot events time found =
    let any = Any-from_list_any (is_in_window pilot time) (take 3 events) found in
    let here : any.0 < length (take 3 events) = any.2 in
    let short : any.0 < 3 = omega (arith, length-take 3 events) in
    let within : any.0 < length events = omega (arith, length-take 3 events) in
    let item : any.1 ≡ get_or events any.0 any.1 = sym any.3 ∙ get_or-take 3 events any.0 any.1 short in
    record {
      number = any.0;
      counts = short;
      event = any.1;
      event_is = slice_get-get_or events any.0 any.1 within ∙ ap Some (sym item);
      in_window = any.4;
    }

-- and a time that is announced is found so
pub event_found : (pilot : PilotStart) (events : List ℤ) (time : ℤ) → HasEvent pilot events time → list_any (is_in_window pilot time) (take 3 events) ≡ true
event_found pilot events time h =
    let within : h.number < length events = slice_get_within events h.number h.event h.event_is in
    let item : get_or (take 3 events) h.number h.event ≡ h.event = get_or-take 3 events h.number h.event h.counts ∙ get_or_from_slice_get events h.number h.event h.event h.event_is in
    let counts : h.number < 3 = h.counts in
    list_any_at (is_in_window pilot time) (take 3 events) h.number h.event (omega (arith, length-take 3 events)) (ap (is_in_window pilot time) item ∙ h.in_window)

-- whether a start is announced is decided
pub decided-announced : (pilot : Option PilotStart) (events : List ℤ) (time : ℤ) → Decided (IsAnnounced pilot events time)
decided-announced None events time = inl tt
decided-announced (Some pilot) events time = elim (cases_Bool (list_any (is_in_window pilot time) (take 3 events))) as (λ _. Decided (HasEvent pilot events time)) [
  | inl found ↦ inl (has_event pilot events time found)
  | inr none ↦ inr (λ h. false≢true (sym none ∙ event_found pilot events time h))
]
