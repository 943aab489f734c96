-- The choices that visits make.
use Rattle.std.proofs.Common.{◌≡◌, ◌∙◌, sym, ap, refl, subst, ℕ, zero, suc, ◌+◌, ◌-◌, ◌<◌, ◌≤◌, List, [], ◌∷◌, ◌++◌, length, map, take, get_or, arith}
use Rattle.std.specs.Prelude.{All}
use Rattle.std.specs.List.Sorted.{IsStrictlyIncreasing}
use Rattle.std.proofs.lemmas.List.{length-append, length-map, length-take-le, map-append, take_all}
use Rattle.gl_sphere.specs.declared.place.Vec3.{Vec3}
use Rattle.gl_igc.specs.declared.recording.Recording.{Recording}
use Rattle.gl_task.specs.declared.task.Task.{Task}
use Rattle.gl_goal.specs.Area.{area_goal}
use Rattle.gl_goal.specs.Out.{out_goal}
use Rattle.gl_judge.specs.declared.outcome.Window.{Window}
use Rattle.gl_judge.specs.declared.stretch.Stretch.{Stretch}
use Rattle.gl_judge.specs.Finishes.{lead_of}
use Rattle.gl_judge.specs.Greatest.{IsGreatest, IsLeast}
use Rattle.gl_judge.specs.JudgedFixes.{IsInRange}
use Rattle.gl_judge.specs.Code.Outcome.{HasFinished}
use Rattle.gl_igc.specs.declared.fix.Fix.{Fix}
use Rattle.gl_zone.specs.declared.zone.Zone.{Zone}
use Rattle.gl_goal.specs.Lists.{AreLists, AreNamed}
use Rattle.gl_goal.specs.Goal.{IsInTimeOrder, IsLegal, IsTuple, Goal, chosen}
use Rattle.gl_goal.specs.Lemmas.Free.{numbers_from-rises}
use Rattle.gl_judge.specs.Choices.{numbers_before, numbers_in_zone, zone_lists}
use Rattle.gl_goal.specs.Chain.{last_of}
use Rattle.gl_judge.specs.Visits.{HasVisit, IsVisit, VisitsFirst}
use Rattle.gl_judge.proofs.Numbers.{before-named, before-placed, zone-named, zone-placed, zone-rises}
use Rattle.gl_judge.proofs.Routes.{last-after}
use Rattle.gl_judge.proofs.Times.{finish-judged}

-- a choice from lists that names these fixes, in time order
pub record IsTour (lists : List (List ℕ)) (numbers : List ℕ) : Type 0 where
  pub places : List ℕ
  pub is_tuple : IsTuple lists places
  pub names : chosen lists places ≡ numbers
  pub in_order : IsInTimeOrder numbers

visit-order : (fixes : List Fix) (judged : Stretch) (zones : List Zone) (from : ℕ) (visit : List ℕ) → IsVisit fixes judged zones from visit → IsInTimeOrder (from ∷ visit)
visit-order fixes judged [] from [] v = tt
visit-order fixes judged [] from (z ∷ zs) v = absurd v
visit-order fixes judged (zone ∷ zones) from [] v = absurd v
visit-order fixes judged (zone ∷ zones) from (z ∷ zs) v = (v.0, visit-order fixes judged zones z zs v.2)

order-rest : (x : ℕ) (xs : List ℕ) → IsInTimeOrder (x ∷ xs) → IsInTimeOrder xs
order-rest x [] order = tt
order-rest x (y ∷ ys) order = order.1

visit-placed : (fixes : List Fix) (judged : Stretch) (zones : List Zone) (from first behind : ℕ) (visit : List ℕ) → first ≤ from → last_of from visit < behind → IsVisit fixes judged zones from visit
    → (places : List ℕ) × IsTuple (zone_lists fixes zones first behind) places × (chosen (zone_lists fixes zones first behind) places ≡ visit)
visit-placed fixes judged [] from first behind [] after below v = ([], tt, refl)
visit-placed fixes judged [] from first behind (z ∷ zs) after below v = absurd v
visit-placed fixes judged (zone ∷ zones) from first behind [] after below v = absurd v
visit-placed fixes judged (zone ∷ zones) from first behind (z ∷ zs) after below v =
    let not_before : from ≤ z = v.0 in
    let end : z ≤ last_of z zs = last-after fixes judged zones z zs v.2 in
    let here = zone-placed fixes first behind zone z (omega arith) (omega arith) v.1.inside in
    let rest = visit-placed fixes judged zones z first behind zs (omega arith) below v.2 in
    (here.place ∷ rest.0, (here.within, rest.1), (λ i. here.there i ∷ rest.2 i))

-- a visit is a choice from the lists of its zones
pub visit-tour : (fixes : List Fix) (judged : Stretch) (zones : List Zone) (first behind : ℕ) (visit : List ℕ) → last_of first visit < behind → IsVisit fixes judged zones first visit
    → IsTour (zone_lists fixes zones first behind) visit
visit-tour fixes judged zones first behind visit below v =
    let placed = visit-placed fixes judged zones first first behind visit (omega arith) below v in
    record {
      places = placed.0;
      is_tuple = placed.1;
      names = placed.2;
      in_order = order-rest first visit (visit-order fixes judged zones first visit v);
    }

-- a list that a choice is made from isn't empty
pub tuple-some : (lists : List (List ℕ)) (places : List ℕ) → IsTuple lists places → All (λ list. 0 < length list) lists
tuple-some [] [] fits k d below = absurd (omega arith)
tuple-some [] (place ∷ places) fits k d below = absurd fits
tuple-some (list ∷ lists) [] fits k d below = absurd fits
tuple-some (list ∷ lists) (place ∷ places) fits zero d below = omega (arith, fits.0)
tuple-some (list ∷ lists) (place ∷ places) fits (suc k) d below = tuple-some lists places fits.1 k d (omega arith)

pub lists-rise : (fixes : List Fix) (zones : List Zone) (first behind : ℕ) → All IsStrictlyIncreasing (zone_lists fixes zones first behind)
lists-rise fixes [] first behind k d below = absurd (omega arith)
lists-rise fixes (zone ∷ zones) first behind zero d below = zone-rises fixes first behind zone
lists-rise fixes (zone ∷ zones) first behind (suc k) d below = lists-rise fixes zones first behind k d (omega arith)

pub lists-named : (fixes : List Fix) (zones : List Zone) (first behind : ℕ) → behind ≤ length fixes → All (AreNamed fixes) (zone_lists fixes zones first behind)
lists-named fixes [] first behind most k d below = absurd (omega arith)
lists-named fixes (zone ∷ zones) first behind most zero d below = zone-named fixes first behind zone most
lists-named fixes (zone ∷ zones) first behind most (suc k) d below = lists-named fixes zones first behind most k d (omega arith)

-- one list more, of all numbers before one, of which the greatest is chosen
tuple-last : (lists : List (List ℕ)) (places : List ℕ) (list : List ℕ) (place : ℕ) → IsTuple lists places → place < length list → IsTuple (lists ++ list ∷ []) (places ++ place ∷ [])
tuple-last [] [] list place fits within = (within, tt)
tuple-last [] (p ∷ places) list place fits within = absurd fits
tuple-last (l ∷ lists) [] list place fits within = absurd fits
tuple-last (l ∷ lists) (p ∷ places) list place fits within = (fits.0, tuple-last lists places list place fits.1 within)

chosen-last : (lists : List (List ℕ)) (places : List ℕ) (list : List ℕ) (place : ℕ) → IsTuple lists places
    → chosen (lists ++ list ∷ []) (places ++ place ∷ []) ≡ chosen lists places ++ get_or list place 0 ∷ []
chosen-last [] [] list place fits = refl
chosen-last [] (p ∷ places) list place fits = absurd fits
chosen-last (l ∷ lists) [] list place fits = absurd fits
chosen-last (l ∷ lists) (p ∷ places) list place fits = ap (λ (ns : List ℕ). get_or l p 0 ∷ ns) (chosen-last lists places list place fits.1)

order-last : (first : ℕ) (numbers : List ℕ) (y : ℕ) → IsInTimeOrder (first ∷ numbers) → last_of first numbers ≤ y → IsInTimeOrder (first ∷ (numbers ++ y ∷ []))
order-last first [] y order after = (after, tt)
order-last first (z ∷ zs) y order after = (order.0, order-last z zs y order.1 after)

pub tour-last : (fixes : List Fix) (judged : Stretch) (zones : List Zone) (first behind : ℕ) (visit : List ℕ) → last_of first visit < behind → IsVisit fixes judged zones first visit
    → IsTour (zone_lists fixes zones first behind ++ numbers_before first behind ∷ []) (visit ++ (behind - 1) ∷ [])
tour-last fixes judged zones first behind visit below v =
    let tour = visit-tour fixes judged zones first behind visit below v in
    let end : first ≤ last_of first visit = last-after fixes judged zones first visit v in
    let y = before-placed first behind (behind - 1) (omega arith) (omega arith) in
    let lists = zone_lists fixes zones first behind in
    record {
      places = tour.places ++ y.place ∷ [];
      is_tuple = tuple-last lists tour.places (numbers_before first behind) y.place tour.is_tuple y.within;
      names = chosen-last lists tour.places (numbers_before first behind) y.place tour.is_tuple ∙ (λ i. tour.names i ++ y.there i ∷ []);
      in_order = order-rest first (visit ++ (behind - 1) ∷ []) (order-last first visit (behind - 1) (visit-order fixes judged zones first visit v) (omega arith));
    }

pub all-last : (P : List ℕ → Type 0) (lists : List (List ℕ)) (list : List ℕ) → All P lists → P list → All P (lists ++ list ∷ [])
all-last P [] list all one zero d below = one
all-last P [] list all one (suc k) d below = absurd (omega arith)
all-last P (l ∷ lists) list all one zero d below = all 0 d (omega arith)
all-last P (l ∷ lists) list all one (suc k) d below = all-last P lists list (λ j e inside. all (suc j) e (omega arith)) one k d (omega arith)

-- the lists from which visits and a last fix are chosen are well formed
pub zone-lists : (fixes : List Fix) (zones : List Zone) (first behind : ℕ) (numbers : List ℕ) → 0 < length zones → length zones ≤ 10 → behind ≤ length fixes
    → IsTour (zone_lists fixes zones first behind) numbers → AreLists fixes (zone_lists fixes zones first behind)
zone-lists fixes zones first behind numbers some ten most tour = record {
  some_list = omega (arith, some, length-map zones (numbers_in_zone fixes first behind));
  ten_lists = omega (arith, ten, length-map zones (numbers_in_zone fixes first behind));
  some_number = tuple-some (zone_lists fixes zones first behind) tour.places tour.is_tuple;
  rising = lists-rise fixes zones first behind;
  named = lists-named fixes zones first behind most;
}

pub out-lists : (fixes : List Fix) (zones : List Zone) (first behind : ℕ) (numbers : List ℕ) → length zones ≤ 9 → behind ≤ length fixes
    → IsTour (zone_lists fixes zones first behind ++ numbers_before first behind ∷ []) numbers → AreLists fixes (zone_lists fixes zones first behind ++ numbers_before first behind ∷ [])
out-lists fixes zones first behind numbers nine most tour =
    let lists = zone_lists fixes zones first behind in
    record {
      some_list = omega (arith, length-append lists (numbers_before first behind ∷ []));
      ten_lists = omega (arith, nine, length-append lists (numbers_before first behind ∷ []), length-map zones (numbers_in_zone fixes first behind));
      some_number = tuple-some (lists ++ numbers_before first behind ∷ []) tour.places tour.is_tuple;
      rising = all-last IsStrictlyIncreasing lists (numbers_before first behind) (lists-rise fixes zones first behind) (numbers_from-rises first (behind - first));
      named = all-last (AreNamed fixes) lists (numbers_before first behind) (lists-named fixes zones first behind most) (before-named first behind (length fixes) most);
    }

-- the last fix of a visit is judged, if the first one is
pub visit-judged : (fixes : List Fix) (judged : Stretch) (zones : List Zone) (from : ℕ) (visit : List ℕ) → IsInRange judged from → IsVisit fixes judged zones from visit
    → last_of from visit < judged.to
visit-judged fixes judged [] from [] start v = start.1
visit-judged fixes judged [] from (z ∷ zs) start v = absurd v
visit-judged fixes judged (zone ∷ zones) from [] start v = absurd v
visit-judged fixes judged (zone ∷ zones) from (z ∷ zs) start v = visit-judged fixes judged zones z zs v.1.is_judged v.2

-- where so many zones are visited, that many of them are
pub all-visited : (fixes : List Fix) (judged : Stretch) (zones given : List Zone) (from count n last : ℕ) → given ≡ zones → VisitsFirst fixes judged zones from count
    → IsGreatest (VisitsFirst fixes judged (take count given) from) n → IsLeast (HasVisit fixes judged (take n (take count given)) from) last
    → IsLeast (HasVisit fixes judged (take count zones) from) last
all-visited fixes judged zones given from count n last same v most least =
    let size : length (take count given) ≡ count = length-take-le count given (omega (arith, v.within, ap length same)) in
    let whole : take count (take count given) ≡ take count zones = take_all count (take count given) (omega (arith, size)) ∙ ap (take count) same in
    let one : VisitsFirst fixes judged (take count given) from count = record {
      within = omega (arith, size);
      last = v.last;
      visited = subst (λ (zs : List Zone). HasVisit fixes judged zs from v.last) (sym whole) v.visited;
    } in
    let n_is : n ≡ count = omega (arith, most.greatest count one, most.is.within, size) in
    let all : take n (take count given) ≡ take count zones = ap (λ (k : ℕ). take k (take count given)) n_is ∙ whole in
    subst (λ (zs : List Zone). IsLeast (HasVisit fixes judged zs from) last) all least

-- the choice of one who finished a task of areas
pub record HasTour (task : Task) (fixes : List Fix) (window : Window) : Type 0 where
  pub behind : ℕ
  pub behind_is : behind ≡ window.last + 1 - lead_of task.finish
  pub ordered : window.first ≤ behind
  pub within : behind ≤ length fixes
  pub numbers : List ℕ
  pub tour : IsTour (zone_lists fixes task.zones window.first behind) numbers

pub finish-tour : (task : Task) (recording : Recording) (window : Window) → HasFinished task recording window → HasTour task recording.fixes window
finish-tour task recording window has =
    let finish = has.finished.finish in
    let visit = finish.visited in
    let behind = window.last + 1 - lead_of task.finish in
    let end : last_of window.first visit.visit + lead_of task.finish ≤ window.last = omega (arith, ap (λ (n : ℕ). n + lead_of task.finish) visit.ends, finish.finished.after) in
    let start : window.first ≤ last_of window.first visit.visit = last-after recording.fixes has.judged task.zones window.first visit.visit visit.is_visit in
    let judged : window.last < has.judged.to = (finish-judged task.finish recording.fixes has.judged window.last has.finished.time finish.finished.at_finish).1 in
    record {
      behind = behind;
      behind_is = refl;
      ordered = omega arith;
      within = omega (arith, has.within);
      numbers = visit.visit;
      tour = visit-tour recording.fixes has.judged task.zones window.first behind visit.visit (omega arith) visit.is_visit;
    }

-- the lists of an area task, and a legal choice from them
pub area-legal : (task : Task) (fixes : List Fix) (window : Window) (start finish : Vec3) (off : ℕ) (tour : HasTour task fixes window)
    → (tuple : List ℕ) × IsLegal (area_goal fixes (zone_lists fixes task.zones window.first tour.behind) start finish off) tuple
unfolding area_goal
area-legal task fixes window start finish off tour = (
  tour.tour.places,
  record {
    is_tuple = tour.tour.is_tuple;
    in_order = subst IsInTimeOrder (sym tour.tour.names) tour.tour.in_order;
    allowed = refl;
  },
)

pub area-lists : (task : Task) (fixes : List Fix) (window : Window) (tour : HasTour task fixes window) → AreLists fixes (zone_lists fixes task.zones window.first tour.behind)
area-lists task fixes window tour =
    zone-lists fixes task.zones window.first tour.behind tour.numbers (omega (arith, task.some_zone)) (omega (arith, task.at_most_eight_zones)) tour.within tour.tour

-- the one list of an outlanding in a racing task, and a legal choice from it
pub racing-lists : (fixes : List Fix) (from behind : ℕ) → from < behind → behind ≤ length fixes → AreLists fixes (numbers_before from behind ∷ [])
racing-lists fixes from behind some most =
    out-lists fixes [] from behind ((behind - 1) ∷ []) (omega arith) most (tour-last fixes (record { from = from; to = behind }) [] from behind [] some tt)

pub racing-legal : (fixes : List Fix) (from behind fixed : ℕ) (start target : Vec3) → from < behind
    → (tuple : List ℕ) × IsLegal (out_goal fixes (numbers_before from behind ∷ []) start fixed target) tuple
unfolding out_goal
racing-legal fixes from behind fixed start target some =
    let tour = tour-last fixes (record { from = from; to = behind }) [] from behind [] some tt in
    (tour.places, record { is_tuple = tour.is_tuple; in_order = subst IsInTimeOrder (sym tour.names) tour.in_order; allowed = refl })

-- the lists of an outlanding in a task of areas, and a legal choice from them
pub out-tour : (fixes : List Fix) (judged : Stretch) (zones : List Zone) (first behind last : ℕ) → behind ≡ judged.to → HasVisit fixes judged zones first last → IsInRange judged first
    → (numbers : List ℕ) × IsTour (zone_lists fixes zones first behind ++ numbers_before first behind ∷ []) numbers
out-tour fixes judged zones first behind last is v start =
    (v.visit ++ (behind - 1) ∷ [], tour-last fixes judged zones first behind v.visit (omega (arith, is, visit-judged fixes judged zones first v.visit start v.is_visit)) v.is_visit)

pub areas-legal : (fixes : List Fix) (lists : List (List ℕ)) (numbers : List ℕ) (fixed : ℕ) (start target : Vec3) → IsTour lists numbers
    → (tuple : List ℕ) × IsLegal (out_goal fixes lists start fixed target) tuple
unfolding out_goal
areas-legal fixes lists numbers fixed start target tour =
    (tour.places, record { is_tuple = tour.is_tuple; in_order = subst IsInTimeOrder (sym tour.names) tour.in_order; allowed = refl })

-- lists and goals that are the same as wanted ones
pub lists-as : (fixes given : List Fix) (wanted lists : List (List ℕ)) → given ≡ fixes → lists ≡ wanted → AreLists fixes wanted → AreLists given lists
lists-as fixes given wanted lists given_is lists_are are =
    subst (λ (fs : List Fix). AreLists fs lists) (sym given_is) (subst (AreLists fixes) (sym lists_are) are)

pub legal-as : (rule wanted : Goal) → rule ≡ wanted → (tuple : List ℕ) × IsLegal wanted tuple → (tuple : List ℕ) × IsLegal rule tuple
legal-as rule wanted same legal = subst (λ (r : Goal). (tuple : List ℕ) × IsLegal r tuple) (sym same) legal

pub zone_lists-as : (fixes given : List Fix) (zones some : List Zone) (first behind end : ℕ) → given ≡ fixes → some ≡ zones → end ≡ behind
    → zone_lists given some first end ≡ zone_lists fixes zones first behind
zone_lists-as fixes given zones some first behind end given_is some_are end_is = λ i. zone_lists (given_is i) (some_are i) first (end_is i)

pub area_goal-as : (fixes given : List Fix) (wanted lists : List (List ℕ)) (start finish : Vec3) (off : ℕ) → given ≡ fixes → lists ≡ wanted
    → area_goal given lists start finish off ≡ area_goal fixes wanted start finish off
area_goal-as fixes given wanted lists start finish off given_is lists_are = λ i. area_goal (given_is i) (lists_are i) start finish off

pub out_goal-as : (fixes given : List Fix) (wanted lists : List (List ℕ)) (start : Vec3) (fixed : ℕ) (target : Vec3) → given ≡ fixes → lists ≡ wanted
    → out_goal given lists start fixed target ≡ out_goal fixes wanted start fixed target
out_goal-as fixes given wanted lists start fixed target given_is lists_are = λ i. out_goal (given_is i) (lists_are i) start fixed target

-- the items of one list, or of lists and one more
pub one-list : {V : Type 0} (f : V → List ℕ) (none pushed : List V) (list : List ℕ) → none ≡ [] → map f pushed ≡ map f none ++ list ∷ [] → map f pushed ≡ list ∷ []
one-list f none pushed list none_is is = is ∙ ap (λ vs. map f vs ++ list ∷ []) none_is

pub lists-more : {V : Type 0} (f : V → List ℕ) (before pushed : List V) (lists : List (List ℕ)) (list : List ℕ) → map f before ≡ lists → map f pushed ≡ map f before ++ list ∷ []
    → map f pushed ≡ lists ++ list ∷ []
lists-more f before pushed lists list lists_are is = is ∙ ap (λ (l : List (List ℕ)). l ++ list ∷ []) lists_are

pub lists-then : {V : Type 0} (f : V → List ℕ) (before pushed : List V) (v : V) (lists : List (List ℕ)) (list : List ℕ) → map f before ≡ lists → pushed ≡ before ++ v ∷ [] → f v ≡ list
    → map f pushed ≡ lists ++ list ∷ []
lists-then f before pushed v lists list lists_are is list_is =
    ap (map f) is ∙ map-append f before (v ∷ []) ∙ (λ i. lists_are i ++ list_is i ∷ [])
