-- What is asked of a flight is decided: each question goes over the fixes, of which there is an end.
use Rattle.std.proofs.Common.{◌≡◌, sym, subst, refl, ℕ, ◌+◌, ◌-◌, ◌<◌, ◌≤◌, ◌⊎◌, inl, inr, List, [], ◌∷◌, length, take, Option, None, Some, ℤ, pos, ◌≤ℤ◌, ◌<ℤ◌, arith}
use Rattle.std.specs.Prelude.{IsSomeAnd, IsTrue, slice_get}
use Rattle.std.proofs.lemmas.Bool.{cases_eq}
use Rattle.gl_sphere.specs.declared.place.Vec3.{Vec3}
use Rattle.gl_sphere.specs.Distance.{squared_chord, written_distance}
use Rattle.gl_igc.specs.declared.fix.Fix.{Fix}
use Rattle.gl_igc.specs.declared.recording.Recording.{Recording}
use Rattle.gl_task.specs.declared.day_type.Finish.{Finish}
use Rattle.gl_task.specs.declared.day_type.Finish.TheVariants.{Ring, Gate}
use Rattle.gl_task.specs.declared.task.Start.{Start}
use Rattle.gl_task.specs.declared.task.Task.{Task}
use Rattle.gl_zone.specs.declared.line.Line.{Line}
use Rattle.gl_zone.specs.declared.zone.Zone.{Zone}
use Rattle.gl_zone.specs.Crossing.{CrossesForwards, at_crossing, distance_at_crossing}
use Rattle.gl_zone.specs.Side.{side_of}
use Rattle.gl_zone.specs.Zones.{is_in_zone}
use Rattle.gl_judge.specs.declared.stretch.Stretch.{Stretch}
use Rattle.gl_judge.specs.Crossings.{Crosses}
use Rattle.gl_judge.specs.Finishes.{IsAtFinish, IsInRing, lead_of}
use Rattle.gl_judge.specs.JudgedFixes.{IsInRange}
use Rattle.gl_judge.specs.Outcome.{Completes, IsCompleteStart}
use Rattle.gl_judge.specs.Starts.{IsAnnounced, IsStart}
use Rattle.gl_judge.specs.Visits.{Finishes, HasVisit, IsInZone, VisitsFirst}
use Rattle.gl_judge.proofs.Announcements.{decided-announced}
use Rattle.gl_judge.proofs.Decided.{Decided, decided-both, decided-by, decided-int_le, decided-int_lt, decided-le, decided-lt, decided-some, decided-true}
use Rattle.gl_judge.proofs.Lines.{crosses-forwards, crosses-is, crosses-once}
use Rattle.gl_judge.proofs.Rings.{in_ring, not_in_ring}
use Rattle.gl_judge.proofs.Times.{finish-judged}
use Rattle.gl_judge.proofs.Routes.{visited-begins, visited-cons, visited-none, visited-none-is}

decided-range : (range : Stretch) (i : ℕ) → Decided (IsInRange range i)
decided-range range i = decided-both (range.from ≤ i) (i < range.to) (decided-le range.from i) (decided-lt i range.to)

-- an item is there, or none is
seen : {X : Type 0} (o : Option X) → ((x : X) × (o ≡ Some x)) ⊎ (o ≡ None)
seen None = inr refl
seen (Some x) = inl (x, refl)

unseen : {X : Type 0} (o : Option X) (x : X) → o ≡ None → o ≡ Some x → ⊥
unseen o x none some = absurd (cc)

decided-forwards : (line : Line) (x y : Fix) → Decided ((t : ℤ) × CrossesForwards line x y t)
decided-forwards line x y =
    let Before = side_of line x.at <ℤ pos 0 in
    let Behind = pos 0 ≤ℤ side_of line y.at in
    let Within = distance_at_crossing line x y ≤ line.half in
    decided-by (Before × (Behind × Within)) ((t : ℤ) × CrossesForwards line x y t)
    (λ h. (at_crossing line x y x.second y.second, record { before = h.0; behind = h.1.0; within = h.1.1; time = refl }))
    (λ h. (h.1.before, (h.1.behind, h.1.within)))
    (decided-both Before (Behind × Within) (decided-int_lt (side_of line x.at) (pos 0))
    (decided-both Behind Within (decided-int_le (pos 0) (side_of line y.at)) (decided-le (distance_at_crossing line x y) line.half)))

crosses-before : (line : Line) (fixes : List Fix) (judged : Stretch) (i : ℕ) (time : ℤ) → slice_get fixes (i - 1) ≡ None → Crosses line fixes judged i time → ⊥
crosses-before line fixes judged i time none c =
    let next : c.before + 1 ≡ i = c.next in
    let at : c.before ≡ i - 1 = omega arith in
    unseen (slice_get fixes (i - 1)) c.x none (subst (λ (n : ℕ). slice_get fixes n ≡ Some c.x) at c.x_is)

crossed-between : (line : Line) (fixes : List Fix) (judged : Stretch) (i : ℕ) → judged.from < i → i < judged.to → ((x : Fix) × (slice_get fixes (i - 1) ≡ Some x)) ⊎ (slice_get fixes (i - 1) ≡ None)
    → ((y : Fix) × (slice_get fixes i ≡ Some y)) ⊎ (slice_get fixes i ≡ None) → Decided ((time : ℤ) × Crosses line fixes judged i time)
crossed-between line fixes judged i after within (inl (x, x_is)) (inl (y, y_is)) =
    decided-by ((time : ℤ) × CrossesForwards line x y time) ((time : ℤ) × Crosses line fixes judged i time)
    (λ h. (h.0, crosses-is line fixes judged i x y h.0 after within x_is y_is h.1))
    (λ c. (c.0, crosses-forwards line fixes judged i x y c.0 x_is y_is c.1))
    (decided-forwards line x y)
crossed-between line fixes judged i after within (inl before) (inr none) = inr (λ c. unseen (slice_get fixes i) c.1.y none c.1.y_is)
crossed-between line fixes judged i after within (inr none) behind = inr (λ c. crosses-before line fixes judged i c.0 none c.1)

-- whether a line is crossed at a fix is decided, and when
pub decided-crosses : (line : Line) (fixes : List Fix) (judged : Stretch) (i : ℕ) → Decided ((time : ℤ) × Crosses line fixes judged i time)
decided-crosses line fixes judged i = elim (decided-both (judged.from < i) (i < judged.to) (decided-lt judged.from i) (decided-lt i judged.to))
    as (λ _. Decided ((time : ℤ) × Crosses line fixes judged i time)) [
      | inl inner ↦ crossed-between line fixes judged i inner.0 inner.1 (seen (slice_get fixes (i - 1))) (seen (slice_get fixes i))
      | inr outer ↦ inr (λ c. outer (omega (arith, c.1.next, c.1.before_judged.0), c.1.behind_judged.1))
    ]

-- whether a fix is a legal start is decided
pub decided-start : (start : Start) (recording : Recording) (judged : Stretch) (b : ℕ) → Decided (IsStart start recording judged b)
decided-start start recording judged b = elim (decided-crosses start.line recording.fixes judged b) as (λ _. Decided (IsStart start recording judged b)) [
  | inl c ↦ decided-by ((start.opens ≤ℤ c.0) × ((c.0 ≤ℤ start.close) × IsAnnounced start.pilot recording.events c.0)) (IsStart start recording judged b)
      (λ h. record { time = c.0; legal = record { crossed = c.1; opened = h.0; not_closed = h.1.0; announced = h.1.1 } })
      (λ s.
      let same : s.time ≡ c.0 = crosses-once start.line recording.fixes judged b s.time c.0 s.legal.crossed c.1 in (
        subst (λ (t : ℤ). start.opens ≤ℤ t) same s.legal.opened,
        (
          subst (λ (t : ℤ). t ≤ℤ start.close) same s.legal.not_closed,
          subst (λ (t : ℤ). IsAnnounced start.pilot recording.events t) same s.legal.announced,
        ),
      ))
      (decided-both (start.opens ≤ℤ c.0) ((c.0 ≤ℤ start.close) × IsAnnounced start.pilot recording.events c.0) (decided-int_le start.opens c.0)
      (decided-both (c.0 ≤ℤ start.close) (IsAnnounced start.pilot recording.events c.0) (decided-int_le c.0 start.close) (decided-announced start.pilot recording.events c.0)))
  | inr never ↦ inr (λ s. never (s.time, s.legal.crossed))
]

ring-seen : (at : Vec3) (radius : ℕ) (fixes : List Fix) (judged : Stretch) (f : ℕ) → ((fix : Fix) × (slice_get fixes f ≡ Some fix)) ⊎ (slice_get fixes f ≡ None)
    → Decided ((time : ℤ) × IsInRing at radius fixes judged f time)
ring-seen at radius fixes judged f (inl (fix, is)) =
    let Near = written_distance (squared_chord fix.at at) ≤ radius in
    elim (decided-both (IsInRange judged f) Near (decided-range judged f) (decided-le (written_distance (squared_chord fix.at at)) radius))
    as (λ _. Decided ((time : ℤ) × IsInRing at radius fixes judged f time)) [
      | inl h ↦ inl (fix.second, in_ring at radius fixes judged f fix fix.second h.0 is h.1 refl)
      | inr never ↦ inr (λ h. not_in_ring at radius fixes judged f fix is (λ near. never (h.1.is_judged, near)) h.0 h.1)
    ]
ring-seen at radius fixes judged f (inr none) = inr (λ h. unseen (slice_get fixes f) h.1.fix none h.1.fix_is)

-- whether a fix is at the finish is decided, and when
pub decided-at_finish : (finish : Finish) (fixes : List Fix) (judged : Stretch) (f : ℕ) → Decided ((time : ℤ) × IsAtFinish finish fixes judged f time)
decided-at_finish (Ring at radius) fixes judged f = ring-seen at radius fixes judged f (seen (slice_get fixes f))
decided-at_finish (Gate line) fixes judged f = decided-crosses line fixes judged f

decided-inside : (zone : Zone) (o : Option Fix) → Decided (IsSomeAnd o (λ fix. IsTrue (is_in_zone zone fix.at)))
decided-inside zone None = inr (λ h. h)
decided-inside zone (Some fix) = decided-true (is_in_zone zone fix.at)

-- whether a fix is in a zone is decided
pub decided-in_zone : (fixes : List Fix) (judged : Stretch) (zone : Zone) (i : ℕ) → Decided (IsInZone fixes judged zone i)
decided-in_zone fixes judged zone i =
    let Inside = IsSomeAnd (slice_get fixes i) (λ (fix : Fix). IsTrue (is_in_zone zone fix.at)) in
    decided-by (IsInRange judged i × Inside) (IsInZone fixes judged zone i)
    (λ h. record { is_judged = h.0; inside = h.1 }) (λ h. (h.is_judged, h.inside))
    (decided-both (IsInRange judged i) Inside (decided-range judged i) (decided-inside zone (slice_get fixes i)))

-- a first zone is visited at a fix, and what comes then holds from there
abbrev GoesBy : List Fix → Stretch → Zone → ℕ → (ℕ → Type 0) → ℕ → Type 0
GoesBy fixes judged zone from Rest z = (from ≤ z) × (IsInZone fixes judged zone z × Rest z)

decided-goes : (fixes : List Fix) (judged : Stretch) (zone : Zone) (from : ℕ) (Rest : ℕ → Type 0) → ((z : ℕ) → Decided (Rest z)) → Decided ((z : ℕ) × GoesBy fixes judged zone from Rest z)
decided-goes fixes judged zone from Rest rest =
    decided-some (GoesBy fixes judged zone from Rest) judged.to
    (λ z below. decided-both (from ≤ z) (IsInZone fixes judged zone z × Rest z) (decided-le from z)
    (decided-both (IsInZone fixes judged zone z) (Rest z) (decided-in_zone fixes judged zone z) (rest z)))
    (λ z h. h.1.0.is_judged.1)

-- whether zones have a visit that ends with a fix is decided
pub decided-visit : (fixes : List Fix) (judged : Stretch) (zones : List Zone) (from last : ℕ) → Decided (HasVisit fixes judged zones from last)
decided-visit fixes judged [] from last = elim (cases_eq from last) as (λ _. Decided (HasVisit fixes judged [] from last)) [
  | inl same ↦ inl (subst (λ (n : ℕ). HasVisit fixes judged [] from n) same (visited-none fixes judged from))
  | inr other ↦ inr (λ h. other (sym (visited-none-is fixes judged from last h)))
]
decided-visit fixes judged (zone ∷ zones) from last =
    decided-by ((z : ℕ) × GoesBy fixes judged zone from (λ z. HasVisit fixes judged zones z last) z) (HasVisit fixes judged (zone ∷ zones) from last)
    (λ h. visited-cons fixes judged zone zones from h.0 last h.1.0 h.1.1.0 h.1.1.1)
    (λ h. let u = visited-begins fixes judged zone zones from last h in (u.z, (u.after, (u.here, u.rest))))
    (decided-goes fixes judged zone from (λ z. HasVisit fixes judged zones z last) (λ z. decided-visit fixes judged zones z last))

-- whether zones have a visit is decided
pub decided-visited : (fixes : List Fix) (judged : Stretch) (zones : List Zone) (from : ℕ) → Decided ((last : ℕ) × HasVisit fixes judged zones from last)
decided-visited fixes judged [] from = inl (from, visited-none fixes judged from)
decided-visited fixes judged (zone ∷ zones) from =
    decided-by ((z : ℕ) × GoesBy fixes judged zone from (λ z. (last : ℕ) × HasVisit fixes judged zones z last) z) ((last : ℕ) × HasVisit fixes judged (zone ∷ zones) from last)
    (λ h. (h.1.1.1.0, visited-cons fixes judged zone zones from h.0 h.1.1.1.0 h.1.0 h.1.1.0 h.1.1.1.1))
    (λ h. let u = visited-begins fixes judged zone zones from h.0 h.1 in (u.z, (u.after, (u.here, (h.0, u.rest)))))
    (decided-goes fixes judged zone from (λ z. (last : ℕ) × HasVisit fixes judged zones z last) (λ z. decided-visited fixes judged zones z))

-- whether so many zones are visited is decided
pub decided-first : (fixes : List Fix) (judged : Stretch) (zones : List Zone) (from count : ℕ) → Decided (VisitsFirst fixes judged zones from count)
decided-first fixes judged zones from count =
    let Visited = (last : ℕ) × HasVisit fixes judged (take count zones) from last in
    decided-by ((count ≤ length zones) × Visited) (VisitsFirst fixes judged zones from count)
    (λ h. record { within = h.0; last = h.1.0; visited = h.1.1 }) (λ h. (h.within, (h.last, h.visited)))
    (decided-both (count ≤ length zones) Visited (decided-le count (length zones)) (decided-visited fixes judged (take count zones) from))

-- whether a fix finishes a flight after a visit of zones is decided, and when
decided-finishes : (finish : Finish) (fixes : List Fix) (judged : Stretch) (zones : List Zone) (from f : ℕ) → Decided ((time : ℤ) × Finishes finish fixes judged zones from f time)
decided-finishes finish fixes judged zones from f =
    let Ends : ℕ → Type 0 = λ last. (last + lead_of finish ≤ f) × HasVisit fixes judged zones from last in
    elim (decided-at_finish finish fixes judged f) as (λ _. Decided ((time : ℤ) × Finishes finish fixes judged zones from f time)) [
      | inl at ↦ decided-by ((last : ℕ) × Ends last) ((time : ℤ) × Finishes finish fixes judged zones from f time)
          (λ h. (at.0, record { last = h.0; visited = h.1.1; finished = record { after = h.1.0; at_finish = at.1 } }))
          (λ h. (h.1.last, (h.1.finished.after, h.1.visited)))
          (decided-some Ends (f + 1)
          (λ last below. decided-both (last + lead_of finish ≤ f) (HasVisit fixes judged zones from last) (decided-le (last + lead_of finish) f) (decided-visit fixes judged zones from last))
          (λ last h. omega (arith, h.0)))
      | inr never ↦ inr (λ h. never (h.0, h.1.finished.at_finish))
    ]

-- whether a fix completes a start is decided
pub decided-completes : (task : Task) (recording : Recording) (judged : Stretch) (b f : ℕ) → Decided (Completes task recording judged b f)
decided-completes task recording judged b f =
    decided-by ((time : ℤ) × Finishes task.finish recording.fixes judged task.zones b f time) (Completes task recording judged b f)
    (λ h. record { time = h.0; finishes = h.1 }) (λ h. (h.time, h.finishes))
    (decided-finishes task.finish recording.fixes judged task.zones b f)

-- whether a start is complete is decided
pub decided-complete_start : (task : Task) (recording : Recording) (judged : Stretch) (b : ℕ) → Decided (IsCompleteStart task recording judged b)
decided-complete_start task recording judged b =
    let Begun = IsStart task.start recording judged b in
    let Done = (f : ℕ) × Completes task recording judged b f in
    decided-by (Begun × Done) (IsCompleteStart task recording judged b)
    (λ h. record { start = h.0; completed = record { f = h.1.0; time = h.1.1.time; finishes = h.1.1.finishes } })
    (λ h. (h.start, (h.completed.f, record { time = h.completed.time; finishes = h.completed.finishes })))
    (decided-both Begun Done (decided-start task.start recording judged b)
    (decided-some (Completes task recording judged b) judged.to (λ f below. decided-completes task recording judged b f)
    (λ f h. (finish-judged task.finish recording.fixes judged f h.time h.finishes.finished.at_finish).1)))
