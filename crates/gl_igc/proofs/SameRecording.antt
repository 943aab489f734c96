-- A recording is known by what it says.
use Rattle.std.proofs.Common.{◌≡◌, ◌∙◌, refl, sym, ap, ◌≤◌, length, map, Option, None, Some, pos}
use Rattle.std.specs.Prelude.{IsTrue, neg_ℤ, ◌≤ℤ◌}
use Rattle.std.proofs.Props.{props}
use mathlib.Core.HLevel.{is_prop→PathP}
use Rattle.gl_sphere.specs.declared.place.Vec3.{Vec3}
use Rattle.gl_sphere.specs.Place.{written_vector}
use Rattle.gl_sphere.specs.PlaceText.{place_of}
use Rattle.gl_sphere.proofs.SamePlaces.{Grid-same, each_back, place_same}
use Rattle.gl_igc.specs.declared.fix.Fix.{Fix}
use Rattle.gl_igc.specs.declared.recording.Declared.{Declared}
use Rattle.gl_igc.specs.declared.recording.Recording.{Recording}
use Rattle.gl_igc.specs.Reading.{Reading, Sighting, most_fixes}
use Rattle.gl_igc.specs.Recording.{declared_of, reading_of, sighting_of}
use Rattle.gl_igc.specs.Seconds.{is_rising}

vectors_once : (v w : Vec3) → IsProp (v ≡ w)
vectors_once v w = hlevel props

fix_same : (v w : Fix) → sighting_of v ≡ sighting_of w → v ≡ w
fix_same v w same =
    let second : v.second ≡ w.second = ap (λ (s : Sighting). s.second) same in
    let lat : v.grid.lat ≡ w.grid.lat = ap (λ (s : Sighting). s.lat) same in
    let lon : v.grid.lon ≡ w.grid.lon = ap (λ (s : Sighting). s.lon) same in
    let alt : v.alt ≡ w.alt = ap (λ (s : Sighting). s.alt) same in
    let enl : v.enl ≡ w.enl = ap (λ (s : Sighting). s.enl) same in
    let grid : v.grid ≡ w.grid = Grid-same v.grid w.grid lat lon in
    let at : v.at ≡ w.at = v.placed ∙ ap written_vector grid ∙ sym w.placed in
    λ i. record {
      second = second i;
      grid = grid i;
      at = at i;
      alt = alt i;
      enl = enl i;
      placed = is_prop→PathP (λ j. at j ≡ written_vector (grid j)) (λ j. vectors_once (at j) (written_vector (grid j))) v.placed w.placed i;
      above = is_prop→PathP (λ j. neg_ℤ (pos 9_999) ≤ℤ alt j) (λ j. hlevel props) v.above w.above i;
      below = is_prop→PathP (λ j. alt j ≤ℤ pos 32_767) (λ j. hlevel props) v.below w.below i;
    }

declared_same : (a b : Option Declared) → declared_of a ≡ declared_of b → a ≡ b
declared_same None None same = refl
declared_same None (Some d) same = absurd (cc)
declared_same (Some d) None same = absurd (cc)
declared_same (Some d) (Some e) same =
    let inner : map place_of d.points ≡ map place_of e.points = cc in
    let points = each_back place_of place_same d.points e.points inner in
    λ i. Some (record {
      points = points i;
      at_least_four = is_prop→PathP (λ j. 4 ≤ length (points j)) (λ j. hlevel props) d.at_least_four e.at_least_four i;
      at_most_103 = is_prop→PathP (λ j. length (points j) ≤ 103) (λ j. hlevel props) d.at_most_103 e.at_most_103 i;
    })

-- two recordings that say the same are one
pub recording_same : (r s : Recording) → reading_of r ≡ reading_of s → r ≡ s
recording_same r s same =
    let date : r.date ≡ s.date = ap (λ (t : Reading). t.date) same in
    let fixes : r.fixes ≡ s.fixes = each_back sighting_of fix_same r.fixes s.fixes (ap (λ (t : Reading). t.fixes) same) in
    let events : r.events ≡ s.events = ap (λ (t : Reading). t.events) same in
    let declared : r.declared ≡ s.declared = declared_same r.declared s.declared (ap (λ (t : Reading). t.declared) same) in
    let skipped : r.skipped ≡ s.skipped = ap (λ (t : Reading). t.skipped) same in
    λ i. record {
      date = date i;
      fixes = fixes i;
      events = events i;
      declared = declared i;
      skipped = skipped i;
      some_fix = is_prop→PathP (λ j. 1 ≤ length (fixes j)) (λ j. hlevel props) r.some_fix s.some_fix i;
      at_most_90000 = is_prop→PathP (λ j. length (fixes j) ≤ most_fixes) (λ j. hlevel props) r.at_most_90000 s.at_most_90000 i;
      rising = is_prop→PathP (λ j. IsTrue (is_rising (map (λ (fix : Fix). fix.second) (fixes j)))) (λ j. hlevel props) r.rising s.rising i;
    }
