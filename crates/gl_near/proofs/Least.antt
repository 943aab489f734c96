-- The total of a certificate is the least distance.
use Rattle.std.proofs.Common.{◌≡◌, subst, ℕ, ◌<◌, ◌≤◌, List, [], ◌∷◌, length, get_or, map, Option, Some, None, arith}
use Rattle.std.specs.Prelude.{All, IsSomeAnd}
use Rattle.std.proofs.lemmas.List.{get_or-map, length-map}
use Rattle.gl_box.specs.Cell.{Covers, Holds}
use Rattle.gl_box.specs.Frontier.{IsFrontier}
use Rattle.gl_box.proofs.Nodes.{covers_node, member_node, some_holds}
use Rattle.gl_near.specs.declared.found.NearBest.{NearBest}
use Rattle.gl_near.specs.declared.found.NearWhy.{NearWhy}
use Rattle.gl_near.specs.declared.found.NearWhy.TheVariants.{Time, Near}
use Rattle.gl_near.specs.Pairing.{Pairing, IsLeast, IsPairing, IsReached, whole_cell}
use Rattle.gl_near.specs.Certificate.{IsCertificate, IsClosedFor, total_of}
use Rattle.gl_near.proofs.PairsLemmas.{apart_none, least_within, reached_held}

-- a pair of a closed cell that fits is no nearer than the total
pub closed_within : (pairing : Pairing) (total : Option ℕ) (cell : List (ℕ × ℕ)) (why : NearWhy) (distance first second : ℕ) → IsPairing pairing → Covers (whole_cell pairing) cell
    → IsClosedFor pairing total cell why → Holds cell (first ∷ second ∷ []) → IsReached pairing distance first second → IsSomeAnd total (λ found. found ≤ distance)
closed_within pairing total cell Time distance first second is covers closed held reached = absurd (apart_none pairing cell first second is covers closed held (distance, reached))
closed_within pairing None cell Near distance first second is covers closed held reached = absurd closed
closed_within pairing (Some found) cell Near distance first second is covers closed held reached = omega (arith, least_within pairing cell distance first second is covers held reached, closed)

-- boxes of a certificate leave out no pair that fits
pub certified_within : (pairing : Pairing) (total : Option ℕ) (boxes : List (List (ℕ × ℕ) × NearWhy)) (distance first second : ℕ) → IsPairing pairing
    → IsFrontier (whole_cell pairing) (map (λ box. box.0) boxes) → All (λ box. IsClosedFor pairing total box.0 box.1) boxes → IsReached pairing distance first second
    → IsSomeAnd total (λ found. found ≤ distance)
certified_within pairing total boxes distance first second is frontier closed reached =
    let whole = whole_cell pairing in
    let tuple = first ∷ second ∷ [] in
    let cells = map (λ (box : List (ℕ × ℕ) × NearWhy). box.0) boxes in
    let at = some_holds whole cells tuple frontier (reached_held pairing distance first second is reached) in
    let some : List (ℕ × ℕ) × NearWhy = ([], Near) in
    let below : at.0 < length boxes = omega (arith, at.1, length-map boxes (λ (box : List (ℕ × ℕ) × NearWhy). box.0)) in
    let box = get_or boxes at.0 some in
    let same : get_or cells at.0 [] ≡ box.0 = get_or-map (λ (box : List (ℕ × ℕ) × NearWhy). box.0) boxes at.0 some [] below in
    let covers = subst (Covers whole) same (covers_node whole (get_or cells at.0 []) (member_node whole cells at.0 frontier at.1)) in
    let held = subst (λ (cell : List (ℕ × ℕ)). Holds cell tuple) same at.2 in
    closed_within pairing total box.0 box.1 distance first second is covers (closed at.0 some below) held reached

-- the total of a certificate is the least distance
pub certificate_least : (pairing : Pairing) (best : Option NearBest) (boxes : List (List (ℕ × ℕ) × NearWhy)) → IsPairing pairing → IsCertificate pairing best boxes → IsLeast pairing (total_of best)
certificate_least pairing None boxes is certificate = λ first second fits. absurd (certified_within pairing None boxes fits.0 first second is certificate.frontier certificate.closed fits.1)
certificate_least pairing (Some best) boxes is certificate = (
  (best.first, best.second, certificate.sound),
  λ first second distance reached. certified_within pairing
      (Some best.total) boxes distance first second is certificate.frontier certificate.closed reached,
)
