-- The ways that goals over lists go, as the code adds them up.
use Rattle.std.proofs.Common.{◌≡◌, ◌∙◌, sym, ap, refl, ℕ, suc, ◌+◌, ◌-◌, ◌≤◌, List, [], ◌∷◌, ◌++◌, length, take, Some, slice_get, arith}
use Rattle.std.proofs.lemmas.List.{take_all}
use Rattle.gl_sphere.specs.declared.place.Vec3.{Vec3}
use Rattle.gl_igc.specs.declared.fix.Fix.{Fix}
use Rattle.gl_goal.specs.Box.{Box, point_box}
use Rattle.gl_box.specs.Cell.{Covers}
use Rattle.gl_box.proofs.Held.{length-covers}
use Rattle.gl_goal.specs.Goal.{IsTuple, chosen, whole_cell}
use Rattle.gl_sphere.specs.Distance.{distance}
use Rattle.gl_goal.specs.Chain.{fixes_at, greatest_distance, greatest_legs, hulls_of, last_of, least_distance, legs, points_of}
use Rattle.gl_goal.specs.Lists.{AreLists}
use Rattle.gl_goal.specs.Out.{all_but_last, greatest_way_out, way_out}
use Rattle.gl_goal.specs.Lemmas.Chain.{greatest_legs-last, legs-last, length-points}
use Rattle.gl_goal.proofs.Order.{length-whole}

pub length-hulls_of : (fixes : List Fix) (lists : List (List ℕ)) (spans : List (ℕ × ℕ)) → length spans ≡ length lists → length (hulls_of fixes lists spans) ≡ length lists
length-hulls_of fixes [] spans sized = refl
length-hulls_of fixes (list ∷ lists) [] sized = absurd (omega arith)
length-hulls_of fixes (list ∷ lists) (span ∷ spans) sized = ap suc (length-hulls_of fixes lists spans (omega arith))

all-taken : {X : Type 0} (xs : List X) (count : ℕ) → length xs ≤ count → take count xs ≡ xs
all-taken xs count all = take_all count xs all

last-found : {X : Type 0} (first : X) (xs : List X) (x : X) → slice_get xs (length xs - 1) ≡ Some x → last_of first xs ≡ x
last-found first [] x is = absurd (cc)
last-found first (y ∷ []) x is = cc
last-found first (y ∷ z ∷ xs) x is =
    let at : suc (length (z ∷ xs) - 1) ≡ length (y ∷ z ∷ xs) - 1 = omega arith in
    last-found y (z ∷ xs) x (ap (slice_get (y ∷ z ∷ xs)) at ∙ is)

-- the way of an area task: the legs through all fixes and the one to the finish
pub course-flown : (fixes : List Fix) (lists : List (List ℕ)) (tuple : List ℕ) (start finish : Vec3) (count flown leg : ℕ) (end : Vec3) → AreLists fixes lists → IsTuple lists tuple
    → count ≡ length lists → flown ≡ legs (start ∷ take count (points_of (fixes_at fixes (chosen lists tuple)))) → end ≡ last_of start (take count (points_of (fixes_at fixes (chosen lists tuple))))
    → leg ≡ distance end finish → flown + leg ≡ legs (start ∷ points_of (fixes_at fixes (chosen lists tuple)) ++ finish ∷ [])
course-flown fixes lists tuple start finish count flown leg end are fits all flown_is end_is leg_is =
    let points = points_of (fixes_at fixes (chosen lists tuple)) in
    let whole = all-taken points count (omega (arith, length-points fixes lists tuple are.named fits)) in
    omega (
      arith,
      flown_is ∙ ap (λ (ps : List Vec3). legs (start ∷ ps)) whole,
      leg_is ∙ ap (λ (at : Vec3). distance at finish) (end_is ∙ ap (last_of start) whole),
      legs-last start points finish,
    )

pub course-bound : (fixes : List Fix) (lists : List (List ℕ)) (spans : List (ℕ × ℕ)) (start finish : Vec3) (count most leg : ℕ) (first last end : Box) → Covers (whole_cell lists) spans
    → count ≡ length lists → first ≡ point_box start → last ≡ point_box finish → most ≡ greatest_legs (first ∷ take count (hulls_of fixes lists spans))
    → end ≡ last_of first (take count (hulls_of fixes lists spans)) → leg ≡ greatest_distance end last
    → most + leg ≡ greatest_legs (point_box start ∷ hulls_of fixes lists spans ++ point_box finish ∷ [])
course-bound fixes lists spans start finish count most leg first last end covers all first_is last_is most_is end_is leg_is =
    let boxes = hulls_of fixes lists spans in
    let sized : length spans ≡ length lists = omega (arith, length-covers (whole_cell lists) spans covers, length-whole lists) in
    let whole = all-taken boxes count (omega (arith, length-hulls_of fixes lists spans sized)) in
    let ends_are : greatest_legs (first ∷ boxes ++ last ∷ []) ≡ greatest_legs (point_box start ∷ boxes ++ point_box finish ∷ []) = λ i. greatest_legs (first_is i ∷ boxes ++ last_is i ∷ []) in
    omega (
      arith,
      most_is ∙ ap (λ (bs : List Box). greatest_legs (first ∷ bs)) whole,
      leg_is ∙ ap (λ (at : Box). greatest_distance at last) (end_is ∙ ap (last_of first) whole),
      greatest_legs-last first boxes last,
      ends_are,
    )

-- the way of an outlanding: the legs through all fixes but the last, and what that gains
pub way_out-flown : (fixes : List Fix) (lists : List (List ℕ)) (tuple : List ℕ) (start target : Vec3) (count flown rest left : ℕ) (end y : Vec3) → AreLists fixes lists → IsTuple lists tuple
    → count ≡ length lists → flown ≡ legs (start ∷ take (count - 1) (points_of (fixes_at fixes (chosen lists tuple))))
    → end ≡ last_of start (take (count - 1) (points_of (fixes_at fixes (chosen lists tuple)))) → slice_get (points_of (fixes_at fixes (chosen lists tuple))) (count - 1) ≡ Some y
    → rest ≡ distance y target → left ≡ distance end target → flown + (left - rest) ≡ way_out start target (points_of (fixes_at fixes (chosen lists tuple)))
way_out-flown fixes lists tuple start target count flown rest left end y are fits all flown_is end_is y_is rest_is left_is =
    let points = points_of (fixes_at fixes (chosen lists tuple)) in
    let sized : count ≡ length points = omega (arith, length-points fixes lists tuple are.named fits) in
    let passed : take (count - 1) points ≡ all_but_last points = ap (λ (n : ℕ). take (n - 1) points) sized in
    let last = last-found start points y (ap (λ (n : ℕ). slice_get points (n - 1)) (sym sized) ∙ y_is) in
    omega (
      arith,
      flown_is ∙ ap (λ (ps : List Vec3). legs (start ∷ ps)) passed,
      left_is ∙ ap (λ (at : Vec3). distance at target) (end_is ∙ ap (last_of start) passed),
      rest_is ∙ ap (λ (at : Vec3). distance at target) (sym last),
    )

pub way_out-bound : (fixes : List Fix) (lists : List (List ℕ)) (spans : List (ℕ × ℕ)) (start target : Vec3) (count most rest left : ℕ) (first aim end y : Box) → AreLists fixes lists
    → Covers (whole_cell lists) spans → count ≡ length lists → first ≡ point_box start → aim ≡ point_box target → most ≡ greatest_legs (first ∷ take (count - 1) (hulls_of fixes lists spans))
    → end ≡ last_of first (take (count - 1) (hulls_of fixes lists spans)) → slice_get (hulls_of fixes lists spans) (count - 1) ≡ Some y → rest ≡ least_distance y aim → left ≡ greatest_distance end aim
    → most + (left - rest) ≡ greatest_way_out (point_box start) (point_box target) (hulls_of fixes lists spans)
way_out-bound fixes lists spans start target count most rest left first aim end y are covers all first_is aim_is most_is end_is y_is rest_is left_is =
    let boxes = hulls_of fixes lists spans in
    let lengths : length spans ≡ length lists = omega (arith, length-covers (whole_cell lists) spans covers, length-whole lists) in
    let sized : count ≡ length boxes = omega (arith, length-hulls_of fixes lists spans lengths) in
    let passed : take (count - 1) boxes ≡ all_but_last boxes = ap (λ (n : ℕ). take (n - 1) boxes) sized in
    let last = last-found first boxes y (ap (λ (n : ℕ). slice_get boxes (n - 1)) (sym sized) ∙ y_is) in
    let ends_are : greatest_way_out first aim boxes ≡ greatest_way_out (point_box start) (point_box target) boxes = λ i. greatest_way_out (first_is i) (aim_is i) boxes in
    omega (
      arith,
      most_is ∙ ap (λ (bs : List Box). greatest_legs (first ∷ bs)) passed,
      left_is ∙ ap (λ (at : Box). greatest_distance at aim) (end_is ∙ ap (last_of first) passed),
      rest_is ∙ ap (λ (at : Box). least_distance at aim) (sym last),
      ends_are,
    )
