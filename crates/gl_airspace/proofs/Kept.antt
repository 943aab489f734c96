-- What a draft keeps of a volume's lines, when one more stands behind them.
use Rattle.std.proofs.Common.{◌≡◌, ◌∙◌, refl, sym, ap, subst, ℕ, List, [], ◌∷◌, ◌++◌, map, Option, None, Some, false, ℤ}
use Rattle.std.specs.Prelude.{is_some, option_map}
use Rattle.std.specs.List.{filter_map}
use Rattle.std.specs.Option.{option_or}
use Rattle.std.proofs.lemmas.List.{append-nil}
use Rattle.std.proofs.lemmas.List.Elements.{filter_map-append}
use Rattle.gl_sphere.specs.declared.place.Grid.{Grid}
use Rattle.gl_sphere.specs.PlaceText.{place_of}
use Rattle.gl_sphere.specs.Place.{written_vector}
use Rattle.gl_airspace.specs.declared.draft.Draft.{Draft}
use Rattle.gl_airspace.specs.declared.volume.Circle.{Circle}
use Rattle.gl_airspace.specs.Line.{PassedOver, Begins, Names, Floor, Ceiling, Centre, Corner, Circles}
use Rattle.gl_airspace.specs.Volumes.{Reading, first_item, last_item, floor_of, ceiling_of, centre_of, corner_of, radius_said, centre_in, radius_in, circle_in, circle_after}
use Rattle.gl_airspace.specs.Code.Parts.{Says}
use Rattle.gl_airspace.specs.Draft.{IsCircle}

first_item-append : {X : Type 0} (xs ys : List X) → first_item (xs ++ ys) ≡ option_or (first_item xs) (first_item ys)
first_item-append [] ys = refl
first_item-append (x ∷ xs) ys = refl

last_item-snoc : {X : Type 0} (xs : List X) (x : X) → last_item (xs ++ x ∷ []) ≡ Some x
last_item-snoc [] x = refl
last_item-snoc (y ∷ []) x = refl
last_item-snoc (y ∷ z ∷ xs) x = last_item-snoc (z ∷ xs) x

-- a line that says nothing of a kind changes nothing of it
pub without : {X : Type 0} (of : Reading → Option X) (lines : List Reading) (line : Reading) → filter_map of (line ∷ []) ≡ [] → filter_map of (lines ++ line ∷ []) ≡ filter_map of lines
without of lines line none = filter_map-append of lines (line ∷ []) ∙ ap (λ (xs : List _). filter_map of lines ++ xs) none ∙ append-nil _

-- one that says something adds it
pub with_one : {X : Type 0} (of : Reading → Option X) (lines : List Reading) (line : Reading) (x : X) → filter_map of (line ∷ []) ≡ x ∷ []
    → filter_map of (lines ++ line ∷ []) ≡ filter_map of lines ++ x ∷ []
with_one of lines line x one = filter_map-append of lines (line ∷ []) ∙ ap (λ (xs : List _). filter_map of lines ++ xs) one

first_with : {X : Type 0} (of : Reading → Option X) (lines : List Reading) (line : Reading) (x : X) → filter_map of (line ∷ []) ≡ x ∷ [] → first_item (filter_map of lines) ≡ None
    → first_item (filter_map of (lines ++ line ∷ [])) ≡ Some x
first_with of lines line x one none =
    ap first_item (with_one of lines line x one) ∙ first_item-append (filter_map of lines) (x ∷ []) ∙ ap (λ (o : Option _). option_or o (Some x)) none

last_with : {X : Type 0} (of : Reading → Option X) (lines : List Reading) (line : Reading) (x : X) → filter_map of (line ∷ []) ≡ x ∷ [] → last_item (filter_map of (lines ++ line ∷ [])) ≡ Some x
last_with of lines line x one = ap last_item (with_one of lines line x one) ∙ last_item-snoc (filter_map of lines) x

-- a line that makes no circle changes none
circle_without : (centre : Option (ℤ × ℤ)) (lines : List Reading) (line : Reading) → radius_said line ≡ None → circle_after centre (lines ++ line ∷ []) ≡ circle_after centre lines
circle_without centre [] None none = refl
circle_without centre [] (Some PassedOver) none = refl
circle_without centre [] (Some Begins) none = refl
circle_without centre [] (Some Names) none = refl
circle_without centre [] (Some (Floor m)) none = refl
circle_without centre [] (Some (Ceiling m)) none = refl
circle_without centre [] (Some (Centre p)) none = refl
circle_without centre [] (Some (Corner p)) none = refl
circle_without centre [] (Some (Circles r)) none = cc
circle_without centre (None ∷ lines) line none = circle_without centre lines line none
circle_without centre (Some PassedOver ∷ lines) line none = circle_without centre lines line none
circle_without centre (Some Begins ∷ lines) line none = circle_without centre lines line none
circle_without centre (Some Names ∷ lines) line none = circle_without centre lines line none
circle_without centre (Some (Floor m) ∷ lines) line none = circle_without centre lines line none
circle_without centre (Some (Ceiling m) ∷ lines) line none = circle_without centre lines line none
circle_without centre (Some (Centre p) ∷ lines) line none = circle_without (Some p) lines line none
circle_without centre (Some (Corner p) ∷ lines) line none = circle_without centre lines line none
circle_without centre (Some (Circles r) ∷ lines) line none = refl

-- the last centre of all, the given one where the lines have none
abbrev centre_so_far : Option (ℤ × ℤ) → List Reading → Option (ℤ × ℤ)
centre_so_far centre lines = option_or (last_item (filter_map centre_of lines)) centre

last_or : {X : Type 0} (x : X) (xs : List X) (o : Option X) → option_or (last_item (x ∷ xs)) o ≡ option_or (last_item xs) (Some x)
last_or x [] o = refl
last_or x (y ∷ []) o = refl
last_or x (y ∷ z ∷ xs) o = last_or y (z ∷ xs) o ∙ sym (last_or y (z ∷ xs) (Some x))

-- a circle behind lines without one has the last centre
circle_with : (centre : Option (ℤ × ℤ)) (lines : List Reading) (radius : ℕ) → radius_in lines ≡ None
    → circle_after centre (lines ++ Some (Circles radius) ∷ []) ≡ option_map (λ place. (place, radius)) (centre_so_far centre lines)
circle_with centre [] radius none = refl
circle_with centre (None ∷ lines) radius none = circle_with centre lines radius none
circle_with centre (Some PassedOver ∷ lines) radius none = circle_with centre lines radius none
circle_with centre (Some Begins ∷ lines) radius none = circle_with centre lines radius none
circle_with centre (Some Names ∷ lines) radius none = circle_with centre lines radius none
circle_with centre (Some (Floor m) ∷ lines) radius none = circle_with centre lines radius none
circle_with centre (Some (Ceiling m) ∷ lines) radius none = circle_with centre lines radius none
circle_with centre (Some (Centre p) ∷ lines) radius none =
    circle_with (Some p) lines radius none ∙ ap (option_map (λ (place : ℤ × ℤ). (place, radius))) (sym (last_or p (filter_map centre_of lines) centre))
circle_with centre (Some (Corner p) ∷ lines) radius none = circle_with centre lines radius none
circle_with centre (Some (Circles r) ∷ lines) radius none = cc

or_none : {X : Type 0} (o : Option X) → option_or o None ≡ o
or_none None = refl
or_none (Some x) = refl

no_radius : (made : Option Circle) (radius : Option ℕ) → is_some made ≡ is_some radius → made ≡ None → radius ≡ None
no_radius made None same none = refl
no_radius made (Some r) same none = cc

-- what a draft says with one more line that says nothing of a volume
pub says_other : (draft : Draft) (lines : List Reading) (line : Reading)
    → filter_map floor_of (line ∷ []) ≡ [] → filter_map ceiling_of (line ∷ []) ≡ [] → filter_map centre_of (line ∷ []) ≡ [] → filter_map corner_of (line ∷ []) ≡ []
    → filter_map radius_said (line ∷ []) ≡ [] → radius_said line ≡ None
    → Says draft lines → Says draft (lines ++ line ∷ [])
says_other draft lines line f c p k r none says = record {
  floor = says.floor ∙ ap first_item (sym (without floor_of lines line f));
  ceiling = says.ceiling ∙ ap first_item (sym (without ceiling_of lines line c));
  centre = says.centre ∙ ap last_item (sym (without centre_of lines line p));
  corners = says.corners ∙ sym (without corner_of lines line k);
  has_circle = says.has_circle ∙ ap (λ (xs : List ℕ). is_some (first_item xs)) (sym (without radius_said lines line r));
  circle = subst (IsCircle draft.circle) (sym (circle_without None lines line none)) says.circle;
}

pub says_floor : (draft : Draft) (lines : List Reading) (m : ℤ) → Says draft lines → draft.floor ≡ None → Says (record draft { floor = Some m }) (lines ++ Some (Floor m) ∷ [])
says_floor draft lines m says none = record {
  floor = sym (first_with floor_of lines (Some (Floor m)) m refl (sym says.floor ∙ none));
  ceiling = says.ceiling ∙ ap first_item (sym (without ceiling_of lines (Some (Floor m)) refl));
  centre = says.centre ∙ ap last_item (sym (without centre_of lines (Some (Floor m)) refl));
  corners = says.corners ∙ sym (without corner_of lines (Some (Floor m)) refl);
  has_circle = says.has_circle ∙ ap (λ (xs : List ℕ). is_some (first_item xs)) (sym (without radius_said lines (Some (Floor m)) refl));
  circle = subst (IsCircle draft.circle) (sym (circle_without None lines (Some (Floor m)) refl)) says.circle;
}

pub says_ceiling : (draft : Draft) (lines : List Reading) (m : ℤ) → Says draft lines → draft.ceiling ≡ None → Says (record draft { ceiling = Some m }) (lines ++ Some (Ceiling m) ∷ [])
says_ceiling draft lines m says none = record {
  floor = says.floor ∙ ap first_item (sym (without floor_of lines (Some (Ceiling m)) refl));
  ceiling = sym (first_with ceiling_of lines (Some (Ceiling m)) m refl (sym says.ceiling ∙ none));
  centre = says.centre ∙ ap last_item (sym (without centre_of lines (Some (Ceiling m)) refl));
  corners = says.corners ∙ sym (without corner_of lines (Some (Ceiling m)) refl);
  has_circle = says.has_circle ∙ ap (λ (xs : List ℕ). is_some (first_item xs)) (sym (without radius_said lines (Some (Ceiling m)) refl));
  circle = subst (IsCircle draft.circle) (sym (circle_without None lines (Some (Ceiling m)) refl)) says.circle;
}

pub says_centre : (draft : Draft) (lines : List Reading) (place : Grid) → Says draft lines → Says (record draft { centre = Some place }) (lines ++ Some (Centre (place_of place)) ∷ [])
says_centre draft lines place says =
    let line : Reading = Some (Centre (place_of place)) in
    record {
      floor = says.floor ∙ ap first_item (sym (without floor_of lines line refl));
      ceiling = says.ceiling ∙ ap first_item (sym (without ceiling_of lines line refl));
      centre = sym (last_with centre_of lines line (place_of place) refl);
      corners = says.corners ∙ sym (without corner_of lines line refl);
      has_circle = says.has_circle ∙ ap (λ (xs : List ℕ). is_some (first_item xs)) (sym (without radius_said lines line refl));
      circle = subst (IsCircle draft.circle) (sym (circle_without None lines line refl)) says.circle;
    }

pub says_corner : (draft after : Draft) (lines : List Reading) (place : Grid) → Says draft lines
    → after.floor ≡ draft.floor → after.ceiling ≡ draft.ceiling → after.centre ≡ draft.centre → after.circle ≡ draft.circle
    → map place_of after.corners.items ≡ map place_of draft.corners.items ++ place_of place ∷ []
    → Says after (lines ++ Some (Corner (place_of place)) ∷ [])
says_corner draft after lines place says floor ceiling centre circle corners =
    let line : Reading = Some (Corner (place_of place)) in
    record {
      floor = floor ∙ says.floor ∙ ap first_item (sym (without floor_of lines line refl));
      ceiling = ceiling ∙ says.ceiling ∙ ap first_item (sym (without ceiling_of lines line refl));
      centre = ap (option_map place_of) centre ∙ says.centre ∙ ap last_item (sym (without centre_of lines line refl));
      corners = corners ∙ ap (λ (xs : List _). xs ++ place_of place ∷ []) says.corners ∙ sym (with_one corner_of lines line (place_of place) refl);
      has_circle = ap is_some circle ∙ says.has_circle ∙ ap (λ (xs : List ℕ). is_some (first_item xs)) (sym (without radius_said lines line refl));
      circle = subst (λ (o : Option Circle). IsCircle o (circle_in (lines ++ line ∷ []))) (sym circle) (subst (IsCircle draft.circle) (sym (circle_without None lines line refl)) says.circle);
    }

is_circle_of : (made : Circle) (lines : List Reading) (radius : ℕ) (grid : Grid) → radius_in lines ≡ None → Some (place_of grid) ≡ centre_in lines → made.centre ≡ written_vector grid
    → made.radius ≡ radius
    → IsCircle (Some made) (circle_in (lines ++ Some (Circles radius) ∷ []))
is_circle_of made lines radius grid none centre at size =
    subst (IsCircle (Some made)) (sym (circle_with None lines radius none ∙ ap (option_map (λ (place : ℤ × ℤ). (place, radius))) (or_none (centre_in lines) ∙ sym centre)))
    (record { grid = grid; place = refl; centre = at; radius = size })

pub says_circle : (draft : Draft) (lines : List Reading) (made : Circle) (grid : Grid) → Says draft lines → draft.circle ≡ None → draft.centre ≡ Some grid → made.centre ≡ written_vector grid
    → Says (record draft { circle = Some made }) (lines ++ Some (Circles made.radius) ∷ [])
says_circle draft lines made grid says none centre at =
    let line : Reading = Some (Circles made.radius) in
    let no : radius_in lines ≡ None = no_radius draft.circle (radius_in lines) says.has_circle none in
    record {
      floor = says.floor ∙ ap first_item (sym (without floor_of lines line refl));
      ceiling = says.ceiling ∙ ap first_item (sym (without ceiling_of lines line refl));
      centre = says.centre ∙ ap last_item (sym (without centre_of lines line refl));
      corners = says.corners ∙ sym (without corner_of lines line refl);
      has_circle = ap is_some (sym (first_with radius_said lines line made.radius refl no));
      circle = is_circle_of made lines made.radius grid no (sym (ap (option_map place_of) centre) ∙ says.centre) at refl;
    }

pub none_from : {X : Type 0} (o : Option X) → false ≡ is_some o → o ≡ None
none_from None test = refl
none_from (Some x) test = cc

pub map-snoc : {X Y : Type 0} (f : X → Y) (xs : List X) (x : X) → map f (xs ++ x ∷ []) ≡ map f xs ++ f x ∷ []
map-snoc f [] x = refl
map-snoc f (y ∷ xs) x = ap (λ (ys : List _). f y ∷ ys) (map-snoc f xs x)
