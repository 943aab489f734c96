-- What the lines of a text say lies within the ranges of a recording.
use Rattle.std.proofs.Common.{◌≡◌, ◌∙◌, ap, subst, refl, ℕ, ◌+◌, ◌-◌, ◌*◌, ◌^◌, ◌<◌, ◌≤◌, Bool, true, false, cond, List, [], ◌∷◌, length, drop, length-take, Option, None, Some, arith, ℤ, pos, ◌≤ℤ◌, ◌&&◌}
use Rattle.std.specs.Prelude.{◌==◌, int_le, nat_le, nat_lt, neg_ℤ, slice_get}
use Rattle.std.specs.Char.{is_ascii_digit}
use Rattle.std.specs.List.{list_all}
use Rattle.std.specs.Int.{IsInRange}
use Rattle.std.specs.Str.{byte}
use Rattle.std.specs.Str.Parse.{digits_value}
use Rattle.std.proofs.lemmas.Bool.{and_parts}
use Rattle.std.proofs.lemmas.Bool.Decides.{nat_tests}
use Rattle.std.proofs.lemmas.Int.{ints}
use Rattle.std.proofs.lemmas.Str.Parse.{IsDigitsTest, digits_value_short, numerals_by_value}
use Rattle.gl_text.specs.Digits.{◌>>=◌, columns, number_of}
use Rattle.gl_sphere.specs.declared.place.Grid.{Grid}
use Rattle.gl_sphere.specs.PlaceText.{angle_of, degree, latitude_of, longitude_of, place_of, place_of_text, signed_by, thousandth, thousandths_of_degree}
use Rattle.gl_sphere.specs.Range.{IsWithin}
use Rattle.gl_sphere.specs.Sphere.{half_turn, quarter_turn}
use Rattle.gl_igc.specs.Columns.{altitude_of}
use Rattle.gl_igc.specs.Declaration.{declared_count}
use Rattle.gl_igc.specs.Extension.{Extension}
use Rattle.gl_igc.specs.FixLine.{Observation, decimals_of, highest, is_fix_line, noise_of, observation_of}
use Rattle.gl_igc.specs.Columns.{time_of_day}
use Rattle.std.specs.Prelude.{slice_index}
use Rattle.gl_sphere.specs.Lemmas.Bounds.{natural-within}

-- the first step of a reading that gives something gives something
bind_some : {A B : Type 0} (o : Option A) (f : A → Option B) (b : B) → (o >>= f) ≡ Some b → (a : A) × (o ≡ Some a) × (f a ≡ Some b)
bind_some None f b is = absurd (cc)
bind_some (Some a) f b is = (a, refl, is)

-- so does what is read where a test passes, and it passes
test_some : {B : Type 0} (test : Bool) (o : Option B) (b : B) → cond test o None ≡ Some b → (test ≡ true) × (o ≡ Some b)
test_some true o b is = (refl, is)
test_some false o b is = absurd (cc)

at_most : (a b : ℕ) → nat_le a b ≡ true → a ≤ b
at_most a b test = grind (arith, nat_tests)

digit_range : (c : ℕ) → is_ascii_digit c ≡ true → IsInRange 48 57 c
digit_range c test = let parts = and_parts (nat_le 48 c) (nat_le c 57) test in (at_most 48 c parts.0, at_most c 57 parts.1)

range_digit : (c : ℕ) → IsInRange 48 57 c → is_ascii_digit c ≡ true
range_digit c range =
    let low = range.0 in
    let high = range.1 in
    grind (arith, nat_tests)

digits_test : IsDigitsTest (λ digits. list_all is_ascii_digit digits ≡ true)
digits_test = record {
  empty = refl;
  parts = λ c cs all. let parts = and_parts (is_ascii_digit c) (list_all is_ascii_digit cs) all in (digit_range c parts.0, parts.1);
  more = λ c cs range all. ap (λ (b : Bool). b && list_all is_ascii_digit cs) (range_digit c range) ∙ all;
}

digits_short : (digits : List ℕ) (k : ℕ) → list_all is_ascii_digit digits ≡ true → length digits ≤ k → digits_value 10 digits < 10 ^ k
digits_short digits k all short =
    digits_value_short (numerals_by_value (λ (ds : List ℕ). list_all is_ascii_digit ds ≡ true) digits_test) digits k all short

-- so many digits write a number of so many digits
number_short : (digits : List ℕ) (k n : ℕ) → length digits ≤ k → number_of digits ≡ Some n → n < 10 ^ k
unfolding number_of
number_short digits k n short is =
    let read = test_some (list_all is_ascii_digit digits) (Some (digits_value 10 digits)) n is in
    let same : digits_value 10 digits ≡ n = let whole = read.1 in cc in
    subst (λ (m : ℕ). m < 10 ^ k) same (digits_short digits k read.0 short)

angle_within : (limit degrees thousandths decimals size : ℕ) → angle_of limit degrees thousandths decimals ≡ Some size → size ≤ limit
unfolding angle_of
angle_within limit degrees thousandths decimals size is =
    let total : ℕ = degrees * degree + thousandths * thousandth + decimals in
    let read = test_some (nat_lt thousandths thousandths_of_degree && nat_le total limit) (Some total) size is in
    let same : total ≡ size = let whole = read.1 in cc in
    let below = at_most total limit (and_parts (nat_lt thousandths thousandths_of_degree) (nat_le total limit) read.0).1 in
    subst (λ (n : ℕ). n ≤ limit) same below

minus_within : (size limit : ℕ) → size ≤ limit → IsWithin limit (neg_ℤ (pos size))
minus_within size limit below = (omega (arith, ints), omega (arith, ints))

sign_within : (plus minus : Bool) (size limit : ℕ) (z : ℤ) → size ≤ limit → cond plus (Some (pos size)) (cond minus (Some (neg_ℤ (pos size))) None) ≡ Some z → IsWithin limit z
sign_within true minus size limit z below is = let same : pos size ≡ z = cc in subst (IsWithin limit) same (natural-within size limit below)
sign_within false true size limit z below is = let same : neg_ℤ (pos size) ≡ z = cc in subst (IsWithin limit) same (minus_within size limit below)
sign_within false false size limit z below is = absurd (cc)

signed_within : (plus minus : ℕ) (letter : Option ℕ) (size limit : ℕ) (z : ℤ) → size ≤ limit → signed_by plus minus letter size ≡ Some z → IsWithin limit z
unfolding signed_by
signed_within plus minus None size limit z below is = absurd (cc)
signed_within plus minus (Some letter) size limit z below is = sign_within (letter == plus) (letter == minus) size limit z below is

-- the steps of the reading of an angle
angle_from : (degrees thousandths : Option ℕ) (angle : ℕ → ℕ → Option ℕ) (signed : ℕ → Option ℤ) (z : ℤ) → (degrees >>= λ d. thousandths >>= λ t. angle d t >>= signed) ≡ Some z
    → (d : ℕ) × (t : ℕ) × (size : ℕ) × (angle d t ≡ Some size) × (signed size ≡ Some z)
angle_from None thousandths angle signed z is = absurd (cc)
angle_from (Some d) None angle signed z is = absurd (cc)
angle_from (Some d) (Some t) angle signed z is =
    let read = bind_some (angle d t) signed z is in
    (d, t, read.0, read.1, read.2)

lat_within : (decimals : ℕ) (text : List ℕ) (z : ℤ) → latitude_of decimals text ≡ Some z → IsWithin quarter_turn z
unfolding latitude_of
lat_within decimals text z is =
    let read = angle_from (number_of (columns 1 2 text)) (number_of (columns 3 7 text)) (λ d t. angle_of quarter_turn d t decimals)
    (λ size. signed_by (byte "N") (byte "S") (slice_get text 7) size) z is in
    signed_within (byte "N") (byte "S") (slice_get text 7) read.2 quarter_turn z (angle_within quarter_turn read.0 read.1 decimals read.2 read.3) read.4

lon_within : (decimals : ℕ) (text : List ℕ) (z : ℤ) → longitude_of decimals text ≡ Some z → IsWithin half_turn z
unfolding longitude_of
lon_within decimals text z is =
    let read = angle_from (number_of (columns 1 3 text)) (number_of (columns 4 8 text)) (λ d t. angle_of half_turn d t decimals)
    (λ size. signed_by (byte "E") (byte "W") (slice_get text 8) size) z is in
    signed_within (byte "E") (byte "W") (slice_get text 8) read.2 half_turn z (angle_within half_turn read.0 read.1 decimals read.2 read.3) read.4

pair_from : (lat lon : Option ℤ) (place : ℤ × ℤ) → (lat >>= λ lat. lon >>= λ lon. Some (lat, lon)) ≡ Some place → (lat ≡ Some place.0) × (lon ≡ Some place.1)
pair_from None lon place is = absurd (cc)
pair_from (Some lat) None place is = absurd (cc)
pair_from (Some lat) (Some lon) place is =
    let P : Type 0 = ℤ × ℤ in
    let made : P = (lat, lon) in
    let same : made ≡ place = cc in
    (ap (λ (p : ℤ × ℤ). Some p.0) same, ap (λ (p : ℤ × ℤ). Some p.1) same)

-- what a text says as a place is one
pub grid_of_text : (text : List ℕ) (place : ℤ × ℤ) → place_of_text text ≡ Some place → (grid : Grid) × (place_of grid ≡ place)
unfolding place_of_text
grid_of_text text place is =
    let read = test_some (length text == 17) (latitude_of 0 (columns 1 8 text) >>= λ lat. longitude_of 0 (columns 9 17 text) >>= λ lon. Some (lat, lon)) place is in
    let pair = pair_from (latitude_of 0 (columns 1 8 text)) (longitude_of 0 (columns 9 17 text)) place read.1 in
    (record { lat = place.0; lon = place.1; lat_in_range = lat_within 0 (columns 1 8 text) place.0 pair.0; lon_in_range = lon_within 0 (columns 9 17 text) place.1 pair.1 }, refl)

columns_short : (first last : ℕ) (text : List ℕ) → length (columns first last text) ≤ last - (first - 1)
columns_short first last text = omega (arith, length-take (last - (first - 1)) (drop (first - 1) text))

alt_from : (minus : Bool) (below all : Option ℕ) (alt : ℤ) → ((n : ℕ) → below ≡ Some n → n < 10_000) → cond minus (below >>= λ n. Some (neg_ℤ (pos n))) (all >>= λ n. Some (pos n)) ≡ Some alt
    → neg_ℤ (pos 9_999) ≤ℤ alt
alt_from true None all alt short is = absurd (cc)
alt_from true (Some n) all alt short is =
    let same : neg_ℤ (pos n) ≡ alt = cc in
    let few = short n refl in
    subst (λ (z : ℤ). neg_ℤ (pos 9_999) ≤ℤ z) same (omega (arith, ints, few))
alt_from false below None alt short is = absurd (cc)
alt_from false below (Some n) alt short is =
    let same : pos n ≡ alt = cc in
    subst (λ (z : ℤ). neg_ℤ (pos 9_999) ≤ℤ z) same (omega (arith, ints))

alt_least : (text : List ℕ) (alt : ℤ) → length text ≤ 5 → altitude_of text ≡ Some alt → neg_ℤ (pos 9_999) ≤ℤ alt
unfolding altitude_of
alt_least [] alt short is = absurd (cc)
alt_least (c ∷ cs) alt short is =
    alt_from (c == byte "-") (number_of cs) (number_of (c ∷ cs)) alt (λ n. number_short cs 4 n (omega arith)) is

-- what is seen of a fix lies within the ranges of a fix
pub record IsPlaced (seen : Observation) : Type 0 where
  pub lat : IsWithin quarter_turn seen.lat
  pub lon : IsWithin half_turn seen.lon
  pub above : neg_ℤ (pos 9_999) ≤ℤ seen.alt
  pub below : seen.alt ≤ℤ pos 32_767

record IsReadFrom (lat lon alt : Option ℤ) (seen : Observation) : Type 0 where
  lat_is : lat ≡ Some seen.lat
  lon_is : lon ≡ Some seen.lon
  alt_is : alt ≡ Some seen.alt
  low : int_le seen.alt highest ≡ true

-- the steps of the reading of a B line
seen_from : (test : Bool) (time : Option ℕ) (lat lon pressure alt : Option ℤ) (enl : Option ℕ) (seen : Observation)
    → cond test (time >>= λ time. lat >>= λ lat. lon >>= λ lon. pressure >>= λ pressure. alt >>= λ alt. cond (int_le alt highest)
    (Some (record { time = time; lat = lat; lon = lon; alt = alt; enl = enl })) None) None ≡ Some seen → IsReadFrom lat lon alt seen
seen_from false time lat lon pressure alt enl seen is = absurd (cc)
seen_from true None lat lon pressure alt enl seen is = absurd (cc)
seen_from true (Some time) None lon pressure alt enl seen is = absurd (cc)
seen_from true (Some time) (Some lat) None pressure alt enl seen is = absurd (cc)
seen_from true (Some time) (Some lat) (Some lon) None alt enl seen is = absurd (cc)
seen_from true (Some time) (Some lat) (Some lon) (Some pressure) None enl seen is = absurd (cc)
seen_from true (Some time) (Some lat) (Some lon) (Some pressure) (Some alt) enl seen is =
    let made : Observation = record { time = time; lat = lat; lon = lon; alt = alt; enl = enl } in
    let read = test_some (int_le alt highest) (Some made) seen is in
    let same : made ≡ seen = let whole = read.1 in cc in
    record {
      lat_is = ap (λ (o : Observation). Some o.lat) same;
      lon_is = ap (λ (o : Observation). Some o.lon) same;
      alt_is = ap (λ (o : Observation). Some o.alt) same;
      low = subst (λ (o : Observation). int_le o.alt highest ≡ true) same read.0;
    }

alt_most : (alt : ℤ) → int_le alt highest ≡ true → alt ≤ℤ pos 32_767
alt_most alt test = grind (arith, ints)

-- what a B line says lies within them
pub seen_placed : (extension : Extension) (line : List ℕ) (seen : Observation) → observation_of extension line ≡ Some seen → IsPlaced seen
unfolding observation_of
seen_placed extension line seen is =
    let read = seen_from (nat_le 35 (length line) && is_fix_line line && (slice_index line 24 == byte "A")) (time_of_day line) (latitude_of (decimals_of extension.lad line) (columns 8 15 line))
    (longitude_of (decimals_of extension.lod line) (columns 16 24 line)) (altitude_of (columns 26 30 line)) (altitude_of (columns 31 35 line)) (noise_of extension.enl line) seen is in
    record {
      lat = lat_within (decimals_of extension.lad line) (columns 8 15 line) seen.lat read.lat_is;
      lon = lon_within (decimals_of extension.lod line) (columns 16 24 line) seen.lon read.lon_is;
      above = alt_least (columns 31 35 line) seen.alt (columns_short 31 35 line) read.alt_is;
      below = alt_most seen.alt read.low;
    }

-- how many places a heading declares
pub count_within : (heading : List ℕ) (count : ℕ) → declared_count heading ≡ Some count → (4 ≤ count) × (count ≤ 103)
unfolding declared_count
count_within heading count is =
    let read = test_some (nat_le 25 (length heading) && list_all is_ascii_digit (columns 2 25 heading)) (number_of (columns 24 25 heading) >>= λ turn_points. Some (turn_points + 4)) count is in
    let more = bind_some (number_of (columns 24 25 heading)) (λ (turn_points : ℕ). Some (turn_points + 4)) count read.1 in
    let same : more.0 + 4 ≡ count = let whole = more.2 in cc in
    let few : more.0 < 100 = number_short (columns 24 25 heading) 2 more.0 (columns_short 24 25 heading) more.1 in
    (omega (arith, same, few), omega (arith, same, few))
