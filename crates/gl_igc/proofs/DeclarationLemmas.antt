-- The declaration, C line by C line.
use Rattle.std.proofs.Common.{◌≡◌, ◌∙◌, sym, ap, subst, ℕ, zero, suc, ◌+◌, ◌-◌, ◌<◌, ◌≤◌, List, [], ◌∷◌, ◌++◌, length, map, take, drop, Bool, true, false, cond, Option, None, Some, arith, refl, ◌≢◌, append_assoc, append-nil, ℤ}
use Rattle.std.specs.Prelude.{◌==◌, nat_le}
use Rattle.std.proofs.lemmas.Bool.Decides.{nat_tests}
use Rattle.std.proofs.lemmas.List.{length-map, length-append, map-append, take_all}
use Rattle.std.proofs.Common.{length-take, length-drop}
use Rattle.std.proofs.lemmas.List.{take-append-le}
use Rattle.std.proofs.Math.Seq.{take-append-add}
use Rattle.gl_text.specs.Digits.{◌>>=◌, columns}
use Rattle.gl_sphere.specs.PlaceText.{place_of, place_of_text}
use Rattle.gl_sphere.specs.declared.place.Grid.{Grid}
use Rattle.gl_igc.specs.Declaration.{declared_by, declared_count, places_of}
use Rattle.gl_igc.specs.Parts.{IsRead, IsHeaded}
use Rattle.gl_igc.specs.declared.declaration.Count.{Count}
use Rattle.gl_igc.specs.declared.declaration.Heading.{Heading}
use Rattle.gl_igc.specs.declared.declaration.Heading.TheVariants.{Awaited, Read, Damaged}

abbrev pub Lines : Type 0
Lines = List (List ℕ)

-- a line that is too short for a place
pub place-short : (line : List ℕ) → length line < 18 → place_of_text (columns 2 18 line) ≡ None
unfolding place_of_text
place-short line short =
    let long : length (columns 2 18 line) < 17 = omega (arith, length-take 17 (drop 1 line), length-drop 1 line) in
    let test : (length (columns 2 18 line) == 17) ≡ false = grind (arith, nat_tests) in
    rw test refl

-- one place for each line
places-length : (lines : Lines) (places : List (ℤ × ℤ)) → places_of lines ≡ Some places → length places ≡ length lines
places-length [] places is = let same : [] ≡ places = cc in sym (ap length same)
places-length (line ∷ lines) places is =
    first (λ others rest_is. places-length lines others rest_is) (place_of_text (columns 2 18 line)) (places_of lines) refl is
  where
    first : ((others : List (ℤ × ℤ)) → places_of lines ≡ Some others → length others ≡ length lines) → (place : Option (ℤ × ℤ)) (rest : Option (List (ℤ × ℤ))) → places_of lines ≡ rest
        → (place >>= λ place. rest >>= λ places. Some (place ∷ places)) ≡ Some places → length places ≡ suc (length lines)
    first long None rest rest_is is = absurd (cc)
    first long (Some place) None rest_is is = absurd (cc)
    first long (Some place) (Some others) rest_is is =
        let same : place ∷ others ≡ places = cc in
        omega (arith, ap length same, long others rest_is)

-- one line more
places-push : (lines : Lines) (line : List ℕ) (places : List (ℤ × ℤ)) (place : ℤ × ℤ) → places_of lines ≡ Some places → place_of_text (columns 2 18 line) ≡ Some place
    → places_of (lines ++ line ∷ []) ≡ Some (places ++ place ∷ [])
places-push [] line places place is reads =
    let same : [] ≡ places = cc in
    rw (reads, ← same) refl
places-push (x ∷ lines) line places place is reads =
    first (λ others rest_is. places-push lines line others place rest_is reads) (place_of_text (columns 2 18 x)) refl (places_of lines) refl is
  where
    first : ((others : List (ℤ × ℤ)) → places_of lines ≡ Some others → places_of (lines ++ line ∷ []) ≡ Some (others ++ place ∷ [])) → (at : Option (ℤ × ℤ)) → place_of_text (columns 2 18 x) ≡ at
        → (rest : Option (List (ℤ × ℤ))) → places_of lines ≡ rest → (at >>= λ place. rest >>= λ places. Some (place ∷ places)) ≡ Some places
        → places_of (x ∷ lines ++ line ∷ []) ≡ Some (places ++ place ∷ [])
    first push None at_is rest rest_is is = absurd (cc)
    first push (Some at) at_is None rest_is is = absurd (cc)
    first push (Some at) at_is (Some others) rest_is is =
        let same : at ∷ others ≡ places = cc in
        rw (at_is, push others rest_is, ← same) refl

-- a line among them that doesn't read
places-stop : (lines : Lines) (line : List ℕ) (more : Lines) → place_of_text (columns 2 18 line) ≡ None → places_of (lines ++ line ∷ more) ≡ None
places-stop [] line more damaged = rw damaged refl
places-stop (x ∷ lines) line more damaged = rw (places-stop lines line more damaged) (none (place_of_text (columns 2 18 x)))
  where
    none : (at : Option (ℤ × ℤ)) → ◌>>=◌ {B = List (ℤ × ℤ)} at (λ (place : ℤ × ℤ). None) ≡ None
    none None = refl
    none (Some place) = refl

-- the declaration of a heading that counts
pub declared-counted : (heading : List ℕ) (rest : Lines) (count : ℕ) → declared_count heading ≡ Some count
    → declared_by (heading ∷ rest) ≡ cond (nat_le count (length rest)) (places_of (take count rest)) None
unfolding declared_by
declared-counted heading rest count counted = rw counted refl

pub declared-damaged : (heading : List ℕ) (rest : Lines) → declared_count heading ≡ None → declared_by (heading ∷ rest) ≡ None
unfolding declared_by
declared-damaged heading rest damaged = rw damaged refl

-- how many points were read
points-length : (count : ℕ) (lines : Lines) (points : List Grid) (read : IsRead count lines points) → length points ≡ length (take count read.rest)
points-length count lines points read =
    sym (length-map points place_of) ∙ places-length (take count read.rest) (map place_of points) read.places

-- all places were read
pub declared-whole : (count : ℕ) (lines : Lines) (points : List Grid) → IsRead count lines points → length points ≡ count → declared_by lines ≡ Some (map place_of points)
declared-whole count lines points read all =
    let long = points-length count lines points read in
    let enough : nat_le count (length read.rest) ≡ true = let below : count ≤ length read.rest = omega (arith, length-take count read.rest) in grind (arith, nat_tests) in
    ap declared_by read.whole ∙ declared-counted read.heading read.rest count read.counted ∙ rw enough read.places

-- places are wanting
pub declared-short : (count : ℕ) (lines : Lines) (points : List Grid) → IsRead count lines points → length points ≢ count → declared_by lines ≡ None
declared-short count lines points read few =
    let long = points-length count lines points read in
    let short : nat_le count (length read.rest) ≡ false = let below : length read.rest < count = omega (arith, length-take count read.rest) in grind (arith, nat_tests) in
    ap declared_by read.whole ∙ declared-counted read.heading read.rest count read.counted ∙ rw short refl

-- no line but the heading
pub read-first : (count : ℕ) (heading : List ℕ) → declared_count heading ≡ Some count → IsRead count (heading ∷ []) []
read-first count heading counted = record {
  heading = heading;
  rest = [];
  whole = refl;
  counted = counted;
  places = none count;
}
  where
    none : (count : ℕ) → places_of (take count []) ≡ Some []
    none zero = refl
    none (suc count) = refl

-- a line after all places
pub read-over : (count : ℕ) (lines : Lines) (points : List Grid) (line : List ℕ) → IsRead count lines points → count ≤ length points → IsRead count (lines ++ line ∷ []) points
read-over count lines points line read full =
    let long = points-length count lines points read in
    let enough : count ≤ length read.rest = omega (arith, length-take count read.rest) in
    record {
      heading = read.heading;
      rest = read.rest ++ line ∷ [];
      whole = ap (λ (lines : Lines). lines ++ line ∷ []) read.whole;
      counted = read.counted;
      places = ap places_of (take-append-le count read.rest (line ∷ []) enough) ∙ read.places;
    }

-- a line with a place
pub read-more : (count : ℕ) (lines : Lines) (points : List Grid) (line : List ℕ) (point : Grid) → IsRead count lines points → length points < count
    → place_of_text (columns 2 18 line) ≡ Some (place_of point) → IsRead count (lines ++ line ∷ []) (points ++ point ∷ [])
read-more count lines points line point read room reads =
    let long = points-length count lines points read in
    let short : length read.rest < count = omega (arith, length-take count read.rest) in
    let before : take count read.rest ≡ read.rest = take_all count read.rest (omega arith) in
    let after : take count (read.rest ++ line ∷ []) ≡ read.rest ++ line ∷ [] = take_all count (read.rest ++ line ∷ []) (omega (arith, length-append read.rest (line ∷ []))) in
    let so_far : places_of read.rest ≡ Some (map place_of points) = sym (ap places_of before) ∙ read.places in
    record {
      heading = read.heading;
      rest = read.rest ++ line ∷ [];
      whole = ap (λ (lines : Lines). lines ++ line ∷ []) read.whole;
      counted = read.counted;
      places = ap places_of after ∙ places-push read.rest line (map place_of points) (place_of point) so_far reads ∙ ap Some (sym (map-append place_of points (point ∷ [])));
    }

-- a line whose place doesn't read
pub read-stop : (count : ℕ) (lines : Lines) (points : List Grid) (line : List ℕ) → IsRead count lines points → length points < count → place_of_text (columns 2 18 line) ≡ None → (more : Lines)
    → declared_by ((lines ++ line ∷ []) ++ more) ≡ None
read-stop count lines points line read room damaged more =
    let long = points-length count lines points read in
    let short : length read.rest < count = omega (arith, length-take count read.rest) in
    let all : (lines ++ line ∷ []) ++ more ≡ read.heading ∷ (read.rest ++ line ∷ more) =
    append_assoc lines (line ∷ []) more ∙ ap (λ (lines : Lines). lines ++ line ∷ more) read.whole in
    let left : count ≡ length read.rest + suc (count - length read.rest - 1) = omega arith in
    let front : take count (read.rest ++ line ∷ more) ≡ read.rest ++ line ∷ take (count - length read.rest - 1) more =
    ap (λ (k : ℕ). take k (read.rest ++ line ∷ more)) left ∙ take-append-add read.rest (line ∷ more) (suc (count - length read.rest - 1)) in
    let stop = ap places_of front ∙ places-stop read.rest line (take (count - length read.rest - 1) more) damaged in
    ap declared_by all ∙ declared-counted read.heading (read.rest ++ line ∷ more) count read.counted
    ∙ tested (places_of (take count (read.rest ++ line ∷ more))) stop (nat_le count (length (read.rest ++ line ∷ more)))
  where
    tested : (places : Option (List (ℤ × ℤ))) → places ≡ None → (b : Bool) → cond b places None ≡ None
    tested places none false = refl
    tested places none true = none

pub damaged-declares : (lines : Lines) → ((more : Lines) → declared_by (lines ++ more) ≡ None) → declared_by lines ≡ None
damaged-declares lines damaged = ap declared_by (sym (append-nil lines)) ∙ damaged []

-- before the heading there is no line
pub none_before : (heading : Heading) (lines : Lines) (points : List Grid) → heading ≡ Awaited → IsHeaded heading lines points → (lines ≡ []) × (points ≡ [])
none_before heading lines points awaited of = subst (λ (heading : Heading). IsHeaded heading lines points) awaited of

-- a declaration without a whole heading declares nothing
pub declared-other : (heading : Heading) (lines : Lines) (points : List Grid) → ((count : Count) → heading ≡ Read count → ⊥) → IsHeaded heading lines points → declared_by lines ≡ None
unfolding declared_by
declared-other Awaited lines points other of = ap declared_by of.0
declared-other (Read count) lines points other of = absurd (other count refl)
declared-other Damaged lines points other of = damaged-declares lines of
