-- The order of the lines.
use Rattle.std.proofs.Common.{◌≡◌, sym, ap, ◌∙◌, ℕ, ◌+◌, ◌<◌, Bool, List, [], ◌∷◌, ◌++◌, length, map, take, get_or, arith}
use Rattle.std.specs.Cmp.{IsTotalOrder, then_total, back_total, on_total, nat_cmp_total}
use Rattle.std.specs.Cmp.Lexicographic.{on_texts}
use Rattle.std.specs.List.Sorted.{IsSortedBy}
use Rattle.std.specs.List.{flat_map, zip}
use Rattle.std.proofs.lemmas.List.{append-nil, get_or-map, length-map, map-append, take_more}
use Rattle.std.proofs.lemmas.List.Concat.{flat_map-append}
use Rattle.std.proofs.lemmas.Slice.Zip.{get_or-zip, length-zip}
use Rattle.gl_task.specs.declared.task.Entrant.{Entrant}
use Rattle.gl_sheet.specs.declared.row.Row.{Row}
use Rattle.gl_sheet.specs.Sheet.{line_cmp}

pub line_cmp_total : IsTotalOrder line_cmp
line_cmp_total =
    let points : Entrant × Row → ℕ = λ line. line.1.points in
    let number : Entrant × Row → List ℕ = λ line. line.0.number in
    then_total (back_total (on_total points nat_cmp_total)) (on_texts number)

-- a list that is sorted by what its items give gives a sorted list
pub mapped_sorted : {X Y : Type 0} (f : X → Y) (lt : Y → Y → Bool) (xs : List X) → IsSortedBy (λ a b. lt (f a) (f b)) xs → IsSortedBy lt (map f xs)
mapped_sorted f lt [] sorted = λ k d low within. absurd (omega (arith, within))
mapped_sorted f lt (x ∷ xs) sorted = λ k d low within.
    let inside : k + 1 < length (x ∷ xs) = omega (arith, within, length-map (x ∷ xs) f) in
    let first = get_or-map f (x ∷ xs) k x d (omega arith) in
    let second = get_or-map f (x ∷ xs) (k + 1) x d inside in
    rw (first, second) (sorted k x low inside)

-- one more pair of two lists
pub gathered_more : {X Y : Type 0} (xs : List X) (ys : List Y) (i : ℕ) (x : X) (d : Y) → i < length xs → length ys ≡ length xs → x ≡ get_or xs i x
    → take (i + 1) (zip xs ys) ≡ take i (zip xs ys) ++ ((x, get_or ys i d) ∷ [])
gathered_more xs ys i x d within same first =
    let inside : i < length (zip xs ys) = omega (arith, length-zip xs ys, same) in
    let at = get_or-zip xs ys i (x, d) within (omega (arith, same)) in
    take_more (zip xs ys) i (x, d) inside ∙ ap (λ p. take i (zip xs ys) ++ p ∷ []) (at ∙ ap (λ a. (a, get_or ys i d)) (sym first))

-- the text of one more line
pub text_more : {X Y : Type 0} (text : List (List ℕ) → List ℕ) (head : List (List ℕ)) (fields : Y → List (List ℕ)) (view : X → Y) (lines : List X) (i : ℕ) (line : X) → i < length lines
    → line ≡ get_or lines i line → flat_map text (head ∷ map fields (map view (take (i + 1) lines))) ≡ flat_map text (head ∷ map fields (map view (take i lines))) ++ text (fields (view line))
text_more text head fields view lines i line within at =
    let more : take (i + 1) lines ≡ take i lines ++ line ∷ [] = take_more lines i line within ∙ ap (λ l. take i lines ++ l ∷ []) (sym at) in
    let seen : map view (take (i + 1) lines) ≡ map view (take i lines) ++ (view line ∷ []) = ap (map view) more ∙ map-append view (take i lines) (line ∷ []) in
    let shown : map fields (map view (take (i + 1) lines)) ≡ map fields (map view (take i lines)) ++ (fields (view line) ∷ []) = ap (map fields) seen
    ∙ map-append fields (map view (take i lines)) (view line ∷ []) in
    let front = map fields (map view (take i lines)) in
    ap (λ rest. flat_map text (head ∷ rest)) shown ∙ flat_map-append text (head ∷ front) (fields (view line) ∷ [])
    ∙ ap (λ t. flat_map text (head ∷ front) ++ t) (append-nil (text (fields (view line))))
