-- Lines read in one way, and stop to read at one place.
use Rattle.std.proofs.Common.{◌≡◌, ◌∙◌, sym, ap, subst, refl, ℕ, ◌≤◌, List, [], ◌∷◌, ◌++◌, length, append_assoc, arith}
use Rattle.std.specs.List.{AllZip}
use Rattle.gl_series.specs.OneByOne.{Reads, StopsBehind}

-- a list with one item more at its end, and then others
pub append_push : {X : Type 0} (xs : List X) (x : X) (ys : List X) → xs ++ x ∷ ys ≡ (xs ++ x ∷ []) ++ ys
append_push xs x ys = sym (append_assoc xs (x ∷ []) ys)

-- the longer of two fronts of one list begins with the shorter one and what follows that
not_longer : {X : Type 0} (f g : List X) (w : X) (b rest : List X) → f ++ w ∷ b ≡ g ++ rest → ((mid : List X) → g ≡ f ++ w ∷ mid → ⊥) → length g ≤ length f
not_longer f [] w b rest same never = omega arith
not_longer [] (y ∷ g) w b rest same never =
    let first : y ≡ w = cc in absurd (never g (λ i. first i ∷ g))
not_longer (x ∷ f) (y ∷ g) w b rest same never =
    let first : y ≡ x = cc in
    let others : f ++ w ∷ b ≡ g ++ rest = cc in
    omega (arith, not_longer f g w b rest others (λ mid is. never mid (λ i. first i ∷ is i)))

module _ {Line Item : Type 0} (Is : Line → Item → Type 0) (one : (line : Line) (a b : Item) → Is line a → Is line b → a ≡ b) where
  pub items_once : (lines : List Line) (a b : List Item) → AllZip Is lines a → AllZip Is lines b → a ≡ b
  items_once [] [] [] first second = refl
  items_once [] [] (y ∷ ys) first second = absurd second
  items_once [] (x ∷ xs) ys first second = absurd first
  items_once (l ∷ ls) [] ys first second = absurd first
  items_once (l ∷ ls) (x ∷ xs) [] first second = absurd second
  items_once (l ∷ ls) (x ∷ xs) (y ∷ ys) first second =
      let head = one l x y first.0 second.0 in
      let tail = items_once ls xs ys first.1 second.1 in
      λ i. head i ∷ tail i

  -- the items of a list of lines, cut where the lines are
  cut_at : (front : List Line) (wrong : Line) (behind : List Line) (items : List Item) → AllZip Is (front ++ wrong ∷ behind) items
      → (a : List Item) × (x : Item) × (b : List Item) × (items ≡ a ++ x ∷ b) × AllZip Is front a × Is wrong x
  cut_at [] wrong behind [] each = absurd each
  cut_at [] wrong behind (x ∷ xs) each = ([], x, xs, refl, tt, each.0)
  cut_at (l ∷ ls) wrong behind [] each = absurd each
  cut_at (l ∷ ls) wrong behind (x ∷ xs) each =
      let rest = cut_at ls wrong behind xs each.1 in
      (x ∷ rest.0, rest.1, rest.2, ap (λ (zs : List Item). x ∷ zs) rest.3, (each.0, rest.4), rest.5)

  module _ (Fit : List Item → Type 0) (begins : (a b : List Item) → Fit (a ++ b) → Fit a) where
    pub reads_once : (lines : List Line) (a b : List Item) → Reads Is Fit lines a → Reads Is Fit lines b → a ≡ b
    reads_once lines a b first second = items_once lines a b first.each second.each

    -- lines that read don't stop to
    pub reads_on : (lines : List Line) (items : List Item) (count : ℕ) → Reads Is Fit lines items → StopsBehind Is Fit lines count → ⊥
    reads_on lines items count reads stops =
        let cut = cut_at stops.front stops.wrong stops.behind items (subst (λ (ls : List Line). AllZip Is ls items) stops.parts reads.each) in
        let same = items_once stops.front cut.0 stops.items cut.4 stops.before.each in
        let whole : items ≡ (stops.items ++ cut.1 ∷ []) ++ cut.2 = cut.3 ∙ ap (λ (zs : List Item). zs ++ cut.1 ∷ cut.2) same ∙ append_push stops.items cut.1 cut.2 in
        stops.none cut.1 cut.5 (begins (stops.items ++ cut.1 ∷ []) cut.2 (subst Fit whole reads.fit))

    not_later : (lines : List Line) (m n : ℕ) → StopsBehind Is Fit lines m → StopsBehind Is Fit lines n → n ≤ m
    not_later lines m n first second =
        let most = not_longer first.front second.front first.wrong first.behind (second.wrong ∷ second.behind) (sym first.parts ∙ second.parts)
        (λ mid is. reads_on second.front second.items m second.before (record {
          front = first.front;
          wrong = first.wrong;
          behind = mid;
          items = first.items;
          parts = is;
          before = first.before;
          none = first.none;
          counted = first.counted;
        })) in
        omega (arith, most, first.counted, second.counted)

    pub stops_once : (lines : List Line) (m n : ℕ) → StopsBehind Is Fit lines m → StopsBehind Is Fit lines n → m ≡ n
    stops_once lines m n first second = omega (arith, not_later lines m n first second, not_later lines n m second first)
