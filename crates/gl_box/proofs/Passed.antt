-- What is known of boxes that come one after the other.
use Rattle.std.proofs.Common.{◌≡◌, ◌∙◌, sym, ap, refl, subst, ℕ, ◌+◌, ◌<◌, List, [], ◌∷◌, ◌++◌, length, get_or, map, take, arith, below_more}
use Rattle.std.specs.Prelude.{◌↔◌, IsTrue, Bool, MatchOption, Option, None, Some, true, false, is_some, min}
use Rattle.std.specs.List.{HoldsAt}
use Rattle.std.proofs.lemmas.Bool.{false≢true}
use Rattle.std.proofs.Math.ListN.{get_or-append}
use Rattle.std.proofs.Math.Seq.{get_or-append_seam, take-append-add, take-append_seam}
use Rattle.std.proofs.lemmas.List.{append-nil, append_assoc, get_or-map, length-append, length-map, map-append, take-append-le, take_all, take_more}
use Rattle.gl_box.specs.declared.way.OpenCells.{OpenCells}
use Rattle.gl_box.specs.Cell.{Covers, spans_of}
use Rattle.gl_box.specs.Way.{before_if, open_of, open_on}
use Rattle.gl_box.specs.Boxes.{AreRight, AreWhole, BeginWhole, Begins, IsFirst, IsPlaced, IsRight, NumbersBox}
use Rattle.gl_box.specs.Frontier.{IsFrontier}
use Rattle.gl_box.specs.declared.checking.Said.{Said}
use Rattle.gl_box.specs.declared.checking.Said.TheVariants.{NoneWrong, ExtraBox, StrayBox, UnclosedBox, Unfinished}
use Rattle.gl_box.specs.Passing.{ArePassed, AreSaid, HasSaid, IsCovered, IsPassing, cells_of}
use Rattle.gl_box.specs.Walk.{AreFrontiers, IsWalked, open_cells}
use Rattle.gl_box.proofs.Frontiers.{covers_begun, walked_begins, walked_on, walked_open, walked_out, walked_start, walked_whole}

-- a cell is open where the first one is
pub some_open : (cells : OpenCells) → cells.is_open ≡ true → open_of cells ≡ [] → ⊥
some_open cells is_open none =
    let rest = open_on (spans_of cells.first) cells.way.items ++ open_cells cells.others.items in
    omega (arith, ap length (sym (ap (λ (b : Bool). before_if b (spans_of cells.first) rest) is_open) ∙ none))

-- a cell that stands where it must stands there whatever follows
placed_more : (whole : List (ℕ × ℕ)) (cells more : List (List (ℕ × ℕ))) (place : ℕ) → place < length cells → IsPlaced whole cells place → IsPlaced whole (cells ++ more) place
placed_more whole cells more place below is = record {
  needed = λ front. is.needed (subst (IsFrontier whole) (take-append-le place cells more (omega (arith, below))) front);
  placed = subst (Begins whole) (sym (take-append-le (place + 1) cells more (omega (arith, below)))) is.placed;
}

length-cells : {W : Type 0} (boxes : List (List (ℕ × ℕ) × W)) → length (cells_of boxes) ≡ length boxes
length-cells {W} boxes = length-map boxes (λ (box : List (ℕ × ℕ) × W). box.0)

cells-append : {W : Type 0} (boxes more : List (List (ℕ × ℕ) × W)) → cells_of (boxes ++ more) ≡ cells_of boxes ++ cells_of more
cells-append {W} boxes more = map-append (λ (box : List (ℕ × ℕ) × W). box.0) boxes more

-- so do boxes, and those that are closed are closed
right_more : {W : Type 0} (whole : List (ℕ × ℕ)) (Closes : List (ℕ × ℕ) × W → Type 0) (boxes more : List (List (ℕ × ℕ) × W))
    → AreRight whole (cells_of boxes) (HoldsAt Closes boxes) (length boxes) → AreRight whole (cells_of (boxes ++ more)) (HoldsAt Closes (boxes ++ more)) (length boxes)
right_more {W} whole Closes boxes more right place below = record {
  placed = subst (λ (l : List (List (ℕ × ℕ))). IsPlaced whole l place) (sym (cells-append boxes more))
      (placed_more whole (cells_of boxes) (cells_of more) place (omega (arith, below, length-cells boxes)) (right place below).placed);
  closed = λ d. subst Closes (sym (get_or-append boxes more d place below)) ((right place below).closed d);
}

-- the cells before a box
before_next : {W : Type 0} (boxes more : List (List (ℕ × ℕ) × W)) → take (length boxes) (cells_of (boxes ++ more)) ≡ cells_of boxes
before_next {W} boxes more =
    ap (λ (n : ℕ). take n (cells_of (boxes ++ more))) (sym (length-cells boxes)) ∙ ap (take (length (cells_of boxes))) (cells-append boxes more) ∙ take-append_seam (cells_of boxes) (cells_of more)

-- and with it
with_next : {W : Type 0} (boxes more : List (List (ℕ × ℕ) × W)) (next : List (ℕ × ℕ) × W) → take (length boxes + 1) (cells_of (boxes ++ next ∷ more)) ≡ cells_of boxes ++ next.0 ∷ []
with_next {W} boxes more next =
    ap (λ (n : ℕ). take (n + 1) (cells_of (boxes ++ next ∷ more))) (sym (length-cells boxes)) ∙ ap (take (length (cells_of boxes) + 1)) (cells-append boxes (next ∷ more))
    ∙ take-append-add (cells_of boxes) (cells_of (next ∷ more)) 1

-- the box behind those that are passed is the first that is wrong, if it is
first_at : {W : Type 0} (whole : List (ℕ × ℕ)) (Closes : List (ℕ × ℕ) × W → Type 0) (boxes more : List (List (ℕ × ℕ) × W)) (next : List (ℕ × ℕ) × W) (opened : List (List (ℕ × ℕ))) (number : ℕ)
    (IsWrong : ℕ → Type 0) → ArePassed whole Closes boxes opened number → IsWrong (length boxes) → IsFirst whole (cells_of (boxes ++ next ∷ more)) (HoldsAt Closes (boxes ++ next ∷ more)) IsWrong number
first_at {W} whole Closes boxes more next opened number IsWrong passed wrong = record {
  place = length boxes;
  numbered = passed.numbered;
  within = omega (arith, length-cells (boxes ++ next ∷ more), length-append boxes (next ∷ more));
  before = right_more whole Closes boxes (next ∷ more) passed.right;
  wrong = wrong;
}

-- what is said of boxes and one more, whatever follows
said_next : {W : Type 0} (whole : List (ℕ × ℕ)) (Closes : List (ℕ × ℕ) × W → Type 0) (boxes : List (List (ℕ × ℕ) × W)) (next : List (ℕ × ℕ) × W) (said : Said)
    → ((more : List (List (ℕ × ℕ) × W)) → AreSaid whole Closes (boxes ++ next ∷ more) said) → HasSaid whole Closes (boxes ++ next ∷ []) said
said_next {W} whole Closes boxes next said each more =
    subst (λ (l : List (List (ℕ × ℕ) × W)). AreSaid whole Closes l said) (sym (append_assoc boxes (next ∷ []) more)) (each more)

pub extra_said : {W : Type 0} (whole : List (ℕ × ℕ)) (Closes : List (ℕ × ℕ) × W → Type 0) (boxes : List (List (ℕ × ℕ) × W)) (next : List (ℕ × ℕ) × W) (opened : List (List (ℕ × ℕ))) (number : ℕ)
    → ArePassed whole Closes boxes opened number → opened ≡ [] → HasSaid whole Closes (boxes ++ next ∷ []) (ExtraBox number)
extra_said whole Closes boxes next opened number passed none = said_next whole Closes boxes next (ExtraBox number)
    (λ more. first_at whole Closes boxes more next opened number (AreWhole whole (cells_of (boxes ++ next ∷ more))) passed
    (subst (IsFrontier whole) (sym (before_next boxes (next ∷ more))) (walked_whole whole (cells_of boxes) opened passed.walked none)))

pub stray_said : {W : Type 0} (whole : List (ℕ × ℕ)) (Closes : List (ℕ × ℕ) × W → Type 0) (boxes : List (List (ℕ × ℕ) × W)) (next : List (ℕ × ℕ) × W) (opened : List (List (ℕ × ℕ))) (number : ℕ)
    → ArePassed whole Closes boxes opened number → (opened ≡ [] → ⊥) → ((more : List (List (ℕ × ℕ))) → AreFrontiers opened (next.0 ∷ more) → ⊥)
    → HasSaid whole Closes (boxes ++ next ∷ []) (StrayBox number)
stray_said whole Closes boxes next opened number passed some out = said_next whole Closes boxes next (StrayBox number)
    (λ more. let cells = cells_of (boxes ++ next ∷ more) in first_at whole Closes boxes more next opened number (λ place. (AreWhole whole cells place → ⊥) × (BeginWhole whole cells (place + 1) → ⊥)) passed (
      λ front. walked_open whole (cells_of boxes) opened passed.walked some (subst (IsFrontier whole) (before_next boxes (next ∷ more)) front),
      λ begins. walked_out whole next.0 (cells_of boxes) opened passed.walked out (subst (Begins whole) (with_next boxes more next) begins),
    ))

-- the walk behind one box more
record GoesOn {W : Type 0} (whole : List (ℕ × ℕ)) (boxes : List (List (ℕ × ℕ) × W)) (next : List (ℕ × ℕ) × W) (after : List (List (ℕ × ℕ))) : Type 0 where
  walked : IsWalked whole (cells_of boxes ++ next.0 ∷ []) after
  placed : (more : List (List (ℕ × ℕ) × W)) → IsPlaced whole (cells_of (boxes ++ next ∷ more)) (length boxes)

goes_on : {W : Type 0} (whole : List (ℕ × ℕ)) (Closes : List (ℕ × ℕ) × W → Type 0) (boxes : List (List (ℕ × ℕ) × W)) (next : List (ℕ × ℕ) × W) (opened after : List (List (ℕ × ℕ))) (number : ℕ)
    → ArePassed whole Closes boxes opened number → (opened ≡ [] → ⊥) → ((more : List (List (ℕ × ℕ))) → AreFrontiers opened (next.0 ∷ more) ↔ AreFrontiers after more) → GoesOn whole boxes next after
goes_on whole Closes boxes next opened after number passed some step =
    let walked = walked_on whole next.0 (cells_of boxes) opened after passed.walked step in
    record {
      walked = walked;
      placed = λ more. record {
        needed = λ front. walked_open whole (cells_of boxes) opened passed.walked some (subst (IsFrontier whole) (before_next boxes (next ∷ more)) front);
        placed = subst (Begins whole) (sym (with_next boxes more next)) (walked_begins whole (cells_of boxes ++ next.0 ∷ []) after walked);
      };
    }

-- a box that the walk came to lies in the whole
pub next_covered : {W : Type 0} (whole : List (ℕ × ℕ)) (Closes : List (ℕ × ℕ) × W → Type 0) (boxes : List (List (ℕ × ℕ) × W)) (next : List (ℕ × ℕ) × W) (opened after : List (List (ℕ × ℕ))) (number : ℕ)
    → ArePassed whole Closes boxes opened number → (opened ≡ [] → ⊥) → ((more : List (List (ℕ × ℕ))) → AreFrontiers opened (next.0 ∷ more) ↔ AreFrontiers after more) → Covers whole next.0
next_covered whole Closes boxes next opened after number passed some step =
    covers_begun whole next.0 (cells_of boxes)
    (walked_begins whole (cells_of boxes ++ next.0 ∷ []) after (goes_on whole Closes boxes next opened after number passed some step).walked)

pub unclosed_said : {W : Type 0} (whole : List (ℕ × ℕ)) (Closes : List (ℕ × ℕ) × W → Type 0) (boxes : List (List (ℕ × ℕ) × W)) (next : List (ℕ × ℕ) × W) (opened after : List (List (ℕ × ℕ))) (number : ℕ)
    → ArePassed whole Closes boxes opened number → (opened ≡ [] → ⊥) → ((more : List (List (ℕ × ℕ))) → AreFrontiers opened (next.0 ∷ more) ↔ AreFrontiers after more) → (Closes next → ⊥)
    → HasSaid whole Closes (boxes ++ next ∷ []) (UnclosedBox number)
unclosed_said {W} whole Closes boxes next opened after number passed some step not_closed =
    let on = goes_on whole Closes boxes next opened after number passed some step in
    said_next whole Closes boxes next (UnclosedBox number)
    (λ more. let all = boxes ++ next ∷ more in first_at whole Closes boxes more next opened number (λ place. IsPlaced whole (cells_of all) place × (HoldsAt Closes all place → ⊥)) passed
    (on.placed more, λ at. not_closed (subst Closes (get_or-append_seam boxes next more next) (at next))))

pub closed_on : {W : Type 0} (whole : List (ℕ × ℕ)) (Closes : List (ℕ × ℕ) × W → Type 0) (boxes : List (List (ℕ × ℕ) × W)) (next : List (ℕ × ℕ) × W) (opened after : List (List (ℕ × ℕ))) (number : ℕ)
    → ArePassed whole Closes boxes opened number → (opened ≡ [] → ⊥) → ((more : List (List (ℕ × ℕ))) → AreFrontiers opened (next.0 ∷ more) ↔ AreFrontiers after more) → Closes next
    → IsCovered whole Closes boxes next after
closed_on {W} whole Closes boxes next opened after number passed some step closed =
    let on = goes_on whole Closes boxes next opened after number passed some step in
    let all = boxes ++ next ∷ [] in
    let longer : length boxes + 1 ≡ length all = sym (length-append boxes (next ∷ [])) in
    record {
      walked = subst (λ (l : List (List (ℕ × ℕ))). IsWalked whole l after) (sym (cells-append boxes (next ∷ []))) on.walked;
      right = subst (AreRight whole (cells_of all) (HoldsAt Closes all)) longer
          (below_more (IsRight whole (cells_of all) (HoldsAt Closes all)) (length boxes) (right_more whole Closes boxes (next ∷ []) passed.right)
          (record { placed = on.placed []; closed = λ d. subst Closes (sym (get_or-append_seam boxes next [] d)) closed }));
    }

-- where no box follows
pub none_said : {W : Type 0} (whole : List (ℕ × ℕ)) (Closes : List (ℕ × ℕ) × W → Type 0) (boxes : List (List (ℕ × ℕ) × W)) (opened : List (List (ℕ × ℕ))) (number : ℕ)
    → ArePassed whole Closes boxes opened number → opened ≡ [] → AreSaid whole Closes boxes NoneWrong
none_said whole Closes boxes opened number passed none = (
  walked_whole whole (cells_of boxes) opened passed.walked none,
  λ place below. (passed.right place (omega (arith, below, length-cells boxes))).closed,
)

pub unfinished_said : {W : Type 0} (whole : List (ℕ × ℕ)) (Closes : List (ℕ × ℕ) × W → Type 0) (boxes : List (List (ℕ × ℕ) × W)) (opened : List (List (ℕ × ℕ))) (number : ℕ)
    → ArePassed whole Closes boxes opened number → (opened ≡ [] → ⊥) → AreSaid whole Closes boxes Unfinished
unfinished_said whole Closes boxes opened number passed some = (
  λ place below. passed.right place (omega (arith, below, length-cells boxes)),
  λ front. walked_open whole (cells_of boxes) opened passed.walked some (subst (IsFrontier whole) (take_all (length (cells_of boxes)) (cells_of boxes) (omega arith)) front),
)

pub had_said : {W : Type 0} (whole : List (ℕ × ℕ)) (Closes : List (ℕ × ℕ) × W → Type 0) (boxes : List (List (ℕ × ℕ) × W)) (said : Said) → HasSaid whole Closes boxes said → AreSaid whole Closes boxes said
had_said {W} whole Closes boxes said has = subst (λ (l : List (List (ℕ × ℕ) × W)). AreSaid whole Closes l said) (append-nil boxes) (has [])

pub stays_said : {W : Type 0} (whole : List (ℕ × ℕ)) (Closes : List (ℕ × ℕ) × W → Type 0) (boxes more : List (List (ℕ × ℕ) × W)) (said : Said) → HasSaid whole Closes boxes said
    → HasSaid whole Closes (boxes ++ more) said
stays_said {W} whole Closes boxes more said has others =
    subst (λ (l : List (List (ℕ × ℕ) × W)). AreSaid whole Closes l said) (sym (append_assoc boxes more others)) (has (more ++ others))

-- no box yet
pub none_passed : {W : Type 0} (whole : List (ℕ × ℕ)) (Closes : List (ℕ × ℕ) × W → Type 0) → ArePassed whole Closes [] (whole ∷ []) 1
none_passed whole Closes = record { walked = walked_start whole; right = λ place below. absurd (omega (arith, below)); numbered = refl }

-- one box more
pub passing_next : {W : Type 0} (whole : List (ℕ × ℕ)) (Closes : List (ℕ × ℕ) × W → Type 0) (boxes : List (List (ℕ × ℕ) × W)) (next : List (ℕ × ℕ) × W) (opened : List (List (ℕ × ℕ))) (number : ℕ)
    (fault : Option Said) → NumbersBox number (length boxes + 1) → MatchOption fault (IsCovered whole Closes boxes next opened) (HasSaid whole Closes (boxes ++ next ∷ []))
    → IsPassing whole Closes (boxes ++ next ∷ []) opened number fault
passing_next whole Closes boxes next opened number None numbered covered = record {
  walked = covered.walked;
  right = covered.right;
  numbered = numbered ∙ ap (λ (n : ℕ). min (n + 1) 4_294_967_295) (sym (length-append boxes (next ∷ [])));
}
passing_next whole Closes boxes next opened number (Some said) numbered has = has

pub passing_stays : {W : Type 0} (whole : List (ℕ × ℕ)) (Closes : List (ℕ × ℕ) × W → Type 0) (boxes more : List (List (ℕ × ℕ) × W)) (opened : List (List (ℕ × ℕ))) (number : ℕ) (wrong : Option Said)
    → IsTrue (is_some wrong) → IsPassing whole Closes boxes opened number wrong → IsPassing whole Closes (boxes ++ more) opened number wrong
passing_stays whole Closes boxes more opened number None some has = absurd (false≢true some)
passing_stays whole Closes boxes more opened number (Some said) some has = stays_said whole Closes boxes more said has

pub still_passed : {W : Type 0} (whole : List (ℕ × ℕ)) (Closes : List (ℕ × ℕ) × W → Type 0) (boxes : List (List (ℕ × ℕ) × W)) (opened : List (List (ℕ × ℕ))) (number : ℕ) (wrong : Option Said)
    → is_some wrong ≡ false → IsPassing whole Closes boxes opened number wrong → ArePassed whole Closes boxes opened number
still_passed whole Closes boxes opened number None none passed = passed
still_passed whole Closes boxes opened number (Some said) none passed = absurd (false≢true (sym none))

-- what holds of a box holds where it stands
pub holds_at : {A B : Type 0} (view : A → B) (P : B → Type 0) (items : List A) (i : ℕ) (item : A) → i < length items → item ≡ get_or items i item → P (view item) → HoldsAt P (map view items) i
holds_at view P items i item below is holds d = subst P (sym (get_or-map view items i item d below ∙ ap view (sym is))) holds

pub map_twice : {A B C : Type 0} (f : A → B) (g : B → C) (xs : List A) → map (λ x. g (f x)) xs ≡ map g (map f xs)
map_twice f g [] = refl
map_twice {A} {B} {C} f g (x ∷ xs) = ap (λ (l : List C). g (f x) ∷ l) (map_twice f g xs)

-- the cells of one box more
pub cells_more : {B : Type 0} (cell : B → List (ℕ × ℕ)) (boxes : List B) (i : ℕ) (next : B) → i < length boxes → next ≡ get_or boxes i next
    → take (i + 1) (map cell boxes) ≡ take i (map cell boxes) ++ cell next ∷ []
cells_more {B} cell boxes i next below item =
    let all = map cell boxes in
    let there : i < length all = omega (arith, below, length-map boxes cell) in
    let read : get_or all i [] ≡ cell next = get_or-map cell boxes i next [] below ∙ ap cell (sym item) in
    take_more all i [] there ∙ ap (λ (c : List (ℕ × ℕ)). take i all ++ c ∷ []) read

-- the walk goes on behind a box that was found
pub walked_more : {B : Type 0} (whole : List (ℕ × ℕ)) (cell : B → List (ℕ × ℕ)) (boxes : List B) (i : ℕ) (next : B) (spans : List (ℕ × ℕ)) (opened after : List (List (ℕ × ℕ))) → i < length boxes
    → next ≡ get_or boxes i next → spans ≡ cell next → IsWalked whole (take i (map cell boxes)) opened → ((more : List (List (ℕ × ℕ))) → AreFrontiers opened (spans ∷ more) ↔ AreFrontiers after more)
    → IsWalked whole (take (i + 1) (map cell boxes)) after
walked_more whole cell boxes i next spans opened after below item is walked step =
    subst (λ (l : List (List (ℕ × ℕ))). IsWalked whole l after) (ap (λ (c : List (ℕ × ℕ)). take i (map cell boxes) ++ c ∷ []) is
    ∙ sym (cells_more cell boxes i next below item)) (walked_on whole spans (take i (map cell boxes)) opened after walked step)
