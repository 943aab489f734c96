-- What becomes of cells as they were left, put into order and searched part by part.
use Rattle.std.proofs.Common.{◌≡◌, ◌∙◌, sym, ap, refl, subst, inl, inr, ℕ, zero, suc, ◌+◌, ◌<◌, ◌≤◌, List, [], ◌∷◌, ◌++◌, drop, length, get_or, map, replicate, take, arith}
use Rattle.std.specs.Prelude.{All, Contains, None, Option, Some}
use Rattle.std.specs.List.{flat_map}
use Rattle.std.proofs.lemmas.Grind.{flat_map-append}
use Rattle.std.proofs.lemmas.List.{append-nil, drop_all, drop_more, get_or-map, length-map, take_all, take_more}
use Rattle.std.proofs.lemmas.List.Elements.{All-append, All-cons, All-nil, Contains-get_or}
use Rattle.gl_box.specs.declared.cell.Cell.{Cell}
use Rattle.gl_box.specs.declared.closed.Closed.{Closed}
use Rattle.gl_box.specs.declared.closed.Why.{Why}
use Rattle.gl_box.specs.Cell.{spans_of}
use Rattle.gl_box.specs.Closed.{box_of}
use Rattle.gl_box.specs.Frontier.{IsFrontier, IsNode}
use Rattle.gl_box.specs.Frontier.IsFrontier.{alone}
use Rattle.gl_box.specs.Turns.{boxes_from, left_open}
use Rattle.gl_box.specs.Walk.{AreFrontiers, ComesTo, cuts_of, open_cells}
use Rattle.gl_box.proofs.Frontiers.{frontiers_none}
use Rattle.gl_box.proofs.Nodes.{member_node}
use Rattle.gl_box.proofs.Turns.{IsThere, boxes_from-append, goes_to, is_there, left_open-append, turns_part}
use Rattle.gl_goal.specs.Goal.{Goal, whole_cell}
use Rattle.gl_goal.specs.Certificate.{IsClosedFor}
use Rattle.gl_goal.specs.Best.{IsNoLess, IsSound, total_of}
use Rattle.gl_goal.specs.declared.best.Best.{Best}
use Rattle.gl_goal.proofs.Totals.{less_self, less_through}
use Rattle.gl_plain.specs.declared.found.Found.{Found}
use Rattle.gl_plain.specs.declared.part.Part.{Part}
use Rattle.gl_plain.specs.declared.part.Part.TheVariants.{Open, Done}
use Rattle.gl_plain.specs.Found.{boxes_of}
use Rattle.gl_plain.specs.Parts.{GiveWay, GivesWay, IsDoneFor, IsFinished, IsMet, cell_of}
use Rattle.gl_plain.specs.Code.Steps.{IsSearched}
use Rattle.gl_plain.specs.Search.{IsNeeded}
use Rattle.gl_plain.proofs.Stack.{closed_longer}
use Rattle.gl_text.proofs.Lists.{AllZip-push}

abbrev pub Box : Type 0
Box = List (ℕ × ℕ) × Why

abbrev pub joined : List (List Box) → List Box
joined lists = flat_map (λ list. list) lists

-- one part more gives way
pub give_more : (parts : List Part) (boxes : List Box) (part : Part) (more : List Box) → GiveWay parts boxes → GivesWay part more → GiveWay (parts ++ part ∷ []) (boxes ++ more)
give_more parts boxes part more give gives = record {
  lists = give.lists ++ more ∷ [];
  each = AllZip-push GivesWay parts give.lists part more give.each gives;
  all = ap (λ (bs : List Box). bs ++ more) give.all ∙ ap (λ (bs : List Box). joined give.lists ++ bs) (sym (append-nil more))
      ∙ sym (flat_map-append (λ (list : List Box). list) give.lists (more ∷ []));
}

part_among : (parts : List Part) (i : ℕ) (part : Part) → i < length parts → part ≡ get_or parts i part → Contains (map cell_of parts) (cell_of part)
part_among parts i part below is =
    let cells = map cell_of parts in
    let inside : i < length cells = omega (arith, below, length-map parts cell_of) in
    subst (Contains cells) (get_or-map cell_of parts i part (cell_of part) below ∙ ap cell_of (sym is)) (Contains-get_or cells i (cell_of part) inside)

-- a box of the search of parts, closed for a total
pub record IsBox (rule : Goal) (parts : List Part) (total : Option ℕ) (box : Box) : Type 0 where
  pub closed : IsClosedFor rule total box.0 box.1
  pub met : IsMet rule (map cell_of parts) box.0

-- What is kept while parts of a whole give way, one after another: the boxes so far, and the cells
-- that are open for the others.
pub record HasGiven (rule : Goal) (parts : List Part) (i : ℕ) (known best : Option Best) (opened : List Cell) (turns : List (Option Why)) : Type 0 where
  pub sound : IsSound rule best
  pub no_less : IsNoLess (total_of known) (total_of best)
  pub gave : GiveWay (take i parts) (boxes_from (whole_cell rule.axes ∷ []) turns)
  pub boxes : All (IsBox rule parts (total_of best)) (boxes_from (whole_cell rule.axes ∷ []) turns)
  pub left : left_open (whole_cell rule.axes ∷ []) turns ≡ open_cells opened
  pub fronts : AreFrontiers (open_cells opened) (map cell_of (drop i parts))

pub given_none : (rule : Goal) (parts : List Part) (known best : Option Best) (opened : List Cell) (cell : Cell) (turns : List (Option Why)) → turns ≡ [] → opened ≡ cell ∷ []
    → spans_of cell ≡ whole_cell rule.axes → IsSound rule best → IsNoLess (total_of known) (total_of best) → IsFrontier (whole_cell rule.axes) (map cell_of parts)
    → HasGiven rule parts 0 known best opened turns
given_none rule parts known best opened cell turns none one is sound no_less frontier =
    let whole = whole_cell rule.axes in
    let cells : open_cells opened ≡ whole ∷ [] = ap open_cells one ∙ ap (λ (c : List (ℕ × ℕ)). c ∷ []) is in
    subst (HasGiven rule parts 0 known best opened) (sym none) (record {
      sound = sound;
      no_less = no_less;
      gave = record { lists = []; each = tt; all = refl };
      boxes = All-nil (IsBox rule parts (total_of best));
      left = sym cells;
      fronts = subst (λ (cs : List (List (ℕ × ℕ))). AreFrontiers cs (map cell_of parts)) (sym cells) (map cell_of parts, [], frontier, refl, sym (append-nil (map cell_of parts)));
    })

-- the next part is where the walk stands
behind : (parts : List Part) (i : ℕ) (part : Part) → i < length parts → part ≡ get_or parts i part → map cell_of (drop i parts) ≡ cell_of part ∷ map cell_of (drop (i + 1) parts)
behind parts i part below is =
    ap (map cell_of) (drop_more parts i part below ∙ ap (λ (p : Part). p ∷ drop (i + 1) parts) (sym is))

pub there_is : (rule : Goal) (parts : List Part) (i : ℕ) (part : Part) (known best : Option Best) (opened : List Cell) (turns : List (Option Why)) → i < length parts → part ≡ get_or parts i part
    → HasGiven rule parts i known best opened turns → AreFrontiers (open_cells opened) (cell_of part ∷ map cell_of (drop (i + 1) parts))
there_is rule parts i part known best opened turns below is given =
    subst (AreFrontiers (open_cells opened)) (behind parts i part below is) given.fronts

-- one part more, with its boxes
given_more : (rule : Goal) (parts : List Part) (i : ℕ) (part : Part) (known old new : Option Best) (opened left : List Cell) (turns after : List (Option Why)) (added : List Box) → i < length parts
    → part ≡ get_or parts i part → HasGiven rule parts i known old opened turns → IsSound rule new → IsNoLess (total_of old) (total_of new) → GivesWay part added
    → All (IsBox rule parts (total_of new)) added → boxes_from (whole_cell rule.axes ∷ []) after ≡ boxes_from (whole_cell rule.axes ∷ []) turns ++ added
    → left_open (whole_cell rule.axes ∷ []) after ≡ open_cells left → AreFrontiers (open_cells left) (map cell_of (drop (i + 1) parts)) → HasGiven rule parts (i + 1) known new left after
given_more rule parts i part known old new opened left turns after added below is given sound grows gives each are open_ fronts =
    let whole = whole_cell rule.axes in
    let before = boxes_from (whole ∷ []) turns in
    let longer : take i parts ++ part ∷ [] ≡ take (i + 1) parts = ap (λ (p : Part). take i parts ++ p ∷ []) is ∙ sym (take_more parts i part below) in
    let P = IsBox rule parts (total_of new) in
    let kept : All P before = λ k d inside.
    let box = given.boxes k d inside in
    record { closed = closed_longer rule (total_of old) (total_of new) _ _ grows box.closed; met = box.met } in
    record {
      sound = sound;
      no_less = less_through (total_of known) (total_of old) (total_of new) given.no_less grows;
      gave = subst (λ (ps : List Part). GiveWay ps (boxes_from (whole ∷ []) after)) longer
          (subst (GiveWay (take i parts ++ part ∷ [])) (sym are) (give_more (take i parts) before part added given.gave gives));
      boxes = subst (All P) (sym are) (All-append P before added kept each);
      left = open_;
      fronts = fronts;
    }

-- a part is a node of the whole
pub part_node : (rule : Goal) (parts : List Part) (i : ℕ) (part : Part) → i < length parts → part ≡ get_or parts i part → IsFrontier (whole_cell rule.axes) (map cell_of parts)
    → IsNode (whole_cell rule.axes) (cell_of part)
part_node rule parts i part below is frontier =
    let inside : i < length (map cell_of parts) = omega (arith, below, length-map parts cell_of) in
    subst (IsNode (whole_cell rule.axes)) (get_or-map cell_of parts i part [] below ∙ ap cell_of (sym is)) (member_node (whole_cell rule.axes) (map cell_of parts) i frontier inside)

-- the walk has come to a part
come_part : (rule : Goal) (parts : List Part) (i : ℕ) (known best : Option Best) (opened left : List Cell) (turns cuts : List (Option Why)) (count : ℕ) (cell : List (ℕ × ℕ))
    → HasGiven rule parts i known best opened turns → ComesTo (open_cells opened) cell count (open_cells left) → cuts ≡ turns ++ replicate count None
    → IsThere (whole_cell rule.axes ∷ []) turns cuts cell (open_cells left)
come_part rule parts i known best opened left turns cuts count cell given come are =
    is_there (whole_cell rule.axes ∷ []) turns cuts count cell (open_cells left) (ap (cuts_of count) given.left ∙ come.cuts) are

pub given_open : (rule : Goal) (parts : List Part) (i : ℕ) (part : Part) (cell : Cell) (known old new : Option Best) (opened left : List Cell) (turns cuts after : List (Option Why)) (count : ℕ)
    → i < length parts → part ≡ get_or parts i part → part ≡ Open cell → HasGiven rule parts i known old opened turns → ComesTo (open_cells opened) (cell_of part) count (open_cells left)
    → cuts ≡ turns ++ replicate count None → IsSound rule new → IsNoLess (total_of old) (total_of new) → IsSearched rule (spans_of cell) new cuts after → HasGiven rule parts (i + 1) known new left after
given_open rule parts i part cell known old new opened left turns cuts after count below is open_ given come are sound grows searched =
    let whole = whole_cell rule.axes in
    let root = spans_of cell in
    let here : cell_of part ≡ root = ap cell_of open_ in
    let there = come_part rule parts i known old opened left turns cuts count (cell_of part) given come are in
    let stands : left_open (whole ∷ []) cuts ≡ root ∷ open_cells left = there.left ∙ ap (λ (c : List (ℕ × ℕ)). c ∷ open_cells left) here in
    let among = subst (Contains (map cell_of parts)) here (part_among parts i part below is) in
    given_more rule parts i part known old new opened left turns after searched.boxes below is given sound grows
    (subst (λ (p : Part). GivesWay p searched.boxes) (sym open_) (λ k d inside. (searched.boxes_are k d inside).met.inside))
    (λ k d inside.
    let box = searched.boxes_are k d inside in
    record {
      closed = box.closed;
      met = elim box.met.met [ inl same ↦ inl (subst (Contains (map cell_of parts)) (sym same) among) | inr part_ ↦ inr part_ ];
    })
    (ap (boxes_from (whole ∷ [])) searched.added ∙ boxes_from-append (whole ∷ []) cuts searched.turns ∙ ap (λ (bs : List Box). bs ++ boxes_from (left_open (whole ∷ []) cuts) searched.turns) there.boxes
    ∙ ap (λ (bs : List Box). boxes_from (whole ∷ []) turns ++ bs) (ap (λ (cs : List (List (ℕ × ℕ))). boxes_from cs searched.turns) stands ∙ searched.closed (open_cells left)))
    (ap (left_open (whole ∷ [])) searched.added ∙ left_open-append (whole ∷ []) cuts searched.turns ∙ ap (λ (cs : List (List (ℕ × ℕ))). left_open cs searched.turns) stands ∙ searched.left (open_cells left))
    ((come.fronts (map cell_of (drop (i + 1) parts))).0 (there_is rule parts i part known old opened turns below is given))

pub given_done : (rule : Goal) (parts : List Part) (i : ℕ) (part : Part) (box : Closed) (known best : Option Best) (opened left : List Cell) (turns cuts after : List (Option Why)) (count : ℕ)
    → i < length parts → part ≡ get_or parts i part → part ≡ Done box → All (IsDoneFor rule (total_of known)) parts → HasGiven rule parts i known best opened turns
    → ComesTo (open_cells opened) (cell_of part) count (open_cells left) → cuts ≡ turns ++ replicate count None → after ≡ cuts ++ Some box.why ∷ []
    → HasGiven rule parts (i + 1) known best left after
given_done rule parts i part box known best opened left turns cuts after count below is done_ all given come are closes =
    let whole = whole_cell rule.axes in
    let here : cell_of part ≡ spans_of box.cell = ap cell_of done_ in
    let among = subst (Contains (map cell_of parts)) here (part_among parts i part below is) in
    let good : IsDoneFor rule (total_of known) (Done box) = subst (IsDoneFor rule (total_of known)) (sym is ∙ done_) (all i part below) in
    let there = come_part rule parts i known best opened left turns cuts count (cell_of part) given come are in
    let gone = goes_to (whole ∷ []) turns cuts after (cell_of part) box.why (open_cells left) there closes in
    let P = IsBox rule parts (total_of best) in
    given_more rule parts i part known best best opened left turns after (box_of box ∷ []) below is given given.sound (less_self (total_of best))
    (subst (λ (p : Part). GivesWay p (box_of box ∷ [])) (sym done_) refl)
    (All-cons P (box_of box) [] (record { closed = closed_longer rule (total_of known) (total_of best) _ _ given.no_less good; met = inl among }) (All-nil P))
    (gone.boxes ∙ ap (λ (c : List (ℕ × ℕ)). boxes_from (whole ∷ []) turns ++ (c, box.why) ∷ []) here)
    gone.left
    ((come.fronts (map cell_of (drop (i + 1) parts))).0 (there_is rule parts i part known best opened turns below is given))

pub given_all : (rule : Goal) (parts : List Part) (i : ℕ) (known : Option Best) (found : Found) (opened : List Cell) (turns : List (Option Why)) → length parts ≤ i
    → HasGiven rule parts i known found.best opened turns → boxes_of found ≡ boxes_from (whole_cell rule.axes ∷ []) turns → IsFinished rule parts known found
given_all rule parts i known found opened turns past given are =
    let whole = whole_cell rule.axes in
    let rest : drop i parts ≡ [] = drop_all i parts past in
    let none : open_cells opened ≡ [] = frontiers_none (open_cells opened) (subst (λ (ps : List Part). AreFrontiers (open_cells opened) (map cell_of ps)) rest given.fronts) in
    record {
      sound = given.sound;
      no_less = given.no_less;
      parted = subst (λ (bs : List Box). IsFrontier whole (map (λ box. box.0) bs)) (sym are) (turns_part whole turns (given.left ∙ none));
      gave = subst (GiveWay parts) (sym are) (subst (λ (ps : List Part). GiveWay ps (boxes_from (whole ∷ []) turns)) (take_all i parts past) given.gave);
      closed = subst (All (λ (box : Box). IsClosedFor rule (total_of found.best) box.0 box.1)) (sym are) (λ k d below. (given.boxes k d below).closed);
      met = subst (All (λ (box : Box). IsMet rule (map cell_of parts) box.0)) (sym are) (λ k d below. (given.boxes k d below).met);
    }

-- a search of the whole cell alone

pub whole_done : (rule : Goal) (total : Option ℕ) (cell : Cell) → All (IsDoneFor rule total) (Open cell ∷ [])
whole_done rule total cell = All-cons (IsDoneFor rule total) (Open cell) [] tt (All-nil (IsDoneFor rule total))

pub whole_frontier : (rule : Goal) (cell : Cell) → spans_of cell ≡ whole_cell rule.axes → IsFrontier (whole_cell rule.axes) (map cell_of (Open cell ∷ []))
whole_frontier rule cell is = alone (whole_cell rule.axes) (spans_of cell ∷ []) (ap (λ (c : List (ℕ × ℕ)). c ∷ []) is)

only_one : {X : Type 0} (x y : X) → Contains (x ∷ []) y → y ≡ x
only_one x y (zero, below, is) = sym is
only_one x y (suc k, below, is) = absurd (omega arith)

met_needed : (rule : Goal) (root cell : List (ℕ × ℕ)) → root ≡ whole_cell rule.axes → IsMet rule (root ∷ []) cell → IsNeeded rule cell
met_needed rule root cell is (inl among) = inl (only_one root cell among ∙ is)
met_needed rule root cell is (inr part) = inr part

pub whole_needed : (rule : Goal) (cell : Cell) (known : Option Best) (found : Found) → spans_of cell ≡ whole_cell rule.axes → IsFinished rule (Open cell ∷ []) known found
    → All (λ box. IsNeeded rule box.0) (boxes_of found)
whole_needed rule cell known found is end =
    λ k d below. met_needed rule (spans_of cell) (get_or (boxes_of found) k d).0 is (end.met k d below)
