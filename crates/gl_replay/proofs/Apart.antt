-- The open parts and the closed ones, apart.
use Rattle.std.proofs.Common.{◌≡◌, sym, refl, subst, ℕ, ◌+◌, List, [], ◌∷◌, ◌++◌, map, arith}
use Rattle.std.specs.Prelude.{All, IsPermutation, Option}
use Rattle.std.specs.List.{AllZip}
use Rattle.std.proofs.lemmas.List.Elements.{All-append, All-cons, All-head, All-nil, All-tail, All-weaker, Contains-append_right, Contains-get_or}
use Rattle.std.proofs.lemmas.List.Sorted.{IsPermutation-append_right, IsPermutation-refl, IsPermutation-trans}
use Rattle.gl_box.specs.declared.closed.Why.{Why}
use Rattle.gl_box.specs.Cell.{spans_of}
use Rattle.gl_box.specs.Closed.{box_of}
use Rattle.gl_box.specs.Frontier.{IsNode, mult}
use Rattle.gl_box.proofs.Nodes.{covers_node}
use Rattle.gl_box.proofs.Parts.{mult-append}
use Rattle.gl_goal.specs.Goal.{Goal}
use Rattle.gl_goal.specs.Certificate.{IsClosedFor}
use Rattle.gl_order.proofs.Flat.{turned}
use Rattle.gl_plain.specs.declared.part.Part.{Part}
use Rattle.gl_plain.specs.declared.part.Part.TheVariants.{Open, Done}
use Rattle.gl_plain.specs.Parts.{GivesWay, IsDoneFor, cell_of}
use Rattle.gl_plain.proofs.GivenWay.{joined}
use Rattle.gl_replay.specs.Code.Parts.{done_in, opened_in}
use Rattle.gl_replay.specs.Replayed.{LiesInOne}

abbrev Box : Type 0
Box = List (ℕ × ℕ) × Why

lies_further : (root : List (ℕ × ℕ)) (roots : List (List (ℕ × ℕ))) (box : Box) → LiesInOne roots box.0 → LiesInOne (root ∷ roots) box.0
lies_further root roots box lies = (lies.0, Contains-append_right (root ∷ []) roots lies.0 lies.1, lies.2)

-- The boxes are those of the closed parts, and others, which lie in the open cells.
pub record Apart (parts : List Part) (boxes : List Box) : Type 0 where
  pub finished : List Box
  pub boxes_are : IsPermutation (done_in parts ++ finished) boxes
  pub inside : All (λ box. LiesInOne (opened_in parts) box.0) finished

pub apart : (parts : List Part) (lists : List (List Box)) → AllZip GivesWay parts lists → Apart parts (joined lists)
apart [] [] each = record { finished = []; boxes_are = IsPermutation-refl []; inside = All-nil (λ (box : Box). LiesInOne [] box.0) }
apart [] (list ∷ lists) each = absurd each
apart (part ∷ parts) [] each = absurd each
apart (Open cell ∷ parts) (list ∷ lists) each =
    let rest = apart parts lists each.1 in
    let roots = spans_of cell ∷ opened_in parts in
    let P : Box → Type 0 = λ box. LiesInOne roots box.0 in
    let here : All P list = All-weaker (λ (box : Box). IsNode (spans_of cell) box.0) P
    (λ box node. (spans_of cell, Contains-get_or roots 0 (spans_of cell) (omega arith), covers_node (spans_of cell) box.0 node)) list each.0 in
    let there : All P rest.finished = All-weaker (λ (box : Box). LiesInOne (opened_in parts) box.0) P (lies_further (spans_of cell) (opened_in parts)) rest.finished rest.inside in
    record {
      finished = list ++ rest.finished;
      boxes_are = IsPermutation-trans (done_in parts ++ (list ++ rest.finished)) (list ++ (done_in parts ++ rest.finished)) (list ++ joined lists)
          (turned (done_in parts) list rest.finished) (IsPermutation-append_right list (done_in parts ++ rest.finished) (joined lists) rest.boxes_are);
      inside = All-append P list rest.finished here there;
    }
apart (Done closed ∷ parts) (list ∷ lists) each =
    let rest = apart parts lists each.1 in
    let first = box_of closed ∷ [] in
    record {
      finished = rest.finished;
      boxes_are = subst (λ (l : List Box). IsPermutation (box_of closed ∷ (done_in parts ++ rest.finished)) (l ++ joined lists)) (sym each.0)
          (IsPermutation-append_right first (done_in parts ++ rest.finished) (joined lists) rest.boxes_are);
      inside = rest.inside;
    }

-- what holds of the open and of the closed cells holds of all
pub All_parts : (P : List (ℕ × ℕ) → Type 0) (parts : List Part) → All P (opened_in parts) → All (λ box. P box.0) (done_in parts) → All (λ part. P (cell_of part)) parts
All_parts P [] opened done = All-nil (λ (part : Part). P (cell_of part))
All_parts P (Open cell ∷ parts) opened done =
    All-cons (λ (part : Part). P (cell_of part)) (Open cell) parts (All-head P (spans_of cell) (opened_in parts) opened) (All_parts P parts (All-tail P (spans_of cell) (opened_in parts) opened) done)
All_parts P (Done closed ∷ parts) opened done =
    let Q : Box → Type 0 = λ box. P box.0 in
    All-cons (λ (part : Part). P (cell_of part)) (Done closed) parts (All-head Q (box_of closed) (done_in parts) done) (All_parts P parts opened (All-tail Q (box_of closed) (done_in parts) done))

pub All_done : (rule : Goal) (total : Option ℕ) (parts : List Part) → All (λ box. IsClosedFor rule total box.0 box.1) (done_in parts) → All (IsDoneFor rule total) parts
All_done rule total [] done = All-nil (IsDoneFor rule total)
All_done rule total (Open cell ∷ parts) done = All-cons (IsDoneFor rule total) (Open cell) parts tt (All_done rule total parts done)
All_done rule total (Done closed ∷ parts) done =
    let Q : Box → Type 0 = λ box. IsClosedFor rule total box.0 box.1 in
    All-cons (IsDoneFor rule total) (Done closed) parts (All-head Q (box_of closed) (done_in parts) done) (All_done rule total parts (All-tail Q (box_of closed) (done_in parts) done))

-- they hold each tuple as often as the open and the closed cells together
pub mult_parts : (parts : List Part) (tuple : List ℕ) → mult (map cell_of parts) tuple ≡ mult (opened_in parts) tuple + mult (map (λ (box : Box). box.0) (done_in parts)) tuple
mult_parts [] tuple = refl
mult_parts (Open cell ∷ parts) tuple =
    omega (arith, mult-append (spans_of cell ∷ []) (map cell_of parts) tuple, mult-append (spans_of cell ∷ []) (opened_in parts) tuple, mult_parts parts tuple)
mult_parts (Done closed ∷ parts) tuple =
    omega (
      arith,
      mult-append (spans_of closed.cell ∷ []) (map cell_of parts) tuple,
      mult-append (spans_of closed.cell ∷ []) (map (λ (box : Box). box.0) (done_in parts)) tuple,
      mult_parts parts tuple,
    )
