use Rattle.std.proofs.Common.{◌≡◌, ℕ, ◌<◌, ◌++◌, List, map, take}
use Rattle.std.specs.List.{HoldsAt}
use Rattle.gl_near.specs.declared.found.NearWhy.{NearWhy}
use Rattle.gl_near.specs.Certificate.{box_of}
use Rattle.gl_near.specs.Line.{AreTwoSpans, box_line, spelled}
use Rattle.gl_near.proofs.write.push_boxes.Given as goal

-- the boxes so far are written, and can be read
abbrev pub invariant-loop-closed : goal.invariant-loop-closed
invariant-loop-closed l = record {
  written : l.out.items ≡ l.fn.out.items ++ spelled (map box_line (take l.closed-index (map box_of l.cells)));
  each : (place : ℕ) → place < l.closed-index → HoldsAt (λ (box : List (ℕ × ℕ) × NearWhy). AreTwoSpans box.0) (map box_of l.cells) place;
}
