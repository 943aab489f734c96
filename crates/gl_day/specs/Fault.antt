-- How a fault of a proof is told.
use Rattle.std.specs.Prelude.{ℕ, List, codes}
use Rattle.gl_day.specs.declared.fault.Fault.{Fault}
use Rattle.gl_day.specs.declared.fault.Fault.TheVariants.{Missing, Name, Fixes, Total, Extra, Place, Cell, Open, Surplus}

-- its word
abbrev pub word_of : Fault → List ℕ
word_of Missing = codes "MISSING"
word_of Name = codes "NAME"
word_of Fixes = codes "FIXES"
word_of Total = codes "TOTAL"
word_of (Extra number) = codes "EXTRA"
word_of (Place number) = codes "PLACE"
word_of (Cell number) = codes "CELL"
word_of Open = codes "OPEN"
word_of Surplus = codes "SURPLUS"

-- the number of its box, 0 where it is about no single box
abbrev pub box_of_fault : Fault → ℕ
box_of_fault Missing = 0
box_of_fault Name = 0
box_of_fault Fixes = 0
box_of_fault Total = 0
box_of_fault (Extra number) = number
box_of_fault (Place number) = number
box_of_fault (Cell number) = number
box_of_fault Open = 0
box_of_fault Surplus = 0
