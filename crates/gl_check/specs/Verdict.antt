-- What a checker says of a claim: that it is a certificate, or the first thing that is wrong.
use Rattle.std.specs.Prelude.{◌≡◌, ◌≢◌, ℕ, List, Option, IsSomeAnd}
use Rattle.gl_box.specs.declared.checking.Said.{Said}
use Rattle.gl_box.specs.declared.checking.Said.TheVariants.{NoneWrong, ExtraBox, StrayBox, UnclosedBox, Unfinished}
use Rattle.gl_box.specs.declared.closed.Why.{Why}
use Rattle.gl_box.specs.Passing as passing
use Rattle.gl_goal.specs.Goal.{Goal, IsLegal, chosen, value, whole_cell}
use Rattle.gl_goal.specs.Certificate.{IsCertificate, IsClaimed, IsClosedFor}
use Rattle.gl_check.specs.declared.verdict.Verdict.{Verdict}
use Rattle.gl_check.specs.declared.verdict.Verdict.TheVariants.{Yes, Fixes, Total, Extra, Place, Cell, Open}

-- a box is closed for the total by its reason
abbrev pub IsBoxClosed : Goal → Option ℕ → List (ℕ × ℕ) × Why → Type 0
IsBoxClosed goal total box = IsClosedFor goal total box.0 box.1

-- this is said of the boxes of a claim
abbrev pub AreSaid : Goal → Option ℕ → List (List (ℕ × ℕ) × Why) → Said → Type 0
AreSaid goal total boxes said =
    passing.AreSaid (whole_cell goal.axes) (IsBoxClosed goal total) boxes said

-- The first of these that holds. Fixes: there is a total, and no legal tuple has these fixes.
-- Total: they aren't worth the total. Then the first box that is wrong. Extra: the boxes before it
-- are already the whole. Place: with it they begin no partition of the whole. Cell: it isn't
-- closed. Open: the boxes end before they are the whole. Yes: nothing is wrong.
abbrev pub IsVerdict : Goal → Option ℕ → List ℕ → List (List (ℕ × ℕ) × Why) → Verdict → Type 0
IsVerdict goal total fixes boxes Yes = IsCertificate goal total fixes boxes
IsVerdict goal total fixes boxes Fixes =
    IsSomeAnd total (λ _. (tuple : List ℕ) → IsLegal goal tuple → fixes ≢ chosen goal.axes tuple)
IsVerdict goal total fixes boxes Total =
    IsSomeAnd total (λ greatest. (tuple : List ℕ) × IsLegal goal tuple
    × (fixes ≡ chosen goal.axes tuple) × (value goal tuple ≢ greatest))
IsVerdict goal total fixes boxes (Extra number) =
    IsClaimed goal total fixes × AreSaid goal total boxes (ExtraBox number)
IsVerdict goal total fixes boxes (Place number) =
    IsClaimed goal total fixes × AreSaid goal total boxes (StrayBox number)
IsVerdict goal total fixes boxes (Cell number) =
    IsClaimed goal total fixes × AreSaid goal total boxes (UnclosedBox number)
IsVerdict goal total fixes boxes Open =
    IsClaimed goal total fixes × AreSaid goal total boxes Unfinished

-- the verdict where this is said of the boxes of a claim that holds
abbrev pub verdict_said : Said → Verdict
verdict_said NoneWrong = Yes
verdict_said (ExtraBox number) = Extra number
verdict_said (StrayBox number) = Place number
verdict_said (UnclosedBox number) = Cell number
verdict_said Unfinished = Open
