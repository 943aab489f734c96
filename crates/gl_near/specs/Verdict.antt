-- What a checker says of a claim: that it is a certificate, or the first thing that is wrong.
use Rattle.std.specs.Prelude.{◌≢◌, ℕ, List, map, Option, IsSomeAnd}
use Rattle.gl_box.specs.declared.checking.Said.{Said}
use Rattle.gl_box.specs.declared.checking.Said.TheVariants.{NoneWrong, ExtraBox, StrayBox, UnclosedBox, Unfinished}
use Rattle.gl_box.specs.Passing as passing
use Rattle.gl_near.specs.declared.claim.NearClaim.{NearClaim}
use Rattle.gl_near.specs.declared.found.NearBest.{NearBest}
use Rattle.gl_near.specs.declared.found.NearWhy.{NearWhy}
use Rattle.gl_near.specs.declared.answer.NearVerdict.{NearVerdict}
use Rattle.gl_near.specs.declared.answer.NearVerdict.TheVariants.{Yes, Pair, Total, Extra, Place, Cell, Open}
use Rattle.gl_near.specs.Pairing.{Pairing, Fits, IsReached, whole_cell}
use Rattle.gl_near.specs.Certificate.{IsCertificate, IsClosedFor, IsSound, box_of, total_of}
use Rattle.gl_near.specs.Line.{IsTextOf}

-- a box is closed for the total by its reason
abbrev pub IsBoxClosed : Pairing → Option NearBest → List (ℕ × ℕ) × NearWhy → Type 0
IsBoxClosed pairing best box = IsClosedFor pairing (total_of best) box.0 box.1

-- this is said of the boxes of a claim
abbrev pub AreSaid : Pairing → Option NearBest → List (List (ℕ × ℕ) × NearWhy) → Said → Type 0
AreSaid pairing best boxes said =
    passing.AreSaid (whole_cell pairing) (IsBoxClosed pairing best) boxes said

-- The first of these that holds. Pair: there is a total, and the pair isn't there or doesn't fit.
-- Total: the pair has another distance. Then the first box that is wrong. Extra: the boxes before
-- it are already the whole. Place: with it they begin no partition of the whole. Cell: it isn't
-- closed. Open: the boxes end before they are the whole. Yes: nothing is wrong.
abbrev pub IsVerdict : Pairing → Option NearBest → List (List (ℕ × ℕ) × NearWhy) → NearVerdict
    → Type 0
IsVerdict pairing best boxes Yes = IsCertificate pairing best boxes
IsVerdict pairing best boxes Pair =
    IsSomeAnd best (λ claimed. ¬ Fits pairing claimed.first claimed.second)
IsVerdict pairing best boxes Total =
    IsSomeAnd best (λ claimed. (distance : ℕ)
    × IsReached pairing distance claimed.first claimed.second × (distance ≢ claimed.total))
IsVerdict pairing best boxes (Extra number) =
    IsSound pairing best × AreSaid pairing best boxes (ExtraBox number)
IsVerdict pairing best boxes (Place number) =
    IsSound pairing best × AreSaid pairing best boxes (StrayBox number)
IsVerdict pairing best boxes (Cell number) =
    IsSound pairing best × AreSaid pairing best boxes (UnclosedBox number)
IsVerdict pairing best boxes Open = IsSound pairing best × AreSaid pairing best boxes Unfinished

-- the verdict where this is said of the boxes of a claim whose pair has its total
abbrev pub verdict_said : Said → NearVerdict
verdict_said NoneWrong = Yes
verdict_said (ExtraBox number) = Extra number
verdict_said (StrayBox number) = Place number
verdict_said (UnclosedBox number) = Cell number
verdict_said Unfinished = Open

-- the boxes of a claim certify its total and its pair
abbrev pub IsCertifiedClaim : Pairing → NearClaim → Type 0
IsCertifiedClaim pairing claim =
    IsCertificate pairing claim.best (map box_of claim.closed.items)

-- this is the first thing that is to be said of the claim
abbrev pub IsCheckedAs : Pairing → NearClaim → NearVerdict → Type 0
IsCheckedAs pairing claim verdict =
    IsVerdict pairing claim.best (map box_of claim.closed.items) verdict

-- this is the first thing that is to be said of the claim that a text is of
abbrev pub IsTextChecked : Pairing → List ℕ → NearVerdict → Type 0
IsTextChecked pairing text verdict =
    (best : Option NearBest) × (boxes : List (List (ℕ × ℕ) × NearWhy))
    × IsTextOf text best boxes × IsVerdict pairing best boxes verdict
