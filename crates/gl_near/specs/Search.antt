-- What a search has found: its turns, and the boxes of its walk.
use Rattle.std.specs.Prelude.{ℕ, List, Option, None, Some}
use Rattle.gl_box.specs.Along.{boxes_along}
use Rattle.gl_near.specs.declared.found.NearFound.{NearFound}
use Rattle.gl_near.specs.declared.found.NearWhy.{NearWhy}
use Rattle.gl_near.specs.declared.found.NearWhy.TheVariants.{Time, Near}
use Rattle.gl_near.specs.declared.turn.NearTurn.{NearTurn}
use Rattle.gl_near.specs.declared.turn.NearTurn.TheVariants.{Cut, Time as TurnTime, Near as TurnNear}
use Rattle.gl_near.specs.Pairing.{Pairing}
use Rattle.gl_near.specs.Certificate.{IsCertificate}

-- the reason by which a turn closes a cell, none where it cuts one
abbrev pub near_reason_of : NearTurn → Option NearWhy
near_reason_of Cut = None
near_reason_of TurnTime = Some Time
near_reason_of TurnNear = Some Near

-- its boxes, each with its reason
abbrev pub boxes_of : NearFound → List (List (ℕ × ℕ) × NearWhy)
boxes_of found = boxes_along near_reason_of found.closed

-- what was found is a certificate
abbrev pub IsCertified : Pairing → NearFound → Type 0
IsCertified pairing found = IsCertificate pairing found.best (boxes_of found)
