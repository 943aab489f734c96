-- What the code has read at the front of a line, and what a line says.
use Rattle.std.proofs.Common.{Bor}
use Rattle.std.specs.Prelude.{ℕ, List}
use Rattle.gl_sphere.specs.PlaceText.{place_of}
use Rattle.gl_airspace.specs.Line.{AirLine, PassedOver, Begins, Names, Floor, Ceiling, Centre, Corner, Circles}
use Rattle.gl_airspace.specs.declared.air_line.AirLine as code
use Rattle.gl_airspace.specs.declared.air_line.AirLine.TheVariants as line

-- a value and the text that follows it
abbrev pub seen : {X : Type 0} → X × Bor (List ℕ) → X × List ℕ
seen front = (front.0, front.1.now)

abbrev pub said : code.AirLine → AirLine
said line.PassedOver = PassedOver
said line.Begins = Begins
said line.Names = Names
said (line.Floor metres) = Floor metres
said (line.Ceiling metres) = Ceiling metres
said (line.Centre place) = Centre (place_of place)
said (line.Corner place) = Corner (place_of place)
said (line.Circles radius) = Circles radius
