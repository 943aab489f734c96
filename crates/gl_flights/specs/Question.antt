-- What each question says of a recording.
use Rattle.std.specs.Prelude.{ℕ, List}
use Rattle.gl_igc.specs.declared.recording.Recording.{Recording}
use Rattle.gl_flights.specs.declared.of_file.Question.{Question}
use Rattle.gl_flights.specs.declared.of_file.Question.TheVariants.{Free, Point, Triangle}
use Rattle.gl_flights.specs.Free.{IsFreeText}
use Rattle.gl_flights.specs.Near.{IsNearestFix}
use Rattle.gl_flights.specs.Triangle.{IsTriangleText}

abbrev pub IsTextOf : Question → Recording → List ℕ → Type 0
IsTextOf Free = IsFreeText
IsTextOf Triangle = IsTriangleText
IsTextOf (Point grid) = λ recording said. IsNearestFix recording.fixes grid said
