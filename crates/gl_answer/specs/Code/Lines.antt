-- What the parts of a line are in the code.
use Rattle.std.specs.Prelude.{ℕ, List, ◌++◌, codes}
use Rattle.std.specs.Fmt.{decimal}
use Rattle.gl_answer.specs.declared.line.Place as code
use Rattle.gl_answer.specs.declared.line.Place.TheVariants as place
use Rattle.gl_answer.specs.Refusals.{Place, Nowhere, AtLine, AtRecord, Parts, at_key, place_text}

abbrev pub place_seen : code.Place → Place
place_seen place.Nowhere = Nowhere
place_seen (place.AtLine line) = AtLine line
place_seen (place.AtRecord number) = AtRecord number
place_seen (place.AtKey key) = at_key key

-- the parts of a line but for the name of the file, each with a space behind it
abbrev pub parts_text : Parts → List ℕ
parts_text parts =
    parts.kind ++ codes " " ++ decimal parts.number ++ codes " " ++ place_text parts.place
    ++ codes " "
