-- The form of a team's name.
use Rattle.std.specs.Prelude.{ℕ, List, Bool}
use Rattle.gl_text.specs.Forms.{is_plain}

-- the name of a team: 1 to 40 bytes, none of them a control character
abbrev pub is_team : List ℕ → Bool
is_team text = is_plain text 40
