-- What `score` makes of the entrants of a day, and what it has begun where it is stopped.
use Rattle.std.specs.Prelude.{◌≡◌, ℕ, List, [], ◌++◌, map, take, Option, ◌⊎◌}
use Rattle.std.specs.List.{AllZip, flat_map}
use Rattle.gl_desk.specs.Desk.{FilesByName}
use Rattle.gl_proof.specs.Claim.{Statement, claim_text}
use Rattle.gl_proof.specs.Line.{HeadingLine, ended}
use Rattle.gl_proof.specs.Text.{proof_text}
use Rattle.gl_proof.specs.declared.version.Version.TheVariants.{Two}
use Rattle.gl_task.specs.declared.task.Entrant.{Entrant}
use Rattle.gl_day.specs.declared.flight.Flight.{Flight}
use Rattle.gl_day.specs.Expected.{Expected, Proves}
use Rattle.gl_day.specs.Flight.{IsFlight, StewardRules}
use Rattle.gl_day_files.specs.declared.day_files.DayFiles.{DayFiles}
use Rattle.gl_day_files.specs.DayFiles.{Sees}
use Rattle.gl_day_claims.specs.Asked.{AreAsked}

-- what `score` makes of an entrant: the claims that it proved, and the flight
pub record Scored : Type 0 where
  pub statements : List Statement
  pub flight : Flight

-- it is that of the file which the folder has, or hasn't, for the entrant
abbrev pub IsScored : Option FilesByName → DayFiles → List StewardRules → Entrant → Scored → Type 0
IsScored folder day stewards entrant scored =
    Sees folder entrant.file (λ seen.
    IsFlight day.task day.airspace stewards entrant seen scored.statements scored.flight)

-- the claims of some entrants, one entrant after the other, and their flights
abbrev pub statements_of_all : List Scored → List Statement
statements_of_all scored = flat_map (λ s. s.statements) scored

abbrev pub flights_of_all : List Scored → List Flight
flights_of_all scored = map (λ s. s.flight) scored

-- claims that are expected, of which the first so many are proved
pub record ArePartlyProved (expected : List Expected) (statements : List Statement) : Type 0 where
  pub proved : List Expected
  pub open_claims : List Expected
  pub parts : expected ≡ proved ++ open_claims
  pub each : AllZip Proves proved statements

-- the text of a proof as far as its claims go, without its end
abbrev pub text_so_far : List Statement → List ℕ
text_so_far statements = ended (HeadingLine Two) ++ flat_map claim_text statements

-- A first part of the text of a proof: its heading, and the first of the claims that are expected
-- of the first of the entrants, each proved; the end stands only behind all claims of all entrants.
pub record IsBegun (folder : Option FilesByName) (day : DayFiles) (text : List ℕ) : Type 0 where
  pub entrants : List Entrant
  pub others : List Entrant
  pub are : day.task.entrants ≡ entrants ++ others
  pub expected : List Expected
  pub asked : AreAsked folder day.task day.airspace entrants expected
  pub statements : List Statement
  pub partly : ArePartlyProved expected statements
  pub count : ℕ
  pub part : (text ≡ take count (text_so_far statements))
      ⊎ ((others ≡ []) × AllZip Proves expected statements
      × (text ≡ take count (proof_text Two statements)))
