-- The volumes of a text, and which error tells why it is refused.
use Rattle.std.specs.Prelude.{◌≡◌, List, [], ◌∷◌, Option, None, Some, min, ⊤}
use Rattle.gl_airspace.specs.declared.volume.Volume.{Volume}
use Rattle.gl_airspace.specs.declared.error.AirError as code_error
use Rattle.gl_airspace.specs.declared.error.AirError.TheVariants as error
use Rattle.gl_airspace.specs.Volumes.{Reading, Refusal, Line, TooMany}
use Rattle.gl_airspace.specs.Draft.{IsVolume}

-- volumes with these lines
abbrev pub AreVolumes : List (List Reading) → List Volume → Type 0
AreVolumes [] [] = Unit {0}
AreVolumes [] (volume ∷ volumes) = ⊥
AreVolumes (lines ∷ rest) [] = ⊥
AreVolumes (lines ∷ rest) (volume ∷ volumes) = IsVolume lines volume × AreVolumes rest volumes

-- an error tells why a text is refused; want of memory tells nothing
abbrev pub Tells : Option Refusal → code_error.AirError → Type 0
Tells refusal error.Memory = ⊤
Tells None (error.Line n) = ⊥
Tells None (error.TooMany n) = ⊥
Tells (Some (Line k)) (error.Line n) = n ≡ min k 4_294_967_295
Tells (Some (Line k)) (error.TooMany n) = ⊥
Tells (Some (TooMany k)) (error.Line n) = ⊥
Tells (Some (TooMany k)) (error.TooMany n) = n ≡ min k 4_294_967_295
