use Rattle.std.specs.Prelude.{ℕ, Option, None, Some}
use Rattle.gl_igc.specs.declared.error.IgcError.{IgcError}
use Rattle.gl_igc.specs.declared.error.IgcError.TheVariants.{NotIgc, NoDate, WrongDay, TooManyFixes, NoFix, Memory}

-- the number of a refusal; want of memory is no refusal and has none
abbrev pub refusal_number : IgcError → Option ℕ
refusal_number NotIgc = Some 1
refusal_number NoDate = Some 2
refusal_number (WrongDay day) = Some 3
refusal_number (TooManyFixes line) = Some 4
refusal_number NoFix = Some 5
refusal_number Memory = None
