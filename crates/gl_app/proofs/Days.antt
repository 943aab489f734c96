-- Words that name several workers are those of a command of a day.
use Rattle.std.proofs.Common.{◌≡◌, ◌⊎◌, inl, inr, refl, ℕ, List, Option, None, Some}
use Rattle.std.specs.Prelude.{IsSome, option_map}
use Rattle.std.specs.Option.{option_or}
use Rattle.gl_words.specs.DayWords.{DayCommand, DayNames, Score, day_command_of, named_workers, score_form, workers_of}

by_form : (form : Option DayNames) (other : Option DayCommand) (words : List (List ℕ)) → (named_workers form words ≡ 1) ⊎ IsSome (option_or (option_map Score form) other)
by_form None other words = inl refl
by_form (Some names) other words = inr refl

pub one_or_day : (words : List (List ℕ)) → (workers_of words ≡ 1) ⊎ IsSome (day_command_of words)
one_or_day words = by_form (score_form words) _ words
