-- Lists of fixes to choose from, one for each axis of a goal.
use Rattle.std.specs.Prelude.{ℕ, ◌<◌, ◌≤◌, List, length, All}
use Rattle.std.specs.List.Sorted.{IsStrictlyIncreasing}
use Rattle.gl_igc.specs.declared.fix.Fix.{Fix}

-- each number names a fix
abbrev pub AreNamed : List Fix → List ℕ → Type 0
AreNamed fixes numbers = All (λ number. number < length fixes) numbers

-- 1 to 10 lists of numbers that name fixes, none of them empty, and the numbers of each rise
-- strictly
pub record AreLists (fixes : List Fix) (lists : List (List ℕ)) : Type 0 where
  pub some_list : 0 < length lists
  pub ten_lists : length lists ≤ 10
  pub some_number : All (λ list. 0 < length list) lists
  pub rising : All IsStrictlyIncreasing lists
  pub named : All (AreNamed fixes) lists
