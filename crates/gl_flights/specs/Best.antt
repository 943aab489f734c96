-- The text of the best of a goal.
use Rattle.std.specs.Prelude.{◌≡◌, ℕ, List, Some, codes}
use Rattle.gl_goal.specs.Goal.{Goal, IsOptimum, IsReached, chosen}
use Rattle.gl_answer.specs.Texts.{distance_text}

-- After a word, the text has the greatest total of a goal, and legal fixes that reach it.
pub record IsBestText (goal : Goal) (word said : List ℕ) : Type 0 where
  pub total : ℕ
  pub tuple : List ℕ
  pub reached : IsReached goal total tuple
  pub greatest : IsOptimum goal (Some total)
  pub text : said ≡ distance_text word total (codes "FIXES") (chosen goal.axes tuple)
