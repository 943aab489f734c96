-- What is told of the points that the rules of the championship charge for a flight.
use Rattle.std.specs.Prelude.{◌≡◌, ◌≢◌, ℕ, ◌+◌, ◌≤◌, List, [], ◌∷◌, slice_range}
use Rattle.std.specs.List.{flat_map}
use Rattle.gl_day.specs.Flight.{StewardRules, owed_for}
use Rattle.gl_igc.specs.declared.fix.Fix.{Fix}
use Rattle.gl_judge.specs.Greatest.{IsLeast}
use Rattle.gl_judge.specs.declared.outcome.Judged.{Judged}
use Rattle.gl_judge.specs.declared.outcome.Judged.TheVariants as outcome
use Rattle.gl_judge.specs.declared.outcome.Window.{Window}
use Rattle.gl_task.specs.declared.task.LocalRules.{LocalRules}
use Rattle.gl_why.specs.Crossings.{IsSpot}
use Rattle.gl_why.specs.Facts.{AreFound}
use Rattle.gl_why.specs.Stewards.{ceiling_rules, engine_rules}
use Rattle.gl_why.specs.declared.fact.Fact as code
use Rattle.gl_why.specs.declared.fact.Fact.TheVariants as fact
use Rattle.gl_why.specs.declared.fact.Fine.{Fine}
use Rattle.gl_why.specs.declared.fact.Rule as code_rule
use Rattle.gl_why.specs.declared.fact.Rule.TheVariants as rule

-- the steward that keeps a rule
abbrev pub rules_of : code_rule.Rule → StewardRules
rules_of rule.Ceiling = ceiling_rules
rules_of rule.Engine = engine_rules

-- the rules, as the stewards of a day stand
abbrev pub all_rules : List code_rule.Rule
all_rules = rule.Ceiling ∷ rule.Engine ∷ []

-- what a rule owes for the fixes from the first of a window to that of a number
abbrev pub owed_after : LocalRules → List Fix → Window → code_rule.Rule → ℕ → ℕ
owed_after rules fixes window which number =
    owed_for rules (slice_range fixes window.first (number + 1)) (rules_of which)

-- what a rule owes in the end, for all fixes of a window
abbrev pub owed_in_end : LocalRules → List Fix → Window → code_rule.Rule → ℕ
owed_in_end rules fixes window which = owed_after rules fixes window which window.last

-- after the fix of a number, which is in the window, a rule owes what it owes in the end
pub record OwesAll (rules : LocalRules) (fixes : List Fix) (window : Window)
    (which : code_rule.Rule) (number : ℕ) : Type 0 where
  pub from : window.first ≤ number
  pub upto : number ≤ window.last
  pub owes : owed_after rules fixes window which number ≡ owed_in_end rules fixes window which

-- the points that a rule owes in the end, and the first fix after which it owes them
pub record IsFine (rules : LocalRules) (fixes : List Fix) (window : Window)
    (which : code_rule.Rule) (fine : Fine) : Type 0 where
  pub rule_is : fine.rule ≡ which
  pub points_are : fine.points ≡ owed_in_end rules fixes window which
  pub spot : IsSpot fixes fine.at
  pub first : IsLeast (OwesAll rules fixes window which) fine.at.number

-- that is told of a rule that owes some; of one that owes nothing there is nothing to tell
pub data IsFineTold (rules : LocalRules) (fixes : List Fix) (window : Window)
    (which : code_rule.Rule) (facts : List code.Fact) : Type 0 where
  nothing : owed_in_end rules fixes window which ≡ 0 → facts ≡ []
      → IsFineTold rules fixes window which facts
  owing : (fine : Fine) → fine.points ≢ 0 → IsFine rules fixes window which fine
      → facts ≡ fact.Fined fine ∷ [] → IsFineTold rules fixes window which facts

-- of each rule, for the window of a flight that was judged; without a window no rule owes any
abbrev pub AreFinesTold : LocalRules → List Fix → Judged → List code.Fact → Type 0
AreFinesTold rules fixes (outcome.Finished window seconds) facts =
    AreFound (IsFineTold rules fixes window) all_rules facts
AreFinesTold rules fixes (outcome.Outlanded window zones) facts =
    AreFound (IsFineTold rules fixes window) all_rules facts
AreFinesTold rules fixes outcome.NoStart facts = facts ≡ []

-- the points that are told
abbrev pub points_in : code.Fact → List ℕ
points_in (fact.Fined fine) = fine.points ∷ []
points_in other = []

abbrev pub points_told : List code.Fact → List ℕ
points_told facts = flat_map points_in facts
