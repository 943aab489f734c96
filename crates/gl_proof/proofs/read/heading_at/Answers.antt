use Rattle.std.proofs.Common.{◌≡◌, ℕ, List, ◌++◌}
use Rattle.gl_proof.specs.Code.Fronts.{IsHeadingAt}
use Rattle.gl_proof.specs.declared.version.Version.{Version}
use Rattle.gl_proof.specs.declared.version.Version.TheVariants.{One, Two}
use Rattle.gl_proof.specs.Line.{HeadingLine, ended}
use Rattle.gl_proof.proofs.read.heading_at.Goals as goal

-- no heading stands there where neither does
none_at : (text : List ℕ) → ((rest : List ℕ) → text ≡ ended (HeadingLine One) ++ rest → ⊥) → ((rest : List ℕ) → text ≡ ended (HeadingLine Two) ++ rest → ⊥) → (version : Version) (rest : List ℕ)
    → IsHeadingAt text version rest → ⊥
none_at text first second One rest at = first rest at
none_at text first second Two rest at = second rest at

pub returns : goal.returns
returns c = none_at c.args.text.now c.in_default.ensures c.in_default-behind.ensures
