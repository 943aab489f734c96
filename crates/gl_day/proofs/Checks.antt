-- What is expected of all entrants is checked entrant by entrant, and a proof of it is accepted.
use Rattle.std.proofs.Common.{◌≡◌, ◌∙◌, ap, subst, refl, ℕ, suc, List, [], ◌∷◌, ◌++◌, length, Some, arith, append_assoc, inl, inr}
use Rattle.std.specs.Prelude.{slice_get}
use Rattle.std.specs.List.{AllZip}
use Rattle.gl_check.proofs.Judged.{certificate_yes}
use Rattle.gl_check.specs.declared.verdict.Verdict.{Verdict}
use Rattle.gl_check.specs.declared.verdict.Verdict.TheVariants as verdict
use Rattle.gl_proof.specs.Claim.{Statement}
use Rattle.gl_day.specs.declared.fault.Checked.{Checked}
use Rattle.gl_day.specs.declared.fault.Checked.TheVariants.{Accepted, Refused}
use Rattle.gl_day.specs.declared.fault.Fault.{Fault}
use Rattle.gl_day.specs.declared.fault.Fault.TheVariants.{Missing, Name, Fixes, Total, Extra, Place, Cell, Open, Surplus}
use Rattle.gl_day.specs.declared.fault.NotProved.{NotProved}
use Rattle.gl_day.specs.Checked.{AreProved, IsChecked, IsFault, IsFaultAt, IsNotProved, IsSaid}
use Rattle.gl_day.specs.Expected.{Expected, Proves}

-- the first claim that is wrong stays it where more claims are expected behind
pub not_proved_more : (expected more : List Expected) (statements : List Statement) (wrong : NotProved) → IsNotProved expected statements wrong → IsNotProved (expected ++ more) statements wrong
not_proved_more expected more statements wrong first = record {
  before = first.before;
  next = first.next;
  behind = first.behind ++ more;
  are = ap (λ (l : List Expected). l ++ more) first.are ∙ append_assoc first.before (first.next ∷ first.behind) more;
  proved = first.proved;
  number = first.number;
  fault = first.fault;
}

-- the checker says of what proves a claim nothing but yes
yes_alone : (expected : Expected) (statement : Statement) (said : Verdict) → Proves expected statement → IsSaid expected statement said → said ≡ verdict.Yes
yes_alone expected statement said proves is =
    certificate_yes expected.rule statement.total statement.fixes statement.boxes said is.1 proves.certificate

-- nothing is wrong with what proves a claim
right : (expected : Expected) (statement : Statement) (fault : Fault) → Proves expected statement → IsFault expected statement fault → ⊥
right expected statement Missing proves wrong = wrong
right expected statement Name proves wrong = wrong (proves.number, proves.kind)
right expected statement Fixes proves wrong = let e = yes_alone expected statement verdict.Fixes proves wrong in cc
right expected statement Total proves wrong = let e = yes_alone expected statement verdict.Total proves wrong in cc
right expected statement (Extra n) proves wrong = let e = yes_alone expected statement (verdict.Extra n) proves wrong in cc
right expected statement (Place n) proves wrong = let e = yes_alone expected statement (verdict.Place n) proves wrong in cc
right expected statement (Cell n) proves wrong = let e = yes_alone expected statement (verdict.Cell n) proves wrong in cc
right expected statement Open proves wrong = let e = yes_alone expected statement verdict.Open proves wrong in cc
right expected statement Surplus proves wrong = wrong

-- what stands at the place of a claim that is proved is right
right_at : (before behind : List Expected) (next : Expected) (statements : List Statement) (fault : Fault) → AllZip Proves (before ++ next ∷ behind) statements
    → IsFaultAt next (slice_get statements (length before)) fault → ⊥
right_at [] behind next [] fault each wrong = absurd each
right_at [] behind next (s ∷ statements) fault each wrong = right next s fault each.0 wrong
right_at (b ∷ before) behind next [] fault each wrong = absurd each
right_at (b ∷ before) behind next (s ∷ statements) fault each wrong = right_at before behind next statements fault each.1 wrong

-- no claim of a proof of all of them is wrong
pub none_wrong : (expected : List Expected) (statements : List Statement) (wrong : NotProved) → AllZip Proves expected statements → IsNotProved expected statements wrong → ⊥
none_wrong expected statements wrong each first =
    right_at first.before first.behind first.next statements wrong.fault
    (subst (λ (l : List Expected). AllZip Proves l statements) first.are each) first.fault

-- lists that go together are as long as each other
pub zip_long : (expected : List Expected) (statements : List Statement) → AllZip Proves expected statements → length expected ≡ length statements
zip_long [] [] each = refl
zip_long [] (s ∷ statements) each = absurd each
zip_long (e ∷ expected) [] each = absurd each
zip_long (e ∷ expected) (s ∷ statements) each = ap suc (zip_long expected statements each.1)

-- A proof that has exactly the claims that are expected, in their order and each proved, is
-- accepted, whatever else could be said of it.
pub proof_accepted : (expected : List Expected) (statements : List Statement) (said : Checked) → AllZip Proves expected statements → IsChecked expected statements said
    → said ≡ Accepted (length expected)
proof_accepted expected statements (Accepted claims) each is = ap Accepted is.1
proof_accepted expected statements (Refused wrong) each (inl first) = absurd (none_wrong expected statements wrong each first)
proof_accepted expected statements (Refused wrong) each (inr surplus) =
    let more = surplus.more in
    absurd (omega (arith, more, zip_long expected statements each))
