-- What is said of a proof that isn't accepted is one line.
use Rattle.std.proofs.Common.{◌≡◌, ◌≢◌, refl, sym, ap, subst, true}
use Rattle.gl_day.specs.declared.fault.Checked.{Checked}
use Rattle.gl_day.specs.declared.fault.Checked.TheVariants as checked
use Rattle.gl_day.specs.declared.fault.Fault.{Fault}
use Rattle.gl_day.specs.declared.fault.Fault.TheVariants.{Missing, Name, Fixes, Total, Extra, Place, Cell, Open, Surplus}
use Rattle.gl_day.specs.declared.fault.NotProved.{NotProved}
use Rattle.gl_day.specs.Fault.{box_of_fault, word_of}
use Rattle.gl_text.proofs.Forms.{is_unbroken}
use Rattle.gl_answer.specs.declared.status.Status.TheVariants.{Done}
use Rattle.gl_answer.specs.Answer.{Answer}
use Rattle.gl_day_claims.specs.Check.{checked_answer, not_proved_line}
use Rattle.gl_answer.specs.Texts.{IsLine}
use Rattle.gl_answer.proofs.LineTexts.{wrong_is_line}

word_unbroken : (fault : Fault) → is_unbroken (word_of fault) ≡ true
word_unbroken Missing = refl
word_unbroken Name = refl
word_unbroken Fixes = refl
word_unbroken Total = refl
word_unbroken (Extra n) = refl
word_unbroken (Place n) = refl
word_unbroken (Cell n) = refl
word_unbroken Open = refl
word_unbroken Surplus = refl

not_proved_is_line : (wrong : NotProved) → IsLine (not_proved_line wrong)
not_proved_is_line wrong = wrong_is_line wrong.claim (word_of wrong.fault) (box_of_fault wrong.fault) (word_unbroken wrong.fault)

pub checked_line : (said : Checked) (answer : Answer) → answer ≡ checked_answer said → answer.status ≢ Done → IsLine answer.said
checked_line (checked.Accepted claims) answer same unless = absurd (unless (ap (λ (a : Answer). a.status) same))
checked_line (checked.Refused wrong) answer same unless = subst (λ (a : Answer). IsLine a.said) (sym same) (not_proved_is_line wrong)
