use Rattle.std.proofs.Common.{◌≡◌, ◌∙◌, sym, ap, subst, true, None}
use Rattle.std.specs.Prelude.{IsUtf8}
use Rattle.std.proofs.lemmas.Bool.{false≢true}
use Rattle.std.proofs.lemmas.Str.{IsUtf8-from_ascii}
use Rattle.gl_text.specs.Forms.{is_number}
use Rattle.gl_series.specs.Forms.{is_team}
use Rattle.gl_series.proofs.Members.{member_parted, number_ascii}
use Rattle.gl_series.proofs.list.number_and_team.Goals as goal
use Rattle.gl_series.proofs.list.number_and_team.Goals.{in_default-via-in-None-1, in_default-via-in-Some+in-None-1, in_default-via-in-Some+in-Some-text_in+in-None-1}
use Rattle.gl_series.proofs.list.number_and_team.Goals.{in_default-via-in-Some+in-Some-text_in+in-Some-text_in-2+else-is_number}
use Rattle.gl_series.proofs.list.number_and_team.Goals.{in_default-via-in-Some+in-Some-text_in+in-Some-text_in-2+then-is_number+else-is_team}

pub returns-2 : goal.returns-2
returns-2 c = λ number team is same.
    let text = c.args.text.now in
    elim c.in_default.branch [
      | in_default-via-in-None-1 w ↦
          let none : c.part_at_space.result ≡ None = cc in
          let no = rw none at c.part_at_space.ensures in
          no number team same
      | in_default-via-in-Some+in-None-1 w ↦
          let parts = member_parted text w.in-Some.number.now w.in-Some.team.now number team is.0 w.in-Some.ensures same in
          let none : w.text_in.result ≡ None = cc in
          let no = rw none at w.text_in.ensures in
          no (subst IsUtf8 (sym parts.0) (IsUtf8-from_ascii number (number_ascii number is.0)))
      | in_default-via-in-Some+in-Some-text_in+in-None-1 w ↦
          let parts = member_parted text w.in-Some.number.now w.in-Some.team.now number team is.0 w.in-Some.ensures same in
          let none : w.text_in-2.result ≡ None = cc in
          let no = rw none at w.text_in-2.ensures in
          no (subst IsUtf8 (sym parts.1) is.1)
      | in_default-via-in-Some+in-Some-text_in+in-Some-text_in-2+else-is_number w ↦
          let parts = member_parted text w.in-Some.number.now w.in-Some.team.now number team is.0 w.in-Some.ensures same in
          let written : is_number w.in-Some-text_in.number.now ≡ true = ap is_number (w.in-Some-text_in.ensures.0 ∙ parts.0) ∙ is.0 in
          absurd (false≢true (sym w.if-is_number.false ∙ w.is_number.ensures ∙ written))
      | in_default-via-in-Some+in-Some-text_in+in-Some-text_in-2+then-is_number+else-is_team w ↦
          let parts = member_parted text w.in-Some.number.now w.in-Some.team.now number team is.0 w.in-Some.ensures same in
          let written : is_team w.in-Some-text_in-2.team.now ≡ true = ap is_team (w.in-Some-text_in-2.ensures.0 ∙ parts.1) ∙ is.2 in
          absurd (false≢true (sym w.if-is_team.false ∙ w.is_team.ensures ∙ written))
    ]
