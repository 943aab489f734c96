use Rattle.std.proofs.Common.{List, ℕ, rules, subst, sym}
use Rattle.std.specs.Prelude.{IfErr}
use Rattle.std.proofs.lemmas.Result.{IfErr-weaker}
use Rattle.gl_draft.specs.Code.{asked_by}
use Rattle.gl_draft.specs.Made.{IsFileIn, IsRefused, no_source}
use Rattle.gl_draft.proofs.command.see_listed.Goals as goal

pub returns-in_err-source-clause-refused : goal.returns-in_err-source-clause-refused
returns-in_err-source-clause-refused g c =
    let file : IsFileIn (g.D.Desk.told c.args.desk.now).folder c.args.words.file.now c.deref-2.result.now =
    subst (λ (bytes : List ℕ). IsFileIn (g.D.Desk.told c.args.desk.now).folder c.args.words.file.now bytes) (sym c.deref-2.ensures.value) c.in_ok-bytes.ensures.file in
    let no : IfErr c.source_of.result (IsRefused (g.D.Desk.told c.args.desk.now).folder (asked_by c.args.words)) =
    IfErr-weaker c.source_of.result _ _ (λ why fact. no_source c.deref-2.result.now file fact) c.source_of.ensures.refused in
    search rules
