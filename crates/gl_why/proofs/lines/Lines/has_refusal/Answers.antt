use Rattle.std.proofs.Common.{◌≡◌, rules, map}
use Rattle.std.specs.List.{list_any}
use Rattle.gl_task_file.proofs.ListLemmas.{any_map}
use Rattle.gl_why.specs.Code.Lines.{is_refused_line}
use Rattle.gl_why.specs.Facts.{is_refusal}
use Rattle.gl_why.specs.declared.lines.Line.{Line}
use Rattle.gl_why.proofs.lines.Lines.has_refusal.Goals as goal

pub returns : goal.returns
returns c =
    let any : c.any_refused.result ≡ list_any is_refused_line c.self.inside.lines.items = search rules in
    let mapped : list_any is_refusal (map (λ (l : Line). l.told) c.self.inside.lines.items) ≡ list_any is_refused_line c.self.inside.lines.items =
    any_map is_refusal (λ (l : Line). l.told) c.self.inside.lines.items in
    cc (any, mapped, c.self.view_is)
