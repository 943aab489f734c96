use Rattle.std.proofs.Common.{◌≡◌, rules, map}
use Rattle.std.specs.List.{list_any}
use Rattle.gl_task_file.proofs.ListLemmas.{any_map}
use Rattle.gl_look.specs.Keys.{is_open}
use Rattle.gl_look.specs.Code.Remarks.{is_open_remark}
use Rattle.gl_look.specs.declared.remarks.Remark.{Remark}
use Rattle.gl_look.proofs.remarks.Remarks.has_open.Goals as goal

pub returns : goal.returns
returns c =
    let any : c.any_open.result ≡ list_any is_open_remark c.self.inside.remarks.items = search rules in
    let mapped : list_any is_open (map (λ (r : Remark). r.told) c.self.inside.remarks.items) ≡ list_any is_open_remark c.self.inside.remarks.items =
    any_map is_open (λ (r : Remark). r.told) c.self.inside.remarks.items in
    cc (any, mapped, c.self.view_is)
