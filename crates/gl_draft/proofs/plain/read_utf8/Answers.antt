use Rattle.std.proofs.Common.{rules, sym}
use Rattle.std.specs.Str.{IsUtf8}
use Rattle.std.proofs.lemmas.Str.{is_utf8-from_IsUtf8}
use Rattle.gl_draft.proofs.Utf8.{not_utf8}
use Rattle.gl_draft.proofs.plain.read_utf8.Goals as goal

pub returns-in-Ok-clause-is : goal.returns-in-Ok-clause-is
returns-in-Ok-clause-is c =
    let is : IsUtf8 c.args.bytes.now = search rules in
    sym (is_utf8-from_IsUtf8 _ is)

pub returns-in-Err-clause-is : goal.returns-in-Err-clause-is
returns-in-Err-clause-is c =
    let no : IsUtf8 c.args.bytes.now → ⊥ = search rules in
    sym (not_utf8 _ no)
