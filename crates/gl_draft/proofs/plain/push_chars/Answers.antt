use Rattle.std.proofs.Common.{◌++◌, ◌∙◌, ℕ, List, ap, flat_map, map-id, sym}
use Rattle.std.proofs.lemmas.Iterator.{YieldsList-from_chars}
use Rattle.std.proofs.lemmas.Iterator.Consumers.{YieldsList-end}
use Rattle.std.specs.String.{string_bytes}
use Rattle.gl_draft.specs.Heading.{plain}
use Rattle.gl_draft.proofs.plain.push_chars.Goals as goal

pub returns : goal.returns
returns c =
    let end = YieldsList-end (YieldsList-from_chars c.args.from.now c.utf8.from cc) c.chars.yielded _ c.chars.yielded_by _ _ c.in-None.is c.next.ensures.steps in
    c.chars.invariant ∙ ap (λ (cs : List ℕ). string_bytes c.args.text.now ++ flat_map plain cs) (sym (map-id c.chars.yielded) ∙ end.0)
