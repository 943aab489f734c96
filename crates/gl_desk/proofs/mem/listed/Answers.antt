use Rattle.std.proofs.Common.{◌≡◌, rules, subst, sym, ◌∙◌, List, ℕ, Some}
use Rattle.std.specs.Prelude.{map}
use Rattle.std.specs.BTreeMap.{keys}
use Rattle.std.specs.Map.Iter.{deref}
use Rattle.std.proofs.lemmas.Map.Iter.{iter_end}
use Rattle.gl_desk.specs.Desk.{ListsNames}
use Rattle.gl_desk.specs.MemDesk.{files_in}
use Rattle.gl_desk.proofs.StoredLemmas.{lists_names}
use Rattle.gl_desk.proofs.mem.listed.Goals as goal

pub returns : goal.returns
returns c =
    let all : map deref c.loop-name.yielded ≡ keys c.args.files.now = search (rules, iter_end) in
    subst (λ (names : List (List ℕ)). ListsNames (Some (files_in c.args.files.now)) names) (sym (c.loop-name.invariant ∙ all))
    (lists_names c.args.files.now c.keys-name-items.ensures.ordered)
