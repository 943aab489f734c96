use Rattle.std.proofs.Common.{◌≡◌, refl, rules, sym, ◌∙◌}
use Rattle.std.proofs.lemmas.Iterator.Adapters.{YieldsList-from_vec}
use Rattle.std.proofs.lemmas.Iterator.Consumers.{YieldsList-end}
use Rattle.std.proofs.lemmas.List.Folds.{map_fixed}
use Rattle.gl_desk.proofs.GivenLemmas.{lookup-given_files, stored_more}
use Rattle.gl_desk.proofs.mem.store.Goals as goal

pub returns : goal.returns
returns c =
    let ends = (YieldsList-end (YieldsList-from_vec c.args.files.items c.into_iter-name-iterator.ensures.into_iter_gives.0 (search rules)) c.loop-name.yielded c.loop-name.name-iterator
    c.loop-name.yielded_by c.next.result c.next.new.self c.in-None.is c.next.ensures.steps).0 in
    let all : c.loop-name.yielded ≡ c.args.files.items = sym (map_fixed (λ file. file) c.loop-name.yielded (λ _ _ _. refl)) ∙ ends in
    λ name. (rw all at c.loop-name.invariant name) ∙ lookup-given_files c.args.files.items name c.requires

pub loop-name-preserved-in_ok-insert : goal.loop-name-preserved-in_ok-insert
loop-name-preserved-in_ok-insert c =
    stored_more c.loop-name.made c.insert.new.self c.loop-name.yielded (c.in-Some.name, c.in-Some.bytes) c.loop-name.invariant (rw c.given.ensures at c.in_ok-insert.ensures.updates)

pub loop-name-preserved : goal.loop-name-preserved
loop-name-preserved c =
    stored_more c.loop-name.made c.insert.new.self c.loop-name.yielded (c.in-Some.name, c.in-Some.bytes) c.loop-name.invariant (rw c.given.ensures at c.in_ok-insert.ensures.updates)
