use Rattle.std.proofs.Common.{◌≡◌, rules}
use Rattle.gl_desk.proofs.StoredLemmas.{other_files_stay}
use Rattle.gl_desk.proofs.mem.add.Goals as goal

pub returns-in_err-append-in-Some-clause-others : goal.returns-in_err-append-in-Some-clause-others
returns-in_err-append-in-Some-clause-others c =
    other_files_stay c.args.files.now (c.get_mut.follows.lender c.append.new.self) c.args.name.now _ ((c.get_mut.follows.holds c.append.new.self).3 (search rules))

pub returns-in_ok-append-in-Some-clause-others : goal.returns-in_ok-append-in-Some-clause-others
returns-in_ok-append-in-Some-clause-others c =
    other_files_stay c.args.files.now (c.get_mut.follows.lender c.append.new.self) c.args.name.now _ ((c.get_mut.follows.holds c.append.new.self).3 (search rules))

pub returns-in_ok-insert-in-None-clause-others : goal.returns-in_ok-insert-in-None-clause-others
returns-in_ok-insert-in-None-clause-others c =
    let name_is : c.in_ok-name-in-None.name ≡ c.args.name.now = search rules in
    let before : c.get_mut.follows.lender-at-none ≡ c.args.files.now = search rules in
    other_files_stay c.args.files.now c.insert.new.self c.args.name.now _ (rw (name_is, before) at c.in_ok-insert-in-None.ensures.updates)
