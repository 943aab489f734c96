use Rattle.std.proofs.Common.{◌≡◌, ◌∙◌, subst, refl, ℕ, List, ◌+◌, ◌<◌, ◌++◌, take, append_assoc, rules, arith}
use Rattle.std.proofs.lemmas.Grind.{common_steps}
use Rattle.gl_desk.proofs.Pieces.{counted_more, first_part_grows, fits_more}
use Rattle.gl_desk.proofs.Reading.{OnlyReads-then, seen_longer}
use Rattle.gl_desk.proofs.pouring.pour.Goals as goal

pub pieces-preserved : goal.pieces-preserved
pieces-preserved g c =
    let inv = c.pieces.invariant in
    let part = take c.in_ok-read.read c.read_at.new.into in
    let same : take c.in_ok-read.read c.deref.result.now ≡ part = grind (arith, common_steps) in
    record {
      room = search rules;
      fits = fits_more c.pieces.count c.in_ok-read.read c.args.limit inv.fits c.if-read-limit.false;
      bytes = inv.bytes ++ part;
      counted = counted_more c.pieces.count c.in_ok-read.read inv.bytes c.read_at.new.into inv.counted c.in_ok-read.ensures.within;
      so_far = first_part_grows (g.D.Desk.told c.args.desk.now).folder c.args.name.now _ _ _ _ _ _ refl refl inv.so_far (rw inv.reads.folder at c.in_ok-read.ensures.bytes);
      taken = λ text stands. subst (g.T.Taker.stands_for c.take.new.self) (append_assoc text inv.bytes part)
          (subst (λ (taken : List ℕ). g.T.Taker.stands_for c.take.new.self ((text ++ inv.bytes) ++ taken)) same (c.in_ok-take.ensures.takes (text ++ inv.bytes) (inv.taken text stands)));
      tag = c.take.ensures.tag ∙ inv.tag;
      reads = OnlyReads-then _ _ _ _ inv.reads c.in_ok-read.ensures.reads;
    }

pub returns-then-read-limit-clause-too_large : goal.returns-then-read-limit-clause-too_large
returns-then-read-limit-clause-too_large g c = λ _.
    let inv = c.pieces.invariant in
    let more : c.args.limit < c.pieces.count + c.in_ok-read.read = omega arith in
    seen_longer c.args.limit (g.D.Desk.told c.args.desk.now).folder c.args.name.now inv.bytes _ _ _ more c.requires inv.so_far (rw inv.reads.folder at c.in_ok-read.ensures.bytes)
