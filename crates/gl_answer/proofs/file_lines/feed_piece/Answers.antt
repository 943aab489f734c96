use Rattle.std.proofs.Common.{◌≡◌, ℕ, ◌+◌, ◌<◌, List, ◌++◌, length, take, refl, subst, arith}
use Rattle.std.proofs.lemmas.Grind.{common_steps}
use Rattle.gl_desk.proofs.Pieces.{counted_more, first_part_grows}
use Rattle.gl_desk.proofs.Reading.{seen_longer}
use Rattle.gl_proof.specs.LineReading.{IsRead}
use Rattle.gl_answer.proofs.file_lines.feed_piece.Goals as goal

pub returns-then-read-saturating_sub-clause-too_large : goal.returns-then-read-saturating_sub-clause-too_large
returns-then-read-saturating_sub-clause-too_large g c = λ _ text said has.
    let more : c.args.most < c.args.lines.now.count + c.in_ok-read.read =
    omega (arith, has.fits, has.counted, c.if-read-saturating_sub.true, c.saturating_sub.ensures) in
    seen_longer c.args.most (g.D.Desk.told c.args.desk.now).folder c.args.name.now text c.read_at.new.into c.args.lines.now.count c.in_ok-read.read more c.requires has.so_far c.in_ok-read.ensures.bytes

pub returns-clause-feeds : goal.returns-clause-feeds
returns-clause-feeds g c = λ text said has.
    let n = c.in_ok-read.read in
    let part = take n c.read_at.new.into in
    let same : take n c.deref.result.now ≡ part = grind (arith, common_steps) in
    let counted : c.args.lines.now.count + n ≡ length (text ++ part) = counted_more c.args.lines.now.count n text c.read_at.new.into has.counted c.in_ok-read.ensures.within in (
      part,
      record {
        read = subst (λ (taken : List ℕ). IsRead g.L.TextLine.rules g.L.TextLine.is_place (text ++ taken) said c.feed_lines.new.reader) same (c.in_ok-feed_lines.ensures.fed text said has.read);
        counted = counted;
        fits = omega (arith, counted, has.fits, has.counted, c.if-read-saturating_sub.false, c.saturating_sub.ensures);
        so_far = first_part_grows (g.D.Desk.told c.args.desk.now).folder c.args.name.now text (text ++ part) c.read_at.new.into c.args.lines.now.count n (c.args.lines.now.count + n) refl refl has.so_far
            c.in_ok-read.ensures.bytes;
      },
    )
