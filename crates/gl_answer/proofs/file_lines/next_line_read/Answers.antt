use Rattle.std.proofs.Common.{◌≡◌, ap, sym, subst, ◌++◌, Result, Ok, Err, arith}
use Rattle.std.specs.Prelude.{IsErrAnd}
use Rattle.gl_desk.specs.declared.error.ReadError.{ReadError}
use Rattle.gl_desk.specs.declared.error.ReadError.TheVariants.{TooLarge}
use Rattle.gl_desk.proofs.Reading.{OnlyReads-then}
use Rattle.gl_proof.specs.LineReading.{IsExhausted}
use Rattle.gl_answer.proofs.file_lines.next_line_read.Goals as goal

pub returns-in-Some-clause-next : goal.returns-in-Some-clause-next
returns-in-Some-clause-next g c = λ text said has.
    let before = c.pieces.invariant.same text said has in
    let h = before.1 in (
      before.0,
      record { read = rw c.in-Some.is at (c.in_ok-line.ensures.read before.0 said h.read); counted = h.counted; fits = h.fits; so_far = h.so_far },
    )

pub returns-in-Some-clause-comes : goal.returns-in-Some-clause-comes
returns-in-Some-clause-comes g c = λ text said has.
    let before = c.pieces.invariant.same text said has in
    (rw c.in-Some.is at c.in_ok-line.ensures.comes) before.0 said before.1.read

-- an error that is handed on is the same
large_error : {A : Type 0} (result : Result A ReadError) (error : ReadError) → IsErrAnd result (λ handed. handed ≡ error) → result ≡ Err TooLarge → error ≡ TooLarge
large_error (Ok x) error is large = absurd is
large_error (Err handed) error is large = cc

pub returns-in_err-feed_piece-clause-too_large : goal.returns-in_err-feed_piece-clause-too_large
returns-in_err-feed_piece-clause-too_large g c = λ large text said has.
    let before = c.pieces.invariant.same text said has in
    let h = before.1 in
    let read = rw c.in_default.is at (c.in_ok-line.ensures.read before.0 said h.read) in
    let longer = rw c.pieces.invariant.reads.folder at c.in_err-feed_piece.ensures.too_large in
    longer (ap Err (large_error c.from_residual-in_err-feed_piece.result c.in_err-feed_piece.field-0.0 c.from_residual-in_err-feed_piece.ensures.1 large)) before.0 said (record { read = read; counted = h.counted; fits = h.fits; so_far = h.so_far })

pub returns-then-not-branch-clause-next : goal.returns-then-not-branch-clause-next
returns-then-not-branch-clause-next g c = λ text said has.
    let before = c.pieces.invariant.same text said has in
    let h = before.1 in
    let read = rw c.in_default.is at (c.in_ok-line.ensures.read before.0 said h.read) in
    let feeds = rw c.pieces.invariant.reads.folder at c.in_ok-feed_piece.ensures.feeds in
    let fed = rw c.if-not-branch.true at (feeds before.0 said (record { read = read; counted = h.counted; fits = h.fits; so_far = h.so_far })) in
    let exhausted = rw c.in_default.is at c.in_ok-line.ensures.exhausted in
    record {
      text = before.0;
      lines_are = fed.0;
      seen = fed.1;
      exhausted = subst (IsExhausted g.L.TextLine.ends) (sym (c.in_ok-feed_piece.ensures.none c.if-not-branch.true)) exhausted;
    }

pub pieces-preserved : goal.pieces-preserved
pieces-preserved g c = record {
  same = λ text said has.
      let before = c.pieces.invariant.same text said has in
      let h = before.1 in
      let read = rw c.in_default.is at (c.in_ok-line.ensures.read before.0 said h.read) in
      let feeds = rw c.pieces.invariant.reads.folder at c.in_ok-feed_piece.ensures.feeds in
      let fed = rw c.if-not-branch.false at (feeds before.0 said (record { read = read; counted = h.counted; fits = h.fits; so_far = h.so_far })) in
      (before.0 ++ fed.0, fed.1);
  fewer = omega (arith, c.pieces.invariant.fewer, rw c.in_default.is at c.in_ok-line.ensures.shorter, (c.in_ok-feed_piece.ensures.more c.if-not-branch.false).2);
  reads = OnlyReads-then _ _ _ _ c.pieces.invariant.reads c.in_ok-feed_piece.ensures.reads;
}
