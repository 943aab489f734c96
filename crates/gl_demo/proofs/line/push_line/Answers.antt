use Rattle.gl_demo.proofs.LineLemmas.{line-pushed}
use Rattle.gl_demo.proofs.line.push_line.Goals as goal

pub returns : goal.returns
returns c =
    line-pushed c.args.second c.args.place c.args.text.now.items _ _ _ _ _ _ _ _
    c.in_ok-push.ensures.items c.in_ok-push_clock.ensures c.in_ok-push_angle.ensures
    c.in_ok-push_angle-2.ensures (rw c.as_bytes.ensures.value at c.in_ok-extend_from_slice.ensures.items)
    c.in_ok-push_digits.ensures c.in_ok-push_digits-2.ensures c.in_ok-push-2.ensures.items
