use Rattle.std.proofs.Common.{◌<◌, ◌+◌, ℕ, List, length, sym, ap, ◌∙◌, subst, arith}
use Rattle.gl_best.specs.Steps.{greatest}
use Rattle.gl_best.proofs.Numbers.{length-without, times-greatest}
use Rattle.gl_best.proofs.Moves.{shares, some_kept}
use Rattle.gl_best.proofs.word.BestWord.share.Goals as goal

pub split_seat-requires : goal.split_seat-requires
split_seat-requires c = (
  c.requires.seat,
  omega (arith, c.args.self.now.one_word),
  λ state kept at. shares state.words state.views c.args.seat.now.seat.id c.args.seat.now.seat.me.0 c.requires.two kept at,
)

pub invariant_of-seat : goal.invariant_of-seat
invariant_of-seat c =
    let it = c.split_seat.ensures.2 in
    let before = c.args.seat.now.seat.me.0 in
    record {
      some_number = subst (λ (numbers : List ℕ). 0 < length numbers) (sym (ap (λ me. me.0.numbers) it)) (some_kept (greatest before.numbers) before.numbers c.requires.two);
      raised_was_seen = omega (arith, ap (λ me. me.0.raised) it, ap (λ me. me.0.seen) it, c.args.seat.now.raised_was_seen);
      holds_no_slot = ap (λ me. me.1) it ∙ c.args.seat.now.holds_no_slot;
    }

pub returns-clause-fewer : goal.returns-clause-fewer
returns-clause-fewer c =
    let before = c.args.seat.now.seat.me.0 in
    let fewer = length-without (greatest before.numbers) before.numbers (times-greatest before.numbers (omega (arith, c.requires.two))) in
    ap (λ me. length me.0.numbers + 1) c.split_seat.ensures.2 ∙ fewer
