use Rattle.std.proofs.Common.{◌<◌, ◌+◌, ℕ, List, length, refl, sym, ap, ◌∙◌, subst, arith}
use Rattle.atomic_table.specs.Table.{keeps}
use Rattle.gl_best.specs.declared.rule.View.{View}
use Rattle.gl_best.proofs.Moves.{raises}
use Rattle.gl_best.proofs.word.BestWord.raise.Goals as goal

pub fetch_max-requires : goal.fetch_max-requires
fetch_max-requires c = (
  c.requires.seat,
  omega (arith, c.args.self.now.one_word),
  λ state kept homes at below.
      let it = raises state.words state.views c.args.seat.now.seat.id (c.args.total + 1) c.args.seat.now.seat.me.0 c.args.seat.now.some_number kept at in
      (it.0, keeps, tt, it.1, (it.2, refl)),
)

pub invariant_of-seat : goal.invariant_of-seat
invariant_of-seat c =
    let it = c.fetch_max.ensures.2 in
    record {
      some_number = subst (λ (numbers : List ℕ). 0 < length numbers) (sym (ap (λ (view : View). view.numbers) it.0.1)) c.args.seat.now.some_number;
      raised_was_seen = omega (arith, it.0.0, ap (λ (view : View). view.raised) it.0.1, ap (λ (view : View). view.seen) it.0.1, c.args.seat.now.raised_was_seen);
      holds_no_slot = it.1 ∙ c.args.seat.now.holds_no_slot;
    }
