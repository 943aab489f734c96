use Rattle.std.proofs.Common.{ap, ◌∙◌, arith}
use Rattle.gl_best.proofs.Moves.{gathers}
use Rattle.gl_best.proofs.word.BestWord.gather.Goals as goal

pub join_seat-requires : goal.join_seat-requires
join_seat-requires c =
    let other = c.into_inner.ensures in (
      c.requires.seat,
      ap (λ seat. seat.table_id) other ∙ c.requires.other,
      ap (λ seat. seat.me.1) other ∙ c.args.other.holds_no_slot,
      omega (arith, c.args.self.now.one_word),
      λ state kept at apart there. gathers state.words state.views c.args.seat.now.seat.id c.into_inner.result.id c.args.seat.now.seat.me.0 c.into_inner.result.me.0 kept at apart there,
    )
