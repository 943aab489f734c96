use Rattle.gl_igc.proofs.PieceLemmas.{fed, text_grows}
use Rattle.gl_igc.proofs.igc_reader.IgcReader.feed.Goals as goal

pub returns-clause-text : goal.returns-clause-text
returns-clause-text c =
    let new = c.take_piece-taken.new in
    fed c.take_piece-taken.result c.is_err-self.result c.is_err-self.ensures.value c.take_piece-taken.ensures
    (λ takes whole text stands. text_grows text c.args.piece.now c.args.self.now new.progress new.rest c.is_err-self.result takes whole stands)
