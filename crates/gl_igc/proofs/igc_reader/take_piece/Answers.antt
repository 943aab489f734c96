use Rattle.std.proofs.Common.{◌≡◌, ◌++◌, ◌-◌, ℕ, List, drop, take, length, subst, sym, arith}
use Rattle.std.proofs.lemmas.Grind.{common_steps}
use Rattle.std.proofs.lemmas.List.{take_rest}
use Rattle.gl_igc.specs.Code.Parts.{Takes}
use Rattle.gl_igc.proofs.PieceLemmas.{takes_piece}
use Rattle.gl_igc.proofs.igc_reader.take_piece.Goals as goal

pub returns : goal.returns
returns c =
    let rest = c.args.rest.now.items in
    let piece = c.args.piece.now in
    let from = c.in_ok-from.from in
    let at = c.in_ok-at.at in
    let behind : take (length piece - from) (drop from piece) ≡ drop from piece = take_rest piece from in
    let left : c.extend_from_slice.new.self.items ≡ c.finish_line.new.rest.items ++ drop at (drop from piece) = grind (arith, common_steps) in
    subst (λ (left : List ℕ). Takes (rest ++ piece) left c.args.progress.now c.take_lines.new.progress) (sym left)
    (takes_piece rest piece c.finish_line.new.rest.items from at c.args.progress.now c.finish_line.new.progress c.take_lines.new.progress c.in_ok-from.ensures.takes c.in_ok-from.ensures.done
    (rw behind at c.in_ok-at.ensures.takes))
