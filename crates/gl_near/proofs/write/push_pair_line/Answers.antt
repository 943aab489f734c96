use Rattle.std.proofs.Common.{◌∙◌, ap, ℕ, ◌∷◌, ◌++◌}
use Rattle.std.specs.Fmt.{decimal}
use Rattle.gl_proof.specs.Kept.{Keeps}
use Rattle.gl_proof.proofs.Pieces.{keeps_behind}
use Rattle.gl_near.proofs.Written.{at_err, keeps_same, pair_written}
use Rattle.gl_near.proofs.write.push_pair_line.Goals as goal

pub returns-clause-ok : goal.returns-clause-ok
returns-clause-ok c =
    pair_written c.args.out.now.items c.extend_from_slice.new.self.items c.push_number.new.out.items c.push_number-2.new.out.items c.push.new.self.items c.args.first c.args.second
    c.in_ok-extend_from_slice.ensures.items (c.in_ok-push_number.ensures.ok ∙ ap (λ (n : ℕ). c.extend_from_slice.new.self.items ++ 32 ∷ decimal n) c.into.ensures)
    (c.in_ok-push_number-2.ensures.ok ∙ ap (λ (n : ℕ). c.push_number.new.out.items ++ 32 ∷ decimal n) c.into-2.ensures) c.in_ok-push.ensures.items

pub returns-in_err-extend_from_slice-clause-err : goal.returns-in_err-extend_from_slice-clause-err
returns-in_err-extend_from_slice-clause-err c =
    let out = c.args.out.now.items in
    let end = c.extend_from_slice.new.self.items in
    at_err c.from_residual.result (Keeps out end) (keeps_same out c.extend_from_slice.new.self.items c.in_err-extend_from_slice.ensures.items)

pub returns-in_err-push_number-clause-err : goal.returns-in_err-push_number-clause-err
returns-in_err-push_number-clause-err c =
    let out = c.args.out.now.items in
    let end = c.push_number.new.out.items in
    at_err c.from_residual-in_err-push_number.result (Keeps out end) (keeps_behind out c.extend_from_slice.new.self.items c.push_number.new.out.items _ c.in_ok-extend_from_slice.ensures.items c.in_err-push_number.ensures.err)

pub returns-in_err-push_number-2-clause-err : goal.returns-in_err-push_number-2-clause-err
returns-in_err-push_number-2-clause-err c =
    let out = c.args.out.now.items in
    let end = c.push_number-2.new.out.items in
    at_err c.from_residual-in_err-push_number-2.result (Keeps out end) (keeps_behind out c.extend_from_slice.new.self.items c.push_number-2.new.out.items _ c.in_ok-extend_from_slice.ensures.items (keeps_behind c.extend_from_slice.new.self.items c.push_number.new.out.items c.push_number-2.new.out.items _ c.in_ok-push_number.ensures.ok c.in_err-push_number-2.ensures.err))

pub returns-in_err-push-clause-err : goal.returns-in_err-push-clause-err
returns-in_err-push-clause-err c =
    let out = c.args.out.now.items in
    let end = c.push.new.self.items in
    at_err c.from_residual-in_err-push.result (Keeps out end) (keeps_behind out c.extend_from_slice.new.self.items c.push.new.self.items _ c.in_ok-extend_from_slice.ensures.items (keeps_behind c.extend_from_slice.new.self.items c.push_number.new.out.items c.push.new.self.items _ c.in_ok-push_number.ensures.ok (keeps_behind c.push_number.new.out.items c.push_number-2.new.out.items c.push.new.self.items _ c.in_ok-push_number-2.ensures.ok (keeps_same c.push_number-2.new.out.items c.push.new.self.items c.in_err-push.ensures.items))))
