use Rattle.std.proofs.Common.{◌≡◌, ◌∙◌, refl, ap, ℕ, List, ◌++◌, length, take, drop, arith}
use Rattle.std.specs.Char.{is_ascii_alphanumeric}
use Rattle.std.proofs.lemmas.List.{length-take-le}
use Rattle.gl_proof.proofs.Codes.{cut_front}
use Rattle.gl_proof.proofs.Entrants.{entrant_front, is_number_from}
use Rattle.gl_proof.proofs.entrant.entrant_at.Goals as goal

pub returns-then-count-lt1 : goal.returns-then-count-lt1
returns-then-count-lt1 c = λ number rest at.
    let text = c.args.text.now in
    let k = c.count_alphanumerics-count.result in
    let cut = cut_front is_ascii_alphanumeric text (take k text) (drop k text) k c.count_alphanumerics-count.ensures.value refl refl in
    let front = entrant_front text (take k text) (drop k text) number rest cut.0 cut.1 cut.2 at in
    let long = length-take-le k text c.count_alphanumerics-count.ensures.within in
    absurd (omega (arith, long, front.2, front.3, c.then-count-lt1.either))

pub returns-in_err-behind : goal.returns-in_err-behind
returns-in_err-behind c = rw c.from_residual.ensures (λ number rest at.
    let text = c.args.text.now in
    let front = c.split_at.result.0.now in
    let back = c.split_at.result.1.now in
    let cut = cut_front is_ascii_alphanumeric text front back c.count_alphanumerics-count.result c.count_alphanumerics-count.ensures.value c.split_at.ensures.front c.split_at.ensures.back in
    c.in_err-behind.ensures rest (entrant_front text front back number rest cut.0 cut.1 cut.2 at).1)

pub returns : goal.returns
returns c =
    let text = c.args.text.now in
    let front = c.split_at.result.0.now in
    let back = c.split_at.result.1.now in
    let cut = cut_front is_ascii_alphanumeric text front back c.count_alphanumerics-count.result c.count_alphanumerics-count.ensures.value c.split_at.ensures.front c.split_at.ensures.back in
    let long : length front ≡ c.count_alphanumerics-count.result = c.split_at.ensures.front_len in
    (is_number_from front (omega arith) (omega arith) cut.0, cut.2 ∙ ap (λ (l : List ℕ). front ++ l) c.in_ok-behind.ensures)
