use Rattle.std.proofs.Common.{◌∙◌, sym, ap, arith, ℕ, ◌+◌, ◌<◌, length, take, map, Bool, cond, List, [], ◌∷◌, ◌++◌, Some}
use Rattle.std.proofs.lemmas.Grind.{common_steps}
use Rattle.std.proofs.lemmas.List.{map-append}
use Rattle.std.specs.List.{list_any}
use Rattle.gl_text.specs.Forms.{is_text}
use Rattle.gl_task.specs.Numbers.{repeated_after}
use Rattle.gl_task_file.proofs.TwiceLemmas.{number_of, one_more, taken_more, dropped_more}
use Rattle.gl_task_file.proofs.twice.first_repeated.Goals as goal

pub returns-then-has_number : goal.returns-then-has_number
returns-then-has_number c =
    let all = c.args.entrants.now in
    let told = one_more all c.numbers.n c.numbers.rest.now c.in-Some.others.now c.in-Some.entrant.now c.has_number.result _ c.in-Some.ensures.cases.0 (c.has_number.ensures
    ∙ ap (λ (s : List ℕ). list_any (λ e. is_text s e.number) (take c.numbers.n all)) c.as_str.ensures) c.numbers.invariant.decides in
    sym (told ∙ ap (λ (b : Bool). cond b (Some (c.numbers.n + 1)) (repeated_after (map number_of (take c.numbers.n all) ++ number_of c.in-Some.entrant.now ∷ []) (c.numbers.n + 1 + 1)
    (map number_of c.in-Some.others.now))) c.if-has_number.true)

pub numbers-preserved : goal.numbers-preserved
numbers-preserved c =
    let all = c.args.entrants.now in
    let within : c.numbers.n < length all = grind (arith, common_steps) in
    let cut = c.in-Some.ensures.cases.0 in
    let told = one_more all c.numbers.n c.numbers.rest.now c.in-Some.others.now c.in-Some.entrant.now c.has_number.result _ cut (c.has_number.ensures
    ∙ ap (λ (s : List ℕ). list_any (λ e. is_text s e.number) (take c.numbers.n all)) c.as_str.ensures) c.numbers.invariant.decides in
    let taken = taken_more all c.numbers.rest.now c.in-Some.others.now c.numbers.n c.in-Some.entrant.now within c.numbers.invariant.rest cut in
    record {
      decides =
          told
          ∙ ap (λ (b : Bool). cond b (Some (c.numbers.n + 1)) (repeated_after (map number_of (take c.numbers.n all) ++ number_of c.in-Some.entrant.now ∷ []) (c.numbers.n + 1 + 1)
          (map number_of c.in-Some.others.now))) c.if-has_number.false
          ∙ ap (λ (l : List (List ℕ)). repeated_after l (c.numbers.n + 1 + 1) (map number_of c.in-Some.others.now)) (sym (map-append number_of (take c.numbers.n all) (c.in-Some.entrant.now ∷ []))
          ∙ ap (map number_of) (sym taken));
      rest = dropped_more all c.numbers.rest.now c.in-Some.others.now c.numbers.n c.in-Some.entrant.now within c.numbers.invariant.rest cut;
      number = grind (arith, common_steps);
    }
