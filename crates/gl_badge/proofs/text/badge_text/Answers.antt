use Rattle.std.proofs.Common.{◌≡◌, ◌∙◌, sym, ap, refl, subst, List, ℕ, ◌++◌, [], Option, None, Some, get_or, slice_get}
use Rattle.std.specs.Prelude.{IsSome}
use Rattle.std.proofs.lemmas.List.{append_assoc}
use Rattle.gl_badge.specs.Text.{TellsFlown, distance_line, gain_line}
use Rattle.gl_badge.specs.Code.Text.{is_total}
use Rattle.gl_badge.proofs.Totals.{optima-totals}
use Rattle.gl_badge.proofs.text.badge_text.Goals as goal

pub unwrap-requires : goal.unwrap-requires
unwrap-requires c =
    let totals = optima-totals c.args.rec.now c.args.totals.now c.requires in
    subst (λ (ts : List (Option ℕ)). IsSome (get_or ts 0 None)) (sym totals.are) refl

pub unwrap-requires-2 : goal.unwrap-requires-2
unwrap-requires-2 c =
    let totals = optima-totals c.args.rec.now c.args.totals.now c.requires in
    subst (λ (ts : List (Option ℕ)). IsSome (get_or ts 1 None)) (sym totals.are) refl

same_some : (a b : ℕ) → Some a ≡ Some b → a ≡ b
same_some a b same = cc

lined : (none d_line g_line c_line one two three : List ℕ) → none ≡ [] → one ≡ none ++ d_line → two ≡ one ++ g_line → three ≡ two ++ c_line → three ≡ d_line ++ (g_line ++ c_line)
lined none d_line g_line c_line one two three empty first second third =
    third ∙ ap (λ (xs : List ℕ). xs ++ c_line) (second ∙ ap (λ (xs : List ℕ). xs ++ g_line) (first ∙ ap (λ (xs : List ℕ). xs ++ d_line) empty))
    ∙ append_assoc d_line g_line c_line

pub returns : goal.returns
returns c =
    let rec = c.args.rec.now in
    let totals = optima-totals rec c.args.totals.now c.requires in
    let distance_is : c.unwrap.result ≡ totals.distance = same_some _ _ (sym c.unwrap.ensures ∙ ap (λ (ts : List (Option ℕ)). get_or ts 0 None) totals.are) in
    let gain_is : c.unwrap-2.result ≡ totals.gain = same_some _ _ (sym c.unwrap-2.ensures ∙ ap (λ (ts : List (Option ℕ)). get_or ts 1 None) totals.are) in
    let flown_is : c.has_third.result ≡ is_total (slice_get totals.others 0) = c.has_third.ensures ∙ ap (λ (ts : List (Option ℕ)). is_total (slice_get ts 2)) totals.are in
    let shown = c.in_ok-push_goal.ensures in
    record {
      distance = totals.distance;
      farthest = totals.farthest;
      gain = totals.gain;
      highest = totals.highest;
      course = shown.0;
      is = shown.1;
      flown = c.has_third.result;
      tells = subst (TellsFlown rec.fixes shown.0) (sym flown_is) (totals.tells shown.0 shown.1);
      lines = lined c.new-text.result.items _ _ _ _ _ _ c.new-text.ensures.items (c.in_ok-push_distance.ensures
          ∙ ap (λ (n : ℕ). c.new-text.result.items ++ distance_line n) distance_is) (c.in_ok-push_gain.ensures ∙ ap (λ (n : ℕ). c.push_distance.new.text.items ++ gain_line n) gain_is) shown.2;
    }
