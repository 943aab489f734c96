-- What a loop that goes through a list has put into another, one item more.
use Rattle.std.proofs.Common.{◌≡◌, ◌∙◌, sym, ap, subst, ℕ, ◌+◌, ◌<◌, List, [], ◌∷◌, ◌++◌, length, map, take, get_or}
use Rattle.std.specs.Prelude.{All}
use Rattle.std.proofs.lemmas.List.{map_push, take_more}
use Rattle.std.proofs.lemmas.List.Elements.{All-push}
use Rattle.gl_series.specs.declared.day.DaySheet.{DaySheet}
use Rattle.gl_series.specs.declared.ordered.Ordered.{Ordered}
use Rattle.gl_series.specs.Code.Tallies.{AreOrdered, IsOrdered}

-- each item put there is seen as the one at its place
pub seen_more : {X Y : Type 0} (see : X → Y) (before after : List X) (one : X) (items : List Y) (i : ℕ) → after ≡ before ++ one ∷ [] → map see before ≡ take i items → i < length items
    → see one ≡ get_or items i (see one) → map see after ≡ take (i + 1) items
seen_more see before after one items i pushed so_far inside at =
    ap (map see) pushed ∙ map_push see before one
    ∙ ap (λ front. front ++ see one ∷ []) so_far
    ∙ ap (λ item. take i items ++ item ∷ []) at
    ∙ sym (take_more items i (see one) inside)

-- one day more, with its rows in order
pub ordered_more : (days : List DaySheet) (before after : List Ordered) (one : Ordered) (day : DaySheet) (i : ℕ) → after ≡ before ++ one ∷ [] → one.day.now ≡ day → IsOrdered one
    → AreOrdered (take i days) before → i < length days → day ≡ get_or days i day → AreOrdered (take (i + 1) days) after
ordered_more days before after one day i pushed same ordered so_far inside at =
    let here = subst (λ (it : DaySheet). it ≡ get_or days i it) (sym same) at in
    record {
      days_are = seen_more (λ (it : Ordered). it.day.now) before after one days i pushed so_far.days_are inside here;
      each = subst (All IsOrdered) (sym pushed) (All-push IsOrdered before one so_far.each ordered);
    }
