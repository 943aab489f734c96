use Rattle.std.proofs.Common.{◌≡◌, ◌∙◌, ap, List, ℕ, ◌++◌}
use Rattle.std.proofs.lemmas.List.{append_assoc}
use Rattle.std.specs.Fmt.{decimal}
use Rattle.gl_badge.proofs.text.push_missed.Goals as goal

joined : (old head middle end one two three : List ℕ) → one ≡ old ++ head → two ≡ one ++ middle → three ≡ two ++ end → three ≡ old ++ (head ++ (middle ++ end))
joined old head middle end one two three first second third =
    third ∙ ap (λ (xs : List ℕ). xs ++ end) (second ∙ ap (λ (xs : List ℕ). xs ++ middle) first)
    ∙ append_assoc (old ++ head) middle end ∙ append_assoc old head (middle ++ end)

pub returns : goal.returns
returns c =
    joined c.args.text.now.items _ _ _ _ _ _ c.in_ok-extend_from_slice.ensures.items (c.in_ok-push_u64.ensures.ok
    ∙ ap (λ (n : ℕ). c.extend_from_slice.new.self.items ++ decimal n) c.from.ensures) c.in_ok-push.ensures.items
