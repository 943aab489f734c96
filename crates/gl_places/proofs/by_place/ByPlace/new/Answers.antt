use Rattle.std.proofs.Common.{◌≡◌, ◌∙◌, ℕ, List, ap, length, subst, sym, arith}
use Rattle.std.specs.Prelude.{IsPermutation}
use Rattle.gl_goal.specs.Free.{numbers_from}
use Rattle.gl_places.proofs.Orders.{permuted_below, permuted_long}
use Rattle.gl_places.proofs.by_place.ByPlace.new.Goals as goal

all_numbers : (c : goal.After-deref-3) → IsPermutation (numbers_from 0 (length c.args.hulls.now)) c.deref-3.result.now
all_numbers c =
    let count : c.len.result ≡ length c.args.hulls.now = c.len.ensures in
    let from = subst (λ (ns : List ℕ). IsPermutation ns c.gathered-numbers.result.items) (c.in_ok-numbers_below.ensures ∙ ap (numbers_from 0) count) c.gathered-numbers.ensures in
    subst (IsPermutation (numbers_from 0 (length c.args.hulls.now))) (sym c.deref-3.ensures.value) from

all_fixes : (c : goal.After-deref-3) → c.deref-2.result.now ≡ c.args.hulls.now
all_fixes c = c.deref-2.ensures.value ∙ c.in_ok-fixes.ensures

pub new-requires-clause-some : goal.new-requires-clause-some
new-requires-clause-some c =
    omega (arith, permuted_long (length c.args.hulls.now) c.deref-3.result.now (all_numbers c), c.requires.some)

pub new-requires-clause-most : goal.new-requires-clause-most
new-requires-clause-most c =
    omega (arith, permuted_long (length c.args.hulls.now) c.deref-3.result.now (all_numbers c), c.requires.few)

pub new-requires-clause-named : goal.new-requires-clause-named
new-requires-clause-named c k d below =
    omega (arith, permuted_below (length c.args.hulls.now) c.deref-3.result.now (all_numbers c) k d below, ap length (all_fixes c))
