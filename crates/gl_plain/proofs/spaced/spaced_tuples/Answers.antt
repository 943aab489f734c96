use Rattle.std.proofs.Common.{◌≡◌, ◌∙◌, sym, ap, subst, ℕ, length, drop, replicate, Option, arith}
use Rattle.std.specs.Prelude.{All}
use Rattle.std.proofs.lemmas.List.{drop_all}
use Rattle.std.proofs.lemmas.List.Elements.{All-append, All-nil, All-take}
use Rattle.gl_goal.specs.declared.best.Best.{Best}
use Rattle.gl_goal.specs.Best.{IsSound}
use Rattle.gl_plain.proofs.Places.{first_tuple, tuple_along}
use Rattle.gl_plain.proofs.spaced.spaced_tuples.Goals as goal

pub extend-requires-clause-fits : goal.extend-requires-clause-fits
extend-requires-clause-fits g c =
    let goal = g.met.G.Goal.laws c.args.goal.now in
    tuple_along _ _ _ (c.first.ensures.places ∙ ap (λ (n : ℕ). replicate n 0) c.axes-axes.ensures) (first_tuple (g.G.Goal.rule c.args.goal.now).axes goal.some_fix)

pub returns : goal.returns
returns g c =
    let P : Option Best → Type 0 = IsSound (g.G.Goal.rule c.args.goal.now) in
    let new = c.extend.new.kept in
    let items = c.in_ok-kept.kept.items in
    let same : length new ≡ length items = c.extend.auto.kept ∙ ap length c.deref_mut.ensures.value in
    let rest = subst (All P) (sym (drop_all (length new) items (omega (arith, same)))) (All-nil P) in
    All-take P c.in_ok-kept.kept.len _ (All-append P new (drop (length new) items) c.extend.ensures.sound rest)
