use Rattle.std.proofs.Common.{◌∙◌, sym, refl, ◌<◌, length, arith}
use Rattle.std.proofs.lemmas.List.{get_or_default}
use Rattle.gl_pool.proofs.Dealing.{dealt}
use Rattle.gl_pool.proofs.many.dealt.Goals as goal

pub returns-in-Ok-clause-dealt : goal.returns-in-Ok-clause-dealt
returns-in-Ok-clause-dealt g c =
    let places = c.in_ok-places.places.items in
    let inside : 0 < length places = omega (arith, c.in_ok-places.ensures.one_each, c.requires.some) in
    dealt (g.G.Goal.rule c.args.goal.now) c.args.workers places c.whole.result c.index_mut.result.now
    (record { hand = c.put.new.self; passes = c.index_mut.result.now.passes }) c.in_ok-places.ensures
    (omega (arith, c.requires.some)) (λ e. get_or_default places 0 e c.index_mut.result.now inside ∙ sym c.index_mut.ensures.value)
    c.in-Ok.ensures.deque c.in-Ok.ensures.view refl c.whole.ensures
