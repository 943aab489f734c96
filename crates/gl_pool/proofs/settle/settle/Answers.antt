use Rattle.std.proofs.Common.{◌≡◌, ◌∙◌, sym, ap, subst, refl, [], ◌∷◌, ℕ, ◌<◌, length, map, get_or, slice_set, arith}
use Rattle.std.proofs.lemmas.List.{get_or_default, length-map, map-append, nil_from_length}
use Rattle.gl_deal.specs.declared.place.Place.{Place}
use Rattle.gl_deal.specs.Tokens.{end_of}
use Rattle.gl_pool.specs.Code.Settle.{owner_at}
use Rattle.gl_pool.proofs.Settling.{IsFor, last_for, settles, settling_more, settling_start}
use Rattle.gl_pool.proofs.settle.settle.Goals as goal

pub passes-init : goal.passes-init
passes-init c = settling_start c.args.places.now c.args.worker _ c.requires.within c.requires.passes

pub bounds-places-owner : goal.bounds-places-owner
bounds-places-owner c =
    let less = c.pop.new.self.items in
    let last = ap (map end_of) c.in-Some.ensures.items ∙ map-append end_of less (c.in-Some.pass ∷ []) in
    let owner : owner_at (length (map end_of less)) c.args.worker ≡ c.owner_of-owner.result =
    ap (λ (n : ℕ). owner_at n c.args.worker) (length-map less end_of ∙ omega (arith, c.len.ensures, c.pop.new.self.ok.0)) ∙ sym c.owner_of-owner.ensures in
    let is_for = last_for c.args.places.now c.passes.places c.args.worker (map end_of c.args.passes.items) (map end_of c.passes.passes.items) (map end_of less)
    (end_of c.in-Some.pass) c.requires.within c.requires.passes last c.passes.invariant in
    omega (arith, is_for.inside, owner)

pub settle-requires : goal.settle-requires
settle-requires c =
    let less = c.pop.new.self.items in
    let last = ap (map end_of) c.in-Some.ensures.items ∙ map-append end_of less (c.in-Some.pass ∷ []) in
    let owner : owner_at (length (map end_of less)) c.args.worker ≡ c.owner_of-owner.result =
    ap (λ (n : ℕ). owner_at n c.args.worker) (length-map less end_of ∙ omega (arith, c.len.ensures, c.pop.new.self.ok.0)) ∙ sym c.owner_of-owner.ensures in
    let is_for = last_for c.args.places.now c.passes.places c.args.worker (map end_of c.args.passes.items) (map end_of c.passes.passes.items) (map end_of less)
    (end_of c.in-Some.pass) c.requires.within c.requires.passes last c.passes.invariant in
    (subst (λ (o : ℕ). IsFor c.passes.places c.args.worker o (end_of c.in-Some.pass)) owner is_for).deque c.index-places-owner.result

pub passes-preserved : goal.passes-preserved
passes-preserved c =
    let less = c.pop.new.self.items in
    let last = ap (map end_of) c.in-Some.ensures.items ∙ map-append end_of less (c.in-Some.pass ∷ []) in
    let owner : owner_at (length (map end_of less)) c.args.worker ≡ c.owner_of-owner.result =
    ap (λ (n : ℕ). owner_at n c.args.worker) (length-map less end_of ∙ omega (arith, c.len.ensures, c.pop.new.self.ok.0)) ∙ sym c.owner_of-owner.ensures in
    let is_for = last_for c.args.places.now c.passes.places c.args.worker (map end_of c.args.passes.items) (map end_of c.passes.passes.items) (map end_of less)
    (end_of c.in-Some.pass) c.requires.within c.requires.passes last c.passes.invariant in
    let inside : c.owner_of-owner.result < length c.passes.places = omega (arith, is_for.inside, owner) in
    let old : Place = get_or c.passes.places c.owner_of-owner.result c.index-places-owner.result in
    settling_more c.args.places.now c.passes.places _ c.args.worker (map end_of c.args.passes.items) (map end_of c.passes.passes.items) (map end_of less) (end_of c.in-Some.pass) old
    (record { hand = c.settle.new.self; passes = old.passes }) last is_for
    (ap (λ (o : ℕ). slice_set c.passes.places o (record { hand = c.settle.new.self; passes = old.passes })) (sym owner))
    (λ e. ap (λ (o : ℕ). get_or c.passes.places o e) owner ∙ get_or_default c.passes.places c.owner_of-owner.result e c.index-places-owner.result inside)
    (record { deque = c.settle.ensures.deque; view = c.settle.ensures.view; passes = refl }) c.passes.invariant

pub returns : goal.returns
returns c =
    let none : c.passes.passes.items ≡ [] = nil_from_length c.passes.passes.items (omega (arith, c.in_default.ensures.cases.0, c.passes.passes.ok.0)) in
    settles c.args.places.now c.passes.places c.args.worker (map end_of c.args.passes.items) (map end_of c.passes.passes.items) (ap (map end_of) none) c.passes.invariant
