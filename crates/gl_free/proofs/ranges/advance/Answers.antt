use Rattle.std.proofs.Common.{◌≡◌, ◌∙◌, ap, sym, subst, ◌+◌, ◌<◌, ℕ, ℤ, pos, ◌+ℤ◌, ◌-ℤ◌, ◌<ℤ◌, ◌≤ℤ◌, [], ◌∷◌, ◌++◌, List, w32, to_z, of_z, rules, arith}
use Rattle.std.specs.Prelude.{FitsSigned, sum_by}
use Rattle.std.proofs.lemmas.Int.{ints, to_z-of_z}
use Rattle.std.proofs.lemmas.List.Sums.{sum_by_push}
use Rattle.gl_free.specs.declared.altitudes.Altitudes.{Altitudes}
use Rattle.gl_free.specs.Code.Ranges.{IsIn, IsBetterChoice, IsRun, turns_of}
use Rattle.gl_free.specs.Code.Places.{altitude_at}
use Rattle.gl_free.proofs.RangeLemmas.{left-done, left-split}
use Rattle.gl_free.proofs.ranges.advance.Goals as goal
use Rattle.gl_free.proofs.ranges.advance.Goals.{After-gap_of-low}

fewer : (old between new range lower upper : ℕ) → between ≡ old + upper → new ≡ between + lower → lower + upper < range → new < old + range
fewer old between new range lower upper one two less = omega arith

less_done : (old : ℕ) (range : Altitudes) → old < old + turns_of range
less_done old range = omega arith

-- what two numbers of a gap are, by those of a pair that is lost
abbrev IsGap : ℤ → ℤ → ℤ → ℤ → Type 0
IsGap lowest highest low high = (lowest ≤ℤ low) × ((low ≤ℤ high) × (high <ℤ highest))

gap_in : (lowest highest first last loss low high : ℤ) → low ≡ last +ℤ loss → high ≡ first -ℤ pos 1 → loss <ℤ (first -ℤ last) → lowest ≤ℤ (last +ℤ loss) → first ≤ℤ highest
    → IsGap lowest highest low high
gap_in lowest highest first last loss low high low_is high_is lost reached inside = (omega (arith, ints), (omega (arith, ints), omega (arith, ints)))

-- the two ranges instead of one have fewer turns
less_split : (old between new : List Altitudes) (range lower upper : Altitudes) → between ≡ old ++ upper ∷ [] → new ≡ between ++ lower ∷ [] → turns_of lower + turns_of upper < turns_of range
    → sum_by turns_of new < sum_by turns_of old + turns_of range
less_split old between new range lower upper first second less =
    let one : sum_by turns_of between ≡ sum_by turns_of old + turns_of upper = ap (sum_by turns_of) first ∙ sum_by_push turns_of old upper in
    let two : sum_by turns_of new ≡ sum_by turns_of between + turns_of lower = ap (sum_by turns_of) second ∙ sum_by_push turns_of between lower in
    fewer (sum_by turns_of old) (sum_by turns_of between) (sum_by turns_of new) (turns_of range) (turns_of lower) (turns_of upper) one two less

pub returns-in_ok-push-2-clause-less : goal.returns-in_ok-push-2-clause-less
returns-in_ok-push-2-clause-less c =
    less_split c.args.ranges.now.items c.push.new.self.items c.push-in-Some.new.self.items c.args.range c.split.result.0 c.split.result.1 c.in_ok-push.ensures.items c.in_ok-push-2.ensures.items
    c.split.ensures.less

pub returns-in_default-clause-less : goal.returns-in_default-clause-less
returns-in_default-clause-less c = less_done (sum_by turns_of c.args.ranges.now.items) c.args.range

pub returns-in_ok-push-2-clause-left : goal.returns-in_ok-push-2-clause-left
returns-in_ok-push-2-clause-left c =
    left-split c.args.hulls.now c.args.goal.now.loss c.args.search.now.best.total c.run.new.self.best.total c.args.ranges.now.items c.push.new.self.items c.push-in-Some.new.self.items c.args.range
    c.split.result.0 c.split.result.1 c.in_ok-pair.ensures.raised c.split.ensures c.in_ok-push.ensures.items c.in_ok-push-2.ensures.items c.requires.left

pub returns-in_default-clause-left : goal.returns-in_default-clause-left
returns-in_default-clause-left c =
    let none : (better : IsBetterChoice c.args.hulls.now c.args.goal.now.loss c.run.new.self.best.total) → IsIn c.args.range (altitude_at c.args.hulls.now better.first) → ⊥ = search rules in
    left-done c.args.hulls.now c.args.goal.now.loss c.args.search.now.best.total c.run.new.self.best.total c.args.ranges.now.items c.args.range c.in_ok-pair.ensures.raised none c.requires.left

pub run-requires-clause-same : goal.run-requires-clause-same
run-requires-clause-same c = c.requires.same

pub run-requires-clause-some : goal.run-requires-clause-some
run-requires-clause-some c = c.requires.some

pub run-requires-clause-valid : goal.run-requires-clause-valid
run-requires-clause-valid c = c.requires.valid

pub run-requires-clause-flanks : goal.run-requires-clause-flanks
run-requires-clause-flanks c = c.requires.flanks

pub gap_of-low-requires-clause-first : goal.gap_of-low-requires-clause-first
gap_of-low-requires-clause-first c =
    (subst (IsRun c.args.hulls.now c.args.goal.now.loss c.args.range c.run.new.self.best.total) c.in-Some.is c.in_ok-pair.ensures.run).first_within

pub gap_of-low-requires-clause-last : goal.gap_of-low-requires-clause-last
gap_of-low-requires-clause-last c =
    (subst (IsRun c.args.hulls.now c.args.goal.now.loss c.args.range c.run.new.self.best.total) c.in-Some.is c.in_ok-pair.ensures.run).last_within

pub returns-in_ok-push-2-clause-valid : goal.returns-in_ok-push-2-clause-valid
returns-in_ok-push-2-clause-valid c = c.in_ok-pair.ensures.valid

pub returns-in_ok-push-2-clause-flanks : goal.returns-in_ok-push-2-clause-flanks
returns-in_ok-push-2-clause-flanks c = c.in_ok-pair.ensures.flanks

pub returns-in_default-clause-valid : goal.returns-in_default-clause-valid
returns-in_default-clause-valid c = c.in_ok-pair.ensures.valid

pub returns-in_default-clause-flanks : goal.returns-in_default-clause-flanks
returns-in_default-clause-flanks c = c.in_ok-pair.ensures.flanks

pub gap_of-low-requires-clause-loss : goal.gap_of-low-requires-clause-loss
gap_of-low-requires-clause-loss c =
    let fits : FitsSigned w32 c.loss.result = search rules in
    subst (λ (z : ℤ). pos 0 ≤ℤ z) (sym (to_z-of_z w32 c.loss.result fits)) c.loss.ensures.from_zero

pub gap_of-low-requires-clause-low : goal.gap_of-low-requires-clause-low
gap_of-low-requires-clause-low c =
    let fits : FitsSigned w32 c.loss.result = search rules in
    let lost = subst (IsRun c.args.hulls.now c.args.goal.now.loss c.args.range c.run.new.self.best.total) c.in-Some.is c.in_ok-pair.ensures.run in
    let loss = to_z-of_z w32 c.loss.result fits ∙ c.loss.ensures.value in
    subst (λ (z : ℤ). z <ℤ (altitude_at c.args.hulls.now c.in-Some.pair.first -ℤ altitude_at c.args.hulls.now c.in-Some.pair.last)) (sym loss) lost.low

gap : (c : After-gap_of-low) → IsGap c.args.range.lowest c.args.range.highest (to_z w32 (of_z w32 c.gap_of-low.result.0)) (to_z w32 (of_z w32 c.gap_of-low.result.1))
gap c =
    let fixes = c.args.hulls.now in
    let pair = c.in-Some.pair in
    let lost = subst (IsRun fixes c.args.goal.now.loss c.args.range c.run.new.self.best.total) c.in-Some.is c.in_ok-pair.ensures.run in
    let fits : FitsSigned w32 c.loss.result = search rules in
    let loss = to_z-of_z w32 c.loss.result fits ∙ c.loss.ensures.value in
    let low_fits : FitsSigned w32 c.gap_of-low.result.0 = search rules in
    let high_fits : FitsSigned w32 c.gap_of-low.result.1 = search rules in
    let low = to_z-of_z w32 c.gap_of-low.result.0 low_fits ∙ c.gap_of-low.ensures.low ∙ ap (λ (z : ℤ). altitude_at fixes pair.last +ℤ z) loss in
    let high = to_z-of_z w32 c.gap_of-low.result.1 high_fits ∙ c.gap_of-low.ensures.high in
    gap_in c.args.range.lowest c.args.range.highest (altitude_at fixes pair.first) (altitude_at fixes pair.last) c.args.goal.now.loss _ _ low high lost.low lost.reached lost.first_in.1

pub split-requires-clause-from : goal.split-requires-clause-from
split-requires-clause-from c = (gap (goal.at.split-requires-clause-from c).After-gap_of-low).0

pub split-requires-clause-order : goal.split-requires-clause-order
split-requires-clause-order c = (gap (goal.at.split-requires-clause-order c).After-gap_of-low).1.0

pub split-requires-clause-to : goal.split-requires-clause-to
split-requires-clause-to c = (gap (goal.at.split-requires-clause-to c).After-gap_of-low).1.1
