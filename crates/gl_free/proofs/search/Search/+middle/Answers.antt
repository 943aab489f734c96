use Rattle.std.proofs.Common.{◌≡◌, sym, subst, inl, inr, ◌+◌, ◌≤◌, List, length, MatchOption, arith, rules}
use Rattle.gl_box.specs.Cell.{ends}
use Rattle.gl_igc.specs.declared.fix.Fix.{Fix}
use Rattle.gl_goal.specs.FreeGoal.{rule_of}
use Rattle.gl_free.specs.declared.arm.Part.{Part}
use Rattle.gl_free.specs.declared.stop.Stop.TheVariants.{Done}
use Rattle.gl_free.specs.Code.Arms.{arm_length}
use Rattle.gl_free.specs.Code.Choices.{IsLow}
use Rattle.gl_free.specs.Code.Search.{IsHalted, IsValid}
use Rattle.gl_free.proofs.SearchLemmas.{halted-after, halted-part, is-narrowed, keeps-all, keeps-through, kept-best, kept-raised, kept-raised-twice, none-narrowed, order-single, over-halves, over-single, ready-half, ready-narrowed, span-cut}
use Rattle.gl_free.proofs.search.Search.+middle.Goals as goal

pub returns-then-is_single-clause-halted : goal.returns-then-is_single-clause-halted
returns-then-is_single-clause-halted t c =
    let fixes = c.args.hulls.now in
    let arms = c.in-Some.arms in
    let middle = c.args.span.lo in
    let single : c.args.span.lo ≡ c.args.span.hi = c.is_single.ensures.0 c.if-is_single.true in
    let P : List Fix → Type 0 = λ list. MatchOption c.choose.result (arm_length list middle arms.before.inner arms.before.end + arm_length list middle arms.after.inner arms.after.end
    ≤ c.choose.new.best.total) (IsLow list c.args.goal.now.loss arms.before.end arms.after.end) in
    let over = over-single fixes c.args.sides.now (ends c.args.span) c.args.goal.now.loss c.narrow.new.self.best.total c.choose.new.best.total c.narrow.new.self c.args.before c.args.after arms
    c.choose.result single (omega arith) c.choose.ensures.raised
    (is-narrowed fixes c.args.sides.now (ends c.args.span) c.args.self.now.best.total c.narrow.new.self c.args.before c.args.after c.in_ok-arms.field-0 arms c.in-Some.is c.in_ok-arms.ensures.narrowed)
    (subst P (sym c.requires.same) c.choose.ensures.chosen) in
    subst (IsHalted fixes c.args.sides.now (ends c.args.span) c.args.goal.now.loss c.choose.new.best.total) (sym c.after.ensures)
    (halted-after fixes c.args.sides.now (ends c.args.span) c.args.goal.now.loss c.choose.new.best.total c.choose.result over)

pub middle-requires : goal.middle-requires
middle-requires t c =
    let fixes = c.args.hulls.now in
    let sides = c.args.sides.now in
    let span = ends c.args.span in
    let kept = c.narrow.new.self in
    let arms = c.in-Some.arms in
    let half = c.ordered.result.0 in
    let before : Part = record { from = c.args.before.to; to = c.len.result; most = arms.before.most } in
    let after : Part = record { from = c.args.after.to; to = c.len-2.result; most = arms.after.most } in
    let is = is-narrowed fixes sides span c.args.self.now.best.total kept c.args.before c.args.after c.in_ok-arms.field-0 arms c.in-Some.is c.in_ok-arms.ensures.narrowed in
    let wide = span-cut c.args.span.lo c.args.span.hi c.is_single.result c.args.span.ordered c.is_single.ensures.1 c.if-is_single.false in
    let to_before : c.len.result ≡ length kept.before.candidates.items = omega (arith, c.len.ensures, kept.before.candidates.ok.0) in
    let to_after : c.len-2.result ≡ length kept.after.candidates.items = omega (arith, c.len-2.ensures, kept.after.candidates.ok.0) in
    let ready = ready-half fixes sides span (ends half) kept.best.total kept.best.total kept.before.candidates.items kept.before.candidates.items kept.after.candidates.items
    kept.after.candidates.items before after
    (λ place inside. c.ordered.ensures.inside place (inl inside)) (omega arith) (keeps-all before kept.before.candidates.items (omega arith))
    (keeps-all after kept.after.candidates.items (omega arith))
    (ready-narrowed fixes sides span kept c.args.before c.args.after arms c.len.result c.len-2.result to_before to_after wide is) in (
      search rules,
      (
        c.requires.same,
        (
          subst (IsValid (rule_of c.args.goal.now)) (sym c.narrow.ensures.best) c.requires.valid,
          (c.requires.sides, (omega (arith, c.ordered.ensures.one_in, c.requires.inside), (c.in_ok-arms.ensures.flanks, (ready.part_before, (ready.part_after, (ready.below, ready.among)))))),
        ),
      ),
    )

pub middle-requires-2 : goal.middle-requires-2
middle-requires-2 t c =
    let fixes = c.args.hulls.now in
    let sides = c.args.sides.now in
    let span = ends c.args.span in
    let kept = c.narrow.new.self in
    let new = c.middle.new.self in
    let arms = c.in-Some.arms in
    let half = c.ordered.result.1 in
    let before : Part = record { from = c.args.before.to; to = c.len.result; most = arms.before.most } in
    let after : Part = record { from = c.args.after.to; to = c.len-2.result; most = arms.after.most } in
    let is = is-narrowed fixes sides span c.args.self.now.best.total kept c.args.before c.args.after c.in_ok-arms.field-0 arms c.in-Some.is c.in_ok-arms.ensures.narrowed in
    let wide = span-cut c.args.span.lo c.args.span.hi c.is_single.result c.args.span.ordered c.is_single.ensures.1 c.if-is_single.false in
    let to_before : c.len.result ≡ length kept.before.candidates.items = omega (arith, c.len.ensures, kept.before.candidates.ok.0) in
    let to_after : c.len-2.result ≡ length kept.after.candidates.items = omega (arith, c.len-2.ensures, kept.after.candidates.ok.0) in
    let ready = ready-half fixes sides span (ends half) kept.best.total new.best.total kept.before.candidates.items new.before.candidates.items kept.after.candidates.items new.after.candidates.items
    before after
    (λ place inside. c.ordered.ensures.inside place (inr inside)) c.in_ok-stop.ensures.raised c.in_ok-stop.ensures.kept_before c.in_ok-stop.ensures.kept_after
    (ready-narrowed fixes sides span kept c.args.before c.args.after arms c.len.result c.len-2.result to_before to_after wide is) in (
      search rules,
      (
        c.requires.same,
        (
          c.in_ok-stop.ensures.valid,
          (
            c.requires.sides,
            (omega (arith, c.ordered.ensures.other_in, c.requires.inside), (c.in_ok-stop.ensures.flanks, (ready.part_before, (ready.part_after, (ready.below, ready.among))))),
          ),
        ),
      ),
    )

pub returns-then-not-is_done-clause-kept_before : goal.returns-then-not-is_done-clause-kept_before
returns-then-not-is_done-clause-kept_before t c =
    let kept = c.narrow.new.self in
    let next : Part = record { from = c.args.before.to; to = c.len.result; most = c.in-Some.arms.before.most } in
    let first = c.in_ok-arms.ensures.kept_before in
    keeps-through c.args.before next c.args.self.now.before.candidates.items kept.before.candidates.items c.middle.new.self.before.candidates.items
    (omega (arith, first.longer, c.len.ensures, kept.before.candidates.ok.0)) first c.in_ok-stop.ensures.kept_before

pub returns-then-not-is_done-clause-kept_after : goal.returns-then-not-is_done-clause-kept_after
returns-then-not-is_done-clause-kept_after t c =
    let kept = c.narrow.new.self in
    let next : Part = record { from = c.args.after.to; to = c.len-2.result; most = c.in-Some.arms.after.most } in
    let first = c.in_ok-arms.ensures.kept_after in
    keeps-through c.args.after next c.args.self.now.after.candidates.items kept.after.candidates.items c.middle.new.self.after.candidates.items
    (omega (arith, first.longer, c.len-2.ensures, kept.after.candidates.ok.0)) first c.in_ok-stop.ensures.kept_after

pub returns-clause-kept_before : goal.returns-clause-kept_before
returns-clause-kept_before t c =
    let kept = c.narrow.new.self in
    let next : Part = record { from = c.args.before.to; to = c.len.result; most = c.in-Some.arms.before.most } in
    let first = c.in_ok-arms.ensures.kept_before in
    let second = keeps-through c.args.before next c.args.self.now.before.candidates.items kept.before.candidates.items c.middle.new.self.before.candidates.items
    (omega (arith, first.longer, c.len.ensures, kept.before.candidates.ok.0)) first c.in_ok-stop.ensures.kept_before in
    keeps-through c.args.before next c.args.self.now.before.candidates.items c.middle.new.self.before.candidates.items c.middle-2.new.self.before.candidates.items
    (omega (arith, first.longer, c.len.ensures, kept.before.candidates.ok.0)) second c.in_ok-stop-2.ensures.kept_before

pub returns-clause-kept_after : goal.returns-clause-kept_after
returns-clause-kept_after t c =
    let kept = c.narrow.new.self in
    let next : Part = record { from = c.args.after.to; to = c.len-2.result; most = c.in-Some.arms.after.most } in
    let first = c.in_ok-arms.ensures.kept_after in
    let second = keeps-through c.args.after next c.args.self.now.after.candidates.items kept.after.candidates.items c.middle.new.self.after.candidates.items
    (omega (arith, first.longer, c.len-2.ensures, kept.after.candidates.ok.0)) first c.in_ok-stop.ensures.kept_after in
    keeps-through c.args.after next c.args.self.now.after.candidates.items c.middle.new.self.after.candidates.items c.middle-2.new.self.after.candidates.items
    (omega (arith, first.longer, c.len-2.ensures, kept.after.candidates.ok.0)) second c.in_ok-stop-2.ensures.kept_after

pub returns-then-not-is_done-clause-halted : goal.returns-then-not-is_done-clause-halted
returns-then-not-is_done-clause-halted t c =
    halted-part c.args.hulls.now c.args.sides.now (ends c.args.span) (ends c.ordered.result.0) c.args.goal.now.loss c.middle.new.self.best.total c.in_ok-stop.stop
    (λ done. grind (arith, c.is_done.ensures.1 done)) c.in_ok-stop.ensures.halted

pub returns-clause-halted : goal.returns-clause-halted
returns-clause-halted t c =
    let fixes = c.args.hulls.now in
    let sides = c.args.sides.now in
    let done : c.in_ok-stop.stop ≡ Done = c.is_done.ensures.0 (search rules) in
    let none = subst (IsHalted fixes sides (ends c.ordered.result.0) c.args.goal.now.loss c.middle.new.self.best.total) done c.in_ok-stop.ensures.halted in
    over-halves fixes sides (ends c.args.span) (ends c.ordered.result.0)
    (ends c.ordered.result.1) c.args.goal.now.loss c.middle.new.self.best.total c.middle-2.new.self.best.total c.in_ok-stop-2.stop c.ordered.ensures
    (omega (arith, c.in_ok-stop-2.ensures.raised)) none c.in_ok-stop-2.ensures.halted

pub returns-then-self-eq0-clause-valid : goal.returns-then-self-eq0-clause-valid
returns-then-self-eq0-clause-valid t c = c.requires.valid

pub returns-then-self-eq0-clause-flanks : goal.returns-then-self-eq0-clause-flanks
returns-then-self-eq0-clause-flanks t c = c.requires.flanks

pub returns-then-self-eq0-clause-kept_before : goal.returns-then-self-eq0-clause-kept_before
returns-then-self-eq0-clause-kept_before t c =
    keeps-all c.args.before c.args.self.now.before.candidates.items c.requires.part_before.within

pub returns-then-self-eq0-clause-kept_after : goal.returns-then-self-eq0-clause-kept_after
returns-then-self-eq0-clause-kept_after t c =
    keeps-all c.args.after c.args.self.now.after.candidates.items c.requires.part_after.within

pub hull-requires : goal.hull-requires
hull-requires t c = c.requires.inside

pub narrow-requires-clause-limited : goal.narrow-requires-clause-limited
narrow-requires-clause-limited t c = c.requires.valid.limited

pub narrow-requires-clause-flanks : goal.narrow-requires-clause-flanks
narrow-requires-clause-flanks t c = c.requires.flanks

pub narrow-requires-clause-part_before : goal.narrow-requires-clause-part_before
narrow-requires-clause-part_before t c = c.requires.part_before

pub narrow-requires-clause-part_after : goal.narrow-requires-clause-part_after
narrow-requires-clause-part_after t c = c.requires.part_after

pub narrow-requires-clause-below : goal.narrow-requires-clause-below
narrow-requires-clause-below t c = c.requires.below

pub narrow-requires-clause-found : goal.narrow-requires-clause-found
narrow-requires-clause-found t c = c.requires.found

pub returns-in_default-clause-valid : goal.returns-in_default-clause-valid
returns-in_default-clause-valid t c =
    subst (IsValid (rule_of c.args.goal.now)) (sym c.narrow.ensures.best) c.requires.valid

pub returns-in_default-clause-flanks : goal.returns-in_default-clause-flanks
returns-in_default-clause-flanks t c = c.in_ok-arms.ensures.flanks

pub returns-in_default-clause-kept_before : goal.returns-in_default-clause-kept_before
returns-in_default-clause-kept_before t c = c.in_ok-arms.ensures.kept_before

pub returns-in_default-clause-kept_after : goal.returns-in_default-clause-kept_after
returns-in_default-clause-kept_after t c = c.in_ok-arms.ensures.kept_after

pub choose-requires-clause-valid : goal.choose-requires-clause-valid
choose-requires-clause-valid t c =
    subst (IsValid (rule_of c.args.goal.now)) (sym c.narrow.ensures.best) c.requires.valid

pub returns-then-is_single-clause-valid : goal.returns-then-is_single-clause-valid
returns-then-is_single-clause-valid t c = c.choose.ensures.valid

pub returns-then-is_single-clause-flanks : goal.returns-then-is_single-clause-flanks
returns-then-is_single-clause-flanks t c =
    record { before = c.in_ok-arms.ensures.flanks.before; after = c.in_ok-arms.ensures.flanks.after }

pub returns-then-is_single-clause-kept_before : goal.returns-then-is_single-clause-kept_before
returns-then-is_single-clause-kept_before t c = c.in_ok-arms.ensures.kept_before

pub returns-then-is_single-clause-kept_after : goal.returns-then-is_single-clause-kept_after
returns-then-is_single-clause-kept_after t c = c.in_ok-arms.ensures.kept_after

pub ordered-requires-clause-inside : goal.ordered-requires-clause-inside
ordered-requires-clause-inside t c = c.requires.inside

pub returns-then-not-is_done-clause-valid : goal.returns-then-not-is_done-clause-valid
returns-then-not-is_done-clause-valid t c = c.in_ok-stop.ensures.valid

pub returns-then-not-is_done-clause-flanks : goal.returns-then-not-is_done-clause-flanks
returns-then-not-is_done-clause-flanks t c = c.in_ok-stop.ensures.flanks

pub returns-clause-valid : goal.returns-clause-valid
returns-clause-valid t c = c.in_ok-stop-2.ensures.valid

pub returns-clause-flanks : goal.returns-clause-flanks
returns-clause-flanks t c = c.in_ok-stop-2.ensures.flanks

pub narrow-requires-clause-middle : goal.narrow-requires-clause-middle
narrow-requires-clause-middle t c = record { within = c.requires.inside; hull = c.hull.ensures.value }

pub returns-in_default-clause-halted : goal.returns-in_default-clause-halted
returns-in_default-clause-halted t c =
    none-narrowed c.args.hulls.now c.args.sides.now (ends c.args.span) c.args.self.now.best c.narrow.new.self c.args.before c.args.after c.in_ok-arms.field-0 c.in_default.is c.narrow.ensures.best
    c.in_ok-arms.ensures.narrowed

pub choose-requires-clause-order : goal.choose-requires-clause-order
choose-requires-clause-order t c =
    let single : c.args.span.lo ≡ c.args.span.hi = c.is_single.ensures.0 c.if-is_single.true in
    let is = is-narrowed c.args.hulls.now c.args.sides.now (ends c.args.span) c.args.self.now.best.total c.narrow.new.self c.args.before c.args.after c.in_ok-arms.field-0 c.in-Some.arms c.in-Some.is
    c.in_ok-arms.ensures.narrowed in
    order-single c.args.hulls.now c.args.goal.now.hulls c.args.sides.now (ends c.args.span) c.narrow.new.self c.args.before c.args.after c.in-Some.arms c.requires.same c.requires.sides single is

pub ordered-requires-clause-before : goal.ordered-requires-clause-before
ordered-requires-clause-before t c =
    (is-narrowed c.args.hulls.now c.args.sides.now (ends c.args.span) c.args.self.now.best.total c.narrow.new.self c.args.before c.args.after c.in_ok-arms.field-0 c.in-Some.arms c.in-Some.is
    c.in_ok-arms.ensures.narrowed).top_before.inner_in

pub ordered-requires-clause-after : goal.ordered-requires-clause-after
ordered-requires-clause-after t c =
    (is-narrowed c.args.hulls.now c.args.sides.now (ends c.args.span) c.args.self.now.best.total c.narrow.new.self c.args.before c.args.after c.in_ok-arms.field-0 c.in-Some.arms c.in-Some.is
    c.in_ok-arms.ensures.narrowed).top_after.inner_in

pub returns-then-is_single-clause-raised : goal.returns-then-is_single-clause-raised
returns-then-is_single-clause-raised t c = kept-raised c.args.self.now.best c.narrow.new.self.best c.choose.new.best.total c.narrow.ensures.best c.choose.ensures.raised

pub returns-then-not-is_done-clause-raised : goal.returns-then-not-is_done-clause-raised
returns-then-not-is_done-clause-raised t c = kept-raised c.args.self.now.best c.narrow.new.self.best c.middle.new.self.best.total c.narrow.ensures.best c.in_ok-stop.ensures.raised

pub returns-clause-raised : goal.returns-clause-raised
returns-clause-raised t c =
    kept-raised-twice c.args.self.now.best c.narrow.new.self.best c.middle.new.self.best.total c.middle-2.new.self.best.total c.narrow.ensures.best c.in_ok-stop.ensures.raised
    c.in_ok-stop-2.ensures.raised

pub returns-in_default-clause-raised : goal.returns-in_default-clause-raised
returns-in_default-clause-raised t c = kept-best c.args.self.now.best c.narrow.new.self.best c.narrow.ensures.best

pub ordered-requires-clause-cut : goal.ordered-requires-clause-cut
ordered-requires-clause-cut t c = span-cut c.args.span.lo c.args.span.hi c.is_single.result c.args.span.ordered c.is_single.ensures.1 c.if-is_single.false
