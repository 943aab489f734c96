use Rattle.std.proofs.Common.{◌≡◌, ◌∙◌, sym, subst, ◌+◌, ◌<◌, ℕ, List, length, take, get_or, arith}
use Rattle.std.proofs.lemmas.List.{get_or-take, length-take}
use Rattle.gl_box.specs.Cell.{ends}
use Rattle.gl_goal.specs.Near.{IsPlaceOf}
use Rattle.gl_free.specs.declared.candidate.Candidate.{Candidate}
use Rattle.gl_free.specs.Code.Candidates.{IsAmong, IsCandidate, Sifts}
use Rattle.gl_free.proofs.SiftLemmas.{among-next, among-none, grown-at, sifts-empty, sifts-parts}
use Rattle.gl_free.proofs.flank.Flank.refine.Goals as goal

pub loop-at-init : goal.loop-at-init
loop-at-init c =
    let old = c.args.self.now.candidates.items in
    let middle = ends c.args.middle.now.span in
    let kind : ℕ → Type 0 = IsAmong (take c.args.part.from old) c.args.part.from in
    let Q : List Candidate → Type 0 = λ new. Sifts c.args.hulls.now c.args.allowed.now middle c.args.need kind (take c.args.part.to old) new 0 (record { most = 0; inner = 0; end = 0 }) in
    record {
      flank = record { few = c.requires.flank.few; sized = c.requires.flank.sized; known = c.requires.flank.known };
      sifts = subst Q (sym c.truncate.ensures.items) (sifts-empty c.args.hulls.now c.args.allowed.now middle c.args.need kind (take c.args.part.to old) (omega (arith, c.requires.middle.within))
          (λ inner. among-none old c.args.part.from inner));
    }

pub index-candidate-requires : goal.index-candidate-requires
index-candidate-requires c =
    omega (arith, c.loop-at.invariant.sifts.grows.longer, length-take c.args.part.to c.args.self.now.candidates.items, c.requires.part.within, c.loop-at-test.true, c.loop-at.self.candidates.ok.0)

pub sift-requires-clause-candidate : goal.sift-requires-clause-candidate
sift-requires-clause-candidate c =
    let fixes = c.args.hulls.now in
    let middle = ends c.args.middle.now.span in
    let front = take c.args.part.to c.args.self.now.candidates.items in
    let at = c.loop-at.at in
    let candidate = c.index-candidate.result.now in
    let below : at < length front = omega (arith, length-take c.args.part.to c.args.self.now.candidates.items, c.requires.part.within) in
    subst (IsCandidate fixes c.args.allowed.now middle)
    (sym (grown-at fixes c.args.allowed.now middle front c.loop-at.self.candidates.items at candidate c.loop-at.invariant.sifts.grows below) ∙ sym c.index-candidate.ensures)
    (c.requires.part.candidates at candidate c.loop-at.auto.at below)

pub loop-at-preserved : goal.loop-at-preserved
loop-at-preserved c =
    let fixes = c.args.hulls.now in
    let allowed = c.args.allowed.now in
    let middle = ends c.args.middle.now.span in
    let old = c.args.self.now.candidates.items in
    let front = take c.args.part.to old in
    let from = c.args.part.from in
    let at = c.loop-at.at in
    let candidate = c.index-candidate.result.now in
    let below : at < length front = omega (arith, length-take c.args.part.to old, c.requires.part.within) in
    let there : get_or old at candidate ≡ candidate =
    sym (get_or-take c.args.part.to old at candidate c.loop-at-test.true)
    ∙ sym (grown-at fixes allowed middle front c.loop-at.self.candidates.items at candidate c.loop-at.invariant.sifts.grows below) ∙ sym c.index-candidate.ensures in
    record {
      flank = c.in_ok-sift.ensures.flank;
      sifts = sifts-parts fixes allowed middle c.args.need (IsAmong (take (at + 1) old) from) (IsAmong (take at old) from)
          (IsPlaceOf (ends candidate.span)) front c.loop-at.self.candidates.items c.sift.new.self.candidates.items 0 c.loop-at.arm c.sift.new.arm
          (λ inner among. among-next old at from inner candidate (omega (arith, c.requires.part.within)) there among)
          c.loop-at.invariant.sifts c.in_ok-sift.ensures.sifts;
    }

pub returns-clause-sifts : goal.returns-clause-sifts
returns-clause-sifts c =
    let old = c.args.self.now.candidates.items in
    let done : c.loop-at.at ≡ c.args.part.to = omega (arith, c.loop-at.auto.at-end c.requires.part.ordered) in
    let Q : ℕ → Type 0 = λ at. Sifts c.args.hulls.now c.args.allowed.now (ends c.args.middle.now.span) c.args.need (IsAmong (take at old) c.args.part.from)
    (take c.args.part.to old) c.loop-at.self.candidates.items 0 c.loop-at.arm in
    subst Q done c.loop-at.invariant.sifts
