use Rattle.std.proofs.Common.{◌≡◌, sym, subst, Some, List, [], ◌∷◌, ◌++◌, Vec, Global}
use Rattle.std.proofs.lemmas.List.Elements.{All-nil, All-pop}
use Rattle.gl_box.specs.Cell.{Covers, spans_of}
use Rattle.gl_near.specs.Certificate.{IsSound}
use Rattle.gl_near.specs.Pairing.{Pairing, whole_cell}
use Rattle.gl_near.specs.Pairs.{pairing_of}
use Rattle.gl_near.specs.Code.Search.{AreWithin}
use Rattle.gl_near.specs.declared.dive.Candidate.{Candidate}
use Rattle.gl_near.proofs.Stack.{within_some}
use Rattle.gl_near.proofs.dive.dive.Goals as goal
use Rattle.gl_near.proofs.dive.dive.Goals.{then-is_none_or+in_ok-look, else-is_none_or}

-- the top and what is below it lie in the whole cell
popped : (pairing : Pairing) (all rest : List Candidate) (top : Candidate) → all ≡ rest ++ top ∷ [] → AreWithin pairing all → AreWithin pairing rest × Covers (whole_cell pairing) (spans_of top.cell)
popped pairing all rest top is within = All-pop (λ (candidate : Candidate). Covers (whole_cell pairing) (spans_of candidate.cell)) all rest (Some top) is within

pub returns-in_err-push_some : goal.returns-in_err-push_some
returns-in_err-push_some c = record { sound = c.requires.sound }

pub loop-init : goal.loop-init
loop-init c =
    let pairing = pairing_of c.args.pairs.now in
    let none = subst (AreWithin pairing) (sym c.clear.ensures.items) (All-nil (λ (candidate : Candidate). Covers (whole_cell pairing) (spans_of candidate.cell))) in
    record {
      sound = c.requires.sound;
      within = within_some pairing c.clear.new.self.items c.push_some.new.candidates.items c.tested.result c.args.cell.now none c.requires.covers c.tested.ensures c.in_ok-push_some.ensures;
    }

pub returns-in_default : goal.returns-in_default
returns-in_default c = record { sound = c.loop.invariant.sound }

pub look-requires-clause-covers : goal.look-requires-clause-covers
look-requires-clause-covers c =
    (popped (pairing_of c.args.pairs.now) c.loop.candidates.items c.pop.new.self.items c.in-Some.top c.in-Some.ensures.items c.loop.invariant.within).1

pub look-requires-clause-sound : goal.look-requires-clause-sound
look-requires-clause-sound c = c.loop.invariant.sound

pub look-requires-clause-within : goal.look-requires-clause-within
look-requires-clause-within c =
    (popped (pairing_of c.args.pairs.now) c.loop.candidates.items c.pop.new.self.items c.in-Some.top c.in-Some.ensures.items c.loop.invariant.within).0

pub returns-in_err-look : goal.returns-in_err-look
returns-in_err-look c = record { sound = c.look.ensures.sound }

pub loop-preserved : goal.loop-preserved
loop-preserved c =
    let pairing = pairing_of c.args.pairs.now in
    let P : Vec Candidate Global → Type 0 = λ candidates. AreWithin pairing candidates.items in
    let kept : IsSound pairing c.if-is_none_or.best × AreWithin pairing c.if-is_none_or.candidates.items = elim c.if-is_none_or.branch [
      | then-is_none_or+in_ok-look w ↦ (subst (IsSound pairing) (sym w.best-is) w.look.ensures.sound, subst P (sym w.candidates-is) w.in_ok-look.ensures.within)
      | else-is_none_or w ↦ (
        subst (IsSound pairing) (sym w.best-is) c.loop.invariant.sound,
        subst P (sym w.candidates-is) (popped pairing c.loop.candidates.items c.pop.new.self.items c.in-Some.top c.in-Some.ensures.items c.loop.invariant.within).0,
      )
    ] in
    record { sound = kept.0; within = kept.1 }

pub returns : goal.returns
returns c = record { sound = c.loop.invariant.sound }
