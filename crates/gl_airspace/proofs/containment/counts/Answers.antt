use Rattle.std.proofs.Common.{◌≡◌, ◌∙◌, sym, Bool, true, false, refl, w32, rules, FitsSigned}
use Rattle.std.specs.Prelude.{int_lt}
use Rattle.std.proofs.lemmas.Int.{to_z-of_z}
use mathlib.Core.Bool.{beq}
use Rattle.gl_airspace.proofs.Edges.{none_on_one_side, counts_up, counts_down}
use Rattle.gl_airspace.proofs.containment.counts.Goals as goal

beq_same : (a b : Bool) → beq a b ≡ true → a ≡ b
beq_same true true h = refl
beq_same true false h = cc
beq_same false true h = cc
beq_same false false h = refl

beq_other : (a b : Bool) → b ≡ true → beq a b ≡ false → a ≡ false
beq_other true true e h = cc
beq_other true false e h = cc
beq_other false b e h = refl

beq_another : (a b : Bool) → b ≡ false → beq a b ≡ false → a ≡ true
beq_another true b e h = refl
beq_another false true e h = cc
beq_another false false e h = cc

pub returns-then-is_from_above-is_to_above : goal.returns-then-is_from_above-is_to_above
returns-then-is_from_above-is_to_above c =
    let p : FitsSigned w32 c.args.place.lat = search rules in
    let f : FitsSigned w32 c.args.from.lat = search rules in
    let t : FitsSigned w32 c.args.to.lat = search rules in
    let same : beq (int_lt c.args.place.lat c.args.from.lat) (int_lt c.args.place.lat c.args.to.lat) ≡ true = simp to_z-of_z at c.if-is_from_above-is_to_above.true in
    sym (none_on_one_side c.args.place c.args.from c.args.to (beq_same (int_lt c.args.place.lat c.args.from.lat) (int_lt c.args.place.lat c.args.to.lat) same))

pub returns-then-is_to_above : goal.returns-then-is_to_above
returns-then-is_to_above c =
    let p : FitsSigned w32 c.args.place.lat = search rules in
    let f : FitsSigned w32 c.args.from.lat = search rules in
    let t : FitsSigned w32 c.args.to.lat = search rules in
    let above : int_lt c.args.place.lat c.args.to.lat ≡ true = simp to_z-of_z at c.if-is_to_above.true in
    let other : beq (int_lt c.args.place.lat c.args.from.lat) (int_lt c.args.place.lat c.args.to.lat) ≡ false = simp to_z-of_z at c.if-is_from_above-is_to_above.false in
    c.is_west_of.ensures
    ∙ sym (counts_up c.args.place c.args.from c.args.to (beq_other (int_lt c.args.place.lat c.args.from.lat) (int_lt c.args.place.lat c.args.to.lat) above other) above)

pub returns-else-is_to_above : goal.returns-else-is_to_above
returns-else-is_to_above c =
    let p : FitsSigned w32 c.args.place.lat = search rules in
    let f : FitsSigned w32 c.args.from.lat = search rules in
    let t : FitsSigned w32 c.args.to.lat = search rules in
    let below : int_lt c.args.place.lat c.args.to.lat ≡ false = simp to_z-of_z at c.if-is_to_above.false in
    let other : beq (int_lt c.args.place.lat c.args.from.lat) (int_lt c.args.place.lat c.args.to.lat) ≡ false = simp to_z-of_z at c.if-is_from_above-is_to_above.false in
    c.is_west_of-else-is_to_above.ensures
    ∙ sym (counts_down c.args.place c.args.from c.args.to (beq_another (int_lt c.args.place.lat c.args.from.lat) (int_lt c.args.place.lat c.args.to.lat) below other) below)
