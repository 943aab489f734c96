use Rattle.std.proofs.Common.{◌≡◌, ◌∙◌, ap, sym, ℕ, List, [], ◌++◌, take, drop, arith, length, Result, Ok, Err, IfOk, Vec, Global}
use Rattle.std.specs.declared.alloc.AllocError.{AllocError}
use Rattle.gl_deal.specs.declared.hand.Hand.{Hand}
use Rattle.gl_deal.specs.declared.place.Place.{Place}
use Rattle.std.proofs.lemmas.List.{drop_all}
use lib.Seq.{take-append_seam}
use Rattle.gl_deal.proofs.Turns.{places_dealt}
use Rattle.gl_deal.proofs.dealing.deal.Goals as goal

-- what follows from two facts of a result follows of the result
if_both : (result : Result (Vec Place Global) AllocError) (P Q R : Vec Place Global → Type 0) → ((places : Vec Place Global) → P places → Q places → R places) → IfOk result P → IfOk result Q
    → IfOk result R
if_both (Ok places) P Q R both p q = both places p q
if_both (Err error) P Q R both p q = tt

-- a list that was lent whole and is as long as before is what stands there
lent : (many : ℕ) (new old : List Hand) → length new ≡ length old → many ≡ length old → take many (new ++ drop (length new) old) ≡ new
lent many new old same is =
    ap (λ rest. take many (new ++ rest)) (drop_all (length new) old (omega arith))
    ∙ ap (λ n. take n (new ++ [])) (is ∙ sym same)
    ∙ take-append_seam new []

pub returns : goal.returns
returns c =
    let e = c.in_ok-piles.ensures in
    let lone : c.as_mut_slice.result.now ≡ c.in_ok-hands.hands.items = c.as_mut_slice.ensures.value in
    let back = lent c.in_ok-hands.hands.len c.all_passes.new.hands c.in_ok-hands.hands.items (c.all_passes.auto.hands ∙ ap length lone) c.in_ok-hands.hands.ok.0 in
    if_both c.paired.result _ _ _
    (λ places hands piles. places_dealt c.args.workers c.as_mut_slice.result.now c.all_passes.new.hands c.in_ok-piles.piles.items places.items
    (ap length lone ∙ c.in_ok-hands.ensures.count) e.deques e.hands e.count e.piles (hands ∙ back) piles)
    c.paired.ensures.hands c.paired.ensures.piles
