use Rattle.std.proofs.Common.{rules, ◌≡◌, List, [], ◌∷◌, ℕ, arith}
use Rattle.gl_box.specs.Halves.{AreHalves}
use Rattle.gl_box.specs.Frontier.{mult}
use Rattle.gl_box.proofs.Parts.{mult-append, mult-halves}
use Rattle.gl_box.proofs.halves.split.Goals as goal

both : (cell lower upper : List (ℕ × ℕ)) (tuple : List ℕ) → AreHalves cell lower upper → mult (lower ∷ upper ∷ []) tuple ≡ mult (cell ∷ []) tuple
both cell lower upper tuple halves = omega (arith, mult-append (lower ∷ []) (upper ∷ []) tuple, mult-halves cell lower upper tuple halves)

pub returns-clause-parted : goal.returns-clause-parted
returns-clause-parted c tuple = both _ _ _ tuple (search rules)
