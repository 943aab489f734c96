-- What a check of the boxes of a claim has seen.
use Rattle.std.specs.Prelude.{ℕ, List, ⊤}
use Rattle.gl_box.specs.declared.checking.BoxCheck.{BoxCheck}
use Rattle.gl_box.specs.Passing.{IsChecking}
use Rattle.gl_near.specs.declared.boxes.PairTest.{PairTest}
use Rattle.gl_near.specs.declared.found.NearWhy.{NearWhy}
use Rattle.gl_near.specs.Pairing.{whole_cell}
use Rattle.gl_near.specs.Pairs.{pairing_of}
use Rattle.gl_near.specs.Verdict.{IsBoxClosed}

-- a check of boxes of pairs has taken these, and can go on
abbrev pub HasTaken : List (List (ℕ × ℕ) × NearWhy) → BoxCheck PairTest (Unit {0}) → Type 0
HasTaken boxes check =
    IsChecking (λ test. whole_cell (pairing_of test.pairs.now))
    (λ test. IsBoxClosed (pairing_of test.pairs.now) test.best) (λ test room. ⊤) boxes check
