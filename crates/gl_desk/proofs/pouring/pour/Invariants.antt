use Rattle.std.proofs.Common.{◌≡◌, ℕ, ◌+◌, ◌-◌, ◌≤◌, List, ◌++◌, length, None, vec_len}
use Rattle.gl_desk.specs.Answers.{OnlyReads}
use Rattle.gl_desk.specs.Desk.{OnFile}
use Rattle.gl_desk.specs.declared.pouring.TheConstants.{PIECE}
use Rattle.gl_desk.proofs.Pieces.{IsFirstPart}
use Rattle.gl_desk.proofs.pouring.pour.Given as goal

-- the bytes so far are the file's first ones and were taken, and the desk was only read
abbrev pub invariant-pieces : goal.invariant-pieces
invariant-pieces g l = record {
  room : vec_len l.piece ≡ PIECE;
  fits : l.count ≤ l.limit;
  bytes : List ℕ;
  counted : l.count ≡ length bytes;
  so_far : OnFile (g.D.Desk.told l.fn.desk).folder l.name (IsFirstPart bytes l.count);
  taken : (text : List ℕ) → g.T.Taker.stands_for l.fn.to text → g.T.Taker.stands_for l.to (text ++ bytes);
  tag : g.T.Taker.tag l.to ≡ g.T.Taker.tag l.fn.to;
  reads : OnlyReads None (g.D.Desk.told l.fn.desk) (g.D.Desk.told l.desk);
}

abbrev pub decreases-pieces : goal.decreases-pieces
decreases-pieces g l = l.limit + 1 - l.count
