-- What contracts see of a hand and of a pass: the deque that it belongs to, and what it knows.
use Rattle.std.specs.declared.alloc.Global.{Global}
use Rattle.atomic_blocks.specs.Lent.{RowsId}
use Rattle.crossbeam_deque.specs.Handles.{stealer_deque, view, worker_deque, worker_view}
use Rattle.gl_deal.specs.declared.hand.Hand.{Hand}
use Rattle.gl_deal.specs.declared.pass.Pass.{Pass}
use Rattle.gl_deal.specs.declared.view.HandView.{HandView}
use Rattle.gl_deal.specs.declared.view.PassView.{PassView}
use Rattle.gl_deal.specs.Views.{as_hand, as_pass}

-- which deque it is
abbrev pub Deque : Type 0
Deque = RowsId × Global

abbrev pub hand_deque : Hand → Deque
hand_deque hand = worker_deque hand.worker

abbrev pub hand_view : Hand → HandView
hand_view hand = as_hand (worker_view hand.worker)

abbrev pub pass_deque : Pass → Deque
pass_deque pass = stealer_deque pass.stealer

abbrev pub pass_view : Pass → PassView
pass_view pass = as_pass (view pass.token)

-- the deque of a pass, and what the pass knows
abbrev pub end_of : Pass → Deque × PassView
end_of pass = (pass_deque pass, pass_view pass)
