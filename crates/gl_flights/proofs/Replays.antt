-- What is said of a search by written steps.
use Rattle.std.proofs.Common.{◌≡◌, refl, subst, inl, ℕ, List, ◌++◌, Option, None, Some, Ok, Vec, codes}
use Rattle.std.specs.Prelude.{◌↔◌, IsNone}
use Rattle.std.specs.declared.alloc.Global.{Global}
use Rattle.gl_desk.specs.Desk.{FilesByName}
use Rattle.gl_igc.specs.declared.recording.Recording.{Recording}
use Rattle.gl_goal.specs.Goal.{HasNoLegal, IsLegal, Goal}
use Rattle.gl_goal.specs.declared.best.Best.{Best}
use Rattle.gl_replay.specs.declared.replayed.Replayed.{Replayed}
use Rattle.gl_replay.specs.declared.schedule.Step.{Step}
use Rattle.gl_replay.specs.Replayed.{IsReplay}
use Rattle.gl_words.specs.Words.{ReplayWords}
use Rattle.gl_answer.specs.FileTests.{HasTested}
use Rattle.gl_flights.specs.ReplayFiles.{AreReplayRead, IsReplaySeen, replay_tests}
use Rattle.gl_answer.specs.declared.status.Status.TheVariants.{Done}
use Rattle.gl_answer.specs.Answer.{saying}
use Rattle.gl_flights.specs.Best.{IsBestText}
use Rattle.gl_flights.specs.Replay.{IsReplay as IsReplayAnswer, IsReplayOf, IsReplayText, closed_line}

-- a goal with a legal tuple has a best one
pub some_best : (rule : Goal) (best : Option Best) (tuple : List ℕ) → IsNone best ↔ HasNoLegal rule → IsLegal rule tuple → best ≡ None → ⊥
some_best rule None tuple none legal missing = none.0 refl tuple legal
some_best rule (Some best) tuple none legal missing = cc

-- the text of the best and of the boxes that the steps closed, for another name of the goal
pub replay_text : (rule goal : Goal) (workers : ℕ) (steps : List Step) (replayed : Replayed) (best said : List ℕ) → rule ≡ goal → IsBestText rule (codes "FREE") best
    → IsReplay rule workers steps replayed → said ≡ best ++ closed_line replayed.by_steps → IsReplayText goal workers steps said
replay_text rule goal workers steps replayed best said same is made text =
    subst (λ (r : Goal). IsReplayText r workers steps said) same (record {
      best = best;
      is_best = is;
      count = replayed.by_steps;
      closed = record { state = made.state; after = made.after; only = made.only; is = made.by_steps };
      is = text;
    })

-- the answer for files that passed
pub replay_answered : (folder : Option FilesByName) (words : ReplayWords) (recording : Recording) (steps : Vec Step Global) (text : List ℕ)
    → HasTested (IsReplaySeen words folder) (replay_tests words) AreReplayRead (Ok (recording, steps)) → IsReplayOf recording words.workers steps.items text
    → IsReplayAnswer folder words (saying Done text)
replay_answered folder words recording steps text (seen, is, passes, read) says =
    (seen, is, inl (passes, ((recording, steps), read, text, says, refl)))
