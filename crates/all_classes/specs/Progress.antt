-- What the frames of the first classes leave behind them.
use Rattle.std.specs.Prelude.{◌≡◌, ◌<◌, ◌≤◌, ℕ, Bool, List, [], length, Option, String, string_bytes, ◌++◌, ◌≢◌, MatchOption}
use Rattle.answer_kit.specs.declared.reply.Reply.{Reply}
use Rattle.answer_kit.specs.declared.reply.Reply.TheVariants.{NoMemory}
use Rattle.answer_kit.specs.Outcome.{Outcome}
use Rattle.answer_kit.specs.Replies.{told_by}
use Rattle.endings.specs.declared.ending.Ending.{Ending}
use Rattle.endings.specs.Meets.{Tells}
use Rattle.endings.specs.Telling.{Telling}
use Rattle.io_kit.specs.Ends.{Rose, Took, TookPart}
use Rattle.all_classes.specs.declared.frame.Frame.{Frame}
use Rattle.all_classes.specs.declared.frame.Said.{Said}
use Rattle.all_classes.specs.declared.request.Asked.{Asked}
use Rattle.all_classes.specs.Frames.{all_done, frame, frames, is_done, said, AreAllowed}
use Rattle.all_classes.specs.Tellings.{HasFrames}

-- the outcome that a reply for a class stands for
abbrev pub outcome_of : Reply → Outcome
outcome_of reply = told_by reply [] []

-- the status of the reply's outcome, and what it writes
pub record IsSaid (reply : Reply) (s : Said) : Type 0 where
  pub some : reply ≢ NoMemory
  pub status : s.status ≡ (outcome_of reply).status
  pub text : s.text.items ≡ said (outcome_of reply)

-- the frame of the reply's outcome
pub record IsFrame (number : ℕ) (reply : Reply) (f : Frame) : Type 0 where
  pub some : reply ≢ NoMemory
  pub bytes : string_bytes f.head ++ f.text.items ≡ frame number (outcome_of reply)
  pub done : f.done ≡ is_done (outcome_of reply).status

-- so many frames were put, and whether each outcome of them is done
pub record HasPut (IsAllowed : ℕ → Outcome → Type 0) (from count : ℕ) (done : Bool) (old new : Option (List ℕ)) : Type 0 where
  pub outcomes : List Outcome
  pub are : AreAllowed IsAllowed from outcomes
  pub many : length outcomes ≡ count
  pub done_is : done ≡ all_done outcomes
  pub took : Took old new (frames from outcomes)

-- fewer were put
pub record HasPutFew (IsAllowed : ℕ → Outcome → Type 0) (from count : ℕ) (old new : Option (List ℕ)) : Type 0 where
  pub outcomes : List Outcome
  pub are : AreAllowed IsAllowed from outcomes
  pub few : length outcomes < count
  pub took : Took old new (frames from outcomes)

-- a part of at most so many was put
pub record HasPutPart (IsAllowed : ℕ → Outcome → Type 0) (from count : ℕ) (old new : Option (List ℕ)) : Type 0 where
  pub outcomes : List Outcome
  pub are : AreAllowed IsAllowed from outcomes
  pub few : length outcomes ≤ count
  pub part : TookPart old new (frames from outcomes)

-- something that has its cause is reported of the classes that are asked
pub record TellsFrames (IsAllowed : ℕ → Outcome → Type 0) (asked : Asked) (classes : ℕ) (result : Ending)
    (out_old out_new : Option (List ℕ)) (out_before out_now : ℕ) (err_old err_new : Option (List ℕ)) (err_before err_now : ℕ) : Type 0 where
  pub telling : Telling
  pub cause : HasFrames IsAllowed asked classes result telling
  pub told : Tells telling result out_old out_new out_before out_now err_old err_new err_before err_now
