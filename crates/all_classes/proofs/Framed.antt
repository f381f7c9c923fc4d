-- Frames, one behind the other.
use Rattle.std.proofs.Common.{◌≡◌, ◌≢◌, ◌≤◌, ◌<◌, ℕ, suc, ◌+◌, ◌-◌, Bool, true, false, ◌&&◌, List, [], ◌∷◌, ◌++◌, length, length-append, refl, sym, ap, ◌∙◌, subst, append_assoc, arith, Option, Vec, Global}
use Rattle.std.specs.Prelude.{String, string_bytes}
use Rattle.std.proofs.lemmas.List.{append-nil}
use Rattle.io_kit.specs.Ends.{Took, TookPart, with_end}
use Rattle.io_kit.proofs.Pieces.{part_behind, took_both, took_nothing}
use Rattle.answer_kit.specs.declared.reply.Reply.{Reply}
use Rattle.answer_kit.specs.declared.reply.Reply.TheVariants.{Output, Refusal, NotStable, Misuse, ReadFailed, SecondFailed, NoMemory}
use Rattle.answer_kit.specs.declared.status.Status.{Status}
use Rattle.answer_kit.specs.declared.status.Status.TheVariants as status
use Rattle.answer_kit.specs.Outcome.{Outcome, code_of}
use Rattle.answer_kit.specs.Replies.{Answers}
use Rattle.all_classes.specs.declared.frame.Frame.{Frame}
use Rattle.all_classes.specs.declared.frame.Said.{Said}
use Rattle.all_classes.specs.Frames.{all_done, frame, frames, head, is_done, said, AreAllowed}
use Rattle.all_classes.specs.Progress.{outcome_of, HasPut, HasPutFew, HasPutPart, IsFrame, IsSaid}

-- ---- one reply

pub said_output : (reply : Reply) (text : Vec ℕ Global) → reply ≡ Output text → IsSaid reply (record { status = status.Done; text = text })
said_output reply text is =
    subst (λ (r : Reply). IsSaid r (record { status = status.Done; text = text })) (sym is) (record { some = λ e. cc; status = refl; text = refl })

pub said_refusal : (reply : Reply) (reason text : Vec ℕ Global) → reply ≡ Refusal reason → text.items ≡ said (outcome_of (Refusal reason))
    → IsSaid reply (record { status = status.Refused; text = text })
said_refusal reply reason text is line =
    subst (λ (r : Reply). IsSaid r (record { status = status.Refused; text = text })) (sym is) (record { some = λ e. cc; status = refl; text = line })

pub said_not_stable : (reply : Reply) (reason text : Vec ℕ Global) → reply ≡ NotStable reason → text.items ≡ said (outcome_of (NotStable reason))
    → IsSaid reply (record { status = status.NotStable; text = text })
said_not_stable reply reason text is line =
    subst (λ (r : Reply). IsSaid r (record { status = status.NotStable; text = text })) (sym is) (record { some = λ e. cc; status = refl; text = line })

pub framed : (number code size : ℕ) (reply : Reply) (s : Said) (before : String Global) (done : Bool) → IsSaid reply s → code ≡ code_of s.status
    → size ≡ length s.text.items → string_bytes before ≡ head number code size → done ≡ is_done s.status
    → IsFrame number reply (record { head = before; text = s.text; done = done })
framed number code size reply s before done is coded sized line ended = record {
  some = is.some;
  bytes =
      ap (λ (l : List ℕ). l ++ s.text.items) (line ∙ ap (λ (k : ℕ). head number k size) coded ∙ ap (head number (code_of s.status)) sized)
      ∙ ap (λ (l : List ℕ). head number (code_of s.status) (length l) ++ l) is.text
      ∙ ap (λ (x : Status). head number (code_of x) (length (said (outcome_of reply))) ++ said (outcome_of reply)) is.status;
  done = ended ∙ ap is_done is.status;
}

allowed_outcome : (reply : Reply) (A : Outcome → Type 0) → reply ≢ NoMemory → Answers reply A ⊥ ⊥ → A (outcome_of reply)
allowed_outcome (Output bytes) A some answers = answers
allowed_outcome (Refusal reason) A some answers = answers
allowed_outcome (NotStable reason) A some answers = answers
allowed_outcome Misuse A some answers = absurd answers
allowed_outcome ReadFailed A some answers = absurd answers
allowed_outcome SecondFailed A some answers = absurd answers
allowed_outcome NoMemory A some answers = absurd (some refl)

and_true : (b : Bool) → b ≡ (b && true)
and_true true = refl
and_true false = refl

-- the frame of a reply was put
pub put_one : (A : ℕ → Outcome → Type 0) (number : ℕ) (reply : Reply) (f : Frame) (old new : Option (List ℕ)) → IsFrame number reply f
    → Answers reply (A number) ⊥ ⊥ → Took old new (string_bytes f.head ++ f.text.items) → HasPut A number 1 f.done old new
put_one A number reply f old new is answers took = record {
  outcomes = outcome_of reply ∷ [];
  are = (allowed_outcome reply (A number) is.some answers, tt);
  many = refl;
  done_is = is.done ∙ and_true (is_done (outcome_of reply).status);
  took = took ∙ ap (with_end old) (is.bytes ∙ sym (append-nil (frame number (outcome_of reply))));
}

pub part_one : (A : ℕ → Outcome → Type 0) (number : ℕ) (reply : Reply) (f : Frame) (old new : Option (List ℕ)) → IsFrame number reply f
    → Answers reply (A number) ⊥ ⊥ → TookPart old new (string_bytes f.head ++ f.text.items) → HasPutPart A number 1 old new
part_one A number reply f old new is answers part = record {
  outcomes = outcome_of reply ∷ [];
  are = (allowed_outcome reply (A number) is.some answers, tt);
  few = omega arith;
  part = subst (TookPart old new) (is.bytes ∙ sym (append-nil (frame number (outcome_of reply)))) part;
}

-- ---- frames behind frames

frames_behind : (number : ℕ) (os ps : List Outcome) → frames number (os ++ ps) ≡ frames number os ++ frames (number + length os) ps
frames_behind number [] ps = ap (λ (k : ℕ). frames k ps) (omega arith)
frames_behind number (o ∷ os) ps =
    let same : number + 1 + length os ≡ number + suc (length os) = omega arith in
    ap (λ (l : List ℕ). frame number o ++ l) (frames_behind (number + 1) os ps ∙ ap (λ (k : ℕ). frames (number + 1) os ++ frames k ps) same)
    ∙ sym (append_assoc (frame number o) (frames (number + 1) os) (frames (number + suc (length os)) ps))

allowed_behind : (A : ℕ → Outcome → Type 0) (number : ℕ) (os ps : List Outcome) → AreAllowed A number os → AreAllowed A (number + length os) ps
    → AreAllowed A number (os ++ ps)
allowed_behind A number [] ps are more = (let same : number + 0 ≡ number = omega arith in subst (λ (k : ℕ). AreAllowed A k ps) same more)
allowed_behind A number (o ∷ os) ps are more =
    let same : number + suc (length os) ≡ number + 1 + length os = omega arith in
    (are.0, allowed_behind A (number + 1) os ps are.1 (subst (λ (k : ℕ). AreAllowed A k ps) same more))

and_behind : (a b c : Bool) → (a && (b && c)) ≡ ((a && b) && c)
and_behind true b c = refl
and_behind false b c = refl

done_behind : (os ps : List Outcome) → all_done (os ++ ps) ≡ (all_done os && all_done ps)
done_behind [] ps = refl
done_behind (o ∷ os) ps = ap (λ (b : Bool). is_done o.status && b) (done_behind os ps) ∙ and_behind (is_done o.status) (all_done os) (all_done ps)

pub none_put : (A : ℕ → Outcome → Type 0) (from : ℕ) (old : Option (List ℕ)) → HasPut A from 0 true old old
none_put A from old = record { outcomes = []; are = tt; many = refl; done_is = refl; took = took_nothing old }

-- where the next of them stands
next_at : (from n : ℕ) (os : List Outcome) → from ≤ n → length os ≡ n - from → n ≡ from + length os
next_at from n os le many = omega (arith, le, many)

-- one more was put
pub put_more : (A : ℕ → Outcome → Type 0) (from n : ℕ) (d e both : Bool) (old mid new : Option (List ℕ)) → from ≤ n → HasPut A from (n - from) d old mid
    → HasPut A n 1 e mid new → both ≡ (d && e) → HasPut A from (n + 1 - from) both old new
put_more A from n d e both old mid new le first then is =
    let at : n ≡ from + length first.outcomes = next_at from n first.outcomes le first.many in
    record {
      outcomes = first.outcomes ++ then.outcomes;
      are = allowed_behind A from first.outcomes then.outcomes first.are (subst (λ (k : ℕ). AreAllowed A k then.outcomes) at then.are);
      many = omega (arith, length-append first.outcomes then.outcomes, first.many, then.many, le);
      done_is =
          is ∙ ap (λ (b : Bool). b && e) first.done_is ∙ ap (λ (b : Bool). all_done first.outcomes && b) then.done_is
          ∙ sym (done_behind first.outcomes then.outcomes);
      took = took_both old mid new (frames from first.outcomes) (frames (from + length first.outcomes) then.outcomes) first.took
          (then.took ∙ ap (λ (k : ℕ). with_end mid (frames k then.outcomes)) at)
          ∙ ap (with_end old) (sym (frames_behind from first.outcomes then.outcomes));
    }

-- all of them were put
pub put_all_of : (A : ℕ → Outcome → Type 0) (from n count : ℕ) (done : Bool) (old new : Option (List ℕ)) → n - from ≡ count
    → HasPut A from (n - from) done old new → HasPut A from count done old new
put_all_of A from n count done old new same put = subst (λ (k : ℕ). HasPut A from k done old new) same put

-- no more was put
pub put_few : (A : ℕ → Outcome → Type 0) (from n count : ℕ) (done : Bool) (old mid new : Option (List ℕ)) → n - from < count
    → HasPut A from (n - from) done old mid → Took mid new [] → HasPutFew A from count old new
put_few A from n count done old mid new less put nothing = record {
  outcomes = put.outcomes;
  are = put.are;
  few = omega (arith, put.many, less);
  took = took_both old mid new (frames from put.outcomes) [] put.took nothing ∙ ap (with_end old) (append-nil (frames from put.outcomes));
}

-- a part of one more was put
pub put_part : (A : ℕ → Outcome → Type 0) (from n count : ℕ) (done : Bool) (old mid new : Option (List ℕ)) → from ≤ n → n - from < count
    → HasPut A from (n - from) done old mid → HasPutPart A n 1 mid new → HasPutPart A from count old new
put_part A from n count done old mid new le less put then =
    let at : n ≡ from + length put.outcomes = next_at from n put.outcomes le put.many in
    record {
      outcomes = put.outcomes ++ then.outcomes;
      are = allowed_behind A from put.outcomes then.outcomes put.are (subst (λ (k : ℕ). AreAllowed A k then.outcomes) at then.are);
      few = omega (arith, length-append put.outcomes then.outcomes, put.many, then.few, less);
      part = subst (TookPart old new) (sym (frames_behind from put.outcomes then.outcomes))
          (part_behind old mid new (frames from put.outcomes) (frames (from + length put.outcomes) then.outcomes) put.took
          (subst (λ (k : ℕ). TookPart mid new (frames k then.outcomes)) at then.part));
    }
