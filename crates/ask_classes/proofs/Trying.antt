-- Trials, one after the other.
use Rattle.std.proofs.Common.{◌≡◌, ℕ, suc, ◌+◌, ◌<◌, ◌≤◌, Bool, true, false, not, cond, ◌&&◌, List, [], ◌∷◌, ◌++◌, length, take, get_or, flat_map, map, refl, sym, ap, ◌∙◌, subst, arith, append_assoc, append-nil, take_all}
use Rattle.std.specs.Prelude.{count_by, filter, nat_eq}
use Rattle.std.specs.Option.{is_some}
use Rattle.std.specs.List.{enumerate_from, zip, list_all}
use Rattle.std.proofs.lemmas.List.{take_more, length-take-le, length-append, length-map, map-append}
use Rattle.std.proofs.lemmas.List.Elements.{filter-append}
use Rattle.std.proofs.lemmas.List.Sums.{sum_by_push, sum_by-cons, count_by-le-length, length-filter}
use Rattle.srp_core.specs.Problem.{Problem}
use Rattle.ask_words.specs.declared.request.AskedOf.{AskedOf}
use Rattle.solution_answers.specs.Pairwise.{Pairwise}
use Rattle.solution_answers.proofs.Pairs.{pair_more, as_many, flat_more, numbered_more}
use Rattle.ask_classes.specs.Failing.{Loss, Trial, IsTried, trial_line, has_failed}
use Rattle.ask_classes.specs.Tries.{IsTally, WritesTrials, TriesLoss, StepsOver, with_trial, trial_of}
use Rattle.solution_answers.specs.declared.answering.Answer.{Answer}
use Rattle.ask_classes.specs.declared.tally.Tally.{Tally}

pairs_more : {X Y : Type 0} (R : X → Y → Type 0) (xs : List X) (ys : List Y) (x : X) (y : Y) → Pairwise R xs ys →
    zip (xs ++ x ∷ []) (ys ++ y ∷ []) ≡ zip xs ys ++ (x, y) ∷ []
pairs_more R [] [] x y are = refl
pairs_more R [] (z ∷ ys) x y are = absurd are
pairs_more R (w ∷ xs) [] x y are = absurd are
pairs_more R (w ∷ xs) (z ∷ ys) x y are = ap (λ t. (w, z) ∷ t) (pairs_more R xs ys x y are.1)

-- nothing has been tried yet
pub none_tried : (whole : Problem) (asks : AskedOf) (bytes : List ℕ) (tally : Tally) → IsTally [] tally → WritesTrials whole asks [] bytes bytes tally
none_tried whole asks bytes tally none = record { trials = []; tried = tt; bytes = sym (append-nil bytes); counted = none }

tally_more : (trials : List Trial) (trial : Trial) (tally : Tally) → IsTally trials tally → IsTally (trials ++ trial ∷ []) (with_trial tally trial)
tally_more trials trial tally counted = record {
  tried = ap (λ n. n + 1) counted.tried ∙ sym (length-append trials (trial ∷ []));
  failed = ap (λ n. n + cond (has_failed trial) 1 0) counted.failed ∙ sym (sum_by_push (λ t. cond (has_failed t) 1 0) trials trial);
  tied = ap (λ n. n + cond (is_some trial.tied) 1 0) counted.tied ∙ sym (sum_by_push (λ (t : Trial). cond (is_some t.tied) 1 0) trials trial);
}

one_tried : (whole : Problem) (asks : AskedOf) (losses : List Loss) (loss : Loss) (old mid new : List ℕ) (tally more : Tally) →
    WritesTrials whole asks losses old mid tally →
    TriesLoss whole asks loss mid new tally more → WritesTrials whole asks (losses ++ loss ∷ []) old new more
one_tried whole asks losses loss old mid new tally more before one = record {
  trials = before.trials ++ one.trial ∷ [];
  tried = pair_more (IsTried whole asks) losses before.trials loss one.trial before.tried one.tried;
  bytes = one.bytes ∙ ap (λ (t : List ℕ). t ++ trial_line (loss, one.trial)) before.bytes
      ∙ append_assoc old (flat_map trial_line (zip losses before.trials)) (trial_line (loss, one.trial))
      ∙ ap (λ (t : List ℕ). old ++ t) (sym (flat_more trial_line (zip losses before.trials) (loss, one.trial))
      ∙ sym (ap (flat_map trial_line) (pairs_more (IsTried whole asks) losses before.trials loss one.trial before.tried)));
  counted = subst (IsTally (before.trials ++ one.trial ∷ [])) (sym one.counted) (tally_more before.trials one.trial tally before.counted);
}

-- one more of those that may be left out
loss_tried : {X : Type 0} (whole : Problem) (asks : AskedOf) (f : X → Loss) (p : X → Bool) (xs : List X) (x : X) (old mid new : List ℕ) (tally more : Tally) →
    WritesTrials whole asks (map f (filter p xs)) old mid tally → StepsOver whole asks (p x) (f x) mid new tally more →
    WritesTrials whole asks (map f (filter p (xs ++ x ∷ []))) old new more
loss_tried {X} whole asks f p xs x old mid new tally more before step =
    subst (λ (ls : List Loss). WritesTrials whole asks ls old new more)
    (sym (ap (map f) (filter-append p xs (x ∷ [])) ∙ map-append f (filter p xs) (filter p (x ∷ []))))
    (by (p x) step)
  where
    by : (b : Bool) → StepsOver whole asks b (f x) mid new tally more → WritesTrials whole asks (map f (filter p xs) ++ map f (cond b (x ∷ []) [])) old new more
    by true tries = one_tried whole asks (map f (filter p xs)) (f x) old mid new tally more before tries
    by false stays =
        subst (λ (ls : List Loss). WritesTrials whole asks ls old new more) (sym (append-nil (map f (filter p xs))))
        (subst (λ (t : Tally). WritesTrials whole asks (map f (filter p xs)) old new t) (sym stays.1)
        (subst (λ (bs : List ℕ). WritesTrials whole asks (map f (filter p xs)) old bs tally) (sym stays.0) before))

-- the losses of the first of these items
abbrev pub losses_upto : {X : Type 0} → (ℕ × X → Loss) → (ℕ × X → Bool) → List X → ℕ → List Loss
losses_upto f p xs i = map f (filter p (enumerate_from 0 (take i xs)))

-- one more item
pub item_tried : {X : Type 0} (whole : Problem) (asks : AskedOf) (f : ℕ × X → Loss) (p : ℕ × X → Bool) (xs : List X) (i : ℕ) (d : X) (old mid new : List ℕ)
    (tally more : Tally) →
    i < length xs → WritesTrials whole asks (losses_upto f p xs i) old mid tally →
    StepsOver whole asks (p (i, get_or xs i d)) (f (i, get_or xs i d)) mid new tally more →
    WritesTrials whole asks (losses_upto f p xs (i + 1)) old new more
item_tried {X} whole asks f p xs i d old mid new tally more inside before step =
    let x : X = get_or xs i d in
    let place : 0 + length (take i xs) ≡ i = (let l = length-take-le i xs (omega (arith, inside)) in omega (arith, l)) in
    let longer : enumerate_from 0 (take (i + 1) xs) ≡ enumerate_from 0 (take i xs) ++ (i, x) ∷ [] =
    ap (enumerate_from 0) (take_more xs i d inside) ∙ numbered_more 0 (take i xs) x
    ∙ ap (λ (k : ℕ). enumerate_from 0 (take i xs) ++ (k, x) ∷ []) place in
    subst (λ (ns : List (ℕ × X)). WritesTrials whole asks (map f (filter p ns)) old new more) (sym longer)
    (loss_tried whole asks f p (enumerate_from 0 (take i xs)) (i, x) old mid new tally more before step)

-- all items
pub all_tried : {X : Type 0} (whole : Problem) (asks : AskedOf) (f : ℕ × X → Loss) (p : ℕ × X → Bool) (xs : List X) (i : ℕ) (old new : List ℕ) (tally : Tally) →
    length xs ≤ i → WritesTrials whole asks (losses_upto f p xs i) old new tally →
    WritesTrials whole asks (map f (filter p (enumerate_from 0 xs))) old new tally
all_tried {X} whole asks f p xs i old new tally past written =
    subst (λ (ys : List X). WritesTrials whole asks (map f (filter p (enumerate_from 0 ys))) old new tally) (take_all i xs past) written

-- ---- how large a tally is

numbered_length : {X : Type 0} (n : ℕ) (xs : List X) → length (enumerate_from n xs) ≡ length xs
numbered_length n [] = refl
numbered_length n (x ∷ xs) = ap suc (numbered_length (n + 1) xs)

pub tried_few : {X : Type 0} (whole : Problem) (asks : AskedOf) (f : ℕ × X → Loss) (p : ℕ × X → Bool) (xs : List X) (i : ℕ) (old new : List ℕ) (tally : Tally) →
    i < length xs → WritesTrials whole asks (losses_upto f p xs i) old new tally → tally.tried ≤ i
tried_few whole asks f p xs i old new tally inside written =
    let numbered = enumerate_from 0 (take i xs) in
    let as_losses : tally.tried ≡ length (losses_upto f p xs i) = written.counted.tried
    ∙ as_many (IsTried whole asks) (losses_upto f p xs i) written.trials written.tried in
    let mapped : length (losses_upto f p xs i) ≡ length (filter p numbered) = length-map (filter p numbered) f in
    let passed : length (filter p numbered) ≡ count_by p numbered = length-filter p numbered in
    let few : count_by p numbered ≤ length numbered = count_by-le-length p numbered in
    let many : length numbered ≡ length (take i xs) = numbered_length 0 (take i xs) in
    let taken = length-take-le i xs (omega (arith, inside)) in
    omega (arith, as_losses, mapped, passed, few, many, taken)

pub failed_few : (trials : List Trial) (tally : Tally) → IsTally trials tally → tally.failed ≤ tally.tried
failed_few trials tally counted =
    let few = count_by-le-length has_failed trials in
    let failed = counted.failed in
    let tried = counted.tried in
    omega (arith, few, failed, tried)

pub tied_few : (trials : List Trial) (tally : Tally) → IsTally trials tally → tally.tied ≤ tally.tried
tied_few trials tally counted =
    let few = count_by-le-length (λ (t : Trial). is_some t.tied) trials in
    let tied = counted.tied in
    let tried = counted.tried in
    omega (arith, few, tied, tried)

-- ---- whether all are passed

none_of : (p q : Bool) (n : ℕ) → q ≡ nat_eq n 0 → (p && q) ≡ nat_eq (cond (not p) 1 0 + n) 0
none_of true q n is = grind (arith, is)
none_of false q n is = grind arith

-- all pass where none fails
pub all_pass : {X : Type 0} (p : X → Bool) (xs : List X) → list_all p xs ≡ nat_eq (count_by (λ x. not (p x)) xs) 0
all_pass p [] = refl
all_pass p (x ∷ xs) =
    none_of (p x) (list_all p xs) (count_by (λ y. not (p y)) xs) (all_pass p xs)
    ∙ ap (λ (n : ℕ). nat_eq n 0) (sym (sum_by-cons (λ y. cond (not (p y)) 1 0) x xs))

-- ---- one loss

-- the loss is left, and was tried
pub was_tried : (whole : Problem) (asks : AskedOf) (left : Bool) (loss : Loss) (answer : Answer) (old new : List ℕ) (tally more : Tally) → left ≡ true →
    IsTried whole asks loss (trial_of answer) → new ≡ old ++ trial_line (loss, trial_of answer) → more ≡ with_trial tally (trial_of answer) →
    StepsOver whole asks left loss old new tally more
was_tried whole asks left loss answer old new tally more is tried bytes counted =
    let tries : TriesLoss whole asks loss old new tally more = record { trial = trial_of answer; tried = tried; bytes = bytes; counted = counted } in
    subst (λ (b : Bool). StepsOver whole asks b loss old new tally more) (sym is) tries
