use Rattle.std.proofs.Common.{◌≡◌, ◌≢◌, ◌≤◌, ◌<◌, ◌-◌, ◌∙◌, ℕ, List, length, get_or, sym, subst}
use Rattle.std.proofs.lemmas.List.Elements.{All-contains}
use Rattle.base_kit.proofs.Elements.{contains_in}
use Rattle.srp_questions.proofs.Exporters.{put_again, put_last}
use Rattle.srp_questions.proofs.forwarding.push_once.Goals as goal

pub returns-then-is_last : goal.returns-then-is_last
returns-then-is_last c =
    let xs = c.args.found.now.items in
    let n = c.args.number in
    let same = c.as_slice.ensures.value in
    let last = c.is_last.ensures.last c.if-is_last.true in
    sym (put_again n xs (λ v i. All-contains (λ (other : ℕ). other ≤ n) xs v c.requires.below (contains_in xs v i)) c.requires.ascending
    (subst (λ (l : List ℕ). 0 < length l) same last.0) (subst (λ (l : List ℕ). get_or l (length l - 1) 0 ≡ n) same last.1))

pub returns : goal.returns
returns c =
    let xs = c.args.found.now.items in
    let n = c.args.number in
    let same = c.as_slice.ensures.value in
    c.in_ok-push.ensures.items
    ∙ sym (put_last n xs (λ v i. All-contains (λ (other : ℕ). other ≤ n) xs v c.requires.below (contains_in xs v i)) c.requires.ascending
    (subst (λ (l : List ℕ). 0 < length l → get_or l (length l - 1) 0 ≢ n) same (c.is_last.ensures.other c.if-is_last.false)))
