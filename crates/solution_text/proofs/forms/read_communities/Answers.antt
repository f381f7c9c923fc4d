use Rattle.std.proofs.Common.{Some, sym, ap, ◌∙◌, subst, List, ℕ}
use Rattle.base_kit.specs.Sets.{IsAscending}
use Rattle.cfg_ast.specs.text.Lines.{words_of}
use Rattle.solution_text.specs.Forms.{communities_above}
use Rattle.solution_text.proofs.PathWords.{behind_set, set_broken, set_longer, set_ended, below_more, ascends_more, EndsBelow}
use Rattle.solution_text.proofs.forms.read_communities.Goals as goal

pub returns-in-None : goal.returns-in-None
returns-in-None c =
    sym (set_broken c.loop-word.comms.items c.in-Some.word.now (words_of c.in-Some.more.now) c.loop-word.bound (sym c.in-None.ensures.value))
    ∙ sym (ap (λ (words : List (List ℕ)). behind_set c.loop-word.comms.items (communities_above c.loop-word.bound words)) c.in-Some.ensures.words)
    ∙ c.loop-word.invariant.found

pub loop-word-preserved : goal.loop-word-preserved
loop-word-preserved c =
    let set = c.loop-word.comms.items in
    let bound = c.loop-word.bound in
    let community = c.in-Some-read_above.community in
    let grown = c.in_ok-push-in-Some-read_above.ensures.items in
    let higher = c.in-Some-read_above.ensures.higher in
    record {
      found = ap (λ (xs : List ℕ). behind_set xs (communities_above community (words_of c.in-Some.more.now))) grown
          ∙ sym (set_longer set c.in-Some.word.now (words_of c.in-Some.more.now) bound community (sym c.in-Some-read_above.ensures.value))
          ∙ sym (ap (λ (words : List (List ℕ)). behind_set set (communities_above bound words)) c.in-Some.ensures.words) ∙ c.loop-word.invariant.found;
      ascends = subst IsAscending (sym grown) (ascends_more set bound community higher c.loop-word.invariant.below c.loop-word.invariant.ascends);
      below = subst (EndsBelow community) (sym grown) (below_more set bound community higher c.loop-word.invariant.below);
    }

pub returns : goal.returns
returns c =
    ap Some c.from_ascending.ensures ∙ sym (set_ended c.loop-word.comms.items c.loop-word.bound)
    ∙ sym (ap (λ (words : List (List ℕ)). behind_set c.loop-word.comms.items (communities_above c.loop-word.bound words)) c.in_default.ensures.words)
    ∙ c.loop-word.invariant.found
