use Rattle.std.proofs.Common.{◌≡◌, ℕ, List, cond, get_or, take, not, sym, ap, ◌∙◌}
use Rattle.base_kit.specs.Sets.{has, with_number}
use Rattle.cfg_ast.specs.declared.policy.Mention.{Mention}
use Rattle.std.proofs.lemmas.List.{get_or_default}
use Rattle.cfg_ast.specs.meaning.PolicyFaults.{communities_in}
use Rattle.cfg_check.proofs.CommunityCounts.{ascending_communities, has_communities, added_if_new, communities_turn}
use Rattle.cfg_check.proofs.Seen.{number_turn}
use Rattle.cfg_check.proofs.communities.communities.Goals as goal

pub loop-mention-preserved : goal.loop-mention-preserved
loop-mention-preserved c =
    let ms = c.args.mentions.now in
    let i = c.loop-mention.mention-index in
    let none : Mention = record { community = 0; line = 0 } in
    let m = get_or ms i none in
    let here = get_or_default ms i none m c.loop-mention-test.true in
    let past = communities_in (take i ms) in
    let is_new = c.in_ok-is_new.is_new in
    let new : is_new ≡ not (has past m.community) = c.in_ok-is_new.ensures.added
    ∙ ap not (c.loop-mention.invariant.seen m.community ∙ sym (has_communities (take i ms) m.community)) in
    record {
      all = c.in_ok-add_if.ensures ∙ ap (λ (set : List ℕ). cond is_new (with_number m.community set) set) c.loop-mention.invariant.all
          ∙ added_if_new m.community past is_new (ascending_communities (take i ms)) new ∙ sym (communities_turn ms i m c.loop-mention-test.true here);
      seen = number_turn (λ (m : Mention). m.community) ms i m c.loop-mention.seen c.insert.new.self c.loop-mention-test.true here
          c.in_ok-is_new.ensures.updates c.loop-mention.invariant.seen;
    }
