use Rattle.emit_fault_laws.proofs.Faultless as faultless
use Rattle.emit_fault_laws.proofs.laws.emitted_is_faultless.Goals as goal

pub returns : goal.returns
returns c =
    faultless.faultless
    (record {
      carries = c.quotient_carries.ensures;
      no_more_groups = c.no_more_groups.ensures;
      no_more_links = c.no_more_links.ensures;
      few_links = c.few_links.ensures;
      few_sessions = c.few_sessions.ensures;
      few_communities = c.few_communities.ensures;
      communities_pass = c.few_communities_pass.ensures;
    })
