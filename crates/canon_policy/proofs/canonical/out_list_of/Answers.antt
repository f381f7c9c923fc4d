use Rattle.std.proofs.Common.{sym, ◌∙◌, List, ap}
use Rattle.canon_policy.specs.declared.fixing.Fixing.{Fixing}
use Rattle.canon_policy.specs.Canonical.{numbered_from, limited}
use Rattle.canon_policy.specs.Made.{out_made}
use Rattle.canon_policy.specs.Nodes.{are_over}
use Rattle.canon_policy.proofs.CanonLists.{over_long}
use Rattle.canon_policy.proofs.Limits.{out_limited, out_over}
use Rattle.canon_policy.proofs.canonical.out_list_of.Goals as goal

pub returns : goal.returns
returns c = λ f of plain some e.
    c.limited.ensures ∙ ap limited c.in_ok-entries.ensures
    ∙ ap (λ (l : List Fixing). limited (numbered_from 1 (out_made c.args.store.now c.args.edge.now) l)) e
    ∙ out_limited c.args.store.now c.len-known.ensures.shown c.args.edge.now f of plain some

pub returns-then-fixings-gt-MOST_ENTRIES : goal.returns-then-fixings-gt-MOST_ENTRIES
returns-then-fixings-gt-MOST_ENTRIES c = λ f of plain some e.
    sym (out_over c.args.store.now c.len-known.ensures.shown c.args.edge.now f of plain some
    (ap are_over (sym e) ∙ over_long c.args.fixings.now c.if-fixings-gt-MOST_ENTRIES.true))
