use Rattle.std.proofs.Common.{◌∙◌, ℕ, List, ap, sym, subst, Err}
use Rattle.policy_dd.proofs.KeptLemmas.{edge_kept}
use Rattle.canon_policy.specs.Canonical.{out_list}
use Rattle.canon_policy.specs.Functions.{on_sets}
use Rattle.canon_policy.specs.Made.{IsListOf}
use Rattle.canon_policy.proofs.CanonLists.{form_kept, plain_kept, none_depends, refused_into, refused_out, both_lists}
use Rattle.canon_policy.proofs.ListLaws.{import_alike}
use Rattle.canon_policy.proofs.Printed.{printable_lists}
use Rattle.canon_policy.proofs.canonical.canon.Goals as goal

pub returns-then-depends-clause-canonical : goal.returns-then-depends-clause-canonical
returns-then-depends-clause-canonical c = λ f of.
    none_depends c.args.store.now.universe f (sym (c.in_ok-depends.ensures.depends f of) ∙ c.if-depends.true)

pub out_list-requires : goal.out_list-requires
out_list-requires c = form_kept c.args.store.now c.in_list.new.store c.in_list.ensures.grows c.args.edge.now c.requires

pub returns-in-Err-clause-canonical : goal.returns-in-Err-clause-canonical
returns-in-Err-clause-canonical c = λ f of.
    refused_into c.args.store.now.universe f c.in-Err.refusal (sym (c.in_ok-depends.ensures.depends f of) ∙ c.if-depends.false)
    (c.in-Err.ensures.list f of (c.in_ok-depends.ensures.plain f of c.if-depends.false))

pub returns-in-Err-out_list-clause-canonical : goal.returns-in-Err-out_list-clause-canonical
returns-in-Err-out_list-clause-canonical c = λ f of.
    refused_out c.args.store.now.universe f c.in-Err-out_list.refused (sym (c.in_ok-depends.ensures.depends f of) ∙ c.if-depends.false)
    (subst (λ (u : List ℕ). IsListOf (Err c.in-Err-out_list.refused) (out_list u (on_sets f))) c.in_list.ensures.grows.universe
    (c.in-Err-out_list.ensures.list f (edge_kept c.args.store.now c.in_list.new.store c.args.edge.now f c.in_list.ensures.grows of)
    (plain_kept c.args.store.now c.in_list.new.store c.in_list.ensures.grows (on_sets f) (c.in_ok-depends.ensures.plain f of c.if-depends.false))))

pub returns-in-Ok-out_list-clause-canonical : goal.returns-in-Ok-out_list-clause-canonical
returns-in-Ok-out_list-clause-canonical c = λ f of.
    both_lists c.args.store.now.universe f c.in-Ok-out_list.out c.in-Ok.into (sym (c.in_ok-depends.ensures.depends f of) ∙ c.if-depends.false)
    (ap (λ (u : List ℕ). out_list u (on_sets f)) (sym c.in_list.ensures.grows.universe)
    ∙ c.in-Ok-out_list.ensures.list f (edge_kept c.args.store.now c.in_list.new.store c.args.edge.now f c.in_list.ensures.grows of)
    (plain_kept c.args.store.now c.in_list.new.store c.in_list.ensures.grows (on_sets f) (c.in_ok-depends.ensures.plain f of c.if-depends.false)))
    (c.in-Ok.ensures.list f of (c.in_ok-depends.ensures.plain f of c.if-depends.false))

pub returns-in-Ok-out_list-clause-imports : goal.returns-in-Ok-out_list-clause-imports
returns-in-Ok-out_list-clause-imports c = λ f of.
    import_alike c.args.store.now.universe f _ c.len-known.ensures.shown.ascending (c.in_ok-depends.ensures.plain f of c.if-depends.false)
    (returns-in-Ok-out_list-clause-canonical c f of)

pub returns-in-Ok-out_list-clause-printable : goal.returns-in-Ok-out_list-clause-printable
returns-in-Ok-out_list-clause-printable c = λ f of communities small.
    printable_lists c.args.store.now.universe f _ c.len-known.ensures.shown.ascending communities small
    (c.in_ok-depends.ensures.plain f of c.if-depends.false) (returns-in-Ok-out_list-clause-canonical c f of)
