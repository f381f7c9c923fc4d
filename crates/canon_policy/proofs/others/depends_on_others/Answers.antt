use Rattle.std.proofs.Common.{◌≡◌, ◌∙◌, sym, true, false, Bool, ℕ, List, refl, subst}
use Rattle.canon_policy.specs.Canonical.{depends_on_others}
use Rattle.canon_policy.specs.Functions.{on_sets}
use Rattle.canon_policy.specs.Made.{SomeNeedsOthers, NoneNeedsOthers}
use Rattle.canon_policy.specs.Nodes.{AreInside}
use Rattle.canon_policy.proofs.Outside.{told_inside, plain_of_none, some_depends, plain_not_depends}
use Rattle.canon_policy.proofs.others.depends_on_others.Goals as goal

pub any_needs_others-requires : goal.any_needs_others-requires
any_needs_others-requires c =
    subst (λ (l : List ℕ). AreInside c.args.store.now l) (sym (c.as_slice.ensures ∙ c.in_ok-nodes.ensures))
    (told_inside c.args.store.now c.len-known.ensures.shown c.args.edge.now c.requires.import c.requires.means)

pub returns-clause-plain : goal.returns-clause-plain
returns-clause-plain c = λ f of e.
    plain_of_none c.args.store.now c.len-known.ensures.shown c.args.edge.now f of
    (subst (λ (l : List ℕ). NoneNeedsOthers c.args.store.now l) (c.as_slice.ensures ∙ c.in_ok-nodes.ensures) (c.in_ok-depends.ensures.none e))

told : (b d : Bool) → (b ≡ true → d ≡ true) → (b ≡ false → d ≡ false) → b ≡ d
told true d f g = sym (f refl)
told false d f g = sym (g refl)

pub returns-clause-depends : goal.returns-clause-depends
returns-clause-depends c = λ f of.
    told c.in_ok-depends.depends (depends_on_others c.args.store.now.universe (on_sets f))
    (λ e. some_depends c.args.store.now c.len-known.ensures.shown c.args.edge.now f of
    (subst (λ (l : List ℕ). SomeNeedsOthers c.args.store.now l) (c.as_slice.ensures ∙ c.in_ok-nodes.ensures) (c.in_ok-depends.ensures.some e)))
    (λ e. plain_not_depends c.args.store.now.universe (on_sets f) (returns-clause-plain c f of e))
