-- The function that is made of two crossings of the maps.
use Rattle.std.proofs.Common.{◌≡◌, ℕ, Bool, true, List, sym, ◌∙◌, ap, subst}
use Rattle.std.proofs.Math.Path.{fun_ext}
use Rattle.base_kit.specs.Sets.{has}
use Rattle.route_maps.specs.declared.plain.Plain.{Plain}
use Rattle.route_maps.specs.declared.plain.PlainEntry.{PlainEntry}
use Rattle.route_maps.specs.Maps.{import_of}
use Rattle.dd_core.specs.Sets.{Shown, value_of, has_others, Means, Grows}
use Rattle.policy_dd.specs.declared.edge.EdgeFn.{EdgeFn}
use Rattle.policy_dd.specs.declared.session.Crossing.{Crossing}
use Rattle.policy_dd.specs.Edge.{IsEdgeFn}
use Rattle.policy_dd.specs.Import.{AreFit, others_kept}
use Rattle.policy_dd.specs.Built.{IsCrossed, IsPutTogether}
use Rattle.policy_dd.proofs.CrossLemmas.{crossed_kept, built_from}
use Rattle.policy_dd.proofs.BuiltLemmas.{built_is}

-- a crossing as if each set had a community outside the universe
pub kept_is : (s0 s1 : Shown) (always : ℕ) (out : List PlainEntry) (sends : Bool) (into : List PlainEntry) (beyond : Crossing) → Means s0 always (λ _. true) →
    IsCrossed s1 s0.universe (λ set. value_of s0 set always) out sends into beyond →
    Means s1 beyond.end.others (λ set. others_kept s0.universe out sends into (has set) true)
kept_is s0 s1 always out sends into beyond of_always is = record {
  inside = is.end_inside.others;
  value = λ set. is.others_is set ∙ ap (λ b. others_kept s0.universe out sends into (has set) b) (of_always.value set);
}

pub edge_is : (s0 s1 s2 s3 s4 : Shown) (others beyond : ℕ) (out : Plain) (sends : Bool) (into : Plain) (seen : Crossing) (edge : EdgeFn) → Grows s0 s1 →
    Grows s1 s2 → Grows s2 s3 → Grows s3 s4 → AreFit s0.universe out.entries → AreFit s0.universe into.entries →
    Means s1 others (λ set. has_others s0.universe set) → IsCrossed s2 s1.universe (λ set. value_of s1 set others) out.entries sends into.entries seen →
    Means s3 beyond (λ set. others_kept s2.universe out.entries sends into.entries (has set) true) →
    IsPutTogether s3 s4 seen beyond edge → IsEdgeFn s4 edge (import_of out sends into)
edge_is s0 s1 s2 s3 s4 others beyond out sends into seen edge g1 g2 g3 g4 fit fit' of_others is_seen of_beyond joined =
    let e3 : s3.universe ≡ s4.universe = sym g4.universe in
    let e2 : s2.universe ≡ s4.universe = sym g3.universe ∙ e3 in
    let e1 : s1.universe ≡ s4.universe = sym g2.universe ∙ e2 in
    let e0 : s0.universe ≡ s4.universe = sym g1.universe ∙ e1 in
    let f1 : List ℕ → Bool = λ set. value_of s1 set others in
    let seen' : IsCrossed s3 s4.universe (λ set. has_others s4.universe set) out.entries sends into.entries seen =
    crossed_kept s2 s3 s4.universe f1 (λ set. has_others s4.universe set) out.entries sends into.entries seen g3
    (fun_ext (λ set. of_others.value set ∙ ap (λ (u : List ℕ). has_others u set) e0))
    (subst (λ (u : List ℕ). IsCrossed s2 u f1 out.entries sends into.entries seen) e1 is_seen) in
    let beyond' : (set : List ℕ) → value_of s3 set beyond ≡ others_kept s4.universe out.entries sends into.entries (has set) true = λ set. of_beyond.value set
    ∙ ap (λ (u : List ℕ). others_kept u out.entries sends into.entries (has set) true) e2 in
    built_is s4 edge out sends into (subst (λ (u : List ℕ). AreFit u out.entries) e0 fit) (subst (λ (u : List ℕ). AreFit u into.entries) e0 fit')
    (built_from s3 s4 out.entries sends into.entries seen beyond edge seen' beyond' joined)
