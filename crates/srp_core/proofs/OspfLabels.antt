-- In OSPF the labels of fold and lift are those of the groups.
use Rattle.std.proofs.Common.{◌≡◌, ℕ, ◌<◌, List, length, Option, Some, None, refl, sym, ap, ◌∙◌, subst, inl, inr, arith, ext_get_or}
use Rattle.base_kit.specs.declared.protocol.Protocol.TheVariants.{Ospf as OverOspf}
use Rattle.srp_core.specs.declared.route.Route.{Route}
use Rattle.srp_core.specs.Routes.{size_of, IsRouteOf, Key}
use Rattle.srp_core.specs.Problem.{Problem, count, IsProblem}
use Rattle.srp_core.specs.Stability.{label, IsStable}
use Rattle.srp_core.specs.Quotient.{group_of, IsAdmissible, IsQuotient, Corresponds}
use Rattle.srp_core.proofs.Steps.{ospf_same}
use Rattle.srp_core.proofs.Offers.{cases_label}
use Rattle.srp_core.proofs.Matching.{IsMatching, converse, keys_agree}
use Rattle.srp_core.proofs.Filling.{IsEven, Solved, solved}
use Rattle.srp_core.proofs.GroupMatching.{IsIn, equal_held, quotient_matching, correspond}

-- in OSPF a tie is an equation of labels
module _ (B A : Problem) (R : ℕ → ℕ → Type 0) (m : IsMatching B A R) (gb : IsProblem B) (ga : IsProblem A) (ospf : A.protocol ≡ OverOspf)
    (L : List (Option Route)) (st : IsStable A L) (even : IsEven A R L) (E : List (Option Route)) (total : length E ≡ count B)
    (equal : (b a : ℕ) → R b a → label E b ≡ label L a) where
  ospf_equal : (s : Solved B A R m gb ga L st even) → (b : ℕ) → b < count B → label s.labels b ≡ label E b
  ospf_equal s b h =
      let p = m.left b h in
      elim (cases_label (label s.labels b)) [
        | inl empty ↦ elim (cases_label (label L p.0)) [
          | inl empty' ↦ empty ∙ sym empty' ∙ sym (equal b p.0 p.1)
          | inr full ↦ (let k = s.up.held p.0 b full.0 p.1 full.1 in let lk = k.labelled in absurd (cc))
        ]
        | inr full ↦
            let k = s.down.held b p.0 full.0 p.1 full.1 in
            let size : size_of k.route ≡ size_of full.0 = ap (λ (x : Key). x.size) k.keyed in
            let fit : IsRouteOf OverOspf k.route = subst (λ x. IsRouteOf x k.route) ospf (st.fitting.routes p.0 k.route k.labelled) in
            let fit' : IsRouteOf OverOspf full.0 = subst (λ x. IsRouteOf x full.0) (m.protocol ∙ ospf) (s.stable.fitting.routes b full.0 full.1) in
            full.1 ∙ ap Some (sym (ospf_same k.route full.0 fit fit' size)) ∙ sym k.labelled ∙ sym (equal b p.0 p.1)
      ]

  pub ospf_solves : IsStable B E
  ospf_solves =
      let s = solved B A R m gb ga L st even in
      let t = s.stable.fitting.total in
      subst (IsStable B) (ext_get_or None s.labels E (t ∙ sym total) (λ b h. ospf_equal s b (omega arith))) s.stable

-- a group with the label of its members
module _ (S : Problem) (good : IsProblem S) (groups : List ℕ) (adm : IsAdmissible S groups) (Q : Problem) (goodq : IsProblem Q) (q : IsQuotient S groups Q)
    (ospf : S.protocol ≡ OverOspf) (L : List (Option Route)) (st : IsStable S L) (M : List (Option Route)) (total : length M ≡ count Q)
    (equal : (u : ℕ) → u < count S → label M (group_of groups u) ≡ label L u) where
  pub ospf_fold : IsStable Q M × Corresponds S Q groups L M
  ospf_fold =
      let R = λ (g u : ℕ). IsIn S groups u g in
      let m = converse S Q (IsIn S groups) (quotient_matching S good groups adm Q goodq q) in
      let even : IsEven S (λ g u. IsIn S groups u g) L =
      record {
        held = λ g u u' r x x' e. equal_held S good groups adm L st u u' r
            (record { left = x.inside; right = x'.inside; same = x.of_group ∙ sym x'.of_group }) e;
      } in
      let stm : IsStable Q M = ospf_solves Q S (λ g u. IsIn S groups u g) m goodq good ospf L st even M total
      (λ g u x. ap (label M) (sym x.of_group) ∙ equal u x.inside) in
      let keys = λ (r : Route). keys_agree S Q (IsIn S groups) (quotient_matching S good groups adm Q goodq q) r in (
        stm,
        correspond S good groups adm Q goodq q L M st stm
            (record { held = λ u g r x e. record { route = r; labelled = ap (label M) (sym x.of_group) ∙ equal u x.inside ∙ e; keyed = sym (keys r) } })
            (record { held = λ g u r x e. record { route = r; labelled = sym (equal u x.inside) ∙ ap (label M) x.of_group ∙ e; keyed = keys r } }),
      )

-- members with the label of their group
module _ (S : Problem) (good : IsProblem S) (groups : List ℕ) (adm : IsAdmissible S groups) (Q : Problem) (goodq : IsProblem Q) (q : IsQuotient S groups Q)
    (ospf : Q.protocol ≡ OverOspf) (M : List (Option Route)) (st : IsStable Q M) (L : List (Option Route)) (total : length L ≡ count S)
    (equal : (u : ℕ) → u < count S → label L u ≡ label M (group_of groups u)) where
  pub ospf_lift : IsStable S L × Corresponds S Q groups L M
  ospf_lift =
      let m = quotient_matching S good groups adm Q goodq q in
      let even : IsEven Q (IsIn S groups) M = record {
        held = λ u g g' r x x' e. (let same : g ≡ g' = sym x.of_group ∙ x'.of_group in
            record { route = r; labelled = subst (λ h. label M h ≡ Some r) same e; keyed = refl });
      } in
      let stl : IsStable S L = ospf_solves S Q (IsIn S groups) m good goodq ospf M st even L total (λ u g x. equal u x.inside ∙ ap (label M) x.of_group) in
      let keys = λ (r : Route). keys_agree S Q (IsIn S groups) m r in (
        stl,
        correspond S good groups adm Q goodq q L M stl st
            (record { held = λ u g r x e. record { route = r; labelled = ap (label M) (sym x.of_group) ∙ sym (equal u x.inside) ∙ e; keyed = sym (keys r) } })
            (record { held = λ g u r x e. record { route = r; labelled = equal u x.inside ∙ ap (label M) x.of_group ∙ e; keyed = keys r } }),
      )
