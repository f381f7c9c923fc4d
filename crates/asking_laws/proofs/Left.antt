-- A problem without some of its links.
use Rattle.std.proofs.Common.{◌≡◌, ℕ, ◌<◌, true, false, cond, List, length, Option, Some, None, refl, sym, ap, ◌∙◌, subst, inl, inr, ◌⊎◌}
use Rattle.std.specs.Prelude.{Contains, filter, slice_index_or}
use Rattle.std.proofs.lemmas.Bool.{cases_Bool}
use Rattle.base_kit.specs.declared.act_graph.Edge.{Edge}
use Rattle.base_kit.specs.declared.protocol.Protocol.{Protocol}
use Rattle.base_kit.specs.declared.protocol.Protocol.TheVariants.{Bgp as OverBgp, Ospf as OverOspf}
use Rattle.base_kit.proofs.Elements.{contains_in, in_contains, filter_in, in_filter}
use Rattle.route_run.specs.Rounds.{HasNoLone}
use Rattle.srp_core.specs.declared.route.Act.TheVariants.{Cost}
use Rattle.srp_core.specs.declared.route.Route.{Route}
use Rattle.srp_core.specs.Acts.{IsActOf, import_by}
use Rattle.srp_core.specs.Problem.{Problem, count, initial, is_lone, act_of, key_of, Accepts, IsLone, IsProblem}
use Rattle.srp_core.specs.Stability.{label, IsCandidate, of_init, of_edge}
use Rattle.srp_core.specs.Without.{Down, is_left, IsWithout}
use Rattle.srp_core.proofs.Offers.{edge_act, lone_bgp}
use Rattle.srp_core.proofs.Steps.{no_import_cost}
use Rattle.asking_laws.specs.Spare.{ForwardsOver, HasElsewhere, by_start, by_edge, LosesSpareLinks}
use Rattle.asking_laws.proofs.PlainKeys.{plain, keyed_plain}
use Rattle.asking_laws.proofs.Chosen.{label_inside}
use Rattle.asking_laws.proofs.Both.{IsPartOf, HasLeft, left_init, left_edge}

cases_protocol : (p : Protocol) → (p ≡ OverBgp) ⊎ (p ≡ OverOspf)
cases_protocol OverBgp = inl refl
cases_protocol OverOspf = inr refl

-- in OSPF nothing is imported
pub ospf_none_lone : (P : Problem) → IsProblem P → P.protocol ≡ OverOspf → HasNoLone P
ospf_none_lone P good ospf u inside = elim (cases_Bool (is_lone P u)) [
  | inr other ↦ other
  | inl lone ↦ absurd (let clash : OverBgp ≡ OverOspf = sym (lone_bgp P good u inside lone) ∙ ospf in cc)
]

module _ (P Q : Problem) (down : Down) (good : IsProblem P) (without : IsWithout P down Q) where
  edge_was : (e : Edge) → Contains Q.edges e → Contains P.edges e × (is_left down e ≡ true)
  edge_was e h =
      let there = filter_in (is_left down) P.edges e (let Has : List Edge →
      Type 0 = λ l. Contains l e in in_contains (filter (is_left down) P.edges) e (subst Has without.edges h)) in
      (contains_in P.edges e there.0, there.1)

  pub edge_stays : (e : Edge) → Contains P.edges e → is_left down e ≡ true → Contains Q.edges e
  edge_stays e h left =
      let Has : List Edge → Type 0 = λ l. Contains l e in
      subst Has (sym without.edges) (contains_in (filter (is_left down) P.edges) e (in_filter (is_left down) P.edges e (in_contains P.edges e h) left))

  same_act : (e : Edge) → act_of Q e ≡ act_of P e
  same_act e = ap (λ acts. slice_index_or acts e.act (Cost 0)) without.acts

  accepts_before : (u p : ℕ) → Accepts Q u p → Accepts P u p
  accepts_before u p a = record {
    edge = a.edge;
    edge_in = (edge_was a.edge a.edge_in).0;
    importer = a.importer;
    comms = a.comms;
    is_set = a.is_set;
    imported = a.imported;
    accepted = ap (λ act. import_by act a.comms) (sym (same_act a.edge)) ∙ a.accepted;
    preferred = a.preferred;
  }

  -- who accepts anything does not originate
  silent : (u p : ℕ) → Accepts P u p → initial P u ≡ None
  silent u p a = elim (cases_protocol P.protocol) [
    | inl bgp ↦ subst (λ (v : ℕ). initial P v ≡ None) a.importer (good.starts.unoriginated bgp a.edge a.edge_in)
    | inr ospf ↦ absurd (no_import_cost (act_of P a.edge) a.comms a.imported
        (subst (λ q. IsActOf q (act_of P a.edge)) ospf (edge_act P good a.edge a.edge_in)) a.accepted)
  ]

  lone_before : (u : ℕ) → IsLone Q u → IsLone P u
  lone_before u l = record {
    unoriginated = silent u l.first (accepts_before u l.first l.first_accepted);
    first = l.first;
    second = l.second;
    first_accepted = accepts_before u l.first l.first_accepted;
    second_accepted = accepts_before u l.second l.second_accepted;
    differ = l.differ;
  }

  same_count : count Q ≡ count P
  same_count = ap length without.numbers

  pub none_becomes_lone : HasNoLone P → HasNoLone Q
  none_becomes_lone none u inside = elim (cases_Bool (is_lone Q u)) [
    | inr other ↦ other
    | inl lone ↦ (
        let here = subst (λ n. u < n) same_count inside in
        let marked = good.marks.all u here (lone_before u (without.rules.marks.only u inside lone)) in
        let unmarked = none u here in absurd cc)
  ]

  pub part_of : ((u : ℕ) → down.routers u ≡ false) → IsPartOf P Q
  part_of links = record {
    protocol = without.protocol;
    numbers = without.numbers;
    acts = without.acts;
    init = λ u. without.init u ∙ ap (λ b. cond b None (initial P u)) (links u);
    edges = λ e h. (edge_was e h).0;
  }

-- labels have their routes, or others of their keys, over edges that are left
pub spare_left : (P Q : Problem) (down : Down) (L : List (Option Route)) (loses : LosesSpareLinks P down L) → IsWithout P down Q → (u : ℕ) (r : Route) →
    label L u ≡ Some r → HasLeft P Q L u r
spare_left P Q down L loses without u r lab = by (loses.stable.held u r (label_inside P loses.rules loses.none_lone L loses.stable u r lab) lab)
  where
    equal : (c s : Route) → key_of P c ≡ key_of P s → plain c ≡ plain s
    equal c s e = sym (keyed_plain P loses.none_lone c) ∙ e ∙ keyed_plain P loses.none_lone s

    other : (s : Route) → s ≡ r → HasElsewhere P down L u s → HasLeft P Q L u r
    other s same (by_start start e k) = left_init start e (equal start s k ∙ ap plain same)
    other s same (by_edge e c i left imp over k) = left_edge e c (edge_stays P Q down loses.rules without e i left) imp over (equal c s k ∙ ap plain same)

    by : IsCandidate P L u r → HasLeft P Q L u r
    by (of_init e) = left_init r e refl
    by (of_edge e i imp over) = elim (cases_Bool (is_left down e)) [
      | inl left ↦ left_edge e r (edge_stays P Q down loses.rules without e i left) imp over refl
      | inr lost ↦ (
          let forwards : ForwardsOver P L e = record {
            route = r;
            labelled = subst (λ v. label L v ≡ Some r) (sym imp) lab;
            candidate = r;
            over = over;
            same =
                refl;
          } in
          other r refl (subst (λ v. HasElsewhere P down L v r) imp (loses.spare e forwards i lost)))
    ]
