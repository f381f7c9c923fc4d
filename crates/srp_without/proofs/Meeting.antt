-- What routers accept, one edge after another.
use Rattle.std.proofs.Common.{◌≡◌, ◌≢◌, ℕ, zero, suc, ◌+◌, ◌<◌, List, [], ◌∷◌, ◌++◌, length, take, get_or, refl, sym, ◌∙◌, ap, subst, arith, inl, inr, ◌⊎◌}
use Rattle.std.specs.Prelude.{All, slice_index_or}
use Rattle.std.proofs.Math.ListN.{set, replicate}
use Rattle.std.proofs.lemmas.Bool.{cases_eq}
use Rattle.std.proofs.lemmas.List.{take_more, get_or-set_same, get_or-set_other, length-set, get_or-replicate, length-replicate}
use Rattle.base_kit.specs.declared.act_graph.Edge.{Edge}
use Rattle.base_kit.proofs.Elements.{contains_in, in_contains, in_left, in_right, append_in}
use Rattle.srp_core.specs.declared.route.Act.{Act}
use Rattle.srp_without.specs.declared.accepted.Accepted.{Accepted}
use Rattle.srp_without.specs.declared.accepted.Accepted.TheVariants.{Nothing}
use Rattle.srp_without.specs.Accepting.{ActAccepts, act_at, EdgesAccept, IsAll, joined, AreOfActs, AreMet}
use Rattle.srp_without.proofs.Joined.{joined_all, said_of_same}

module _ (acts : List Act) where
  nothing_met : (router preference : ℕ) → EdgesAccept acts [] router preference → ⊥
  nothing_met router preference a = in_contains [] a.edge a.edge_in

  pub none_met : (count : ℕ) → AreMet acts count [] (replicate count Nothing)
  none_met count = record {
    total = length-replicate count Nothing;
    each = λ router lt. let P : Accepted → Type 0 = λ accepted. IsAll (EdgesAccept acts [] router) accepted in
        subst P (sym (get_or-replicate count router Nothing Nothing lt)) (nothing_met router);
  }

  module _ (edges : List Edge) (edge : Edge) where
    more_edge : (router preference : ℕ) → EdgesAccept acts edges router preference → EdgesAccept acts (edges ++ edge ∷ []) router preference
    more_edge router preference a = record {
      edge = a.edge;
      edge_in = contains_in _ a.edge (in_left edges (edge ∷ []) a.edge (in_contains edges a.edge a.edge_in));
      importer = a.importer;
      accepted = a.accepted;
    }

    last_edge : (preference : ℕ) → ActAccepts (act_at acts edge.act) preference → EdgesAccept acts (edges ++ edge ∷ []) edge.importer preference
    last_edge preference a = record {
      edge = edge;
      edge_in = contains_in _ edge (in_right edges (edge ∷ []) edge (inl refl));
      importer = refl;
      accepted = a;
    }

    old_or_last : (router preference : ℕ) → EdgesAccept acts (edges ++ edge ∷ []) router preference →
        EdgesAccept acts edges router preference ⊎ ((edge.importer ≡ router) × ActAccepts (act_at acts edge.act) preference)
    old_or_last router preference a = elim (append_in edges (edge ∷ []) a.edge (in_contains _ a.edge a.edge_in)) [
      | inl before ↦ inl (record { edge = a.edge; edge_in = contains_in edges a.edge before; importer = a.importer; accepted = a.accepted })
      | inr last ↦ elim last [
        | inl same ↦ inr (
          ap (λ (e : Edge). e.importer) same ∙ a.importer,
          subst (λ (n : ℕ). ActAccepts (act_at acts n) preference)
              (sym (ap (λ (e : Edge). e.act) same)) a.accepted,
        )
        | inr none ↦ absurd none
      ]
    ]

    aside : (router : ℕ) (accepted : Accepted) → router ≢ edge.importer → IsAll (EdgesAccept acts edges router) accepted →
        IsAll (EdgesAccept acts (edges ++ edge ∷ []) router) accepted
    aside router accepted other all =
        said_of_same (EdgesAccept acts edges router) (EdgesAccept acts (edges ++ edge ∷ []) router) (λ n. more_edge router n) (λ n. back n) accepted all
      where
        back : (n : ℕ) → EdgesAccept acts (edges ++ edge ∷ []) router n → EdgesAccept acts edges router n
        back n a = elim (old_or_last router n a) [ inl before ↦ before | inr last ↦ absurd (other (sym last.0)) ]

    here : (first second : Accepted) → IsAll (EdgesAccept acts edges edge.importer) first → IsAll (ActAccepts (act_at acts edge.act)) second →
        IsAll (EdgesAccept acts (edges ++ edge ∷ []) edge.importer) (joined first second)
    here first second all all' =
        said_of_same (λ n. EdgesAccept acts edges edge.importer n ⊎ ActAccepts (act_at acts edge.act) n) (EdgesAccept acts (edges ++ edge ∷ []) edge.importer)
        (λ n. there n) (λ n. back n) (joined first second)
        (joined_all (EdgesAccept acts edges edge.importer) (ActAccepts (act_at acts edge.act)) first second all all')
      where
        there : (n : ℕ) → EdgesAccept acts edges edge.importer n ⊎ ActAccepts (act_at acts edge.act) n → EdgesAccept acts (edges ++ edge ∷ []) edge.importer n
        there n (inl before) = more_edge edge.importer n before
        there n (inr last) = last_edge n last

        back : (n : ℕ) → EdgesAccept acts (edges ++ edge ∷ []) edge.importer n → EdgesAccept acts edges edge.importer n ⊎ ActAccepts (act_at acts edge.act) n
        back n a = elim (old_or_last edge.importer n a) [ inl before ↦ inl before | inr last ↦ inr last.1 ]

    -- one more edge
    pub met_more : (count : ℕ) (met : List Accepted) (second : Accepted) → edge.importer < count → IsAll (ActAccepts (act_at acts edge.act)) second →
        AreMet acts count edges met →
        AreMet acts count (edges ++ edge ∷ []) (set met edge.importer (joined (slice_index_or met edge.importer Nothing) second))
    met_more count met second inside all are = record {
      total = length-set met edge.importer next ∙ are.total;
      each = λ router lt. elim (cases_eq router edge.importer) [
        | inl same ↦ subst (λ (u : ℕ). IsAll (EdgesAccept acts (edges ++ edge ∷ []) u) (slice_index_or (set met edge.importer next) u Nothing)) (sym same)
            (let P : Accepted → Type 0 = λ accepted. IsAll (EdgesAccept acts (edges ++ edge ∷ []) edge.importer) accepted in
            subst P (sym (get_or-set_same met edge.importer next Nothing within))
            (here (slice_index_or met edge.importer Nothing) second (are.each edge.importer inside) all))
        | inr other ↦ (let P : Accepted → Type 0 = λ accepted. IsAll (EdgesAccept acts (edges ++ edge ∷ []) router) accepted in
            subst P (sym (get_or-set_other met edge.importer router next Nothing other))
            (aside router (slice_index_or met router Nothing) other (are.each router lt)))
      ];
    }
      where
        next : Accepted
        next = joined (slice_index_or met edge.importer Nothing) second

        within : edge.importer < length met
        within = let total = are.total in omega arith

get_or-default : {X : Type 0} (xs : List X) (k : ℕ) (d e : X) → k < length xs → get_or xs k d ≡ get_or xs k e
get_or-default [] k d e lt = absurd (omega arith)
get_or-default (x ∷ xs) zero d e lt = refl
get_or-default (x ∷ xs) (suc k) d e lt = get_or-default xs k d e (omega arith)

-- one more edge of a list
pub met_next : (acts : List Act) (accepted : List Accepted) (count : ℕ) (edges : List Edge) (i : ℕ) (d : Edge) (met : List Accepted) (read next : Accepted) →
    i < length edges → All (λ (edge : Edge). edge.importer < count) edges → All (λ (edge : Edge). edge.act < length accepted) edges → AreOfActs acts accepted →
    read ≡ get_or met (get_or edges i d).importer read → next ≡ joined read (get_or accepted (get_or edges i d).act Nothing) →
    AreMet acts count (take i edges) met → AreMet acts count (take (i + 1) edges) (set met (get_or edges i d).importer next)
met_next acts accepted count edges i d met read next inside importers in_acts of_acts at is are =
    let edge = get_or edges i d in
    let importer : edge.importer < count = importers i d inside in
    let act : edge.act < length accepted = in_acts i d inside in
    let total = of_acts.total in
    let long = are.total in
    let same : read ≡ get_or met edge.importer Nothing = at ∙ get_or-default met edge.importer read Nothing (omega arith) in
    let more = met_more acts (take i edges) edge count met (get_or accepted edge.act Nothing) importer (of_acts.each edge.act (omega arith)) are in
    subst (λ l. AreMet acts count l (set met edge.importer next)) (sym (take_more edges i d inside))
    (subst (λ a. AreMet acts count (take i edges ++ edge ∷ []) (set met edge.importer a))
    (ap (λ r. joined r (get_or accepted edge.act Nothing)) (sym same) ∙ sym is) more)
