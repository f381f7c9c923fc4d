-- Colors that are places of starts tell the routers of a problem apart as its graph should.
use Rattle.std.proofs.Common.{◌≡◌, ◌⊎◌, ℕ, zero, suc, ◌+◌, ◌<◌, ◌≤◌, Bool, true, false, List, [], ◌∷◌, ◌++◌, length, slice_get, Option, Some, None, refl, sym, ap, ◌∙◌, inl, inr, arith, length-append}
use Rattle.std.specs.Prelude.{slice_index, slice_index_or}
use Rattle.std.proofs.lemmas.Bool.{cases_lt}
use Rattle.std.proofs.lemmas.List.{get_or_append_left}
use Rattle.std.proofs.Math.Seq.{get_or-append_seam}
use Rattle.std.proofs.lemmas.Option.{slice_get_within}
use Rattle.base_kit.specs.declared.protocol.Protocol.{Protocol}
use Rattle.base_kit.specs.declared.protocol.Protocol.TheVariants.{Bgp as OverBgp, Ospf as OverOspf}
use Rattle.base_kit.specs.declared.act_graph.ActGraph.{ActGraph}
use Rattle.base_kit.specs.Partition.{color}
use Rattle.srp_core.specs.declared.route.Route.{Route}
use Rattle.srp_core.specs.declared.route.Route.TheVariants.{Bgp, Ospf}
use Rattle.srp_core.specs.declared.starts.Start.{Start}
use Rattle.srp_core.specs.declared.starts.Start.TheVariants.{Alone, Silent, Preference, Cost}
use Rattle.srp_core.specs.Routes.{path_of, comms_of, IsRouteOf}
use Rattle.srp_core.specs.Problem.{Problem, count, initial, is_lone, IsProblem}
use Rattle.srp_core.specs.Starts.{start_of, start, AreColors, IsGraphOf}

number_in : Start → ℕ
number_in (Alone n) = n
number_in Silent = 0
number_in (Preference n) = n
number_in (Cost n) = n

own_start : (u v : ℕ) (lone : Bool) (init : Option Route) → Alone u ≡ start_of lone v init → u ≡ v
unfolding number_in
own_start u v true init e = ap number_in e
own_start u v false None e = absurd (cc)
own_start u v false (Some (Bgp lp path comms)) e = absurd (cc)
own_start u v false (Some (Ospf cost)) e = absurd (cc)

-- initial routes of one start are equal
one_route : (p : Protocol) (r s : Route) (u v : ℕ) → IsRouteOf p r → IsRouteOf p s → path_of r ≡ [] → path_of s ≡ [] → comms_of r ≡ [] → comms_of s ≡ [] →
    start_of false u (Some r) ≡ start_of false v (Some s) → r ≡ s
unfolding number_in
one_route p (Bgp lp path comms) (Bgp lp' path' comms') u v f f' a a' b b' e = λ i. Bgp (ap number_in e i) ((a ∙ sym a') i) ((b ∙ sym b') i)
one_route OverBgp (Bgp lp path comms) (Ospf cost) u v f f' a a' b b' e = absurd f'
one_route OverOspf (Bgp lp path comms) (Ospf cost) u v f f' a a' b b' e = absurd f
one_route OverBgp (Ospf cost) (Bgp lp path comms) u v f f' a a' b b' e = absurd f
one_route OverOspf (Ospf cost) (Bgp lp path comms) u v f f' a a' b b' e = absurd f'
one_route p (Ospf cost) (Ospf cost') u v f f' a a' b b' e = ap Ospf (ap number_in e)

starts_routed : (r : Route) (u v : ℕ) → start_of false u None ≡ start_of false v (Some r) → ⊥
starts_routed (Bgp lp path comms) u v e = cc
starts_routed (Ospf cost) u v e = cc

some_start : (P : Problem) → IsProblem P → (u v : ℕ) (a b : Option Route) → initial P u ≡ a → initial P v ≡ b → start_of false u a ≡ start_of false v b → a ≡ b
some_start P good u v None None ea eb e = refl
some_start P good u v None (Some s) ea eb e = absurd (starts_routed s u v e)
some_start P good u v (Some r) None ea eb e = absurd (starts_routed r v u (sym e))
some_start P good u v (Some r) (Some s) ea eb e =
    ap Some (one_route P.protocol r s u v (good.starts.routes u r ea) (good.starts.routes v s eb) (good.starts.paths u r ea) (good.starts.paths v s eb)
    (good.starts.bare u r ea) (good.starts.bare v s eb) e)

same_init : (u v : ℕ) (a b : Option Route) → a ≡ b → start_of false u a ≡ start_of false v b
same_init u v None None e = refl
same_init u v None (Some s) e = absurd (cc)
same_init u v (Some r) None e = absurd (cc)
same_init u v (Some (Bgp lp path comms)) (Some (Bgp lp' path' comms')) e = (let h : lp ≡ lp' = cc in ap Preference h)
same_init u v (Some (Bgp lp path comms)) (Some (Ospf cost)) e = absurd (cc)
same_init u v (Some (Ospf cost)) (Some (Bgp lp path comms)) e = absurd (cc)
same_init u v (Some (Ospf cost)) (Some (Ospf cost')) e = (let h : cost ≡ cost' = cc in ap Cost h)

module _ (P : Problem) (good : IsProblem P) (colors : List ℕ) (are : AreColors P colors) where
  same_start : (u v : ℕ) → u < count P → v < count P → slice_index colors u ≡ slice_index colors v → start P u ≡ start P v
  same_start u v hu hv e =
      let both : Some (start P u) ≡ Some (start P v) = sym (are.placed u hu) ∙ ap (slice_get are.starts) e ∙ are.placed v hv in cc

  start_there : (u : ℕ) (lone : Bool) → is_lone P u ≡ lone → start P u ≡ start_of lone u (initial P u)
  start_there u lone e = ap (λ l. start_of l u (initial P u)) e

  pub graph_of : (graph : ActGraph) → graph.count ≡ count P → graph.colors ≡ colors → graph.edges ≡ P.edges → IsGraphOf P graph
  graph_of graph routers is_colors edges =
      let seen : (u : ℕ) → color graph u ≡ slice_index colors u = λ u. ap (λ (l : List ℕ). slice_index l u) is_colors in
      record {
        routers = routers;
        edges = edges;
        alone = λ u v hu hv l e. own_start u v (is_lone P v) (initial P v) (sym (start_there u true l) ∙ same_start u v hu hv (sym (seen u) ∙ e ∙ seen v));
        apart = λ u v hu hv l l' e. some_start P good u v (initial P u) (initial P v) refl refl
            (sym (start_there u false l) ∙ same_start u v hu hv (sym (seen u) ∙ e ∙ seen v) ∙ start_there v false l');
        alike = λ u v hu hv l l' e.
            (let same : start P u ≡ start P v = start_there u false l ∙ same_init u v (initial P u) (initial P v) e ∙ sym (start_there v false l') in
            let one : slice_index colors u ≡ slice_index colors v =
            are.distinct.one_place (slice_index colors u) (slice_index colors v) (start P v) (are.placed u hu ∙ ap Some same) (are.placed v hv) in
            seen u ∙ one ∙ sym (seen v));
      }

slice_get_append_left : (xs ys : List Start) (i : ℕ) → i < length xs → slice_get (xs ++ ys) i ≡ slice_get xs i
slice_get_append_left [] ys i inside = absurd (omega arith)
slice_get_append_left (x ∷ xs) ys zero inside = refl
slice_get_append_left (x ∷ xs) ys (suc i) inside = slice_get_append_left xs ys i (omega arith)

-- a start keeps its number while starts are added
kept : (starts starts' : List Start) (new old : Start) (i : ℕ) → (starts' ≡ starts) ⊎ (starts' ≡ starts ++ new ∷ []) → slice_get starts i ≡ Some old →
    slice_get starts' i ≡ Some old
kept starts starts' new old i (inl same) e = ap (λ (l : List Start). slice_get l i) same ∙ e
kept starts starts' new old i (inr more) e = ap (λ (l : List Start). slice_get l i) more
    ∙ slice_get_append_left starts (new ∷ []) i (slice_get_within starts i old e) ∙ e

pub few_more : (starts starts' : List Start) (new : Start) (n : ℕ) → (starts' ≡ starts) ⊎ (starts' ≡ starts ++ new ∷ []) → length starts ≤ n →
    length starts' ≤ n + 1
few_more starts starts' new n (inl same) few = let e = ap length same in omega arith
few_more starts starts' new n (inr more) few = let e = ap length more ∙ length-append starts (new ∷ []) in omega arith

-- one router more has its color
pub placed_more : (P : Problem) (starts starts' : List Start) (new : Start) (colors colors' : List ℕ) (n color : ℕ) →
    (starts' ≡ starts) ⊎ (starts' ≡ starts ++ new ∷ []) → length colors ≡ n → colors' ≡ colors ++ color ∷ [] → slice_get starts' color ≡ Some new →
    new ≡ start P n → ((u : ℕ) → u < n → slice_get starts (slice_index colors u) ≡ Some (start P u)) → (u : ℕ) → u < n + 1 →
    slice_get starts' (slice_index colors' u) ≡ Some (start P u)
placed_more P starts starts' new colors colors' n color grown total pushed found is placed u h = elim (cases_lt u n) [
  | inl less ↦
      let there : slice_index colors' u ≡ slice_index colors u = ap (λ (l : List ℕ). slice_index l u) pushed
      ∙ get_or_append_left colors (color ∷ []) 0 u (omega arith) in
      ap (slice_get starts') there ∙ kept starts starts' new (start P u) (slice_index colors u) grown (placed u less)
  | inr more ↦
      let last : u ≡ n = omega arith in
      let there : slice_index colors' u ≡ color = ap (λ (l : List ℕ). slice_index l u) pushed ∙ ap (slice_index (colors ++ color ∷ [])) (last ∙ sym total)
      ∙ get_or-append_seam colors color [] 0 in
      ap (slice_get starts') there ∙ found ∙ ap Some (is ∙ ap (start P) (sym last))
]

-- what stands in a list is read there with any default
pub read_there : (list : List (Option Route)) (i : ℕ) (item : Option Route) → i < length list → item ≡ slice_index_or list i item →
    item ≡ slice_index_or list i None
read_there [] i item h e = absurd (omega arith)
read_there (x ∷ list) zero item h e = e
read_there (x ∷ list) (suc i) item h e = read_there list i item (omega arith) e

pub start_read : (P : Problem) (u : ℕ) (lone : List Bool) (inits : List (Option Route)) (init : Option Route) → u < length inits → lone ≡ P.lone →
    inits ≡ P.init → init ≡ slice_index_or inits u init → start_of (slice_index_or lone u false) u init ≡ start P u
start_read P u lone inits init h el ei e =
    ap (λ l. start_of (slice_index_or l u false) u init) el
    ∙ ap (start_of (is_lone P u) u) (read_there inits u init h e ∙ ap (λ (l : List (Option Route)). slice_index_or l u None) ei)
