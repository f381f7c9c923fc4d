-- The edges of one importer among all edges.
use Rattle.std.proofs.Common.{◌≡◌, ◌≢◌, ℕ, zero, suc, ◌+◌, ◌<◌, Bool, true, false, cond, ◌&&◌, ◌||◌, not, nat_eq, List, [], ◌∷◌, ◌++◌, length, get_or, slice_index_or, slice_set, take, All, Contains, filter, Vec, Option, Some, None, refl, sym, ◌∙◌, ap, subst, arith, inl, inr}
use Rattle.std.specs.Prelude.{slice_index, option_map}
use Rattle.std.specs.List.{list_any, list_all, find, position}
use Rattle.std.specs.declared.alloc.Global.{Global}
use Rattle.std.proofs.lemmas.Bool.{cases_eq}
use Rattle.std.proofs.lemmas.List.{get_or-set_same, get_or-set_other, append-nil, take_more}
use Rattle.std.proofs.lemmas.List.Elements.{filter-append, All-cons}
use Rattle.std.proofs.lemmas.List.Folds.{list_any-from_Any}
use Rattle.std.proofs.Math.ListN.{length-set}
use Rattle.base_kit.specs.declared.act_graph.Edge.{Edge}
use Rattle.base_kit.specs.declared.act_graph.ActGraph.{ActGraph}
use Rattle.cut_certificate.specs.declared.outgoing.Placed.{Placed}
use Rattle.cut_certificate.specs.Outgoing.{placed, is_of, edges_of, AreByImporter, AreIndexed}
use Rattle.cut_certificate.specs.Blocks.{edge_act, leads_into, leads_from, reaches}
use Rattle.cut_certificate.specs.Evenness.{is_matched, is_mirrored}
use Rattle.cut_certificate.specs.Uneven.{IsUnmatched}
use Rattle.cut_certificate.specs.Texts.{is_edge_over, edge_named}
use Rattle.numbered_names.proofs.Positions.{moved, position_first}
use Rattle.cut_certificate.proofs.Seen.{same_test, other_test, test_same, or_true}

abbrev at_place : ℕ → Edge → Placed
at_place place edge = record { place = place; edge = edge }

placed_append : (n : ℕ) (es fs : List Edge) → placed n (es ++ fs) ≡ placed n es ++ placed (n + length es) fs
placed_append n [] fs = ap (λ k. placed k fs) (let e : n ≡ n + 0 = omega arith in e)
placed_append n (e ∷ es) fs = ap (λ (ps : List Placed). at_place n e ∷ ps)
    (placed_append (n + 1) es fs ∙ ap (λ k. placed (n + 1) es ++ placed k fs) (let e : n + 1 + length es ≡ n + suc (length es) = omega arith in e))

pub index_start : (edges : List Edge) (lists : List (Vec Placed Global)) → All (λ l. l.items ≡ []) lists → AreByImporter (take 0 edges) lists
index_start edges lists empty = record { each = λ router d inside. empty router d inside }

length_take : (k : ℕ) (es : List Edge) → k < length es → length (take k es) ≡ k
length_take zero es h = refl
length_take (suc k) [] h = absurd (omega arith)
length_take (suc k) (e ∷ es) h = ap suc (length_take k es (omega arith))

pub index_more : (edges : List Edge) (lists : List (Vec Placed Global)) (k : ℕ) (e d' : Edge) (old new : Vec Placed Global) → AreByImporter (take k edges) lists
    → k < length edges → e ≡ get_or edges k d' → e.importer < length lists
    → old ≡ slice_index_or lists e.importer old → new.items ≡ old.items ++ record { place = k; edge = e } ∷ []
    → AreByImporter (take (k + 1) edges) (slice_set lists e.importer new)
index_more edges lists k e d' old new before more is inside read pushed = record {
  each = λ router d within.
      let within' : router < length lists = omega (arith, length-set lists e.importer new) in
      let longer : edges_of (take (k + 1) edges) router ≡ edges_of (take k edges) router ++ filter (is_of router) (at_place k e ∷ []) =
      ap (λ es. edges_of es router) (take_more edges k d' more) ∙ ap (filter (is_of router)) (placed_append 0 (take k edges) (get_or edges k d' ∷ []))
      ∙ filter-append (is_of router) (placed 0 (take k edges)) (placed (0 + length (take k edges)) (get_or edges k d' ∷ []))
      ∙ ap (λ n. edges_of (take k edges) router ++ filter (is_of router) (at_place n (get_or edges k d') ∷ []))
      (let l = length_take k edges more in let z : 0 + length (take k edges) ≡ k = omega arith in z)
      ∙ ap (λ (x : Edge). edges_of (take k edges) router ++ filter (is_of router) (at_place k x ∷ [])) (sym is) in
      elim (cases_eq router e.importer) [
        | inl same ↦
            let here : slice_index_or (slice_set lists e.importer new) router d ≡ new = ap (λ b. slice_index_or (slice_set lists e.importer new) b d) same
            ∙ get_or-set_same lists e.importer new d inside in
            let was : old.items ≡ edges_of (take k edges) e.importer = ap (λ (v : Vec Placed Global). v.items) read ∙ before.each e.importer old inside in
            let test : nat_eq e.importer router ≡ true = same_test _ _ (sym same) in
            ap (λ (v : Vec Placed Global). v.items) here ∙ pushed
            ∙ ap (λ (xs : List Placed). xs ++ at_place k e ∷ []) (was ∙ ap (edges_of (take k edges)) (sym same)) ∙ sym (longer ∙ rw test refl)
        | inr ne ↦
            let there : slice_index_or (slice_set lists e.importer new) router d ≡ slice_index_or lists router d =
            get_or-set_other lists e.importer router new d ne in
            let test : nat_eq e.importer router ≡ false = other_test _ _ (λ same. ne (sym same)) in
            ap (λ (v : Vec Placed Global). v.items) there ∙ before.each router d within' ∙ sym (longer ∙ rw test (append-nil _))
      ];
}

-- ---- tests of one importer's edges are tests of all edges

pub any_of : (is : Edge → Bool) (router n : ℕ) (es : List Edge)
    → list_any (λ (p : Placed). is p.edge) (filter (is_of router) (placed n es)) ≡ list_any (λ (e : Edge). nat_eq e.importer router && is e) es
any_of is router n [] = refl
any_of is router n (e ∷ es) = by (nat_eq e.importer router) refl (any_of is router (n + 1) es)
  where
    by : (b : Bool) → nat_eq e.importer router ≡ b → list_any (λ (p : Placed). is p.edge) (filter (is_of router) (placed (n + 1) es))
        ≡ list_any (λ (x : Edge). nat_eq x.importer router && is x) es
        → list_any (λ (p : Placed). is p.edge) (cond b (at_place n e ∷ filter (is_of router) (placed (n + 1) es))
        (filter (is_of router) (placed (n + 1) es)))
        ≡ (nat_eq e.importer router && is e || list_any (λ (x : Edge). nat_eq x.importer router && is x) es)
    by true f rest = rw f (ap (λ b. is e || b) rest)
    by false f rest = rw f rest

pub all_of : (is : Edge → Bool) (router n : ℕ) (es : List Edge)
    → list_all (λ (p : Placed). is p.edge) (filter (is_of router) (placed n es)) ≡ list_all (λ (e : Edge). not (nat_eq e.importer router) || is e) es
all_of is router n [] = refl
all_of is router n (e ∷ es) = by (nat_eq e.importer router) refl (all_of is router (n + 1) es)
  where
    by : (b : Bool) → nat_eq e.importer router ≡ b → list_all (λ (p : Placed). is p.edge) (filter (is_of router) (placed (n + 1) es))
        ≡ list_all (λ (x : Edge). not (nat_eq x.importer router) || is x) es
        → list_all (λ (p : Placed). is p.edge) (cond b (at_place n e ∷ filter (is_of router) (placed (n + 1) es))
        (filter (is_of router) (placed (n + 1) es)))
        ≡ ((not (nat_eq e.importer router) || is e) && list_all (λ (x : Edge). not (nat_eq x.importer router) || is x) es)
    by true f rest = rw f (ap (λ b. is e && b) rest)
    by false f rest = rw f rest

-- ---- the first of one importer's edges over a link

abbrev over : ℕ → Placed → Bool
over link p = nat_eq p.edge.link link

pub edge_place : (router link n : ℕ) (es : List Edge) → option_map (λ (p : Placed). p.place) (find (over link) (filter (is_of router) (placed n es)))
    ≡ moved n (position (is_edge_over router link) es)
edge_place router link n [] = refl
edge_place router link n (e ∷ es) = by (edge_place router link (n + 1) es) (nat_eq e.importer router) refl (nat_eq e.link link) refl
    ∙ sym (position_first (is_edge_over router link) e es n)
  where
    by : option_map (λ (p : Placed). p.place) (find (over link) (filter (is_of router) (placed (n + 1) es)))
        ≡ moved (n + 1) (position (is_edge_over router link) es) → (b : Bool) → nat_eq e.importer router ≡ b → (c : Bool) → nat_eq e.link link ≡ c
        → option_map (λ (p : Placed). p.place) (find (over link) (filter (is_of router) (placed n (e ∷ es))))
        ≡ cond (is_edge_over router link e) (Some n) (moved (n + 1) (position (is_edge_over router link) es))
    by rest true f true g = rw (f, g) refl
    by rest true f false g = rw (f, g) rest
    by rest false f c g = rw f rest

-- what is known of the edge that was found
pub record IsFound (n : ℕ) (es : List Edge) (p : Placed) : Type 0 where
  pub at : ℕ
  pub place : p.place ≡ n + at
  pub inside : at < length es
  pub act : edge_act es at ≡ p.edge.act

found_next : (n : ℕ) (e : Edge) (es : List Edge) (p : Placed) → IsFound (n + 1) es p → IsFound n (e ∷ es) p
found_next n e es p f = record { at = suc f.at; place = f.place ∙ omega arith; inside = (let i = f.inside in omega arith); act = f.act }

pub edge_found : (router link n : ℕ) (es : List Edge) (p : Placed) → find (over link) (filter (is_of router) (placed n es)) ≡ Some p → IsFound n es p
edge_found router link n [] p found = absurd cc
edge_found router link n (e ∷ es) p found = by (edge_found router link (n + 1) es p) (nat_eq e.importer router) refl (nat_eq e.link link) refl
  where
    by : (find (over link) (filter (is_of router) (placed (n + 1) es)) ≡ Some p → IsFound (n + 1) es p) → (b : Bool) → nat_eq e.importer router ≡ b → (c : Bool)
        → nat_eq e.link link ≡ c → IsFound n (e ∷ es) p
    by rest true f true g = let same : at_place n e ≡ p = (let w = rw (f, g) at found in cc) in
        subst (IsFound n (e ∷ es)) same (record { at = 0; place = omega arith; inside = omega arith; act = refl })
    by rest true f false g = found_next n e es p (rest (rw (f, g) at found))
    by rest false f c g = found_next n e es p (rest (rw f at found))

-- ---- exporters

exporters_by : (n count router : ℕ) (es : List Edge) → All (λ (e : Edge). e.exporter < count) es
    → All (λ (p : Placed). p.edge.exporter < count) (filter (is_of router) (placed n es))
exporters_by n count router [] known = λ k d inside. absurd (omega arith)
exporters_by n count router (e ∷ es) known = by (nat_eq e.importer router) refl
    (exporters_by (n + 1) count router es (λ k d inside. known (suc k) d (omega arith)))
  where
    by : (b : Bool) → nat_eq e.importer router ≡ b → All (λ (p : Placed). p.edge.exporter < count) (filter (is_of router) (placed (n + 1) es))
        → All (λ (p : Placed). p.edge.exporter < count) (cond b (at_place n e ∷ filter (is_of router) (placed (n + 1) es))
        (filter (is_of router) (placed (n + 1) es)))
    by true f rest = All-cons (λ (p : Placed). p.edge.exporter < count) (at_place n e) (filter (is_of router) (placed (n + 1) es)) (known 0 e (omega arith))
        rest
    by false f rest = rest

pub list_known : (graph : ActGraph) (numbers : List ℕ) (router : ℕ) (list : List Placed) → list ≡ edges_of graph.edges router → length numbers ≡ graph.count
    → All (λ (p : Placed). p.edge.exporter < length numbers) list
list_known graph numbers router list is total =
    subst (λ n. All (λ (p : Placed). p.edge.exporter < n) list) (sym total)
    (subst (All (λ (p : Placed). p.edge.exporter < graph.count)) (sym is) (exporters_by 0 graph.count router graph.edges graph.exporters_in_range))

-- ---- what the list of a router says of all edges

pub list_is : (graph : ActGraph) (lists : List (Vec Placed Global)) (router : ℕ) (d : Vec Placed Global) → AreIndexed graph lists → router < graph.count
    → (slice_index_or lists router d).items ≡ edges_of graph.edges router
list_is graph lists router d are h = are.lists_of.each router d (omega (arith, are.total))

pub reaches_is : (graph : ActGraph) (numbers : List ℕ) (block act router : ℕ) (list : List Placed) → list ≡ edges_of graph.edges router
    → list_any (λ (p : Placed). leads_into numbers block act p.edge) list ≡ reaches graph.edges numbers block act router
unfolding reaches
reaches_is graph numbers block act router list is = ap (list_any (λ (p : Placed). leads_into numbers block act p.edge)) is
    ∙ any_of (leads_into numbers block act) router 0 graph.edges

pub mirrored_is : (graph : ActGraph) (numbers : List ℕ) (router other : ℕ) (list : List Placed) → list ≡ edges_of graph.edges router
    → list_all (λ (p : Placed). is_matched graph.edges numbers router other p.edge) list ≡ is_mirrored graph.edges numbers router other
unfolding is_mirrored
mirrored_is graph numbers router other list is = ap (list_all (λ (p : Placed). is_matched graph.edges numbers router other p.edge)) is
    ∙ all_of (is_matched graph.edges numbers router other) router 0 graph.edges

-- ---- the edges of the list

pub record IsListed (n router : ℕ) (es : List Edge) (p : Placed) : Type 0 where
  pub found : IsFound n es p
  pub importer : p.edge.importer ≡ router
  pub contains : Contains es p.edge

contains_next : (e x : Edge) (es : List Edge) → Contains es x → Contains (e ∷ es) x
contains_next e x es (k, inside, at) = (suc k, omega arith, at)

listed_by : (n router : ℕ) (es : List Edge) → All (IsListed n router es) (filter (is_of router) (placed n es))
listed_by n router [] = λ k d inside. absurd (omega arith)
listed_by n router (e ∷ es) = by (nat_eq e.importer router) refl
    (λ k d inside. later (slice_index_or (filter (is_of router) (placed (n + 1) es)) k d) (listed_by (n + 1) router es k d inside))
  where
    later : (p : Placed) → IsListed (n + 1) router es p → IsListed n router (e ∷ es) p
    later p l = record { found = found_next n e es p l.found; importer = l.importer; contains = contains_next e p.edge es l.contains }

    by : (b : Bool) → nat_eq e.importer router ≡ b → All (IsListed n router (e ∷ es)) (filter (is_of router) (placed (n + 1) es))
        → All (IsListed n router (e ∷ es)) (cond b (at_place n e ∷ filter (is_of router) (placed (n + 1) es)) (filter (is_of router) (placed (n + 1) es)))
    by true f rest = All-cons (IsListed n router (e ∷ es)) (at_place n e) (filter (is_of router) (placed (n + 1) es))
        (record {
          found = record { at = 0; place = omega arith; inside = omega arith; act = refl };
          importer = test_same _ _ f;
          contains =
              (0, omega arith, refl);
        }) rest
    by false f rest = rest

pub listed : (graph : ActGraph) (router : ℕ) (list : List Placed) → list ≡ edges_of graph.edges router → All (IsListed 0 router graph.edges) list
listed graph router list is = subst (All (IsListed 0 router graph.edges)) (sym is) (listed_by 0 router graph.edges)

-- ---- matches

pub matched_inside : (edges : List Edge) (numbers : List ℕ) (router other : ℕ) (e : Edge) → slice_index numbers e.exporter ≡ slice_index numbers router
    → is_matched edges numbers router other e ≡ true
matched_inside edges numbers router other e same = ap (λ b. b || reaches edges numbers (slice_index numbers e.exporter) e.act other) (same_test _ _ same)

pub matched_there : (graph : ActGraph) (numbers : List ℕ) (router other : ℕ) (e : Edge) (others : List Placed) → others ≡ edges_of graph.edges other
    → list_any (λ (p : Placed). leads_into numbers (slice_index numbers e.exporter) e.act p.edge) others ≡ true
    → is_matched graph.edges numbers router other e ≡ true
matched_there graph numbers router other e others is found =
    ap (λ b. nat_eq (slice_index numbers e.exporter) (slice_index numbers router) || b)
    (sym (reaches_is graph numbers (slice_index numbers e.exporter) e.act other others is) ∙ found)
    ∙ or_true (nat_eq (slice_index numbers e.exporter) (slice_index numbers router))

pub matched_nowhere : (graph : ActGraph) (numbers : List ℕ) (router other : ℕ) (e : Edge) (others : List Placed) → others ≡ edges_of graph.edges other
    → slice_index numbers e.exporter ≢ slice_index numbers router
    → list_any (λ (p : Placed). leads_into numbers (slice_index numbers e.exporter) e.act p.edge) others ≡ false
    → is_matched graph.edges numbers router other e ≡ false
matched_nowhere graph numbers router other e others is leaves none =
    ap (λ b. b || reaches graph.edges numbers (slice_index numbers e.exporter) e.act other) (other_test _ _ leaves)
    ∙ sym (reaches_is graph numbers (slice_index numbers e.exporter) e.act other others is) ∙ none

reached_by : (edges : List Edge) (numbers : List ℕ) (router : ℕ) (e : Edge) → e.importer ≡ router → Contains edges e
    → reaches edges numbers (slice_index numbers e.exporter) e.act router ≡ true
unfolding reaches
reached_by edges numbers router e importer (k, inside, at) =
    list_any-from_Any (leads_from numbers (slice_index numbers e.exporter) e.act router) edges (
      k,
      e,
      inside,
      at,
      both_of _ _ (same_test _ _ importer)
          (both_of _ _ (same_test e.act e.act refl) (same_test (slice_index numbers e.exporter) (slice_index numbers e.exporter) refl)),
    )
  where
    both_of : (a b : Bool) → a ≡ true → b ≡ true → (a && b) ≡ true
    both_of true b f g = g
    both_of false b f g = absurd cc

pub unmatched_is : (graph : ActGraph) (numbers : List ℕ) (router other : ℕ) (p : Placed) (others : List Placed) → others ≡ edges_of graph.edges other
    → IsListed 0 router graph.edges p → p.edge.exporter < length numbers
    → slice_index numbers p.edge.exporter ≢ slice_index numbers router
    → list_any (λ (q : Placed). leads_into numbers (slice_index numbers p.edge.exporter) p.edge.act q.edge) others ≡ false
    → IsUnmatched graph.edges numbers p router other
unmatched_is graph numbers router other p others is l known leaves none =
    let place : p.place ≡ l.found.at = l.found.place ∙ omega arith in
    record {
      inside = (let i = l.found.inside in omega (arith, place));
      act = ap (edge_act graph.edges) place ∙ l.found.act;
      exporter = known;
      leaves = leaves;
      reached = reached_by graph.edges numbers router p.edge l.importer l.contains;
      unreached = sym (reaches_is graph numbers (slice_index numbers p.edge.exporter) p.edge.act other others is) ∙ none;
    }

moved_back : (o : Option ℕ) (k : ℕ) → moved 0 o ≡ Some k → o ≡ Some k
moved_back None k e = absurd cc
moved_back (Some j) k e = let f : 0 + j ≡ k = cc in ap (λ (i : ℕ). Some i) (omega arith)

moved_none : (o : Option ℕ) → moved 0 o ≡ None → o ≡ None
moved_none None e = refl
moved_none (Some j) e = absurd cc

pub named_there : (edges : List Edge) (router link : ℕ) (list : List Placed) (p : Placed) → list ≡ edges_of edges router
    → find (λ (q : Placed). nat_eq q.edge.link link) list ≡ Some p → edge_named edges router link ≡ Some p.place
named_there edges router link list p is found =
    moved_back (edge_named edges router link) p.place (sym (edge_place router link 0 edges)
    ∙ ap (λ (ps : List Placed). option_map (λ (q : Placed). q.place) (find (over link) ps)) (sym is) ∙ ap (option_map (λ (q : Placed). q.place)) found)

pub named_nowhere : (edges : List Edge) (router link : ℕ) (list : List Placed) → list ≡ edges_of edges router
    → find (λ (q : Placed). nat_eq q.edge.link link) list ≡ None → edge_named edges router link ≡ None
named_nowhere edges router link list is none =
    moved_none (edge_named edges router link) (sym (edge_place router link 0 edges)
    ∙ ap (λ (ps : List Placed). option_map (λ (q : Placed). q.place) (find (over link) ps)) (sym is) ∙ ap (option_map (λ (q : Placed). q.place)) none)

pub named_act : (edges : List Edge) (router link : ℕ) (list : List Placed) (p : Placed) → list ≡ edges_of edges router
    → find (λ (q : Placed). nat_eq q.edge.link link) list ≡ Some p → p.edge.act ≡ edge_act edges p.place
named_act edges router link list p is found =
    let f = edge_found router link 0 edges p (ap (find (over link)) (sym is) ∙ found) in
    let place : p.place ≡ f.at = f.place ∙ omega arith in
    sym (ap (edge_act edges) place ∙ f.act)
