-- The start, a turn and the end of the refinement by pending blocks.
use Rattle.std.proofs.Common.{◌≡◌, ◌≢◌, ℕ, zero, suc, ◌+◌, ◌-◌, ◌<◌, Bool, true, false, List, [], ◌∷◌, ◌++◌, length, get_or, slice_index_or, slice_set, take, All, Contains, refl, sym, ◌∙◌, ap, subst, arith, inl, inr}
use Rattle.std.specs.Prelude.{slice_index, ◌⊎◌}
use Rattle.std.proofs.lemmas.Bool.{cases_eq, cases_lt}
use Rattle.std.proofs.lemmas.List.{get_or-set_same, get_or-set_other, get_or_default, get_or_past, get_or_append_left, get_or_push, length_push}
use Rattle.std.proofs.Math.ListN.{length-set}
use Rattle.std.proofs.lemmas.List.Elements.{All-get_or, All-contains, All-push, All-weaker, Contains-get_or, Contains-push, Contains-append_left, Contains-push_cases}
use Rattle.base_kit.specs.declared.act_graph.Edge.{Edge}
use Rattle.base_kit.specs.declared.act_graph.ActGraph.{ActGraph}
use Rattle.base_kit.specs.Partition.{HasTwinIfOutgoing, IsMirroredAt, IsAdmissibleOn, Refines, IsCoarsestOn}
use Rattle.base_kit.proofs.Mirrors.{mirrored_coarser}
use Rattle.refine_partition.specs.Splits.{HasAct, ActAlike, IsStart}
use Rattle.refine_partition.specs.Loose.{AreParted}
use Rattle.refine_partition.specs.Pending.{HasEachOnce, AreAllWaiting, AreMarked, IsWaiting, IsEven, IsRefining, ArePiecesWaiting}
use Rattle.refine_partition.specs.Numbering.{IsNumbering}
use Rattle.refine_partition.proofs.MemberLemmas.{Contains-cons}

pub refining_start : (graph : ActGraph) (numbers : List ℕ) (count : ℕ) (queue : List ℕ) → IsStart graph numbers count →
    ((block : ℕ) → block < count → Contains queue block) → All (λ block. block < count) queue → IsRefining graph numbers count queue
refining_start graph numbers count queue start waiting known =
    let total = start.total in
    record {
      total = total;
      below = λ u hu. All-get_or (λ g. g < count) numbers u 0 (omega arith) start.numbered.below;
      small = start.few;
      colors = λ u v hu hv same. start.apart u v hu hv same;
      refined = λ others admissible u v hu hv same. start.together u v hu hv (admissible.colors u v hu hv same);
      even = λ block inside none. absurd (none (waiting block inside));
      known = known;
    }

-- routers of an admissible partition that refines the blocks have edges of the same acts into a block
-- that they are no members of
acts_kept : (graph : ActGraph) (numbers others : List ℕ) (taken u v : ℕ) → IsAdmissibleOn graph others → Refines graph.count others numbers → u < graph.count →
    v < graph.count → slice_index others u ≡ slice_index others v → slice_index numbers u ≢ taken → (act : ℕ) → HasAct graph.edges numbers taken u act →
    HasAct graph.edges numbers taken v act
unfolding IsMirroredAt
acts_kept graph numbers others taken u v admissible refines hu hv same outside act has =
    let (k, e, inside, at, (importer, acts, into)) = has.edge in
    let exporter : e.exporter < graph.count = subst (λ (x : Edge). x.exporter < graph.count) at (graph.exporters_in_range k e inside) in
    let leaves : slice_index others e.exporter ≢ slice_index others u = λ same_group. outside (sym (refines e.exporter u exporter hu same_group) ∙ into) in
    let mirrored = subst (λ (x : Edge). HasTwinIfOutgoing graph.edges others u v x) at (admissible.edges u v hu hv same k e inside) in
    let (j, twin, within, at', (importer', acts', into')) = mirrored.twin importer leaves in
    let exporter' : twin.exporter < graph.count = subst (λ (x : Edge). x.exporter < graph.count) at' (graph.exporters_in_range j twin within) in
    record { edge = (j, twin, within, at', (importer', acts' ∙ acts, refines twin.exporter e.exporter exporter' exporter into' ∙ into)) }

-- an undivided block has the members that it had
undivided : (graph : ActGraph) (taken : ℕ) (numbers next origins : List ℕ) (before after : ℕ) (block u : ℕ) →
    AreParted graph taken numbers next before after origins → block < before → ¬ ((k : ℕ) × (k < length origins) × (slice_index origins k ≡ block)) →
    u < graph.count → slice_index numbers u ≡ block → slice_index next u ≡ block
undivided graph taken numbers next origins before after block u divided old whole hu is = elim (cases_lt (slice_index next u) before) [
  | inl low ↦ divided.kept u hu low ∙ is
  | inr high ↦
      let lt = divided.below u hu in
      let size = divided.size in
      let from = divided.origin u (slice_index next u - before) hu (omega arith) in
      absurd (whole (slice_index next u - before, omega arith, from ∙ is))
]

even_after : (graph : ActGraph) (taken : ℕ) (numbers next origins : List ℕ) (before after : ℕ) (block : ℕ) →
    AreParted graph taken numbers next before after origins → block < before → ¬ ((k : ℕ) × (k < length origins) × (slice_index origins k ≡ block)) →
    ((u v : ℕ) → u < graph.count → v < graph.count → slice_index next u ≡ slice_index next v → slice_index numbers u ≢ block →
    ActAlike graph.edges numbers block u v) → IsEven graph next block
even_after graph taken numbers next origins before after block divided old whole alike =
    let there : (u : ℕ) → u < graph.count → slice_index numbers u ≡ block → slice_index next u ≡ block =
    λ u hu is. undivided graph taken numbers next origins before after block u divided old whole hu is in
    let back : (u : ℕ) → u < graph.count → slice_index next u ≡ block → slice_index numbers u ≡ block = λ u hu is. sym (divided.kept u hu (omega arith)) ∙ is in
    let after_has : (u act : ℕ) → HasAct graph.edges numbers block u act → HasAct graph.edges next block u act = λ u act has.
    let (k, e, inside, at, (importer, acts, into)) = has.edge in
    let exporter : e.exporter < graph.count = subst (λ (x : Edge). x.exporter < graph.count) at (graph.exporters_in_range k e inside) in
    record { edge = (k, e, inside, at, (importer, acts, there e.exporter exporter into)) } in
    let before_has : (u act : ℕ) → HasAct graph.edges next block u act → HasAct graph.edges numbers block u act = λ u act has.
    let (k, e, inside, at, (importer, acts, into)) = has.edge in
    let exporter : e.exporter < graph.count = subst (λ (x : Edge). x.exporter < graph.count) at (graph.exporters_in_range k e inside) in
    record { edge = (k, e, inside, at, (importer, acts, back e.exporter exporter into)) } in
    record {
      alike = λ u v hu hv same outside.
          let are = alike u v hu hv same (λ is. outside (there u hu is)) in
          record {
            there = λ act has. after_has v act (are.there act (before_has u act has));
            back = λ act has. after_has u act (are.back act (before_has v act has));
          };
    }

-- a turn takes one block out of the queue
pub refining_turn : (graph : ActGraph) (taken : ℕ) (numbers next origins queue left queue' : List ℕ) (before after : ℕ) →
    IsRefining graph numbers before queue → ((block : ℕ) → Contains queue block → (block ≡ taken) ⊎ Contains left block) → All (λ block. block < before) left →
    AreParted graph taken numbers next before after origins → ArePiecesWaiting left queue' before origins → IsRefining graph next after queue'
refining_turn graph taken numbers next origins queue left queue' before after refining taken_out known divided waiting =
    let size = divided.size in
    record {
      total = divided.total;
      below = divided.below;
      small = divided.few;
      colors = λ u v hu hv same. refining.colors u v hu hv (divided.apart u v hu hv same).same;
      refined = λ others admissible u v hu hv same.
          let refines = refining.refined others admissible in
          let together = refines u v hu hv same in
          divided.together u v hu hv (record {
            same = together;
            alike = λ outside. record {
              there = acts_kept graph numbers others taken u v admissible refines hu hv same outside;
              back = acts_kept graph numbers others taken v u admissible refines hv hu (sym same) (λ is. outside (together ∙ is));
            };
          });
      even = λ block inside none.
          let old : block < before = elim (cases_lt block before) [
            | inl lt ↦ lt
            | inr le ↦ absurd (none (subst (Contains queue') (omega arith) (waiting.further (block - before) (omega arith))))
          ] in
          let whole : ¬ ((k : ℕ) × (k < length origins) × (slice_index origins k ≡ block)) = λ found. let (k, within, is) = found in
          none (subst (Contains queue') is (waiting.divided k within)) in
          even_after graph taken numbers next origins before after block divided old whole (λ u v hu hv same outside.
          let stay = divided.apart u v hu hv same in
          elim (cases_eq block taken) [
            | inl e ↦ subst (λ b. ActAlike graph.edges numbers b u v) (sym e) (stay.alike (λ is. outside (is ∙ sym e)))
            | inr ne ↦
                let still : ¬ Contains queue block = λ found. elim (taken_out block found) [ inl e ↦ ne e | inr there ↦ none (waiting.kept block there) ] in
                (refining.even block old still).alike u v hu hv stay.same outside
          ]);
      known = waiting.known after (λ k d inside. let lt = known k d inside in omega arith) (λ k d inside. let lt = divided.known k d inside in omega arith)
          (omega arith);
    }

-- where nothing waits the blocks are the coarsest partition
pub refining_end : (graph : ActGraph) (numbers : List ℕ) (count : ℕ) → IsRefining graph numbers count [] → IsCoarsestOn graph numbers
unfolding IsMirroredAt
refining_end graph numbers count refining = record {
  admissible = record {
    total = refining.total;
    colors = refining.colors;
    edges = λ u v hu hv same k d inside. record {
      twin = λ imports leaves.
          let e : Edge = slice_index_or graph.edges k d in
          let exporter = graph.exporters_in_range k d inside in
          let block : ℕ = slice_index numbers e.exporter in
          let even = refining.even block (refining.below e.exporter exporter) (λ found. let (j, within, at) = found in absurd (omega arith)) in
          let alike = even.alike u v hu hv same (λ is. leaves (sym is)) in
          let has : HasAct graph.edges numbers block u e.act =
          record { edge = (k, e, inside, get_or_default graph.edges k e d inside, (imports, refl, refl)) } in
          let (j, twin, within, at, (importer, acts, into)) = (alike.there e.act has).edge in
          (j, twin, within, at, (importer, acts, into));
    };
  };
  refined = refining.refined;
}

-- numbers that are equal where the blocks are give the same partition
pub coarsest_by_number : (graph : ActGraph) (blocks numbers : List ℕ) (count : ℕ) → IsCoarsestOn graph blocks → length numbers ≡ length blocks →
    IsNumbering blocks numbers count → IsCoarsestOn graph numbers
coarsest_by_number graph blocks numbers count coarsest size numbering =
    let total : length numbers ≡ graph.count = size ∙ coarsest.admissible.total in
    let apart : Refines graph.count numbers blocks = λ u v hu hv same. numbering.apart u v (omega arith) (omega arith) same in
    let together : Refines graph.count blocks numbers = λ u v hu hv same. numbering.together u v (omega arith) (omega arith) same in
    record {
      admissible = record {
        total = total;
        colors = λ u v hu hv same. coarsest.admissible.colors u v hu hv (apart u v hu hv same);
        edges = λ u v hu hv same. mirrored_coarser _ blocks numbers graph.count u v graph.exporters_in_range together hu
            (coarsest.admissible.edges u v hu hv (apart u v hu hv same));
      };
      refined = λ others admissible u v hu hv same. together u v hu hv (coarsest.refined others admissible u v hu hv same);
    }

distinct_left : (left : List ℕ) (block : ℕ) → HasEachOnce (left ++ block ∷ []) → HasEachOnce left
distinct_left left block once = λ i j less inside same.
    let more = length_push left block in
    once i j less (omega arith) (get_or_append_left left (block ∷ []) 0 i (omega arith) ∙ same ∙ sym (get_or_append_left left (block ∷ []) 0 j inside))

-- the last block of a queue does not stand before, too
pub distinct_last : (left : List ℕ) (block : ℕ) → HasEachOnce (left ++ block ∷ []) → ¬ Contains left block
distinct_last left block once = λ found.
    let (k, inside, at) = found in
    let more = length_push left block in
    let at' : slice_index left k ≡ block = get_or_default left k 0 block inside ∙ at in
    once k (length left) inside (omega arith) (get_or_append_left left (block ∷ []) 0 k inside ∙ at' ∙ sym (get_or_push left block 0 (length left) refl))

distinct_push : (old : List ℕ) (block : ℕ) → ¬ Contains old block → HasEachOnce old → HasEachOnce (old ++ block ∷ [])
distinct_push old block none once = λ i j less inside same.
    let more = length_push old block in
    let at_i : slice_index (old ++ block ∷ []) i ≡ slice_index old i = get_or_append_left old (block ∷ []) 0 i (omega arith) in
    elim (cases_lt j (length old)) [
      | inl lt ↦ once i j less lt (sym at_i ∙ same ∙ get_or_append_left old (block ∷ []) 0 j lt)
      | inr le ↦
          let is : slice_index old i ≡ block = sym at_i ∙ same ∙ get_or_push old block 0 j (omega arith) in
          none (subst (Contains old) is (Contains-get_or old i 0 (omega arith)))
    ]

distinct_cons : (old : List ℕ) (block : ℕ) → ¬ Contains old block → HasEachOnce old → HasEachOnce (block ∷ old)
distinct_cons old block none once = by
  where
    by : HasEachOnce (block ∷ old)
    by i zero less inside same = absurd (omega arith)
    by zero (suc j) less inside same = none (subst (Contains old) (sym same) (Contains-get_or old j 0 (omega arith)))
    by (suc i) (suc j) less inside same = once i j (omega arith) (omega arith) same

pub waiting_last : (old new : List ℕ) (block : ℕ) → new ≡ old ++ block ∷ [] → IsWaiting old new block
waiting_last old new block e = rw e (record {
  waits = Contains-push old block;
  kept = λ other found. Contains-append_left old (block ∷ []) other found;
  only = λ other found. elim (Contains-push_cases old block other found) [ inl there ↦ inl there | inr is ↦ inr (sym is) ];
  once = distinct_push old block;
  few = let more = length_push old block in omega arith;
})

pub waiting_first : (old new : List ℕ) (block : ℕ) → new ≡ block ∷ old → IsWaiting old new block
waiting_first old new block e = rw e (record {
  waits = (0, omega arith, refl);
  kept = λ other found. Contains-cons block old other found;
  only = λ other found. by block old other found;
  once = distinct_cons old block;
  few = omega arith;
})
  where
    by : (block : ℕ) (old : List ℕ) (other : ℕ) → Contains (block ∷ old) other → Contains old other ⊎ (other ≡ block)
    by block old other (zero, inside, at) = inr (sym at)
    by block old other (suc k, inside, at) = inl (k, omega arith, at)

pub waiting_already : (queue : List ℕ) (block : ℕ) → Contains queue block → IsWaiting queue queue block
waiting_already queue block there = record {
  waits = there;
  kept = λ other found. found;
  only = λ other found. inl found;
  once = λ none once. once;
  few = omega arith;
}

pub marked_more : (old new : List ℕ) (waits : List Bool) (block : ℕ) → AreMarked old waits → block < length waits →
    slice_index_or waits block false ≡ false → IsWaiting old new block → AreMarked new (slice_set waits block true)
marked_more old new waits block marked known free waiting = record {
  marked = λ b inside is. elim (cases_eq b block) [
    | inl e ↦ subst (Contains new) (sym e) waiting.waits
    | inr ne ↦ let size = length-set waits block true in
        waiting.kept b (marked.marked b (omega arith) (sym (get_or-set_other waits block b true false ne) ∙ is))
  ];
  only = λ b found. elim (cases_eq b block) [
    | inl e ↦ ap (λ i. slice_index_or (slice_set waits block true) i false) e ∙ get_or-set_same waits block true false known
    | inr ne ↦ elim (waiting.only b found) [
      | inl there ↦ get_or-set_other waits block b true false ne ∙ marked.only b there
      | inr is ↦ absurd (ne is)
    ]
  ];
  once = waiting.once (λ found. let is = marked.only block found in absurd cc) marked.once;
}

pub marked_new : (queue : List ℕ) (waits waits' : List Bool) → AreMarked queue waits → waits' ≡ waits ++ false ∷ [] → AreMarked queue waits'
marked_new queue waits waits' marked e = rw e (record {
  marked = λ b inside is. let more = length_push waits false in elim (cases_lt b (length waits)) [
    | inl lt ↦ marked.marked b lt (sym (get_or_append_left waits (false ∷ []) false b lt) ∙ is)
    | inr le ↦ let last = get_or_push waits false false b (omega arith) in absurd cc
  ];
  only = λ b found. let is = marked.only b found in elim (cases_lt b (length waits)) [
    | inl lt ↦ get_or_append_left waits (false ∷ []) false b lt ∙ is
    | inr le ↦ let past = get_or_past waits b false le in absurd cc
  ];
  once = marked.once;
})

pub marked_taken : (queue left : List ℕ) (waits : List Bool) (block : ℕ) → AreMarked queue waits → queue ≡ left ++ block ∷ [] → block < length waits →
    AreMarked left (slice_set waits block false)
marked_taken queue left waits block marked e known = let once : HasEachOnce (left ++ block ∷ []) = subst HasEachOnce e marked.once in record {
  marked = λ b inside is. elim (cases_eq b block) [
    | inl same ↦ let at : slice_index_or (slice_set waits block false) b false ≡ false = ap (λ i. slice_index_or (slice_set waits block false) i false) same
        ∙ get_or-set_same waits block false false known in absurd cc
    | inr ne ↦
        let size = length-set waits block false in
        let found : Contains queue b = marked.marked b (omega arith) (sym (get_or-set_other waits block b false false ne) ∙ is) in
        elim (Contains-push_cases left block b (subst (λ (q : List ℕ). Contains q b) e found)) [ inl there ↦ there | inr same ↦ absurd (ne (sym same)) ]
  ];
  only = λ b found.
      let ne : b ≢ block = λ same. distinct_last left block once (subst (Contains left) same found) in
      get_or-set_other waits block b false false ne
      ∙ marked.only b (subst (λ (q : List ℕ). Contains q b) (sym e) (Contains-append_left left (block ∷ []) b found));
  once = distinct_left left block once;
}

pub pieces_none : (queue origins : List ℕ) (before : ℕ) → ArePiecesWaiting queue queue before (take 0 origins)
pieces_none queue origins before = record {
  further = λ k inside. absurd (omega arith);
  divided = λ k inside. absurd (omega arith);
  kept = λ other found. found;
  only = λ block found. inl found;
  known = λ bound old new le. old;
  few = omega arith;
}

all_waiting_known : (old new : List ℕ) (block bound : ℕ) → IsWaiting old new block → All (λ b. b < bound) old → block < bound → All (λ b. b < bound) new
all_waiting_known old new block bound waiting all lt = λ k d inside. elim (waiting.only (get_or new k d) (Contains-get_or new k d inside)) [
  | inl there ↦ All-contains (λ b. b < bound) old (get_or new k d) all there
  | inr is ↦ omega arith
]

pub pieces_more : (old queue middle new origins : List ℕ) (before origin piece : ℕ) → ArePiecesWaiting old queue before origins →
    IsWaiting queue middle origin → IsWaiting middle new piece → piece ≡ before + length origins → ArePiecesWaiting old new before (origins ++ origin ∷ [])
pieces_more old queue middle new origins before origin piece waiting first second is =
    let more = length_push origins origin in
    let kept : (other : ℕ) → Contains queue other → Contains new other = λ other found. second.kept other (first.kept other found) in
    record {
      further = λ k inside. elim (cases_lt k (length origins)) [
        | inl lt ↦ kept _ (waiting.further k lt)
        | inr le ↦ subst (Contains new) (omega arith) second.waits
      ];
      divided = λ k inside. elim (cases_lt k (length origins)) [
        | inl lt ↦ subst (Contains new) (sym (get_or_append_left origins (origin ∷ []) 0 k lt)) (kept _ (waiting.divided k lt))
        | inr le ↦ subst (Contains new) (sym (get_or_push origins origin 0 k (omega arith))) (second.kept _ first.waits)
      ];
      kept = λ other found. kept other (waiting.kept other found);
      only = λ block found. elim (second.only block found) [
        | inl there ↦ elim (first.only block there) [
          | inl there' ↦ elim (waiting.only block there') [
            | inl there'' ↦ inl there''
            | inr new' ↦
                let (k, inside, which) = new' in
                let at : slice_index (origins ++ origin ∷ []) k ≡ slice_index origins k = get_or_append_left origins (origin ∷ []) 0 k inside in
                inr (k, omega arith, elim which [ inl e ↦ inl e | inr e ↦ inr (e ∙ sym at) ])
          ]
          | inr e ↦ inr (length origins, omega arith, inr (e ∙ sym (get_or_push origins origin 0 (length origins) refl)))
        ]
        | inr e ↦ inr (length origins, omega arith, inl (e ∙ is))
      ];
      known = λ bound olds all le.
          let all' : All (λ b. b < bound) origins =
          λ k d inside. subst (λ b. b < bound) (get_or_append_left origins (origin ∷ []) d k inside) (all k d (omega arith)) in
          let last : origin < bound = subst (λ b. b < bound) (get_or_push origins origin 0 (length origins) refl) (all (length origins) 0 (omega arith)) in
          all_waiting_known middle new piece bound second (all_waiting_known queue middle origin bound first (waiting.known bound olds all' (omega arith)) last)
          (omega arith);
      few = let few = waiting.few in let few' = first.few in let few'' = second.few in omega arith;
    }

pub marked_all : (count : ℕ) (queue : List ℕ) (waits : List Bool) → AreAllWaiting count queue waits → AreMarked queue waits
marked_all count queue waits all = record {
  marked = λ b inside is. let size = all.size in all.all b (omega arith);
  only = λ b found. let size = all.size in let lt = All-contains (λ b. b < count) queue b all.known found in all.marks b false (omega arith);
  once = all.once;
}

pub left_known : (queue left : List ℕ) (block bound : ℕ) → queue ≡ left ++ block ∷ [] → All (λ b. b < bound) queue → All (λ b. b < bound) left × (block < bound)
left_known queue left block bound e all =
    let all' : All (λ b. b < bound) (left ++ block ∷ []) = rw (sym e) all in
    let more = length_push left block in (
      (λ k d inside. subst (λ b. b < bound) (get_or_append_left left (block ∷ []) d k inside) (all' k d (omega arith))),
      subst (λ b. b < bound) (get_or_push left block 0 (length left) refl) (all' (length left) 0 (omega arith)),
    )

pub taken_or_left : (queue left : List ℕ) (taken : ℕ) → queue ≡ left ++ taken ∷ [] → (block : ℕ) → Contains queue block → (block ≡ taken) ⊎ Contains left block
taken_or_left queue left taken e block found =
    elim (Contains-push_cases left taken block (subst (λ (q : List ℕ). Contains q block) e found)) [ inl there ↦ inr there | inr is ↦ inl (sym is) ]

pub none_waiting : AreAllWaiting 0 [] []
none_waiting = record {
  size = refl;
  marks = λ k d inside. absurd (omega arith);
  few = refl;
  once = λ i j less inside same. absurd (omega arith);
  all = λ block inside. absurd (omega arith);
  known = λ k d inside. absurd (omega arith);
}

pub all_more : (count : ℕ) (queue : List ℕ) (waits : List Bool) → AreAllWaiting count queue waits →
    AreAllWaiting (count + 1) (queue ++ count ∷ []) (waits ++ true ∷ [])
all_more count queue waits all = record {
  size = let size = all.size in let more = length_push waits true in omega arith;
  marks = All-push (λ w. w ≡ true) waits true all.marks refl;
  few = let few = all.few in let more = length_push queue count in omega arith;
  once = distinct_push queue count (λ found. let lt = All-contains (λ b. b < count) queue count all.known found in absurd (omega arith)) all.once;
  all = λ block inside. elim (cases_lt block count) [
    | inl lt ↦ Contains-append_left queue (count ∷ []) block (all.all block lt)
    | inr le ↦ subst (Contains (queue ++ count ∷ [])) (omega arith) (Contains-push queue count)
  ];
  known = All-push (λ b. b < count + 1) queue count (All-weaker (λ b. b < count) (λ b. b < count + 1) (λ b lt. omega arith) queue all.known) (omega arith);
}
