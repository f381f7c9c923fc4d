-- The text that is printed of a certificate spells it.
use Rattle.std.proofs.Common.{◌≡◌, ℕ, zero, suc, ◌+◌, ◌<◌, ◌≤◌, Bool, true, false, cond, ◌&&◌, ◌||◌, nat_eq, List, [], ◌∷◌, ◌++◌, length, map, get_or, refl, sym, ap, ◌∙◌, subst, arith, inl, inr, All, Option, Some, None, Ok, Err, codes, append-nil, append_assoc}
use Rattle.std.specs.Prelude.{slice_get, bytes_eq, nat_le, ◌⊎◌}
use Rattle.std.specs.Fmt.{decimal}
use Rattle.std.specs.List.{AllByRecursion, list_any, list_all, position}
use Rattle.std.proofs.lemmas.Bool.Decides.{nat_tests}
use Rattle.std.proofs.lemmas.List.{map-append}
use Rattle.std.proofs.lemmas.Slice.Eq.{bytes_eq-Decides}
use Rattle.base_kit.specs.declared.act_graph.Edge.{Edge}
use Rattle.base_kit.specs.declared.act_graph.ActGraph.{ActGraph}
use Rattle.base_kit.specs.Numbers.{number_of}
use Rattle.base_kit.specs.Partition.{members_of}
use Rattle.base_kit.specs.Sets.{has}
use Rattle.base_kit.proofs.Elements.{In}
use Rattle.cfg_ast.specs.text.Members.{all_lines_of}
use Rattle.cfg_ast.specs.text.TextLines.{TextLine, text_line}
use Rattle.cfg_ast.specs.text.Words.{is_router_name, number_word}
use Rattle.cfg_ast.specs.printing.Bare.{bare_line}
use Rattle.cfg_ast.specs.printing.Printed.{lines_text}
use Rattle.cfg_round_trip.proofs.PrintedLines.{IsPrintedWord, IsPrintedLine}
use Rattle.cfg_round_trip.proofs.PrintedWords.{word_as_tested, decimal_prints, router_name_prints}
use Rattle.cfg_round_trip.proofs.TextLines.{all_lines_back}
use Rattle.cfg_round_trip.proofs.WordsBack.{number_back}
use Rattle.cut_certificate.specs.declared.certificate.Split.{Split}
use Rattle.cut_certificate.specs.declared.certificate.Certificate.{Certificate}
use Rattle.cut_certificate.specs.declared.refusal.CutKind.TheVariants.{WrongGroups}
use Rattle.cut_certificate.specs.declared.standing.Stage.{Stage}
use Rattle.cut_certificate.specs.declared.standing.Stage.TheVariants.{Opening, Splitting, Naming, Closed}
use Rattle.cut_certificate.specs.Blocks.{Blocks, distinct, place_among, first_blocks, groups_of, edge_act, is_block, split_by}
use Rattle.cut_certificate.specs.Certificates.{AreAfter, IsAccepted}
use Rattle.cut_certificate.specs.Evenness.{are_even}
use Rattle.cut_certificate.specs.Forms.{certificate_line_of}
use Rattle.cut_certificate.specs.Forms.CertificateLine.{Divide, Group, End}
use Rattle.cut_certificate.specs.InUse.{AreInUse}
use Rattle.cut_certificate.specs.Printed.{printed_name, edge_importer, edge_link, head_line, split_line, named_group_line, end_line, certificate_lines, certificate_text}
use Rattle.cut_certificate.specs.Texts.{Standing, opening, router_named, routers_named, is_edge_over, edge_named, with_blocks, with_edge, with_router, with_split, is_next_group, with_members, with_group, with_all_groups, with_closing, with_saying, with_line, certificate_of, ended, go_on, certificate_from, certificate_of_text}
use Rattle.cut_certificate.proofs.Evened.{admissible_even, is_member}
use Rattle.cut_certificate.proofs.Grouped.{members_in_range}
use Rattle.cut_certificate.proofs.Reached.{first_reached, all_reached, and_first, and_second}
use Rattle.numbered_names.proofs.Positions.{moved, position_first, bytes_eq-sym}
use Rattle.cut_certificate.proofs.Seen.{same_test, or_true, at_place, place_below, distinct_only}
use Rattle.cut_certificate.proofs.StepsOf.{made, split_total}
use Rattle.cut_certificate.proofs.Used.{first_used, split_used}
use Rattle.cut_certificate.proofs.Written.{importer_is}
use Rattle.certificate_round_trip.specs.Laws.{AreOfLinks, CanBeNamed, PrintedCertificateIsReadBack}
use Rattle.base_kit.specs.Names.{AreApart}

-- ---- the lines, one after the other

-- the lines of these words lead from one standing to another
abbrev Runs : List Edge → (List ℕ → Option ℕ) → Standing → List (List (List ℕ)) → Standing → Type 0
Runs edges routers s [] last = s ≡ last
Runs edges routers s (words ∷ more) last = (next : Standing) × (with_line edges routers s words ≡ Ok next) × Runs edges routers next more last

runs_on : (edges : List Edge) (routers : List ℕ → Option ℕ) (s middle last : Standing) (first second : List (List (List ℕ))) → Runs edges routers s first middle
    → Runs edges routers middle second last → Runs edges routers s (first ++ second) last
runs_on edges routers s middle last [] second a b = subst (λ t. Runs edges routers t second last) (sym a) b
runs_on edges routers s middle last (words ∷ first) second (next, is, rest) b = (next, is, runs_on edges routers next middle last first second rest b)

abbrev words_of : List TextLine → List (List (List ℕ))
words_of ls = map (λ (l : TextLine). l.words) ls

run_ends : (edges : List Edge) (routers : List ℕ → Option ℕ) (end : ℕ) (ls : List TextLine) (s last : Standing) → Runs edges routers s (words_of ls) last
    → last.stage ≡ Closed → certificate_from edges routers end ls s ≡ Ok (certificate_of last)
unfolding certificate_from
run_ends edges routers end [] s last runs with_all_groups = subst (λ t. ended end t t.stage ≡ Ok (certificate_of last)) (sym runs)
    (ap (ended end last) with_all_groups)
run_ends edges routers end (l ∷ ls) s last (next, is, rest) with_all_groups = ap (λ r. go_on l.number r (certificate_from edges routers end ls)) is
    ∙ run_ends edges routers end ls next last rest with_all_groups

-- ---- names

own : (name : List ℕ) → bytes_eq name name ≡ true
own name = (bytes_eq-Decides name name).1 refl

not_any : {X : Type 0} (test : X → Bool) (x : X) (xs : List X) → list_any test (x ∷ xs) ≡ false → (test x ≡ false) × (list_any test xs ≡ false)
not_any test x xs e = by (test x) refl
  where
    by : (b : Bool) → test x ≡ b → (test x ≡ false) × (list_any test xs ≡ false)
    by true f = absurd (let w : list_any test (x ∷ xs) ≡ true = rw f refl in cc)
    by false f = (f, sym (rw f refl) ∙ e)

not_at : {X : Type 0} (test : X → Bool) (xs : List X) (k : ℕ) (d : X) → list_any test xs ≡ false → k < length xs → test (get_or xs k d) ≡ false
not_at test [] k d none h = absurd (omega arith)
not_at test (x ∷ xs) zero d none h = (not_any test x xs none).0
not_at test (x ∷ xs) (suc k) d none h = not_at test xs k d (not_any test x xs none).1 (omega arith)

name_place : (names : List (List ℕ)) (n u : ℕ) → AreApart names → u < length names → moved n (position (bytes_eq (printed_name names u)) names) ≡ Some (n + u)
name_place [] n u apart h = absurd (omega arith)
name_place (name ∷ names) n zero apart h = position_first (bytes_eq name) name names n ∙ rw (own name) (ap (λ (k : ℕ). Some k) (omega arith))
name_place (name ∷ names) n (suc u) apart h =
    let wanted = printed_name names u in
    let other : bytes_eq wanted name ≡ false = bytes_eq-sym wanted name ∙ not_at (bytes_eq name) names u [] apart.0 (omega arith) in
    let next : n + 1 + u ≡ n + suc u = omega arith in
    position_first (bytes_eq wanted) name names n ∙ rw other (name_place names (n + 1) u apart.1 (omega arith) ∙ ap (λ (k : ℕ). Some k) next)

same_place : (o : Option ℕ) (k : ℕ) → moved 0 o ≡ Some (0 + k) → o ≡ Some k
same_place None k e = absurd cc
same_place (Some j) k e = let f : 0 + j ≡ 0 + k = cc in ap (λ (i : ℕ). Some i) (omega arith)

pub router_back : (names : List (List ℕ)) (u : ℕ) → AreApart names → u < length names → router_named names (printed_name names u) ≡ Some u
router_back names u apart h = same_place (router_named names (printed_name names u)) u (name_place names 0 u apart h)

routers_back : (names : List (List ℕ)) (group : List ℕ) → AreApart names → AllByRecursion (λ u. u < length names) group
    → routers_named (router_named names) (map (printed_name names) group) ≡ Some group
routers_back names [] apart known = refl
routers_back names (u ∷ group) apart known = rw (router_back names u apart known.0, routers_back names group apart known.1) refl

pub name_is : (names : List (List ℕ)) (u : ℕ) → AllByRecursion (λ (name : List ℕ). is_router_name name ≡ true) names → u < length names
    → is_router_name (printed_name names u) ≡ true
name_is [] u each h = absurd (omega arith)
name_is (name ∷ names) zero each h = each.0
name_is (name ∷ names) (suc u) each h = name_is names u each.1 (omega arith)

names_are : (names : List (List ℕ)) (group : List ℕ) → AllByRecursion (λ (name : List ℕ). is_router_name name ≡ true) names
    → AllByRecursion (λ u. u < length names) group → list_all is_router_name (map (printed_name names) group) ≡ true
names_are names [] each known = refl
names_are names (u ∷ group) each known = rw (name_is names u each known.0) (names_are names group each known.1)

-- ---- edges

edge_place : (edges : List Edge) (n k : ℕ) → AreOfLinks edges → k < length edges
    → moved n (edge_named edges (edge_importer edges k) (edge_link edges k)) ≡ Some (n + k)
edge_place [] n k links h = absurd (omega arith)
edge_place (edge ∷ edges) n zero links h =
    let same : (nat_eq edge.importer edge.importer && nat_eq edge.link edge.link) ≡ true = grind arith in
    position_first (is_edge_over edge.importer edge.link) edge edges n ∙ rw same (ap (λ (j : ℕ). Some j) (omega arith))
edge_place (edge ∷ edges) n (suc k) links h =
    let importer = edge_importer edges k in
    let link = edge_link edges k in
    let next : n + 1 + k ≡ n + suc k = omega arith in
    position_first (is_edge_over importer link) edge edges n
    ∙ rw (other edge edges k (links.0) (omega arith)) (edge_place edges (n + 1) k links.1 (omega arith) ∙ ap (λ (j : ℕ). Some j) next)
  where
    turned : (a b : ℕ) → nat_eq a b ≡ nat_eq b a
    turned a b = grind arith

    other : (edge : Edge) (edges : List Edge) (k : ℕ) → list_any (is_edge_over edge.importer edge.link) edges ≡ false → k < length edges
        → is_edge_over (edge_importer edges k) (edge_link edges k) edge ≡ false
    other edge [] k none h = absurd (omega arith)
    other edge (e ∷ edges) zero none h = ap (λ b. b && nat_eq edge.link e.link) (turned edge.importer e.importer)
        ∙ ap (λ b. nat_eq e.importer edge.importer && b) (turned edge.link e.link) ∙ (not_any (is_edge_over edge.importer edge.link) e edges none).0
    other edge (e ∷ edges) (suc k) none h = other edge edges k (not_any (is_edge_over edge.importer edge.link) e edges none).1 (omega arith)

same_edge : (o : Option ℕ) (k : ℕ) → moved 0 o ≡ Some (0 + k) → o ≡ Some k
same_edge o k e = same_place o k e

edge_back : (edges : List Edge) (k : ℕ) → AreOfLinks edges → k < length edges → edge_named edges (edge_importer edges k) (edge_link edges k) ≡ Some k
edge_back edges k links h = same_edge (edge_named edges (edge_importer edges k) (edge_link edges k)) k (edge_place edges 0 k links h)

pub link_known : (edges : List Edge) (k : ℕ) → AllByRecursion (λ (e : Edge). e.link ≤ 4294967295) edges → k < length edges → edge_link edges k ≤ 4294967295
link_known [] k known h = absurd (omega arith)
link_known (e ∷ edges) zero known h = known.0
link_known (e ∷ edges) (suc k) known h = link_known edges k known.1 (omega arith)

-- ---- what the lines say

number_read : (n : ℕ) → n ≤ 4294967295 → number_of (decimal n) ≡ Some n
unfolding number_word
number_read n small = number_back n small

head_says : (edges : List Edge) (routers : List ℕ → Option ℕ) (s : Standing) → s.stage ≡ Opening
    → with_line edges routers s head_line.words ≡ Ok (record s { stage = Splitting })
unfolding certificate_line_of
head_says edges routers s stage = rw stage refl

split_says : (block by link : ℕ) (name : List ℕ) → block ≤ 4294967295 → by ≤ 4294967295 → link ≤ 4294967295 → is_router_name name ≡ true
    → certificate_line_of (codes "split") (decimal block ∷ decimal by ∷ name ∷ decimal link ∷ []) ≡ Some (Divide block by name link)
unfolding certificate_line_of
split_says block by link name b t l named = rw (named, number_read block b, number_read by t, number_read link l) refl

group_says : (names : List (List ℕ)) (u : ℕ) (group : List ℕ) → list_all is_router_name (map (printed_name names) (u ∷ group)) ≡ true
    → certificate_line_of (codes "group") (map (printed_name names) (u ∷ group)) ≡ Some (Group (map (printed_name names) (u ∷ group)))
unfolding certificate_line_of
group_says names u group named = rw named refl

end_says : certificate_line_of (codes "end") [] ≡ Some End
unfolding certificate_line_of
end_says = refl

-- ---- the splits

at_most : (blocks : Blocks) (n : ℕ) → is_block blocks n ≡ true → n ≤ blocks.count
at_most blocks n known = by (and_second (nat_le 1 n) (nat_le n blocks.count) known)
  where
    by : nat_le n blocks.count ≡ true → n ≤ blocks.count
    by e = grind (arith, nat_tests)

pub first_blocks_used : (graph : ActGraph) → AreInUse (first_blocks graph).numbers (first_blocks graph).count
unfolding first_blocks
first_blocks_used graph = first_used graph.colors

-- what is known of a graph and names that a text can name
module _ (graph : ActGraph) (names : List (List ℕ)) (can : CanBeNamed graph names) where
  abbrev edges : List Edge
  edges = graph.edges

  abbrev routers : List ℕ → Option ℕ
  routers = router_named names

  -- a split that can be made, as a line
  split_goes_on : (s : Standing) (split : Split) (next : Blocks) → s.stage ≡ Splitting → split.edge < length edges → split.block ≤ 4294967295
      → split.by ≤ 4294967295 → split_by edges s.blocks split ≡ Ok next
      → with_line edges routers s (split_line edges names split).words ≡ Ok (record s { splits = s.splits ++ split ∷ []; blocks = next })
  split_goes_on s split next stage inside block by made =
      let importer = edge_importer edges split.edge in
      let link = edge_link edges split.edge in
      let none : Edge = record { importer = 0; exporter = 0; act = 0; link = 0 } in
      let known : importer < length names = (let h = graph.importers_in_range split.edge none inside in let e = importer_is edges split.edge none inside in
      let t = can.one_each in omega arith) in
      ap (with_saying edges routers s) (split_says split.block split.by link (printed_name names importer) block by
      (link_known edges split.edge can.links inside) (name_is names importer can.each known))
      ∙ ap (with_split edges routers s split.block split.by (printed_name names importer) link) stage
      ∙ ap (with_router edges s split.block split.by link) (router_back names importer can.apart known)
      ∙ ap (with_edge edges s split.block split.by) (edge_back edges split.edge can.one_of_link inside)
      ∙ ap (with_blocks s split) made

  pub small_block : (blocks : Blocks) (split : Split) (next : Blocks) → AreInUse blocks.numbers blocks.count → length blocks.numbers ≡ graph.count
      → split_by edges blocks split ≡ Ok next → (split.block ≤ 4294967295) × (split.by ≤ 4294967295)
  small_block blocks split next used total is =
      let m = made edges blocks split next is in
      let known = m.known in
      let few = used.few in
      let bound = can.few in
      let b = at_most blocks split.block (and_first _ _ known) in
      let t = at_most blocks split.by (and_second _ _ known) in
      (omega arith, omega arith)

  pub used_next : (blocks : Blocks) (split : Split) (next : Blocks) → AreInUse blocks.numbers blocks.count → split_by edges blocks split ≡ Ok next
      → AreInUse next.numbers next.count
  used_next blocks split next used is =
      let m = made edges blocks split next is in
      subst (λ (b : Blocks). AreInUse b.numbers b.count) (sym m.is)
      (split_used edges blocks.numbers blocks.count split.block split.by (edge_act edges split.edge) used (and_first _ _ m.parts) (and_second _ _ m.parts))

  splits_run : (splits : List Split) (s : Standing) (last : Blocks) → s.stage ≡ Splitting → AreInUse s.blocks.numbers s.blocks.count
      → length s.blocks.numbers ≡ graph.count → AreAfter graph s.blocks splits last
      → Runs edges routers s (words_of (map (split_line edges names) splits)) (record s { splits = s.splits ++ splits; blocks = last })
  splits_run [] s last stage used total after =
      ap (λ (ss : List Split). record s { splits = ss }) (sym (append-nil s.splits))
      ∙ ap (λ (b : Blocks). record s { splits = s.splits ++ []; blocks = b }) after
  splits_run (split ∷ splits) s last stage used total (next, inside, is, rest) =
      let small = small_block s.blocks split next used total is in
      let s1 : Standing = record s { splits = s.splits ++ split ∷ []; blocks = next } in
      let later = splits_run splits s1 last stage (used_next s.blocks split next used is) (split_total edges s.blocks split next is ∙ total) rest in (
        s1,
        split_goes_on s split next stage inside small.0 small.1 is,
        subst (λ (ss : List Split). Runs edges routers s1 (words_of (map (split_line edges names) splits)) (record s { splits = ss; blocks = last }))
            (append_assoc s.splits (split ∷ []) splits) later,
      )

  -- ---- the groups

  group_goes_on : (s : Standing) (stage : Stage) (group : List ℕ) → s.stage ≡ stage → (stage ≡ Splitting) ⊎ (stage ≡ Naming) → 0 < length group
      → AllByRecursion (λ u. u < length names) group → slice_get (groups_of s.blocks.numbers) s.named ≡ Some group
      → with_line edges routers s (named_group_line names group).words ≡ Ok (record s { stage = Naming; named = s.named + 1 })
  group_goes_on s stage [] is may some known found = absurd (omega arith)
  group_goes_on s stage (u ∷ group) is may some known found =
      ap (with_saying edges routers s) (group_says names u group (names_are names (u ∷ group) can.each known))
      ∙ ap (with_group routers s (map (printed_name names) (u ∷ group))) is
      ∙ elim may [
        | inl e ↦ ap (with_group routers s (map (printed_name names) (u ∷ group))) e ∙ members
        | inr e ↦ ap (with_group routers s (map (printed_name names) (u ∷ group))) e ∙ members
      ]
    where
      own_group : is_next_group (slice_get (groups_of s.blocks.numbers) s.named) (u ∷ group) ≡ true
      own_group = ap (λ o. is_next_group o (u ∷ group)) found ∙ own (u ∷ group)

      members : with_members s (routers_named routers (map (printed_name names) (u ∷ group))) ≡ Ok (record s { stage = Naming; named = s.named + 1 })
      members = ap (with_members s) (routers_back names (u ∷ group) can.apart known)
          ∙ ap (λ b. cond b (Ok (record s { stage = Naming; named = s.named + 1 })) (Err WrongGroups)) own_group

  -- groups that have members, all of them known
  abbrev AreGroups : List (List ℕ) → Type 0
  AreGroups groups = AllByRecursion (λ (group : List ℕ). (0 < length group) × AllByRecursion (λ u. u < length names) group) groups

  -- the stage in which groups may be named
  abbrev IsOpen : Stage → Type 0
  IsOpen stage = (stage ≡ Splitting) ⊎ (stage ≡ Naming)

  pub record Named (s : Standing) (groups : List (List ℕ)) : Type 0 where
    pub stage : Stage
    pub opens : IsOpen stage
    pub runs : Runs edges routers s (words_of (map (named_group_line names) groups)) (record s { stage = stage; named = s.named + length groups })

  groups_run : (groups : List (List ℕ)) (s : Standing) → IsOpen s.stage → AreGroups groups
      → ((j : ℕ) → slice_get (groups_of s.blocks.numbers) (s.named + j) ≡ slice_get groups j) → Named s groups
  groups_run [] s may known same = record {
    stage = s.stage;
    opens = may;
    runs =
        (let e : s.named ≡ s.named + 0 = omega arith in ap (λ (n : ℕ). record s { named = n }) e);
  }
  groups_run (group ∷ groups) s may known same =
      let s1 : Standing = record s { stage = Naming; named = s.named + 1 } in
      let found : slice_get (groups_of s.blocks.numbers) s.named ≡ Some group =
      (let e : s.named ≡ s.named + 0 = omega arith in ap (slice_get (groups_of s.blocks.numbers)) e ∙ same 0) in
      let later = groups_run groups s1 (inr refl) known.1 (λ j.
      (let e : s.named + 1 + j ≡ s.named + suc j = omega arith in ap (slice_get (groups_of s.blocks.numbers)) e ∙ same (suc j))) in
      let count : s.named + 1 + length groups ≡ s.named + suc (length groups) = omega arith in
      record {
        stage = later.stage;
        opens = later.opens;
        runs = (
          s1,
          group_goes_on s s.stage group refl may known.0.0 known.0.1 found,
          subst (λ (n : ℕ). Runs edges routers s1 (words_of (map (named_group_line names) groups)) (record s1 { stage = later.stage; named = n })) count
              later.runs,
        );
      }

  -- ---- the end

  end_goes_on : (s : Standing) → IsOpen s.stage → s.named ≡ length (groups_of s.blocks.numbers) → are_even edges s.blocks.numbers ≡ true
      → with_line edges routers s end_line.words ≡ Ok (record s { stage = Closed })
  end_goes_on s may named even =
      ap (with_saying edges routers s) end_says ∙ elim may [ inl e ↦ ap (with_closing edges s) e ∙ closes | inr e ↦ ap (with_closing edges s) e ∙ closes ]
    where
      closes : with_all_groups edges s ≡ Ok (record s { stage = Closed })
      closes = rw (same_test s.named (length (groups_of s.blocks.numbers)) named, even) refl

  -- ---- all lines

  lines_run : (c : Certificate) (accepted : IsAccepted graph c) → AreGroups c.groups
      → (last : Standing) × Runs edges routers (opening graph) (words_of (certificate_lines edges names c)) last × (last.stage ≡ Closed)
      × (certificate_of last ≡ c)
  lines_run c accepted known =
      let blocks = accepted.blocks in
      let s0 : Standing = record (opening graph) { stage = Splitting } in
      let s1 : Standing = record s0 { splits = [] ++ c.splits; blocks = blocks } in
      let splits = splits_run c.splits s0 blocks refl first_in_use (first_reached graph).total accepted.split in
      let named = groups_run c.groups s1 (inl refl) known (λ j. ap (slice_get (groups_of blocks.numbers)) (let e : 0 + j ≡ j = omega arith in e)
      ∙ ap (λ (gs : List (List ℕ)). slice_get gs j) (sym accepted.groups)) in
      let s2 : Standing = record s1 { stage = named.stage; named = 0 + length c.groups } in
      let s3 : Standing = record s2 { stage = Closed } in
      let even = admissible_even graph blocks.numbers accepted.admissible in
      let ends = end_goes_on s2 named.opens ((let e : 0 + length c.groups ≡ length c.groups = omega arith in e) ∙ ap length accepted.groups) even in
      let tail : Runs edges routers s2 (end_line.words ∷ []) s3 = (s3, ends, refl) in
      let from_groups = runs_on edges routers s1 s2 s3 (words_of (map (named_group_line names) c.groups)) (end_line.words ∷ []) named.runs tail in
      let from_splits = runs_on edges routers s0 s1 s3 (words_of (map (split_line edges names) c.splits))
      (words_of (map (named_group_line names) c.groups) ++ (end_line.words ∷ [])) splits from_groups in (
        s3,
        subst (λ ws. Runs edges routers (opening graph) ws s3) (sym words_are) (s0, head_says edges routers (opening graph) refl, from_splits),
        refl,
        ap (λ gs. record { splits = c.splits; groups = gs }) (sym accepted.groups),
      )
    where
      first_in_use : AreInUse (first_blocks graph).numbers (first_blocks graph).count
      first_in_use = first_blocks_used graph

      words_are : words_of (certificate_lines edges names c) ≡ head_line.words
          ∷ (words_of (map (split_line edges names) c.splits) ++ (words_of (map (named_group_line names) c.groups) ++ (end_line.words ∷ [])))
      words_are =
          map-append (λ (l : TextLine). l.words) ((head_line ∷ map (split_line edges names) c.splits) ++ map (named_group_line names) c.groups) (end_line ∷ [])
          ∙ ap (λ ws. ws ++ (end_line.words ∷ [])) (map-append (λ (l : TextLine). l.words) (head_line ∷ map (split_line edges names) c.splits)
          (map (named_group_line names) c.groups))
          ∙ append_assoc (head_line.words ∷ words_of (map (split_line edges names) c.splits)) (words_of (map (named_group_line names) c.groups))
          (end_line.words ∷ [])

  -- ---- the lines print

  names_print : (group : List ℕ) → AllByRecursion (λ u. u < length names) group → AllByRecursion IsPrintedWord (map (printed_name names) group)
  names_print [] known = tt
  names_print (u ∷ group) known = (router_name_prints (printed_name names u) (name_is names u can.each known.0), names_print group known.1)

  groups_print : (groups : List (List ℕ)) → AreGroups groups → AllByRecursion IsPrintedLine (map (named_group_line names) groups)
  groups_print [] known = tt
  groups_print (group ∷ groups) known = (
    record { some = omega arith; words = (word_as_tested (codes "group") refl, names_print group known.0.1) },
    groups_print groups known.1,
  )

  splits_print : (splits : List Split) (blocks last : Blocks) → AreInUse blocks.numbers blocks.count → length blocks.numbers ≡ graph.count
      → AreAfter graph blocks splits last → AllByRecursion IsPrintedLine (map (split_line edges names) splits)
  splits_print [] blocks last used total after = tt
  splits_print (split ∷ splits) blocks last used total (next, inside, is, rest) =
      let small = small_block blocks split next used total is in
      let none : Edge = record { importer = 0; exporter = 0; act = 0; link = 0 } in
      let known : edge_importer edges split.edge < length names =
      (let h = graph.importers_in_range split.edge none inside in let e = importer_is edges split.edge none inside in let t = can.one_each in omega arith)
      in (
        record {
          some = omega arith;
          words = (
            word_as_tested (codes "split") refl,
            (
              decimal_prints split.block small.0,
              (
                decimal_prints split.by small.1,
                (
                  router_name_prints (printed_name names (edge_importer edges split.edge)) (name_is names (edge_importer edges split.edge) can.each known),
                  (decimal_prints (edge_link edges split.edge) (link_known edges split.edge can.links inside), tt),
                ),
              ),
            ),
          );
        },
        splits_print splits next last (used_next blocks split next used is) (split_total edges blocks split next is ∙ total) rest,
      )

  both_print : (first second : List TextLine) → AllByRecursion IsPrintedLine first → AllByRecursion IsPrintedLine second
      → AllByRecursion IsPrintedLine (first ++ second)
  both_print [] second a b = b
  both_print (l ∷ first) second a b = (a.0, both_print first second a.1 b)

  lines_print : (c : Certificate) → IsAccepted graph c → AreGroups c.groups → AllByRecursion IsPrintedLine (certificate_lines edges names c)
  lines_print c accepted known =
      both_print ((head_line ∷ map (split_line edges names) c.splits) ++ map (named_group_line names) c.groups) (end_line ∷ [])
      (both_print (head_line ∷ map (split_line edges names) c.splits) (map (named_group_line names) c.groups) (
        record {
          some = omega arith;
          words = (
            word_as_tested (codes "bonsai") refl,
            (word_as_tested (codes "certificate") refl, (word_as_tested (codes "1") refl, tt)),
          );
        },
        splits_print c.splits (first_blocks graph) accepted.blocks (first_blocks_used graph) (first_reached graph).total accepted.split,
      )
      (groups_print c.groups known))
      (record { some = omega arith; words = (word_as_tested (codes "end") refl, tt) }, tt)

-- ---- the groups of an accepted certificate

by_recursion : {X : Type 0} (P : X → Type 0) (xs : List X) → All P xs → AllByRecursion P xs
by_recursion P [] all = tt
by_recursion P (x ∷ xs) all = (all 0 x (omega arith), by_recursion P xs (λ k d h. all (suc k) d (omega arith)))

in_has : (ns : List ℕ) (n : ℕ) → In ns n → has ns n ≡ true
in_has [] n h = absurd h
in_has (m ∷ ns) n (inl e) = ap (λ b. b || has ns n) (same_test m n e)
in_has (m ∷ ns) n (inr h) = ap (λ b. nat_eq m n || b) (in_has ns n h) ∙ or_true (nat_eq m n)

some_in : {X : Type 0} (xs : List X) (x : X) → In xs x → 0 < length xs
some_in [] x h = absurd h
some_in (y ∷ xs) x h = omega arith

group_fine : (numbers : List ℕ) (count n : ℕ) → length numbers ≡ count → has numbers n ≡ true → (0 < length (members_of numbers n))
    × AllByRecursion (λ u. u < count) (members_of numbers n)
group_fine numbers count n total given = (
  some_in (members_of numbers n) (place_among numbers n) (is_member numbers n (place_among numbers n) (place_below numbers n given) (at_place numbers n given)),
  by_recursion (λ u. u < count) (members_of numbers n) (subst (λ (m : ℕ). All (λ u. u < m) (members_of numbers n)) total (members_in_range numbers n)),
)

groups_fine : (numbers : List ℕ) (count : ℕ) (ns : List ℕ) → length numbers ≡ count → ((n : ℕ) → In ns n → has numbers n ≡ true)
    → AllByRecursion (λ (group : List ℕ). (0 < length group) × AllByRecursion (λ u. u < count) group) (map (members_of numbers) ns)
groups_fine numbers count [] total each = tt
groups_fine numbers count (n ∷ ns) total each = (
  group_fine numbers count n total (each n (inl refl)),
  groups_fine numbers count ns total (λ m h. each m (inr h)),
)

pub all_groups : (numbers : List ℕ) (count : ℕ) → length numbers ≡ count
    → AllByRecursion (λ (group : List ℕ). (0 < length group) × AllByRecursion (λ u. u < count) group) (groups_of numbers)
unfolding groups_of
all_groups numbers count total = groups_fine numbers count (distinct numbers) total (λ n h. distinct_only numbers n (in_has (distinct numbers) n h))

-- ---- the text

words_same : (ls ks : List TextLine) → map bare_line ls ≡ map bare_line ks → words_of ls ≡ words_of ks
words_same ls ks same = sym (bare_words ls) ∙ ap words_of same ∙ bare_words ks
  where
    bare_words : (ls : List TextLine) → words_of (map bare_line ls) ≡ words_of ls
    bare_words [] = refl
    bare_words (l ∷ ls) = ap (λ (ws : List (List (List ℕ))). l.words ∷ ws) (bare_words ls)

pub printed_is_read_back : PrintedCertificateIsReadBack
unfolding certificate_text certificate_of_text
printed_is_read_back graph names c can accepted =
    let reached = all_reached graph c.splits (first_blocks graph) accepted.blocks (first_reached graph) accepted.split in
    let known : AllByRecursion (λ (group : List ℕ). (0 < length group) × AllByRecursion (λ u. u < length names) group) c.groups =
    subst (λ (gs : List (List ℕ)). AllByRecursion (λ (group : List ℕ). (0 < length group) × AllByRecursion (λ u. u < length names) group) gs)
    (sym accepted.groups) (all_groups accepted.blocks.numbers (length names) (reached.total ∙ sym can.one_each)) in
    let lines = certificate_lines graph.edges names c in
    let bs = lines_text lines in
    let ls = map (text_line bs) (all_lines_of bs) in
    let same = words_same ls lines (all_lines_back lines (lines_print graph names can c accepted known)) in
    let (last, runs, closes, is) = lines_run graph names can c accepted known in
    run_ends graph.edges (router_named names) (length (all_lines_of bs) + 1) ls (opening graph) last
    (subst (λ (ws : List (List (List ℕ))). Runs graph.edges (router_named names) (opening graph) ws last) (sym same) runs) closes
    ∙ ap (λ (x : Certificate). Ok x) is
