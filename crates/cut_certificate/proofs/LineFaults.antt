-- Reading a certificate stops at the first line that has a fault by the lines before it.
use Rattle.std.proofs.Common.{◌≡◌, ℕ, ◌+◌, Bool, true, false, cond, nat_eq, List, [], ◌∷◌, ◌++◌, length, map, refl, sym, ap, ◌∙◌, subst, Option, Some, None, Result, Ok, Err}
use Rattle.std.specs.Prelude.{slice_get}
use Rattle.std.specs.List.{cons_option}
use Rattle.base_kit.specs.declared.act_graph.ActGraph.{ActGraph}
use Rattle.cfg_ast.specs.text.TextLines.{TextLine, text_line}
use Rattle.cfg_ast.specs.text.Members.{all_lines_of}
use Rattle.cut_certificate.specs.declared.certificate.Certificate.{Certificate}
use Rattle.cut_certificate.specs.declared.certificate.Split.{Split}
use Rattle.cut_certificate.specs.declared.refusal.CutKind.{CutKind}
use Rattle.cut_certificate.specs.declared.refusal.CutRefusal.{CutRefusal}
use Rattle.cut_certificate.specs.declared.refusal.CutKind.TheVariants as kinds
use Rattle.cut_certificate.specs.declared.standing.Stage.{Stage}
use Rattle.cut_certificate.specs.declared.standing.Stage.TheVariants.{Opening, Splitting, Naming, Closed}
use Rattle.cut_certificate.specs.Blocks.{Blocks, blocks_after, split_by, groups_of}
use Rattle.cut_certificate.specs.Evenness.{are_even}
use Rattle.cut_certificate.specs.Forms.{CertificateLine, certificate_line_of}
use Rattle.cut_certificate.specs.Forms.CertificateLine.{Head, Divide, Group, End}
use Rattle.cut_certificate.specs.LineFaults.{said_on, is_ended, is_first, groups_named, edge_by_name, split_at, divided, blocks_behind, unless, kind_or_else, kind_in, edge_fault, split_fault, group_fault, end_fault, fault_of_said, line_fault, at_line, first_refusal, split_more, splits_said, lines_said, certificate_said, unless_at_fault, FirstLineDecides}
use Rattle.cut_certificate.specs.Texts.{Standing, opening, router_named, edge_named, routers_named, with_head, with_blocks, with_edge, with_router, with_split, is_next_group, with_members, with_group, with_all_groups, with_closing, with_saying, with_line, certificate_of, ended, go_on, certificate_from, certificate_of_text}
use Rattle.cut_certificate.proofs.StepsOf.{made}

-- what may come next, by what the nearest line says
abbrev stage_of : List CertificateLine → Stage
stage_of [] = Opening
stage_of (Head ∷ past) = Splitting
stage_of (Divide _ _ _ _ ∷ past) = Splitting
stage_of (Group _ ∷ past) = Naming
stage_of (End ∷ past) = Closed

-- a reading stands where the lines before bring it
record Agrees (graph : ActGraph) (names : List (List ℕ)) (past : List CertificateLine) (s : Standing) : Type 0 where
  pub stage : s.stage ≡ stage_of past
  pub blocks : s.blocks ≡ blocks_behind graph names past
  pub named : s.named ≡ groups_named past
  pub splits : s.splits ≡ splits_said graph names past

-- a line goes on and has no fault, or stops with its fault
abbrev Outcome : ActGraph → List (List ℕ) → List CertificateLine → Result Standing CutKind → Option CutKind → Type 0
Outcome graph names now (Ok next) fault = (fault ≡ None) × Agrees graph names now next
Outcome graph names now (Err kind) fault = fault ≡ Some kind

module _ (graph : ActGraph) (names : List (List ℕ)) (s : Standing) where
  abbrev Stops : List CertificateLine → Result Standing CutKind → Option CutKind → Type 0
  Stops now r fault = Outcome graph names now r fault

  -- ---- the head

  head_at : (past : List CertificateLine) → Agrees graph names past s → Stops (Head ∷ past) (with_head s (stage_of past)) (unless (is_first past) kinds.BadForm)
  head_at [] ag = (refl, record { stage = refl; blocks = ag.blocks; named = ag.named; splits = ag.splits })
  head_at (Head ∷ past) ag = refl
  head_at (Divide block by name link ∷ past) ag = refl
  head_at (Group words ∷ past) ag = refl
  head_at (End ∷ past) ag = refl

  -- ---- splits

  module _ (past : List CertificateLine) (ag : Agrees graph names past s) (splitting : s.stage ≡ Splitting) (block by : ℕ) (name : List ℕ) (link : ℕ) where
    abbrev now : List CertificateLine
    now = Divide block by name link ∷ past

    blocks_at : (place : ℕ) → edge_by_name graph names (router_named names name) link ≡ Some place → (r : Result Blocks CutKind)
        → split_by graph.edges s.blocks (split_at block by place) ≡ r → Stops now (with_blocks s (split_at block by place) r) (kind_in r)
    blocks_at place edge (Err kind) is = refl
    blocks_at place edge (Ok blocks) is = (
      refl,
      record {
        stage = splitting;
        blocks = (made graph.edges s.blocks (split_at block by place) blocks is).is
            ∙ ap (λ (b : Blocks). blocks_after graph.edges b (split_at block by place)) ag.blocks
            ∙ sym (ap (divided graph (blocks_behind graph names past) block by) edge);
        named = ag.named;
        splits = ap (λ (l : List Split). l ++ split_at block by place ∷ []) ag.splits
            ∙ sym (ap (split_more (splits_said graph names past) block by) edge);
      },
    )

    edge_at : (router : ℕ) → router_named names name ≡ Some router → (found : Option ℕ) → edge_named graph.edges router link ≡ found
        → Stops now (with_edge graph.edges s block by found) (edge_fault graph (blocks_behind graph names past) block by found)
    edge_at router known None is = refl
    edge_at router known (Some place) is =
        let split = split_at block by place in
        subst (λ (b : Blocks). Stops now (with_blocks s split (split_by graph.edges s.blocks split)) (kind_in (split_by graph.edges b split))) ag.blocks
        (blocks_at place (ap (λ o. edge_by_name graph names o link) known ∙ is) (split_by graph.edges s.blocks split) refl)

    router_at : (found : Option ℕ) → router_named names name ≡ found
        → Stops now (with_router graph.edges s block by link found) (split_fault graph (blocks_behind graph names past) block by found link)
    router_at None is = refl
    router_at (Some router) is = edge_at router is (edge_named graph.edges router link) refl

  split_at_stage : (past : List CertificateLine) → Agrees graph names past s → (block by : ℕ) (name : List ℕ) (link : ℕ)
      → Stops (Divide block by name link ∷ past) (with_split graph.edges (router_named names) s block by name link (stage_of past))
      (fault_of_said graph names past (Some (Divide block by name link)))
  split_at_stage [] ag block by name link = refl
  split_at_stage (Head ∷ past) ag block by name link = router_at (Head ∷ past) ag ag.stage block by name link (router_named names name) refl
  split_at_stage (Divide a b c d ∷ past) ag block by name link =
      router_at (Divide a b c d ∷ past) ag ag.stage block by name link (router_named names name) refl
  split_at_stage (Group words ∷ past) ag block by name link = refl
  split_at_stage (End ∷ past) ag block by name link = refl

  -- ---- groups

  members_at : (past : List CertificateLine) → Agrees graph names past s → (words : List (List ℕ)) (found : Option (List ℕ))
      → Stops (Group words ∷ past) (with_members s found) (group_fault (blocks_behind graph names past) (groups_named past) found)
  members_at past ag words None = refl
  members_at past ag words (Some members) =
      subst (λ (b : Blocks). Stops (Group words ∷ past) (with_members s (Some members)) (group_fault b (groups_named past) (Some members))) ag.blocks
      (subst (λ (n : ℕ). Stops (Group words ∷ past) (with_members s (Some members)) (group_fault s.blocks n (Some members))) ag.named
      (by (is_next_group (slice_get (groups_of s.blocks.numbers) s.named) members)))
    where
      by : (b : Bool) → Stops (Group words ∷ past) (cond b (Ok (record s { stage = Naming; named = s.named + 1 })) (Err kinds.WrongGroups))
          (unless b kinds.WrongGroups)
      by true = (refl, record { stage = refl; blocks = ag.blocks; named = ap (λ (n : ℕ). n + 1) ag.named; splits = ag.splits })
      by false = refl

  group_at : (past : List CertificateLine) → Agrees graph names past s → (words : List (List ℕ))
      → Stops (Group words ∷ past) (with_group (router_named names) s words (stage_of past)) (fault_of_said graph names past (Some (Group words)))
  group_at [] ag words = refl
  group_at (Head ∷ past) ag words = members_at (Head ∷ past) ag words (routers_named (router_named names) words)
  group_at (Divide a b c d ∷ past) ag words = members_at (Divide a b c d ∷ past) ag words (routers_named (router_named names) words)
  group_at (Group others ∷ past) ag words = members_at (Group others ∷ past) ag words (routers_named (router_named names) words)
  group_at (End ∷ past) ag words = refl

  -- ---- the end

  all_at : (past : List CertificateLine) → Agrees graph names past s
      → Stops (End ∷ past) (with_all_groups graph.edges s) (end_fault graph (blocks_behind graph names past) (groups_named past))
  all_at past ag =
      subst (λ (b : Blocks). Stops (End ∷ past) (with_all_groups graph.edges s) (end_fault graph b (groups_named past))) ag.blocks
      (subst (λ (n : ℕ). Stops (End ∷ past) (with_all_groups graph.edges s) (end_fault graph s.blocks n)) ag.named
      (by (nat_eq s.named (length (groups_of s.blocks.numbers))) (are_even graph.edges s.blocks.numbers)))
    where
      by : (a b : Bool) → Stops (End ∷ past) (cond a (cond b (Ok (record s { stage = Closed })) (Err kinds.NotAdmissible)) (Err kinds.WrongGroups))
          (kind_or_else (unless a kinds.WrongGroups) (unless b kinds.NotAdmissible))
      by false b = refl
      by true false = refl
      by true true = (refl, record { stage = refl; blocks = ag.blocks; named = ag.named; splits = ag.splits })

  end_at : (past : List CertificateLine) → Agrees graph names past s
      → Stops (End ∷ past) (with_closing graph.edges s (stage_of past)) (fault_of_said graph names past (Some End))
  end_at [] ag = refl
  end_at (Head ∷ past) ag = all_at (Head ∷ past) ag
  end_at (Divide a b c d ∷ past) ag = all_at (Divide a b c d ∷ past) ag
  end_at (Group words ∷ past) ag = all_at (Group words ∷ past) ag
  end_at (End ∷ past) ag = refl

  -- ---- a line

  saying_at : (past : List CertificateLine) → Agrees graph names past s → (o : Option CertificateLine)
      → Stops (cons_option o past) (with_saying graph.edges (router_named names) s o) (fault_of_said graph names past o)
  saying_at past ag None = refl
  saying_at past ag (Some Head) =
      subst (λ stage. Stops (Head ∷ past) (with_head s stage) (unless (is_first past) kinds.BadForm)) (sym ag.stage) (head_at past ag)
  saying_at past ag (Some (Divide block by name link)) =
      subst (λ stage. Stops (Divide block by name link ∷ past) (with_split graph.edges (router_named names) s block by name link stage)
      (fault_of_said graph names past (Some (Divide block by name link)))) (sym ag.stage) (split_at_stage past ag block by name link)
  saying_at past ag (Some (Group words)) =
      subst (λ stage. Stops (Group words ∷ past) (with_group (router_named names) s words stage) (fault_of_said graph names past (Some (Group words))))
      (sym ag.stage) (group_at past ag words)
  saying_at past ag (Some End) =
      subst (λ stage. Stops (End ∷ past) (with_closing graph.edges s stage) (fault_of_said graph names past (Some End))) (sym ag.stage) (end_at past ag)

  line_at : (past : List CertificateLine) → Agrees graph names past s → (ws : List (List ℕ))
      → Stops (cons_option (said_on ws) past) (with_line graph.edges (router_named names) s ws) (line_fault graph names past ws)
  line_at past ag [] = (refl, ag)
  line_at past ag (w ∷ ws) = saying_at past ag (certificate_line_of w ws)

  spelled : (past : List CertificateLine) → Agrees graph names past s → certificate_of s ≡ certificate_said graph names past
  spelled past ag =
      ap (λ (l : List Split). record { splits = l; groups = groups_of s.blocks.numbers }) ag.splits
      ∙ ap (λ (b : Blocks). record { splits = splits_said graph names past; groups = groups_of b.numbers }) ag.blocks

  no_end : (end : ℕ) (past : List CertificateLine) → Agrees graph names past s
      → ended end s (stage_of past) ≡ unless_at_fault (at_line end (unless (is_ended past) kinds.NoEnd) None) (certificate_said graph names past)
  no_end end [] ag = refl
  no_end end (Head ∷ past) ag = refl
  no_end end (Divide block by name link ∷ past) ag = refl
  no_end end (Group words ∷ past) ag = refl
  no_end end (End ∷ past) ag = ap (λ (c : Certificate). Ok c) (spelled (End ∷ past) ag)

-- ---- all lines

module _ (graph : ActGraph) (names : List (List ℕ)) (end : ℕ) where
  -- what the lines give, by the first fault and by all that is said
  abbrev given : Option CutRefusal → List CertificateLine → List TextLine → Result Certificate CutRefusal
  given fault past ls = unless_at_fault fault (certificate_said graph names (lines_said past ls))

  goes_on : (l : TextLine) (ls : List TextLine) (now : List CertificateLine)
      → ((next : Standing) → Agrees graph names now next
      → certificate_from graph.edges (router_named names) end ls next ≡ given (first_refusal graph names end now ls) now ls)
      → (r : Result Standing CutKind) (fault : Option CutKind) → Outcome graph names now r fault
      → go_on l.number r (certificate_from graph.edges (router_named names) end ls)
      ≡ given (at_line l.number fault (first_refusal graph names end now ls)) now ls
  goes_on l ls now rest (Ok next) fault o =
      rest next o.1 ∙ ap (λ f. given (at_line l.number f (first_refusal graph names end now ls)) now ls) (sym o.0)
  goes_on l ls now rest (Err kind) fault o = ap (λ f. given (at_line l.number f (first_refusal graph names end now ls)) now ls) (sym o)

  all_lines : (ls : List TextLine) (past : List CertificateLine) (s : Standing) → Agrees graph names past s
      → certificate_from graph.edges (router_named names) end ls s ≡ given (first_refusal graph names end past ls) past ls
  unfolding certificate_from
  all_lines [] past s ag = ap (λ stage. ended end s stage) ag.stage ∙ no_end graph names s end past ag
  all_lines (l ∷ ls) past s ag =
      goes_on l ls (cons_option (said_on l.words) past) (λ next agrees. all_lines ls (cons_option (said_on l.words) past) next agrees)
      (with_line graph.edges (router_named names) s l.words) (line_fault graph names past l.words) (line_at graph names s past ag l.words)

pub first_line_decides : FirstLineDecides
unfolding certificate_of_text
first_line_decides graph names bs =
    all_lines graph names (length (all_lines_of bs) + 1) (map (text_line bs) (all_lines_of bs)) [] (opening graph)
    (record { stage = refl; blocks = refl; named = refl; splits = refl })
