-- What is refused as not admissible.
use Rattle.std.proofs.Common.{◌≡◌, ℕ, ◌+◌, Bool, true, false, cond, ◌&&◌, not, nat_eq, List, [], ◌∷◌, ◌++◌, length, map, refl, ap, ◌∙◌, Option, Some, None, Result, Ok, Err}
use Rattle.std.specs.Prelude.{slice_get}
use Rattle.base_kit.specs.declared.act_graph.Edge.{Edge}
use Rattle.base_kit.specs.declared.act_graph.ActGraph.{ActGraph}
use Rattle.cfg_ast.specs.text.TextLines.{TextLine, text_line}
use Rattle.cfg_ast.specs.text.Members.{all_lines_of}
use Rattle.cut_certificate.specs.declared.certificate.Split.{Split}
use Rattle.cut_certificate.specs.declared.refusal.CutKind.{CutKind}
use Rattle.cut_certificate.specs.declared.refusal.CutKind.TheVariants as kinds
use Rattle.cut_certificate.specs.declared.refusal.CutRefusal.TheVariants as refusal
use Rattle.cut_certificate.specs.declared.standing.Stage.{Stage}
use Rattle.cut_certificate.specs.declared.standing.Stage.TheVariants.{Opening, Splitting, Naming, Closed}
use Rattle.cut_certificate.specs.Blocks.{Blocks, is_block, are_parts, blocks_after, split_by, groups_of}
use Rattle.cut_certificate.specs.Evenness.{are_even}
use Rattle.cut_certificate.specs.Forms.{CertificateLine, certificate_line_of}
use Rattle.cut_certificate.specs.Forms.CertificateLine.{Head, Divide, Group, End}
use Rattle.cut_certificate.specs.Laws.{AreLinesRead, NotAdmissibleIsSo}
use Rattle.cut_certificate.specs.Texts.{Standing, opening, router_named, edge_named, routers_named, with_head, with_blocks, with_edge, with_router, with_split, is_next_group, with_members, with_group, with_all_groups, with_closing, with_saying, with_line, ended, go_on, certificate_from, certificate_of_text}
use Rattle.cut_certificate.proofs.AcceptedTexts.{IsSound, step_sound}
use Rattle.cut_certificate.proofs.Evened.{admissible_even}
use Rattle.cut_certificate.proofs.Seen.{test_same}
use Rattle.cut_certificate.proofs.StepsOf.{line_step}

-- ---- one line

-- all groups are named, and the blocks are not even
record IsUneven (edges : List Edge) (s : Standing) : Type 0 where
  pub named : s.named ≡ length (groups_of s.blocks.numbers)
  pub uneven : are_even edges s.blocks.numbers ≡ false

split_admits : (edges : List Edge) (blocks : Blocks) (split : Split) → split_by edges blocks split ≡ Err kinds.NotAdmissible → ⊥
unfolding split_by
split_admits edges blocks split e = by (is_block blocks split.block && is_block blocks split.by) (nat_eq split.block split.by)
    (are_parts split.block (blocks_after edges blocks split)) e
  where
    by : (a b c : Bool) → cond (not a) (Err kinds.NoBlock) (cond b (Err kinds.SameBlock)
        (cond c (Ok (blocks_after edges blocks split)) (Err kinds.NothingSplit))) ≡ Err kinds.NotAdmissible → ⊥
    by false b c e = cc
    by true true c e = cc
    by true false false e = cc
    by true false true e = cc

module _ (edges : List Edge) (routers : List ℕ → Option ℕ) (s : Standing) where
  head_admits : (stage : Stage) → with_head s stage ≡ Err kinds.NotAdmissible → ⊥
  head_admits Opening e = cc
  head_admits Splitting e = cc
  head_admits Naming e = cc
  head_admits Closed e = cc

  blocks_admit : (split : Split) (r : Result Blocks CutKind) → split_by edges s.blocks split ≡ r → with_blocks s split r ≡ Err kinds.NotAdmissible → ⊥
  blocks_admit split (Ok blocks) is e = cc
  blocks_admit split (Err kind) is e = let same : kind ≡ kinds.NotAdmissible = cc in split_admits edges s.blocks split (is ∙ ap Err same)

  edge_admits : (block by : ℕ) (found : Option ℕ) → with_edge edges s block by found ≡ Err kinds.NotAdmissible → ⊥
  edge_admits block by None e = cc
  edge_admits block by (Some place) e =
      blocks_admit (record { block = block; by = by; edge = place }) (split_by edges s.blocks (record { block = block; by = by; edge = place })) refl e

  router_admits : (block by link : ℕ) (found : Option ℕ) → with_router edges s block by link found ≡ Err kinds.NotAdmissible → ⊥
  router_admits block by link None e = cc
  router_admits block by link (Some router) e = edge_admits block by (edge_named edges router link) e

  divide_admits : (block by : ℕ) (name : List ℕ) (link : ℕ) (stage : Stage) → with_split edges routers s block by name link stage ≡ Err kinds.NotAdmissible → ⊥
  divide_admits block by name link Splitting e = router_admits block by link (routers name) e
  divide_admits block by name link Opening e = cc
  divide_admits block by name link Naming e = cc
  divide_admits block by name link Closed e = cc

  members_admit : (found : Option (List ℕ)) → with_members s found ≡ Err kinds.NotAdmissible → ⊥
  members_admit None e = cc
  members_admit (Some members) e = by (is_next_group (slice_get (groups_of s.blocks.numbers) s.named) members) e
    where
      by : (b : Bool) → cond b (Ok (record s { stage = Naming; named = s.named + 1 })) (Err kinds.WrongGroups) ≡ Err kinds.NotAdmissible → ⊥
      by true e = cc
      by false e = cc

  group_admits : (words : List (List ℕ)) (stage : Stage) → with_group routers s words stage ≡ Err kinds.NotAdmissible → ⊥
  group_admits words Splitting e = members_admit (routers_named routers words) e
  group_admits words Naming e = members_admit (routers_named routers words) e
  group_admits words Opening e = cc
  group_admits words Closed e = cc

  all_uneven : with_all_groups edges s ≡ Err kinds.NotAdmissible → IsUneven edges s
  all_uneven e = by (nat_eq s.named (length (groups_of s.blocks.numbers))) refl (are_even edges s.blocks.numbers) refl e
    where
      by : (a : Bool) → nat_eq s.named (length (groups_of s.blocks.numbers)) ≡ a → (b : Bool) → are_even edges s.blocks.numbers ≡ b
          → cond a (cond b (Ok (record s { stage = Closed })) (Err kinds.NotAdmissible)) (Err kinds.WrongGroups) ≡ Err kinds.NotAdmissible → IsUneven edges s
      by false f b g e = absurd cc
      by true f true g e = absurd cc
      by true f false g e = record { named = test_same _ _ f; uneven = g }

  closing_uneven : (stage : Stage) → with_closing edges s stage ≡ Err kinds.NotAdmissible → IsUneven edges s
  closing_uneven Splitting e = all_uneven e
  closing_uneven Naming e = all_uneven e
  closing_uneven Opening e = absurd cc
  closing_uneven Closed e = absurd cc

  saying_uneven : (o : Option CertificateLine) → with_saying edges routers s o ≡ Err kinds.NotAdmissible → IsUneven edges s
  saying_uneven None e = absurd cc
  saying_uneven (Some Head) e = absurd (head_admits s.stage e)
  saying_uneven (Some (Divide block by name link)) e = absurd (divide_admits block by name link s.stage e)
  saying_uneven (Some (Group words)) e = absurd (group_admits words s.stage e)
  saying_uneven (Some End) e = closing_uneven s.stage e

  line_uneven : (ws : List (List ℕ)) → with_line edges routers s ws ≡ Err kinds.NotAdmissible → IsUneven edges s
  line_uneven [] e = absurd cc
  line_uneven (w ∷ ws) e = saying_uneven (certificate_line_of w ws) e

-- ---- texts

-- the lines up to one at which a sound reading is uneven
record StopsUneven (graph : ActGraph) (routers : List ℕ → Option ℕ) (ls : List TextLine) (s : Standing) (line : ℕ) : Type 0 where
  pub before : List TextLine
  pub at : TextLine
  pub behind : List TextLine
  pub lines : ls ≡ before ++ at ∷ behind
  pub number : at.number ≡ line
  pub reading : Standing
  pub read : AreLinesRead graph.edges routers before s reading
  pub sound : IsSound graph reading
  pub uneven : IsUneven graph.edges reading

module _ (graph : ActGraph) (routers : List ℕ → Option ℕ) (end line : ℕ) where
  later : (l : TextLine) (ls : List TextLine) (s next : Standing) → with_line graph.edges routers s l.words ≡ Ok next → StopsUneven graph routers ls next line
      → StopsUneven graph routers (l ∷ ls) s line
  later l ls s next is stop = record {
    before = l ∷ stop.before;
    at = stop.at;
    behind = stop.behind;
    lines = ap (λ rest. l ∷ rest) stop.lines;
    number = stop.number;
    reading = stop.reading;
    read = (next, is, stop.read);
    sound = stop.sound;
    uneven = stop.uneven;
  }

  end_admits : (s : Standing) (stage : Stage) → ended end s stage ≡ Err (refusal.At line kinds.NotAdmissible) → ⊥
  end_admits s Opening e = cc
  end_admits s Splitting e = cc
  end_admits s Naming e = cc
  end_admits s Closed e = cc

  stops_uneven : (ls : List TextLine) (s : Standing) → IsSound graph s
      → certificate_from graph.edges routers end ls s ≡ Err (refusal.At line kinds.NotAdmissible) → StopsUneven graph routers ls s line
  unfolding certificate_from
  stops_uneven [] s sound e = absurd (end_admits s s.stage e)
  stops_uneven (l ∷ ls) s sound e = by (λ (next : Standing). stops_uneven ls next) (with_line graph.edges routers s l.words) refl e
    where
      by : ((next : Standing) → IsSound graph next → certificate_from graph.edges routers end ls next ≡ Err (refusal.At line kinds.NotAdmissible)
          → StopsUneven graph routers ls next line)
          → (r : Result Standing CutKind) → with_line graph.edges routers s l.words ≡ r
          → go_on l.number r (certificate_from graph.edges routers end ls) ≡ Err (refusal.At line kinds.NotAdmissible)
          → StopsUneven graph routers (l ∷ ls) s line
      by rest (Ok next) is e = later l ls s next is (rest next (step_sound graph s next sound (line_step graph.edges routers s next l.words is)) e)
      by rest (Err kind) is e =
          let number : l.number ≡ line = cc in
          let same : kind ≡ kinds.NotAdmissible = cc in
          record {
            before = [];
            at = l;
            behind = ls;
            lines = refl;
            number = number;
            reading = s;
            read = refl;
            sound = sound;
            uneven = line_uneven graph.edges routers s l.words (is ∙ ap Err same);
          }

even_and_uneven : (b : Bool) → b ≡ true → b ≡ false → ⊥
even_and_uneven true e f = cc
even_and_uneven false e f = cc

pub not_admissible_is_so : NotAdmissibleIsSo
unfolding certificate_of_text
not_admissible_is_so graph names bs line e =
    let start : IsSound graph (opening graph) = record { after = refl; even = λ c. absurd cc } in
    let stop = stops_uneven graph (router_named names) (length (all_lines_of bs) + 1) line (map (text_line bs) (all_lines_of bs)) (opening graph) start e in
    record {
      before = stop.before;
      at = stop.at;
      behind = stop.behind;
      lines = stop.lines;
      number = stop.number;
      reading = stop.reading;
      read = stop.read;
      named = stop.uneven.named;
      not = record {
        blocks = stop.reading.blocks;
        split = stop.sound.after;
        groups = refl;
        not = λ admissible. even_and_uneven (are_even graph.edges stop.reading.blocks.numbers) (admissible_even graph stop.reading.blocks.numbers admissible)
            stop.uneven.uneven;
      };
    }
