-- What a line changes.
use Rattle.std.proofs.Common.{◌≡◌, ℕ, ◌+◌, ◌<◌, Bool, true, false, cond, ◌&&◌, not, List, [], ◌∷◌, ◌++◌, length, map, refl, sym, ap, ◌∙◌, subst, arith, Option, Some, None, Result, Ok, Err, inl, inr}
use Rattle.std.specs.Prelude.{◌⊎◌, slice_get, nat_eq}
use Rattle.std.specs.List.{range_with_len}
use Rattle.std.proofs.lemmas.List.Quantifiers.{position-Some}
use Rattle.std.proofs.lemmas.List.FromFn.{length-range_with_len}
use Rattle.base_kit.specs.declared.act_graph.Edge.{Edge}
use Rattle.cut_certificate.specs.declared.certificate.Split.{Split}
use Rattle.cut_certificate.specs.declared.refusal.CutKind.{CutKind}
use Rattle.cut_certificate.specs.declared.refusal.CutKind.TheVariants as kinds
use Rattle.cut_certificate.specs.declared.standing.Stage.{Stage}
use Rattle.cut_certificate.specs.declared.standing.Stage.TheVariants.{Opening, Splitting, Naming, Closed}
use Rattle.cut_certificate.specs.Blocks.{Blocks, number_after, numbers_after, edge_act, is_block, are_parts, blocks_after, split_by, groups_of}
use Rattle.cut_certificate.specs.Evenness.{are_even}
use Rattle.cut_certificate.specs.Forms.{CertificateLine, certificate_line_of}
use Rattle.cut_certificate.specs.Forms.CertificateLine.{Head, Divide, Group, End}
use Rattle.cut_certificate.specs.Texts.{Standing, is_edge_over, edge_named, routers_named, with_head, with_blocks, with_edge, with_router, with_split, is_next_group, with_members, with_group, with_all_groups, with_closing, with_saying, with_line}

-- a line leaves splits and blocks as they are, or makes a split
pub data IsStep (edges : List Edge) (s next : Standing) : Type 0 where
  stays : next.splits ≡ s.splits → next.blocks ≡ s.blocks → (next.stage ≡ Closed → (s.stage ≡ Closed) ⊎ (are_even edges s.blocks.numbers ≡ true))
      → IsStep edges s next
  makes : (split : Split) → split.edge < length edges → split_by edges s.blocks split ≡ Ok next.blocks → next.splits ≡ s.splits ++ split ∷ []
      → next.stage ≡ Splitting → IsStep edges s next

module _ (edges : List Edge) (routers : List ℕ → Option ℕ) (s next : Standing) where
  head_step : (stage : Stage) → with_head s stage ≡ Ok next → IsStep edges s next
  head_step Opening e = let same : record s { stage = Splitting } ≡ next = cc in subst (IsStep edges s) same (stays refl refl (λ c. absurd cc))
  head_step Splitting e = absurd cc
  head_step Naming e = absurd cc
  head_step Closed e = absurd cc

  blocks_step : (split : Split) (r : Result Blocks CutKind) → s.stage ≡ Splitting → split.edge < length edges → split_by edges s.blocks split ≡ r
      → with_blocks s split r ≡ Ok next → IsStep edges s next
  blocks_step split (Err kind) stage inside is e = absurd cc
  blocks_step split (Ok blocks) stage inside is e =
      let same : record s { splits = s.splits ++ split ∷ []; blocks = blocks } ≡ next = cc in
      subst (IsStep edges s) same (makes split inside is refl stage)

  edge_step : (block by router link : ℕ) (found : Option ℕ) → s.stage ≡ Splitting → edge_named edges router link ≡ found
      → with_edge edges s block by found ≡ Ok next → IsStep edges s next
  edge_step block by router link None stage is e = absurd cc
  edge_step block by router link (Some place) stage is e =
      let none : Edge = record { importer = 0; exporter = 0; act = 0; link = 0 } in
      let known = position-Some (is_edge_over router link) edges place none is in
      blocks_step (record { block = block; by = by; edge = place }) (split_by edges s.blocks (record { block = block; by = by; edge = place })) stage known.0
      refl e

  router_step : (block by link : ℕ) (found : Option ℕ) → s.stage ≡ Splitting → with_router edges s block by link found ≡ Ok next → IsStep edges s next
  router_step block by link None stage e = absurd cc
  router_step block by link (Some router) stage e = edge_step block by router link (edge_named edges router link) stage refl e

  split_step : (block by : ℕ) (name : List ℕ) (link : ℕ) (stage : Stage) → s.stage ≡ stage → with_split edges routers s block by name link stage ≡ Ok next
      → IsStep edges s next
  split_step block by name link Splitting is e = router_step block by link (routers name) is e
  split_step block by name link Opening is e = absurd cc
  split_step block by name link Naming is e = absurd cc
  split_step block by name link Closed is e = absurd cc

  group_step : (members : List ℕ) (b : Bool) → cond b (Ok (record s { stage = Naming; named = s.named + 1 })) (Err kinds.WrongGroups) ≡ Ok next
      → IsStep edges s next
  group_step members true e = let same : record s { stage = Naming; named = s.named + 1 } ≡ next = cc in
      subst (IsStep edges s) same (stays refl refl (λ c. absurd cc))
  group_step members false e = absurd cc

  members_step : (found : Option (List ℕ)) → with_members s found ≡ Ok next → IsStep edges s next
  members_step None e = absurd cc
  members_step (Some members) e = group_step members (is_next_group (slice_get (groups_of s.blocks.numbers) s.named) members) e

  named_step : (words : List (List ℕ)) (stage : Stage) → with_group routers s words stage ≡ Ok next → IsStep edges s next
  named_step words Splitting e = members_step (routers_named routers words) e
  named_step words Naming e = members_step (routers_named routers words) e
  named_step words Opening e = absurd cc
  named_step words Closed e = absurd cc

  close_step : (a b : Bool) → are_even edges s.blocks.numbers ≡ b
      → cond a (cond b (Ok (record s { stage = Closed })) (Err kinds.NotAdmissible)) (Err kinds.WrongGroups) ≡ Ok next → IsStep edges s next
  close_step false b even e = absurd cc
  close_step true false even e = absurd cc
  close_step true true even e = let same : record s { stage = Closed } ≡ next = cc in subst (IsStep edges s) same (stays refl refl (λ c. inr even))

  closed_step : with_all_groups edges s ≡ Ok next → IsStep edges s next
  closed_step e = close_step (nat_eq s.named (length (groups_of s.blocks.numbers))) (are_even edges s.blocks.numbers) refl e

  end_step : (stage : Stage) → with_closing edges s stage ≡ Ok next → IsStep edges s next
  end_step Splitting e = closed_step e
  end_step Naming e = closed_step e
  end_step Opening e = absurd cc
  end_step Closed e = absurd cc

  saying_step : (o : Option CertificateLine) → with_saying edges routers s o ≡ Ok next → IsStep edges s next
  saying_step None e = absurd cc
  saying_step (Some Head) e = head_step s.stage e
  saying_step (Some (Divide block by name link)) e = split_step block by name link s.stage refl e
  saying_step (Some (Group words)) e = named_step words s.stage e
  saying_step (Some End) e = end_step s.stage e

  pub line_step : (ws : List (List ℕ)) → with_line edges routers s ws ≡ Ok next → IsStep edges s next
  line_step [] e = let same : s ≡ next = cc in subst (IsStep edges s) same (stays refl refl (λ c. inl c))
  line_step (w ∷ ws) e = saying_step (certificate_line_of w ws) e

-- ---- splits keep how many routers there are

pub numbers_total : (edges : List Edge) (numbers : List ℕ) (block by act next : ℕ) → length (numbers_after edges numbers block by act next) ≡ length numbers
unfolding numbers_after
numbers_total edges numbers block by act next = map_length (number_after edges numbers block by act next) (range_with_len 0 (length numbers))
    ∙ length-range_with_len 0 (length numbers)
  where
    map_length : {X Y : Type 0} (f : X → Y) (xs : List X) → length (map f xs) ≡ length xs
    map_length f [] = refl
    map_length f (x ∷ xs) = omega (arith, map_length f xs)

-- what a split that can be made gives, and why it can
pub record IsMade (edges : List Edge) (blocks : Blocks) (split : Split) (next : Blocks) : Type 0 where
  pub is : next ≡ blocks_after edges blocks split
  pub known : (is_block blocks split.block && is_block blocks split.by) ≡ true
  pub apart : nat_eq split.block split.by ≡ false
  pub parts : are_parts split.block (blocks_after edges blocks split) ≡ true

pub made : (edges : List Edge) (blocks : Blocks) (split : Split) (next : Blocks) → split_by edges blocks split ≡ Ok next → IsMade edges blocks split next
unfolding split_by
made edges blocks split next e = by (is_block blocks split.block && is_block blocks split.by) refl (nat_eq split.block split.by) refl
    (are_parts split.block (blocks_after edges blocks split)) refl e
  where
    by : (a : Bool) → (is_block blocks split.block && is_block blocks split.by) ≡ a → (b : Bool) → nat_eq split.block split.by ≡ b → (c : Bool)
        → are_parts split.block (blocks_after edges blocks split) ≡ c
        → cond (not a) (Err kinds.NoBlock) (cond b (Err kinds.SameBlock) (cond c (Ok (blocks_after edges blocks split)) (Err kinds.NothingSplit))) ≡ Ok next
        → IsMade edges blocks split next
    by false f b g c h e = absurd cc
    by true f true g c h e = absurd cc
    by true f false g false h e = absurd cc
    by true f false g true h e = let same : blocks_after edges blocks split ≡ next = cc in record { is = sym same; known = f; apart = g; parts = h }

pub split_total : (edges : List Edge) (blocks : Blocks) (split : Split) (next : Blocks) → split_by edges blocks split ≡ Ok next
    → length next.numbers ≡ length blocks.numbers
split_total edges blocks split next e = ap (λ (b : Blocks). length b.numbers) (made edges blocks split next e).is
    ∙ numbers_total edges blocks.numbers split.block split.by (edge_act edges split.edge) (blocks.count + 1)

pub line_total : (edges : List Edge) (routers : List ℕ → Option ℕ) (s next : Standing) (ws : List (List ℕ)) → with_line edges routers s ws ≡ Ok next
    → length next.blocks.numbers ≡ length s.blocks.numbers
line_total edges routers s next ws e = elim (line_step edges routers s next ws e) [
  | stays splits blocks stage ↦ ap (λ (b : Blocks). length b.numbers) blocks
  | makes split inside is splits stage ↦ split_total edges s.blocks split next.blocks is
]
