-- Blocks that splits lead to: every admissible partition refines them, and they have equal colors.
use Rattle.std.proofs.Common.{◌≡◌, ◌≢◌, ℕ, ◌+◌, ◌<◌, ◌≤◌, Bool, true, false, cond, ◌&&◌, nat_eq, List, [], ◌∷◌, length, map, get_or, slice_index_or, refl, sym, ap, ◌∙◌, subst, arith, inl, inr, Ok}
use Rattle.std.specs.Prelude.{slice_index, Any, ◌⊎◌}
use Rattle.std.proofs.lemmas.Bool.{cases_eq}
use Rattle.std.proofs.lemmas.List.Folds.{Any-from_list_any, list_any-from_Any}
use Rattle.base_kit.specs.declared.act_graph.Edge.{Edge}
use Rattle.base_kit.specs.declared.act_graph.ActGraph.{ActGraph}
use Rattle.base_kit.specs.Partition.{color, IsMirroredAt, IsAdmissibleOn, Refines}
use Rattle.cut_certificate.specs.declared.certificate.Split.{Split}
use Rattle.cut_certificate.specs.declared.certificate.Certificate.{Certificate}
use Rattle.cut_certificate.specs.Blocks.{Blocks, distinct, place_among, number_among, first_blocks, leads_into, leads_from, reaches, number_after, edge_act, blocks_after, split_by}
use Rattle.cut_certificate.specs.Certificates.{AreAfter, IsAccepted, AreCoarsest}
use Rattle.cut_certificate.proofs.Seen.{same_test, test_same, at_place, place_below, distinct_has}
use Rattle.cut_certificate.proofs.StepsOf.{made}
use Rattle.cut_certificate.proofs.Used.{map_at, map_long, after_at, after_long, stays_put}

pub record IsReached (graph : ActGraph) (blocks : Blocks) : Type 0 where
  pub total : length blocks.numbers ≡ graph.count
  pub below : (u : ℕ) → u < graph.count → slice_index blocks.numbers u ≤ blocks.count
  pub colors : (u v : ℕ) → u < graph.count → v < graph.count → slice_index blocks.numbers u ≡ slice_index blocks.numbers v → color graph u ≡ color graph v
  pub above : (others : List ℕ) → IsAdmissibleOn graph others → Refines graph.count others blocks.numbers

-- ---- the start

number_apart : (keys : List ℕ) (u v : ℕ) → u < length keys → v < length keys → number_among keys (get_or keys u 0) ≡ number_among keys (get_or keys v 0)
    → get_or keys u 0 ≡ get_or keys v 0
number_apart keys u v hu hv same =
    let place : place_among (distinct keys) (get_or keys u 0) ≡ place_among (distinct keys) (get_or keys v 0) = omega arith in
    sym (at_place (distinct keys) (get_or keys u 0) (distinct_has keys u hu)) ∙ ap (λ k. get_or (distinct keys) k 0) place
    ∙ at_place (distinct keys) (get_or keys v 0) (distinct_has keys v hv)

pub first_reached : (graph : ActGraph) → IsReached graph (first_blocks graph)
unfolding first_blocks
first_reached graph = record {
  total = map_long (number_among cs) cs ∙ graph.one_color_each;
  below = λ u hu.
      (let h = inside u hu in
      let at = number u hu in
      let low = place_below (distinct cs) (get_or cs u 0) (distinct_has cs u h) in omega arith);
  colors = λ u v hu hv same. number_apart cs u v (inside u hu) (inside v hv) (sym (number u hu) ∙ same ∙ number v hv);
  above = λ others admissible u v hu hv same. number u hu ∙ ap (number_among cs) (admissible.colors u v hu hv same) ∙ sym (number v hv);
}
  where
    cs : List ℕ
    cs = graph.colors

    inside : (u : ℕ) → u < graph.count → u < length cs
    inside u hu = omega (arith, graph.one_color_each)

    number : (u : ℕ) → u < graph.count → slice_index (map (number_among cs) cs) u ≡ number_among cs (get_or cs u 0)
    number u hu = map_at (number_among cs) cs u (inside u hu)

-- ---- a split

pub and_first : (a b : Bool) → (a && b) ≡ true → a ≡ true
and_first true b e = refl
and_first false b e = absurd cc

pub and_second : (a b : Bool) → (a && b) ≡ true → b ≡ true
and_second true b e = e
and_second false b e = absurd cc

pub both : (a b : Bool) → a ≡ true → b ≡ true → (a && b) ≡ true
both true b e f = f
both false b e f = absurd cc

pub record Leads (edges : List Edge) (numbers : List ℕ) (block act router : ℕ) : Type 0 where
  pub place : ℕ
  pub edge : Edge
  pub inside : place < length edges
  pub at : slice_index_or edges place edge ≡ edge
  pub importer : edge.importer ≡ router
  pub acts : edge.act ≡ act
  pub into : slice_index numbers edge.exporter ≡ block

pub reaches_by : (edges : List Edge) (numbers : List ℕ) (block act router : ℕ) → reaches edges numbers block act router ≡ true
    → Leads edges numbers block act router
unfolding reaches
reaches_by edges numbers block act router e =
    let (k, edge, inside, at, passes) = Any-from_list_any (leads_from numbers block act router) edges e in
    let rest = and_second (nat_eq edge.importer router) (leads_into numbers block act edge) passes in
    record {
      place = k;
      edge = edge;
      inside = inside;
      at = at;
      importer = test_same _ _ (and_first (nat_eq edge.importer router) (leads_into numbers block act edge) passes);
      acts = test_same _ _ (and_first (nat_eq edge.act act) (nat_eq (slice_index numbers edge.exporter) block) rest);
      into = test_same _ _ (and_second (nat_eq edge.act act) (nat_eq (slice_index numbers edge.exporter) block) rest);
    }

pub reaches_if : (edges : List Edge) (numbers : List ℕ) (block act router : ℕ)
    → Any (λ edge. (edge.importer ≡ router) × (edge.act ≡ act) × (slice_index numbers edge.exporter ≡ block)) edges
    → reaches edges numbers block act router ≡ true
unfolding reaches
reaches_if edges numbers block act router (k, edge, inside, at, (importer, acts, into)) =
    list_any-from_Any (leads_from numbers block act router) edges
    (k, edge, inside, at, both _ _ (same_test _ _ importer) (both _ _ (same_test _ _ acts) (same_test _ _ into)))

-- a router that is together with one that reaches the block reaches it too
reaches_too : (graph : ActGraph) (numbers others : List ℕ) (block by act u v : ℕ) → Refines graph.count others numbers → IsAdmissibleOn graph others
    → u < graph.count → v < graph.count → slice_index others u ≡ slice_index others v
    → slice_index numbers u ≡ block → block ≢ by → reaches graph.edges numbers by act u ≡ true → reaches graph.edges numbers by act v ≡ true
unfolding IsMirroredAt
reaches_too graph numbers others block by act u v refines admissible hu hv same member apart e =
    let l = reaches_by graph.edges numbers by act u e in
    let exporter = rw (l.at) at (graph.exporters_in_range l.place l.edge l.inside) in
    let mirrored = rw (l.at) at (admissible.edges u v hu hv same l.place l.edge l.inside) in
    let leaves : slice_index others l.edge.exporter ≢ slice_index others u = λ together.
    apart (sym member ∙ sym (refines l.edge.exporter u exporter hu together) ∙ l.into) in
    let (k, twin, inside, at, (importer, acts, into)) = mirrored.twin l.importer leaves in
    let exporter' = rw at at (graph.exporters_in_range k twin inside) in
    reaches_if graph.edges numbers by act v (
      k,
      twin,
      inside,
      at,
      (importer, acts ∙ l.acts, refines twin.exporter l.edge.exporter exporter' exporter into ∙ l.into),
    )

-- two routers of the block that both reach, or both do not
after_same : (edges : List Edge) (numbers : List ℕ) (block by act next u v : ℕ) → slice_index numbers u ≡ slice_index numbers v
    → reaches edges numbers by act u ≡ reaches edges numbers by act v
    → number_after edges numbers block by act next u ≡ number_after edges numbers block by act next v
after_same edges numbers block by act next u v same reach = rw (same, reach) refl

equal_tests : (a b : Bool) → (a ≡ true → b ≡ true) → (b ≡ true → a ≡ true) → a ≡ b
equal_tests true b there back = sym (there refl)
equal_tests false true there back = back refl
equal_tests false false there back = refl

-- where it goes
moved_to : (edges : List Edge) (numbers : List ℕ) (block by act next u : ℕ) → (b : Bool)
    → (nat_eq (slice_index numbers u) block && reaches edges numbers by act u) ≡ b
    → number_after edges numbers block by act next u ≡ cond b next (slice_index numbers u)
moved_to edges numbers block by act next u b e = ap (λ t. cond t next (slice_index numbers u)) e

pub next_reached : (graph : ActGraph) (blocks next : Blocks) (split : Split) → IsReached graph blocks → split_by graph.edges blocks split ≡ Ok next
    → IsReached graph next
next_reached graph blocks next split are e =
    let m = made graph.edges blocks split next e in
    subst (IsReached graph) (sym m.is) (record {
      total = after_long edges numbers block by act more ∙ are.total;
      below = λ u hu. below u hu (nat_eq (slice_index numbers u) block && reaches edges numbers by act u) refl;
      colors = λ u v hu hv same. are.colors u v hu hv (together u v hu hv (nat_eq (slice_index numbers u) block && reaches edges numbers by act u) refl
          (nat_eq (slice_index numbers v) block && reaches edges numbers by act v) refl (sym (at u hu) ∙ same ∙ at v hv));
      above = λ others admissible u v hu hv same. at u hu ∙ kept others admissible u v hu hv same (other_block m.apart) (cases_eq (slice_index numbers u) block)
          ∙ sym (at v hv);
    })
  where
    edges : List Edge
    edges = graph.edges

    numbers : List ℕ
    numbers = blocks.numbers

    block : ℕ
    block = split.block

    by : ℕ
    by = split.by

    act : ℕ
    act = edge_act graph.edges split.edge

    more : ℕ
    more = blocks.count + 1

    at : (u : ℕ) → u < graph.count → slice_index (blocks_after graph.edges blocks split).numbers u ≡ number_after edges numbers block by act more u
    at u hu = after_at edges numbers block by act more u (omega (arith, are.total))

    below : (u : ℕ) → (hu : u < graph.count) → (b : Bool) → (nat_eq (slice_index numbers u) block && reaches edges numbers by act u) ≡ b
        → slice_index (blocks_after graph.edges blocks split).numbers u ≤ more
    below u hu true f = let is = at u hu ∙ moved_to edges numbers block by act more u true f in omega arith
    below u hu false f = let is = at u hu ∙ moved_to edges numbers block by act more u false f in let low = are.below u hu in omega arith

    member : (u : ℕ) → (nat_eq (slice_index numbers u) block && reaches edges numbers by act u) ≡ true → slice_index numbers u ≡ block
    member u f = test_same _ _ (and_first (nat_eq (slice_index numbers u) block) (reaches edges numbers by act u) f)

    together : (u v : ℕ) → u < graph.count → v < graph.count → (a : Bool) → (nat_eq (slice_index numbers u) block && reaches edges numbers by act u) ≡ a
        → (b : Bool) → (nat_eq (slice_index numbers v) block && reaches edges numbers by act v) ≡ b
        → number_after edges numbers block by act more u ≡ number_after edges numbers block by act more v → slice_index numbers u ≡ slice_index numbers v
    together u v hu hv true f true g same = member u f ∙ sym (member v g)
    together u v hu hv true f false g same =
        let is : more ≡ slice_index numbers v = sym (moved_to edges numbers block by act more u true f) ∙ same
        ∙ moved_to edges numbers block by act more v false g in
        let low = are.below v hv in absurd (omega arith)
    together u v hu hv false f true g same =
        let is : slice_index numbers u ≡ more = sym (moved_to edges numbers block by act more u false f) ∙ same
        ∙ moved_to edges numbers block by act more v true g in
        let low = are.below u hu in absurd (omega arith)
    together u v hu hv false f false g same = sym (moved_to edges numbers block by act more u false f) ∙ same
        ∙ moved_to edges numbers block by act more v false g

    other_block : nat_eq split.block split.by ≡ false → block ≢ by
    other_block apart same = absurd (let t = same_test block by same in cc)

    kept : (others : List ℕ) → IsAdmissibleOn graph others → (u v : ℕ) → u < graph.count → v < graph.count → slice_index others u ≡ slice_index others v
        → block ≢ by → (slice_index numbers u ≡ block) ⊎ (slice_index numbers u ≢ block)
        → number_after edges numbers block by act more u ≡ number_after edges numbers block by act more v
    kept others admissible u v hu hv same apart (inl here) =
        let refines = are.above others admissible in
        let equal = refines u v hu hv same in
        after_same edges numbers block by act more u v equal
        (equal_tests (reaches edges numbers by act u) (reaches edges numbers by act v)
        (reaches_too graph numbers others block by act u v refines admissible hu hv same here apart)
        (reaches_too graph numbers others block by act v u refines admissible hv hu (sym same) (sym equal ∙ here) apart))
    kept others admissible u v hu hv same apart (inr there) =
        let equal = are.above others admissible u v hu hv same in
        stays_put edges numbers block by act more u there ∙ equal ∙ sym (stays_put edges numbers block by act more v (λ e. there (equal ∙ e)))

pub all_reached : (graph : ActGraph) (splits : List Split) (blocks last : Blocks) → IsReached graph blocks → AreAfter graph blocks splits last
    → IsReached graph last
all_reached graph [] blocks last are after = subst (IsReached graph) after are
all_reached graph (split ∷ splits) blocks last are (next, inside, made, rest) =
    all_reached graph splits next last (next_reached graph blocks next split are made) rest

-- what is accepted names the coarsest admissible partition
pub accepted_is_coarsest : (graph : ActGraph) (c : Certificate) → IsAccepted graph c → AreCoarsest graph c.groups
accepted_is_coarsest graph c accepted =
    let are = all_reached graph c.splits (first_blocks graph) accepted.blocks (first_reached graph) accepted.split in
    record { numbers = accepted.blocks.numbers; coarsest = record { admissible = accepted.admissible; refined = are.above }; listed = accepted.groups }
