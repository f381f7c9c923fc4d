-- Leaders of blocks, and blocks that are even with their leaders.
use Rattle.std.proofs.Common.{◌≡◌, ◌≢◌, ℕ, ◌+◌, ◌-◌, ◌*◌, ◌<◌, ◌≤◌, Bool, true, false, cond, nat_eq, List, [], ◌∷◌, ◌++◌, length, All, refl, sym, ap, ◌∙◌, subst, arith, inl, inr, Ok}
use Rattle.std.specs.Prelude.{slice_index, slice_set}
use Rattle.std.proofs.lemmas.Bool.{cases_eq}
use Rattle.std.proofs.lemmas.List.{get_or-set_same, get_or-set_other, get_or_append_left, get_or_push, length-set, length_push}
use Rattle.base_kit.specs.declared.act_graph.Edge.{Edge}
use Rattle.base_kit.specs.declared.act_graph.ActGraph.{ActGraph}
use Rattle.base_kit.specs.Partition.{IsAdmissibleOn}
use Rattle.base_kit.proofs.Mirrors.{mirrored_trans}
use Rattle.cut_certificate.specs.Blocks.{Blocks, first_blocks, groups_of, edge_act, reaches, numbers_after, split_by}
use Rattle.cut_certificate.specs.declared.certificate.Split.{Split}
use Rattle.cut_certificate.specs.declared.certificate.Certificate.{Certificate}
use Rattle.cut_certificate.specs.declared.certifying.Parting.{Parting}
use Rattle.cut_certificate.specs.Certificates.{AreAfter, IsAccepted}
use Rattle.cut_certificate.specs.Evenness.{is_mirrored}
use Rattle.cut_certificate.specs.InUse.{AreInUse}
use Rattle.cut_certificate.specs.Uneven.{AreLeaders, AreEvenFrom, AreMirrored, IsParting, IsSplitBy}
use Rattle.cut_certificate.proofs.AcceptedTexts.{after_push}
use Rattle.cut_certificate.proofs.Evened.{mirrored_by}
use Rattle.cut_certificate.proofs.StepsOf.{made, split_total}
use Rattle.cut_certificate.proofs.Reached.{IsReached, first_reached, all_reached, and_first, and_second}
use Rattle.cut_certificate.proofs.Used.{after_at, after_long, stays_put, goes, stays_here}

-- the leaders of the first routers' blocks
pub record AreLeadersSoFar (count : ℕ) (numbers leaders : List ℕ) : Type 0 where
  pub member : (u : ℕ) → u < count → slice_index leaders (slice_index numbers u - 1) < length numbers
  pub together : (u : ℕ) → u < count → slice_index numbers (slice_index leaders (slice_index numbers u - 1)) ≡ slice_index numbers u

pub leaders_none : (numbers leaders : List ℕ) → AreLeadersSoFar 0 numbers leaders
leaders_none numbers leaders = record { member = λ u h. absurd (omega arith); together = λ u h. absurd (omega arith) }

pub leaders_more : (numbers leaders : List ℕ) (router : ℕ) → router < length numbers → 0 < slice_index numbers router
    → slice_index numbers router ≤ length leaders
    → All (λ number. (0 < number) × (number ≤ length leaders)) numbers → AreLeadersSoFar router numbers leaders
    → AreLeadersSoFar (router + 1) numbers (slice_set leaders (slice_index numbers router - 1) router)
leaders_more numbers leaders router h some few known are = record {
  member = λ u lt. (elim (cases_eq (slice_index numbers u - 1) (slice_index numbers router - 1)) [
    | inl same ↦ subst (λ (k : ℕ). k < length numbers) (sym (here u same)) h
    | inr other ↦ subst (λ (k : ℕ). k < length numbers) (sym (there u other)) (are.member u (earlier u lt other))
  ]);
  together = λ u lt. (elim (cases_eq (slice_index numbers u - 1) (slice_index numbers router - 1)) [
    | inl same ↦ ap (slice_index numbers) (here u same) ∙ equal u lt same
    | inr other ↦ ap (slice_index numbers) (there u other) ∙ are.together u (earlier u lt other)
  ]);
}
  where
    place : ℕ
    place = slice_index numbers router - 1

    here : (u : ℕ) → slice_index numbers u - 1 ≡ place → slice_index (slice_set leaders place router) (slice_index numbers u - 1) ≡ router
    here u same = ap (slice_index (slice_set leaders place router)) same ∙ get_or-set_same leaders place router 0 (omega arith)

    there : (u : ℕ) → slice_index numbers u - 1 ≢ place → slice_index (slice_set leaders place router) (slice_index numbers u - 1)
        ≡ slice_index leaders (slice_index numbers u - 1)
    there u other = get_or-set_other leaders place (slice_index numbers u - 1) router 0 other

    earlier : (u : ℕ) → u < router + 1 → slice_index numbers u - 1 ≢ place → u < router
    earlier u lt other = elim (cases_eq u router) [
      | inl e ↦ absurd (other (ap (λ (k : ℕ). slice_index numbers k - 1) e))
      | inr ne ↦ omega arith
    ]

    equal : (u : ℕ) → u < router + 1 → slice_index numbers u - 1 ≡ place → slice_index numbers router ≡ slice_index numbers u
    equal u lt same = let (positive, few) = known u 0 (omega arith) in omega arith

pub leaders_all : (numbers leaders : List ℕ) (count : ℕ) → length numbers ≤ count → AreLeadersSoFar count numbers leaders → AreLeaders numbers leaders
leaders_all numbers leaders count le are = record { member = λ u h. are.member u (omega arith); together = λ u h. are.together u (omega arith) }

-- ---- a split

pub leaders_split : (edges : List Edge) (blocks next : Blocks) (p : Parting) (split : Split) (old new : List ℕ) → AreInUse blocks.numbers blocks.count
    → AreLeaders blocks.numbers old → length old ≡ blocks.count
    → IsParting edges blocks.numbers p → IsSplitBy blocks.numbers p split → split_by edges blocks split ≡ Ok next
    → new ≡ slice_set old (split.block - 1) p.stays ++ p.goes ∷ [] → AreLeaders next.numbers new
leaders_split edges blocks next p split old new used are long parting by is pushed =
    let m = (made edges blocks split next is).is in
    subst (λ (b : Blocks). AreLeaders b.numbers new) (sym m) (record {
      member = λ u h. (let l = led u (omega (arith, total)) in omega (arith, l.0, total));
      together = λ u h. (led u (omega (arith, total))).1;
    })
  where
    numbers : List ℕ
    numbers = blocks.numbers

    block : ℕ
    block = split.block

    act : ℕ
    act = edge_act edges split.edge

    last : ℕ
    last = blocks.count + 1

    after : List ℕ
    after = numbers_after edges numbers block split.by act last

    total : length after ≡ length numbers
    total = after_long edges numbers block split.by act last

    -- the tests of the split at the two members
    same_act : act ≡ p.by.edge.act
    same_act = ap (edge_act edges) by.edge ∙ parting.unmatched.act

    tested : (u : ℕ) → reaches edges numbers split.by act u ≡ reaches edges numbers (slice_index numbers p.by.edge.exporter) p.by.edge.act u
    tested u = ap (λ (b : ℕ). reaches edges numbers b act u) by.by ∙ ap (λ (a : ℕ). reaches edges numbers (slice_index numbers p.by.edge.exporter) a u) same_act

    goer : slice_index after p.goes ≡ last
    goer = after_at edges numbers block split.by act last p.goes parting.goes
        ∙ goes edges numbers block split.by act last p.goes (sym by.block) (tested p.goes ∙ parting.unmatched.reached)

    stayer : slice_index after p.stays ≡ block
    stayer = after_at edges numbers block split.by act last p.stays parting.stays
        ∙ stays_here edges numbers block split.by act last p.stays (tested p.stays ∙ parting.unmatched.unreached) ∙ parting.together ∙ sym by.block

    known : (u : ℕ) → u < length numbers → (0 < slice_index numbers u) × (slice_index numbers u ≤ length old)
    known u h = let (some, few) = used.known u 0 h in (some, omega arith)

    split_known : (0 < block) × (block ≤ length old)
    split_known = let k = known p.goes parting.goes in let e = by.block in (omega arith, omega arith)

    -- the leaders of the new blocks, of the divided one and of the others
    set_long : length (slice_set old (block - 1) p.stays) ≡ length old
    set_long = length-set old (block - 1) p.stays

    new_last : slice_index new (last - 1) ≡ p.goes
    new_last = ap (λ (xs : List ℕ). slice_index xs (last - 1)) pushed
        ∙ get_or_push (slice_set old (block - 1) p.stays) p.goes 0 (last - 1) (omega (arith, set_long, long))

    new_first : (k : ℕ) → k < length old → slice_index new k ≡ slice_index (slice_set old (block - 1) p.stays) k
    new_first k h = ap (λ (xs : List ℕ). slice_index xs k) pushed
        ∙ get_or_append_left (slice_set old (block - 1) p.stays) (p.goes ∷ []) 0 k (omega (arith, set_long))

    new_block : slice_index new (block - 1) ≡ p.stays
    new_block = let k = split_known in new_first (block - 1) (omega arith) ∙ get_or-set_same old (block - 1) p.stays 0 (omega arith)

    new_other : (k : ℕ) → k < length old → k ≢ block - 1 → slice_index new k ≡ slice_index old k
    new_other k h ne = new_first k h ∙ get_or-set_other old (block - 1) k p.stays 0 ne

    led_by : (u leader : ℕ) → slice_index new (slice_index after u - 1) ≡ leader → leader < length numbers → slice_index after leader ≡ slice_index after u
        → (slice_index new (slice_index after u - 1) < length numbers) × (slice_index after (slice_index new (slice_index after u - 1)) ≡ slice_index after u)
    led_by u leader e h same = (omega arith, ap (slice_index after) e ∙ same)

    led : (u : ℕ) → u < length numbers → (slice_index new (slice_index after u - 1) < length numbers)
        × (slice_index after (slice_index new (slice_index after u - 1)) ≡ slice_index after u)
    led u h = elim (cases_eq (slice_index numbers u) block) [
      | inr ne ↦
          let same : slice_index after u ≡ slice_index numbers u = after_at edges numbers block split.by act last u h
          ∙ stays_put edges numbers block split.by act last u ne in
          let k = known u h in
          let s = split_known in
          let apart : slice_index numbers u - 1 ≢ block - 1 = λ e. ne (omega arith) in
          let at : slice_index new (slice_index after u - 1) ≡ slice_index old (slice_index numbers u - 1) = ap (λ (n : ℕ). slice_index new (n - 1)) same
          ∙ new_other (slice_index numbers u - 1) (omega arith) apart in
          let leader = slice_index old (slice_index numbers u - 1) in
          let one = are.together u h in
          let put : slice_index after leader ≡ slice_index numbers leader = after_at edges numbers block split.by act last leader (are.member u h)
          ∙ stays_put edges numbers block split.by act last leader (λ e. ne (sym one ∙ e)) in
          led_by u leader at (are.member u h) (put ∙ one ∙ sym same)
      | inl here ↦ here_by u h here (reaches edges numbers split.by act u) refl
    ]
      where
        here_by : (u : ℕ) → u < length numbers → slice_index numbers u ≡ block → (b : Bool) → reaches edges numbers split.by act u ≡ b
            → (slice_index new (slice_index after u - 1) < length numbers)
            × (slice_index after (slice_index new (slice_index after u - 1)) ≡ slice_index after u)
        here_by u h here true e =
            let is : slice_index after u ≡ last = after_at edges numbers block split.by act last u h ∙ goes edges numbers block split.by act last u here e in
            led_by u p.goes (ap (λ (n : ℕ). slice_index new (n - 1)) is ∙ new_last) parting.goes (goer ∙ sym is)
        here_by u h here false e =
            let is : slice_index after u ≡ block = after_at edges numbers block split.by act last u h ∙ stays_here edges numbers block split.by act last u e
            ∙ here in
            led_by u p.stays (ap (λ (n : ℕ). slice_index new (n - 1)) is ∙ new_block) parting.stays (stayer ∙ sym is)

pub leaders_longer : (old new : List ℕ) (place stays goes : ℕ) → new ≡ slice_set old place stays ++ goes ∷ [] → length new ≡ length old + 1
leaders_longer old new place stays goes pushed = ap length pushed ∙ length_push (slice_set old place stays) goes ∙ ap (λ n. n + 1) (length-set old place stays)

pub even_with_leaders : (edges : List Edge) (numbers leaders : List ℕ) → AreLeaders numbers leaders → AreEvenFrom edges numbers leaders 0
    → AreMirrored edges numbers
even_with_leaders edges numbers leaders are even = record {
  each = λ u v hu hv same.
      let leader = slice_index leaders (slice_index numbers u - 1) in
      let mu = even.each u (omega arith) hu in
      let mv = even.each v (omega arith) hv in
      let one : slice_index leaders (slice_index numbers v - 1) ≡ leader = ap (λ (k : ℕ). slice_index leaders (k - 1)) (sym same) in
      let to = mirrored_by edges numbers u leader (and_second (is_mirrored edges numbers leader u) (is_mirrored edges numbers u leader) mu) in
      let from = mirrored_by edges numbers leader v (ap (λ (k : ℕ). is_mirrored edges numbers k v) (sym one)
      ∙ and_first (is_mirrored edges numbers (slice_index leaders (slice_index numbers v - 1)) v)
      (is_mirrored edges numbers v (slice_index leaders (slice_index numbers v - 1))) mv) in
      mirrored_trans edges numbers u leader v (sym (are.together u hu)) to from;
}

pub mirrored_admissible : (graph : ActGraph) (blocks : Blocks) → IsReached graph blocks → AreMirrored graph.edges blocks.numbers
    → IsAdmissibleOn graph blocks.numbers
mirrored_admissible graph blocks are mirrored = record {
  total = are.total;
  colors = are.colors;
  edges = λ u v hu hv same. mirrored.each u v (omega (arith, are.total)) (omega (arith, are.total)) same;
}

pub refined_accepted : (graph : ActGraph) (first last : Blocks) (c : Certificate) → first ≡ first_blocks graph → AreAfter graph first c.splits last
    → AreMirrored graph.edges last.numbers → c.groups ≡ groups_of last.numbers → IsAccepted graph c
refined_accepted graph first last c is after mirrored groups =
    let path = subst (λ (b : Blocks). AreAfter graph b c.splits last) is after in
    record {
      blocks = last;
      split = path;
      groups = groups;
      admissible = mirrored_admissible graph last (all_reached graph c.splits (first_blocks graph) last (first_reached graph) path) mirrored;
    }

pub after_total : (graph : ActGraph) (first last : Blocks) (splits : List Split) → first ≡ first_blocks graph → AreAfter graph first splits last
    → length last.numbers ≡ graph.count
after_total graph first last splits is after =
    (all_reached graph splits (first_blocks graph) last (first_reached graph) (subst (λ (b : Blocks). AreAfter graph b splits last) is after)).total

pub smaller_some : (n count next from later : ℕ) → next ≡ count + 1 → next ≤ n
    → 2 * (n - next) + cond (nat_eq later 0) 0 1 < 2 * (n - count) + cond (nat_eq from 0) 0 1
smaller_some n count next from later is le = by (nat_eq later 0) (nat_eq from 0)
  where
    by : (a b : Bool) → 2 * (n - next) + cond a 0 1 < 2 * (n - count) + cond b 0 1
    by true true = omega arith
    by true false = omega arith
    by false true = omega arith
    by false false = omega arith

-- one split more
pub record IsGrown (graph : ActGraph) (first next : Blocks) (more : List Split) (count : ℕ) : Type 0 where
  pub after : AreAfter graph first more next
  pub total : length next.numbers ≡ graph.count
  pub few : length more + first.count ≡ count
  pub one_more : count ≡ next.count

pub grown : (graph : ActGraph) (first blocks next : Blocks) (splits more : List Split) (split : Split) (count later : ℕ) → AreAfter graph first splits blocks
    → length blocks.numbers ≡ graph.count → count ≡ blocks.count → length splits + first.count ≡ count
    → split_by graph.edges blocks split ≡ Ok next → split.edge < length graph.edges → more ≡ splits ++ split ∷ [] → later ≡ next.count
    → IsGrown graph first next more later × (later ≡ count + 1)
grown graph first blocks next splits more split count later after total counted few is inside pushed value =
    let longer : next.count ≡ blocks.count + 1 = ap (λ (b : Blocks). b.count) (made graph.edges blocks split next is).is in (
      record {
        after = subst (λ (ss : List Split). AreAfter graph first ss next) (sym pushed) (after_push graph splits split first blocks next after inside is);
        total = split_total graph.edges blocks split next is ∙ total;
        few = (let long : length more ≡ length splits + 1 = ap length pushed ∙ length_push splits split in omega arith);
        one_more = value;
      },
      omega arith,
    )
