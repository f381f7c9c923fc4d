-- The text of a certificate for few routers is short.
use Rattle.std.proofs.Common.{◌≡◌, ℕ, ◌+◌, ◌*◌, ◌<◌, ◌≤◌, Bool, true, false, cond, ◌||◌, nat_eq, List, [], ◌∷◌, ◌++◌, length, map, filter, refl, sym, ap, ◌∙◌, subst, arith, length-append}
use Rattle.std.specs.Prelude.{slice_index}
use Rattle.std.specs.List.{AllByRecursion, range_with_len}
use Rattle.std.proofs.lemmas.List.{length_push}
use Rattle.std.proofs.lemmas.List.FromFn.{length-range_with_len}
use Rattle.base_kit.specs.declared.act_graph.Edge.{Edge}
use Rattle.base_kit.specs.declared.act_graph.ActGraph.{ActGraph}
use Rattle.base_kit.specs.Partition.{members_of}
use Rattle.base_kit.specs.Sets.{has}
use Rattle.cfg_ast.specs.text.TextLines.{TextLine}
use Rattle.cfg_ast.specs.printing.Printed.{line_text, lines_text}
use Rattle.cfg_round_trip.proofs.ShortNames.{line_length}
use Rattle.cfg_round_trip.proofs.ShortWords.{weight, joined_weight, number_short, router_name_short}
use Rattle.cut_certificate.specs.declared.certificate.Split.{Split}
use Rattle.cut_certificate.specs.declared.certificate.Certificate.{Certificate}
use Rattle.cut_certificate.specs.Blocks.{Blocks, with_new, seen_after, distinct, first_blocks, groups_of}
use Rattle.cut_certificate.specs.Certificates.{AreAfter, IsAccepted}
use Rattle.cut_certificate.specs.InUse.{AreInUse}
use Rattle.cut_certificate.specs.Printed.{printed_name, edge_importer, edge_link, head_line, split_line, named_group_line, end_line, certificate_lines, certificate_text}
use Rattle.cut_certificate.proofs.Reached.{first_reached, all_reached}
use Rattle.cut_certificate.proofs.Seen.{test_same, with_old, with_next}
use Rattle.cut_certificate.proofs.StepsOf.{split_total}
use Rattle.cut_certificate.proofs.Written.{importer_is}
use Rattle.certificate_round_trip.specs.Laws.{CanBeNamed, PrintedCertificateIsShort}
use Rattle.certificate_round_trip.proofs.ReadBack.{name_is, link_known, first_blocks_used, small_block, used_next, all_groups}

-- ---- numbers of which each stands once

abbrev AreOnce : List ℕ → Type 0
AreOnce [] = Unit {0}
AreOnce (n ∷ ns) = (has ns n ≡ false) × AreOnce ns

turned : (a b : ℕ) → nat_eq a b ≡ nat_eq b a
turned a b = grind arith

neither : (a b : Bool) → (a || b) ≡ false → (a ≡ false) × (b ≡ false)
neither true b e = absurd cc
neither false b e = (refl, e)

has_push : (ns : List ℕ) (m n : ℕ) → has ns n ≡ false → nat_eq m n ≡ false → has (ns ++ m ∷ []) n ≡ false
has_push [] m n none other = rw other refl
has_push (k ∷ ns) m n none other = let p = neither (nat_eq k n) (has ns n) none in rw (p.0, has_push ns m n p.1 other) refl

once_push : (ns : List ℕ) (m : ℕ) → AreOnce ns → has ns m ≡ false → AreOnce (ns ++ m ∷ [])
once_push [] m once new = (refl, tt)
once_push (n ∷ ns) m once new = let p = neither (nat_eq n m) (has ns m) new in (has_push ns m n once.0 (turned m n ∙ p.0), once_push ns m once.1 p.1)

seen_once : (seen ns : List ℕ) → AreOnce seen → AreOnce (seen_after seen ns)
seen_once seen [] once = once
seen_once seen (n ∷ ns) once = seen_once (with_new seen n) ns (by (has seen n) refl)
  where
    by : (b : Bool) → has seen n ≡ b → AreOnce (with_new seen n)
    by true e = subst AreOnce (sym (with_old seen n e)) once
    by false e = subst AreOnce (sym (with_next seen n e)) (once_push seen n once e)

seen_few : (seen ns : List ℕ) → length (seen_after seen ns) ≤ length seen + length ns
seen_few seen [] = omega arith
seen_few seen (n ∷ ns) = by (has seen n) refl (seen_few (with_new seen n) ns)
  where
    by : (b : Bool) → has seen n ≡ b → length (seen_after (with_new seen n) ns) ≤ length (with_new seen n) + length ns
        → length (seen_after (with_new seen n) ns) ≤ length seen + length (n ∷ ns)
    by true e few = omega (arith, few, ap length (with_old seen n e))
    by false e few = omega (arith, few, ap length (with_next seen n e), length_push seen n)

distinct_once : (ns : List ℕ) → AreOnce (distinct ns)
unfolding distinct
distinct_once ns = seen_once [] ns tt

distinct_few : (ns : List ℕ) → length (distinct ns) ≤ length ns
unfolding distinct
distinct_few ns = let few = seen_few [] ns in omega arith

-- ---- the members of all groups

abbrev total : List (List ℕ) → ℕ
total [] = 0
total (group ∷ groups) = length group + total groups

-- how often a number stands
abbrev hits : ℕ → List ℕ → ℕ
hits x [] = 0
hits x (n ∷ ns) = cond (nat_eq x n) 1 0 + hits x ns

hits_none : (x : ℕ) (ns : List ℕ) → has ns x ≡ false → hits x ns ≡ 0
hits_none x [] none = refl
hits_none x (n ∷ ns) none = let p = neither (nat_eq n x) (has ns x) none in rw (turned x n ∙ p.0) (omega (arith, hits_none x ns p.1))

hits_few : (x : ℕ) (ns : List ℕ) → AreOnce ns → hits x ns ≤ 1
hits_few x [] once = omega arith
hits_few x (n ∷ ns) once = by (nat_eq x n) refl (hits_few x ns once.1)
  where
    by : (b : Bool) → nat_eq x n ≡ b → hits x ns ≤ 1 → cond b 1 0 + hits x ns ≤ 1
    by true e few = let none = hits_none x ns (ap (has ns) (test_same x n e) ∙ once.0) in omega (arith, none)
    by false e few = omega (arith, few)

-- the members, among these routers, of each of the groups of these numbers
abbrev parted : (ℕ → ℕ) → List ℕ → List ℕ → List (List ℕ)
parted f routers ns = map (λ n. filter (λ r. nat_eq (f r) n) routers) ns

parted_none : (f : ℕ → ℕ) (ns : List ℕ) → total (parted f [] ns) ≡ 0
parted_none f [] = refl
parted_none f (n ∷ ns) = omega (arith, parted_none f ns)

parted_more : (f : ℕ → ℕ) (r : ℕ) (rs ns : List ℕ) → total (parted f (r ∷ rs) ns) ≡ hits (f r) ns + total (parted f rs ns)
parted_more f r rs [] = refl
parted_more f r rs (n ∷ ns) = by (nat_eq (f r) n) refl (parted_more f r rs ns)
  where
    by : (b : Bool) → nat_eq (f r) n ≡ b → total (parted f (r ∷ rs) ns) ≡ hits (f r) ns + total (parted f rs ns)
        → length (cond b (r ∷ filter (λ k. nat_eq (f k) n) rs) (filter (λ k. nat_eq (f k) n) rs)) + total (parted f (r ∷ rs) ns)
        ≡ cond b 1 0 + hits (f r) ns + (length (filter (λ k. nat_eq (f k) n) rs) + total (parted f rs ns))
    by true e more = omega (arith, more)
    by false e more = omega (arith, more)

parted_few : (f : ℕ → ℕ) (rs ns : List ℕ) → AreOnce ns → total (parted f rs ns) ≤ length rs
parted_few f [] ns once = omega (arith, parted_none f ns)
parted_few f (r ∷ rs) ns once = omega (arith, parted_more f r rs ns, hits_few (f r) ns once, parted_few f rs ns once)

groups_few : (numbers : List ℕ) → (total (groups_of numbers) ≤ length numbers) × (length (groups_of numbers) ≤ length numbers)
unfolding groups_of
groups_few numbers = (
  omega (
    arith,
    parted_few (slice_index numbers) (range_with_len 0 (length numbers)) (distinct numbers) (distinct_once numbers),
    length-range_with_len 0 (length numbers),
  ),
  omega (arith, map_long (members_of numbers) (distinct numbers), distinct_few numbers),
)
  where
    map_long : (f : ℕ → List ℕ) (ns : List ℕ) → length (map f ns) ≡ length ns
    map_long f [] = refl
    map_long f (n ∷ ns) = omega (arith, map_long f ns)

-- ---- the bytes of lines

abbrev size : List TextLine → ℕ
size [] = 0
size (l ∷ ls) = (l.indent + weight l.words + 1) + size ls

lines_size : (ls : List TextLine) → length (lines_text ls) ≤ size ls
lines_size [] = omega arith
lines_size (l ∷ ls) = omega (arith, length-append (line_text l) (lines_text ls), line_length l, joined_weight l.words, lines_size ls)

size_both : (xs ys : List TextLine) → size (xs ++ ys) ≡ size xs + size ys
size_both [] ys = omega arith
size_both (x ∷ xs) ys = omega (arith, size_both xs ys)

module _ (graph : ActGraph) (names : List (List ℕ)) (can : CanBeNamed graph names) where
  name_short : (u : ℕ) → u < length names → length (printed_name names u) ≤ 63
  name_short u h = router_name_short (printed_name names u) (name_is names u can.each h)

  names_weight : (group : List ℕ) → AllByRecursion (λ u. u < length names) group → weight (map (printed_name names) group) ≤ 64 * length group
  names_weight [] known = omega arith
  names_weight (u ∷ group) known = omega (arith, name_short u known.0, names_weight group known.1)

  groups_size : (groups : List (List ℕ)) → AllByRecursion (λ (group : List ℕ). (0 < length group) × AllByRecursion (λ u. u < length names) group) groups
      → size (map (named_group_line names) groups) ≤ 7 * length groups + 64 * total groups
  groups_size [] known = omega arith
  groups_size (group ∷ groups) known = omega (arith, names_weight group known.0.1, groups_size groups known.1)

  splits_size : (splits : List Split) (blocks last : Blocks) → AreInUse blocks.numbers blocks.count → length blocks.numbers ≡ graph.count
      → AreAfter graph blocks splits last → size (map (split_line graph.edges names) splits) ≤ 104 * length splits
  splits_size [] blocks last used long after = omega arith
  splits_size (split ∷ splits) blocks last used long (next, inside, is, rest) =
      let small = small_block graph names can blocks split next used long is in
      let none : Edge = record { importer = 0; exporter = 0; act = 0; link = 0 } in
      let known : edge_importer graph.edges split.edge < length names =
      (let h = graph.importers_in_range split.edge none inside in let e = importer_is graph.edges split.edge none inside in let t = can.one_each in
      omega arith) in
      omega (
        arith,
        number_short split.block small.0,
        number_short split.by small.1,
        name_short (edge_importer graph.edges split.edge) known,
        number_short (edge_link graph.edges split.edge) (link_known graph.edges split.edge can.links inside),
        splits_size splits next last (used_next graph names can blocks split next used is) (split_total graph.edges blocks split next is ∙ long) rest,
      )

  text_short : (c : Certificate) → IsAccepted graph c → length c.splits ≤ graph.count → graph.count ≤ 4096
      → length (certificate_text graph.edges names c) ≤ 16777216
  unfolding certificate_text
  text_short c accepted splits few =
      let reached = all_reached graph c.splits (first_blocks graph) accepted.blocks (first_reached graph) accepted.split in
      let numbers = accepted.blocks.numbers in
      let known : AllByRecursion (λ (group : List ℕ). (0 < length group) × AllByRecursion (λ u. u < length names) group) c.groups =
      subst (λ (gs : List (List ℕ)). AllByRecursion (λ (group : List ℕ). (0 < length group) × AllByRecursion (λ u. u < length names) group) gs)
      (sym accepted.groups) (all_groups numbers (length names) (reached.total ∙ sym can.one_each)) in
      let fit = groups_few numbers in
      let first = head_line ∷ map (split_line graph.edges names) c.splits in
      let middle = map (named_group_line names) c.groups in
      let a = splits_size c.splits (first_blocks graph) accepted.blocks (first_blocks_used graph) (first_reached graph).total accepted.split in
      let b = groups_size c.groups known in
      omega (
        arith,
        lines_size (certificate_lines graph.edges names c),
        size_both (first ++ middle) (end_line ∷ []),
        size_both first middle,
        a,
        b,
        fit.0,
        fit.1,
        ap length accepted.groups,
        ap total accepted.groups,
        reached.total,
        splits,
        few,
      )

pub printed_is_short : PrintedCertificateIsShort
printed_is_short graph names c can accepted splits few = text_short graph names can c accepted splits few
