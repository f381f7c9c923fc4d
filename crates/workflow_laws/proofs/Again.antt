-- The groups of the small network are its routers.
use Rattle.std.proofs.Common.{◌≡◌, ℕ, ◌<◌, ◌+◌, List, length, refl, sym, ap, ◌∙◌, subst, arith, Option, get_or}
use Rattle.std.specs.Prelude.{Contains, slice_index, All}
use Rattle.std.specs.List.{range_with_len}
use Rattle.std.proofs.lemmas.List.FromFn.{length-range_with_len, get_or-range_with_len}
use Rattle.base_kit.specs.Partition.{IsNumbered, Refines}
use Rattle.base_kit.proofs.Elements.{In, contains_in, in_range}
use Rattle.cfg_ast.specs.declared.classes.DestClass.{DestClass}
use Rattle.cfg_ast.specs.declared.network.Network.{Network}
use Rattle.cfg_ast.specs.meaning.Classes.{classes_of}
use Rattle.config_emit.specs.Plan.{small}
use Rattle.group_report.specs.GroupLines.{group_lines}
use Rattle.quotient_laws.specs.Laws.{IsDiscrete, QuotientIsSmallest}
use Rattle.srp_core.specs.Problem.{count}
use Rattle.srp_core.specs.Quotient.{IsQuotient}
use Rattle.srp_core.proofs.Alike.{same_coarsest}
use Rattle.srp_core.proofs.AlikeOf.{one_problem as problems_alike}
use Rattle.srp_quotient.specs.Groups.{quotient_problem}
use Rattle.srp_quotient.specs.Laws.{QuotientIsQuotient}
use Rattle.answer_groups.specs.GroupLines.{IsGroupsOf}
use Rattle.answer_kit.specs.ClassNumbers.{IsOfClass}
use Rattle.answer_kit.specs.Outcome.{Outcome, done}
use Rattle.answer_kit.proofs.NumberedOnce.{one_numbering, one_count_of_groups}
use Rattle.answer_kit.proofs.OneClass.{some_prefix}
use Rattle.workflow_laws.specs.Commands as command
use Rattle.workflow_laws.specs.Again.{PutsEachAlone, CompressedAgain}
use Rattle.workflow_laws.specs.Words.{groups}
use Rattle.workflow_laws.proofs.Answers.{answer_of}
use Rattle.workflow_laws.proofs.Kept.{short_small, IsSmall, SmallLaws, small_network}
use Rattle.workflow_laws.proofs.Named.{names_groups}
use Rattle.workflow_laws.proofs.SomeClass.{has_class}

-- ---- a partition that puts no two routers together

range_at : (n v : ℕ) → v < n → slice_index (range_with_len 0 n) v ≡ v
range_at n v h =
    let is : get_or (range_with_len 0 n) v 0 ≡ 0 + v = get_or-range_with_len 0 n v 0 h in
    let here : get_or (range_with_len 0 n) v 0 ≡ v = omega (arith, is) in
    here

range_below : (n : ℕ) → All (λ g. g < n) (range_with_len 0 n)
range_below n k d h =
    let inside : k < n = (let long = length-range_with_len 0 n in omega (arith, long, h)) in
    let is : get_or (range_with_len 0 n) k d ≡ 0 + k = get_or-range_with_len 0 n k d inside in
    omega (arith, is, inside)

range_numbered : (n : ℕ) → IsNumbered (range_with_len 0 n) n
range_numbered n = record {
  below = range_below n;
  used = λ g h. (let itself : 0 + g ≡ g = omega arith in contains_in (range_with_len 0 n) g
      (subst (λ (v : ℕ). In (range_with_len 0 n) v) itself (in_range 0 n g h)));
  in_order = λ v g h less. (
      let long = length-range_with_len 0 n in
      let inside : v < n = omega (arith, long, h) in
      let is : slice_index (range_with_len 0 n) v ≡ v = range_at n v inside in
      let lower : g < v = omega (arith, is, less) in
      (g, lower, range_at n g (omega (arith, lower, inside))));
}

module _ (n m : ℕ) (hs : List ℕ) (total : length hs ≡ n) (single : IsDiscrete n hs) (numbered : IsNumbered hs m) where
  long : length (range_with_len 0 n) ≡ n
  long = length-range_with_len 0 n

  finer : Refines (length hs) hs (range_with_len 0 n)
  finer u v hu hv one = ap (slice_index (range_with_len 0 n)) (single u v (omega (arith, total, hu)) (omega (arith, total, hv)) one)

  coarser : Refines (length (range_with_len 0 n)) (range_with_len 0 n) hs
  coarser u v hu hv one =
      let at_u : slice_index (range_with_len 0 n) u ≡ u = range_at n u (omega (arith, long, hu)) in
      let at_v : slice_index (range_with_len 0 n) v ≡ v = range_at n v (omega (arith, long, hv)) in
      ap (slice_index hs) (sym at_u ∙ one ∙ at_v)

  is_range : hs ≡ range_with_len 0 n
  is_range = one_numbering hs (range_with_len 0 n) m n (total ∙ sym long) numbered (range_numbered n) finer coarser

  is_count : m ≡ n
  is_count = one_count_of_groups (range_with_len 0 n) m n (subst (λ (gs : List ℕ). IsNumbered gs m) is_range numbered) (range_numbered n)

-- ---- the small network

again : QuotientIsQuotient → QuotientIsSmallest → (n m : Network) (class lower : DestClass) (bytes : List ℕ) → Contains (classes_of n) class
    → IsSmall n class bytes m → ((p : _) → Contains class.prefixes p → Contains lower.prefixes p)
    → (o : Outcome) → IsGroupsOf m lower o → PutsEachAlone m lower o
again is_quotient smallest n m class lower bytes has s prefixes o x =
    let p = some_prefix n class has in
    let e = s.plan in
    let own = s.is.built.of p.0 p.1 in
    let low = s.of_plan p.0 p.1 in
    let a = x.lines in
    let R = a.problem in
    let alike = problems_alike m p.0 R (small e) (a.are.of_class p.0 (prefixes p.0 p.1)) low in
    let q : IsQuotient e.problem e.groups (small e) = subst (IsQuotient e.problem e.groups) (sym (ap (quotient_problem e.problem e.groups e.count) s.is.links))
    (is_quotient e.problem e.groups e.count own.rules s.is.coarsest.admissible s.is.numbered) in
    let c = same_coarsest R (small e) alike a.groups a.are.coarsest in
    let single = smallest e.problem (small e) e.groups a.groups own.rules low.rules s.is.coarsest q c.admissible in
    let counts : count (small e) ≡ count R = ap (λ (numbers : List ℕ). length numbers) (sym alike.numbers) in
    let single_here = subst (λ k. IsDiscrete k a.groups) counts single in
    let total = a.are.coarsest.admissible.total in
    let range = is_range (count R) a.lines.count a.groups total single_here a.lines.numbered in
    let number = is_count (count R) a.lines.count a.groups total single_here a.lines.numbered in
    record { problem = R; of_class = a.are.of_class; told = x.written ∙ ap done (a.lines.lines ∙ (λ j. group_lines R (range j) (number j))) }

pub compressed_again : SmallLaws → QuotientIsSmallest → CompressedAgain
compressed_again laws smallest contents F G N K c o x =
    let n = c.of_large.network in
    let m = c.of_small.network in
    let s = small_network laws contents F G N K c in
    let answer = answer_of (groups G K) contents (command.Groups K) refl (names_groups G K (short_small laws.well contents F G N K c)) c.small c.kept o m
    c.of_small.reads s.short x in
    again laws.is_quotient smallest n m c.of_large.class c.of_small.class c.small (has_class n N c.of_large.class c.of_large.class_is) s c.prefixes o
    (subst (λ (found : Option DestClass). IsOfClass found K (IsGroupsOf m) o) c.of_small.class_is answer)
