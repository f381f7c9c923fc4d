-- Where the links of a router begin.
use Rattle.std.proofs.Common.{◌≡◌, ℕ, ◌+◌, ◌-◌, ◌<◌, ◌≤◌, ◌&&◌, cond, List, [], ◌∷◌, take, drop, refl, sym, ap, ◌∙◌, arith}
use Rattle.std.specs.Prelude.{count_by, nat_eq}
use Rattle.std.specs.List.{AllByRecursion, slice_range}
use Rattle.std.proofs.Math.Seq.{take-add}
use Rattle.std.proofs.lemmas.Bool.{ne_eqb}
use Rattle.std.proofs.lemmas.List.Sums.{sum_by-cons, sum_by-append}
use Rattle.cfg_ast.specs.declared.topology.Link.{Link}
use Rattle.ask_classes.specs.Failing.{has_same_ends, link_rank}

abbrev pub AreBelow : ℕ → List Link → Type 0
AreBelow highest links = AllByRecursion (λ (other : Link). other.low < highest) links

-- no link below is between the routers
none_between : (link : Link) (highest : ℕ) (links : List Link) → highest ≤ link.low → AreBelow highest links → count_by (has_same_ends link) links ≡ 0
none_between link highest [] above below = refl
none_between link highest (other ∷ links) above below =
    let less = below.0 in
    let sum = sum_by-cons (λ (o : Link). cond (has_same_ends link o) 1 0) other links in
    let this : cond {A = ℕ} (has_same_ends link other) 1 0 ≡ 0 =
    ap (λ b. cond {A = ℕ} (b && nat_eq link.high other.high) 1 0) (ne_eqb link.low other.low (λ same. omega (arith, less, above, same))) in
    let rest = none_between link highest links above below.1 in
    omega (arith, sum, this, rest)

-- those before a place are not counted where there are none
rank_after : (links : List Link) (place first : ℕ) (link : Link) → first ≤ place + 1 → count_by (has_same_ends link) (take first links) ≡ 0 →
    count_by (has_same_ends link) (slice_range links first (place + 1)) ≡ link_rank links place link
rank_after links place first link inside none =
    let sum : first + (place + 1 - first) ≡ place + 1 = omega (arith, inside) in
    let total : link_rank links place link ≡ count_by (has_same_ends link) (take first links) + count_by (has_same_ends link)
    (slice_range links first (place + 1)) =
    ap (λ (k : ℕ). count_by (has_same_ends link) (take k links)) (sym sum) ∙ ap (count_by (has_same_ends link)) (take-add first (place + 1 - first) links)
    ∙ sum_by-append (λ (o : Link). cond (has_same_ends link o) 1 0) (take first links) (take (place + 1 - first) (drop first links)) in
    omega (arith, total, none)

pub rank_of_run : (links : List Link) (place first highest : ℕ) (link : Link) → first ≤ place + 1 → highest ≤ link.low → AreBelow highest (take first links) →
    count_by (has_same_ends link) (slice_range links first (place + 1)) ≡ link_rank links place link
rank_of_run links place first highest link inside above below =
    rank_after links place first link inside (none_between link highest (take first links) above below)
