use Rattle.std.proofs.Common.{◌≡◌, ◌≢◌, ℕ, ◌<◌, true, false}
use Rattle.std.specs.Prelude.{slice_index_or}
use Rattle.spare_links.specs.declared.ways.Ways.TheVariants.{OneLink, Nowhere}
use Rattle.spare_links.proofs.spare.marks_of.Given as goal

-- a link that is marked is the only way of none of the first routers, and not the only link of ties
abbrev pub invariant-loop-way : goal.invariant-loop-way
invariant-loop-way l = record {
  ways : (link : ℕ) → slice_index_or l.marks.items link false ≡ true → (u : ℕ) → u < l.way-index → slice_index_or l.ways u Nowhere ≢ OneLink link;
  ties : (link : ℕ) → slice_index_or l.marks.items link false ≡ true → l.fn.ties ≢ OneLink link;
}
