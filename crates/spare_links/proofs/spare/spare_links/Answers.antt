use Rattle.std.proofs.Common.{◌≡◌, ◌≢◌, ◌∙◌, ℕ, ◌<◌, Bool, true, false, List, length, sym, ap, subst}
use Rattle.std.specs.Prelude.{slice_index_or}
use Rattle.std.specs.List.{list_any}
use Rattle.spare_links.specs.declared.ways.Ways.{Ways}
use Rattle.spare_links.specs.declared.ways.Ways.TheVariants.{OneLink, Nowhere}
use Rattle.spare_links.proofs.Spares.{none_lone, are_spare}
use Rattle.spare_links.proofs.spare.spare_links.Goals as goal

pub returns : goal.returns
returns c =
    let problem = c.args.srp.now in
    let labels = c.args.labels.now in
    let marks = c.in_ok-marks.marks.items in
    let found = c.in_ok-found.found in
    let none = none_lone problem (ap (list_any (λ (mark : Bool). mark)) (sym c.lone.ensures) ∙ sym c.has_mark.ensures ∙ c.if-has_mark.false) in
    are_spare problem c.count-known.ensures.rules none labels c.requires found.ways.items c.in_ok-found.ensures.ways found.ties found.tied
    c.in_ok-found.ensures.ties marks
    (subst (λ (ways : List Ways). (link : ℕ) → slice_index_or marks link false ≡ true → (u : ℕ) → u < length ways →
    slice_index_or ways u Nowhere ≢ OneLink link)
    c.deref.ensures.value c.in_ok-marks.ensures.ways) c.in_ok-marks.ensures.ties
