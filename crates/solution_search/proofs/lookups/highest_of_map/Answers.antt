use Rattle.std.proofs.Common.{◌≡◌, ◌<◌, ◌≤◌, All, List, length, get_or, take, ap, sym, ◌∙◌, subst, arith, take_all}
use Rattle.std.specs.Ordering.{nat_cmp, ord_max}
use Rattle.std.proofs.lemmas.List.Elements.{All-more}
use Rattle.route_maps.specs.declared.plain.PlainEntry.{PlainEntry}
use Rattle.solution_search.specs.Lookups.{GivesAtMost}
use Rattle.solution_search.proofs.Highest.{more, highest_max}
use Rattle.solution_search.proofs.lookups.highest_of_map.Goals as goal
use Rattle.solution_search.proofs.lookups.highest_of_map.Goals.{then-entry, else-entry}

pub loop-entry-preserved : goal.loop-entry-preserved
loop-entry-preserved c =
    let items = c.args.map.now.entries in
    let i = c.loop-entry.entry-index in
    let all = c.as_slice-entry-items.ensures in
    let inside : i < length items = subst (λ (l : List PlainEntry). i < length l) all c.loop-entry-test.true in
    let is : c.entry-item.result ≡ get_or items i c.entry-item.result = c.entry-item.is ∙ ap (λ (l : List PlainEntry). get_or l i c.entry-item.result) all in
    let grown : (c.loop-entry.highest ≤ c.if-entry.highest) × GivesAtMost c.if-entry.highest c.entry-item.result = elim c.if-entry.branch [
      | then-entry w ↦
          let m = w.max-highest.ensures in
          let u = w.unwrap_or.ensures in
          let h = w.highest-is in
          let both : (c.loop-entry.highest ≤ ord_max nat_cmp c.loop-entry.highest w.unwrap_or.result) ×
          (w.unwrap_or.result ≤ ord_max nat_cmp c.loop-entry.highest w.unwrap_or.result) =
          highest_max c.loop-entry.highest w.unwrap_or.result in
          let low : c.loop-entry.highest ≤ c.if-entry.highest = subst (λ n. c.loop-entry.highest ≤ n) (sym (h ∙ m)) both.0 in
          let high : w.unwrap_or.result ≤ c.if-entry.highest = subst (λ n. w.unwrap_or.result ≤ n) (sym (h ∙ m)) both.1 in
          (low, record { most = λ p. subst (λ n. n ≤ c.if-entry.highest) u high })
      | else-entry w ↦ let h = w.highest-is in (omega (arith, h), record { most = λ p. (let f = w.if-entry.false in absurd (cc)) })
    ] in
    All-more (GivesAtMost c.if-entry.highest) items i c.entry-item.result inside
    (λ k d less. more c.loop-entry.highest c.if-entry.highest grown.0 (get_or (take i items) k d) (c.loop-entry.invariant k d less))
    (subst (GivesAtMost c.if-entry.highest) is grown.1)

pub returns : goal.returns
returns c =
    let items = c.args.map.now.entries in
    let end : length items ≤ c.loop-entry.entry-index =
    subst (λ (l : List PlainEntry). length l ≤ c.loop-entry.entry-index) c.as_slice-entry-items.ensures c.loop-entry-test.false in
    subst (All (GivesAtMost c.loop-entry.highest)) (take_all c.loop-entry.entry-index items end) c.loop-entry.invariant
