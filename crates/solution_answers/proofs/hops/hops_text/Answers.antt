use Rattle.std.proofs.Common.{◌≡◌, ◌++◌, ℕ, ◌<◌, List, length, get_or, flat_map, Option, None, sym, ap, ◌∙◌, subst, arith, take_all}
use Rattle.std.specs.Prelude.{string_bytes}
use Rattle.std.specs.List.{enumerate_from}
use Rattle.std.proofs.lemmas.List.{get_or_default}
use Rattle.srp_core.specs.declared.route.Route.{Route}
use Rattle.srp_core.specs.Stability.{label}
use Rattle.srp_questions.specs.NextHops.{AreNextHops}
use Rattle.solution_answers.specs.Forwarding.{hops_words, hops_line, hops_text}
use Rattle.solution_answers.proofs.Appended.{line_more}
use Rattle.solution_answers.proofs.hops.hops_text.Goals as goal

pub loop-router-init : goal.loop-router-init
loop-router-init c = c.new-text.ensures.bytes

pub loop-router-preserved : goal.loop-router-preserved
loop-router-preserved c =
    let names = c.args.srp.now.names in
    let labels = c.args.labels.now in
    let hops = c.as_slice-hops.result.now in
    let i = c.loop-router.router in
    let next = c.index-hops-router.result in
    let here = c.index-labels-router.result in
    let are = c.in_ok-hops.ensures in
    let total = are.total in
    let each = c.requires.total in
    let long = ap (λ (l : List (List ℕ)). length l) c.as_slice-hops.ensures in
    let test = c.loop-router-test.true in
    let inside : i < length labels = omega (arith, total, each, long, test) in
    let lab : here ≡ label labels i = c.index-labels-router.is ∙ ap (λ (l : List (Option Route)). get_or l i here) c.as_slice-labels.ensures
    ∙ get_or_default labels i here None inside in
    line_more names labels hops i next (string_bytes c.loop-router.text) (string_bytes c.push_str.new.self) (string_bytes c.put_hops.new.text)
    (string_bytes c.push_str-in-loop-router.new.self) test c.loop-router.invariant
    (c.in_ok-push_str.ensures.bytes ∙ ap (λ (w : List ℕ). string_bytes c.loop-router.text ++ w) c.router_name.ensures)
    (c.in_ok-put_hops.ensures ∙ ap (λ (o : Option Route). string_bytes c.push_str.new.self ++ hops_words names o next) lab
    ∙ ap (λ (h : List ℕ). string_bytes c.push_str.new.self ++ hops_words names (label labels i) h) c.index-hops-router.is)
    c.in_ok-push_str-2.ensures.bytes

pub returns : goal.returns
unfolding hops_text
returns c =
    let names = c.args.srp.now.names in
    let labels = c.args.labels.now in
    let hops = c.as_slice-hops.result.now in
    record {
      hops = hops;
      are = subst (AreNextHops c.args.srp.now labels) (sym c.as_slice-hops.ensures) c.in_ok-hops.ensures;
      text_is = c.loop-router.invariant ∙ ap (λ (l : List (List ℕ)). flat_map (hops_line names labels) (enumerate_from 0 l))
          (take_all c.loop-router.router hops c.loop-router-test.false);
    }
