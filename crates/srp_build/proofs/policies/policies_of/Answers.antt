use Rattle.std.proofs.Common.{ℕ, List, false, length, slice_get, ap, sym, ◌∙◌}
use Rattle.route_maps.specs.declared.plain.Plain.{Plain}
use Rattle.srp_build.proofs.LinePolicyLemmas.{have_kept}
use Rattle.srp_build.proofs.policies.policies_of.Goals as goal

pub policies_by_router-requires-clause-fixed : goal.policies_by_router-requires-clause-fixed
policies_by_router-requires-clause-fixed c = record {
  total = ap (λ (l : List ℕ). length l) c.new-table.ensures.policies ∙ ap (λ (l : List Plain). length l) (sym c.new-table.ensures.maps);
  each = λ place number plain at map_at. (let none = ap (λ (l : List ℕ). slice_get l place) c.new-table.ensures.policies in absurd cc);
}

pub returns : goal.returns
returns c =
    let routers = c.args.routers.now in
    record {
      outs = have_kept routers false c.policies_by_router.new.table.firsts.items c.policies_by_router-2.new.table.firsts.items c.in_ok-ins.ensures.kept routers
          c.in_ok-outs.outs c.in_ok-outs.ensures.policies;
      ins = c.in_ok-ins.ensures.policies;
    }
