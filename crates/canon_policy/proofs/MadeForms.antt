-- The forms of an entry that is made.
use Rattle.std.proofs.Common.{◌≡◌, ℕ, true, false, List, filter, Option, None, refl}
use Rattle.base_kit.specs.Sets.{IsAscending}
use Rattle.base_kit.proofs.SetFacts.{ascending_filter}
use Rattle.cfg_ast.specs.declared.policy.Change.{Change}
use Rattle.cfg_ast.specs.declared.policy.CommunityList.{CommunityList}
use Rattle.dd_core.specs.Sets.{Shown, value_of}
use Rattle.policy_dd.specs.declared.edge.EdgeFn.{EdgeFn}
use Rattle.policy_dd.specs.Edge.{keys_of, by_number}
use Rattle.route_maps.specs.declared.plain.PlainEntry.{PlainEntry}
use Rattle.canon_policy.specs.declared.fixing.Fixing.{Fixing}
use Rattle.canon_policy.specs.Entries.{match_of, deletion_of, addition_of, replacement_by, denying}
use Rattle.canon_policy.specs.Made.{carried_in, deleted_in, is_not_present, lp_in, count_in, in_made, out_made}
use Rattle.canon_policy.proofs.MadeLists.{ascending_carried}

abbrev pub permitting : ℕ → Option (List CommunityList) → Option ℕ → Option Change → Option CommunityList → ℕ → PlainEntry
permitting seq lists lp change delete adds = record {
  seq = seq;
  permit = true;
  lists = lists;
  lp = lp;
  change = change;
  delete = delete;
  adds = adds;
  exact =
      false;
}

module _ (shown : Shown) (edge : EdgeFn) (seq : ℕ) (fixing : Fixing) where
  pub in_denied : value_of shown fixing.present edge.permit ≡ false → in_made shown edge seq fixing ≡ denying seq fixing
  unfolding in_made
  in_denied e = rw e refl

  pub out_denied : value_of shown fixing.present edge.permit ≡ false → out_made shown edge seq fixing ≡ denying seq fixing
  unfolding out_made
  out_denied e = rw e refl

  pub out_permits : value_of shown fixing.present edge.permit ≡ true
      → out_made shown edge seq fixing ≡ permitting seq (match_of fixing.present) None None None (count_in shown fixing.present edge.adds)
  unfolding out_made
  out_permits e = rw e refl

  pub in_adds : value_of shown fixing.present edge.permit ≡ true → value_of shown fixing.present edge.rest ≡ true
      → in_made shown edge seq fixing ≡ permitting seq (match_of fixing.present) (lp_in shown fixing.present edge.lps)
      (addition_of (filter (is_not_present fixing) (carried_in shown fixing.present edge.outs))) (deletion_of (deleted_in shown fixing edge.outs)) 0
  unfolding in_made
  in_adds e kept = rw (e, kept) refl

  pub in_replaces : value_of shown fixing.present edge.permit ≡ true → value_of shown fixing.present edge.rest ≡ false
      → in_made shown edge seq fixing ≡ permitting seq (match_of fixing.present) (lp_in shown fixing.present edge.lps)
      (replacement_by (carried_in shown fixing.present edge.outs)) None 0
  unfolding in_made
  in_replaces e replaced = rw (e, replaced) refl

  pub more_ascends : (carried : List ℕ) → carried ≡ carried_in shown fixing.present edge.outs → IsAscending (keys_of (by_number edge.outs))
      → IsAscending (filter (is_not_present fixing) carried)
  more_ascends carried e up = ascending_filter (is_not_present fixing) carried (rw e (ascending_carried shown fixing.present edge.outs up))
