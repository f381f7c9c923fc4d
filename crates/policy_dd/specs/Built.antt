-- What the nodes of a session are made to be.
use Rattle.std.specs.Prelude.{◌≡◌, ℕ, ◌<◌, Bool, true, false, ◌&&◌, List, length}
use Rattle.base_kit.specs.Sets.{has}
use Rattle.route_maps.specs.declared.plain.PlainEntry.{PlainEntry}
use Rattle.dd_core.specs.Sets.{Shown, Means, value_of, has_others}
use Rattle.policy_dd.specs.declared.edge.EdgeFn.{EdgeFn}
use Rattle.policy_dd.specs.declared.matches.Carried.{Carried}
use Rattle.policy_dd.specs.declared.session.Crossing.{Crossing}
use Rattle.policy_dd.specs.Edge.{case_or, AreCases, keys_of, never, by_number, carried_by_rest, is_carried}
use Rattle.policy_dd.specs.Tables.{IsTable, IsPushedUnlessPlain}
use Rattle.policy_dd.specs.Matches.{AreNodesInside, has_in, first_of, decided}
use Rattle.policy_dd.specs.MapRun.{AreMapInside, permits_it, prefers, adds_it}
use Rattle.policy_dd.specs.Import.{second_deciding, both_permit, others_kept, there_after_both}

-- the two maps on what is known of each set: the set's communities, and a test that says whether there
-- are others
pub record IsCrossed (shown : Shown) (universe : List ℕ) (others : List ℕ → Bool) (out : List PlainEntry) (sends : Bool) (into : List PlainEntry)
    (r : Crossing) : Type 0 where
  pub first_inside : AreMapInside shown r.first
  pub second_inside : AreMapInside shown r.second
  pub end_inside : AreNodesInside shown r.end
  pub first_permit : (set : List ℕ) → value_of shown set r.first.permit ≡ decided permits_it (first_of universe out (has set) (others set))
  pub first_adds : IsTable shown r.first.adds (λ k set. decided (adds_it k) (first_of universe out (has set) (others set)))
  pub second_permit : (set : List ℕ) → value_of shown set r.second.permit ≡ decided permits_it (second_deciding universe out sends into (has set) (others set))
  pub second_lps : IsTable shown r.second.lps (λ k set. decided (prefers k) (second_deciding universe out sends into (has set) (others set)))
  pub there_is : (set : List ℕ) (c : ℕ) → has_in shown r.end set c ≡ there_after_both universe out sends into (has set) (others set) c
  pub others_is : (set : List ℕ) → value_of shown set r.end.others ≡ others_kept universe out sends into (has set) (others set)

-- the keys under which a community can be carried otherwise than the rest
pub record AreOutKeys (shown : Shown) (carried : Carried) (few : Bool) (keys : List ℕ) : Type 0 where
  pub known : (c : ℕ) → has keys c ≡ true → has shown.universe c ≡ true
  pub left : (c : ℕ) → has shown.universe c ≡ true → has keys c ≡ false → (few ≡ true) × (has (keys_of carried.outs) c ≡ false)

-- a community is put last among them, unless it is carried as the rest is
pub record IsOutPushed (old new : Shown) (outs : List (ℕ × ℕ)) (permit : ℕ) (carried : Carried) (rest community : ℕ) (r : List (ℕ × ℕ)) : Type 0 where
  pub node : ℕ
  pub plain : ℕ
  pub node_is : Means new node (λ set. value_of old set permit && has_in old carried set community)
  pub plain_is : Means new plain (λ set. carried_by_rest old rest community set)
  pub pushed : IsPushedUnlessPlain new outs r community node plain

-- the communities that some accepted set carries otherwise than the rest
pub record AreOuts (old new : Shown) (permit : ℕ) (carried : Carried) (rest : ℕ) (outs : List (ℕ × ℕ)) : Type 0 where
  pub cases : AreCases new (carried_by_rest old rest) outs
  pub known : (c : ℕ) → has (keys_of outs) c ≡ true → has old.universe c ≡ true
  pub value : (set : List ℕ) (c : ℕ) → has old.universe c ≡ true → case_or new set outs c (carried_by_rest old rest c set) ≡ value_of old set permit
      && has_in old carried set c

-- the nodes of both maps put together, with one that says whether one more community would be kept
pub record IsPutTogether (old new : Shown) (seen : Crossing) (beyond : ℕ) (edge : EdgeFn) : Type 0 where
  pub permit_inside : edge.permit < length new.nodes
  pub rest_inside : edge.rest < length new.nodes
  pub permit : (set : List ℕ) → value_of new set edge.permit ≡ value_of old set seen.first.permit && value_of old set seen.second.permit
  pub rest : (set : List ℕ) → value_of new set edge.rest ≡ (value_of old set seen.first.permit && value_of old set seen.second.permit)
      && value_of old set beyond
  pub lps : (set : List ℕ) (k : ℕ) → case_or new set edge.lps k false ≡ case_or old set seen.second.lps k false && value_of old set seen.first.permit
  pub adds : (set : List ℕ) (k : ℕ) → case_or new set edge.adds k false ≡ case_or old set seen.first.adds k false && value_of old set seen.second.permit
  pub outs : (set : List ℕ) (c : ℕ) → has new.universe c ≡ true →
      is_carried new edge set c ≡ (value_of old set seen.first.permit && value_of old set seen.second.permit) && has_in old seen.end set c
  pub lps_cases : AreCases new never edge.lps
  pub adds_cases : AreCases new never edge.adds
  pub outs_cases : AreCases new (carried_by_rest new edge.rest) (by_number edge.outs)
  pub outs_known : (c : ℕ) → has (keys_of (by_number edge.outs)) c ≡ true → has new.universe c ≡ true

pub record IsBuilt (shown : Shown) (edge : EdgeFn) (out : List PlainEntry) (sends : Bool) (into : List PlainEntry) : Type 0 where
  pub permit_inside : edge.permit < length shown.nodes
  pub rest_inside : edge.rest < length shown.nodes
  pub permit : (set : List ℕ) → value_of shown set edge.permit ≡ both_permit shown.universe out sends into (has set) (has_others shown.universe set)
  pub lps : (set : List ℕ) (k : ℕ) → case_or shown set edge.lps k false ≡ decided permits_it
      (first_of shown.universe out (has set) (has_others shown.universe set))
      && decided (prefers k) (second_deciding shown.universe out sends into (has set) (has_others shown.universe set))
  pub adds : (set : List ℕ) (k : ℕ) → case_or shown set edge.adds k false ≡ decided (adds_it k)
      (first_of shown.universe out (has set) (has_others shown.universe set))
      && decided permits_it (second_deciding shown.universe out sends into (has set) (has_others shown.universe set))
  -- the run that makes `rest` has `true` in the place of `others`
  pub rest : (set : List ℕ) → value_of shown set edge.rest ≡ both_permit shown.universe out sends into (has set) (has_others shown.universe set)
      && others_kept shown.universe out sends into (has set) true
  pub outs : (set : List ℕ) (c : ℕ) → has shown.universe c ≡ true →
      is_carried shown edge set c ≡ both_permit shown.universe out sends into (has set) (has_others shown.universe set)
      && there_after_both shown.universe out sends into (has set) (has_others shown.universe set) c
  pub lps_cases : AreCases shown never edge.lps
  pub adds_cases : AreCases shown never edge.adds
  pub outs_cases : AreCases shown (carried_by_rest shown edge.rest) (by_number edge.outs)
  pub outs_known : (c : ℕ) → has (keys_of (by_number edge.outs)) c ≡ true → has shown.universe c ≡ true
