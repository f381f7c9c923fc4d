-- An import gives a set of communities.
use Rattle.std.proofs.Common.{◌≡◌, ℕ, zero, suc, Bool, true, false, not, cond, List, [], ◌∷◌, Option, Some, None, subst, arith}
use Rattle.base_kit.specs.Sets.{IsAscending}
use Rattle.base_kit.proofs.SetFacts.{ascending_with_numbers, ascending_filter}
use Rattle.cfg_ast.specs.declared.policy.Change.{Change}
use Rattle.cfg_ast.specs.declared.policy.Change.TheVariants.{Clear, Replace, Append}
use Rattle.cfg_ast.specs.declared.policy.CommunityList.{CommunityList}
use Rattle.cfg_ast.specs.meaning.Lists.{community_list_permits}
use Rattle.cfg_ast.specs.meaning.Policy.{without_deleted_by, after_change}
use Rattle.route_maps.specs.declared.plain.PlainEntry.{PlainEntry}
use Rattle.route_maps.specs.declared.plain.Imported.{Imported}
use Rattle.route_maps.specs.declared.plain.Verdict.{Verdict}
use Rattle.route_maps.specs.declared.plain.Verdict.TheVariants.{Deny, Permit}
use Rattle.route_maps.specs.Maps.{entry_holds, comms_after, entry_verdict, verdict, accepted, received}
use Rattle.srp_core.specs.declared.route.Act.{Act}
use Rattle.srp_core.specs.declared.route.Act.TheVariants.{Import, Cost}
use Rattle.srp_core.specs.Acts.{import_by, ChangesToSet, MapsToSets, KeepsSets}

-- what the verdict permits is a set
abbrev GivesSet : Verdict → Type 0
GivesSet Deny = Unit {0}
GivesSet (Permit lp comms adds) = IsAscending comms

undeleted_set : (delete : Option CommunityList) (comms : List ℕ) → IsAscending comms → IsAscending (without_deleted_by delete comms)
undeleted_set None comms up = up
undeleted_set (Some list) comms up = ascending_filter (λ c. not (community_list_permits list (c ∷ []))) comms up

changed_set : (change : Option Change) (comms : List ℕ) → ChangesToSet change → IsAscending comms → IsAscending (after_change change comms)
changed_set None comms to up = up
changed_set (Some Clear) comms to up = tt
changed_set (Some (Replace by)) comms to up = to
changed_set (Some (Append more)) comms to up = ascending_with_numbers more comms up

permitted_set : (permit : Bool) (lp : Option ℕ) (comms : List ℕ) (adds : ℕ) → IsAscending comms → GivesSet (cond permit (Permit lp comms adds) Deny)
permitted_set true lp comms adds up = up
permitted_set false lp comms adds up = tt

entry_set : (entry : PlainEntry) (comms : List ℕ) → ChangesToSet entry.change → IsAscending comms → GivesSet (entry_verdict entry comms)
entry_set entry comms to up = permitted_set entry.permit entry.lp (comms_after entry comms) entry.adds
    (changed_set entry.change (without_deleted_by entry.delete comms) to (undeleted_set entry.delete comms up))

verdict_set : (entries : List PlainEntry) (comms : List ℕ) → MapsToSets entries → IsAscending comms → GivesSet (verdict entries comms)
verdict_set [] comms to up = tt
verdict_set (entry ∷ entries) comms to up =
    by (entry_holds comms entry) (entry_set entry comms (to zero entry (omega arith)) up)
    (verdict_set entries comms (λ k d h. to (suc k) d (omega (arith, h))) up)
  where
    by : (b : Bool) → GivesSet (entry_verdict entry comms) → GivesSet (verdict entries comms) →
        GivesSet (cond b (entry_verdict entry comms) (verdict entries comms))
    by true here rest = here
    by false here rest = rest

accepted_set : (adds : ℕ) (given : Verdict) (imported : Imported) → GivesSet given → accepted adds given ≡ Some imported → IsAscending imported.comms
accepted_set adds Deny imported up e = absurd (cc)
accepted_set adds (Permit lp comms more) imported up e =
    let same : comms ≡ imported.comms = (let h = e in cc) in subst IsAscending same up

sent_set : (sends : Bool) (comms : List ℕ) → IsAscending comms → IsAscending (cond sends comms [])
sent_set true comms up = up
sent_set false comms up = tt

received_set : (sends : Bool) (into : List PlainEntry) (given : Verdict) (imported : Imported) → MapsToSets into → GivesSet given →
    received sends into given ≡ Some imported → IsAscending imported.comms
received_set sends into Deny imported to up e = absurd (cc)
received_set sends into (Permit lp comms adds) imported to up e =
    let sent = cond sends comms [] in
    accepted_set adds (verdict into sent) imported (verdict_set into sent to (sent_set sends comms up)) e

-- the communities of what is imported from a set are a set
pub import_sets : (act : Act) (comms : List ℕ) (imported : Imported) → KeepsSets act → IsAscending comms → import_by act comms ≡ Some imported →
    IsAscending imported.comms
unfolding import_by KeepsSets
import_sets (Import out sends into) comms imported keeps up e =
    received_set sends into.entries (verdict out.entries comms) imported keeps.1 (verdict_set out.entries comms keeps.0 up) e
import_sets (Cost cost) comms imported keeps up e = absurd (cc)
