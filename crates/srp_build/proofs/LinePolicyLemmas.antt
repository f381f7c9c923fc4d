-- Numbers of the policies of lines, one line and one router after another.
use Rattle.std.proofs.Common.{◌≡◌, ℕ, ◌+◌, ◌<◌, Bool, true, false, List, [], ◌∷◌, ◌++◌, inl, inr, length, take, get_or, slice_get, Some, None, refl, sym, ◌∙◌, ap, subst, arith}
use Rattle.base_kit.specs.Prefixes.{Prefix}
use Rattle.cfg_ast.specs.declared.bgp.Neighbor.{Neighbor}
use Rattle.cfg_ast.specs.declared.network.Router.{Router}
use Rattle.cfg_ast.specs.meaning.Policy.{name_of}
use Rattle.cfg_ast.specs.meaning.Topology.{neighbors_of}
use Rattle.route_maps.specs.declared.plain.Plain.{Plain}
use Rattle.specialize.specs.OnePrefix.{plain_of}
use Rattle.srp_build.specs.declared.policies.PolicyTable.{PolicyTable}
use Rattle.srp_build.specs.declared.lines.LinePlace.{LinePlace}
use Rattle.srp_build.specs.LinePolicies.{IsSameForEachPrefix, map_of_place, IsPolicyOf, ArePoliciesOf, HasPolicies, HavePolicies, IsAlwaysAt, IsAlwaysOf, AreFixedPolicies, IsLineAt, PoliciesKept, IsNewPolicy, IsFixedPolicy, IsPolicyNumber, IsSeenOrNumbered}
use Rattle.srp_build.specs.Lines.{map_named, list_named, map_of_line}
use Rattle.srp_build.specs.Plains.{SayTheSame, IsNumberOf, IsGrownBy, IsAsEarlier}
use Rattle.srp_build.proofs.FirstUse.{get_front, get_last, front_or_last, length_last, take_more, within_get}
use Rattle.srp_build.proofs.ImportMaps.{map_at_line, some_within}

-- lines that name the same map and list mean the same
same_names : (p : Prefix) (router : Router) (inbound : Bool) (other line : Neighbor) → name_of (map_named inbound other) ≡ name_of (map_named inbound line) →
    name_of (list_named inbound other) ≡ name_of (list_named inbound line) → map_of_line p router inbound other ≡ map_of_line p router inbound line
same_names p router true other line maps lists = λ j. plain_of router (maps j) (lists j) p true
same_names p router false other line maps lists = λ j. plain_of router (maps j) (lists j) p false

earlier_policy : (routers : List Router) (router : Router) (inbound : Bool) (policies : List LinePlace) (lines : List Neighbor) (numbers : List ℕ)
    (line : Neighbor)
    (number : ℕ) → ArePoliciesOf routers router inbound policies lines numbers → IsAsEarlier inbound lines numbers line number →
    IsPolicyOf routers policies router inbound line number
earlier_policy routers router inbound policies lines numbers line number are as_earlier =
    let there = are as_earlier.place number as_earlier.numbered in
    let one : there.line ≡ as_earlier.other = (let both = sym there.at ∙ as_earlier.at in cc) in
    record {
      first = there.is.first;
      at = there.is.at;
      same = λ p. subst (SayTheSame (map_of_place p routers there.is.first))
          (ap (map_of_line p router inbound) one ∙ same_names p router inbound as_earlier.other line as_earlier.map as_earlier.list) (there.is.same p);
    }

-- ---- a policy that comes last

same_says : (a b : Plain) → a ≡ b → SayTheSame a b
same_says a b same = subst (SayTheSame a) same (record { verdicts = λ comms. refl })

pub says_too : (a b c : Plain) → SayTheSame a b → SayTheSame b c → SayTheSame a c
says_too a b c first second = record { verdicts = λ comms. first.verdicts comms ∙ second.verdicts comms }

own_map : (routers : List Router) (first : LinePlace) (router : Router) (line : Neighbor) → IsLineAt routers first router line → (p : Prefix) →
    map_of_place p routers first ≡ map_of_line p router first.inbound line
own_map routers first router line there p = map_at_line p routers first.inbound first.router first.item router line there.at there.line_at

always_kept : (routers : List Router) (old new : List LinePlace) (number : ℕ) (plain : Plain) → PoliciesKept old new → IsAlwaysOf routers old number plain →
    IsAlwaysOf routers new number plain
always_kept routers old new number plain kept of = record { first = of.first; at = kept number of.first of.at; same = of.same }

kept_last : (old new : List LinePlace) (first : LinePlace) → new ≡ old ++ first ∷ [] → PoliciesKept old new
kept_last old new first last k other at = ap (λ (l : List LinePlace). slice_get l k) last ∙ get_front old (first ∷ []) k other at

last_at : (old new : List LinePlace) (first : LinePlace) (number : ℕ) → new ≡ old ++ first ∷ [] → number ≡ length old → slice_get new number ≡ Some first
last_at old new first number last next = (λ j. slice_get (last j) (next j)) ∙ get_last old first

pub new_policy : (old new : PolicyTable) (first : LinePlace) (router : Router) (line : Neighbor) (number : ℕ) → IsNewPolicy old new first number →
    IsPolicyNumber old new first router line number
new_policy old new first router line number of =
    let kept = kept_last old.firsts.items new.firsts.items first of.last in
    record {
      kept = kept;
      fixed = λ routers there are. record {
        total = (let a = ap (λ (l : List ℕ). length l) of.policies in let b = ap (λ (l : List Plain). length l) of.maps in let c = are.total in omega arith);
        each = λ place k plain k_at at. always_kept routers old.firsts.items new.firsts.items k plain kept
            (are.each place k plain (ap (λ (l : List ℕ). slice_get l place) (sym of.policies) ∙ k_at)
            (ap (λ (l : List Plain). slice_get l place) (sym of.maps) ∙ at));
      };
      is = λ routers there are. record {
        first = first;
        at = last_at old.firsts.items new.firsts.items first number of.last of.next;
        same = λ p. same_says (map_of_place p routers first) (map_of_line p router first.inbound line) (own_map routers first router line there p);
      };
    }

-- a policy that has the line's map for every prefix
pub fixed_number : (old new : PolicyTable) (first : LinePlace) (router : Router) (line : Neighbor) (any : Prefix) (plain : Plain) (number : ℕ) →
    IsSameForEachPrefix router first.inbound line → plain ≡ map_of_line any router first.inbound line → IsFixedPolicy old new first plain number →
    IsPolicyNumber old new first router line number
fixed_number old new first router line any plain number is_fixed plain_is of = record {
  kept = of.kept;
  fixed = λ routers there are. of.fixed routers (always routers there) are;
  is = λ routers there are.
      let has = of.is routers (always routers there) are in
      record { first = has.first; at = has.at; same = λ p. subst (SayTheSame (map_of_place p routers has.first)) (plain_is ∙ is_fixed any p) (has.same p) };
}
  where
    always : (routers : List Router) → IsLineAt routers first router line → IsAlwaysAt routers first plain
    always routers there p = own_map routers first router line there p ∙ is_fixed p any ∙ sym plain_is

-- ---- the policy of a map that is the same for every prefix

-- the map was there
pub found_fixed : (old new : PolicyTable) (first : LinePlace) (plain : Plain) (place number : ℕ) → new.firsts.items ≡ old.firsts.items →
    new.policies.items ≡ old.policies.items → IsNumberOf new.fixed.maps.items place plain → IsGrownBy old.fixed.maps.items new.fixed.maps.items plain place →
    slice_get old.policies.items place ≡ Some number → IsFixedPolicy old new first plain number
found_fixed old new first plain place number firsts policies is grown at = record {
  kept = λ k other k_at. ap (λ (l : List LinePlace). slice_get l k) firsts ∙ k_at;
  fixed = λ routers always are. record {
    total = (let a = ap (λ (l : List ℕ). length l) policies in let b = ap (λ (l : List Plain). length l) (unchanged routers are grown) in let c = are.total in
        omega arith);
    each = λ other k m k_at m_at. subst (λ (l : List LinePlace). IsAlwaysOf routers l k m) (sym firsts)
        (are.each other k m (ap (λ (l : List ℕ). slice_get l other) (sym policies) ∙ k_at)
        (ap (λ (l : List Plain). slice_get l other) (sym (unchanged routers are grown)) ∙ m_at));
  };
  is = λ routers always are.
      let has = are.each place number is.other at (ap (λ (l : List Plain). slice_get l place) (sym (unchanged routers are grown)) ∙ is.at) in
      record {
        first = has.first;
        at = ap (λ (l : List LinePlace). slice_get l number) firsts ∙ has.at;
        same =
            λ p. says_too (map_of_place p routers has.first) is.other plain (has.same p) is.same;
      };
}
  where
    unchanged : (routers : List Router) → AreFixedPolicies routers old → IsGrownBy old.fixed.maps.items new.fixed.maps.items plain place →
        new.fixed.maps.items ≡ old.fixed.maps.items
    unchanged routers are (inl same) = same
    unchanged routers are (inr last) = absurd (let a = within_get old.policies.items place number at in let b = are.total in let c = last.1 in omega arith)

-- the map came last, with a new policy
pub came_fixed : (old new : PolicyTable) (more : List Plain) (first : LinePlace) (plain : Plain) (place number : ℕ) → new.firsts.items ≡ old.firsts.items
    ++ first ∷ [] → number ≡ length old.firsts.items → new.policies.items ≡ old.policies.items ++ number ∷ [] → new.fixed.maps.items ≡ more →
    IsNumberOf more place plain → IsGrownBy old.fixed.maps.items more plain place
    → slice_get old.policies.items place ≡ None → IsFixedPolicy old new first plain number
came_fixed old new more first plain place number firsts next policies maps is grown missing = record {
  kept = kept;
  fixed = λ routers always are.
      let put = maps ∙ put_last routers are grown in
      record {
        total = (let a = ap (λ (l : List ℕ). length l) policies in let b = length_last old.policies.items number in let c =
            ap (λ (l : List Plain). length l) put in
            let d = length_last old.fixed.maps.items plain in let e = are.total in omega arith);
        each = λ other k m k_at m_at. elim (front_or_last old.policies.items number other k (ap (λ (l : List ℕ). slice_get l other) (sym policies) ∙ k_at)) [
          | inl before ↦ elim (front_or_last old.fixed.maps.items plain other m (ap (λ (l : List Plain). slice_get l other) (sym put) ∙ m_at)) [
            | inl there ↦ always_kept routers old.firsts.items new.firsts.items k m kept (are.each other k m before there)
            | inr last ↦ absurd (let a = within_get old.policies.items other k before in let b = are.total in let c = last.0 in omega arith)
          ]
          | inr here ↦ elim (front_or_last old.fixed.maps.items plain other m (ap (λ (l : List Plain). slice_get l other) (sym put) ∙ m_at)) [
            | inl there ↦ absurd (let a = within_get old.fixed.maps.items other m there in let b = are.total in let c = here.0 in omega arith)
            | inr last ↦ subst (λ (n : ℕ). IsAlwaysOf routers new.firsts.items n m) here.1
                (subst (IsAlwaysOf routers new.firsts.items number) last.1 (own routers always))
          ]
        ];
      };
  is = λ routers always are. own routers always;
}
  where
    kept : PoliciesKept old.firsts.items new.firsts.items
    kept = kept_last old.firsts.items new.firsts.items first firsts

    own : (routers : List Router) → IsAlwaysAt routers first plain → IsAlwaysOf routers new.firsts.items number plain
    own routers always = record {
      first = first;
      at = last_at old.firsts.items new.firsts.items first number firsts next;
      same =
          λ p. same_says (map_of_place p routers first) plain (always p);
    }

    put_last : (routers : List Router) → AreFixedPolicies routers old → IsGrownBy old.fixed.maps.items more plain place
        → more ≡ old.fixed.maps.items ++ plain ∷ []
    put_last routers are (inl same) = absurd
        (some_within old.policies.items place (let a = within_get more place is.other is.at in let b = ap (λ (l : List Plain). length l) same in let c =
        are.total in omega arith) missing)
    put_last routers are (inr last) = last.0

-- ---- policies that come keep the others

pub policy_kept : (routers : List Router) (router : Router) (inbound : Bool) (line : Neighbor) (number : ℕ) (old new : List LinePlace) → PoliciesKept old new →
    IsPolicyOf routers old router inbound line number → IsPolicyOf routers new router inbound line number
policy_kept routers router inbound line number old new kept of = record { first = of.first; at = kept number of.first of.at; same = of.same }

pub policies_kept : (routers : List Router) (router : Router) (inbound : Bool) (old new : List LinePlace) (lines : List Neighbor) (numbers : List ℕ) →
    PoliciesKept old new → ArePoliciesOf routers router inbound old lines numbers → ArePoliciesOf routers router inbound new lines numbers
policies_kept routers router inbound old new lines numbers kept are place number at = let there = are place number at in
    record { line = there.line; at = there.at; is = policy_kept routers router inbound there.line number old new kept there.is }

-- one more line
policies_next : (routers : List Router) (router : Router) (inbound : Bool) (policies : List LinePlace) (lines : List Neighbor) (numbers : List ℕ)
    (line : Neighbor)
    (number : ℕ) → ArePoliciesOf routers router inbound policies lines numbers → slice_get lines (length numbers) ≡ Some line →
    IsPolicyOf routers policies router inbound line number → ArePoliciesOf routers router inbound policies lines (numbers ++ number ∷ [])
policies_next routers router inbound policies lines numbers line number are there is place other at = elim (front_or_last numbers number place other at) [
  | inl before ↦ are place other before
  | inr last ↦ record {
    line = line;
    at = ap (slice_get lines) last.0 ∙ there;
    is =
        subst (λ (k : ℕ). IsPolicyOf routers policies router inbound line k) last.1 is;
  }
]

-- what one more line of a router brings
pub record LineSteps (routers : List Router) (old new : PolicyTable) (router : Router) (inbound : Bool) (numbers : List ℕ) (number : ℕ) : Type 0 where
  pub kept : PoliciesKept old.firsts.items new.firsts.items
  pub fixed : AreFixedPolicies routers new
  pub each : ArePoliciesOf routers router inbound new.firsts.items (neighbors_of router) (numbers ++ number ∷ [])

pub line_step : (routers : List Router) (old new : PolicyTable) (place : LinePlace) (router : Router) (numbers : List ℕ) (line : Neighbor) (number : ℕ) →
    IsLineAt routers place router line → slice_get (neighbors_of router) (length numbers) ≡ Some line → AreFixedPolicies routers old →
    ArePoliciesOf routers router place.inbound old.firsts.items (neighbors_of router) numbers
    → IsSeenOrNumbered old new place router numbers line number → LineSteps routers old new router place.inbound numbers number
line_step routers old new place router numbers line number there at fixed are (inl (same, as_earlier)) =
    subst (λ (k : PolicyTable). LineSteps routers old k router place.inbound numbers number) (sym same) (record {
      kept = λ k first is. is;
      fixed = fixed;
      each = policies_next routers router place.inbound old.firsts.items (neighbors_of router) numbers line number are at
          (earlier_policy routers router place.inbound old.firsts.items (neighbors_of router) numbers line number are as_earlier);
    })
line_step routers old new place router numbers line number there at fixed are (inr came) = record {
  kept = came.kept;
  fixed = came.fixed routers there fixed;
  each = policies_next routers router place.inbound new.firsts.items (neighbors_of router) numbers line number
      (policies_kept routers router place.inbound old.firsts.items new.firsts.items (neighbors_of router) numbers came.kept are) at
      (came.is routers there fixed);
}

-- ---- one more router

pub have_kept : (all : List Router) (inbound : Bool) (old new : List LinePlace) → PoliciesKept old new → (routers : List Router) (table : List (List ℕ)) →
    HavePolicies all inbound old routers table → HavePolicies all inbound new routers table
have_kept all inbound old new kept [] [] have = tt
have_kept all inbound old new kept [] (numbers ∷ table) have = have
have_kept all inbound old new kept (router ∷ routers) [] have = have
have_kept all inbound old new kept (router ∷ routers) (numbers ∷ table) have = (
  record { total = have.0.total; each = policies_kept all router inbound old new (neighbors_of router) numbers kept have.0.each },
  have_kept all inbound old new kept routers table have.1,
)

have_last : (all : List Router) (inbound : Bool) (policies : List LinePlace) (router : Router) (numbers : List ℕ)
    → HasPolicies all router inbound policies numbers →
    (routers : List Router) (table : List (List ℕ)) → HavePolicies all inbound policies routers table →
    HavePolicies all inbound policies (routers ++ router ∷ []) (table ++ numbers ∷ [])
have_last all inbound policies router numbers has [] [] have = (has, tt)
have_last all inbound policies router numbers has [] (x ∷ table) have = absurd have
have_last all inbound policies router numbers has (r ∷ routers) [] have = absurd have
have_last all inbound policies router numbers has (r ∷ routers) (x ∷ table) have =
    (have.0, have_last all inbound policies router numbers has routers table have.1)

-- the next router of a list, whose numbers come last
pub have_next : (all : List Router) (inbound : Bool) (old new : List LinePlace) (routers : List Router) (i : ℕ) (router : Router) (table : List (List ℕ))
    (numbers : List ℕ) → i < length routers → router ≡ get_or routers i router → PoliciesKept old new → HavePolicies all inbound old (take i routers) table →
    HasPolicies all router inbound new numbers → HavePolicies all inbound new (take (i + 1) routers) (table ++ numbers ∷ [])
have_next all inbound old new routers i router table numbers inside at kept have has =
    subst (λ (l : List Router). HavePolicies all inbound new l (table ++ numbers ∷ [])) (sym (take_more routers i router router inside (sym at)))
    (have_last all inbound new router numbers has (take i routers) table (have_kept all inbound old new kept (take i routers) table have))
