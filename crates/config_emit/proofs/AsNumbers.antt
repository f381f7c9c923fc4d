-- The AS numbers of groups.
use Rattle.std.proofs.Common.{◌≡◌, ℕ, suc, ◌+◌, ◌<◌, Bool, true, false, cond, not, ◌||◌, ◌&&◌, List, [], ◌∷◌, map, filter, length, nat_eq, refl, ◌∙◌, ap, arith}
use Rattle.std.specs.Prelude.{slice_index}
use Rattle.std.specs.List.{enumerate_from, list_any}
use Rattle.std.proofs.lemmas.Bool.Decides.{nat_tests}
use Rattle.std.proofs.lemmas.List.{length-map}
use Rattle.base_kit.specs.Partition.{members_of}
use Rattle.abstract_net.specs.declared.qlink.QLink.{QLink}
use Rattle.srp_core.specs.Quotient.{first_number}
use Rattle.srp_quotient.specs.Groups.{touches}
use Rattle.config_emit.specs.ActLinks.{act_link}
use Rattle.config_emit.specs.BgpSteps.{first_among}
use Rattle.config_emit.specs.GroupLinks.{group_links}
use Rattle.config_emit.specs.Interfaces.{is_at, links_at}
use Rattle.config_emit.specs.Plan.{Plan}
use Rattle.config_emit.specs.Sources.{HasLinks}
use Rattle.config_emit.specs.declared.links_by_group.LinksByGroup.{LinksByGroup}
use Rattle.config_emit.proofs.Members.{members_cons}
use Rattle.config_emit.proofs.OspfRouters.{links_are}

-- ---- a group with a link

some_more : (n : ℕ) → not (nat_eq (suc n) 0) ≡ true
some_more n = grind (arith, nat_tests)

none_at : (g n : ℕ) (ls : List QLink) → not (nat_eq (length (filter (is_at g) (enumerate_from n ls))) 0) ≡ list_any (touches g) ls
none_at g n [] = refl
none_at g n (l ∷ ls) = step (none_at g (n + 1) ls) (touches g l) where
  step : not (nat_eq (length (filter (is_at g) (enumerate_from (n + 1) ls))) 0) ≡ list_any (touches g) ls → (b : Bool)
      → not (nat_eq (length (cond b ((n, l) ∷ filter (is_at g) (enumerate_from (n + 1) ls)) (filter (is_at g) (enumerate_from (n + 1) ls)))) 0) ≡ (b
      || list_any (touches g) ls)
  step later true = some_more (length (filter (is_at g) (enumerate_from (n + 1) ls)))
  step later false = later

pub some_link : (e : Plan) (g : ℕ) (index : LinksByGroup) → g < e.count → HasLinks e index →
    not (nat_eq (length (group_links index g)) 0) ≡ list_any (touches g) e.links
unfolding links_at
some_link e g index inside has =
    ap (λ n. not (nat_eq n 0)) (ap length (links_are e g index inside has) ∙ length-map (links_at e g) (act_link e.problem.protocol e.problem.edges e.links))
    ∙ none_at g 0 e.links

-- ---- the first number

shifted : (n : ℕ) (ns us : List ℕ) → first_among (n ∷ ns) (map suc us) ≡ first_among ns us
shifted n ns [] = refl
shifted n ns (u ∷ us) = ap (λ k. cond (nat_eq (slice_index ns u) 0) k (slice_index ns u)) (shifted n ns us)

all_zero : (us : List ℕ) → first_among [] us ≡ 0
all_zero [] = refl
all_zero (u ∷ us) = all_zero us

pub first_is_among : (numbers groups : List ℕ) (g : ℕ) → first_among numbers (members_of groups g) ≡ first_number numbers groups g
unfolding first_number
first_is_among [] groups g = all_zero (members_of groups g)
first_is_among (n ∷ ns) [] g = refl
first_is_among (n ∷ ns) (x ∷ xs) g = ap (first_among (n ∷ ns)) (members_cons x xs g)
    ∙ step (shifted n ns (members_of xs g) ∙ first_is_among ns xs g) (nat_eq x g) (nat_eq n 0) refl where
      step : first_among (n ∷ ns) (map suc (members_of xs g)) ≡ first_number ns xs g → (b c : Bool) → nat_eq n 0 ≡ c
          → first_among (n ∷ ns) (cond b (0 ∷ map suc (members_of xs g)) (map suc (members_of xs g))) ≡ cond (b && not c) n (first_number ns xs g)
      step later false c e = later
      step later true true e = ap (λ d. cond d (first_among (n ∷ ns) (map suc (members_of xs g))) n) e ∙ later
      step later true false e = ap (λ d. cond d (first_among (n ∷ ns) (map suc (members_of xs g))) n) e
