-- The nodes of both maps put together.
use Rattle.std.proofs.Common.{◌≡◌, ℕ, ◌+◌, ◌<◌, Bool, true, false, ◌&&◌, ◌||◌, List, [], ◌∷◌, ◌++◌, length, get_or, take, refl, sym, ◌∙◌, ap, subst}
use Rattle.std.specs.Prelude.{if◌then◌else◌}
use Rattle.std.proofs.lemmas.List.{take_more}
use Rattle.base_kit.specs.declared.ids.Community.{Community}
use Rattle.base_kit.specs.Sets.{has, IsAscending}
use Rattle.dd_core.specs.Sets.{Shown, value_of, Means, Grows}
use Rattle.dd_core.proofs.ShownLemmas.{value_of_kept, grows_inside, grows_trans}
use Rattle.policy_dd.specs.declared.matches.Carried.{Carried}
use Rattle.policy_dd.specs.declared.session.Crossing.{Crossing}
use Rattle.policy_dd.specs.Edge.{case_or, keys_of, AllCases, AreCases, never, by_number, carried_by_rest}
use Rattle.policy_dd.specs.Tables.{AllInside, IsPushedUnlessPlain, IsSelection}
use Rattle.policy_dd.specs.Matches.{AreNodesInside, has_in}
use Rattle.policy_dd.specs.MapRun.{AreMapInside}
use Rattle.policy_dd.specs.Built.{AreOutKeys, IsOutPushed, AreOuts, IsPutTogether}
use Rattle.policy_dd.proofs.CaseLemmas.{case_absent}
use Rattle.policy_dd.proofs.KeptLemmas.{case_or_kept, cases_kept}
use Rattle.policy_dd.proofs.MatchLemmas.{has_in_kept}
use Rattle.policy_dd.proofs.TableLemmas.{case_kept, keys-append}
use Rattle.policy_dd.proofs.SelectionLemmas.{case_of_index, selection_more, selection_cases}

pub keys_more : (cases : List (ℕ × ℕ)) (i : ℕ) → i < length cases → keys_of (take (i + 1) cases) ≡ keys_of (take i cases) ++ (get_or cases i (0, 0)).0 ∷ []
keys_more cases i inside = ap keys_of (take_more cases i (0, 0) inside) ∙ keys-append (take i cases) (get_or cases i (0, 0) ∷ [])

-- a case where the node is true too
pub limit_node : (s0 mid new : Shown) (cases : List (ℕ × ℕ)) (i key there with node : ℕ) → Grows s0 mid → IsAscending (keys_of cases) → i < length cases →
    there < length s0.nodes → with < length s0.nodes → key ≡ (get_or cases i (0, 0)).0 → there ≡ (get_or cases i (0, 0)).1 →
    Means new node (λ set. value_of mid set there && value_of mid set with) → Means new node (λ set. case_or s0 set cases key false && value_of s0 set with)
limit_node s0 mid new cases i key there with node g up inside ti wi ek et is = record {
  inside = is.inside;
  value = λ set.
      is.value set
      ∙ ap (λ b. b && value_of mid set with) (value_of_kept s0 mid set there g ti ∙ ap (λ n. value_of s0 set n) et
      ∙ sym (case_of_index s0 set cases i false up inside) ∙ ap (λ n. case_or s0 set cases n false) (sym ek))
      ∙ ap (λ b. case_or s0 set cases key false && b) (value_of_kept s0 mid set with g wi);
}

-- what is limited, seen from an earlier store and in a later one
limited_key : (shown : Shown) (set : List ℕ) (cases : List (ℕ × ℕ)) (with k : ℕ) → (b : Bool) → has (keys_of cases) k ≡ b →
    (if b then case_or shown set cases k false && value_of shown set with else false) ≡ case_or shown set cases k false && value_of shown set with
limited_key shown set cases with k true e = refl
limited_key shown set cases with k false e = ap (λ b. b && value_of shown set with) (sym (case_absent shown set cases k false e))

module _ (s0 s1 s2 s3 : Shown) (cases limited : List (ℕ × ℕ)) (with : ℕ) (g : Grows s0 s1) (g' : Grows s2 s3) (inside : AllInside s0 cases)
    (wi : with < length s0.nodes) (selection : IsSelection s2 never (λ k set. case_or s1 set cases k false && value_of s1 set with) (keys_of cases) limited)
  where
    pub limited_value : (set : List ℕ) (k : ℕ) → case_or s3 set limited k false ≡ case_or s0 set cases k false && value_of s0 set with
    limited_value set k =
        case_or_kept s2 s3 g' never limited selection.each set k false
        ∙ selection.value set k
        ∙ limited_key s1 set cases with k (has (keys_of cases) k) refl
        ∙ ap (λ b. b && value_of s1 set with) (case_kept s0 s1 set cases k false false g inside refl)
        ∙ ap (λ b. case_or s0 set cases k false && b) (value_of_kept s0 s1 set with g wi)

    pub limited_cases : AreCases s3 never limited
    limited_cases = cases_kept s2 s3 g' never never (λ key set. refl) limited
        (selection_cases s2 never (λ k set. case_or s1 set cases k false && value_of s1 set with) (keys_of cases) limited selection)

-- the keys to be looked at
pub few_keys : (shown : Shown) (carried : Carried) (few : Bool) (keys : List ℕ) → AreNodesInside shown carried → few ≡ true →
    ((k : ℕ) → has keys k ≡ has [] k || has (keys_of carried.outs) k) → AreOutKeys shown carried few keys
few_keys shown carried few keys inside on keys_are = record {
  known = λ c there. inside.known c (sym (keys_are c) ∙ there);
  left = λ c known none. (on, sym (keys_are c) ∙ none);
}

pub all_keys : (shown : Shown) (carried : Carried) (few : Bool) (keys : List ℕ) → keys ≡ shown.universe → AreOutKeys shown carried few keys
all_keys shown carried few keys e = record {
  known = λ c there. sym (ap (λ (l : List ℕ). has l c) e) ∙ there;
  left = λ c known none. let there = ap (λ (l : List ℕ). has l c) e in absurd cc;
}

pub out_pushed : (s0 s1 s2 s3 s4 : Shown) (outs r : List (ℕ × ℕ)) (permit : ℕ) (carried : Carried) (rest community there plain here node : ℕ) → Grows s0 s1 →
    Grows s1 s2 → Grows s2 s3 → Grows s3 s4 → permit < length s0.nodes → AreNodesInside s0 carried → rest < length s0.nodes →
    Means s1 there (λ set. has set community) → Means s2 plain (λ set. value_of s1 set there && value_of s1 set rest) →
    Means s3 here (λ set. has_in s2 carried set community) → Means s4 node (λ set. value_of s3 set permit && value_of s3 set here) →
    IsPushedUnlessPlain s4 outs r community node plain → IsOutPushed s0 s4 outs permit carried rest community r
out_pushed s0 s1 s2 s3 s4 outs r permit carried rest community there plain here node g1 g2 g3 g4 pi inside ri of_there of_plain of_here of_node is =
    let g02 = grows_trans s0 s1 s2 g1 g2 in
    let g03 = grows_trans s0 s2 s3 g02 g3 in
    let g24 = grows_trans s2 s3 s4 g3 g4 in
    record {
      node = node;
      plain = plain;
      node_is = record {
        inside = of_node.inside;
        value = λ set.
            of_node.value set
            ∙ ap (λ b. b && value_of s3 set here) (value_of_kept s0 s3 set permit g03 pi)
            ∙ ap (λ b. value_of s0 set permit && b) (of_here.value set ∙ has_in_kept s0 s2 carried set community g02 inside);
      };
      plain_is = record {
        inside = grows_inside s2 s4 plain g24 of_plain.inside;
        value = λ set.
            value_of_kept s2 s4 set plain g24 of_plain.inside ∙ of_plain.value set
            ∙ ap (λ b. b && value_of s1 set rest) (of_there.value set)
            ∙ ap (λ b. has set community && b) (value_of_kept s0 s1 set rest g1 ri);
      };
      pushed = is;
    }

-- one key more
pub out_step : (s0 mid new : Shown) (outs r : List (ℕ × ℕ)) (permit : ℕ) (carried : Carried) (rest key : ℕ) (keys : List ℕ) → Grows s0 mid → Grows mid new →
    permit < length s0.nodes → AreNodesInside s0 carried → rest < length s0.nodes →
    IsSelection mid (carried_by_rest s0 rest) (λ k set. value_of s0 set permit && has_in s0 carried set k) keys outs → ((k : ℕ) → has keys k ≡ true → k < key) →
    IsOutPushed mid new outs permit carried rest key r →
    IsSelection new (carried_by_rest s0 rest) (λ k set. value_of s0 set permit && has_in s0 carried set k) (keys ++ key ∷ []) r
out_step s0 mid new outs r permit carried rest key keys g g' pi inside ri selection below is =
    selection_more mid new (carried_by_rest s0 rest) (λ k set. value_of s0 set permit && has_in s0 carried set k) keys outs key is.node is.plain g' selection
    below
    (record {
      inside = is.node_is.inside;
      value = λ set.
          is.node_is.value set
          ∙ ap (λ b. b && has_in mid carried set key) (value_of_kept s0 mid set permit g pi)
          ∙ ap (λ b. value_of s0 set permit && b) (has_in_kept s0 mid carried set key g inside);
    })
    (record { inside = is.plain_is.inside; value = λ set. is.plain_is.value set ∙ ap (λ b. has set key && b) (value_of_kept s0 mid set rest g ri) })
    r is.pushed

and_moved : (p h e : Bool) → p && (h && e) ≡ h && (p && e)
and_moved true h e = refl
and_moved false true e = refl
and_moved false false e = refl

pub outs_are : (s0 s1 new : Shown) (permit : ℕ) (carried : Carried) (rest kept_node : ℕ) (few : Bool) (keys : List ℕ) (outs : List (ℕ × ℕ)) → Grows s0 s1 →
    permit < length s0.nodes → AreNodesInside s0 carried → rest < length s0.nodes →
    Means s1 kept_node (λ set. value_of s0 set permit && value_of s0 set carried.rest) →
    (few ≡ true → (set : List ℕ) → value_of s1 set kept_node ≡ value_of s1 set rest) → AreOutKeys s1 carried few keys →
    IsSelection new (carried_by_rest s0 rest) (λ k set. value_of s0 set permit && has_in s0 carried set k) keys outs → AreOuts s0 new permit carried rest outs
outs_are s0 s1 new permit carried rest kept_node few keys outs g pi inside ri of_kept few_is keys_are selection = record {
  cases = selection_cases new (carried_by_rest s0 rest) (λ k set. value_of s0 set permit && has_in s0 carried set k) keys outs selection;
  known = λ c there. sym (ap (λ (u : List ℕ). has u c) g.universe) ∙ keys_are.known c (selection.keys_are c there);
  value = λ set c known. selection.value set c ∙ by set c known (has keys c) refl;
}
  where
    by : (set : List ℕ) (c : ℕ) → has s0.universe c ≡ true → (b : Bool) → has keys c ≡ b →
        (if b then value_of s0 set permit && has_in s0 carried set c else has set c && value_of s0 set rest) ≡ value_of s0 set permit && has_in s0 carried set c
    by set c known true e = refl
    by set c known false e =
        let left = keys_are.left c (ap (λ (u : List ℕ). has u c) g.universe ∙ known) e in
        let untouched : has_in s0 carried set c ≡ has set c && value_of s0 set carried.rest =
        case_absent s0 set carried.outs c (has set c && value_of s0 set carried.rest) left.1 in
        let same : value_of s0 set rest ≡ value_of s0 set permit && value_of s0 set carried.rest = sym (value_of_kept s0 s1 set rest g ri)
        ∙ sym (few_is left.0 set) ∙ of_kept.value set in
        ap (λ b. has set c && b) same ∙ sym (and_moved (value_of s0 set permit) (has set c) (value_of s0 set carried.rest))
        ∙ ap (λ b. value_of s0 set permit && b) (sym untouched)

-- communities by their numbers
pub numbers_more : (xs : List (Community × ℕ)) (y : Community × ℕ) → by_number (xs ++ y ∷ []) ≡ by_number xs ++ (y.0.0, y.1) ∷ []
numbers_more [] y = refl
numbers_more (x ∷ xs) y = ap (λ (l : List (ℕ × ℕ)). (x.0.0, x.1) ∷ l) (numbers_more xs y)

-- the same cases, where the value of keys without a node is written otherwise
all_cases_as : (shown : Shown) (f g : ℕ → List ℕ → Bool) → ((key : ℕ) (set : List ℕ) → f key set ≡ g key set) → (cases : List (ℕ × ℕ)) →
    AllCases shown f cases → AllCases shown g cases
all_cases_as shown f g same [] all = tt
all_cases_as shown f g same (case ∷ cases) all = (
  record { inside = all.0.inside; set = all.0.set; ascending = all.0.ascending; differ = λ e. all.0.differ (e ∙ sym (same case.0 all.0.set)) },
  all_cases_as shown f g same cases all.1,
)

cases_as : (shown : Shown) (f g : ℕ → List ℕ → Bool) → ((key : ℕ) (set : List ℕ) → f key set ≡ g key set) → (cases : List (ℕ × ℕ)) → AreCases shown f cases →
    AreCases shown g cases
cases_as shown f g same cases are = record { ascending = are.ascending; each = all_cases_as shown f g same cases are.each }

-- all parts
module _ (s0 s1 s2 s3 s4 s5 : Shown) (seen : Crossing) (beyond permit rest : ℕ) (lps adds outs counts : List (ℕ × ℕ)) (communities : List (Community × ℕ))
    (g1 : Grows s0 s1) (g2 : Grows s1 s2) (g3 : Grows s2 s3) (g4 : Grows s3 s4) (g5 : Grows s4 s5)
    (first : AreMapInside s0 seen.first) (second : AreMapInside s0 seen.second) (end : AreNodesInside s0 seen.end) (bi : beyond < length s0.nodes)
    (of_permit : Means s1 permit (λ set. value_of s0 set seen.first.permit && value_of s0 set seen.second.permit))
    (of_lps : IsSelection s2 never (λ k set. case_or s1 set seen.second.lps k false && value_of s1 set seen.first.permit) (keys_of seen.second.lps) lps)
    (of_adds : IsSelection s3 never (λ k set. case_or s2 set seen.first.adds k false && value_of s2 set seen.second.permit) (keys_of seen.first.adds) adds)
    (of_rest : Means s4 rest (λ set. value_of s3 set permit && value_of s3 set beyond))
    (of_outs : AreOuts s4 s5 permit seen.end rest outs) (counts_are : counts ≡ adds) (communities_are : by_number communities ≡ outs) where
  g02 : Grows s0 s2
  g02 = grows_trans s0 s1 s2 g1 g2

  g03 : Grows s0 s3
  g03 = grows_trans s0 s2 s3 g02 g3

  g04 : Grows s0 s4
  g04 = grows_trans s0 s3 s4 g03 g4

  g05 : Grows s0 s5
  g05 = grows_trans s0 s4 s5 g04 g5

  g35 : Grows s3 s5
  g35 = grows_trans s3 s4 s5 g4 g5

  g25 : Grows s2 s5
  g25 = grows_trans s2 s3 s5 g3 g35

  g15 : Grows s1 s5
  g15 = grows_trans s1 s2 s5 g2 g25

  g13 : Grows s1 s3
  g13 = grows_trans s1 s2 s3 g2 g3

  g14 : Grows s1 s4
  g14 = grows_trans s1 s3 s4 g13 g4

  outs_value : (set : List ℕ) (c : ℕ) → has s5.universe c ≡ true →
      case_or s5 set (by_number communities) c (has set c && value_of s5 set rest) ≡ (value_of s0 set seen.first.permit && value_of s0 set seen.second.permit)
      && has_in s0 seen.end set c
  outs_value set c known =
      ap (λ (l : List (ℕ × ℕ)). case_or s5 set l c (has set c && value_of s5 set rest)) communities_are
      ∙ ap (λ b. case_or s5 set outs c (has set c && b)) (value_of_kept s4 s5 set rest g5 of_rest.inside)
      ∙ of_outs.value set c (sym (ap (λ (u : List ℕ). has u c) g5.universe) ∙ known)
      ∙ ap (λ b. b && has_in s4 seen.end set c) (value_of_kept s1 s4 set permit g14 of_permit.inside ∙ of_permit.value set)
      ∙ ap (λ b. (value_of s0 set seen.first.permit && value_of s0 set seen.second.permit) && b) (has_in_kept s0 s4 seen.end set c g04 end)

  outs_kept : AreCases s5 (carried_by_rest s5 rest) (by_number communities)
  outs_kept =
      let same : (key : ℕ) (set : List ℕ) → carried_by_rest s4 rest key set ≡ carried_by_rest s5 rest key set =
      λ key set. ap (λ b. has set key && b) (sym (value_of_kept s4 s5 set rest g5 of_rest.inside)) in
      let cases = of_outs.cases in
      let moved : AreCases s5 (carried_by_rest s5 rest) outs = cases_as s5 (carried_by_rest s4 rest) (carried_by_rest s5 rest) same outs cases in
      subst (λ (l : List (ℕ × ℕ)). AreCases s5 (carried_by_rest s5 rest) l) (sym communities_are) moved

  pub joined_is : IsPutTogether s0 s5 seen beyond (record { permit = permit; lps = lps; adds = counts; outs = communities; rest = rest })
  joined_is = record {
    permit_inside = grows_inside s1 s5 permit g15 of_permit.inside;
    rest_inside = grows_inside s4 s5 rest g5 of_rest.inside;
    permit = λ set. value_of_kept s1 s5 set permit g15 of_permit.inside ∙ of_permit.value set;
    rest = λ set.
        value_of_kept s4 s5 set rest g5 of_rest.inside ∙ of_rest.value set
        ∙ ap (λ b. b && value_of s3 set beyond) (value_of_kept s1 s3 set permit g13 of_permit.inside ∙ of_permit.value set)
        ∙ ap (λ b. (value_of s0 set seen.first.permit && value_of s0 set seen.second.permit) && b) (value_of_kept s0 s3 set beyond g03 bi);
    lps = limited_value s0 s1 s2 s5 seen.second.lps lps seen.first.permit g1 g25 second.lps first.permit of_lps;
    adds = λ set k. ap (λ (l : List (ℕ × ℕ)). case_or s5 set l k false) counts_are
        ∙ limited_value s0 s2 s3 s5 seen.first.adds adds seen.second.permit g02 g35 first.adds second.permit of_adds set k;
    outs = outs_value;
    lps_cases = limited_cases s0 s1 s2 s5 seen.second.lps lps seen.first.permit g1 g25 second.lps first.permit of_lps;
    adds_cases = subst (λ (l : List (ℕ × ℕ)). AreCases s5 never l) (sym counts_are)
        (limited_cases s0 s2 s3 s5 seen.first.adds adds seen.second.permit g02 g35 first.adds second.permit of_adds);
    outs_cases = outs_kept;
    outs_known = λ c there. ap (λ (u : List ℕ). has u c) g5.universe
        ∙ of_outs.known c (sym (ap (λ (l : List (ℕ × ℕ)). has (keys_of l) c) communities_are) ∙ there);
  }
