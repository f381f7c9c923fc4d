-- Maps that are the same except for names and line numbers have equal verdicts. Public: crates above
-- cite `same_verdict`.
use Rattle.std.proofs.Common.{◌≡◌, ℕ, Bool, true, false, cond, not, ◌&&◌, ◌||◌, List, [], ◌∷◌, Option, Some, None, refl, ap, ◌∙◌, filter, nat_eq, bytes_eq}
use Rattle.std.specs.Bool.{beq}
use Rattle.std.specs.List.{list_any, list_all}
use Rattle.std.specs.Option.{option_eq}
use Rattle.std.proofs.lemmas.Bool.{and_parts}
use Rattle.std.proofs.lemmas.Bool.Decides.{nat_tests}
use Rattle.std.proofs.Common.{arith}
use Rattle.std.proofs.lemmas.Slice.Eq.{bytes_eq-Decides}
use Rattle.base_kit.specs.Sets.{has}
use Rattle.cfg_ast.specs.meaning.Classes.{same_items}
use Rattle.cfg_ast.specs.meaning.Lists.{first_line_decides, community_list_permits}
use Rattle.cfg_ast.specs.meaning.Policy.{list_answer, without_deleted_by, after_change}
use Rattle.cfg_ast.specs.declared.policy.Change.{Change}
use Rattle.cfg_ast.specs.declared.policy.Change.TheVariants.{Clear, Replace, Append}
use Rattle.cfg_ast.specs.declared.policy.CommunityLine.{CommunityLine}
use Rattle.cfg_ast.specs.declared.policy.CommunityList.{CommunityList}
use Rattle.route_maps.specs.declared.plain.Plain.{Plain}
use Rattle.route_maps.specs.declared.plain.PlainEntry.{PlainEntry}
use Rattle.route_maps.specs.declared.plain.Verdict.{Verdict}
use Rattle.route_maps.specs.declared.plain.Verdict.TheVariants.{Deny, Permit}
use Rattle.route_maps.specs.Maps.{lists_hold, comms_after, entry_verdict, verdict}
use Rattle.route_maps.specs.Same.{same_line, same_list, same_match, same_change, same_entry, same_map}

one_bool : (a b : Bool) → beq a b ≡ true → a ≡ b
one_bool true true e = refl
one_bool false false e = refl
one_bool true false e = absurd cc
one_bool false true e = absurd cc

one_number : (m n : ℕ) → nat_eq m n ≡ true → m ≡ n
one_number m n e = grind (arith, nat_tests)

one_set : (a b : List ℕ) → bytes_eq a b ≡ true → a ≡ b
one_set a b e = (bytes_eq-Decides a b).0 e

one_option : (o p : Option ℕ) → option_eq nat_eq o p ≡ true → o ≡ p
one_option None None e = refl
one_option None (Some n) e = absurd cc
one_option (Some m) None e = absurd cc
one_option (Some m) (Some n) e = ap (λ (k : ℕ). Some k) (one_number m n e)

-- lines that hold alike decide alike
decide : (test : List ℕ → Bool) (xs ys : List CommunityLine) → same_items same_line xs ys ≡ true →
    first_line_decides (λ l. test l.comms) xs ≡ first_line_decides (λ l. test l.comms) ys
decide test [] [] e = refl
decide test [] (y ∷ ys) e = absurd cc
decide test (x ∷ xs) [] e = absurd cc
decide test (x ∷ xs) (y ∷ ys) e =
    let p = and_parts (same_line x y) (same_items same_line xs ys) e in
    let q = and_parts (beq x.permit y.permit) (bytes_eq x.comms y.comms) p.0 in
    λ i. cond (test (one_set x.comms y.comms q.1 i)) (one_bool x.permit y.permit q.0 i) (decide test xs ys p.1 i)

permits_alike : (comms : List ℕ) (a b : CommunityList) → same_list a b ≡ true → community_list_permits a comms ≡ community_list_permits b comms
permits_alike comms a b e = decide (λ c. list_all (λ d. has comms d) c) a.lines b.lines e

answers_alike : (exact : Bool) (comms : List ℕ) (a b : CommunityList) → same_list a b ≡ true → list_answer exact comms a ≡ list_answer exact comms b
answers_alike true comms a b e = decide (λ c. list_all (λ d. has comms d) c && list_all (λ d. has c d) comms) a.lines b.lines e
answers_alike false comms a b e = permits_alike comms a b e

any_alike : (exact : Bool) (comms : List ℕ) (xs ys : List CommunityList) → same_items same_list xs ys ≡ true →
    list_any (list_answer exact comms) xs ≡ list_any (list_answer exact comms) ys
any_alike exact comms [] [] e = refl
any_alike exact comms [] (y ∷ ys) e = absurd cc
any_alike exact comms (x ∷ xs) [] e = absurd cc
any_alike exact comms (x ∷ xs) (y ∷ ys) e =
    let p = and_parts (same_list x y) (same_items same_list xs ys) e in
    λ i. answers_alike exact comms x y p.0 i || any_alike exact comms xs ys p.1 i

holds_alike : (comms : List ℕ) (e f : Bool) (xs ys : Option (List CommunityList)) → same_match e f xs ys ≡ true → lists_hold e comms xs ≡ lists_hold f comms ys
holds_alike comms e f None None s = refl
holds_alike comms e f None (Some ys) s = absurd cc
holds_alike comms e f (Some xs) None s = absurd cc
holds_alike comms e f (Some xs) (Some ys) s =
    let p = and_parts (beq e f) (same_items same_list xs ys) s in
    ap (λ (x : Bool). list_any (list_answer x comms) xs) (one_bool e f p.0) ∙ any_alike f comms xs ys p.1

filters_alike : (p q : ℕ → Bool) (xs : List ℕ) → ((c : ℕ) → p c ≡ q c) → filter p xs ≡ filter q xs
filters_alike p q [] e = refl
filters_alike p q (x ∷ xs) e = λ i. cond (e x i) (x ∷ filters_alike p q xs e i) (filters_alike p q xs e i)

deletions_alike : (comms : List ℕ) (a b : Option CommunityList) → option_eq same_list a b ≡ true → without_deleted_by a comms ≡ without_deleted_by b comms
deletions_alike comms None None e = refl
deletions_alike comms None (Some b) e = absurd cc
deletions_alike comms (Some a) None e = absurd cc
deletions_alike comms (Some a) (Some b) e =
    filters_alike (λ c. not (community_list_permits a (c ∷ []))) (λ c. not (community_list_permits b (c ∷ []))) comms
    (λ c. ap not (permits_alike (c ∷ []) a b e))

one_change : (a b : Change) → same_change a b ≡ true → a ≡ b
one_change Clear Clear e = refl
one_change Clear (Replace b) e = absurd cc
one_change Clear (Append b) e = absurd cc
one_change (Replace a) Clear e = absurd cc
one_change (Replace a) (Replace b) e = ap (λ (l : List ℕ). Replace l) (one_set a b e)
one_change (Replace a) (Append b) e = absurd cc
one_change (Append a) Clear e = absurd cc
one_change (Append a) (Replace b) e = absurd cc
one_change (Append a) (Append b) e = ap (λ (l : List ℕ). Append l) (one_set a b e)

changes_alike : (a b : Option Change) → option_eq same_change a b ≡ true → a ≡ b
changes_alike None None e = refl
changes_alike None (Some b) e = absurd cc
changes_alike (Some a) None e = absurd cc
changes_alike (Some a) (Some b) e = ap (λ (c : Change). Some c) (one_change a b e)

said : Bool → Option ℕ → List ℕ → ℕ → Verdict
said permit lp comms adds = cond permit (Permit lp comms adds) Deny

pub entries_alike : (comms : List ℕ) (xs ys : List PlainEntry) → same_items same_entry xs ys ≡ true → verdict xs comms ≡ verdict ys comms
unfolding said
entries_alike comms [] [] e = refl
entries_alike comms [] (y ∷ ys) e = absurd cc
entries_alike comms (x ∷ xs) [] e = absurd cc
entries_alike comms (x ∷ xs) (y ∷ ys) e =
    let p = and_parts (same_entry x y) (same_items same_entry xs ys) e in
    let p1 = and_parts (nat_eq x.seq y.seq) _ p.0 in
    let p2 = and_parts (beq x.permit y.permit) _ p1.1 in
    let p3 = and_parts (same_match x.exact y.exact x.lists y.lists) _ p2.1 in
    let p4 = and_parts (option_eq nat_eq x.lp y.lp) _ p3.1 in
    let p5 = and_parts (option_eq same_change x.change y.change) _ p4.1 in
    let p6 = and_parts (option_eq same_list x.delete y.delete) _ p5.1 in
    let after : comms_after x comms ≡ comms_after y comms =
    λ i. after_change (changes_alike x.change y.change p5.0 i) (deletions_alike comms x.delete y.delete p6.0 i) in
    let here : entry_verdict x comms ≡ entry_verdict y comms =
    λ i. said (one_bool x.permit y.permit p2.0 i) (one_option x.lp y.lp p4.0 i) (after i) (one_number x.adds y.adds p6.1 i) in
    λ i. cond (holds_alike comms x.exact y.exact x.lists y.lists p3.0 i) (here i) (entries_alike comms xs ys p.1 i)

-- such maps say the same of every set of communities
pub same_verdict : (a b : Plain) (comms : List ℕ) → same_map a b ≡ true → verdict a.entries comms ≡ verdict b.entries comms
unfolding same_map
same_verdict a b comms e = entries_alike comms a.entries b.entries e
