-- Nodes of sets that are made to agree tell the parts under a fixing that fixes one more community. Also
-- what it means that there are too many fixings.
use Rattle.std.proofs.Common.{◌≡◌, ℕ, zero, suc, ◌+◌, ◌<◌, ◌≤◌, Bool, true, false, not, ◌&&◌, ◌||◌, nat_lt, nat_eq, List, [], ◌∷◌, ◌++◌, length, Option, Some, None, Result, Ok, Err, refl, sym, ◌∙◌, ap, subst, arith, inl, inr}
use Rattle.std.specs.List.{AllByRecursion, list_any}
use Rattle.std.specs.Option.{option_map, option_map_or}
use Rattle.std.specs.Result.{is_err}
use Rattle.std.proofs.lemmas.Bool.{cases_order}
use Rattle.std.proofs.lemmas.Bool.Decides.{nat_tests}
use Rattle.std.proofs.lemmas.List.{length_push, append_assoc}
use Rattle.base_kit.specs.declared.ids.Community.{Community}
use Rattle.base_kit.specs.Sets.{has, with_number, without_number}
use Rattle.base_kit.proofs.Members.{with_less, with_same, with_more}
use Rattle.base_kit.proofs.SetFacts.{same_number}
use Rattle.dd_core.specs.Sets.{Shown, Grows, Means}
use Rattle.canon_policy.specs.declared.fixing.Fixing.{Fixing}
use Rattle.canon_policy.specs.declared.lists.CanonRefusal.{CanonRefusal}
use Rattle.canon_policy.specs.declared.lists.CanonRefusal.TheVariants.{NoCanon, Memory}
use Rattle.canon_policy.specs.declared.parts.PartNodes.{PartNodes}
use Rattle.canon_policy.specs.declared.parts.PartNodes.TheVariants.{Told, Carried}
use Rattle.canon_policy.specs.declared.parts.Nodes.{Nodes}
use Rattle.canon_policy.specs.Fixings.{Part, Asked, nothing_fixed, with_present, with_absent, agreeing, split, settled}
use Rattle.canon_policy.specs.Fixings.Part.{number, community}
use Rattle.canon_policy.specs.Hanging.{SameOn, TestHangsOn, NumberHangsOn, PartHangsOn, PartsHangOn, AskedHangsOn}
use Rattle.canon_policy.specs.Nodes.{AreInside, IsPartInside, AreFunctionNodesInside, AgreeAt, NodesTellPart, IsTold, ArePartsTold, AreNodesOf, IsFixed, AreFixed, IsPartFixed, ArePartsFixed, AreNodesFixed, is_broad, are_over, IsWalked, community_number}
use Rattle.canon_policy.proofs.Told.{nodes_kept}
use Rattle.canon_policy.proofs.SameSets.{same_sets, has-agreeing, present_first, absent_first, or_none}

-- a set made to agree with both fixings agrees with the third
pub record Join (fixing alone both : Fixing) : Type 0 where
  pub same : (set : List ℕ) (c : ℕ) → has (agreeing fixing (agreeing alone set)) c ≡ has (agreeing both set) c

agreeing_same : (fixing : Fixing) (a b : List ℕ) (c : ℕ) → has a c ≡ has b c → has (agreeing fixing a) c ≡ has (agreeing fixing b) c
agreeing_same fixing a b c e = has-agreeing fixing a c ∙ ap (λ x. not (has fixing.absent c) && (has fixing.present c || x)) e ∙ sym (has-agreeing fixing b c)

pub join_present : (fixing : Fixing) (x : ℕ) → has fixing.absent x ≡ false → Join fixing (with_present x nothing_fixed) (with_present x fixing)
join_present fixing x free = record {
  same = λ set c.
      agreeing_same fixing (agreeing (with_present x nothing_fixed) set) (with_number x set) c
      (present_first nothing_fixed x set refl c ∙ has-agreeing nothing_fixed (with_number x set) c)
      ∙ sym (present_first fixing x set free c);
}

pub join_absent : (fixing : Fixing) (x : ℕ) → has fixing.present x ≡ false → Join fixing (with_absent x nothing_fixed) (with_absent x fixing)
join_absent fixing x free = record {
  same = λ set c.
      agreeing_same fixing (agreeing (with_absent x nothing_fixed) set) (without_number x set) c
      (absent_first nothing_fixed x set refl c ∙ has-agreeing nothing_fixed (without_number x set) c)
      ∙ sym (absent_first fixing x set free c);
}

module _ (old new : Shown) (universe : List ℕ) (fixing alone both : Fixing) (join : Join fixing alone both) where
  joined : (set : List ℕ) → SameOn universe (agreeing fixing (agreeing alone set)) (agreeing both set)
  joined set = same_sets universe (agreeing fixing (agreeing alone set)) (agreeing both set) (join.same set)

  node_fixed : (n m : ℕ) (test : List ℕ → Bool) → TestHangsOn universe test → Means old n (λ set. test (agreeing fixing set)) → IsFixed old new alone n m
      → Means new m (λ set. test (agreeing both set))
  node_fixed n m test hangs of is = record {
    inside = is.inside;
    value = λ set. is.value set ∙ of.value (agreeing alone set) ∙ hangs.same (agreeing fixing (agreeing alone set)) (agreeing both set) (joined set);
  }

  agree_back : (ns ms a b : List ℕ) → AreFixed old new alone ns ms → AgreeAt new ms a b → AgreeAt old ns (agreeing alone a) (agreeing alone b)
  agree_back [] [] a b are agree = tt
  agree_back [] (m ∷ ms) a b are agree = absurd are
  agree_back (n ∷ ns) [] a b are agree = absurd are
  agree_back (n ∷ ns) (m ∷ ms) a b are agree = (sym (are.0.value a) ∙ agree.0 ∙ are.0.value b, agree_back ns ms a b are.1 agree.1)

  agree_on : (ns ms a b : List ℕ) → AreFixed old new alone ns ms → AgreeAt old ns (agreeing alone a) (agreeing alone b) → AgreeAt new ms a b
  agree_on [] [] a b are agree = tt
  agree_on [] (m ∷ ms) a b are agree = absurd are
  agree_on (n ∷ ns) [] a b are agree = absurd are
  agree_on (n ∷ ns) (m ∷ ms) a b are agree = (are.0.value a ∙ agree.0 ∙ sym (are.0.value b), agree_on ns ms a b are.1 agree.1)

  tells_fixed : (ns ms : List ℕ) (part : List ℕ → ℕ) → NumberHangsOn universe part → NodesTellPart old ns (λ set. part (agreeing fixing set))
      → AreFixed old new alone ns ms → NodesTellPart new ms (λ set. part (agreeing both set))
  tells_fixed ns ms part hangs tells are = record {
    same = λ a b agree.
        sym (hangs.same (agreeing fixing (agreeing alone a)) (agreeing both a) (joined a))
        ∙ tells.same (agreeing alone a) (agreeing alone b) (agree_back ns ms a b are agree)
        ∙ hangs.same (agreeing fixing (agreeing alone b)) (agreeing both b) (joined b);
    apart = λ a b e. agree_on ns ms a b are (tells.apart (agreeing alone a) (agreeing alone b)
        (hangs.same (agreeing fixing (agreeing alone a)) (agreeing both a) (joined a) ∙ e
        ∙ sym (hangs.same (agreeing fixing (agreeing alone b)) (agreeing both b) (joined b))));
  }

  part_fixed : (n m : PartNodes) (part : Part) → PartHangsOn universe part → IsTold old fixing n part → IsPartFixed old new alone n m → IsTold new both m part
  part_fixed (Told ns) (Told ms) (number part) hangs told is = tells_fixed ns ms part hangs told is
  part_fixed (Told ns) (Told ms) (community d test) hangs told is = absurd told
  part_fixed (Told ns) (Carried d m) part hangs told is = absurd is
  part_fixed (Carried c n) (Told ms) part hangs told is = absurd is
  part_fixed (Carried c n) (Carried d m) (number part) hangs told is = absurd told
  part_fixed (Carried c n) (Carried d m) (community e test) hangs told is = (ap (λ x. x.0) (sym is.0) ∙ told.0, node_fixed n m test hangs told.1 is.1)

  parts_fixed : (ns ms : List PartNodes) (parts : List Part) → PartsHangOn universe parts → ArePartsTold old fixing ns parts → ArePartsFixed old new alone ns ms
      → ArePartsTold new both ms parts
  parts_fixed [] [] [] hang told are = tt
  parts_fixed [] [] (p ∷ ps) hang told are = absurd told
  parts_fixed [] (m ∷ ms) parts hang told are = absurd are
  parts_fixed (n ∷ ns) [] parts hang told are = absurd are
  parts_fixed (n ∷ ns) (m ∷ ms) [] hang told are = absurd told
  parts_fixed (n ∷ ns) (m ∷ ms) (p ∷ ps) hang told are = (part_fixed n m p hang.0 told.0 are.0, parts_fixed ns ms ps hang.1 told.1 are.1)

  pub nodes_fixed : (nodes made : Nodes) (asked : Asked) → AskedHangsOn universe asked → AreNodesOf old fixing nodes asked
      → AreNodesFixed old new alone nodes made → AreNodesOf new both made asked
  nodes_fixed nodes made asked hang of are = record {
    permit = node_fixed nodes.permit made.permit asked.accepted hang.accepted of.permit are.permit;
    rest = node_fixed nodes.rest made.rest asked.kept hang.kept of.rest are.rest;
    parts = parts_fixed nodes.parts made.parts asked.parts hang.parts of.parts are.parts;
  }

-- they are nodes of the store
all_inside : (old new : Shown) (alone : Fixing) (ns ms : List ℕ) → AreFixed old new alone ns ms → AreInside new ms
all_inside old new alone [] [] are = tt
all_inside old new alone [] (m ∷ ms) are = absurd are
all_inside old new alone (n ∷ ns) [] are = absurd are
all_inside old new alone (n ∷ ns) (m ∷ ms) are = (are.0.inside, all_inside old new alone ns ms are.1)

part_inside : (old new : Shown) → Grows old new → (alone : Fixing) (n m : PartNodes) → IsPartInside old n → IsPartFixed old new alone n m → IsPartInside new m
part_inside old new grows alone (Told ns) (Told ms) inside is = all_inside old new alone ns ms is
part_inside old new grows alone (Told ns) (Carried d m) inside is = absurd is
part_inside old new grows alone (Carried c n) (Told ms) inside is = absurd is
part_inside old new grows alone (Carried c n) (Carried d m) inside is =
    (ap (λ x. has new.universe x.0) (sym is.0) ∙ ap (λ (u : List ℕ). has u c.0) grows.universe ∙ inside.0, is.1.inside)

parts_inside : (old new : Shown) → Grows old new → (alone : Fixing) (ns ms : List PartNodes) → AllByRecursion (IsPartInside old) ns
    → ArePartsFixed old new alone ns ms → AllByRecursion (IsPartInside new) ms
parts_inside old new grows alone [] [] inside are = tt
parts_inside old new grows alone [] (m ∷ ms) inside are = absurd are
parts_inside old new grows alone (n ∷ ns) [] inside are = absurd are
parts_inside old new grows alone (n ∷ ns) (m ∷ ms) inside are =
    (part_inside old new grows alone n m inside.0 are.0, parts_inside old new grows alone ns ms inside.1 are.1)

pub fixed_inside : (old new : Shown) → Grows old new → (alone : Fixing) (nodes made : Nodes) → AreFunctionNodesInside old nodes
    → AreNodesFixed old new alone nodes made
    → AreFunctionNodesInside new made
fixed_inside old new grows alone nodes made inside are = record {
  permit = are.permit.inside;
  rest = are.rest.inside;
  parts = parts_inside old new grows alone nodes.parts made.parts inside.parts are.parts;
}

-- more fixings than too many are too many
any_more : (xs ys : List Fixing) → list_any is_broad xs ≡ true → list_any is_broad (xs ++ ys) ≡ true
any_more [] ys e = absurd cc
any_more (x ∷ xs) ys e = by (is_broad x) e (any_more xs ys)
  where
    by : (b : Bool) → b || list_any is_broad xs ≡ true → (list_any is_broad xs ≡ true → list_any is_broad (xs ++ ys) ≡ true)
        → b || list_any is_broad (xs ++ ys) ≡ true
    by true e rest = refl
    by false e rest = rest e

length_more : (xs ys : List Fixing) → length xs ≤ length (xs ++ ys)
length_more [] ys = omega arith
length_more (x ∷ xs) ys = let le = length_more xs ys in omega arith

pub over_more : (xs ys : List Fixing) → are_over xs ≡ true → are_over (xs ++ ys) ≡ true
unfolding are_over
over_more xs ys e = by (nat_lt 65535 (length xs)) refl e
  where
    long : nat_lt 65535 (length xs) ≡ true → nat_lt 65535 (length (xs ++ ys)) ≡ true
    long e = let le = length_more xs ys in grind (arith, nat_tests)

    broad : (b : Bool) → list_any is_broad (xs ++ ys) ≡ true → b || list_any is_broad (xs ++ ys) ≡ true
    broad true e = refl
    broad false e = e

    by : (b : Bool) → nat_lt 65535 (length xs) ≡ b → b || list_any is_broad xs ≡ true → nat_lt 65535 (length (xs ++ ys)) || list_any is_broad (xs ++ ys) ≡ true
    by true is e = rw (long is) refl
    by false is e = broad (nat_lt 65535 (length (xs ++ ys))) (any_more xs ys e)

pub long_over : (xs : List Fixing) (x : Fixing) → 65535 ≤ length xs → are_over (xs ++ x ∷ []) ≡ true
unfolding are_over
long_over xs x le =
    let size = length_push xs x in
    let long : nat_lt 65535 (length (xs ++ x ∷ [])) ≡ true = grind (arith, nat_tests) in
    rw long refl

-- the communities present of the settled fixings
longer : (n : ℕ) (xs : List ℕ) → length xs ≤ length (with_number n xs)
longer n [] = omega arith
longer n (x ∷ xs) = elim (cases_order x n) [
  | inl e ↦ (let same = with_same n x xs e in let size = ap (λ (l : List ℕ). length l) same in omega arith)
  | inr (inl less) ↦ (let same = with_less n x xs less in let size = ap (λ (l : List ℕ). length l) same in let le = longer n xs in omega arith)
  | inr (inr more) ↦ (let same = with_more n x xs more in let size = ap (λ (l : List ℕ). length l) same in omega arith)
]

pub one_longer : (n : ℕ) (xs : List ℕ) → has xs n ≡ false → length (with_number n xs) ≡ length xs + 1
one_longer n [] none = omega arith
one_longer n (x ∷ xs) none = elim (cases_order x n) [
  | inl e ↦ absurd (let there = same_number x n e in let both = or_none (nat_eq x n) (has xs n) none in let out = both.0 in cc)
  | inr (inl less) ↦ (let same = with_less n x xs less in let size = ap (λ (l : List ℕ). length l) same in let rest =
      one_longer n xs (or_none (nat_eq x n) (has xs n) none).1 in omega arith)
  | inr (inr more) ↦ (let same = with_more n x xs more in let size = ap (λ (l : List ℕ). length l) same in omega arith)
]

pub no_longer : (n : ℕ) (xs : List ℕ) → length (with_number n xs) ≤ length xs + 1
no_longer n [] = omega arith
no_longer n (x ∷ xs) = elim (cases_order x n) [
  | inl e ↦ (let same = with_same n x xs e in let size = ap (λ (l : List ℕ). length l) same in omega arith)
  | inr (inl less) ↦ (let same = with_less n x xs less in let size = ap (λ (l : List ℕ). length l) same in let le = no_longer n xs in omega arith)
  | inr (inr more) ↦ (let same = with_more n x xs more in let size = ap (λ (l : List ℕ). length l) same in omega arith)
]

broad_one : (fixing : Fixing) → 32 < length fixing.present → list_any is_broad (fixing ∷ []) ≡ true
broad_one fixing lt = let broad : nat_lt 32 (length fixing.present) ≡ true = grind (arith, nat_tests) in rw broad refl

broad_step : (depth : ℕ) (by : Fixing → Option ℕ) → ((fixing : Fixing) → 32 < length fixing.present → list_any is_broad (settled depth by fixing) ≡ true)
    → (fixing : Fixing) → 32 < length fixing.present → (o : Option ℕ)
    → list_any is_broad (option_map_or (λ c. settled depth by (with_present c fixing) ++ settled depth by (with_absent c fixing)) o (fixing ∷ [])) ≡ true
broad_step depth by rest fixing lt None = broad_one fixing lt
broad_step depth by rest fixing lt (Some c) =
    let le = longer c fixing.present in
    any_more (settled depth by (with_present c fixing)) (settled depth by (with_absent c fixing)) (rest (with_present c fixing) (omega arith))

pub broad_settled : (depth : ℕ) (by : Fixing → Option ℕ) (fixing : Fixing) → 32 < length fixing.present → list_any is_broad (settled depth by fixing) ≡ true
unfolding settled
broad_settled zero by fixing lt = broad_one fixing lt
broad_settled (suc depth) by fixing lt = broad_step depth by (broad_settled depth by) fixing lt (by fixing)

any_later : (xs ys : List Fixing) → list_any is_broad ys ≡ true → list_any is_broad (xs ++ ys) ≡ true
any_later [] ys e = e
any_later (x ∷ xs) ys e = rw (any_later xs ys e) (or_true (is_broad x))
  where
    or_true : (b : Bool) → b || true ≡ true
    or_true true = refl
    or_true false = refl

broad_over : (xs : List Fixing) → list_any is_broad xs ≡ true → are_over xs ≡ true
unfolding are_over
broad_over xs e = rw e (or_true (nat_lt 65535 (length xs)))
  where
    or_true : (b : Bool) → b || true ≡ true
    or_true true = refl
    or_true false = refl

-- how a fixing that is split is settled
pub settled_split : (depth less : ℕ) (by : Fixing → Option ℕ) (fixing : Fixing) (x : ℕ) → depth ≡ suc less → by fixing ≡ Some x
    → settled depth by fixing ≡ settled less by (with_present x fixing) ++ settled less by (with_absent x fixing)
unfolding settled
settled_split zero less by fixing x e split = absurd (omega arith)
settled_split (suc depth) less by fixing x e split = rw (split, (let same : depth ≡ less = omega arith in same)) refl

pub settled_alone : (depth : ℕ) (by : Fixing → Option ℕ) (fixing : Fixing) → by fixing ≡ None → settled depth by fixing ≡ fixing ∷ []
unfolding settled
settled_alone zero by fixing none = refl
settled_alone (suc depth) by fixing none = rw none refl

pub settled_zero : (depth : ℕ) (by : Fixing → Option ℕ) (fixing : Fixing) → depth ≡ 0 → settled depth by fixing ≡ fixing ∷ []
unfolding settled
settled_zero zero by fixing e = refl
settled_zero (suc depth) by fixing e = absurd (omega arith)

-- a match that would be too wide
pub wide_split : (old : List Fixing) (depth less : ℕ) (by : Fixing → Option ℕ) (fixing : Fixing) (x : ℕ) → depth ≡ suc less → by fixing ≡ Some x
    → has fixing.present x ≡ false → 32 ≤ length fixing.present → are_over (old ++ settled depth by fixing) ≡ true
wide_split old depth less by fixing x e split free le =
    let size = one_longer x fixing.present free in
    broad_over (old ++ settled depth by fixing) (any_later old (settled depth by fixing)
    (rw (settled_split depth less by fixing x e split) (any_more (settled less by (with_present x fixing)) (settled less by (with_absent x fixing))
    (broad_settled less by (with_present x fixing) (omega arith)))))

-- what the branch with the community present comes to, for both
pub first_over : (old xs ys : List Fixing) → are_over (old ++ xs) ≡ true → are_over (old ++ (xs ++ ys)) ≡ true
first_over old xs ys e = rw (← append_assoc old xs ys) (over_more (old ++ xs) ys e)

-- a branch
pub branch_walked : (old mid new : Shown) → Grows old mid → Grows mid new → (nodes made : Nodes) (fixing alone alone' both both' : Fixing) → alone ≡ alone'
    → both ≡ both' → Join fixing alone' both' → (asked : Asked) → AskedHangsOn old.universe asked → AreFunctionNodesInside old nodes
    → AreNodesOf old fixing nodes asked
    → AreNodesFixed mid new alone nodes made
    → (less : ℕ) (found more : List Fixing) (r : Result (Unit {0}) CanonRefusal)
    → ((a : Asked) → AskedHangsOn new.universe a → AreNodesOf new both made a → IsWalked found more r (settled less (split new.universe a) both))
    → IsWalked found more r (settled less (split old.universe asked) both')
branch_walked old mid new first second nodes made fixing alone alone' both both' e e' join asked hang inside of are less found more r walked =
    let same : new.universe ≡ old.universe = second.universe ∙ first.universe in
    let hang' = subst (λ (u : List ℕ). AskedHangsOn u asked) (sym same) hang in
    let of' = nodes_kept old mid first fixing nodes asked inside of in
    let are' = subst (λ (a : Fixing). AreNodesFixed mid new a nodes made) e are in
    let there = nodes_fixed mid new old.universe fixing alone' both' join nodes made asked hang of' are' in
    let done = walked asked hang' (subst (λ (b : Fixing). AreNodesOf new b made asked) (sym e') there) in
    subst (λ (u : List ℕ). IsWalked found more r (settled less (split u asked) both')) same
    (subst (λ (b : Fixing). IsWalked found more r (settled less (split new.universe asked) b)) e' done)

pub failed_first : (old mid xs ys : List Fixing) (r : Result (Unit {0}) CanonRefusal) → IsWalked old mid r xs → is_err r ≡ true → IsWalked old mid r (xs ++ ys)
failed_first old mid xs ys (Ok done) walked e = absurd cc
failed_first old mid xs ys (Err NoCanon) walked e = first_over old xs ys walked
failed_first old mid xs ys (Err Memory) walked e = tt

pub both_walked : (old mid new xs ys : List Fixing) (q r : Result (Unit {0}) CanonRefusal) → IsWalked old mid q xs → is_err q ≡ false → IsWalked mid new r ys
    → IsWalked old new r (xs ++ ys)
both_walked old mid new xs ys (Err NoCanon) r walked e other = absurd cc
both_walked old mid new xs ys (Err Memory) r walked e other = absurd cc
both_walked old mid new xs ys (Ok done) (Ok now) walked e other = other ∙ ap (λ (l : List Fixing). l ++ ys) walked ∙ append_assoc old xs ys
both_walked old mid new xs ys (Ok done) (Err NoCanon) walked e other =
    subst (λ (l : List Fixing). are_over l ≡ true) (ap (λ (l : List Fixing). l ++ ys) walked ∙ append_assoc old xs ys) other
both_walked old mid new xs ys (Ok done) (Err Memory) walked e other = tt

pub some_split : (universe : List ℕ) (asked : Asked) (fixing : Fixing) (o : Option Community) (c : Community)
    → option_map community_number o ≡ split universe asked fixing → o ≡ Some c → split universe asked fixing ≡ Some c.0
some_split universe asked fixing o c e is = sym e ∙ ap (λ (x : Option Community). option_map community_number x) is

pub none_split : (universe : List ℕ) (asked : Asked) (fixing : Fixing) (o : Option Community) → option_map community_number o ≡ split universe asked fixing
    → o ≡ None → split universe asked fixing ≡ None
none_split universe asked fixing o e is = sym e ∙ ap (λ (x : Option Community). option_map community_number x) is
