-- The canonical lists of a function are the same over each universe on which it is plain.
use Rattle.std.proofs.Common.{◌≡◌, ℕ, zero, suc, ◌-◌, ◌<◌, ◌≤◌, Bool, true, false, not, ◌&&◌, cond, nat_eq, nat_lt, List, [], ◌∷◌, ◌++◌, filter, length, Option, Some, None, refl, sym, ◌∙◌, ap, subst, arith, inl, inr, ◌⊎◌}
use Rattle.std.proofs.Math.Path.{fun_ext}
use Rattle.std.specs.Prelude.{find, if◌then◌else◌}
use Rattle.std.specs.Bool.{beq}
use Rattle.std.specs.Option.{option_or, option_map_or}
use Rattle.base_kit.specs.Sets.{has, with_number, without_number, AllAbove, IsAscending}
use Rattle.base_kit.proofs.SetFacts.{same_number, other_number, has-with_number, has-filter, ascending_filter, one_list}
use Rattle.base_kit.proofs.Elements.{In, in_left, in_right}
use Rattle.cfg_ast.specs.declared.policy.Change.{Change}
use Rattle.cfg_ast.specs.declared.policy.CommunityList.{CommunityList}
use Rattle.route_maps.specs.declared.plain.Imported.{Imported}
use Rattle.canon_policy.specs.declared.fixing.Fixing.{Fixing}
use Rattle.canon_policy.specs.Functions.{outside_of, accepts, carries, keeps, preference, added_count}
use Rattle.canon_policy.specs.Fixings.{Asked, nothing_fixed, with_present, with_absent, agreeing, sets_of, depends, least, yes, follows, unsettled, first_unsettled, split, settled}
use Rattle.canon_policy.specs.Fixings.Part.{community}
use Rattle.canon_policy.specs.Entries.{match_of, deletion_of, addition_of, replacement_by, lp_of, always_carried, is_removed, is_added, canonical_change, deletion_for, in_entry, out_entry}
use Rattle.canon_policy.specs.Canonical.{in_parts, in_asked, out_asked, numbered_from, limited, in_list, adds_nothing, passing, out_list, lists_of, depends_on_others, canonical_of}
use Rattle.canon_policy.specs.Hanging.{SameOn, TestHangsOn, NumberHangsOn}
use Rattle.canon_policy.specs.Made.{asked_of}
use Rattle.canon_policy.specs.Plain.{IsPlain}
use Rattle.canon_policy.proofs.Asked.{splits_same}
use Rattle.canon_policy.proofs.Follows.{bits_same, follows_at}
use Rattle.canon_policy.proofs.Leaves.{in_by}
use Rattle.canon_policy.proofs.Least.{in_has, has_in, none_found, Differing, differ_depends, least_some, under_hangs, IsFree}
use Rattle.canon_policy.proofs.Outside.{outside_same, plain_not_depends}
use Rattle.canon_policy.proofs.Plain.{in_asked_hangs, out_asked_hangs}
use Rattle.canon_policy.proofs.SameSets.{all_in, all_are, filtered_in, named, named_same, has-without_number}
use Rattle.canon_policy.proofs.Splits.{yes_hangs, split_free, count_free, count_free-start, fewer_present, fewer_absent}
use Rattle.canon_policy.proofs.Values.{same_truth, outside_not}

now_there : (c : ℕ) (set : List ℕ) → has (with_number c set) c ≡ true
now_there c set = has-with_number c set c ∙ rw (same_number c c refl) refl

-- the first that passes in an ascending list
below_all : (n : ℕ) (xs : List ℕ) (y : ℕ) → AllAbove n xs → In xs y → n < y
below_all n [] y above h = absurd h
below_all n (x ∷ xs) y above (inl e) = let lt = above.0 in omega arith
below_all n (x ∷ xs) y above (inr h) = below_all n xs y above.1 h

find_least : (p : ℕ → Bool) (xs : List ℕ) (x y : ℕ) → IsAscending xs → find p xs ≡ Some x → In xs y → p y ≡ true → x ≤ y
find_least p [] x y up e h is = absurd h
find_least p (z ∷ zs) x y up e h is = by (p z) refl e h (λ rest there. find_least p zs x y up.1 rest there is)
  where
    by : (b : Bool) → p z ≡ b → cond b (Some z) (find p zs) ≡ Some x → (z ≡ y) ⊎ In zs y → (find p zs ≡ Some x → In zs y → x ≤ y) → x ≤ y
    by true at e (inl same) rest = let first : z ≡ x = cc in omega arith
    by true at e (inr h) rest = let first : z ≡ x = cc in let lt = below_all z zs y up.0 h in omega arith
    by false at e (inl same) rest = absurd (let wrong : true ≡ false = sym is ∙ ap p (sym same) ∙ at in cc)
    by false at e (inr h) rest = rest e h

least_first : (universe : List ℕ) (part : List ℕ → ℕ) (x y : ℕ) → IsAscending universe → least universe part ≡ Some x → has universe y ≡ true
    → depends universe part y ≡ true → x ≤ y
unfolding least
least_first universe part x y up e known on = find_least (depends universe part) universe x y up e (has_in universe y known) on

nothing_least : (universe : List ℕ) (part : List ℕ → ℕ) (y : ℕ) → least universe part ≡ None → has universe y ≡ true → depends universe part y ≡ false
unfolding least
nothing_least universe part y e known = none_found (depends universe part) universe y e (has_in universe y known)

-- if a part depends only on a universe, each community on which it depends is in the universe
known_of : (universe : List ℕ) (part : List ℕ → ℕ) (x : ℕ) → NumberHangsOn universe part → Differing part x → has universe x ≡ true
known_of universe part x hangs d = by (has universe x) refl
  where
    same : has universe x ≡ false → SameOn universe (with_number x d.set) (without_number x d.set)
    same none = record {
      same = λ c known.
          let apart : nat_eq x c ≡ false = other_number x c (λ e. let h = ap (has universe) e in absurd cc) in
          has-with_number x d.set c ∙ rw apart (sym (has-without_number x d.set c ∙ rw apart refl));
    }

    by : (b : Bool) → has universe x ≡ b → b ≡ true
    by true e = refl
    by false e = absurd (d.differ (hangs.same (with_number x d.set) (without_number x d.set) (same e)))

module _ (universe other : List ℕ) (up : IsAscending universe) (other_up : IsAscending other) where
  -- what is least over one universe is at least what is least over the other
  at_most : (part : List ℕ → ℕ) (x y : ℕ) → NumberHangsOn universe part → NumberHangsOn other part → least universe part ≡ Some x → least other part ≡ Some y
      → x ≤ y
  at_most part x y hangs hangs' e e' =
      let d = (least_some other part y e').1 in
      least_first universe part x y up e (known_of universe part y hangs d) (differ_depends universe part y d.set hangs d.differ)

not_none : (universe other : List ℕ) (part : List ℕ → ℕ) (x : ℕ) → NumberHangsOn other part → least universe part ≡ Some x → least other part ≡ None → ⊥
not_none universe other part x hangs e none =
    let d = (least_some universe part x e).1 in
    let on = differ_depends other part x d.set hangs d.differ in
    let off = nothing_least other part x none (known_of other part x hangs d) in
    absurd (let wrong : true ≡ false = sym on ∙ off in cc)

one_least : (universe other : List ℕ) → IsAscending universe → IsAscending other → (part : List ℕ → ℕ) → NumberHangsOn universe part → NumberHangsOn other part
    → least universe part ≡ least other part
one_least universe other up other_up part hangs hangs' = by (least universe part) (least other part) refl refl
  where
    by : (o o' : Option ℕ) → least universe part ≡ o → least other part ≡ o' → o ≡ o'
    by None None e e' = refl
    by None (Some y) e e' = absurd (not_none other universe part y hangs e' e)
    by (Some x) None e e' = absurd (not_none universe other part x hangs' e e')
    by (Some x) (Some y) e e' =
        let le = at_most universe other up other_up part x y hangs hangs' e e' in
        let ge = at_most other universe other_up up part y x hangs' hangs e' e in
        let same : x ≡ y = omega arith in
        ap Some same

-- fixings are split alike whatever bounds the depth
module _ (universe other : List ℕ) (by : Fixing → Option ℕ) (free : (fixing : Fixing) (x : ℕ) → by fixing ≡ Some x → IsFree universe fixing x)
    (free' : (fixing : Fixing) (x : ℕ) → by fixing ≡ Some x → IsFree other fixing x) where
  abbrev two : ℕ → Fixing → Option ℕ → List Fixing
  two depth fixing o = option_map_or (λ c. settled depth by (with_present c fixing) ++ settled depth by (with_absent c fixing)) o (fixing ∷ [])

  no_more : (us : List ℕ) → ((fixing : Fixing) (x : ℕ) → by fixing ≡ Some x → IsFree us fixing x) → (depth : ℕ) (fixing : Fixing) → count_free us fixing ≤ 0
      → (o : Option ℕ) → by fixing ≡ o → two depth fixing o ≡ fixing ∷ []
  no_more us free depth fixing enough None e = refl
  no_more us free depth fixing enough (Some x) e = let lt = fewer_present us fixing x (free fixing x e) in absurd (omega arith)

  abbrev OneDepth : ℕ → ℕ → Type 0
  OneDepth n m = (fixing : Fixing) → count_free universe fixing ≤ n → count_free other fixing ≤ m → settled n by fixing ≡ settled m by fixing

  both_depths : (n m : ℕ) → OneDepth n m → (fixing : Fixing) → count_free universe fixing ≤ suc n → count_free other fixing ≤ suc m
      → (o : Option ℕ) → by fixing ≡ o → two n fixing o ≡ two m fixing o
  both_depths n m rest fixing enough enough' None e = refl
  both_depths n m rest fixing enough enough' (Some x) e =
      let less = fewer_present universe fixing x (free fixing x e) in
      let less' = fewer_present other fixing x (free' fixing x e) in
      let fewer = fewer_absent universe fixing x (free fixing x e) in
      let fewer' = fewer_absent other fixing x (free' fixing x e) in
      let first = rest (with_present x fixing) (omega arith) (omega arith) in
      let second = rest (with_absent x fixing) (omega arith) (omega arith) in
      λ i. first i ++ second i

  one_depth : (n m : ℕ) → OneDepth n m
  unfolding settled
  one_depth zero zero fixing enough enough' = refl
  one_depth zero (suc m) fixing enough enough' = sym (no_more universe free m fixing enough (by fixing) refl)
  one_depth (suc n) zero fixing enough enough' = no_more other free' n fixing enough' (by fixing) refl
  one_depth (suc n) (suc m) fixing enough enough' = both_depths n m (one_depth n m) fixing enough enough' (by fixing) refl

module _ (universe other : List ℕ) (up : IsAscending universe) (other_up : IsAscending other) (f : List ℕ → Option Imported) (plain : IsPlain universe f)
    (plain' : IsPlain other f) where
  -- a community outside both
  abbrev beyond : ℕ
  beyond = outside_of (universe ++ other)

  not_left : has universe beyond ≡ false
  not_left = by (has universe beyond) refl
    where
      by : (b : Bool) → has universe beyond ≡ b → b ≡ false
      by true e = let h = in_has (universe ++ other) beyond (in_left universe other beyond (has_in universe beyond e)) in
          absurd (let wrong : true ≡ false = sym h ∙ outside_not (universe ++ other) in cc)
      by false e = refl

  not_right : has other beyond ≡ false
  not_right = by (has other beyond) refl
    where
      by : (b : Bool) → has other beyond ≡ b → b ≡ false
      by true e = let h = in_has (universe ++ other) beyond (in_right universe other beyond (has_in other beyond e)) in
          absurd (let wrong : true ≡ false = sym h ∙ outside_not (universe ++ other) in cc)
      by false e = refl

  put_there : (us : List ℕ) → IsPlain us f → has us beyond ≡ false → (set : List ℕ) → carries f beyond (with_number beyond set) ≡ keeps f us set
  put_there us of none set =
      of.unnamed (with_number beyond set) beyond none
      ∙ ap (λ b. b && keeps f us (with_number beyond set)) (now_there beyond set)
      ∙ of.kept.same (with_number beyond set) set (outside_same us beyond none set)

  one_kept : (set : List ℕ) → keeps f universe set ≡ keeps f other set
  one_kept set = sym (put_there universe plain not_left set) ∙ put_there other plain' not_right set

  same_kept : keeps f universe ≡ keeps f other
  same_kept = fun_ext (λ (set : List ℕ). one_kept set)

  -- the communities of both
  abbrev keys : List ℕ
  keys = filter (has other) universe

  both_known : (c : ℕ) → has keys c ≡ has other c && has universe c
  both_known c = has-filter (has other) universe c

  of_left : (c : ℕ) → has keys c ≡ true → has universe c ≡ true
  of_left c h = by (has other c) (has universe c) (sym (both_known c) ∙ h)
    where
      by : (a b : Bool) → a && b ≡ true → b ≡ true
      by true b e = e
      by false b e = absurd cc

  of_right : (c : ℕ) → has keys c ≡ true → has other c ≡ true
  of_right c h = by (has other c) (has universe c) (sym (both_known c) ∙ h)
    where
      by : (a b : Bool) → a && b ≡ true → a ≡ true
      by true b e = refl
      by false b e = absurd cc

  -- one that is not of both follows while others are kept
  outside_one : (c : ℕ) → has keys c ≡ false → (set : List ℕ) → carries f c set ≡ has set c && keeps f universe set
  outside_one c none set = by (has other c) (has universe c) refl refl (sym (both_known c) ∙ none)
    where
      by : (a b : Bool) → has other c ≡ a → has universe c ≡ b → a && b ≡ false → carries f c set ≡ has set c && keeps f universe set
      by true true ea eb e = absurd cc
      by true false ea eb e = plain.unnamed set c eb
      by false b ea eb e = plain'.unnamed set c ea ∙ ap (λ k. has set c && k) (sym (one_kept set))

  outside_other : (c : ℕ) → has keys c ≡ false → (set : List ℕ) → carries f c set ≡ has set c && keeps f other set
  outside_other c none set = outside_one c none set ∙ ap (λ k. has set c && k) (one_kept set)

  keys_up : IsAscending keys
  keys_up = ascending_filter (has other) universe up

  one_number : (part : List ℕ → ℕ) (fixing : Fixing) → NumberHangsOn universe part → NumberHangsOn other part
      → least universe (λ set. part (agreeing fixing set)) ≡ least other (λ set. part (agreeing fixing set))
  one_number part fixing hangs hangs' =
      one_least universe other up other_up (λ set. part (agreeing fixing set)) (under_hangs universe part fixing hangs) (under_hangs other part fixing hangs')

  one_test : (test : List ℕ → Bool) (fixing : Fixing) → TestHangsOn universe test → TestHangsOn other test
      → least universe (λ set. yes (test (agreeing fixing set))) ≡ least other (λ set. yes (test (agreeing fixing set)))
  one_test test fixing hangs hangs' = one_number (λ set. yes (test set)) fixing (yes_hangs universe test hangs) (yes_hangs other test hangs')

  follow_from : (us vs : List ℕ) (fixing : Fixing) (c : ℕ) (test : List ℕ → Bool) → TestHangsOn us test → has us c ≡ true
      → follows us fixing c test ≡ true → follows vs fixing c test ≡ true
  unfolding follows
  follow_from us vs fixing c test hangs known e =
      all_are (λ set. beq (test (agreeing fixing set)) (has (agreeing fixing set) c)) (sets_of vs)
      (λ set h. bits_same (test (agreeing fixing set)) (has (agreeing fixing set) c) (follows_at us fixing c test hangs known e set))

  one_follows : (fixing : Fixing) (c : ℕ) → has keys c ≡ true → follows universe fixing c (carries f c) ≡ follows other fixing c (carries f c)
  one_follows fixing c known =
      same_truth (follows universe fixing c (carries f c)) (follows other fixing c (carries f c))
      (follow_from universe other fixing c (carries f c) (plain.carried c (of_left c known)) (of_left c known))
      (follow_from other universe fixing c (carries f c) (plain'.carried c (of_right c known)) (of_right c known))

  one_community : (fixing : Fixing) (c : ℕ) → has keys c ≡ true
      → unsettled universe (keeps f universe) fixing (community c (carries f c)) ≡ unsettled other (keeps f other) fixing (community c (carries f c))
  one_community fixing c known =
      let k = one_kept (agreeing fixing []) in
      let w = one_follows fixing c known in
      let l = one_test (carries f c) fixing (plain.carried c (of_left c known)) (plain'.carried c (of_right c known)) in
      λ i. if k i && w i then None else l i

  one_parts : (fixing : Fixing) (cs : List ℕ) → ((c : ℕ) → In cs c → has keys c ≡ true)
      → first_unsettled (unsettled universe (keeps f universe) fixing) (in_parts universe f cs)
      ≡ first_unsettled (unsettled other (keeps f other) fixing) (in_parts other f cs)
  one_parts fixing [] known = refl
  one_parts fixing (c ∷ cs) known =
      let first = one_community fixing c (known c (inl refl)) in
      let rest = one_parts fixing cs (λ d h. known d (inr h)) in
      λ i. option_or (first i) (rest i)

  one_split : (fixing : Fixing) → split universe (asked_of universe f keys) fixing ≡ split other (asked_of other f keys) fixing
  unfolding split
  one_split fixing =
      let a = one_test (accepts f) fixing plain.accepted plain'.accepted in
      let k : least universe (λ set. yes (keeps f universe (agreeing fixing set))) ≡ least other (λ set. yes (keeps f other (agreeing fixing set))) =
      one_test (keeps f universe) fixing plain.kept (subst (TestHangsOn other) (sym same_kept) plain'.kept)
      ∙ ap (λ (kept : List ℕ → Bool). least other (λ set. yes (kept (agreeing fixing set)))) same_kept in
      let p = one_number (preference f) fixing plain.lp plain'.lp in
      let c = one_parts fixing keys (λ c h. in_has keys c h) in
      λ i. option_or (a i) (if accepts f (agreeing fixing []) then option_or (k i) (option_or (p i) (c i)) else None)

  in_splits : split universe (in_asked universe f) ≡ split other (in_asked other f)
  in_splits =
      sym (splits_same universe f plain keys of_left outside_one up keys_up)
      ∙ fun_ext (λ (fixing : Fixing). one_split fixing)
      ∙ splits_same other f plain' keys of_right outside_other other_up keys_up

  out_split : (fixing : Fixing) → split universe (out_asked universe f) fixing ≡ split other (out_asked other f) fixing
  unfolding split
  out_split fixing =
      let a = one_test (accepts f) fixing plain.accepted plain'.accepted in
      let n = one_number (added_count f) fixing plain.adds plain'.adds in
      λ i. option_or (a i) (if accepts f (agreeing fixing []) then option_or (n i) None else None)

  out_splits : split universe (out_asked universe f) ≡ split other (out_asked other f)
  out_splits = fun_ext (λ (fixing : Fixing). out_split fixing)

  fixings : (asked asked' : Asked) → split universe asked ≡ split other asked'
      → ((fixing : Fixing) (x : ℕ) → split universe asked fixing ≡ Some x → IsFree universe fixing x)
      → ((fixing : Fixing) (x : ℕ) → split other asked' fixing ≡ Some x → IsFree other fixing x)
      → settled (length universe) (split universe asked) nothing_fixed ≡ settled (length other) (split other asked') nothing_fixed
  fixings asked asked' same free free' =
      one_depth universe other (split universe asked) free (λ fixing x e. free' fixing x (ap (λ (by : Fixing → Option ℕ). by fixing) (sym same) ∙ e))
      (length universe) (length other) nothing_fixed (count_free-start universe) (count_free-start other)
      ∙ ap (λ (by : Fixing → Option ℕ). settled (length other) by nothing_fixed) same

  in_fixings : settled (length universe) (split universe (in_asked universe f)) nothing_fixed
      ≡ settled (length other) (split other (in_asked other f)) nothing_fixed
  in_fixings =
      fixings (in_asked universe f) (in_asked other f) in_splits
      (λ fixing x e. split_free universe (in_asked universe f) fixing x (in_asked_hangs universe f plain) e)
      (λ fixing x e. split_free other (in_asked other f) fixing x (in_asked_hangs other f plain') e)

  out_fixings : settled (length universe) (split universe (out_asked universe f)) nothing_fixed
      ≡ settled (length other) (split other (out_asked other f)) nothing_fixed
  out_fixings =
      fixings (out_asked universe f) (out_asked other f) out_splits
      (λ fixing x e. split_free universe (out_asked universe f) fixing x (out_asked_hangs universe f plain) e)
      (λ fixing x e. split_free other (out_asked other f) fixing x (out_asked_hangs other f plain') e)

  -- what an entry names is of both
  both_filter : (p : ℕ → Bool) → ((c : ℕ) → has keys c ≡ false → p c ≡ false) → filter p universe ≡ filter p other
  both_filter p none =
      one_list (filter p universe) (filter p other) (ascending_filter p universe up) (ascending_filter p other other_up)
      (λ c. has-filter p universe c ∙ by c (has other c) (has universe c) refl refl (none c) ∙ sym (has-filter p other c))
    where
      off : (b : Bool) → b ≡ false → (u v : Bool) → b && u ≡ b && v
      off b e u v = rw e refl

      by : (c : ℕ) (a b : Bool) → has other c ≡ a → has universe c ≡ b → (has keys c ≡ false → p c ≡ false) → p c && has universe c ≡ p c && has other c
      by c true true ea eb none = rw (ea, eb) refl
      by c true false ea eb none = off (p c) (none (both_known c ∙ rw (ea, eb) refl)) (has universe c) (has other c)
      by c false b ea eb none = off (p c) (none (both_known c ∙ rw ea refl)) (has universe c) (has other c)

  module _ (fixing : Fixing) where
    carried_is : (k : Bool) → keeps f universe fixing.present ≡ k → (c : ℕ) → has keys c ≡ false → always_carried f fixing c ≡ has fixing.present c && k
    carried_is k e c none = outside_one c none fixing.present ∙ ap (λ b. has fixing.present c && b) e

    not_added : keeps f universe fixing.present ≡ true → (c : ℕ) → has keys c ≡ false → is_added f fixing c ≡ false
    not_added e c none = ap (λ b. b && not (has fixing.present c)) (carried_is true e c none) ∙ by (has fixing.present c)
      where
        by : (b : Bool) → (b && true) && not b ≡ false
        by true = refl
        by false = refl

    not_carried : keeps f universe fixing.present ≡ false → (c : ℕ) → has keys c ≡ false → always_carried f fixing c ≡ false
    not_carried e c none = carried_is false e c none ∙ by (has fixing.present c)
      where
        by : (b : Bool) → b && false ≡ false
        by true = refl
        by false = refl

    still_kept : (c : ℕ) → has keys c ≡ false → keeps f universe (with_number c fixing.present) ≡ keeps f universe fixing.present
    still_kept c none = by (has other c) (has universe c) refl refl (sym (both_known c) ∙ none)
      where
        by : (a b : Bool) → has other c ≡ a → has universe c ≡ b → a && b ≡ false
            → keeps f universe (with_number c fixing.present) ≡ keeps f universe fixing.present
        by true true ea eb e = absurd cc
        by true false ea eb e = plain.kept.same (with_number c fixing.present) fixing.present (outside_same universe c eb fixing.present)
        by false b ea eb e =
            one_kept (with_number c fixing.present) ∙ plain'.kept.same (with_number c fixing.present) fixing.present (outside_same other c ea fixing.present)
            ∙ sym (one_kept fixing.present)

    not_deleted : keeps f universe fixing.present ≡ true → (c : ℕ) → has keys c ≡ false → is_removed f fixing c ≡ false
    not_deleted e c none = ap (λ b. not (has fixing.absent c) && not b) stays ∙ by (has fixing.absent c)
      where
        stays : carries f c (with_number c fixing.present) ≡ true
        stays =
            outside_one c none (with_number c fixing.present)
            ∙ ap (λ b. b && keeps f universe (with_number c fixing.present)) (now_there c fixing.present)
            ∙ still_kept c none ∙ e

        by : (b : Bool) → not b && not true ≡ false
        by true = refl
        by false = refl

    abbrev change_by : List ℕ → Bool → Option Change
    change_by us k = if k then addition_of (filter (is_added f fixing) us) else replacement_by (filter (always_carried f fixing) us)

    abbrev delete_by : List ℕ → Bool → Option CommunityList
    delete_by us k = if k then deletion_of (filter (is_removed f fixing) us) else None

    change_same : (k : Bool) → keeps f universe fixing.present ≡ k → change_by universe k ≡ change_by other k
    change_same true e = ap addition_of (both_filter (is_added f fixing) (not_added e))
    change_same false e = ap replacement_by (both_filter (always_carried f fixing) (not_carried e))

    delete_same : (k : Bool) → keeps f universe fixing.present ≡ k → delete_by universe k ≡ delete_by other k
    delete_same true e = ap deletion_of (both_filter (is_removed f fixing) (not_deleted e))
    delete_same false e = refl

    one_change : canonical_change universe f fixing ≡ canonical_change other f fixing
    one_change = change_same (keeps f universe fixing.present) refl ∙ ap (change_by other) (one_kept fixing.present)

    one_deletion : deletion_for universe f fixing ≡ deletion_for other f fixing
    one_deletion = delete_same (keeps f universe fixing.present) refl ∙ ap (delete_by other) (one_kept fixing.present)

  entry_by : (seq : ℕ) (fixing : Fixing) (b : Bool) → in_by universe f b seq fixing ≡ in_by other f b seq fixing
  entry_by seq fixing true =
      let change = one_change fixing in
      let delete = one_deletion fixing in
      λ i. record {
        seq = seq;
        permit = true;
        lists = match_of fixing.present;
        lp = lp_of (preference f fixing.present - 1);
        change = change i;
        delete = delete i;
        adds = 0;
        exact = false;
      }
  entry_by seq fixing false = refl

  one_entry : in_entry universe f ≡ in_entry other f
  one_entry = fun_ext (λ (seq : ℕ). fun_ext (λ (fixing : Fixing). entry_by seq fixing (accepts f fixing.present)))

  one_in : in_list universe f ≡ in_list other f
  one_in = let e = one_entry in let s = in_fixings in λ i. limited (numbered_from 1 (e i) (s i))

  few_from : (us vs : List ℕ) → IsPlain us f → adds_nothing us f ≡ true → adds_nothing vs f ≡ true
  unfolding adds_nothing
  few_from us vs of e =
      all_are (λ (set : List ℕ). nat_lt (added_count f set) 2) (sets_of vs)
      (λ set h. ap (λ n. nat_lt n 2) (sym (of.adds.same (named us set) set (named_same us set)))
      ∙ all_in (λ (s : List ℕ). nat_lt (added_count f s) 2) (sets_of us) (named us set) e (filtered_in (has set) us))

  one_adds : adds_nothing universe f ≡ adds_nothing other f
  one_adds = same_truth (adds_nothing universe f) (adds_nothing other f) (few_from universe other plain) (few_from other universe plain')

  one_out : out_list universe f ≡ out_list other f
  one_out = let a = one_adds in let s = out_fixings in λ i. if a i then Some passing else limited (numbered_from 1 (out_entry f) (s i))

  pub one_canonical : canonical_of universe f ≡ canonical_of other f
  unfolding canonical_of
  one_canonical =
      let a = plain_not_depends universe f plain in
      let b = plain_not_depends other f plain' in
      let d : depends_on_others universe f ≡ depends_on_others other f = a ∙ sym b in
      let o = one_out in
      let n = one_in in
      λ i. if d i then None else lists_of (o i) (n i)
