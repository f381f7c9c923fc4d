-- Items put into groups one after the other: each group is led by its first item.
use Rattle.std.proofs.Common.{◌≡◌, Bool, true, false, cond, not, ◌&&◌, ◌||◌, List, [], ◌∷◌, ◌++◌, map, refl, sym, ◌∙◌, ap, subst, true≢false, append_assoc, append-nil}
use Rattle.std.specs.Prelude.{filter}
use Rattle.std.specs.List.{list_any}
use Rattle.std.specs.Bool.{beq}
use Rattle.std.proofs.lemmas.List.Folds.{list_any-append}
use Rattle.std.proofs.lemmas.List.{map-append}
use Rattle.std.proofs.lemmas.List.Elements.{filter-append}
use Rattle.base_kit.specs.Prefixes.{Prefix}
use Rattle.cfg_ast.specs.declared.network.Network.{Network}
use Rattle.cfg_ast.specs.declared.classes.Origin.{Origin}
use Rattle.cfg_ast.specs.declared.policy.PrefixList.{PrefixList}
use Rattle.cfg_ast.specs.meaning.Classes.{is_before, AllAfter, AreAscending, is_same_class, is_least, same_items, same_origin, originated, origins_of, answers_of, class_of, classes_of}
use Rattle.cfg_ast.proofs.PrefixSets.{not_before_self, not_before_back}
use Rattle.cfg_ast.proofs.ClassFacts.{one_class, is_one_class, originated_ascends}
use Rattle.dest_classes.specs.Cells.{alike_to}
use Rattle.dest_classes.proofs.Traits.{traits_of, same_traits, Likes, with_like, with_likes, class_of_likes}
use Rattle.dest_classes.proofs.Bools.{by_both}

or_false : (b : Bool) → (b || false) ≡ b
or_false true = refl
or_false false = refl

-- groups by what some lists answer; these answer alike exactly if all lists do
module _ (network : Network) (lists : List PrefixList)
    (asked : (p q : Prefix) → alike_to lists p q ≡ same_items beq (answers_of network p) (answers_of network q)) where
  abbrev alike : Prefix → Prefix → Bool
  alike p q = is_same_class network p q

  alike_self : (p : Prefix) → alike p p ≡ true
  alike_self p = is_one_class network p p (record { origins = refl; answers = refl })

  alike_back : (p q : Prefix) → alike p q ≡ true → alike q p ≡ true
  alike_back p q e = let s = one_class network p q e in is_one_class network q p (record { origins = sym s.origins; answers = sym s.answers })

  alike_trans : (p q r : Prefix) → alike p q ≡ true → alike q r ≡ true → alike p r ≡ true
  alike_trans p q r e f =
      let s = one_class network p q e in let t = one_class network q r f in
      is_one_class network p r (record { origins = s.origins ∙ t.origins; answers = s.answers ∙ t.answers })

  alike_sym : (p q : Prefix) → alike p q ≡ alike q p
  alike_sym p q = by_both (alike p q) (alike q p) (alike_back p q) (alike_back q p)

  -- members of one class are alike to the same prefixes
  alike_same : (p q r : Prefix) → alike p q ≡ true → alike r p ≡ alike r q
  alike_same p q r e = by_both (alike r p) (alike r q) (λ f. alike_trans r p q f e) (λ f. alike_trans r q p f (alike_back p q e))

  abbrev group_in : List Prefix → Prefix → Likes
  group_in ps p = record { traits = traits_of network lists p; prefixes = filter (alike p) ps }

  -- the leaders once one more prefix came
  abbrev led_by : List Prefix → Prefix → List Prefix
  led_by leaders p = cond (list_any (alike p) leaders) leaders (leaders ++ p ∷ [])

  abbrev leaders_from : List Prefix → List Prefix → List Prefix
  leaders_from leaders [] = leaders
  leaders_from leaders (p ∷ ps) = leaders_from (led_by leaders p) ps

  -- no two leaders are alike
  abbrev AreApart : List Prefix → Type 0
  AreApart [] = Unit {0}
  AreApart (p ∷ ps) = (list_any (alike p) ps ≡ false) × AreApart ps

  -- each prefix so far has a leader
  abbrev AreLed : List Prefix → List Prefix → Type 0
  AreLed ps leaders = (q : Prefix) → list_any (alike q) ps ≡ list_any (alike q) leaders

  traits_alike : (p q : Prefix) → same_traits (traits_of network lists p) (traits_of network lists q) ≡ alike p q
  unfolding is_same_class
  traits_alike p q = ap (λ b. same_items same_origin (origins_of network p) (origins_of network q) && b) (asked p q)

  any_same : (p q : Prefix) → alike p q ≡ true → (ls : List Prefix) → list_any (alike p) ls ≡ list_any (alike q) ls
  any_same p q e [] = refl
  any_same p q e (r ∷ rs) = ap (λ b. b || list_any (alike p) rs) (alike_sym p r ∙ alike_same p q r e ∙ alike_sym r q)
      ∙ ap (λ b. alike q r || b) (any_same p q e rs)

  grown : (done : List Prefix) (x l : Prefix) (b : Bool) → alike l x ≡ b → filter (alike l) (done ++ x ∷ []) ≡ filter (alike l) done ++ cond b (x ∷ []) []
  grown done x l b e = filter-append (alike l) done (x ∷ []) ∙ ap (λ c. filter (alike l) done ++ cond c (x ∷ []) []) e

  abbrev with_prefixes_in : Prefix → List Prefix → Likes
  with_prefixes_in l ps = record { traits = traits_of network lists l; prefixes = ps }

  not_grown : (done : List Prefix) (x l : Prefix) → alike l x ≡ false → group_in done l ≡ group_in (done ++ x ∷ []) l
  not_grown done x l e = ap (with_prefixes_in l) (sym (grown done x l false e ∙ append-nil (filter (alike l) done)))

  first_false : (a b : Bool) → (a || b) ≡ false → a ≡ false
  first_false true b e = absurd (true≢false e)
  first_false false b e = refl

  second_false : (a b : Bool) → (a || b) ≡ false → b ≡ false
  second_false true b e = absurd (true≢false e)
  second_false false b e = e

  none_grown : (done : List Prefix) (x : Prefix) (ls : List Prefix) → list_any (alike x) ls ≡ false →
      map (group_in done) ls ≡ map (group_in (done ++ x ∷ [])) ls
  none_grown done x [] none = refl
  none_grown done x (l ∷ ls) none =
      ap (λ g. g ∷ map (group_in done) ls) (not_grown done x l (alike_sym l x ∙ first_false (alike x l) (list_any (alike x) ls) none))
      ∙ ap (λ gs. group_in (done ++ x ∷ []) l ∷ gs) (none_grown done x ls (second_false (alike x l) (list_any (alike x) ls) none))

  abbrev put : List Prefix → Prefix → List Prefix → List Likes
  put done x ls = with_like (traits_of network lists x) x (map (group_in done) ls)

  -- where no leader is alike, a new group comes last
  not_led : (done : List Prefix) (x : Prefix) (ls : List Prefix) → list_any (alike x) ls ≡ false → put done x ls ≡ map (group_in (done ++ x ∷ [])) ls
      ++ with_prefixes_in x (x ∷ []) ∷ []
  not_led done x [] none = refl
  not_led done x (l ∷ ls) none =
      let other : alike x l ≡ false = first_false (alike x l) (list_any (alike x) ls) none in
      ap (λ b. cond b (with_prefixes_in l (filter (alike l) done ++ x ∷ []) ∷ map (group_in done) ls) (group_in done l ∷ put done x ls))
      (traits_alike x l ∙ other)
      ∙ ap (λ g. g ∷ put done x ls) (not_grown done x l (alike_sym l x ∙ other))
      ∙ ap (λ gs. group_in (done ++ x ∷ []) l ∷ gs) (not_led done x ls (second_false (alike x l) (list_any (alike x) ls) none))

  -- where one is, its group has one more
  led : (done : List Prefix) (x : Prefix) (ls : List Prefix) → AreApart ls → list_any (alike x) ls ≡ true → put done x ls ≡ map (group_in (done ++ x ∷ [])) ls
  led done x [] apart some = absurd (true≢false (sym some))
  led done x (l ∷ ls) apart some = step (alike x l) refl some (led done x ls apart.1) where
    step : (b : Bool) → alike x l ≡ b → (b || list_any (alike x) ls) ≡ true →
        (list_any (alike x) ls ≡ true → put done x ls ≡ map (group_in (done ++ x ∷ [])) ls) → put done x (l ∷ ls) ≡ map (group_in (done ++ x ∷ [])) (l ∷ ls)
    step true e some rest =
        ap (λ b. cond b (with_prefixes_in l (filter (alike l) done ++ x ∷ []) ∷ map (group_in done) ls) (group_in done l ∷ put done x ls))
        (traits_alike x l ∙ e)
        ∙ ap (λ ps. with_prefixes_in l ps ∷ map (group_in done) ls) (sym (grown done x l true (alike_sym l x ∙ e)))
        ∙ ap (λ gs. group_in (done ++ x ∷ []) l ∷ gs) (none_grown done x ls (any_same x l e ls ∙ apart.0))
    step false e some rest =
        ap (λ b. cond b (with_prefixes_in l (filter (alike l) done ++ x ∷ []) ∷ map (group_in done) ls) (group_in done l ∷ put done x ls))
        (traits_alike x l ∙ e)
        ∙ ap (λ g. g ∷ put done x ls) (not_grown done x l (alike_sym l x ∙ e)) ∙ ap (λ gs. group_in (done ++ x ∷ []) l ∷ gs) (rest some)

  none_kept : (x : Prefix) (ps : List Prefix) → list_any (alike x) ps ≡ false → filter (alike x) ps ≡ []
  none_kept x [] none = refl
  none_kept x (p ∷ ps) none = ap (λ b. cond b (p ∷ filter (alike x) ps) (filter (alike x) ps)) (first_false (alike x p) (list_any (alike x) ps) none)
      ∙ none_kept x ps (second_false (alike x p) (list_any (alike x) ps) none)

  put_is : (done : List Prefix) (x : Prefix) (ls : List Prefix) → AreApart ls → AreLed done ls → put done x ls ≡ map (group_in (done ++ x ∷ [])) (led_by ls x)
  put_is done x ls apart are_led = step (list_any (alike x) ls) refl where
    step : (b : Bool) → list_any (alike x) ls ≡ b → put done x ls ≡ map (group_in (done ++ x ∷ [])) (cond b ls (ls ++ x ∷ []))
    step true e = led done x ls apart e
    step false e =
        let alone : filter (alike x) (done ++ x ∷ []) ≡ x ∷ [] = grown done x x true (alike_self x)
        ∙ ap (λ ps. ps ++ x ∷ []) (none_kept x done (are_led x ∙ e)) in
        not_led done x ls e ∙ ap (λ ps. map (group_in (done ++ x ∷ [])) ls ++ with_prefixes_in x ps ∷ []) (sym alone)
        ∙ sym (map-append (group_in (done ++ x ∷ [])) ls (x ∷ []))

  apart_more : (x : Prefix) (ls : List Prefix) → AreApart ls → list_any (alike x) ls ≡ false → AreApart (ls ++ x ∷ [])
  apart_more x [] apart none = (refl, tt)
  apart_more x (l ∷ ls) apart none =
      let other : alike l x ≡ false = alike_sym l x ∙ first_false (alike x l) (list_any (alike x) ls) none in (
        list_any-append (alike l) ls (x ∷ []) ∙ ap (λ b. list_any (alike l) ls || (b || false)) other
            ∙ ap (λ b. b || false) apart.0,
        apart_more x ls apart.1 (second_false (alike x l) (list_any (alike x) ls) none),
      )

  apart_led : (x : Prefix) (ls : List Prefix) → AreApart ls → AreApart (led_by ls x)
  apart_led x ls apart = step (list_any (alike x) ls) refl where
    step : (b : Bool) → list_any (alike x) ls ≡ b → AreApart (cond b ls (ls ++ x ∷ []))
    step true e = apart
    step false e = apart_more x ls apart e

  one_more_led : (done : List Prefix) (x : Prefix) (ls : List Prefix) → AreLed done ls → AreLed (done ++ x ∷ []) (led_by ls x)
  one_more_led done x ls are_led q = list_any-append (alike q) done (x ∷ []) ∙ ap (λ b. b || (alike q x || false)) (are_led q)
      ∙ step (list_any (alike x) ls) refl where
        known : (b : Bool) → alike q x ≡ b → list_any (alike x) ls ≡ true → (list_any (alike q) ls || (b || false)) ≡ list_any (alike q) ls
        known true e some = let all : list_any (alike q) ls ≡ true = any_same q x e ls ∙ some in ap (λ b. b || true) all ∙ sym all
        known false e some = or_false (list_any (alike q) ls)

        step : (b : Bool) → list_any (alike x) ls ≡ b → (list_any (alike q) ls || (alike q x || false)) ≡ list_any (alike q) (cond b ls (ls ++ x ∷ []))
        step true e = known (alike q x) refl e
        step false e = sym (list_any-append (alike q) ls (x ∷ []))

  abbrev entry_of : Prefix → Prefix × List Origin
  entry_of p = (p, origins_of network p)

  members_are : (more done ls : List Prefix) → AreApart ls → AreLed done ls →
      with_likes lists (map entry_of more) (map (group_in done) ls) ≡ map (group_in (done ++ more)) (leaders_from ls more)
  members_are [] done ls apart are_led = ap (λ ps. map (group_in ps) ls) (sym (append-nil done))
  members_are (x ∷ more) done ls apart are_led =
      ap (with_likes lists (map entry_of more)) (put_is done x ls apart are_led)
      ∙ members_are more (done ++ x ∷ []) (led_by ls x) (apart_led x ls apart) (one_more_led done x ls are_led)
      ∙ ap (λ ps. map (group_in ps) (leaders_from (led_by ls x) more)) (append_assoc done (x ∷ []) more)

  abbrev is_least_in : List Prefix → Prefix → Bool
  is_least_in all p = not (list_any (λ q. is_before q p && alike q p) all)

  none_after : (x : Prefix) (more : List Prefix) → AllAfter x more → list_any (λ q. is_before q x && alike q x) more ≡ false
  none_after x [] after = refl
  none_after x (q ∷ more) after = ap (λ b. b && alike q x || list_any (λ q. is_before q x && alike q x) more) (not_before_back x q after.0)
      ∙ none_after x more after.1

  before_next : (d : Prefix) (ds : List Prefix) (x : Prefix) (more : List Prefix) → AllAfter d (ds ++ x ∷ more) → is_before d x ≡ true
  before_next d [] x more after = after.0
  before_next d (e ∷ ds) x more after = before_next d ds x more after.1

  any_before : (done : List Prefix) (x : Prefix) (more : List Prefix) → AreAscending (done ++ x ∷ more) →
      list_any (λ q. is_before q x && alike q x) (done ++ x ∷ more) ≡ list_any (alike x) done
  any_before [] x more up = ap (λ b. b && alike x x || list_any (λ q. is_before q x && alike q x) more) (not_before_self x) ∙ none_after x more up.0
  any_before (d ∷ done) x more up =
      ap (λ b. b && alike d x || list_any (λ q. is_before q x && alike q x) (done ++ x ∷ more)) (before_next d done x more up.0)
      ∙ ap (λ b. b || list_any (λ q. is_before q x && alike q x) (done ++ x ∷ more)) (alike_sym d x) ∙ ap (λ b. alike x d || b) (any_before done x more up.1)

  leaders_are : (more done all : List Prefix) → all ≡ done ++ more → AreAscending all → AreLed done (filter (is_least_in all) done) →
      leaders_from (filter (is_least_in all) done) more ≡ filter (is_least_in all) all
  leaders_are [] done all same up are_led = ap (filter (is_least_in all)) (sym (append-nil done) ∙ sym same)
  leaders_are (x ∷ more) done all same up are_led =
      ap (λ ls. leaders_from ls more) next ∙ leaders_are more (done ++ x ∷ []) all (same ∙ sym (append_assoc done (x ∷ []) more)) up
      (λ q. one_more_led done x (filter (is_least_in all) done) are_led q ∙ ap (λ ls. list_any (alike q) ls) next) where
        earlier : list_any (λ q. is_before q x && alike q x) all ≡ list_any (alike x) (filter (is_least_in all) done)
        earlier = ap (list_any (λ q. is_before q x && alike q x)) same ∙ any_before done x more (subst AreAscending same up) ∙ are_led x

        joined : (b : Bool) (ls : List Prefix) → cond b ls (ls ++ x ∷ []) ≡ ls ++ cond (not b) (x ∷ []) []
        joined true ls = sym (append-nil ls)
        joined false ls = refl

        next : led_by (filter (is_least_in all) done) x ≡ filter (is_least_in all) (done ++ x ∷ [])
        next =
            joined (list_any (alike x) (filter (is_least_in all) done)) (filter (is_least_in all) done)
            ∙ ap (λ b. filter (is_least_in all) done ++ cond (not b) (x ∷ []) []) (sym earlier) ∙ sym (filter-append (is_least_in all) done (x ∷ []))

  each_class : (all ls : List Prefix) → all ≡ originated network → map class_of_likes (map (group_in all) ls) ≡ map (class_of network) ls
  each_class all [] same = refl
  each_class all (p ∷ ps) same = ap (λ qs. class_of_likes (with_prefixes_in p (filter (alike p) qs)) ∷ map class_of_likes (map (group_in all) ps)) same
      ∙ ap (λ cs. class_of network p ∷ cs) (each_class all ps same)

  pub classes_are : map class_of_likes (with_likes lists (map entry_of (originated network)) []) ≡ classes_of network
  unfolding classes_of
  classes_are =
      ap (map class_of_likes) (members_are (originated network) [] [] tt (λ q. refl)
      ∙ ap (map (group_in (originated network))) (leaders_are (originated network) [] (originated network) refl (originated_ascends network) (λ q. refl)))
      ∙ each_class (originated network) (filter (is_least network) (originated network)) refl
