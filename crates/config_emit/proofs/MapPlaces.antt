-- The places of maps among maps that say different things.
use Rattle.std.proofs.Common.{◌≡◌, ℕ, suc, ◌+◌, Bool, true, false, cond, not, ◌||◌, List, [], ◌∷◌, ◌++◌, length, Option, Some, None, refl, sym, ◌∙◌, ap, arith}
use Rattle.std.specs.Global.{Vec}
use Rattle.std.specs.HashMap.{get}
use Rattle.std.specs.List.{list_any, position_or_len}
use Rattle.std.specs.Option.{option_or}
use Rattle.cfg_ast.proofs.ClassFacts.{Tells}
use Rattle.route_maps.specs.Same.{same_map}
use Rattle.route_maps.specs.declared.plain.Plain.{Plain}
use Rattle.config_emit.specs.MapKeys.{shown, said_of_map, is_map, same_keys}
use Rattle.config_emit.specs.MapNumbers.{NumbersByKey, place_from, says_key, AreNumbers, with_map, place_of_map}
use Rattle.config_emit.specs.declared.map_keys.EntryKey.{EntryKey}
use Rattle.config_emit.proofs.KeyEq.{keys_same, said_maps, maps_tell}

-- ---- places

pub place_append : {X : Type 0} (test : X → Bool) (n : ℕ) (xs : List X) (x : X) →
    place_from test n (xs ++ x ∷ []) ≡ option_or (place_from test n xs) (cond (test x) (Some (n + length xs)) None)
place_append test n [] x = ap (λ k. cond (test x) (Some k) None) (let none : n ≡ n + 0 = omega arith in none)
place_append {X} test n (y ∷ ys) x = step
    (place_append test (n + 1) ys x ∙ ap (λ k. option_or (place_from test (n + 1) ys) (cond (test x) (Some k) None))
    (let same : n + 1 + length ys ≡ n + suc (length ys) = omega arith in same)) (test y) where
      step : place_from test (n + 1) (ys ++ x ∷ []) ≡ option_or (place_from test (n + 1) ys) (cond (test x) (Some (n + suc (length ys))) None)
          → (b : Bool) → cond b (Some n) (place_from test (n + 1) (ys ++ x ∷ [])) ≡ option_or (cond b (Some n) (place_from test (n + 1) ys))
          (cond (test x) (Some (n + suc (length ys))) None)
      step later true = refl
      step later false = later

pub place_ext : {X : Type 0} (p q : X → Bool) (n : ℕ) (xs : List X) → ((x : X) → p x ≡ q x) → place_from p n xs ≡ place_from q n xs
place_ext p q n [] same = refl
place_ext p q n (x ∷ xs) same = ap (λ b. cond b (Some n) (place_from p (n + 1) xs)) (same x) ∙ ap (λ o. cond (q x) (Some n) o) (place_ext p q (n + 1) xs same)

pub position_cons : {X : Type 0} (test : X → Bool) (x : X) (xs : List X) → position_or_len test (x ∷ xs) ≡ cond (test x) 0 (suc (position_or_len test xs))
position_cons {X} test x xs = step (test x) where
  step : (b : Bool) → cond (not b) (1 + position_or_len test xs) 0 ≡ cond b 0 (suc (position_or_len test xs))
  step true = refl
  step false = omega arith

pub record StandsAt {X : Type 0} (test : X → Bool) (n : ℕ) (xs : List X) (k : ℕ) : Type 0 where
  pub any : list_any test xs ≡ true
  pub at : n + position_or_len test xs ≡ k

pub placed : {X : Type 0} (test : X → Bool) (n : ℕ) (xs : List X) (k : ℕ) → place_from test n xs ≡ Some k → StandsAt test n xs k
placed test n [] k e = absurd cc
placed {X} test n (x ∷ xs) k e = step (placed test (n + 1) xs k) (test x) refl e where
  step : (place_from test (n + 1) xs ≡ Some k → StandsAt test (n + 1) xs k) → (b : Bool) → test x ≡ b → cond b (Some n) (place_from test (n + 1) xs) ≡ Some k →
      StandsAt test n (x ∷ xs) k
  step later true is here = record {
    any = ap (λ b. b || list_any test xs) is;
    at = (let same : n ≡ k = cc in let zero_there : position_or_len test (x ∷ xs) ≡ 0 = position_cons test x xs
        ∙ ap (λ b. cond b 0 (suc (position_or_len test xs))) is in omega (arith, same, zero_there));
  }
  step later false is here = record {
    any = ap (λ b. b || list_any test xs) is ∙ (later here).any;
    at = (let after : position_or_len test (x ∷ xs) ≡ suc (position_or_len test xs) = position_cons test x xs
        ∙ ap (λ b. cond b 0 (suc (position_or_len test xs))) is in let at = (later here).at in omega (arith, after, at));
  }

pub absent : {X : Type 0} (test : X → Bool) (n : ℕ) (xs : List X) → place_from test n xs ≡ None → list_any test xs ≡ false
absent test n [] e = refl
absent {X} test n (x ∷ xs) e = step (absent test (n + 1) xs) (test x) e where
  step : (place_from test (n + 1) xs ≡ None → list_any test xs ≡ false) → (b : Bool) → cond b (Some n) (place_from test (n + 1) xs) ≡ None →
      (b || list_any test xs) ≡ false
  step later true here = absurd cc
  step later false here = later here

-- the first that passes stands last
pub position_last : {X : Type 0} (test : X → Bool) (xs : List X) (x : X) → list_any test xs ≡ false → test x ≡ true →
    position_or_len test (xs ++ x ∷ []) ≡ length xs
position_last test [] x none here = position_cons test x [] ∙ ap (λ b. cond b 0 1) here
position_last {X} test (y ∷ ys) x none here = position_cons test y (ys ++ x ∷ []) ∙ step (position_last test ys x) (test y) none where
  step : (list_any test ys ≡ false → test x ≡ true → position_or_len test (ys ++ x ∷ []) ≡ length ys) → (b : Bool) → (b || list_any test ys) ≡ false →
      cond b 0 (suc (position_or_len test (ys ++ x ∷ []))) ≡ suc (length ys)
  step later true at = absurd cc
  step later false at = ap suc (later at here)

-- ---- what maps say

pub tells_turned : {X : Type 0} (p : X → X → Bool) → Tells p → (x y : X) → p x y ≡ p y x
tells_turned {X} p t x y = step (p x y) (p y x) refl refl where
  step : (a b : Bool) → p x y ≡ a → p y x ≡ b → a ≡ b
  step true true e f = refl
  step false false e f = refl
  step true false e f = sym (sym f ∙ ap (p y) (t.one x y e) ∙ t.self y)
  step false true e f = sym e ∙ ap (p x) (t.one y x f) ∙ t.self x

pub one_said : (m n : Plain) → same_map m n ≡ true → said_of_map m ≡ said_of_map n
one_said m n e = maps_tell.one (said_of_map m) (said_of_map n) (sym (said_maps m n) ∙ e)

pub same_self : (m : Plain) → same_map m m ≡ true
same_self m = said_maps m m ∙ maps_tell.self (said_of_map m)

pub same_turned : (m n : Plain) → same_map m n ≡ same_map n m
same_turned m n = said_maps m n ∙ tells_turned is_map maps_tell (said_of_map m) (said_of_map n) ∙ sym (said_maps n m)

-- maps that are the same are the same as the same maps
pub same_as : (m n k : Plain) → same_map m n ≡ true → same_map m k ≡ same_map n k
same_as m n k e = said_maps m k ∙ ap (λ s. is_map s (said_of_map k)) (one_said m n e) ∙ sym (said_maps n k)

says_same : (key : Vec EntryKey) (m n : Plain) → shown key ≡ said_of_map m → says_key key n ≡ same_map m n
says_same key m n is = ap (λ s. is_map s (said_of_map n)) is ∙ sym (said_maps m n)

-- ---- one map more

pub record IsNumbered (maps more : List Plain) (m : Plain) (k : ℕ) : Type 0 where
  pub grown : more ≡ with_map m maps
  pub number : k ≡ place_of_map more m

pub known : (maps : List Plain) (m : Plain) (key : Vec EntryKey) (k : ℕ) → shown key ≡ said_of_map m → place_from (says_key key) 0 maps ≡ Some k
    → IsNumbered maps maps m k
known maps m key k is there =
    let at = placed (same_map m) 0 maps k (sym (place_ext (says_key key) (same_map m) 0 maps (λ n. says_same key m n is)) ∙ there) in
    record {
      grown = sym (ap (λ b. cond b maps (maps ++ m ∷ [])) at.any);
      number = (let place = at.at in omega (arith, place));
    }

pub unknown : (maps : List Plain) (m : Plain) (key : Vec EntryKey) → shown key ≡ said_of_map m → place_from (says_key key) 0 maps ≡ None →
    IsNumbered maps (maps ++ m ∷ []) m (length maps)
unknown maps m key is there =
    let none = absent (same_map m) 0 maps (sym (place_ext (says_key key) (same_map m) 0 maps (λ n. says_same key m n is)) ∙ there) in
    record {
      grown = sym (ap (λ b. cond b maps (maps ++ m ∷ [])) none);
      number = sym (position_last (same_map m) maps m none (same_self m));
    }

pub added : (old new : NumbersByKey) (maps : List Plain) (m : Plain) (key : Vec EntryKey) (k : ℕ) → shown key ≡ said_of_map m → k ≡ length maps →
    place_from (says_key key) 0 maps ≡ None
    → ((q : Vec EntryKey) → get same_keys new q ≡ cond (same_keys key q) (Some k) (get same_keys old q)) → AreNumbers old maps → AreNumbers new (maps ++ m ∷ [])
added old new maps m key k is at none put are = record {
  each = λ q.
      put q
      ∙ ap (λ b. cond b (Some k) (get same_keys old q)) (keys_same key q)
      ∙ ap (cond (is_map (shown key) (shown q)) (Some k)) (are.each q)
      ∙ step q (is_map (shown key) (shown q)) refl
      ∙ ap (λ b. option_or (place_from (says_key q) 0 maps) (cond b (Some (0 + length maps)) None))
      (tells_turned is_map maps_tell (shown key) (shown q) ∙ ap (is_map (shown q)) is)
      ∙ sym (place_append (says_key q) 0 maps m);
} where
  no_more : (o : Option ℕ) → o ≡ option_or o None
  no_more None = refl
  no_more (Some n) = refl

  step : (q : Vec EntryKey) (b : Bool) → is_map (shown key) (shown q) ≡ b →
      cond b (Some k) (place_from (says_key q) 0 maps) ≡ option_or (place_from (says_key q) 0 maps) (cond b (Some (0 + length maps)) None)
  step q true e =
      ap (λ n. Some n) (let here : k ≡ 0 + length maps = omega (arith, at) in here)
      ∙ ap (λ o. option_or o (Some (0 + length maps)))
      (sym (place_ext (says_key q) (says_key key) 0 maps (λ n. ap (λ s. is_map s (said_of_map n)) (sym (maps_tell.one (shown key) (shown q) e))) ∙ none))
  step q false e = no_more (place_from (says_key q) 0 maps)
