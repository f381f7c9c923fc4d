-- Maps that are known by their numbers stay known while more become known.
use Rattle.std.proofs.Common.{◌≡◌, ℕ, suc, ◌+◌, ◌<◌, Bool, true, false, cond, ◌||◌, List, [], ◌∷◌, ◌++◌, map, length, take, get_or, append_assoc, Option, Some, None, refl, sym, ◌∙◌, ap, subst, ◌⊎◌, inl, inr}
use Rattle.std.specs.Prelude.{option_and_then}
use Rattle.std.specs.List.{list_any, position_or_len}
use Rattle.std.proofs.lemmas.List.{map-append, take_more}
use Rattle.std.proofs.lemmas.List.Folds.{list_any-append}
use Rattle.base_kit.proofs.Elements.{In, in_contains, contains_in, append_in}
use Rattle.route_maps.specs.Same.{same_map}
use Rattle.route_maps.specs.declared.plain.Plain.{Plain}
use Rattle.srp_core.specs.declared.route.Act.{Act}
use Rattle.srp_core.specs.declared.route.Act.TheVariants.{Import, Cost}
use Rattle.config_emit.specs.Maps.{closed_map, act_in_map, act_out_map, sends_by, is_whole}
use Rattle.config_emit.specs.MapNumbers.{with_map, place_of_map, map_number, IsKnown, IsGrown, act_maps, KnowsAct, HasMaps, KnowsClosed, AreKnown}
use Rattle.config_emit.specs.declared.act_maps.ActMaps.{ActMaps}
use Rattle.config_emit.proofs.ListSteps.{no_more}
use Rattle.config_emit.proofs.MapPlaces.{position_cons, same_self}

pub grown_self : (maps : List Plain) → IsGrown maps maps
grown_self maps = record { more = []; is = sym (no_more maps) }

pub grown_trans : (a b c : List Plain) → IsGrown a b → IsGrown b c → IsGrown a c
grown_trans a b c ab bc = record { more = ab.more ++ bc.more; is = bc.is ∙ ap (λ xs. xs ++ bc.more) ab.is ∙ append_assoc a ab.more bc.more }

pub grown_with : (m : Plain) (old new : List Plain) → new ≡ with_map m old → IsGrown old new
grown_with m old new e = step (list_any (same_map m) old) e where
  step : (b : Bool) → new ≡ cond b old (old ++ m ∷ []) → IsGrown old new
  step true is = record { more = []; is = is ∙ sym (no_more old) }
  step false is = record { more = m ∷ []; is = is }

any_or : (a b : Bool) → a ≡ true → (a || b) ≡ true
any_or a b e = ap (λ x. x || b) e

or_true : (a b : Bool) → b ≡ true → (a || b) ≡ true
or_true true b e = refl
or_true false b e = e

pub any_with : (m : Plain) (old new : List Plain) → new ≡ with_map m old → list_any (same_map m) new ≡ true
any_with m old new e = step (list_any (same_map m) old) refl e where
  step : (b : Bool) → list_any (same_map m) old ≡ b → new ≡ cond b old (old ++ m ∷ []) → list_any (same_map m) new ≡ true
  step true any is = ap (list_any (same_map m)) is ∙ any
  step false any is = ap (list_any (same_map m)) is ∙ list_any-append (same_map m) old (m ∷ [])
      ∙ or_true (list_any (same_map m) old) (list_any (same_map m) (m ∷ [])) (any_or (same_map m m) false (same_self m))

pub known_with : (m : Plain) (old new : List Plain) → new ≡ with_map m old → IsKnown new m
known_with m old new e = record { known = λ _. any_with m old new e }

any_kept : (m : Plain) (old new : List Plain) → list_any (same_map m) old ≡ true → IsGrown old new → list_any (same_map m) new ≡ true
any_kept m old new any grown = ap (list_any (same_map m)) grown.is ∙ list_any-append (same_map m) old grown.more
    ∙ any_or (list_any (same_map m) old) (list_any (same_map m) grown.more) any

known_kept : (m : Plain) (old new : List Plain) → IsKnown old m → IsGrown old new → IsKnown new m
known_kept m old new is grown = record { known = λ e. any_kept m old new (is.known e) grown }

position_kept : (test : Plain → Bool) (xs ys : List Plain) → list_any test xs ≡ true → position_or_len test xs ≡ position_or_len test (xs ++ ys)
position_kept test [] ys e = absurd cc
position_kept test (x ∷ xs) ys e = position_cons test x xs ∙ step (position_kept test xs ys) (test x) e ∙ sym (position_cons test x (xs ++ ys)) where
  step : (list_any test xs ≡ true → position_or_len test xs ≡ position_or_len test (xs ++ ys)) → (b : Bool) → (b || list_any test xs) ≡ true →
      cond b 0 (suc (position_or_len test xs)) ≡ cond b 0 (suc (position_or_len test (xs ++ ys)))
  step later true any = refl
  step later false any = ap suc (later any)

number_kept : (m : Plain) (old new : List Plain) → list_any (same_map m) old ≡ true → IsGrown old new → place_of_map old m ≡ place_of_map new m
number_kept m old new any grown = position_kept (same_map m) old grown.more any ∙ ap (position_or_len (same_map m)) (sym grown.is)

map_kept : (m : Plain) (old new : List Plain) → IsKnown old m → IsGrown old new → map_number old m ≡ map_number new m
map_kept m old new is grown = step (is_whole m.entries) refl where
  step : (b : Bool) → is_whole m.entries ≡ b → cond b None (Some (place_of_map old m)) ≡ cond b None (Some (place_of_map new m))
  step true e = refl
  step false e = ap (λ n. Some n) (number_kept m old new (is.known e) grown)

made : Option ℕ → Option ℕ → Bool → ActMaps
made into out sends = record { into = into; out = out; sends = sends }

out_kept : (o : Option Plain) (old new : List Plain) → ((m : Plain) → o ≡ Some m → IsKnown old m) → IsGrown old new →
    option_and_then (map_number old) o ≡ option_and_then (map_number new) o
out_kept None old new is grown = refl
out_kept (Some m) old new is grown = map_kept m old new (is m refl) grown

act_kept : (act : Act) (old new : List Plain) → KnowsAct old act → IsGrown old new → act_maps old (Some act) ≡ act_maps new (Some act)
unfolding made
act_kept act old new is grown =
    ap (λ n. made n (option_and_then (map_number old) (act_out_map (Some act))) (sends_by (Some act))) (map_kept (act_in_map (Some act)) old new is.into grown)
    ∙ ap (λ n. made (map_number new (act_in_map (Some act))) n (sends_by (Some act))) (out_kept (act_out_map (Some act)) old new is.out grown)

knows_kept : (act : Act) (old new : List Plain) → KnowsAct old act → IsGrown old new → KnowsAct new act
knows_kept act old new is grown = record {
  into = known_kept (act_in_map (Some act)) old new is.into grown;
  out =
      λ m e. known_kept m old new (is.out m e) grown;
}

pub closed_kept : (number : ℕ) (old new : List Plain) → KnowsClosed old number → IsGrown old new → KnowsClosed new number
closed_kept number old new is grown = record { any = any_kept closed_map old new is.any grown; is = is.is ∙ number_kept closed_map old new is.any grown }

-- ---- an act

-- its in map, and then its out map, became known
pub import_known : (out into : Plain) (sends : Bool) (mid new : List Plain) (in_number out_number : Option ℕ) → IsKnown mid into → IsGrown mid new →
    IsKnown new out → in_number ≡ map_number mid into → out_number ≡ map_number new out
    → HasMaps new (Import out sends into) (record { into = in_number; out = out_number; sends = sends })
unfolding made
import_known out into sends mid new in_number out_number in_known grown out_known in_is out_is = record {
  known = record { into = known_kept into mid new in_known grown; out = λ m e. subst (IsKnown new) (let same : out ≡ m = cc in same) out_known };
  are = ap (λ n. made n out_number sends) (in_is ∙ map_kept into mid new in_known grown) ∙ ap (λ n. made (map_number new into) n sends) out_is;
}

pub cost_known : (cost closed : ℕ) (maps : List Plain) → KnowsClosed maps closed →
    HasMaps maps (Cost cost) (record { into = Some closed; out = None; sends = false })
unfolding made
cost_known cost closed maps is = record {
  known = record { into = record { known = λ _. is.any }; out = λ m e. absurd (none m e) };
  are = ap (λ n. made (Some n) None false) is.is;
} where
  none : (m : Plain) → None ≡ Some m → ⊥
  none m e = cc

-- ---- all acts

pub none_known : (maps : List Plain) → AreKnown maps [] []
none_known maps = record { are = refl; known = λ act has. absurd (in_contains [] act has) }

pub known_turn : (old new : List Plain) (acts : List Act) (numbers more : List ActMaps) (i : ℕ) (act : Act) (maps : ActMaps) → i < length acts →
    act ≡ get_or acts i act → IsGrown old new → AreKnown old (take i acts) numbers → HasMaps new act maps → more ≡ numbers ++ maps ∷ [] →
    AreKnown new (take (i + 1) acts) more
known_turn old new acts numbers more i act maps below here grown are has is =
    let taken : take (i + 1) acts ≡ take i acts ++ act ∷ [] = take_more acts i act below ∙ ap (λ y. take i acts ++ y ∷ []) (sym here) in
    subst (λ xs. AreKnown new xs more) (sym taken) (record {
      are = is ∙ ap (λ ns. ns ++ maps ∷ []) (are.are ∙ kept (take i acts) (λ a at. are.known a (contains_in (take i acts) a at)))
          ∙ ap (λ m. map (λ a. act_maps new (Some a)) (take i acts) ++ m ∷ []) has.are ∙ sym (map-append (λ a. act_maps new (Some a)) (take i acts) (act ∷ []));
      known = λ a at. each a (append_in (take i acts) (act ∷ []) a (in_contains (take i acts ++ act ∷ []) a at));
    })
  where
    kept : (xs : List Act) → ((a : Act) → In xs a → KnowsAct old a) → map (λ a. act_maps old (Some a)) xs ≡ map (λ a. act_maps new (Some a)) xs
    kept [] knows = refl
    kept (x ∷ xs) knows = ap (λ m. m ∷ map (λ a. act_maps old (Some a)) xs) (act_kept x old new (knows x (inl refl)) grown)
        ∙ ap (λ ms. act_maps new (Some x) ∷ ms) (kept xs (λ a at. knows a (inr at)))

    each : (a : Act) → In (take i acts) a ⊎ In (act ∷ []) a → KnowsAct new a
    each a (inl at) = knows_kept a old new (are.known a (contains_in (take i acts) a at)) grown
    each a (inr (inl same)) = subst (KnowsAct new) same has.known
    each a (inr (inr never)) = absurd never
