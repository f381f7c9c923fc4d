-- What cells tell after more lists are asked.
use Rattle.std.proofs.Common.{◌≡◌, ℕ, true, ◌&&◌, List, [], ◌∷◌, ◌++◌, map, length, get_or, drop, refl, sym, ◌∙◌, ap, subst, append_assoc, append-nil, arith}
use Rattle.std.specs.Prelude.{nat_eq}
use Rattle.std.specs.List.{AllByRecursion}
use Rattle.base_kit.specs.Prefixes.{Prefix}
use Rattle.cfg_ast.specs.declared.classes.Origin.{Origin}
use Rattle.cfg_ast.specs.declared.policy.PrefixList.{PrefixList}
use Rattle.dest_classes.specs.declared.cells.Member.{Member}
use Rattle.dest_classes.specs.Cells.{word_of, cell_key, asked, started, entry_of, entries_of, alike_to, IsCellTold, AreAllTold, AreMembers}
use Rattle.dest_classes.proofs.Same.{alike-append}
use Rattle.dest_classes.proofs.Places.{Key, place, is_known, with_key, known_here, place_here, known_then, place_then, one_place}
use Rattle.dest_classes.proofs.Words.{one_word}

abbrev of_cell : Member → ℕ → Member
of_cell m cell = record m { cell = cell }

module _ (lists : List PrefixList) where
  -- the different keys, once those of all members came
  abbrev keys_after : List Key → List Member → List Key
  keys_after keys [] = keys
  keys_after keys (m ∷ ms) = keys_after (with_key keys (cell_key lists m)) ms

  known_after : (ms : List Member) (keys : List Key) (key : Key) → is_known keys key ≡ true → is_known (keys_after keys ms) key ≡ true
  known_after [] keys key known = known
  known_after (m ∷ ms) keys key known = known_after ms (with_key keys (cell_key lists m)) key (known_then keys (cell_key lists m) key known)

  place_after : (ms : List Member) (keys : List Key) (key : Key) → is_known keys key ≡ true → place (keys_after keys ms) key ≡ place keys key
  place_after [] keys key known = refl
  place_after (m ∷ ms) keys key known = place_after ms (with_key keys (cell_key lists m)) key (known_then keys (cell_key lists m) key known)
      ∙ place_then keys (cell_key lists m) key known

  -- a member by the place of its key in the end
  abbrev placed : List Key → Member → Member
  placed keys m = of_cell m (place keys (cell_key lists m))

  abbrev IsKnown : List Key → Member → Type 0
  IsKnown keys m = is_known keys (cell_key lists m) ≡ true

  asked_placed : (ms : List Member) (keys : List Key) → asked lists keys ms ≡ map (placed (keys_after keys ms)) ms
  asked_placed [] keys = refl
  asked_placed (m ∷ ms) keys =
      let key = cell_key lists m in
      ap (λ more. of_cell m (place keys key) ∷ more) (asked_placed ms (with_key keys key))
      ∙ ap (λ cell. of_cell m cell ∷ map (placed (keys_after keys (m ∷ ms))) ms)
      (sym (place_after ms (with_key keys key) key (known_here keys key) ∙ place_here keys key))

  all_known : (ms : List Member) (keys : List Key) → AllByRecursion (IsKnown (keys_after keys ms)) ms
  all_known [] keys = tt
  all_known (m ∷ ms) keys = (
    known_after ms (with_key keys (cell_key lists m)) (cell_key lists m) (known_here keys (cell_key lists m)),
    all_known ms (with_key keys (cell_key lists m)),
  )

  module _ (done : List PrefixList) (keys : List Key) where
    told_placed : (m n : Member) → IsKnown keys m → IsKnown keys n → IsCellTold done m n → IsCellTold (done ++ lists) (placed keys m) (placed keys n)
    told_placed m n known later told = record {
      alike =
          one_place keys (cell_key lists n) (cell_key lists m) later known ∙ ap (λ b. b && nat_eq (word_of lists n.prefix) (word_of lists m.prefix)) told.alike
          ∙ ap (λ b. alike_to done n.prefix m.prefix && b) (one_word lists n.prefix m.prefix) ∙ sym (alike-append n.prefix m.prefix done lists);
    }

    later_placed : (m : Member) (ns : List Member) → IsKnown keys m → AllByRecursion (IsKnown keys) ns → AllByRecursion (IsCellTold done m) ns →
        AllByRecursion (IsCellTold (done ++ lists) (placed keys m)) (map (placed keys) ns)
    later_placed m [] known all told = tt
    later_placed m (n ∷ ns) known all told = (told_placed m n known all.0 told.0, later_placed m ns known all.1 told.1)

    all_placed : (ms : List Member) → AllByRecursion (IsKnown keys) ms → AreAllTold done ms → AreAllTold (done ++ lists) (map (placed keys) ms)
    all_placed [] all told = tt
    all_placed (m ∷ ms) all told = (later_placed m ms all.0 all.1 told.0, all_placed ms all.1 told.1)

  entries_asked : (ms : List Member) (keys : List Key) → entries_of (asked lists keys ms) ≡ entries_of ms
  entries_asked [] keys = refl
  entries_asked (m ∷ ms) keys = ap (λ es. entry_of m ∷ es) (entries_asked ms (with_key keys (cell_key lists m)))

-- what is left to ask, after the next member with its key
pub asked_step : (lists : List PrefixList) (m : Member) (key : Key) (left rest done more : List Member) (keys new : List Key) (cell : ℕ) → left ≡ m ∷ rest →
    key ≡ cell_key lists m → cell ≡ place keys key → new ≡ with_key keys key → more ≡ done ++ of_cell m cell ∷ [] →
    more ++ asked lists new rest ≡ done ++ asked lists keys left
asked_step lists m key left rest done more keys new cell next told at put pushed =
    ap (λ ms. ms ++ asked lists new rest) pushed ∙ append_assoc done (of_cell m cell ∷ []) (asked lists new rest)
    ∙ ap (λ k. done ++ of_cell m k ∷ asked lists new rest) (at ∙ ap (place keys) told)
    ∙ ap (λ ks. done ++ of_cell m (place keys (cell_key lists m)) ∷ asked lists ks rest) (put ∙ ap (with_key keys) told)
    ∙ ap (λ ms. done ++ asked lists keys ms) (sym next)

-- the key of the next member, and those of the others
pub next_key : (f : Member → Key) (m : Member) (key : Key) (left rest : List Member) (keys more : List Key) → left ≡ m ∷ rest → keys ≡ key ∷ more →
    keys ≡ map f left → (key ≡ f m) × (more ≡ map f rest)
next_key f m key left rest keys more next first are =
    let same : key ∷ more ≡ f m ∷ map f rest = sym first ∙ are ∙ ap (λ (ms : List Member). map f ms) next in
    (ap (λ (ks : List Key). get_or ks 0 key) same, ap (λ (ks : List Key). drop 1 ks) same)

pub no_member : (f : Member → Key) (left : List Member) (keys : List Key) → keys ≡ map f left → length keys ≡ 0 → left ≡ []
no_member f [] keys are none = refl
no_member f (m ∷ left) keys are none = absurd (let long : length keys ≡ length (map f (m ∷ left)) = ap (λ (ks : List Key). length ks) are in omega arith)

pub asked_all : (lists : List PrefixList) (left done : List Member) (keys : List Key) → left ≡ [] → done ++ asked lists keys left ≡ done
asked_all lists left done keys none = ap (λ ms. done ++ asked lists keys ms) none ∙ append-nil done

-- after more lists the cells tell what all lists so far answer
pub asked_told : (done lists : List PrefixList) (entries : List (Prefix × List Origin)) (ms : List Member) → AreMembers entries done ms →
    AreMembers entries (done ++ lists) (asked lists [] ms)
asked_told done lists entries ms are = record {
  entries_are = entries_asked lists ms [] ∙ are.entries_are;
  told = subst (AreAllTold (done ++ lists)) (sym (asked_placed lists ms []))
      (all_placed lists done (keys_after lists [] ms) ms (all_known lists ms []) are.told);
}

-- before any list is asked all are of one cell
later_started : (p : Prefix) (origins : List Origin) (es : List (Prefix × List Origin)) → AllByRecursion (IsCellTold [] (started (p, origins))) (map started es)
later_started p origins [] = tt
later_started p origins (e ∷ es) = (record { alike = refl }, later_started p origins es)

pub started_told : (es : List (Prefix × List Origin)) → AreAllTold [] (map started es)
started_told [] = tt
started_told ((p, origins) ∷ es) = (later_started p origins es, started_told es)

pub started_entries : (es : List (Prefix × List Origin)) → entries_of (map started es) ≡ es
started_entries [] = refl
started_entries ((p, origins) ∷ es) = ap (λ more. (p, origins) ∷ more) (started_entries es)
