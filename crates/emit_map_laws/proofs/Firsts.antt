-- For each use of a map, the maps of a router, in the order of first use, have one that says the same,
-- at its number.
use Rattle.std.proofs.Common.{◌≡◌, ℕ, ◌+◌, Bool, true, false, cond, ◌||◌, List, [], ◌∷◌, ◌⊎◌, inl, inr, Option, Some, None, refl, sym, ap, ◌∙◌, subst, arith, find, nat_eq, eq-eqb}
use Rattle.std.specs.Prelude.{if◌then◌else◌}
use Rattle.std.specs.Bool.{beq}
use Rattle.std.specs.Option.{option_eq}
use Rattle.std.specs.List.{list_any, position_or_len, enumerate_from}
use Rattle.std.proofs.lemmas.List.Folds.{find_at}
use Rattle.base_kit.proofs.Elements.{In, in_enumerate}
use Rattle.cfg_ast.specs.meaning.Classes.{same_items}
use Rattle.cfg_ast.specs.declared.policy.CommunityLine.{CommunityLine}
use Rattle.cfg_ast.specs.declared.policy.CommunityList.{CommunityList}
use Rattle.route_maps.specs.declared.plain.Plain.{Plain}
use Rattle.route_maps.specs.declared.plain.PlainEntry.{PlainEntry}
use Rattle.route_maps.specs.Same.{same_line, same_list, same_match, same_entry, same_map}
use Rattle.config_emit.specs.Maps.{firsts, number_of_map}
use Rattle.emit_map_laws.proofs.WrittenBack.{bool_same, bytes_same, both, number_option, change_option}

-- ---- a map is the same as itself
items_same : {X : Type 0} (same : X → X → Bool) (xs : List X) → ((x : X) → same x x ≡ true) → same_items same xs xs ≡ true
items_same same [] one = refl
items_same same (x ∷ xs) one = both (same x x) _ (one x) (items_same same xs one)

line_itself : (l : CommunityLine) → same_line l l ≡ true
line_itself l = both (beq l.permit l.permit) _ (bool_same l.permit) (bytes_same l.comms)

list_itself : (l : CommunityList) → same_list l l ≡ true
list_itself l = items_same same_line l.lines line_itself

match_itself : (e : Bool) (o : Option (List CommunityList)) → same_match e e o o ≡ true
match_itself e None = refl
match_itself e (Some ls) = both (beq e e) _ (bool_same e) (items_same same_list ls list_itself)

delete_itself : (o : Option CommunityList) → option_eq same_list o o ≡ true
delete_itself None = refl
delete_itself (Some l) = list_itself l

entry_itself : (x : PlainEntry) → same_entry x x ≡ true
entry_itself x =
    both (nat_eq x.seq x.seq) _ (eq-eqb x.seq x.seq refl) (both (beq x.permit x.permit) _ (bool_same x.permit) (both _ _ (match_itself x.exact x.lists)
    (both _ _ (number_option x.lp) (both _ _ (change_option x.change) (both _ _ (delete_itself x.delete) (eq-eqb x.adds x.adds refl))))))

pub map_itself : (m : Plain) → same_map m m ≡ true
unfolding same_map
map_itself m = items_same same_entry m.entries entry_itself

-- ---- by first use
pub record HasSame (m : Plain) (maps : List Plain) : Type 0 where
  pub other : Plain
  pub has : In maps other
  pub same : same_map m other ≡ true

any_same : (m : Plain) (xs : List Plain) → list_any (same_map m) xs ≡ true → HasSame m xs
any_same m [] e = absurd cc
any_same m (x ∷ xs) e = step (same_map m x) refl e (any_same m xs)
  where
    step : (b : Bool) → same_map m x ≡ b → (b || list_any (same_map m) xs) ≡ true → (list_any (same_map m) xs ≡ true → HasSame m xs) → HasSame m (x ∷ xs)
    step true f g rest = record { other = x; has = inl refl; same = f }
    step false f g rest = let r = rest g in record { other = r.other; has = inr r.has; same = r.same }

kept : (m : Plain) (seen ms : List Plain) → In ms m → HasSame m seen ⊎ HasSame m (firsts seen ms)
kept m seen [] at = absurd at
kept m seen (x ∷ ms) at = step (list_any (same_map x) seen) refl at (kept m seen ms) (kept m (x ∷ seen) ms)
  where
    step : (b : Bool) → list_any (same_map x) seen ≡ b → (x ≡ m) ⊎ In ms m → (In ms m → HasSame m seen ⊎ HasSame m (firsts seen ms)) →
        (In ms m → HasSame m (x ∷ seen) ⊎ HasSame m (firsts (x ∷ seen) ms))
        → HasSame m seen ⊎ HasSame m (if b then firsts seen ms else x ∷ firsts (x ∷ seen) ms)
    step true e (inl is) one two = inl (subst (λ (y : Plain). HasSame y seen) is (any_same x seen e))
    step true e (inr later) one two = one later
    step false e (inl is) one two = inr (record { other = x; has = inl refl; same = ap (λ (y : Plain). same_map y x) (sym is) ∙ map_itself x })
    step false e (inr later) one two = elim (two later) [
      | inl s ↦ elim s.has [
        | inl here ↦ inr (record { other = x; has = inl refl; same = ap (same_map m) here ∙ s.same })
        | inr there ↦ inl (record { other = s.other; has = there; same = s.same })
      ]
      | inr s ↦ inr (record { other = s.other; has = inr s.has; same = s.same })
    ]

-- the map at the number of a use is the same
pub record IsAtNumber (m : Plain) (maps : List Plain) : Type 0 where
  pub other : Plain
  pub at : In (enumerate_from 1 maps) (number_of_map maps m, other)
  pub same : same_map m other ≡ true

find_same : (m : Plain) (xs : List Plain) → HasSame m xs → (r : Plain) × (find (same_map m) xs ≡ Some r) × (same_map m r ≡ true)
find_same m [] s = absurd s.has
find_same m (x ∷ xs) s = step (same_map m x) refl (find_same m xs)
  where
    step : (b : Bool) → same_map m x ≡ b → (HasSame m xs → (r : Plain) × (find (same_map m) xs ≡ Some r) × (same_map m r ≡ true)) →
        (r : Plain) × (cond b (Some x) (find (same_map m) xs) ≡ Some r) × (same_map m r ≡ true)
    step true e rest = (x, refl, e)
    step false e rest = elim s.has [
      | inl here ↦ absurd (let f : same_map m x ≡ true = ap (same_map m) here ∙ s.same in cc)
      | inr there ↦ rest (record { other = s.other; has = there; same = s.same })
    ]

pub at_number : (m : Plain) (uses : List Plain) → In uses m → IsAtNumber m (firsts [] uses)
at_number m uses used = elim (kept m [] uses used) [
  | inl none ↦ absurd none.has
  | inr s ↦ (let f = find_same m (firsts [] uses) s in
      let place = sym (find_at (same_map m) (firsts [] uses)) ∙ f.1 in
      let e : 1 + position_or_len (same_map m) (firsts [] uses) ≡ number_of_map (firsts [] uses) m = omega arith in
      record {
        other = f.0;
        at = subst (λ (n : ℕ). In (enumerate_from 1 (firsts [] uses)) (n, f.0)) e
            (in_enumerate (firsts [] uses) 1 (position_or_len (same_map m) (firsts [] uses)) f.0 place);
        same = f.2;
      })
]
