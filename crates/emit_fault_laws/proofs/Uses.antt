-- For each map that a neighbour line of a group uses, the group has a map that says the same, at its
-- number.
use Rattle.std.proofs.Common.{find, ◌≡◌, ℕ, ◌+◌, Bool, true, false, cond, ◌&&◌, ◌||◌, List, [], ◌∷◌, ◌⊎◌, inl, inr, Option, Some, None, refl, sym, ◌∙◌, ap, subst, arith, nat_eq}
use Rattle.std.specs.Prelude.{filter, flat_map}
use Rattle.std.specs.Bool.{beq}
use Rattle.std.specs.Option.{option_eq}
use Rattle.std.specs.List.{list_any, position_or_len, enumerate_from}
use Rattle.std.proofs.lemmas.List.Folds.{find_at}
use Rattle.base_kit.specs.declared.protocol.Protocol.TheVariants.{Bgp as OverBgp}
use Rattle.base_kit.proofs.Elements.{In, in_filter, in_flat_map, in_left, in_right, in_enumerate}
use Rattle.base_kit.proofs.SetFacts.{same_number}
use Rattle.cfg_ast.specs.meaning.Classes.{same_items}
use Rattle.cfg_ast.specs.declared.network.Named.{Named}
use Rattle.cfg_ast.specs.declared.policy.Change.{Change}
use Rattle.cfg_ast.specs.declared.policy.Change.TheVariants.{Clear, Replace, Append}
use Rattle.cfg_ast.specs.declared.policy.CommunityLine.{CommunityLine}
use Rattle.cfg_ast.specs.declared.policy.CommunityList.{CommunityList}
use Rattle.abstract_net.specs.declared.qlink.QLink.{QLink}
use Rattle.route_maps.specs.Same.{same_line, same_list, same_match, same_change, same_entry, same_map}
use Rattle.route_maps.specs.declared.plain.Plain.{Plain}
use Rattle.route_maps.specs.declared.plain.PlainEntry.{PlainEntry}
use Rattle.srp_quotient.specs.Groups.{touches}
use Rattle.config_emit.specs.Maps.{other_end, act_in_map, act_out_map, is_whole, if_written, maps_at, firsts, maps_over, maps_of, map_name, named, name_of_map, number_of_map}
use Rattle.config_emit.specs.Plan.{Plan, act_into}
use Rattle.emit_form_laws.proofs.Names.{bytes_self}

-- ---- a map is the same as itself

both : (a b : Bool) → a ≡ true → b ≡ true → (a && b) ≡ true
both a b e f = rw (e, f) refl

items_itself : {X : Type 0} (same : X → X → Bool) (xs : List X) → ((x : X) → same x x ≡ true) → same_items same xs xs ≡ true
items_itself same [] one = refl
items_itself same (x ∷ xs) one = both (same x x) _ (one x) (items_itself same xs one)

bool_itself : (b : Bool) → beq b b ≡ true
bool_itself true = refl
bool_itself false = refl

line_itself : (l : CommunityLine) → same_line l l ≡ true
line_itself l = both (beq l.permit l.permit) _ (bool_itself l.permit) (bytes_self l.comms)

list_itself : (l : CommunityList) → same_list l l ≡ true
list_itself l = items_itself same_line l.lines line_itself

match_itself : (e : Bool) (o : Option (List CommunityList)) → same_match e e o o ≡ true
match_itself e None = refl
match_itself e (Some ls) = both (beq e e) _ (bool_itself e) (items_itself same_list ls list_itself)

option_itself : {X : Type 0} (same : X → X → Bool) (o : Option X) → ((x : X) → same x x ≡ true) → option_eq same o o ≡ true
option_itself same None one = refl
option_itself same (Some x) one = one x

change_itself : (c : Change) → same_change c c ≡ true
change_itself Clear = refl
change_itself (Replace by) = bytes_self by
change_itself (Append more) = bytes_self more

number_itself : (n : ℕ) → nat_eq n n ≡ true
number_itself n = same_number n n refl

entry_itself : (x : PlainEntry) → same_entry x x ≡ true
entry_itself x =
    both (nat_eq x.seq x.seq) _ (number_itself x.seq)
    (both (beq x.permit x.permit) _ (bool_itself x.permit)
    (both (same_match x.exact x.exact x.lists x.lists) _ (match_itself x.exact x.lists)
    (both (option_eq nat_eq x.lp x.lp) _ (option_itself nat_eq x.lp number_itself)
    (both (option_eq same_change x.change x.change) _ (option_itself same_change x.change change_itself)
    (both (option_eq same_list x.delete x.delete) _ (option_itself same_list x.delete list_itself) (number_itself x.adds))))))

map_itself : (m : Plain) → same_map m m ≡ true
unfolding same_map
map_itself m = items_itself same_entry m.entries entry_itself

-- ---- by first use

record HasSame (m : Plain) (maps : List Plain) : Type 0 where
  other : Plain
  has : In maps other
  same : same_map m other ≡ true

any_same : (m : Plain) (xs : List Plain) → list_any (same_map m) xs ≡ true → HasSame m xs
any_same m [] e = absurd cc
any_same m (x ∷ xs) e = step (same_map m x) refl e (any_same m xs)
  where
    step : (b : Bool) → same_map m x ≡ b → (b || list_any (same_map m) xs) ≡ true → (list_any (same_map m) xs ≡ true → HasSame m xs) → HasSame m (x ∷ xs)
    step true f g rest = record { other = x; has = inl refl; same = f }
    step false f g rest = let r = rest g in record { other = r.other; has = inr r.has; same = r.same }

kept : (m : Plain) (seen ms : List Plain) → In ms m → HasSame m seen ⊎ HasSame m (firsts seen ms)
kept m seen [] h = absurd h
kept m seen (x ∷ xs) h = step (list_any (same_map x) seen) refl h (kept m seen xs) (kept m (x ∷ seen) xs)
  where
    later : HasSame m (firsts (x ∷ seen) xs) → HasSame m (x ∷ firsts (x ∷ seen) xs)
    later s = record { other = s.other; has = inr s.has; same = s.same }

    with_first : HasSame m (x ∷ seen) → HasSame m seen ⊎ HasSame m (x ∷ firsts (x ∷ seen) xs)
    with_first s = elim s.has [
      | inl first ↦ inr (record { other = x; has = inl refl; same = subst (λ (z : Plain). same_map m z ≡ true) (sym first) s.same })
      | inr known ↦ inl (record { other = s.other; has = known; same = s.same })
    ]

    step : (b : Bool) → list_any (same_map x) seen ≡ b → (x ≡ m) ⊎ In xs m → (In xs m → HasSame m seen ⊎ HasSame m (firsts seen xs)) →
        (In xs m → HasSame m (x ∷ seen) ⊎ HasSame m (firsts (x ∷ seen) xs))
        → HasSame m seen ⊎ HasSame m (cond b (firsts seen xs) (x ∷ firsts (x ∷ seen) xs))
    step true e (inl same) known new = inl (subst (λ (z : Plain). HasSame z seen) same (any_same x seen e))
    step true e (inr i) known new = known i
    step false e (inl same) known new = inr (record { other = x; has = inl refl; same = subst (λ (z : Plain). same_map z x ≡ true) same (map_itself x) })
    step false e (inr i) known new = elim (new i) [ inl s ↦ with_first s | inr s ↦ inr (later s) ]

found : (m : Plain) (maps : List Plain) → HasSame m maps → (x : Plain) × (find (same_map m) maps ≡ Some x) × (same_map m x ≡ true)
found m [] s = absurd s.has
found m (x ∷ xs) s = step (same_map m x) refl s.has (λ h. found m xs (record { other = s.other; has = h; same = s.same }))
  where
    step : (b : Bool) → same_map m x ≡ b → (x ≡ s.other) ⊎ In xs s.other →
        (In xs s.other → (y : Plain) × (find (same_map m) xs ≡ Some y) × (same_map m y ≡ true)) →
        (y : Plain) × (cond b (Some x) (find (same_map m) xs) ≡ Some y) × (same_map m y ≡ true)
    step true e h rest = (x, refl, e)
    step false e (inl same) rest = absurd (let f = sym e ∙ ap (same_map m) same ∙ s.same in cc)
    step false e (inr h) rest = rest h

-- the map of a group that stands for one of its uses, at its number
pub record IsAtNumber (e : Plan) (g : ℕ) (m : Plain) : Type 0 where
  pub written : Plain
  pub at : In (enumerate_from 1 (maps_of e g)) (number_of_map (maps_of e g) m, written)
  pub same : same_map m written ≡ true

in_maps : (e : Plan) (g : ℕ) (m : Plain) → HasSame m (maps_of e g) → IsAtNumber e g m
in_maps e g m s =
    let f = found m (maps_of e g) s in
    let place = sym (find_at (same_map m) (maps_of e g)) ∙ f.1 in
    let number : 1 + position_or_len (same_map m) (maps_of e g) ≡ number_of_map (maps_of e g) m = omega arith in
    record {
      written = f.0;
      at = subst (λ (n : ℕ). In (enumerate_from 1 (maps_of e g)) (n, f.0)) number
          (in_enumerate (maps_of e g) 1 (position_or_len (same_map m) (maps_of e g)) f.0 place);
      same = f.2;
    }

use_in : (e : Plan) (g : ℕ) (l : QLink) (m : Plain) → e.problem.protocol ≡ OverBgp → In e.links l → touches g l ≡ true → In (maps_at e g l) m →
    HasSame m (maps_of e g)
unfolding maps_of
use_in e g l m bgp at touched here =
    subst (λ q. HasSame m (maps_over q e g)) (sym bgp)
    (elim (kept m [] (flat_map (maps_at e g) (filter (touches g) e.links))
    (in_flat_map (maps_at e g) (filter (touches g) e.links) l m (in_filter (touches g) e.links l at touched) here)) [
      | inl s ↦ absurd s.has
      | inr s ↦ s
    ])

-- ---- the maps that a neighbour names

-- a name that a neighbour gives is that of a use
pub record IsNameOf (e : Plan) (g : ℕ) (o : Option Plain) (n : Named) : Type 0 where
  pub plain : Plain
  pub of : o ≡ Some plain
  pub is : n.name ≡ map_name (number_of_map (maps_of e g) plain)
  pub at : IsAtNumber e g plain

name_use : (e : Plan) (g : ℕ) (m : Plain) (n : Named) → (In (if_written (Some m)) m → HasSame m (maps_of e g)) → name_of_map (maps_of e g) (Some m) ≡ Some n →
    IsNameOf e g (Some m) n
name_use e g m n given made = step (is_whole m.entries) made given
  where
    step : (b : Bool) → cond b None (Some (named (map_name (number_of_map (maps_of e g) m)))) ≡ Some n → (In (cond b [] (m ∷ [])) m → HasSame m (maps_of e g)) →
        IsNameOf e g (Some m) n
    step true made given = absurd cc
    step false made given = let same : named (map_name (number_of_map (maps_of e g) m)) ≡ n = cc in
        record { plain = m; of = refl; is = ap (λ (x : Named). x.name) (sym same); at = in_maps e g m (given (inl refl)) }

pub in_name : (e : Plan) (g : ℕ) (l : QLink) (n : Named) → e.problem.protocol ≡ OverBgp → In e.links l → touches g l ≡ true →
    name_of_map (maps_of e g) (Some (act_in_map (act_into e g l))) ≡ Some n → IsNameOf e g (Some (act_in_map (act_into e g l))) n
in_name e g l n bgp at touched made =
    name_use e g (act_in_map (act_into e g l)) n
    (λ here. use_in e g l (act_in_map (act_into e g l)) bgp at touched
    (in_left (if_written (Some (act_in_map (act_into e g l)))) (if_written (act_out_map (act_into e (other_end g l) l))) (act_in_map (act_into e g l))
    here)) made

pub out_name : (e : Plan) (g : ℕ) (l : QLink) (n : Named) → e.problem.protocol ≡ OverBgp → In e.links l → touches g l ≡ true →
    name_of_map (maps_of e g) (act_out_map (act_into e (other_end g l) l)) ≡ Some n → IsNameOf e g (act_out_map (act_into e (other_end g l) l)) n
out_name e g l n bgp at touched made = step (act_out_map (act_into e (other_end g l) l)) refl made
  where
    step : (o : Option Plain) → act_out_map (act_into e (other_end g l) l) ≡ o → name_of_map (maps_of e g) o ≡ Some n → IsNameOf e g o n
    step None is made = absurd cc
    step (Some m) is made =
        name_use e g m n
        (λ here. use_in e g l m bgp at touched (in_right (if_written (Some (act_in_map (act_into e g l))))
        (if_written (act_out_map (act_into e (other_end g l) l))) m (subst (λ (o : Option Plain). In (if_written o) m) (sym is) here))) made
