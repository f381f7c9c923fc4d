-- Two maps are the same exactly if they say the same, and so are their keys.
use Rattle.std.proofs.Common.{◌≡◌, ℕ, Bool, true, false, ◌&&◌, List, [], ◌∷◌, map, Option, Some, None, nat_eq, refl, sym, ◌∙◌, ap, arith}
use Rattle.std.specs.Prelude.{bytes_eq, is_some}
use Rattle.std.specs.Bool.{beq}
use Rattle.std.specs.Option.{option_map, option_eq}
use Rattle.std.specs.Global.{Vec}
use Rattle.std.proofs.lemmas.Bool.Decides.{nat_tests}
use Rattle.cfg_ast.specs.declared.policy.Change.{Change}
use Rattle.cfg_ast.specs.declared.policy.Change.TheVariants.{Clear, Replace, Append}
use Rattle.cfg_ast.specs.declared.policy.CommunityList.{CommunityList}
use Rattle.cfg_ast.specs.meaning.Classes.{same_items}
use Rattle.cfg_ast.proofs.ClassFacts.{Tells, items_tell}
use Rattle.route_maps.specs.Same.{same_line, same_list, same_match, same_change, same_entry, same_map}
use Rattle.route_maps.specs.declared.plain.Plain.{Plain}
use Rattle.route_maps.specs.declared.plain.PlainEntry.{PlainEntry}
use Rattle.config_emit.specs.MapKeys.{same_keys, LineSaid, EntrySaid, line_said, list_said, lists_said, entry_said, said_of_map, line_shown, list_shown, lists_shown, change_shown, entry_shown, shown, is_line, is_list, is_entry, is_map}
use Rattle.config_emit.specs.declared.map_keys.ChangeKey.{ChangeKey}
use Rattle.config_emit.specs.declared.map_keys.ChangeKey.TheVariants as key
use Rattle.config_emit.specs.declared.map_keys.EntryKey.{EntryKey}
use Rattle.config_emit.specs.declared.map_keys.LineKey.{LineKey}
use Rattle.config_emit.specs.contracts.map_keys.LineKeyPartialEq.TheImpl as line_eq
use Rattle.config_emit.specs.contracts.map_keys.ChangeKeyPartialEq.TheImpl as change_eq
use Rattle.config_emit.specs.contracts.map_keys.EntryKeyPartialEq.TheImpl as entry_eq
use Rattle.config_emit.proofs.ListSteps.{both, same_numbers}

-- ---- a test through a function

items_same : {X Y : Type 0} (p : X → X → Bool) (q : Y → Y → Bool) (f : X → Y) → ((x y : X) → p x y ≡ q (f x) (f y)) → (xs ys : List X) →
    same_items p xs ys ≡ same_items q (map f xs) (map f ys)
items_same p q f same [] [] = refl
items_same p q f same [] (y ∷ ys) = refl
items_same p q f same (x ∷ xs) [] = refl
items_same p q f same (x ∷ xs) (y ∷ ys) = ap (λ b. b && same_items p xs ys) (same x y) ∙ ap (λ b. q (f x) (f y) && b) (items_same p q f same xs ys)

option_same : {X Y : Type 0} (p : X → X → Bool) (q : Y → Y → Bool) (f : X → Y) → ((x y : X) → p x y ≡ q (f x) (f y)) → (a b : Option X) →
    option_eq p a b ≡ option_eq q (option_map f a) (option_map f b)
option_same p q f same None None = refl
option_same p q f same None (Some y) = refl
option_same p q f same (Some x) None = refl
option_same p q f same (Some x) (Some y) = same x y

-- ---- keys

lines_same : (a b : LineKey) → (line_eq.ghosts).eq a b ≡ is_line (line_shown a) (line_shown b)
lines_same a b = refl

changes_same : (a b : ChangeKey) → (change_eq.ghosts).eq a b ≡ same_change (change_shown a) (change_shown b)
changes_same key.Clear key.Clear = refl
changes_same key.Clear (key.Replace b) = refl
changes_same key.Clear (key.Append b) = refl
changes_same (key.Replace a) key.Clear = refl
changes_same (key.Replace a) (key.Replace b) = refl
changes_same (key.Replace a) (key.Append b) = refl
changes_same (key.Append a) key.Clear = refl
changes_same (key.Append a) (key.Replace b) = refl
changes_same (key.Append a) (key.Append b) = refl

entries_same : (a b : EntryKey) → (entry_eq.ghosts).eq a b ≡ is_entry (entry_shown a) (entry_shown b)
entries_same a b =
    let head : Bool → Bool = λ r. nat_eq a.seq b.seq && (beq a.permit b.permit && (beq a.exact b.exact && r)) in
    let list = λ (x y : Vec LineKey). same_items (line_eq.ghosts).eq x.items y.items in
    let one = λ (x y : Vec LineKey). items_same (line_eq.ghosts).eq is_line line_shown lines_same x.items y.items in
    let lists = option_same (λ (x y : Vec (Vec LineKey)). same_items list x.items y.items) (same_items is_list) lists_shown
    (λ x y. items_same list is_list list_shown one x.items y.items) a.lists b.lists in
    let change = option_same (change_eq.ghosts).eq same_change change_shown changes_same a.change b.change in
    let delete = option_same list is_list list_shown one a.delete b.delete in
    let shown_a = entry_shown a in
    let shown_b = entry_shown b in
    ap (λ x. head (x && (option_eq nat_eq a.lp b.lp
    && (option_eq (change_eq.ghosts).eq a.change b.change && (option_eq list a.delete b.delete && nat_eq a.adds b.adds))))) lists
    ∙ ap (λ x. head (option_eq (same_items is_list) shown_a.lists shown_b.lists
    && (option_eq nat_eq a.lp b.lp && (x && (option_eq list a.delete b.delete && nat_eq a.adds b.adds))))) change
    ∙ ap (λ x. head (option_eq (same_items is_list) shown_a.lists shown_b.lists
    && (option_eq nat_eq a.lp b.lp && (option_eq same_change shown_a.change shown_b.change && (x && nat_eq a.adds b.adds))))) delete

pub keys_same : (a b : Vec EntryKey) → same_keys a b ≡ is_map (shown a) (shown b)
keys_same a b = items_same (entry_eq.ghosts).eq is_entry entry_shown entries_same a.items b.items

-- ---- maps

said_lines : (a b : CommunityList) → same_list a b ≡ is_list (list_said a) (list_said b)
said_lines a b = items_same same_line is_line line_said (λ x y. refl) a.lines b.lines

assoc : (a b c : Bool) → ((a && b) && c) ≡ (a && (b && c))
assoc true b c = refl
assoc false b c = refl

never : (a r : Bool) → (a && (false && r)) ≡ false
never true r = refl
never false r = refl

said_matches : (e f : Bool) (xs ys : Option (List CommunityList)) (r : Bool) →
    (same_match e f xs ys && r) ≡ (beq (is_some xs && e) (is_some ys && f)
    && (option_eq (same_items is_list) (option_map lists_said xs) (option_map lists_said ys) && r))
said_matches e f None None r = refl
said_matches e f None (Some ys) r = sym (never (beq false f) r)
said_matches e f (Some xs) None r = sym (never (beq e false) r)
said_matches e f (Some xs) (Some ys) r = assoc (beq e f) (same_items same_list xs ys) r
    ∙ ap (λ b. beq e f && (b && r)) (items_same same_list is_list list_said said_lines xs ys)

said_entries : (a b : PlainEntry) → same_entry a b ≡ is_entry (entry_said a) (entry_said b)
said_entries a b =
    let rest = λ (d : Bool). option_eq nat_eq a.lp b.lp && (option_eq same_change a.change b.change && (d && nat_eq a.adds b.adds)) in
    let delete = option_same same_list is_list list_said said_lines a.delete b.delete in
    ap (λ b'. nat_eq a.seq b.seq && (beq a.permit b.permit && b')) (said_matches a.exact b.exact a.lists b.lists (rest (option_eq same_list a.delete b.delete)))
    ∙ ap (λ d. nat_eq a.seq b.seq && (beq a.permit b.permit
    && (beq (is_some a.lists && a.exact) (is_some b.lists && b.exact)
    && (option_eq (same_items is_list) (option_map lists_said a.lists) (option_map lists_said b.lists) && rest d)))) delete

pub said_maps : (a b : Plain) → same_map a b ≡ is_map (said_of_map a) (said_of_map b)
unfolding same_map
said_maps a b = items_same same_entry is_entry entry_said said_entries a.entries b.entries

-- ---- the tests tell apart what maps say

beq_one : (a b : Bool) → beq a b ≡ true → a ≡ b
beq_one true true e = refl
beq_one true false e = cc
beq_one false true e = cc
beq_one false false e = refl

beq_self : (a : Bool) → beq a a ≡ true
beq_self true = refl
beq_self false = refl

number_self : (n : ℕ) → nat_eq n n ≡ true
number_self n = grind (arith, nat_tests)

numbers_tell : Tells nat_eq
numbers_tell = record { one = same_numbers; self = number_self }

bytes_tell : Tells bytes_eq
bytes_tell = items_tell nat_eq numbers_tell

lines_tell : Tells is_line
lines_tell = record {
  one = λ a b e. let parts = both (beq a.0 b.0) (bytes_eq a.1 b.1) e in ap (λ p. (p, a.1)) (beq_one a.0 b.0 parts.0)
      ∙ ap (λ cs. (b.0, cs)) (bytes_tell.one a.1 b.1 parts.1);
  self = λ a. ap (λ b. b && bytes_eq a.1 a.1) (beq_self a.0) ∙ bytes_tell.self a.1;
}

lists_tell : Tells is_list
lists_tell = items_tell is_line lines_tell

option_one : {X : Type 0} (p : X → X → Bool) → Tells p → (a b : Option X) → option_eq p a b ≡ true → a ≡ b
option_one p t None None e = refl
option_one p t None (Some y) e = cc
option_one p t (Some x) None e = cc
option_one p t (Some x) (Some y) e = ap (λ z. Some z) (t.one x y e)

option_self : {X : Type 0} (p : X → X → Bool) → Tells p → (a : Option X) → option_eq p a a ≡ true
option_self p t None = refl
option_self p t (Some x) = t.self x

change_one : (a b : Change) → same_change a b ≡ true → a ≡ b
change_one Clear Clear e = refl
change_one Clear (Replace b) e = cc
change_one Clear (Append b) e = cc
change_one (Replace a) Clear e = cc
change_one (Replace a) (Replace b) e = ap Replace (bytes_tell.one a b e)
change_one (Replace a) (Append b) e = cc
change_one (Append a) Clear e = cc
change_one (Append a) (Replace b) e = cc
change_one (Append a) (Append b) e = ap Append (bytes_tell.one a b e)

change_self : (a : Change) → same_change a a ≡ true
change_self Clear = refl
change_self (Replace a) = bytes_tell.self a
change_self (Append a) = bytes_tell.self a

changes_tell : Tells same_change
changes_tell = record { one = change_one; self = change_self }

made : ℕ → Bool → Bool → Option (List (List LineSaid)) → Option ℕ → Option Change → Option (List LineSaid) → ℕ → EntrySaid
made seq permit exact lists lp change delete adds =
    record { seq = seq; permit = permit; exact = exact; lists = lists; lp = lp; change = change; delete = delete; adds = adds }

entry_one : (a b : EntrySaid) → is_entry a b ≡ true → a ≡ b
unfolding made
entry_one a b e =
    let p1 = both _ _ e in
    let p2 = both _ _ p1.1 in
    let p3 = both _ _ p2.1 in
    let p4 = both _ _ p3.1 in
    let p5 = both _ _ p4.1 in
    let p6 = both _ _ p5.1 in
    let p7 = both _ _ p6.1 in
    ap (λ n. made n a.permit a.exact a.lists a.lp a.change a.delete a.adds) (numbers_tell.one a.seq b.seq p1.0)
    ∙ ap (λ p. made b.seq p a.exact a.lists a.lp a.change a.delete a.adds) (beq_one a.permit b.permit p2.0)
    ∙ ap (λ x. made b.seq b.permit x a.lists a.lp a.change a.delete a.adds) (beq_one a.exact b.exact p3.0)
    ∙ ap (λ ls. made b.seq b.permit b.exact ls a.lp a.change a.delete a.adds)
    (option_one (same_items is_list) (items_tell is_list lists_tell) a.lists b.lists p4.0)
    ∙ ap (λ l. made b.seq b.permit b.exact b.lists l a.change a.delete a.adds) (option_one nat_eq numbers_tell a.lp b.lp p5.0)
    ∙ ap (λ c. made b.seq b.permit b.exact b.lists b.lp c a.delete a.adds) (option_one same_change changes_tell a.change b.change p6.0)
    ∙ ap (λ d. made b.seq b.permit b.exact b.lists b.lp b.change d a.adds) (option_one is_list lists_tell a.delete b.delete p7.0)
    ∙ ap (λ n. made b.seq b.permit b.exact b.lists b.lp b.change b.delete n) (numbers_tell.one a.adds b.adds p7.1)

and_true : (a b : Bool) → a ≡ true → b ≡ true → (a && b) ≡ true
and_true a b e f = ap (λ x. x && b) e ∙ f

entry_self : (a : EntrySaid) → is_entry a a ≡ true
entry_self a =
    and_true (nat_eq a.seq a.seq) _ (number_self a.seq)
    (and_true (beq a.permit a.permit) _ (beq_self a.permit)
    (and_true (beq a.exact a.exact) _ (beq_self a.exact)
    (and_true (option_eq (same_items is_list) a.lists a.lists) _ (option_self (same_items is_list) (items_tell is_list lists_tell) a.lists)
    (and_true (option_eq nat_eq a.lp a.lp) _ (option_self nat_eq numbers_tell a.lp)
    (and_true (option_eq same_change a.change a.change) _ (option_self same_change changes_tell a.change)
    (and_true (option_eq is_list a.delete a.delete) (nat_eq a.adds a.adds) (option_self is_list lists_tell a.delete) (number_self a.adds)))))))

entries_tell : Tells is_entry
entries_tell = record { one = entry_one; self = entry_self }

pub maps_tell : Tells is_map
maps_tell = items_tell is_entry entries_tell
