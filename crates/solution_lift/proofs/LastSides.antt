-- The last edges that links carry from group to group.
use Rattle.std.proofs.Common.{◌≡◌, ℕ, ◌+◌, ◌<◌, Bool, true, false, cond, ◌&&◌, List, [], ◌∷◌, ◌++◌, length, take, get_or, Option, Some, None, refl, sym, ◌∙◌, ap, arith, append-nil}
use Rattle.std.specs.Prelude.{All, filter, filter_map, nat_eq, if◌then◌else◌}
use Rattle.std.specs.List.{cons_option}
use Rattle.std.proofs.lemmas.Bool.Decides.{nat_tests}
use Rattle.std.proofs.lemmas.List.{take_more}
use Rattle.std.proofs.lemmas.List.Elements.{All-head, All-tail, filter_map-append}
use Rattle.base_kit.specs.declared.protocol.Protocol.{Protocol}
use Rattle.base_kit.specs.declared.protocol.Protocol.TheVariants.{Bgp as OverBgp, Ospf as OverOspf}
use Rattle.abstract_net.specs.declared.qlink.QLink.{QLink}
use Rattle.abstract_net.specs.Carried.{side_of}
use Rattle.srp_quotient.specs.Groups.{same_group_pair, or_else, last_of, last_into, edge_into}
use Rattle.solution_lift.specs.Lasts.{carried, last_between, standing}

abbrev pub AreApart : List QLink → Type 0
AreApart links = All (λ (link : QLink). link.low < link.high) links

-- ---- one link more

last_push : (ks : List ℕ) (o : Option ℕ) → last_of (ks ++ cons_option o []) ≡ or_else o (last_of ks)
last_push ks None = ap last_of (append-nil ks)
last_push [] (Some k) = refl
last_push (j ∷ ks) (Some k) = ap (λ (o : Option ℕ). or_else o (Some j)) (last_push ks (Some k))

chosen : (a b : Bool) (low high last : Option ℕ) → (a ≡ true → b ≡ true → ⊥) →
    cond b (or_else high (cond a (or_else low last) last)) (cond a (or_else low last) last) ≡ or_else (cond a low (cond b high None)) last
chosen true true low high last h = absurd (h refl refl)
chosen true false low high last h = refl
chosen false true low high last h = refl
chosen false false low high last h = refl

one_way : (l : QLink) (g h : ℕ) → l.low < l.high → (nat_eq l.low g && nat_eq l.high h) ≡ true → (nat_eq l.high g && nat_eq l.low h) ≡ true → ⊥
one_way l g h less a b = absurd (grind (arith, nat_tests))

pub last_more : (links : List QLink) (i : ℕ) (l : QLink) (g h : ℕ) (old middle new : Option ℕ) → i < length links → l ≡ get_or links i l → l.low < l.high →
    old ≡ last_between g h (take i links)
    → middle ≡ (if nat_eq l.low g && nat_eq l.high h then or_else l.to_low old else old) →
    new ≡ (if nat_eq l.high g && nat_eq l.low h then or_else l.to_high middle else middle) → new ≡ last_between g h (take (i + 1) links)
last_more links i l g h old middle new inside at less before first second =
    second
    ∙ ap (λ (o : Option ℕ). if nat_eq l.high g && nat_eq l.low h then or_else l.to_high o else o) first
    ∙ chosen (nat_eq l.low g && nat_eq l.high h) (nat_eq l.high g && nat_eq l.low h) l.to_low l.to_high old (one_way l g h less)
    ∙ ap (or_else (carried g h l)) before
    ∙ sym (last_push (filter_map (carried g h) (take i links)) (carried g h l))
    ∙ ap last_of (sym (filter_map-append (carried g h) (take i links) (l ∷ [])))
    ∙ ap (last_between g h) (sym (take_more links i l inside ∙ ap (λ (m : QLink). take i links ++ m ∷ []) (sym at)))

-- ---- the last edge of a pair

pairs : (links : List QLink) (l : QLink) (g h : ℕ) → AreApart links →
    ((m : QLink) → m.low < m.high → (if same_group_pair l m then side_of g m else None) ≡ carried g h m) →
    filter_map (side_of g) (filter (same_group_pair l) links) ≡ filter_map (carried g h) links
pairs [] l g h all each = refl
pairs (m ∷ links) l g h all each =
    kept (same_group_pair l m) ∙ (λ i. cons_option (each m (All-head (λ (k : QLink). k.low < k.high) m links all) i)
    (pairs links l g h (All-tail (λ (k : QLink). k.low < k.high) m links all) each i))
  where
    kept : (b : Bool) → filter_map (side_of g) (cond b (m ∷ filter (same_group_pair l) links) (filter (same_group_pair l) links))
        ≡ cons_option (cond b (side_of g m) None)
        (filter_map (side_of g) (filter (same_group_pair l) links))
    kept true = refl
    kept false = refl

test_low : (l m : QLink) (a b c d : Bool) → m.low < m.high → l.low < l.high → (nat_eq l.low m.low && nat_eq l.high m.high) ≡ a → nat_eq m.low l.low ≡ b →
    (nat_eq m.low l.low && nat_eq m.high l.high) ≡ c → (nat_eq m.high l.low && nat_eq m.low l.high) ≡ d
    → cond a (cond b m.to_low m.to_high) None ≡ cond c m.to_low (cond d m.to_high None)
test_low l m true true true d hm hl e f g h = refl
test_low l m true false c d hm hl e f g h = absurd (grind (arith, nat_tests, e, f))
test_low l m true true false d hm hl e f g h = absurd (grind (arith, nat_tests, e, g))
test_low l m false b true d hm hl e f g h = absurd (grind (arith, nat_tests, e, g))
test_low l m false b false true hm hl e f g h = absurd (grind (arith, nat_tests, h))
test_low l m false b false false hm hl e f g h = refl

test_high : (l m : QLink) (a b c d : Bool) → m.low < m.high → l.low < l.high → (nat_eq l.low m.low && nat_eq l.high m.high) ≡ a → nat_eq m.low l.high ≡ b →
    (nat_eq m.low l.high && nat_eq m.high l.low) ≡ c → (nat_eq m.high l.high && nat_eq m.low l.low) ≡ d
    → cond a (cond b m.to_low m.to_high) None ≡ cond c m.to_low (cond d m.to_high None)
test_high l m true true c d hm hl e f g h = absurd (grind (arith, nat_tests, e, f))
test_high l m true false true d hm hl e f g h = absurd (grind (arith, nat_tests, g))
test_high l m true false false true hm hl e f g h = refl
test_high l m true false false false hm hl e f g h = absurd (grind (arith, nat_tests, e, h))
test_high l m false b true d hm hl e f g h = absurd (grind (arith, nat_tests, g))
test_high l m false b false true hm hl e f g h = absurd (grind (arith, nat_tests, e, h))
test_high l m false b false false hm hl e f g h = refl

last_low : (links : List QLink) (l : QLink) → AreApart links → l.low < l.high → last_into links l.low l ≡ last_between l.low l.high links
last_low links l all less = ap last_of (pairs links l l.low l.high all (λ m apart. test_low l m _ _ _ _ apart less refl refl refl refl))

last_high : (links : List QLink) (l : QLink) → AreApart links → l.low < l.high → last_into links l.high l ≡ last_between l.high l.low links
last_high links l all less = ap last_of (pairs links l l.high l.low all (λ m apart. test_high l m _ _ _ _ apart less refl refl refl refl))

own_low : (l : QLink) → side_of l.low l ≡ l.to_low
own_low l = ap (λ (b : Bool). if b then l.to_low else l.to_high) (let t : nat_eq l.low l.low ≡ true = grind (arith, nat_tests) in t)

own_high : (l : QLink) → l.low < l.high → side_of l.high l ≡ l.to_high
own_high l less = ap (λ (b : Bool). if b then l.to_low else l.to_high) (let t : nat_eq l.low l.high ≡ false = grind (arith, nat_tests) in t)

-- what stands at a link for the direction into its lower group
pub stands_low : (q : Protocol) (links : List QLink) (l : QLink) (last : Option ℕ) → AreApart links → l.low < l.high → last ≡ last_between l.low l.high links →
    standing q last l.to_low ≡ edge_into q links l.low l
unfolding edge_into
stands_low OverBgp links l last all less is = sym (own_low l)
stands_low OverOspf links l last all less is = λ i. or_else (sym (own_low l) i) ((is ∙ sym (last_low links l all less)) i)

-- what stands at a link for the direction into its higher group
pub stands_high : (q : Protocol) (links : List QLink) (l : QLink) (last : Option ℕ) → AreApart links → l.low < l.high → last ≡ last_between l.high l.low links →
    standing q last l.to_high ≡ edge_into q links l.high l
unfolding edge_into
stands_high OverBgp links l last all less is = sym (own_high l less)
stands_high OverOspf links l last all less is = λ i. or_else (sym (own_high l less) i) ((is ∙ sym (last_high links l all less)) i)
