-- Turns of loops that keep the least line of what they went over.
use Rattle.std.proofs.Common.{◌≡◌, ◌<◌, ℕ, ◌+◌, Bool, true, false, if◌then◌else◌, List, [], ◌∷◌, ◌++◌, map, filter, filter_map, flat_map, length, get_or, take, Option, Some, None, refl, sym, ap, ◌∙◌, append_assoc}
use Rattle.std.specs.Option.{option_map, option_to_list}
use Rattle.std.specs.List.{cons_option}
use Rattle.std.proofs.lemmas.List.{take_more, map-append}
use Rattle.std.proofs.lemmas.List.Elements.{filter-append, filter_map-append}
use Rattle.std.proofs.lemmas.Grind.{flat_map-append}
use Rattle.cfg_check.specs.LeastLine.{lesser_line, least_line, fault_line_if}
use Rattle.cfg_check.proofs.LeastOfList.{least_line-append}

taken : {X : Type 0} (xs : List X) (i : ℕ) (x : X) → i < length xs → x ≡ get_or xs i x → take (i + 1) xs ≡ take i xs ++ x ∷ []
taken {X} xs i x below here = take_more xs i x below ∙ ap (λ (y : X). take i xs ++ y ∷ []) (sym here)

if_last : {X : Type 0} (line : X → ℕ) (p : X → Bool) (x : X) (b : Bool) → p x ≡ b → least_line (map line (filter p (x ∷ []))) ≡ fault_line_if b (line x)
if_last line p x true e = rw e refl
if_last line p x false e = rw e refl

parts : {X : Type 0} (line : X → ℕ) (xs ys : List X) → least_line (map line (xs ++ ys)) ≡ lesser_line (least_line (map line xs)) (least_line (map line ys))
parts line xs ys = ap least_line (map-append line xs ys) ∙ least_line-append (map line xs) (map line ys)

-- the least line of the items that pass a test
least_filter_turn : {X : Type 0} (line : X → ℕ) (p : X → Bool) (xs : List X) (i : ℕ) (x : X) (b : Bool) → i < length xs → x ≡ get_or xs i x → p x ≡ b
    → least_line (map line (filter p (take (i + 1) xs))) ≡ lesser_line (least_line (map line (filter p (take i xs)))) (fault_line_if b (line x))
least_filter_turn {X} line p xs i x b below here is =
    ap (λ (l : List X). least_line (map line (filter p l))) (taken xs i x below here)
    ∙ ap (λ (l : List X). least_line (map line l)) (filter-append p (take i xs) (x ∷ []))
    ∙ parts line (filter p (take i xs)) (filter p (x ∷ []))
    ∙ ap (lesser_line (least_line (map line (filter p (take i xs))))) (if_last line p x b is)

no_more : {X : Type 0} (xs : List X) → xs ++ [] ≡ xs
no_more [] = refl
no_more (x ∷ xs) = ap (λ ys. x ∷ ys) (no_more xs)

-- the least line of all that the items have
least_flat_turn : {X Y : Type 0} (line : Y → ℕ) (f : X → List Y) (xs : List X) (i : ℕ) (x : X) → i < length xs → x ≡ get_or xs i x
    → least_line (map line (flat_map f (take (i + 1) xs))) ≡ lesser_line (least_line (map line (flat_map f (take i xs)))) (least_line (map line (f x)))
least_flat_turn {X} {Y} line f xs i x below here =
    ap (λ (l : List X). least_line (map line (flat_map f l))) (taken xs i x below here)
    ∙ ap (λ (l : List Y). least_line (map line l)) (flat_map-append f (take i xs) (x ∷ []))
    ∙ parts line (flat_map f (take i xs)) (flat_map f (x ∷ []))
    ∙ ap (λ (l : List Y). lesser_line (least_line (map line (flat_map f (take i xs)))) (least_line (map line l))) (no_more (f x))

-- the same of those that pass a test
least_filter_flat_turn : {X Y : Type 0} (line : Y → ℕ) (p : Y → Bool) (f : X → List Y) (xs : List X) (i : ℕ) (x : X) → i < length xs → x ≡ get_or xs i x
    → least_line (map line (filter p (flat_map f (take (i + 1) xs)))) ≡ lesser_line (least_line (map line (filter p (flat_map f (take i xs)))))
    (least_line (map line (filter p (f x))))
least_filter_flat_turn {X} {Y} line p f xs i x below here =
    ap (λ (l : List X). least_line (map line (filter p (flat_map f l)))) (taken xs i x below here)
    ∙ ap (λ (l : List Y). least_line (map line (filter p l)))
    (flat_map-append f (take i xs) (x ∷ []) ∙ ap (λ (l : List Y). flat_map f (take i xs) ++ l) (no_more (f x)))
    ∙ ap (λ (l : List Y). least_line (map line l)) (filter-append p (flat_map f (take i xs)) (f x))
    ∙ parts line (filter p (flat_map f (take i xs))) (filter p (f x))

picked_last : {X Y : Type 0} (line : Y → ℕ) (g : X → Option Y) (x : X) (o : Option Y) → g x ≡ o →
    least_line (map line (filter_map g (x ∷ []))) ≡ option_map line o
picked_last line g x None e = rw e refl
picked_last line g x (Some y) e = rw e refl

-- the least line of what is picked from the items
least_picked_turn : {X Y : Type 0} (line : Y → ℕ) (g : X → Option Y) (xs : List X) (i : ℕ) (x : X) → i < length xs → x ≡ get_or xs i x
    → least_line (map line (filter_map g (take (i + 1) xs))) ≡ lesser_line (least_line (map line (filter_map g (take i xs)))) (option_map line (g x))
least_picked_turn {X} {Y} line g xs i x below here =
    ap (λ (l : List X). least_line (map line (filter_map g l))) (taken xs i x below here)
    ∙ ap (λ (l : List Y). least_line (map line l)) (filter_map-append g (take i xs) (x ∷ []))
    ∙ parts line (filter_map g (take i xs)) (filter_map g (x ∷ []))
    ∙ ap (lesser_line (least_line (map line (filter_map g (take i xs))))) (picked_last line g x (g x) refl)

-- the same, from the least line so far and that of the item

pub filter_step : {X : Type 0} (line : X → ℕ) (p : X → Bool) (xs : List X) (i : ℕ) (x : X) (least : Option ℕ) (b : Bool) → i < length xs → x ≡ get_or xs i x
    → least ≡ least_line (map line (filter p (take i xs))) → p x ≡ b →
    lesser_line least (fault_line_if b (line x)) ≡ least_line (map line (filter p (take (i + 1) xs)))
filter_step line p xs i x least b below here so_far is = ap (λ o. lesser_line o (fault_line_if b (line x))) so_far
    ∙ sym (least_filter_turn line p xs i x b below here is)

pub flat_step : {X Y : Type 0} (line : Y → ℕ) (f : X → List Y) (xs : List X) (i : ℕ) (x : X) (least fault : Option ℕ) → i < length xs → x ≡ get_or xs i x
    → least ≡ least_line (map line (flat_map f (take i xs))) → fault ≡ least_line (map line (f x)) →
    lesser_line least fault ≡ least_line (map line (flat_map f (take (i + 1) xs)))
flat_step line f xs i x least fault below here so_far is =
    ap (λ o. lesser_line o fault) so_far ∙ ap (lesser_line (least_line (map line (flat_map f (take i xs))))) is ∙ sym (least_flat_turn line f xs i x below here)

pub filter_flat_step : {X Y : Type 0} (line : Y → ℕ) (p : Y → Bool) (f : X → List Y) (xs : List X) (i : ℕ) (x : X) (least fault : Option ℕ) → i < length xs →
    x ≡ get_or xs i x
    → least ≡ least_line (map line (filter p (flat_map f (take i xs)))) → fault ≡ least_line (map line (filter p (f x))) →
    lesser_line least fault ≡ least_line (map line (filter p (flat_map f (take (i + 1) xs))))
filter_flat_step line p f xs i x least fault below here so_far is =
    ap (λ o. lesser_line o fault) so_far ∙ ap (lesser_line (least_line (map line (filter p (flat_map f (take i xs)))))) is
    ∙ sym (least_filter_flat_turn line p f xs i x below here)

pub picked_step : {X Y : Type 0} (line : Y → ℕ) (g : X → Option Y) (xs : List X) (i : ℕ) (x : X) (least fault : Option ℕ) → i < length xs → x ≡ get_or xs i x
    → least ≡ least_line (map line (filter_map g (take i xs))) → fault ≡ option_map line (g x) →
    lesser_line least fault ≡ least_line (map line (filter_map g (take (i + 1) xs)))
picked_step line g xs i x least fault below here so_far is =
    ap (λ o. lesser_line o fault) so_far ∙ ap (lesser_line (least_line (map line (filter_map g (take i xs))))) is
    ∙ sym (least_picked_turn line g xs i x below here)

as_list : {Y : Type 0} (p : Option Y) → option_to_list p ≡ cons_option p []
as_list None = refl
as_list (Some y) = refl

picked_turn : {X Y : Type 0} (g : X → Option Y) (xs : List X) (i : ℕ) (x : X) → i < length xs → x ≡ get_or xs i x →
    filter_map g (take (i + 1) xs) ≡ filter_map g (take i xs) ++ option_to_list (g x)
picked_turn {X} {Y} g xs i x below here =
    ap (λ (l : List X). filter_map g l) (taken xs i x below here) ∙ filter_map-append g (take i xs) (x ∷ [])
    ∙ ap (λ (l : List Y). filter_map g (take i xs) ++ l) (sym (as_list (g x)))

-- what is picked, from one item more
pub picked_more : {X Y : Type 0} (g : X → Option Y) (xs : List X) (i : ℕ) (x : X) (found more : List Y) (o : Option Y) → i < length xs → x ≡ get_or xs i x →
    found ≡ filter_map g (take i xs) → o ≡ g x → more ≡ found ++ option_to_list o → more ≡ filter_map g (take (i + 1) xs)
picked_more {X} {Y} g xs i x found more o below here so_far is pushed =
    pushed ∙ ap (λ (l : List Y). l ++ option_to_list o) so_far ∙ ap (λ (p : Option Y). filter_map g (take i xs) ++ option_to_list p) is
    ∙ sym (picked_turn g xs i x below here)

-- the same behind what stood before
pub picked_onto : {X Y : Type 0} (g : X → Option Y) (before : List Y) (xs : List X) (i : ℕ) (x : X) (found more : List Y) (o : Option Y) → i < length xs →
    x ≡ get_or xs i x → found ≡ before ++ filter_map g (take i xs) → o ≡ g x → more ≡ found ++ option_to_list o →
    more ≡ before ++ filter_map g (take (i + 1) xs)
picked_onto {X} {Y} g before xs i x found more o below here so_far is pushed =
    pushed ∙ ap (λ (l : List Y). l ++ option_to_list o) so_far ∙ append_assoc before (filter_map g (take i xs)) (option_to_list o)
    ∙ ap (λ (l : List Y). before ++ l) (ap (λ (p : Option Y). filter_map g (take i xs) ++ option_to_list p) is ∙ sym (picked_turn g xs i x below here))

-- what all items have, from one item more
pub flat_more : {X Y : Type 0} (f : X → List Y) (xs : List X) (i : ℕ) (x : X) (found more ys : List Y) → i < length xs → x ≡ get_or xs i x →
    found ≡ flat_map f (take i xs) → ys ≡ f x → more ≡ found ++ ys → more ≡ flat_map f (take (i + 1) xs)
flat_more {X} {Y} f xs i x found more ys below here so_far is pushed =
    pushed ∙ ap (λ (l : List Y). l ++ ys) so_far ∙ ap (λ (l : List Y). flat_map f (take i xs) ++ l) (is ∙ sym (no_more (f x)))
    ∙ sym (ap (λ (l : List X). flat_map f l) (taken xs i x below here) ∙ flat_map-append f (take i xs) (x ∷ []))

-- the least line of all that the items have, where they have lines
pub lines_step : {X : Type 0} (f : X → List ℕ) (xs : List X) (i : ℕ) (x : X) (least fault : Option ℕ) → i < length xs → x ≡ get_or xs i x
    → least ≡ least_line (flat_map f (take i xs)) → fault ≡ least_line (f x) → lesser_line least fault ≡ least_line (flat_map f (take (i + 1) xs))
lines_step {X} f xs i x least fault below here so_far is =
    ap (λ o. lesser_line o fault) so_far ∙ ap (lesser_line (least_line (flat_map f (take i xs)))) is
    ∙ sym (ap (λ (l : List X). least_line (flat_map f l)) (taken xs i x below here)
    ∙ ap least_line (flat_map-append f (take i xs) (x ∷ []) ∙ ap (λ (l : List ℕ). flat_map f (take i xs) ++ l) (no_more (f x)))
    ∙ least_line-append (flat_map f (take i xs)) (f x))

pub line_if_least : (b : Bool) (line : ℕ) → fault_line_if b line ≡ least_line (if b then line ∷ [] else [])
line_if_least true line = refl
line_if_least false line = refl

-- the least line of two lists
pub both_lines : (xs ys : List ℕ) (a b : Option ℕ) → a ≡ least_line xs → b ≡ least_line ys → lesser_line a b ≡ least_line (xs ++ ys)
both_lines xs ys a b p q = ap (λ o. lesser_line o b) p ∙ ap (lesser_line (least_line xs)) q ∙ sym (least_line-append xs ys)

-- the same behind what stood before
pub flat_onto : {X Y : Type 0} (f : X → List Y) (before : List Y) (xs : List X) (i : ℕ) (x : X) (found more ys : List Y) → i < length xs → x ≡ get_or xs i x →
    found ≡ before ++ flat_map f (take i xs) → ys ≡ f x → more ≡ found ++ ys → more ≡ before ++ flat_map f (take (i + 1) xs)
flat_onto {X} {Y} f before xs i x found more ys below here so_far is pushed =
    pushed ∙ ap (λ (l : List Y). l ++ ys) so_far ∙ append_assoc before (flat_map f (take i xs)) ys
    ∙ ap (λ (l : List Y). before ++ l) (flat_more f xs i x (flat_map f (take i xs)) (flat_map f (take i xs) ++ ys) ys below here refl is refl)
