-- Items that are like an earlier one, and the least line of them.
use Rattle.std.proofs.Common.{◌≡◌, ◌<◌, ℕ, ◌+◌, Bool, true, false, cond, ◌||◌, List, [], ◌∷◌, ◌++◌, map, filter_map, length, get_or, take, Option, Some, None, refl, sym, ap, ◌∙◌}
use Rattle.std.specs.Option.{option_map}
use Rattle.std.specs.List.{list_any, cons_option}
use Rattle.std.proofs.lemmas.List.{take_more, map-append}
use Rattle.cfg_ast.specs.meaning.RouterFaults.{repeats, repeats_after}
use Rattle.cfg_check.specs.LeastLine.{lesser_line, least_line, fault_line_if}
use Rattle.cfg_check.proofs.LeastOfList.{least_line-append}

item_if : {X : Type 0} → Bool → X → List X
item_if b x = cond b (x ∷ []) []

or_false : (b : Bool) → (b || false) ≡ b
or_false true = refl
or_false false = refl

or_moved : (a b c : Bool) → (a || (b || c)) ≡ ((b || a) || c)
or_moved true true c = refl
or_moved true false c = refl
or_moved false true c = refl
or_moved false false c = refl

item_last : {X : Type 0} (alike : X → X → Bool) (past : List X) (x : X) → repeats_after alike past (x ∷ []) ≡ item_if (list_any (alike x) past) x
unfolding item_if
item_last alike past x = refl

kept : {X : Type 0} (b : Bool) (y : X) (xs ys zs : List X) → xs ≡ ys ++ zs → cond b (y ∷ xs) xs ≡ cond b (y ∷ ys) ys ++ zs
kept true y xs ys zs e = ap (λ (l : List _). y ∷ l) e
kept false y xs ys zs e = e

repeats_push_after : {X : Type 0} (alike : X → X → Bool) (past xs : List X) (x : X) → repeats_after alike past (xs ++ x ∷ []) ≡ repeats_after alike past xs
    ++ item_if (list_any (alike x) xs || list_any (alike x) past) x
repeats_push_after alike past [] x = item_last alike past x
repeats_push_after {X} alike past (y ∷ xs) x =
    let ih = repeats_push_after alike (y ∷ past) xs x in
    let order = ap (λ b. repeats_after alike (y ∷ past) xs ++ item_if b x) (or_moved (list_any (alike x) xs) (alike x y) (list_any (alike x) past)) in
    kept (list_any (alike y) past) y _ _ _ (ih ∙ order)

-- one item more
pub repeats-push : {X : Type 0} (alike : X → X → Bool) (xs : List X) (x : X) → repeats alike (xs ++ x ∷ []) ≡ repeats alike xs
    ++ cond (list_any (alike x) xs) (x ∷ []) []
unfolding item_if
repeats-push alike xs x = repeats_push_after alike [] xs x ∙ ap (λ b. repeats alike xs ++ item_if b x) (or_false (list_any (alike x) xs))

least_if : {X : Type 0} (line : X → ℕ) (b : Bool) (x : X) → least_line (map line (cond b (x ∷ []) [])) ≡ fault_line_if b (line x)
least_if line true x = refl
least_if line false x = refl

pub least_repeat-push : {X : Type 0} (alike : X → X → Bool) (line : X → ℕ) (xs : List X) (x : X) →
    least_line (map line (repeats alike (xs ++ x ∷ []))) ≡ lesser_line (least_line (map line (repeats alike xs)))
    (fault_line_if (list_any (alike x) xs) (line x))
least_repeat-push alike line xs x =
    let last = cond (list_any (alike x) xs) (x ∷ []) [] in
    ap (λ l. least_line (map line l)) (repeats-push alike xs x)
    ∙ ap least_line (map-append line (repeats alike xs) last)
    ∙ least_line-append (map line (repeats alike xs)) (map line last)
    ∙ ap (lesser_line (least_line (map line (repeats alike xs)))) (least_if line (list_any (alike x) xs) x)

-- a turn of a loop that keeps the least line of a repeated item
pub least_repeat_turn : {X : Type 0} (alike : X → X → Bool) (line : X → ℕ) (xs : List X) (i : ℕ) (x : X) (least : Option ℕ) (again : Bool) → i < length xs →
    x ≡ get_or xs i x
    → least ≡ least_line (map line (repeats alike (take i xs))) → again ≡ list_any (alike x) (take i xs)
    → lesser_line least (fault_line_if again (line x)) ≡ least_line (map line (repeats alike (take (i + 1) xs)))
least_repeat_turn {X} alike line xs i x least again below here so_far is =
    ap (λ o. lesser_line o (fault_line_if again (line x))) so_far
    ∙ ap (λ b. lesser_line (least_line (map line (repeats alike (take i xs)))) (fault_line_if b (line x))) is
    ∙ sym (least_repeat-push alike line (take i xs) x)
    ∙ ap (λ (l : List X). least_line (map line (repeats alike l))) (sym (take_more xs i x below ∙ ap (λ (y : X). take i xs ++ y ∷ []) (sym here)))

any_mapped : {X Y : Type 0} (f : X → Y) (alike : X → X → Bool) (like : Y → Y → Bool) → ((x y : X) → like (f x) (f y) ≡ alike x y) → (x : X) (past : List X) →
    list_any (like (f x)) (map f past) ≡ list_any (alike x) past
any_mapped f alike like same x [] = refl
any_mapped f alike like same x (y ∷ past) = rw (same x y, any_mapped f alike like same x past) refl

cond_mapped : {X Y : Type 0} (f : X → Y) (b : Bool) (x : X) (xs : List X) (ys : List Y) → ys ≡ map f xs → cond b (f x ∷ ys) ys ≡ map f (cond b (x ∷ xs) xs)
cond_mapped f true x xs ys e = ap (λ l. f x ∷ l) e
cond_mapped f false x xs ys e = e

repeats_mapped : {X Y : Type 0} (f : X → Y) (alike : X → X → Bool) (like : Y → Y → Bool) → ((x y : X) → like (f x) (f y) ≡ alike x y) → (past xs : List X) →
    repeats_after like (map f past) (map f xs) ≡ map f (repeats_after alike past xs)
repeats_mapped f alike like same past [] = refl
repeats_mapped {X} {Y} f alike like same past (x ∷ xs) =
    ap (λ b. cond b (f x ∷ repeats_after like (map f (x ∷ past)) (map f xs)) (repeats_after like (map f (x ∷ past)) (map f xs)))
    (any_mapped f alike like same x past)
    ∙ cond_mapped f (list_any (alike x) past) x (repeats_after alike (x ∷ past) xs) (repeats_after like (map f (x ∷ past)) (map f xs))
    (repeats_mapped f alike like same (x ∷ past) xs)

map_twice : {X Y Z : Type 0} (f : X → Y) (g : Y → Z) (xs : List X) → map g (map f xs) ≡ map (λ x. g (f x)) xs
map_twice f g [] = refl
map_twice f g (x ∷ xs) = ap (λ l. g (f x) ∷ l) (map_twice f g xs)

picked_one : {X Y : Type 0} (f : X → Y) (o : Option X) (xs : List X) (ys : List Y) → ys ≡ map f xs → cons_option (option_map f o) ys ≡ map f (cons_option o xs)
picked_one f None xs ys e = e
picked_one f (Some x) xs ys e = ap (λ l. f x ∷ l) e

picked_mapped : {W X Y : Type 0} (g : W → Option X) (f : X → Y) (ws : List W) → filter_map (λ w. option_map f (g w)) ws ≡ map f (filter_map g ws)
picked_mapped g f [] = refl
picked_mapped g f (w ∷ ws) = picked_one f (g w) (filter_map g ws) (filter_map (λ w. option_map f (g w)) ws) (picked_mapped g f ws)

-- the least line of a repeated item, from the keys and lines of the items
pub least_repeat-keys : {W X Y : Type 0} (g : W → Option X) (f : X → Y) (alike : X → X → Bool) (like : Y → Y → Bool) (line : Y → ℕ) →
    ((x y : X) → like (f x) (f y) ≡ alike x y) → (ws : List W)
    → least_line (map line (repeats like (filter_map (λ w. option_map f (g w)) ws))) ≡ least_line (map (λ x. line (f x)) (repeats alike (filter_map g ws)))
least_repeat-keys {W} {X} {Y} g f alike like line same ws =
    ap (λ (ys : List Y). least_line (map line (repeats like ys))) (picked_mapped g f ws)
    ∙ ap (λ (ys : List Y). least_line (map line ys)) (repeats_mapped f alike like same [] (filter_map g ws))
    ∙ ap least_line (map_twice f line (repeats alike (filter_map g ws)))
