-- Places for both ends of links: those that are joined give the links in order. Public: crates above may cite it.
use Rattle.std.proofs.Common.{◌≡◌, ℕ, zero, suc, ◌+◌, ◌<◌, ◌≤◌, Bool, true, false, cond, ◌&&◌, ◌||◌, nat_eq, nat_lt, List, [], ◌∷◌, ◌++◌, map, length, take, Some, inl, inr, refl, sym, ◌∙◌, ap, subst, arith}
use Rattle.std.specs.Prelude.{filter, flat_map, slice_get}
use Rattle.std.specs.List.{enumerate_from, range_with_len}
use Rattle.std.proofs.lemmas.Bool.Decides.{nat_tests}
use Rattle.std.proofs.lemmas.Grind.{flat_map-append}
use Rattle.std.proofs.lemmas.List.{map-append}
use Rattle.std.proofs.lemmas.List.Elements.{filter-append}
use Rattle.base_kit.proofs.Elements.{In}
use Rattle.by_key.specs.ByKey.{with_key}
use Rattle.by_key.proofs.SortedByKey.{Rises, grouped}
use Rattle.cfg_ast.specs.declared.topology.Link.{Link}
use Rattle.cfg_ast.specs.meaning.Topology.{Place, links_from, links_joining, link_between}
use Rattle.abstract_net.specs.declared.qlink.QLink.{QLink}
use Rattle.srp_quotient.specs.Groups.{touches}
use Rattle.config_emit.specs.Interfaces.{is_at}
use Rattle.emit_link_laws.specs.Laws.{links_before}

-- ---- lists

pub filter_twice : {X : Type 0} (p q : X → Bool) (xs : List X) → filter p (filter q xs) ≡ filter (λ x. q x && p x) xs
filter_twice p q [] = refl
filter_twice {X} p q (x ∷ xs) = by (q x) (filter_twice p q xs)
  where
    by : (b : Bool) → filter p (filter q xs) ≡ filter (λ y. q y && p y) xs →
        filter p (cond b (x ∷ filter q xs) (filter q xs)) ≡ cond (b && p x) (x ∷ filter (λ y. q y && p y) xs) (filter (λ y. q y && p y) xs)
    by true rest = ap (λ (ys : List X). cond (p x) (x ∷ ys) ys) rest
    by false rest = rest

pub filter_same : {X : Type 0} (p q : X → Bool) (xs : List X) → ((x : X) → In xs x → p x ≡ q x) → filter p xs ≡ filter q xs
filter_same p q [] same = refl
filter_same {X} p q (x ∷ xs) same = ap (λ (b : Bool). cond b (x ∷ filter p xs) (filter p xs)) (same x (inl refl))
    ∙ ap (λ (ys : List X). cond (q x) (x ∷ ys) ys) (filter_same p q xs (λ y at. same y (inr at)))

none_pass : {X : Type 0} (p : X → Bool) (xs : List X) → ((x : X) → p x ≡ false) → filter p xs ≡ []
none_pass p [] fails = refl
none_pass p (x ∷ xs) fails = ap (λ (b : Bool). cond b (x ∷ filter p xs) (filter p xs)) (fails x) ∙ none_pass p xs fails

pub filter_flat : {X Y : Type 0} (r : Y → Bool) (f : X → List Y) (xs : List X) → filter r (flat_map f xs) ≡ flat_map (λ x. filter r (f x)) xs
filter_flat r f [] = refl
filter_flat {X} {Y} r f (x ∷ xs) = filter-append r (f x) (flat_map f xs) ∙ ap (λ (ys : List Y). filter r (f x) ++ ys) (filter_flat r f xs)

mapped_if : {X Y : Type 0} (f : X → Y) (b : Bool) (x : X) (xs : List X) (ys : List Y) → ys ≡ map f xs → cond b (f x ∷ ys) ys ≡ map f (cond b (x ∷ xs) xs)
mapped_if {X} {Y} f true x xs ys e = ap (λ (zs : List Y). f x ∷ zs) e
mapped_if f false x xs ys e = e

pub filter_mapped : {X Y : Type 0} (r : Y → Bool) (f : X → Y) (xs : List X) → filter r (map f xs) ≡ map f (filter (λ x. r (f x)) xs)
filter_mapped r f [] = refl
filter_mapped r f (x ∷ xs) = mapped_if f (r (f x)) x (filter (λ y. r (f y)) xs) (filter r (map f xs)) (filter_mapped r f xs)

pub flat_map_same : {X Y : Type 0} (f h : X → List Y) (xs : List X) → ((x : X) → In xs x → f x ≡ h x) → flat_map f xs ≡ flat_map h xs
flat_map_same f h [] same = refl
flat_map_same {X} {Y} f h (x ∷ xs) same = ap (λ (ys : List Y). ys ++ flat_map f xs) (same x (inl refl))
    ∙ ap (λ (ys : List Y). h x ++ ys) (flat_map_same f h xs (λ y at. same y (inr at)))

pub flat_flat : {X Y Z : Type 0} (h : Y → List Z) (f : X → List Y) (xs : List X) → flat_map h (flat_map f xs) ≡ flat_map (λ x. flat_map h (f x)) xs
flat_flat h f [] = refl
flat_flat {X} {Y} {Z} h f (x ∷ xs) = flat_map-append h (f x) (flat_map f xs) ∙ ap (λ (zs : List Z). flat_map h (f x) ++ zs) (flat_flat h f xs)

pub flat_of_map : {X Y Z : Type 0} (h : Y → List Z) (f : X → Y) (xs : List X) → flat_map h (map f xs) ≡ flat_map (λ x. h (f x)) xs
flat_of_map h f [] = refl
flat_of_map {X} {Y} {Z} h f (x ∷ xs) = ap (λ (zs : List Z). h (f x) ++ zs) (flat_of_map h f xs)

pub map_of_flat : {X Y Z : Type 0} (f : Y → Z) (h : X → List Y) (xs : List X) → map f (flat_map h xs) ≡ flat_map (λ x. map f (h x)) xs
map_of_flat f h [] = refl
map_of_flat {X} {Y} {Z} f h (x ∷ xs) = map-append f (h x) (flat_map h xs) ∙ ap (λ (zs : List Z). map f (h x) ++ zs) (map_of_flat f h xs)

-- what is listed where a test passes
pub listed_if : {X Y : Type 0} (p : X → Bool) (f : X → Y) (xs : List X) → flat_map (λ x. cond (p x) (f x ∷ []) []) xs ≡ map f (filter p xs)
listed_if p f [] = refl
listed_if {X} {Y} p f (x ∷ xs) = ap (λ (ys : List Y). cond (p x) (f x ∷ []) [] ++ ys) (listed_if p f xs) ∙ by (p x)
  where
    by : (b : Bool) → cond b (f x ∷ []) [] ++ map f (filter p xs) ≡ map f (cond b (x ∷ filter p xs) (filter p xs))
    by true = refl
    by false = refl

without_places : {X Y : Type 0} (h : X → List Y) (n : ℕ) (xs : List X) → flat_map (λ (p : ℕ × X). h p.1) (enumerate_from n xs) ≡ flat_map h xs
without_places h n [] = refl
without_places {X} {Y} h n (x ∷ xs) = ap (λ (ys : List Y). h x ++ ys) (without_places h (n + 1) xs)

nothing_in_range : {Y : Type 0} (f : ℕ → Y) (b : Bool) (h a n : ℕ) → h < a → flat_map (λ g. cond (nat_eq g h && b) (f g ∷ []) []) (range_with_len a n) ≡ []
nothing_in_range f b h a zero less = refl
nothing_in_range {Y} f b h a (suc n) less =
    ap (λ (c : Bool). cond (c && b) (f a ∷ []) [] ++ flat_map (λ g. cond (nat_eq g h && b) (f g ∷ []) []) (range_with_len (a + 1) n))
    (let e : nat_eq a h ≡ false = grind (arith, nat_tests) in e)
    ∙ nothing_in_range f b h (a + 1) n (omega arith)

one_step : {Y : Type 0} (f : ℕ → Y) (b : Bool) (h a : ℕ) (rest : List Y) (c : Bool) → nat_eq a h ≡ c → (a ≡ h → rest ≡ []) →
    (nat_eq a h ≡ false → rest ≡ cond b (f h ∷ []) []) → cond (c && b) (f a ∷ []) [] ++ rest ≡ cond b (f h ∷ []) []
one_step {Y} f b h a rest true here none more =
    let same : a ≡ h = grind (arith, nat_tests) in
    ap (λ (ys : List Y). cond b (f a ∷ []) [] ++ ys) (none same) ∙ by b ∙ ap (λ k. cond b (f k ∷ []) []) same
  where
    by : (c : Bool) → cond c (f a ∷ []) [] ++ [] ≡ cond c (f a ∷ []) []
    by true = refl
    by false = refl
one_step f b h a rest false other none more = more other

-- of all numbers one is listed
one_in_range : {Y : Type 0} (f : ℕ → Y) (b : Bool) (h a n : ℕ) → a ≤ h → h < a + n →
    flat_map (λ g. cond (nat_eq g h && b) (f g ∷ []) []) (range_with_len a n) ≡ cond b (f h ∷ []) []
one_in_range f b h a zero le less = absurd (omega arith)
one_in_range {Y} f b h a (suc n) le less =
    one_step f b h a (flat_map (λ g. cond (nat_eq g h && b) (f g ∷ []) []) (range_with_len (a + 1) n)) (nat_eq a h) refl
    (λ same. nothing_in_range f b h (a + 1) n (omega arith))
    (λ other. one_in_range f b h (a + 1) n (let ne : nat_eq a h ≡ false = other in grind (arith, nat_tests)) (omega arith))

-- ---- the links of a group, by number

is_number : ℕ → ℕ × (ℕ × QLink) → Bool
is_number t p = nat_eq t p.1.0

not_numbered : (t b m : ℕ) (x : QLink) (rest : List (ℕ × (ℕ × QLink))) → t < m → cond (is_number t (b, (m, x))) ((b, (m, x)) ∷ rest) rest ≡ rest
unfolding is_number
not_numbered t b m x rest less = ap (λ (d : Bool). cond d ((b, (m, x)) ∷ rest) rest) (let e : nat_eq t m ≡ false = grind (arith, nat_tests) in e)

none_step : (t b m : ℕ) (x : QLink) (rest : List (ℕ × QLink)) (c : Bool) → t < m → ((n : ℕ) → filter (is_number t) (enumerate_from n rest) ≡ []) →
    filter (is_number t) (enumerate_from b (cond c ((m, x) ∷ rest) rest)) ≡ []
none_step t b m x rest true less none = not_numbered t b m x (filter (is_number t) (enumerate_from (b + 1) rest)) less ∙ none (b + 1)
none_step t b m x rest false less none = none b

-- links before this one have other numbers
none_numbered : (g t b m : ℕ) (xs : List QLink) → t < m → filter (is_number t) (enumerate_from b (filter (is_at g) (enumerate_from m xs))) ≡ []
none_numbered g t b m [] less = refl
none_numbered g t b m (x ∷ xs) less = none_step t b m x (filter (is_at g) (enumerate_from (m + 1) xs)) (touches g x) less
    (λ n. none_numbered g t n (m + 1) xs (omega arith))

abbrev found_if : Bool → ℕ → ℕ → QLink → List (ℕ × (ℕ × QLink))
found_if c b t l = cond c ((b, (t, l)) ∷ []) []

first_step : (t b m : ℕ) (x : QLink) (rest : List (ℕ × QLink)) (c : Bool) → t ≡ m → ((n : ℕ) → filter (is_number t) (enumerate_from n rest) ≡ []) →
    filter (is_number t) (enumerate_from b (cond c ((m, x) ∷ rest) rest)) ≡ found_if c b t x
unfolding is_number
first_step t b m x rest true same none =
    ap (λ (d : Bool). cond d ((b, (m, x)) ∷ filter (is_number t) (enumerate_from (b + 1) rest)) (filter (is_number t) (enumerate_from (b + 1) rest)))
    (let e : nat_eq t m ≡ true = grind (arith, nat_tests) in e)
    ∙ ap (λ ys. (b, (m, x)) ∷ ys) (none (b + 1))
    ∙ ap (λ k. (b, (k, x)) ∷ []) (sym same)
first_step t b m x rest false same none = none b

next_step : (t b m : ℕ) (x : QLink) (rest : List (ℕ × QLink)) (before : List QLink) (c d : Bool) (l : QLink) → m < t →
    ((n : ℕ) → filter (is_number t) (enumerate_from n rest) ≡ found_if d (n + length before) t l)
    → filter (is_number t) (enumerate_from b (cond c ((m, x) ∷ rest) rest)) ≡ found_if d (b + length (cond c (x ∷ before) before)) t l
unfolding is_number
next_step t b m x rest before true d l less found =
    ap (λ (e : Bool). cond e ((b, (m, x)) ∷ filter (is_number t) (enumerate_from (b + 1) rest)) (filter (is_number t) (enumerate_from (b + 1) rest)))
    (let e : nat_eq t m ≡ false = grind (arith, nat_tests) in e)
    ∙ found (b + 1)
    ∙ ap (λ n. found_if d n t l) (let e : b + 1 + length before ≡ b + suc (length before) = omega arith in e)
next_step t b m x rest before false d l less found = found b

-- the link of a number, if it touches the group: behind as many links of the group as stand before it
found_numbered : (g b m k : ℕ) (xs : List QLink) (l : QLink) → slice_get xs k ≡ Some l →
    filter (is_number (m + k)) (enumerate_from b (filter (is_at g) (enumerate_from m xs))) ≡ found_if (touches g l) (b + links_before xs g k) (m + k) l
found_numbered g b m k [] l e = cc
found_numbered g b m zero (x ∷ xs) l e =
    let same : x ≡ l = cc in
    first_step (m + zero) b m x (filter (is_at g) (enumerate_from (m + 1) xs)) (touches g x) (omega arith)
    (λ n. none_numbered g (m + zero) n (m + 1) xs (omega arith))
    ∙ ap (λ y. found_if (touches g y) b (m + zero) y) same
    ∙ ap (λ n. found_if (touches g l) n (m + zero) l) (let f : b ≡ b + 0 = omega arith in f)
found_numbered g b m (suc k) (x ∷ xs) l e =
    let P : ℕ → Type 0 = λ t. (n : ℕ) → filter (is_number t) (enumerate_from n (filter (is_at g) (enumerate_from (m + 1) xs))) ≡ found_if (touches g l)
    (n + links_before xs g k) t l in
    let same : m + 1 + k ≡ m + suc k = omega arith in
    next_step (m + suc k) b m x (filter (is_at g) (enumerate_from (m + 1) xs)) (filter (touches g) (take k xs)) (touches g x) (touches g l) l (omega arith)
    (subst P same (λ n. found_numbered g n (m + 1) k xs l e))

-- ---- what stands among the links of a group

pub record IsOfGroup (links : List QLink) (g b m i t : ℕ) (l : QLink) : Type 0 where
  pub place : ℕ
  pub number : t ≡ m + place
  pub at : slice_get links place ≡ Some l
  pub touching : touches g l ≡ true
  pub item : i ≡ b + links_before links g place

-- one link more in front
behind : (x : QLink) (xs : List QLink) (g b m i t : ℕ) (l : QLink) (c : Bool) → touches g x ≡ c → IsOfGroup xs g (b + cond c 1 0) (m + 1) i t l →
    IsOfGroup (x ∷ xs) g b m i t l
behind x xs g b m i t l c is_c is = record {
  place = suc is.place;
  number = (let n = is.number in omega arith);
  at = is.at;
  touching = is.touching;
  item = is.item ∙ sum (touches g x) is_c;
}
  where
    sum : (d : Bool) → d ≡ c → b + cond c 1 0 + length (filter (touches g) (take is.place xs)) ≡ b + length
        (cond d (x ∷ filter (touches g) (take is.place xs)) (filter (touches g) (take is.place xs)))
    sum true same = ap (λ (e : Bool). b + cond e 1 0 + length (filter (touches g) (take is.place xs))) (sym same) ∙ omega arith
    sum false same = ap (λ (e : Bool). b + cond e 1 0 + length (filter (touches g) (take is.place xs))) (sym same) ∙ omega arith

numbered_step : (x : QLink) (xs : List QLink) (g b m i t : ℕ) (l : QLink) (rest : List (ℕ × QLink)) (c : Bool) → touches g x ≡ c →
    ((n : ℕ) → In (enumerate_from n rest) (i, (t, l)) → IsOfGroup xs g n (m + 1) i t l)
    → In (enumerate_from b (cond c ((m, x) ∷ rest) rest)) (i, (t, l)) → IsOfGroup (x ∷ xs) g b m i t l
numbered_step x xs g b m i t l rest true is_c more (inl same) =
    let number : m ≡ t = ap (λ (p : ℕ × (ℕ × QLink)). p.1.0) same in
    let link : x ≡ l = ap (λ (p : ℕ × (ℕ × QLink)). p.1.1) same in
    let item : b ≡ i = ap (λ (p : ℕ × (ℕ × QLink)). p.0) same in
    record { place = zero; number = (omega arith); at = ap Some link; touching = sym (ap (touches g) link) ∙ is_c; item = (omega arith) }
numbered_step x xs g b m i t l rest true is_c more (inr at) = behind x xs g b m i t l true is_c (more (b + 1) at)
numbered_step x xs g b m i t l rest false is_c more at =
    behind x xs g b m i t l false is_c (let P : ℕ → Type 0 = λ n. IsOfGroup xs g n (m + 1) i t l in let same : b ≡ b + 0 = omega arith in
    subst P same (more b at))

pub numbered_in : (links : List QLink) (g b m i t : ℕ) (l : QLink) → In (enumerate_from b (filter (is_at g) (enumerate_from m links))) (i, (t, l)) →
    IsOfGroup links g b m i t l
numbered_in [] g b m i t l at = absurd at
numbered_in (x ∷ xs) g b m i t l at = numbered_step x xs g b m i t l (filter (is_at g) (enumerate_from (m + 1) xs)) (touches g x) refl
    (λ n in_rest. numbered_in xs g n (m + 1) i t l in_rest) at

-- ---- spots

-- places for the ends of links are joined where they are of one link, the first of the earlier group
pub record ArePaired {X : Type 0} (links : List QLink) (spot : ℕ → ℕ × (ℕ × QLink) → Place X) (joins : Place X → Place X → Bool) : Type 0 where
  pub same : (g h i j t u : ℕ) (l m : QLink) → slice_get links t ≡ Some l → slice_get links u ≡ Some m → touches g l ≡ true → touches h m ≡ true
      → joins (spot g (i, (t, l))) (spot h (j, (u, m))) ≡ (nat_eq t u && nat_lt g h)

pub record AreBetween (links : List QLink) (count : ℕ) : Type 0 where
  pub low : (l : QLink) → In links l → l.low < l.high
  pub high : (l : QLink) → In links l → l.high < count
  pub rises : Rises (λ (l : QLink). l.low) links

get_in_list : {X : Type 0} (xs : List X) (k : ℕ) (x : X) → slice_get xs k ≡ Some x → In xs x
get_in_list [] k x e = cc
get_in_list (y ∷ ys) zero x e = inl cc
get_in_list (y ∷ ys) (suc k) x e = inr (get_in_list ys k x e)

low_of : ℕ × QLink → ℕ
low_of p = p.1.low

numbered_of : (ls : List QLink) (n : ℕ) (p : ℕ × QLink) → In (enumerate_from n ls) p → In ls p.1
numbered_of [] n p at = absurd at
numbered_of (l ∷ ls) n p (inl same) = inl (ap (λ (q : ℕ × QLink). q.1) same)
numbered_of (l ∷ ls) n p (inr at) = inr (numbered_of ls (n + 1) p at)

rises_numbered : (ls : List QLink) (n : ℕ) → Rises (λ (l : QLink). l.low) ls → Rises low_of (enumerate_from n ls)
unfolding low_of
rises_numbered [] n up = tt
rises_numbered (l ∷ ls) n up = ((λ p at. up.0 p.1 (numbered_of ls (n + 1) p at)), rises_numbered ls (n + 1) up.1)

and_true : (b : Bool) → (b && true) ≡ b
and_true true = refl
and_true false = refl

and_false : (b : Bool) → (b && false) ≡ false
and_false true = refl
and_false false = refl

absorbed : (a b : Bool) → ((a || b) && a) ≡ a
absorbed true b = refl
absorbed false true = refl
absorbed false false = refl

same_numbers : (m n : ℕ) → nat_eq m n ≡ true → m ≡ n
same_numbers m n e = grind (arith, nat_tests)

module _ {X : Type 0} (links : List QLink) (count : ℕ) (base : ℕ → ℕ) (spot : ℕ → ℕ × (ℕ × QLink) → Place X) (joins : Place X → Place X → Bool)
    (paired : ArePaired links spot joins) (between : AreBetween links count) where
  abbrev at_group : ℕ → List (ℕ × QLink)
  at_group g = filter (is_at g) (enumerate_from 0 links)

  abbrev pub spots_at : ℕ → List (Place X)
  spots_at g = map (spot g) (enumerate_from (base g) (at_group g))

  abbrev pub all_spots : List (Place X)
  all_spots = flat_map spots_at (range_with_len 0 count)

  -- the item of a link at a group
  abbrev pub item_of : ℕ → ℕ → ℕ
  item_of g t = base g + links_before links g t

  abbrev spot_of : ℕ → ℕ × QLink → Place X
  spot_of g p = spot g (item_of g p.0, p)

  abbrev pub link_of : ℕ × QLink → Link
  link_of p = link_between (spot_of p.1.low p) (spot_of p.1.high p)

  later_end : (g h t : ℕ) (l : QLink) → slice_get links t ≡ Some l → touches g l ≡ true → (nat_lt g h && touches h l) ≡ (nat_eq h l.high && nat_eq l.low g)
  later_end g h t l at touching = let less = between.low l (get_in_list links t l at) in ends g h l.low l.high less touching
    where
      ends : (g h low high : ℕ) → low < high → (nat_eq low g || nat_eq high g) ≡ true →
          (nat_lt g h && (nat_eq low h || nat_eq high h)) ≡ (nat_eq h high && nat_eq low g)
      ends g h low high less touching = grind (arith, nat_tests)

  spot_if : (h t : ℕ) (l : QLink) (b : Bool) → map (spot h) (found_if b (item_of h t) t l) ≡ cond b (spot_of h (t, l) ∷ []) []
  spot_if h t l true = refl
  spot_if h t l false = refl

  spots_numbered : (h t : ℕ) (l : QLink) → slice_get links t ≡ Some l → (b : Bool) →
      map (spot h) (filter (λ p. is_number t p && b) (enumerate_from (base h) (at_group h))) ≡ cond (b && touches h l) (spot_of h (t, l) ∷ []) []
  spots_numbered h t l at true =
      let rows = enumerate_from (base h) (at_group h) in
      let P : ℕ → Type 0 = λ u. filter (is_number u) rows ≡ found_if (touches h l) (item_of h t) u l in
      let none : 0 + t ≡ t = omega arith in
      ap (map (spot h)) (filter_same (λ p. is_number t p && true) (is_number t) rows (λ p in_rows. and_true (is_number t p))
      ∙ subst P none (found_numbered h (base h) 0 t links l at))
      ∙ spot_if h t l (touches h l)
  spots_numbered h t l at false = ap (map (spot h))
      (none_pass (λ p. is_number t p && false) (enumerate_from (base h) (at_group h)) (λ p. and_false (is_number t p)))

  agree : (g i t h : ℕ) (l : QLink) → slice_get links t ≡ Some l → touches g l ≡ true → (p : ℕ × (ℕ × QLink)) → In (enumerate_from (base h) (at_group h)) p
      → joins (spot g (i, (t, l))) (spot h p) ≡ (is_number t p && nat_lt g h)
  unfolding is_number
  agree g i t h l at touching p in_rows =
      let is = numbered_in links h (base h) 0 p.0 p.1.0 p.1.1 in_rows in
      let place : is.place ≡ p.1.0 = (let n = is.number in omega arith) in
      paired.same g h i p.0 t p.1.0 l p.1.1 at (ap (slice_get links) (sym place) ∙ is.at) touching is.touching

  -- the later spots of the link at one group
  later_at : (g i t h : ℕ) (l : QLink) → slice_get links t ≡ Some l → touches g l ≡ true
      → filter (joins (spot g (i, (t, l)))) (spots_at h) ≡ cond (nat_eq h l.high && nat_eq l.low g) (spot_of h (t, l) ∷ []) []
  later_at g i t h l at touching =
      let here = spot g (i, (t, l)) in
      let rows = enumerate_from (base h) (at_group h) in
      filter_mapped (joins here) (spot h) rows
      ∙ ap (map (spot h)) (filter_same (λ p. joins here (spot h p)) (λ p. is_number t p && nat_lt g h) rows (agree g i t h l at touching))
      ∙ spots_numbered h t l at (nat_lt g h)
      ∙ ap (λ (b : Bool). cond b (spot_of h (t, l) ∷ []) []) (later_end g h t l at touching)

  abbrev links_in : Place X → List Link
  links_in s = links_from joins all_spots s

  row : (g i t : ℕ) (l : QLink) → slice_get links t ≡ Some l → touches g l ≡ true →
      filter (joins (spot g (i, (t, l)))) all_spots ≡ cond (nat_eq l.low g) (spot_of l.high (t, l) ∷ []) []
  row g i t l at touching =
      let here = spot g (i, (t, l)) in
      let inside = between.high l (get_in_list links t l at) in
      filter_flat (joins here) spots_at (range_with_len 0 count)
      ∙ flat_map_same (λ h. filter (joins here) (spots_at h)) (λ h. cond (nat_eq h l.high && nat_eq l.low g) (spot_of h (t, l) ∷ []) [])
      (range_with_len 0 count) (λ h in_range. later_at g i t h l at touching)
      ∙ one_in_range (λ h. spot_of h (t, l)) (nat_eq l.low g) l.high 0 count (omega arith) (omega arith)

  link_if : (g t : ℕ) (l : QLink) (s : Place X) (b : Bool) → (b ≡ true → s ≡ spot_of l.low (t, l)) →
      map (link_between s) (cond b (spot_of l.high (t, l) ∷ []) []) ≡ cond b (link_of (t, l) ∷ []) []
  link_if g t l s true same = ap (λ (x : Place X). link_between x (spot_of l.high (t, l)) ∷ []) (same refl)
  link_if g t l s false same = refl

  one_row : (g : ℕ) (p : ℕ × (ℕ × QLink)) → In (enumerate_from (base g) (at_group g)) p → links_in (spot g p) ≡ cond (nat_eq p.1.1.low g) (link_of p.1 ∷ []) []
  one_row g p in_rows =
      let is = numbered_in links g (base g) 0 p.0 p.1.0 p.1.1 in_rows in
      let place : is.place ≡ p.1.0 = (let n = is.number in omega arith) in
      let at : slice_get links p.1.0 ≡ Some p.1.1 = ap (slice_get links) (sym place) ∙ is.at in
      let item : p.0 ≡ item_of g p.1.0 = is.item ∙ ap (λ k. base g + links_before links g k) place in
      ap (map (link_between (spot g p))) (row g p.0 p.1.0 p.1.1 at is.touching)
      ∙ link_if g p.1.0 p.1.1 (spot g p) (nat_eq p.1.1.low g)
      (λ low. ap (λ i. spot g (i, p.1)) item ∙ ap (λ k. spot k (item_of k p.1.0, p.1)) (let e : g ≡ p.1.1.low = sym (same_numbers p.1.1.low g low) in e))

  at_one : (g : ℕ) → flat_map links_in (spots_at g) ≡ map link_of (with_key low_of (enumerate_from 0 links) g)
  unfolding low_of
  at_one g =
      flat_of_map links_in (spot g) (enumerate_from (base g) (at_group g))
      ∙ flat_map_same (λ p. links_in (spot g p)) (λ p. cond (nat_eq p.1.1.low g) (link_of p.1 ∷ []) []) (enumerate_from (base g) (at_group g)) (one_row g)
      ∙ without_places (λ (q : ℕ × QLink). cond (nat_eq q.1.low g) (link_of q ∷ []) []) (base g) (at_group g)
      ∙ listed_if (λ (q : ℕ × QLink). nat_eq q.1.low g) link_of (at_group g)
      ∙ ap (map link_of) (filter_twice (λ (q : ℕ × QLink). nat_eq q.1.low g) (is_at g) (enumerate_from 0 links)
      ∙ filter_same (λ (q : ℕ × QLink). is_at g q && nat_eq q.1.low g) (λ (q : ℕ × QLink). nat_eq q.1.low g) (enumerate_from 0 links)
      (λ q in_all. absorbed (nat_eq q.1.low g) (nat_eq q.1.high g)))

  -- joined places give the links in their order
  pub links_by_spots : links_joining joins all_spots ≡ map link_of (enumerate_from 0 links)
  unfolding low_of
  links_by_spots =
      flat_flat links_in spots_at (range_with_len 0 count)
      ∙ flat_map_same (λ g. flat_map links_in (spots_at g)) (λ g. map link_of (with_key low_of (enumerate_from 0 links) g)) (range_with_len 0 count)
      (λ g in_range. at_one g)
      ∙ sym (map_of_flat link_of (with_key low_of (enumerate_from 0 links)) (range_with_len 0 count))
      ∙ ap (map link_of) (grouped low_of (enumerate_from 0 links) count (rises_numbered links 0 between.rises) (λ p at. let inside = numbered_of links 0 p at in
      let less = between.low p.1 inside in let few = between.high p.1 inside in omega arith))
