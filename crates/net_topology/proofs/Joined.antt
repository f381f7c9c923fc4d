-- Links that an index finds are the links by all pairs.
use Rattle.std.proofs.Common.{◌≡◌, Bool, true, false, cond, ◌&&◌, List, [], ◌∷◌, ◌++◌, map, filter, filter_map, flat_map, Option, Some, None, length, nat_eq, refl, sym, ◌∙◌, ap, arith}
use Rattle.std.specs.List.{cons_option}
use Rattle.std.proofs.lemmas.Bool.Decides.{nat_tests}
use Rattle.cfg_ast.specs.declared.topology.Link.{Link}
use Rattle.cfg_ast.specs.meaning.Topology.{Place, link_between, links_from, links_joining}

-- what an index over spots needs to know of the pairs that it is to find
pub record IsIndexed {X S : Type 0} (Good : Place X → Type 0) (spot : Place X → Option S) (joins : Place X → Place X → Bool) (near later : S → S → Bool)
    (link : S → S → Link) : Type 0 where
  pub left : (p q : Place X) → spot p ≡ None → joins p q ≡ false
  pub right : (p q : Place X) → spot q ≡ None → joins p q ≡ false
  pub both : (p q : Place X) (s t : S) → Good p → Good q → spot p ≡ Some s → spot q ≡ Some t → joins p q ≡ (near s t && later s t)
  pub same : (p q : Place X) (s t : S) → spot p ≡ Some s → spot q ≡ Some t → link_between p q ≡ link s t

-- all places of a list are good
abbrev pub AreGood : {X : Type 0} → (Place X → Type 0) → List (Place X) → Type 0
AreGood Good [] = Unit {0}
AreGood Good (p ∷ ps) = Good p × AreGood Good ps

-- the links of a spot by the index
abbrev pub near_links : {S : Type 0} → (near later : S → S → Bool) (link : S → S → Link) → List S → S → List Link
near_links near later link ss s = map (link s) (filter (later s) (filter (near s) ss))

kept_step : {X S : Type 0} (p q : Place X) (s t : S) (later : S → S → Bool) (link : S → S → Link) (a b c : Bool) (qs : List (Place X)) (keyed : List S)
    → a ≡ (b && c) → later s t ≡ c → link_between p q ≡ link s t → map (link_between p) qs ≡ map (link s) (filter (later s) keyed)
    → map (link_between p) (cond a (q ∷ qs) qs) ≡ map (link s) (filter (later s) (cond b (t ∷ keyed) keyed))
kept_step p q s t later link true true true qs keyed e i l ih = ap (λ (z : Link). z ∷ map (link_between p) qs) l ∙ ap (λ zs. link s t ∷ zs) ih
    ∙ ap (λ (z : Bool). map (link s) (cond z (t ∷ filter (later s) keyed) (filter (later s) keyed))) (sym i)
kept_step p q s t later link false true false qs keyed e i l ih =
    ih ∙ ap (λ (z : Bool). map (link s) (cond z (t ∷ filter (later s) keyed) (filter (later s) keyed))) (sym i)
kept_step p q s t later link false false c qs keyed e i l ih = ih
kept_step p q s t later link true false c qs keyed e i l ih = cc
kept_step p q s t later link true true false qs keyed e i l ih = cc
kept_step p q s t later link false true true qs keyed e i l ih = cc

inner_step : {X S : Type 0} (Good : Place X → Type 0) (spot : Place X → Option S) (joins : Place X → Place X → Bool) (near later : S → S → Bool)
    (link : S → S → Link) → IsIndexed Good spot joins near later link
    → (p q : Place X) (s : S) (o : Option S) (qs : List (Place X)) (ss : List S) → Good p → Good q → spot p ≡ Some s → spot q ≡ o →
    map (link_between p) (filter (joins p) qs) ≡ near_links near later link ss s
    → map (link_between p) (filter (joins p) (q ∷ qs)) ≡ near_links near later link (cons_option o ss) s
inner_step Good spot joins near later link is p q s None qs ss g h e f ih =
    ap (λ (z : Bool). map (link_between p) (cond z (q ∷ filter (joins p) qs) (filter (joins p) qs))) (is.right p q f) ∙ ih
inner_step Good spot joins near later link is p q s (Some t) qs ss g h e f ih =
    kept_step p q s t later link (joins p q) (near s t) (later s t) (filter (joins p) qs) (filter (near s) ss) (is.both p q s t g h e f) refl
    (is.same p q s t e f) ih

inner : {X S : Type 0} (Good : Place X → Type 0) (spot : Place X → Option S) (joins : Place X → Place X → Bool) (near later : S → S → Bool)
    (link : S → S → Link) → IsIndexed Good spot joins near later link
    → (p : Place X) (s : S) (qs : List (Place X)) → Good p → AreGood Good qs → spot p ≡ Some s →
    map (link_between p) (filter (joins p) qs) ≡ near_links near later link (filter_map spot qs) s
inner Good spot joins near later link is p s [] g all e = refl
inner Good spot joins near later link is p s (q ∷ qs) g all e =
    inner_step Good spot joins near later link is p q s (spot q) qs (filter_map spot qs) g all.0 e refl
    (inner Good spot joins near later link is p s qs g all.1 e)

none_joined : {X : Type 0} (joins : Place X → Place X → Bool) (p : Place X) (qs : List (Place X)) → ((q : Place X) → joins p q ≡ false) →
    filter (joins p) qs ≡ []
none_joined joins p [] h = refl
none_joined joins p (q ∷ qs) h = ap (λ (z : Bool). cond z (q ∷ filter (joins p) qs) (filter (joins p) qs)) (h q) ∙ none_joined joins p qs h

outer_step : {X S : Type 0} (Good : Place X → Type 0) (spot : Place X → Option S) (joins : Place X → Place X → Bool) (near later : S → S → Bool)
    (link : S → S → Link) → IsIndexed Good spot joins near later link
    → (p : Place X) (o : Option S) (qs ps : List (Place X)) (ss : List S) → Good p → AreGood Good qs → spot p ≡ o →
    flat_map (links_from joins qs) ps ≡ flat_map (near_links near later link (filter_map spot qs)) ss
    → flat_map (links_from joins qs) (p ∷ ps) ≡ flat_map (near_links near later link (filter_map spot qs)) (cons_option o ss)
outer_step {X} {S} Good spot joins near later link is p None qs ps ss g all e ih =
    ap (λ (zs : List (Place X)). map (link_between p) zs ++ flat_map (links_from joins qs) ps) (none_joined joins p qs (λ q. is.left p q e)) ∙ ih
outer_step {X} {S} Good spot joins near later link is p (Some s) qs ps ss g all e ih =
    ap (λ (zs : List Link). zs ++ flat_map (links_from joins qs) ps) (inner Good spot joins near later link is p s qs g all e)
    ∙ ap (λ (zs : List Link). near_links near later link (filter_map spot qs) s ++ zs) ih

outer : {X S : Type 0} (Good : Place X → Type 0) (spot : Place X → Option S) (joins : Place X → Place X → Bool) (near later : S → S → Bool)
    (link : S → S → Link) → IsIndexed Good spot joins near later link
    → (qs ps : List (Place X)) → AreGood Good qs → AreGood Good ps →
    flat_map (links_from joins qs) ps ≡ flat_map (near_links near later link (filter_map spot qs)) (filter_map spot ps)
outer Good spot joins near later link is qs [] all these = refl
outer Good spot joins near later link is qs (p ∷ ps) all these =
    outer_step Good spot joins near later link is p (spot p) qs ps (filter_map spot ps) these.0 all refl
    (outer Good spot joins near later link is qs ps all these.1)

-- all pairs that are joined are found by the index, in order
pub joined_by_index : {X S : Type 0} (Good : Place X → Type 0) (spot : Place X → Option S) (joins : Place X → Place X → Bool) (near later : S → S → Bool)
    (link : S → S → Link) → IsIndexed Good spot joins near later link
    → (ps : List (Place X)) → AreGood Good ps → links_joining joins ps ≡ flat_map (near_links near later link (filter_map spot ps)) (filter_map spot ps)
joined_by_index Good spot joins near later link is ps all = outer Good spot joins near later link is ps ps all all

-- no links before some
pub none_before : (links more : List Link) → nat_eq (length links) 0 ≡ true → more ≡ links ++ more
none_before [] more none = refl
none_before (l ∷ ls) more none = absurd (grind (arith, nat_tests))
