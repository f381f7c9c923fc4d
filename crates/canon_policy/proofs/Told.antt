-- Nodes that tell parts: while the store grows, and part by part.
use Rattle.std.proofs.Common.{◌≡◌, ℕ, zero, suc, ◌+◌, ◌<◌, Bool, true, false, List, [], ◌∷◌, length, drop, get_or, Option, Some, None, refl, sym, ◌∙◌, ap, subst, arith}
use Rattle.std.specs.Prelude.{if◌then◌else◌}
use Rattle.std.specs.List.{AllByRecursion}
use Rattle.std.specs.Option.{option_map, option_or, is_some}
use Rattle.base_kit.specs.declared.ids.Community.{Community}
use Rattle.base_kit.specs.Sets.{has}
use Rattle.dd_core.specs.Sets.{Shown, Grows, Means}
use Rattle.dd_core.proofs.ShownLemmas.{means_kept, grows_inside, value_of_kept}
use Rattle.canon_policy.specs.declared.fixing.Fixing.{Fixing}
use Rattle.canon_policy.specs.declared.parts.PartNodes.{PartNodes}
use Rattle.canon_policy.specs.declared.parts.PartNodes.TheVariants.{Told, Carried}
use Rattle.canon_policy.specs.declared.parts.Nodes.{Nodes}
use Rattle.canon_policy.specs.Fixings.{Part, Asked, agreeing, least, yes, unsettled, first_unsettled, split}
use Rattle.canon_policy.specs.Fixings.Part.{number, community}
use Rattle.canon_policy.specs.Hanging.{TestHangsOn, NumberHangsOn, PartHangsOn, PartsHangOn}
use Rattle.canon_policy.specs.Nodes.{AreInside, IsPartInside, AreFunctionNodesInside, AgreeAt, NodesTellPart, IsTold, ArePartsTold, AreNodesOf, community_number}
use Rattle.canon_policy.proofs.Least.{under_hangs}

-- growth
pub inside_kept : (old new : Shown) → Grows old new → (nodes : List ℕ) → AreInside old nodes → AreInside new nodes
inside_kept old new grows [] all = tt
inside_kept old new grows (n ∷ ns) all = (grows_inside old new n grows all.0, inside_kept old new grows ns all.1)

pub part_inside_kept : (old new : Shown) → Grows old new → (part : PartNodes) → IsPartInside old part → IsPartInside new part
part_inside_kept old new grows (Told nodes) all = inside_kept old new grows nodes all
part_inside_kept old new grows (Carried c node) all = (ap (λ (u : List ℕ). has u c.0) grows.universe ∙ all.0, grows_inside old new node grows all.1)

pub parts_inside_kept : (old new : Shown) → Grows old new → (parts : List PartNodes) → AllByRecursion (IsPartInside old) parts
    → AllByRecursion (IsPartInside new) parts
parts_inside_kept old new grows [] all = tt
parts_inside_kept old new grows (p ∷ ps) all = (part_inside_kept old new grows p all.0, parts_inside_kept old new grows ps all.1)

pub nodes_inside_kept : (old new : Shown) → Grows old new → (nodes : Nodes) → AreFunctionNodesInside old nodes → AreFunctionNodesInside new nodes
nodes_inside_kept old new grows nodes all = record {
  permit = grows_inside old new nodes.permit grows all.permit;
  rest = grows_inside old new nodes.rest grows all.rest;
  parts = parts_inside_kept old new grows nodes.parts all.parts;
}

agree_kept : (old new : Shown) → Grows old new → (nodes a b : List ℕ) → AreInside old nodes → AgreeAt old nodes a b → AgreeAt new nodes a b
agree_kept old new grows [] a b all agree = tt
agree_kept old new grows (n ∷ ns) a b all agree = (
  value_of_kept old new a n grows all.0 ∙ agree.0 ∙ sym (value_of_kept old new b n grows all.0),
  agree_kept old new grows ns a b all.1 agree.1,
)

agree_before : (old new : Shown) → Grows old new → (nodes a b : List ℕ) → AreInside old nodes → AgreeAt new nodes a b → AgreeAt old nodes a b
agree_before old new grows [] a b all agree = tt
agree_before old new grows (n ∷ ns) a b all agree = (
  sym (value_of_kept old new a n grows all.0) ∙ agree.0 ∙ value_of_kept old new b n grows all.0,
  agree_before old new grows ns a b all.1 agree.1,
)

pub tells_kept : (old new : Shown) → Grows old new → (nodes : List ℕ) (part : List ℕ → ℕ) → AreInside old nodes → NodesTellPart old nodes part
    → NodesTellPart new nodes part
tells_kept old new grows nodes part all tells = record {
  same = λ a b agree. tells.same a b (agree_before old new grows nodes a b all agree);
  apart = λ a b e. agree_kept old new grows nodes a b all (tells.apart a b e);
}

pub told_kept : (old new : Shown) → Grows old new → (fixing : Fixing) (nodes : PartNodes) (part : Part) → IsPartInside old nodes → IsTold old fixing nodes part
    → IsTold new fixing nodes part
told_kept old new grows fixing (Told nodes) (number part) all told = tells_kept old new grows nodes (λ set. part (agreeing fixing set)) all told
told_kept old new grows fixing (Told nodes) (community d test) all told = absurd told
told_kept old new grows fixing (Carried c node) (number part) all told = absurd told
told_kept old new grows fixing (Carried c node) (community d test) all told = (told.0, means_kept old new node (λ set. test (agreeing fixing set)) grows told.1)

pub all_told_kept : (old new : Shown) → Grows old new → (fixing : Fixing) (nodes : List PartNodes) (parts : List Part) → AllByRecursion (IsPartInside old) nodes
    → ArePartsTold old fixing nodes parts → ArePartsTold new fixing nodes parts
all_told_kept old new grows fixing [] [] all told = tt
all_told_kept old new grows fixing [] (p ∷ ps) all told = absurd told
all_told_kept old new grows fixing (n ∷ ns) [] all told = absurd told
all_told_kept old new grows fixing (n ∷ ns) (p ∷ ps) all told =
    (told_kept old new grows fixing n p all.0 told.0, all_told_kept old new grows fixing ns ps all.1 told.1)

pub nodes_kept : (old new : Shown) → Grows old new → (fixing : Fixing) (nodes : Nodes) (asked : Asked) → AreFunctionNodesInside old nodes
    → AreNodesOf old fixing nodes asked → AreNodesOf new fixing nodes asked
nodes_kept old new grows fixing nodes asked all of = record {
  permit = means_kept old new nodes.permit (λ set. asked.accepted (agreeing fixing set)) grows of.permit;
  rest = means_kept old new nodes.rest (λ set. asked.kept (agreeing fixing set)) grows of.rest;
  parts = all_told_kept old new grows fixing nodes.parts asked.parts all.parts of.parts;
}

-- the part at a place
pub record ToldAt (shown : Shown) (fixing : Fixing) (universe : List ℕ) (item : PartNodes) (parts : List Part) (k : ℕ) : Type 0 where
  pub part : Part
  pub told : IsTold shown fixing item part
  pub hangs : PartHangsOn universe part
  pub rest : drop k parts ≡ part ∷ drop (k + 1) parts

later : (shown : Shown) (fixing : Fixing) (universe : List ℕ) (item : PartNodes) (p : Part) (ps : List Part) (k : ℕ) → ToldAt shown fixing universe item ps k
    → ToldAt shown fixing universe item (p ∷ ps) (suc k)
later shown fixing universe item p ps k at = record {
  part = at.part;
  told = at.told;
  hangs = at.hangs;
  rest = at.rest ∙ ap (λ (n : ℕ). at.part ∷ drop n (p ∷ ps)) (let e : suc (k + 1) ≡ suc k + 1 = omega arith in e);
}

pub told_at : (shown : Shown) (fixing : Fixing) (universe : List ℕ) (nodes : List PartNodes) (parts : List Part) (k : ℕ) (item : PartNodes)
    → item ≡ get_or nodes k item → k < length nodes → PartsHangOn universe parts → ArePartsTold shown fixing nodes parts
    → ToldAt shown fixing universe item parts k
told_at shown fixing universe [] parts k item e lt hang told = absurd (omega arith)
told_at shown fixing universe (n ∷ ns) [] k item e lt hang told = absurd told
told_at shown fixing universe (n ∷ ns) (p ∷ ps) zero item e lt hang told = record {
  part = p;
  told = subst (λ (x : PartNodes). IsTold shown fixing x p) (sym e) told.0;
  hangs = hang.0;
  rest = refl;
}
told_at shown fixing universe (n ∷ ns) (p ∷ ps) (suc k) item e lt hang told =
    later shown fixing universe item p ps k (told_at shown fixing universe ns ps k item e (omega arith) hang.1 told.1)

pub inside_at : (shown : Shown) (nodes : List PartNodes) (k : ℕ) (item : PartNodes) → item ≡ get_or nodes k item → k < length nodes
    → AllByRecursion (IsPartInside shown) nodes → IsPartInside shown item
inside_at shown [] k item e lt all = absurd (omega arith)
inside_at shown (n ∷ ns) zero item e lt all = subst (IsPartInside shown) (sym e) all.0
inside_at shown (n ∷ ns) (suc k) item e lt all = inside_at shown ns k item e (omega arith) all.1

pub none_left : (shown : Shown) (fixing : Fixing) (nodes : List PartNodes) (parts : List Part) (k : ℕ) → length nodes ≡ k
    → ArePartsTold shown fixing nodes parts → drop k parts ≡ []
none_left shown fixing [] [] k e told = rw (sym e) refl
none_left shown fixing [] (p ∷ ps) k e told = absurd told
none_left shown fixing (n ∷ ns) [] k e told = absurd told
none_left shown fixing (n ∷ ns) (p ∷ ps) zero e told = absurd (omega arith)
none_left shown fixing (n ∷ ns) (p ∷ ps) (suc k) e told = none_left shown fixing ns ps k (omega arith) told.1

-- one part
pub told_number : (shown : Shown) (fixing : Fixing) (universe : List ℕ) (nodes : List ℕ) (kept : List ℕ → Bool) (r : Option ℕ) (asked : Part)
    → shown.universe ≡ universe → PartHangsOn universe asked → IsTold shown fixing (Told nodes) asked
    → ((part : List ℕ → ℕ) → NumberHangsOn shown.universe part → NodesTellPart shown nodes part → r ≡ least shown.universe part)
    → r ≡ unsettled universe kept fixing asked
told_number shown fixing universe nodes kept r (number part) e hangs told found =
    found (λ set. part (agreeing fixing set)) (rw e (under_hangs universe part fixing hangs)) told
    ∙ ap (λ (u : List ℕ). least u (λ set. part (agreeing fixing set))) e
told_number shown fixing universe nodes kept r (community d test) e hangs told found = absurd told

pub told_community : (shown : Shown) (fixing : Fixing) (universe : List ℕ) (c : Community) (node : ℕ) (kept : List ℕ → Bool) (r : Option ℕ) (asked : Part)
    → PartHangsOn universe asked → IsTold shown fixing (Carried c node) asked
    → ((test : List ℕ → Bool) → TestHangsOn universe test → Means shown node (λ set. test (agreeing fixing set))
    → r ≡ unsettled universe kept fixing (community c.0 test)) → r ≡ unsettled universe kept fixing asked
told_community shown fixing universe c node kept r (number part) hangs told found = absurd told
told_community shown fixing universe c node kept r (community d test) hangs told found = found test hangs told.1
    ∙ ap (λ (n : ℕ). unsettled universe kept fixing (community n test)) told.0

-- a part that is not settled ends the search, and one that is settled does not
pub found_here : (ask : Part → Option ℕ) (part : Part) (rest : List Part) (r : Option Community) → option_map community_number r ≡ ask part → is_some r ≡ true
    → option_map community_number r ≡ first_unsettled ask (part ∷ rest)
found_here ask part rest None e some = absurd cc
found_here ask part rest (Some c) e some = by (ask part) e
  where
    by : (o : Option ℕ) → Some (community_number c) ≡ o → Some (community_number c) ≡ option_or o (first_unsettled ask rest)
    by None e = absurd cc
    by (Some x) e = e

pub found_later : (ask : Part → Option ℕ) (part : Part) (rest : List Part) (r : Option Community) → option_map community_number r ≡ ask part → is_some r ≡ false
    → first_unsettled ask (part ∷ rest) ≡ first_unsettled ask rest
found_later ask part rest None e none = rw (sym e) refl
found_later ask part rest (Some c) e none = absurd cc

-- a call over a store that has grown
pub part_found : (old mid : Shown) → Grows old mid → (rest : ℕ) (item : PartNodes) (r : Option Community)
    → ((kept : List ℕ → Bool) (fixing : Fixing) (asked : Part) → TestHangsOn mid.universe kept → PartHangsOn mid.universe asked
    → Means mid rest (λ set. kept (agreeing fixing set)) → IsTold mid fixing item asked
    → option_map community_number r ≡ unsettled mid.universe kept fixing asked)
    → (kept : List ℕ → Bool) (fixing : Fixing) (asked : Part) → TestHangsOn old.universe kept → PartHangsOn old.universe asked
    → Means old rest (λ set. kept (agreeing fixing set)) → IsPartInside old item → IsTold old fixing item asked
    → option_map community_number r ≡ unsettled old.universe kept fixing asked
part_found old mid grows rest item r call kept fixing asked kept_hangs hangs of_rest inside told =
    call kept fixing asked
    (subst (λ (u : List ℕ). TestHangsOn u kept) (sym grows.universe) kept_hangs)
    (subst (λ (u : List ℕ). PartHangsOn u asked) (sym grows.universe) hangs)
    (means_kept old mid rest (λ set. kept (agreeing fixing set)) grows of_rest)
    (told_kept old mid grows fixing item asked inside told)
    ∙ ap (λ (u : List ℕ). unsettled u kept fixing asked) grows.universe

-- what splits a fixing
first_some : (l rest : Option ℕ) (r : Option Community) → option_map community_number r ≡ l → is_some r ≡ true
    → option_map community_number r ≡ option_or l rest
first_some l rest None e some = absurd cc
first_some l rest (Some c) e some = rw (← e) refl

first_none : (l : Option ℕ) (r : Option Community) → option_map community_number r ≡ l → is_some r ≡ false → l ≡ None
first_none l None e none = sym e
first_none l (Some c) e none = absurd cc

pub split_some : (universe : List ℕ) (asked : Asked) (fixing : Fixing) (r : Option Community)
    → option_map community_number r ≡ least universe (λ set. yes (asked.accepted (agreeing fixing set))) → is_some r ≡ true
    → option_map community_number r ≡ split universe asked fixing
unfolding split
split_some universe asked fixing r e some = first_some (least universe (λ set. yes (asked.accepted (agreeing fixing set))))
    (if asked.accepted (agreeing fixing []) then first_unsettled (unsettled universe asked.kept fixing) asked.parts else None) r e some

pub split_denied : (universe : List ℕ) (asked : Asked) (fixing : Fixing) (r : Option Community)
    → option_map community_number r ≡ least universe (λ set. yes (asked.accepted (agreeing fixing set))) → is_some r ≡ false
    → asked.accepted (agreeing fixing []) ≡ false → None ≡ split universe asked fixing
unfolding split
split_denied universe asked fixing r e none denied = rw (first_none (least universe (λ set. yes (asked.accepted (agreeing fixing set)))) r e none, denied) refl

pub split_rest : (universe : List ℕ) (asked : Asked) (fixing : Fixing) (r : Option Community)
    → option_map community_number r ≡ least universe (λ set. yes (asked.accepted (agreeing fixing set))) → is_some r ≡ false
    → asked.accepted (agreeing fixing []) ≡ true → first_unsettled (unsettled universe asked.kept fixing) asked.parts ≡ split universe asked fixing
unfolding split
split_rest universe asked fixing r e none given = rw (first_none (least universe (λ set. yes (asked.accepted (agreeing fixing set)))) r e none, given) refl
