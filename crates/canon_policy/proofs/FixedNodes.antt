-- Nodes of sets that are made to agree, one after the other.
use Rattle.std.proofs.Common.{◌≡◌, ℕ, zero, suc, ◌+◌, ◌<◌, List, [], ◌∷◌, ◌++◌, length, take, get_or, sym, ◌∙◌, ap, subst, arith}
use Rattle.std.specs.List.{AllByRecursion}
use Rattle.std.proofs.lemmas.List.{take_more}
use Rattle.dd_core.specs.Sets.{Shown, Grows, value_of}
use Rattle.dd_core.proofs.ShownLemmas.{means_kept, value_of_kept}
use Rattle.canon_policy.specs.declared.fixing.Fixing.{Fixing}
use Rattle.canon_policy.specs.declared.parts.PartNodes.{PartNodes}
use Rattle.canon_policy.specs.declared.parts.PartNodes.TheVariants.{Told, Carried}
use Rattle.canon_policy.specs.Fixings.{agreeing}
use Rattle.canon_policy.specs.Nodes.{AreInside, IsPartInside, IsFixed, AreFixed, IsPartFixed, ArePartsFixed}

pub later : (old mid new : Shown) (alone : Fixing) (n m : ℕ) → Grows mid new → IsFixed old mid alone n m → IsFixed old new alone n m
later old mid new alone n m grows is = means_kept mid new m (λ set. value_of old (agreeing alone set) n) grows is

all_later : (old mid new : Shown) (alone : Fixing) (ns ms : List ℕ) → Grows mid new → AreFixed old mid alone ns ms → AreFixed old new alone ns ms
all_later old mid new alone [] [] grows are = tt
all_later old mid new alone [] (m ∷ ms) grows are = absurd are
all_later old mid new alone (n ∷ ns) [] grows are = absurd are
all_later old mid new alone (n ∷ ns) (m ∷ ms) grows are = (later old mid new alone n m grows are.0, all_later old mid new alone ns ms grows are.1)

-- a node of a store that had grown before
pub of_grown : (old mid new : Shown) (alone : Fixing) (n m : ℕ) → Grows old mid → n < length old.nodes → IsFixed mid new alone n m → IsFixed old new alone n m
of_grown old mid new alone n m grows inside is = record {
  inside = is.inside;
  value = λ set. is.value set
      ∙ value_of_kept old mid (agreeing alone set) n grows inside;
}

all_of_grown : (old mid new : Shown) (alone : Fixing) (ns ms : List ℕ) → Grows old mid → AreInside old ns → AreFixed mid new alone ns ms
    → AreFixed old new alone ns ms
all_of_grown old mid new alone [] [] grows inside are = tt
all_of_grown old mid new alone [] (m ∷ ms) grows inside are = absurd are
all_of_grown old mid new alone (n ∷ ns) [] grows inside are = absurd are
all_of_grown old mid new alone (n ∷ ns) (m ∷ ms) grows inside are =
    (of_grown old mid new alone n m grows inside.0 are.0, all_of_grown old mid new alone ns ms grows inside.1 are.1)

push_fixed : (old new : Shown) (alone : Fixing) (ns ms : List ℕ) (n m : ℕ) → AreFixed old new alone ns ms → IsFixed old new alone n m
    → AreFixed old new alone (ns ++ n ∷ []) (ms ++ m ∷ [])
push_fixed old new alone [] [] n m are is = (is, tt)
push_fixed old new alone [] (y ∷ ys) n m are is = absurd are
push_fixed old new alone (x ∷ xs) [] n m are is = absurd are
push_fixed old new alone (x ∷ xs) (y ∷ ys) n m are is = (are.0, push_fixed old new alone xs ys n m are.1 is)

node_inside : (shown : Shown) (ns : List ℕ) (k : ℕ) → k < length ns → AreInside shown ns → get_or ns k 0 < length shown.nodes
node_inside shown [] k lt all = absurd (omega arith)
node_inside shown (n ∷ ns) zero lt all = all.0
node_inside shown (n ∷ ns) (suc k) lt all = node_inside shown ns k (omega arith) all.1

pub node_more : (old mid new : Shown) (alone : Fixing) (ns ms : List ℕ) (k n m : ℕ) → Grows old mid → Grows mid new → k < length ns → n ≡ get_or ns k 0
    → AreInside old ns → AreFixed old mid alone (take k ns) ms → IsFixed mid new alone n m → AreFixed old new alone (take (k + 1) ns) (ms ++ m ∷ [])
node_more old mid new alone ns ms k n m first grows lt at inside are is =
    let there : n < length old.nodes = subst (λ (x : ℕ). x < length old.nodes) (sym at) (node_inside old ns k lt inside) in
    let e : take k ns ++ n ∷ [] ≡ take (k + 1) ns = ap (λ (x : ℕ). take k ns ++ x ∷ []) at ∙ sym (take_more ns k 0 lt) in
    subst (λ (l : List ℕ). AreFixed old new alone l (ms ++ m ∷ [])) e
    (push_fixed old new alone (take k ns) ms n m (all_later old mid new alone (take k ns) ms grows are) (of_grown old mid new alone n m first there is))

-- parts
part_later : (old mid new : Shown) (alone : Fixing) (n m : PartNodes) → Grows mid new → IsPartFixed old mid alone n m → IsPartFixed old new alone n m
part_later old mid new alone (Told ns) (Told ms) grows is = all_later old mid new alone ns ms grows is
part_later old mid new alone (Told ns) (Carried d m) grows is = absurd is
part_later old mid new alone (Carried c n) (Told ms) grows is = absurd is
part_later old mid new alone (Carried c n) (Carried d m) grows is = (is.0, later old mid new alone n m grows is.1)

pub parts_later : (old mid new : Shown) (alone : Fixing) (ns ms : List PartNodes) → Grows mid new → ArePartsFixed old mid alone ns ms
    → ArePartsFixed old new alone ns ms
parts_later old mid new alone [] [] grows are = tt
parts_later old mid new alone [] (m ∷ ms) grows are = absurd are
parts_later old mid new alone (n ∷ ns) [] grows are = absurd are
parts_later old mid new alone (n ∷ ns) (m ∷ ms) grows are = (part_later old mid new alone n m grows are.0, parts_later old mid new alone ns ms grows are.1)

part_of_grown : (old mid new : Shown) (alone : Fixing) (n m : PartNodes) → Grows old mid → IsPartInside old n → IsPartFixed mid new alone n m
    → IsPartFixed old new alone n m
part_of_grown old mid new alone (Told ns) (Told ms) grows inside is = all_of_grown old mid new alone ns ms grows inside is
part_of_grown old mid new alone (Told ns) (Carried d m) grows inside is = absurd is
part_of_grown old mid new alone (Carried c n) (Told ms) grows inside is = absurd is
part_of_grown old mid new alone (Carried c n) (Carried d m) grows inside is = (is.0, of_grown old mid new alone n m grows inside.1 is.1)

pub parts_of_grown : (old mid new : Shown) (alone : Fixing) (ns ms : List PartNodes) → Grows old mid → AllByRecursion (IsPartInside old) ns
    → ArePartsFixed mid new alone ns ms → ArePartsFixed old new alone ns ms
parts_of_grown old mid new alone [] [] grows inside are = tt
parts_of_grown old mid new alone [] (m ∷ ms) grows inside are = absurd are
parts_of_grown old mid new alone (n ∷ ns) [] grows inside are = absurd are
parts_of_grown old mid new alone (n ∷ ns) (m ∷ ms) grows inside are =
    (part_of_grown old mid new alone n m grows inside.0 are.0, parts_of_grown old mid new alone ns ms grows inside.1 are.1)

push_part : (old new : Shown) (alone : Fixing) (ns ms : List PartNodes) (n m : PartNodes) → ArePartsFixed old new alone ns ms → IsPartFixed old new alone n m
    → ArePartsFixed old new alone (ns ++ n ∷ []) (ms ++ m ∷ [])
push_part old new alone [] [] n m are is = (is, tt)
push_part old new alone [] (y ∷ ys) n m are is = absurd are
push_part old new alone (x ∷ xs) [] n m are is = absurd are
push_part old new alone (x ∷ xs) (y ∷ ys) n m are is = (are.0, push_part old new alone xs ys n m are.1 is)

take_item : (ns : List PartNodes) (k : ℕ) (n : PartNodes) → k < length ns → n ≡ get_or ns k n → take k ns ++ n ∷ [] ≡ take (k + 1) ns
take_item ns k n lt at = ap (λ (x : PartNodes). take k ns ++ x ∷ []) at ∙ sym (take_more ns k n lt)

part_inside : (shown : Shown) (ns : List PartNodes) (k : ℕ) (n : PartNodes) → k < length ns → n ≡ get_or ns k n → AllByRecursion (IsPartInside shown) ns
    → IsPartInside shown n
part_inside shown [] k n lt at all = absurd (omega arith)
part_inside shown (x ∷ xs) zero n lt at all = subst (IsPartInside shown) (sym at) all.0
part_inside shown (x ∷ xs) (suc k) n lt at all = part_inside shown xs k n (omega arith) at all.1

pub part_more : (old mid new : Shown) (alone : Fixing) (ns ms : List PartNodes) (k : ℕ) (n m : PartNodes) → Grows old mid → Grows mid new → k < length ns
    → n ≡ get_or ns k n → AllByRecursion (IsPartInside old) ns → ArePartsFixed old mid alone (take k ns) ms → IsPartFixed mid new alone n m
    → ArePartsFixed old new alone (take (k + 1) ns) (ms ++ m ∷ [])
part_more old mid new alone ns ms k n m first grows lt at inside are is =
    subst (λ (l : List PartNodes). ArePartsFixed old new alone l (ms ++ m ∷ [])) (take_item ns k n lt at)
    (push_part old new alone (take k ns) ms n m (parts_later old mid new alone (take k ns) ms grows are)
    (part_of_grown old mid new alone n m first (part_inside old ns k n lt at inside) is))
