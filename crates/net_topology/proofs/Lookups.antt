-- Items put into a map by their keys, one after the other.
use Rattle.std.proofs.Common.{◌≡◌, ℕ, ◌+◌, ◌<◌, Bool, true, false, cond, ◌&&◌, nat_eq, List, [], ◌∷◌, ◌++◌, length, get_or, take, Option, Some, None, refl, sym, ◌∙◌, ap, arith}
use Rattle.std.specs.Option.{option_or}
use Rattle.std.specs.HashMap.{HashMap, get}
use Rattle.std.proofs.lemmas.Bool.Decides.{nat_tests}
use Rattle.std.proofs.lemmas.List.{take_more}
use Rattle.number_hashing.specs.declared.hashing.NumberHashing.{NumberHashing}
use Rattle.net_topology.specs.Ups.{last_where, same_attachment, IsLookup}
use Rattle.net_topology.specs.declared.ups.Attachment.{Attachment}
use Rattle.net_topology.specs.declared.ups.Up.{Up}

later_first : {X : Type 0} (b : Bool) (x : X) (o w : Option X) → option_or (cond b (Some x) o) w ≡ cond b (Some x) (option_or o w)
later_first true x o w = refl
later_first false x o w = refl

last_where-push : {X : Type 0} (test : X → Bool) (xs : List X) (x : X) → last_where test (xs ++ x ∷ []) ≡ cond (test x) (Some x) (last_where test xs)
last_where-push test [] x = refl
last_where-push {X} test (y ∷ ys) x = ap (λ (o : Option X). option_or o (cond (test y) (Some y) None)) (last_where-push test ys x)
    ∙ later_first (test x) x (last_where test ys) (cond (test y) (Some y) None)

-- one item more
pub lookup_turn : {K : Type 0} (same : K → K → Bool) (key_of : Up → K) (old new : HashMap K Up NumberHashing) (xs : List Up) (i : ℕ)
    (x : Up) → ((p q : K) → same p q ≡ same q p) → i < length xs → x ≡ get_or xs i x
    → ((q : K) → get same new q ≡ cond (same (key_of x) q) (Some x) (get same old q)) → IsLookup same key_of old (take i xs) →
    IsLookup same key_of new (take (i + 1) xs)
lookup_turn {K} same key_of old new xs i x turned below here put so_far = record {
  each = λ q.
      let test : Up → Bool = λ y. same q (key_of y) in
      put q
      ∙ ap (λ b. cond b (Some x) (get same old q)) (turned (key_of x) q)
      ∙ ap (λ (o : Option Up). cond (test x) (Some x) o) (so_far.each q)
      ∙ sym (ap (λ (l : List Up). last_where test l) (take_more xs i x below ∙ ap (λ (y : Up). take i xs ++ y ∷ []) (sym here))
      ∙ last_where-push test (take i xs) x);
}

pub numbers_turned : (m n : ℕ) → nat_eq m n ≡ nat_eq n m
numbers_turned m n = grind (arith, nat_tests)

pub attachments_turned : (a b : Attachment) → same_attachment a b ≡ same_attachment b a
attachments_turned a b =
    ap (λ t. t && (nat_eq a.len b.len && nat_eq a.first b.first)) (numbers_turned a.router b.router)
    ∙ ap (λ t. nat_eq b.router a.router && (t && nat_eq a.first b.first)) (numbers_turned a.len b.len)
    ∙ ap (λ t. nat_eq b.router a.router && (nat_eq b.len a.len && t)) (numbers_turned a.first b.first)
