-- Routers of the names that are read one after the other.
use Rattle.std.proofs.Common.{◌≡◌, ℕ, List, [], ◌∷◌, ◌++◌, refl, sym, ap, Option, Some, None, append_assoc, append-nil}
use Rattle.std.specs.Prelude.{option_map}
use Rattle.cut_certificate.specs.Texts.{routers_named}

-- what comes behind the routers so far
abbrev pub behind : List ℕ → Option (List ℕ) → Option (List ℕ)
behind first rest = option_map (λ more. first ++ more) rest

pub behind_none : (rest : Option (List ℕ)) → behind [] rest ≡ rest
behind_none None = refl
behind_none (Some more) = refl

behind_first : (first : List ℕ) (u : ℕ) (rest : Option (List ℕ)) → behind first (option_map (λ more. u ∷ more) rest) ≡ behind (first ++ u ∷ []) rest
behind_first first u None = refl
behind_first first u (Some more) = ap (λ (xs : List ℕ). Some xs) (sym (append_assoc first (u ∷ []) more))

pub one_named : (routers : List ℕ → Option ℕ) (first : List ℕ) (u : ℕ) (name : List ℕ) (words : List (List ℕ)) → routers name ≡ Some u
    → behind first (routers_named routers (name ∷ words)) ≡ behind (first ++ u ∷ []) (routers_named routers words)
one_named routers first u name words is = rw is (behind_first first u (routers_named routers words))

pub none_named : (routers : List ℕ → Option ℕ) (first : List ℕ) (name : List ℕ) (words : List (List ℕ)) → routers name ≡ None
    → behind first (routers_named routers (name ∷ words)) ≡ None
none_named routers first name words is = rw is refl

pub all_named : (routers : List ℕ → Option ℕ) (first : List ℕ) (words : List (List ℕ)) → words ≡ [] → behind first (routers_named routers words) ≡ Some first
all_named routers first words is = rw is (ap (λ (xs : List ℕ). Some xs) (append-nil first))
