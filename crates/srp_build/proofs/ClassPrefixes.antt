-- A class has a prefix, that of which it is the class.
use Rattle.std.proofs.Common.{◌<◌, List, [], ◌∷◌, filter, length, inl, refl, subst, arith}
use Rattle.std.specs.Prelude.{Contains}
use Rattle.base_kit.specs.Prefixes.{Prefix}
use Rattle.base_kit.proofs.Elements.{In, contains_in, in_contains, in_filter, filter_in, map_in}
use Rattle.cfg_ast.specs.declared.classes.DestClass.{DestClass}
use Rattle.cfg_ast.specs.declared.network.Network.{Network}
use Rattle.cfg_ast.specs.meaning.Classes.{originated, is_same_class, is_least, class_of, classes_of}
use Rattle.cfg_ast.proofs.ClassFacts.{is_one_class}

some_in : {X : Type 0} (xs : List X) (x : X) → In xs x → 0 < length xs
some_in [] x h = absurd h
some_in (y ∷ xs) x h = omega arith

pub has_prefix : (network : Network) (class : DestClass) → Contains (classes_of network) class → 0 < length class.prefixes
unfolding classes_of
has_prefix network class has =
    let (p, least, is) = map_in (class_of network) (filter (is_least network) (originated network)) class (in_contains _ class has) in
    let among = (filter_in (is_least network) (originated network) p least).0 in
    let own = in_filter (is_same_class network p) (originated network) p among (is_one_class network p p (record { origins = refl; answers = refl })) in
    subst (λ (c : DestClass). 0 < length c.prefixes) is (some_in (class_of network p).prefixes p own)

first_in : {X : Type 0} (xs : List X) → 0 < length xs → (x : X) × Contains xs x
first_in [] some = absurd (omega arith)
first_in (x ∷ xs) some = (x, contains_in (x ∷ xs) x (inl refl))

pub some_prefix : (network : Network) (class : DestClass) → Contains (classes_of network) class → (p : Prefix) × Contains class.prefixes p
some_prefix network class has = first_in class.prefixes (has_prefix network class has)
