-- Some router originates a prefix of a class.
use Rattle.std.proofs.Common.{◌≡◌, Bool, true, false, ◌||◌, List, [], ◌∷◌, inl, inr, refl, sym, ◌∙◌, subst, is_some}
use Rattle.std.specs.Prelude.{Contains, filter_map, flat_map}
use Rattle.base_kit.specs.Prefixes.{Prefix, same_prefix}
use Rattle.base_kit.proofs.Elements.{In, contains_in, flat_map_in, filter_in, in_filter}
use Rattle.cfg_ast.specs.declared.classes.DestClass.{DestClass}
use Rattle.cfg_ast.specs.declared.network.Network.{Network}
use Rattle.cfg_ast.specs.declared.network.Router.{Router}
use Rattle.cfg_ast.specs.meaning.Classes.{has_prefix, with_prefixes, up_subnet, initial_route, originated_by, originated, is_same_class, class_of, classes_of}
use Rattle.cfg_ast.proofs.ClassFacts.{is_one_class}
use Rattle.cfg_ast.proofs.PrefixSets.{one_prefix, same_prefix-self, has-with_prefixes}
use Rattle.emit_form_laws.proofs.Origins.{IsClassOf, class_is}
use Rattle.emit_form_laws.proofs.Groups.{any_in}

has_in : (ps : List Prefix) (p : Prefix) → has_prefix ps p ≡ true → In ps p
has_in [] p has = absurd cc
has_in (q ∷ ps) p has = by (same_prefix p q) refl has (has_in ps p)
  where
    by : (b : Bool) → same_prefix p q ≡ b → (b || has_prefix ps p) ≡ true → (has_prefix ps p ≡ true → In ps p) → In (q ∷ ps) p
    by true same e more = inl (sym (one_prefix p q same))
    by false same e more = inr (more e)

or_none : (b : Bool) → (b || false) ≡ b
or_none true = refl
or_none false = refl

among : (ps : List Prefix) (p : Prefix) → In (with_prefixes ps []) p → In ps p
among ps p at = has_in ps p (sym (or_none (has_prefix ps p)) ∙ sym (has-with_prefixes ps [] p)
    ∙ any_in (same_prefix p) (with_prefixes ps []) p at (same_prefix-self p))

pub record HasOrigin (n : Network) (class : DestClass) : Type 0 where
  pub prefix : Prefix
  pub has : Contains class.prefixes prefix
  pub router : Router
  pub router_in : In n.routers router
  pub originates : is_some (initial_route router prefix) ≡ true

of_class : (n : Network) (class : DestClass) → IsClassOf n class → HasOrigin n class
unfolding originated
of_class n class of =
    let p = of.least in
    let from = flat_map_in originated_by n.routers p (among (flat_map originated_by n.routers) p of.originates) in
    let kept = filter_in (λ (q : Prefix). is_some (initial_route from.0 q)) (filter_map up_subnet from.0.interfaces) p from.2 in
    let same = is_one_class n p p (record { origins = refl; answers = refl }) in
    record {
      prefix = p;
      has = subst (λ (c : DestClass). Contains c.prefixes p) of.is
          (contains_in (class_of n p).prefixes p (in_filter (is_same_class n p) (originated n) p of.originates same));
      router = from.0;
      router_in = from.1;
      originates = kept.1;
    }

pub origin_of : (n : Network) (class : DestClass) → Contains (classes_of n) class → HasOrigin n class
origin_of n class has = of_class n class (class_is n class has)
