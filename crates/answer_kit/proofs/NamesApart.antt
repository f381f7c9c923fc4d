-- Public: the routers of a network without faults have names of their own.
use Rattle.std.proofs.Common.{◌≡◌, ℕ, Bool, true, false, List, [], ◌∷◌, map, refl, sym, ◌∙◌, subst}
use Rattle.std.specs.Prelude.{bytes_eq, if◌then◌else◌, Contains}
use Rattle.std.specs.List.{list_any}
use Rattle.cfg_ast.specs.declared.classes.DestClass.{DestClass}
use Rattle.cfg_ast.specs.declared.network.Network.{Network}
use Rattle.cfg_ast.specs.declared.network.Router.{Router}
use Rattle.cfg_ast.specs.meaning.Classes.{classes_of}
use Rattle.cfg_ast.specs.meaning.RouterFaults.{repeats_after, shared_name_lines}
use Rattle.cfg_check.specs.Items.{router_line, same_name}
use Rattle.cfg_check.specs.Faultless.{IsFaultless}
use Rattle.srp_core.specs.Problem.{Problem}
use Rattle.base_kit.specs.Names.{AreApart}
use Rattle.numbered_names.proofs.Positions.{bytes_eq-sym}
use Rattle.answer_kit.specs.Groups.{IsProblemOfClass}
use Rattle.answer_kit.proofs.OneClass.{some_prefix}

abbrev name_of : Router → List ℕ
name_of router = router.name

-- none of the later routers has the name of one of these
abbrev AreNew : List Router → List Router → Type 0
AreNew past [] = Unit {0}
AreNew past (r ∷ rs) = (list_any (same_name r) past ≡ false) × AreNew past rs

parted : (p : Router → Bool) (q : Router) (past : List Router) (b : Bool) → p q ≡ b → list_any p (q ∷ past) ≡ false → (p q ≡ false) × (list_any p past ≡ false)
parted p q past true e none = absurd_of (sym (rw e refl) ∙ none)
  where
    absurd_of : true ≡ false → (p q ≡ false) × (list_any p past ≡ false)
    absurd_of is = cc
parted p q past false e none = (e, sym (rw e refl) ∙ none)

weaker : (q : Router) (past rs : List Router) → AreNew (q ∷ past) rs → AreNew past rs
weaker q past [] new = tt
weaker q past (r ∷ rs) new = ((parted (same_name r) q past (same_name r q) refl new.0).1, weaker q past rs new.1)

joined : (name : List ℕ) (r : Router) (rs : List Router) → bytes_eq name r.name ≡ false → list_any (bytes_eq name) (map name_of rs) ≡ false
    → list_any (bytes_eq name) (map name_of (r ∷ rs)) ≡ false
joined name r rs other others = rw other others

others : (q : Router) (past rs : List Router) → AreNew (q ∷ past) rs → list_any (bytes_eq q.name) (map name_of rs) ≡ false
others q past [] new = refl
others q past (r ∷ rs) new =
    joined q.name r rs (bytes_eq-sym q.name r.name ∙ (parted (same_name r) q past (same_name r q) refl new.0).0) (others q past rs new.1)

abbrev Parted : List Router → List Router → Type 0
Parted past rs = AreNew past rs × AreApart (map name_of rs)

none_repeat : (past rs : List Router) → map router_line (repeats_after same_name past rs) ≡ [] → Parted past rs
none_repeat past [] none = (tt, tt)
none_repeat past (r ∷ rs) none = step (list_any (same_name r) past) refl (none_repeat (r ∷ past) rs) none
  where
    step : (b : Bool) → list_any (same_name r) past ≡ b → (map router_line (repeats_after same_name (r ∷ past) rs) ≡ [] → Parted (r ∷ past) rs)
        → map router_line (if b then r ∷ repeats_after same_name (r ∷ past) rs else repeats_after same_name (r ∷ past) rs) ≡ [] → Parted past (r ∷ rs)
    step true e more none = cc
    step false e more none = ((e, weaker r past rs (more none).0), (others r past rs (more none).0, (more none).1))

pub names_apart : (n : Network) → IsFaultless n → AreApart (map name_of n.routers)
unfolding shared_name_lines
names_apart n faultless = (none_repeat [] n.routers faultless.shared_name).1

-- the routers of a problem of a class have names of their own, too
pub problem_apart : (n : Network) → IsFaultless n → (class : DestClass) → Contains (classes_of n) class → (P : Problem) → IsProblemOfClass n class P
    → AreApart P.names
problem_apart n faultless class c P of_class =
    let p = some_prefix n class c in
    let one : P.names ≡ map name_of n.routers = (of_class p.0 p.1).names in
    subst AreApart (sym one) (names_apart n faultless)
