-- The acts of imports, one import after another.
use Rattle.std.proofs.Common.{◌≡◌, ◌+◌, ◌≤◌, ℕ, List, [], ◌∷◌, ◌++◌, inl, inr, length, slice_get, Option, Some, None, refl, sym, ◌∙◌, ap, subst, arith}
use Rattle.std.specs.Prelude.{Contains}
use Rattle.std.proofs.lemmas.Option.{slice_get_read}
use Rattle.dd_core.specs.Sets.{Shown, Grows}
use Rattle.policy_dd.specs.declared.edge.EdgeFn.{EdgeFn}
use Rattle.policy_dd.specs.Edge.{IsEdgeFn}
use Rattle.policy_dd.specs.Imports.{AreOneImport, AcceptsSome, EdgeKept}
use Rattle.route_maps.specs.declared.plain.Imported.{Imported}
use Rattle.route_maps.specs.declared.plain.Plain.{Plain}
use Rattle.srp_build.specs.declared.acts.Acts.{Acts}
use Rattle.srp_build.specs.declared.acts.BgpAct.{BgpAct}
use Rattle.srp_build.specs.declared.hops.Hop.{Hop}
use Rattle.srp_build.specs.declared.imports.ImportByMaps.{ImportByMaps}
use Rattle.srp_build.specs.declared.met_imports.Met.{Met}
use Rattle.srp_build.specs.declared.met_imports.MetImports.{MetImports}
use Rattle.srp_build.specs.BgpActs.{AreFoundByFunction, IsLike, IsNewLike, AcceptsAny, DeniesAll, IsActOfFunction}
use Rattle.srp_build.specs.Plains.{import_over}
use Rattle.srp_build.specs.MetImports.{AreActs, IsActOfImport, AreMet, AreRight, IsMaybeNew}
use Rattle.srp_build.proofs.ActTables.{none_listed}
use Rattle.srp_build.proofs.FirstUse.{get_front, get_last, front_or_last, length_last}

one_sym : (f g : List ℕ → Option Imported) → AreOneImport f g → AreOneImport g f
one_sym f g one = record { same = λ set ascending. sym (one.same set ascending) }

pub acts_kept : EdgeKept → (old new : Shown) (maps : List Plain) (acts : List BgpAct) → Grows old new → AreActs old maps acts → AreActs new maps acts
acts_kept kept old new maps acts grows are = record {
  functions = λ number act at. kept old new act.function (import_over maps act.import) grows (are.functions number act at);
  accept = are.accept;
  differ = are.differ;
}

-- while the store grows, what holds of acts and imports stays
pub right_kept : EdgeKept → (old new : Shown) (maps : List Plain) (table : Acts) (imports : MetImports) → Grows old new → AreRight old maps table imports →
    AreRight new maps table imports
right_kept kept old new maps table imports grows right =
    record { acts = acts_kept kept old new maps table.acts.items grows right.acts; listed = right.listed; met = right.met }

for_kept : (maps : List Plain) (old new : List BgpAct) (import : ImportByMaps) (act : Option ℕ) →
    ((k : ℕ) (a : BgpAct) → slice_get old k ≡ Some a → slice_get new k ≡ Some a) → IsActOfImport maps old import act → IsActOfImport maps new import act
for_kept maps old new import None kept is = is
for_kept maps old new import (Some number) kept is = record { act = is.act; at = kept number is.act is.at; one = is.one }

module _ (shown : Shown) (maps : List Plain) (old : List BgpAct) (are : AreActs shown maps old) (hop : Hop) (import : ImportByMaps) (function : EdgeFn)
    (of_function : IsEdgeFn shown function (import_over maps import)) where
  abbrev Imports : BgpAct → List ℕ → Option Imported
  Imports act = import_over maps act.import

  -- what one more act brings
  pub record Steps (new : List BgpAct) (act : Option ℕ) : Type 0 where
    pub acts : AreActs shown maps new
    pub is : IsActOfImport maps new import act
    pub came : IsMaybeNew old new hop import act
    pub kept : (k : ℕ) (a : BgpAct) → slice_get old k ≡ Some a → slice_get new k ≡ Some a

  denied : DeniesAll shown function → Steps old None
  denied denies = record { acts = are; is = denies.none (import_over maps import) of_function; came = refl; kept = λ k a at. at }

  found : (number : ℕ) → IsLike shown old function number → Steps old (Some number)
  found number like = record {
    acts = are;
    is = record {
      act = like.act;
      at = like.at;
      one =
          like.alike.one (import_over maps import) (Imports like.act) of_function (are.functions number like.act like.at);
    };
    came = inl refl;
    kept = λ k a at. at;
  }

  module _ (number : ℕ) (some : AcceptsAny shown function) (act : BgpAct) (first : act.first ≡ hop) (over : act.import ≡ import)
      (function_is : act.function ≡ function) (apart : (other : ℕ) (a : BgpAct) → slice_get old other ≡ Some a → (F G : List ℕ → Option Imported) →
      IsEdgeFn shown function F → IsEdgeFn shown a.function G → AreOneImport F G → ⊥) where
    abbrev new : List BgpAct
    new = old ++ act ∷ []

    own_function : IsEdgeFn shown act.function (Imports act)
    own_function = subst (λ (f : EdgeFn). IsEdgeFn shown f (Imports act)) (sym function_is)
        (subst (λ (s : ImportByMaps). IsEdgeFn shown function (import_over maps s)) (sym over) of_function)

    own_import : Imports act ≡ import_over maps import
    own_import = ap (import_over maps) over

    -- the new act imports as no old one
    never : (other : ℕ) (a : BgpAct) → slice_get old other ≡ Some a → AreOneImport (Imports act) (Imports a) → ⊥
    never other a at one = apart other a at (import_over maps import) (Imports a) of_function (are.functions other a at)
        (subst (λ (f : List ℕ → Option Imported). AreOneImport f (Imports a)) own_import one)

    of_new : (P : ℕ → BgpAct → Type 0) → ((k : ℕ) (a : BgpAct) → slice_get old k ≡ Some a → P k a) → P (length old) act → (k : ℕ) (a : BgpAct) →
        slice_get new k ≡ Some a → P k a
    of_new P olds last k a at = elim (front_or_last old act k a at) [
      | inl before ↦ olds k a before
      | inr is_last ↦ subst (λ (m : ℕ). P m a) (sym is_last.0) (subst (P (length old)) is_last.1 last)
    ]

    differ : (i j : ℕ) (a b : BgpAct) → slice_get new i ≡ Some a → slice_get new j ≡ Some b → AreOneImport (Imports a) (Imports b) → i ≡ j
    differ i j a b at at' one = elim (front_or_last old act i a at) [
      | inl before ↦ elim (front_or_last old act j b at') [
        | inl before' ↦ are.differ i j a b before before' one
        | inr last' ↦ absurd (never i a before (one_sym (Imports a) (Imports act)
            (subst (λ (x : BgpAct). AreOneImport (Imports a) (Imports x)) (sym last'.1) one)))
      ]
      | inr last ↦ elim (front_or_last old act j b at') [
        | inl before' ↦ absurd (never j b before' (subst (λ (x : BgpAct). AreOneImport (Imports x) (Imports b)) (sym last.1) one))
        | inr last' ↦ last.0 ∙ sym last'.0
      ]
    ]

    pub came_new : number ≡ length old → Steps new (Some number)
    came_new next = record {
      acts = record {
        functions = of_new (λ k a. IsEdgeFn shown a.function (Imports a)) are.functions own_function;
        accept = of_new (λ k a. AcceptsSome (Imports a)) are.accept
            (subst (λ (s : ImportByMaps). AcceptsSome (import_over maps s)) (sym over) (some.some (import_over maps import) of_function));
        differ = differ;
      };
      is = record { act = act; at = ap (slice_get new) next ∙ get_last old act; one = record { same = λ set ascending. (λ j. sym own_import j set) } };
      came = inr (record { act = act; last = refl; first = first; over = over; next = next });
      kept = λ k a at. get_front old (act ∷ []) k a at;
    }

  new_step : (more : List BgpAct) (number : ℕ) → AcceptsAny shown function → IsNewLike shown old more hop import function number → Steps more (Some number)
  new_step more number some is =
      subst (λ (l : List BgpAct). Steps l (Some number)) (sym is.is.last)
      (came_new number some is.is.act is.is.first is.is.over is.function_is (λ other a at. (is.apart other a at).differ) is.is.next)

  pub step : (more : List BgpAct) (act : Option ℕ) → IsActOfFunction shown old more hop import function act → Steps more act
  step more None is = subst (λ (l : List BgpAct). Steps l None) (sym is.0) (denied is.1)
  step more (Some number) (some, inl there) = subst (λ (l : List BgpAct). Steps l (Some number)) (sym there.0) (found number there.1)
  step more (Some number) (some, inr is_new) = new_step more number some is_new

-- one more import that was met
pub right_next : (shown : Shown) (maps : List Plain) (old new : Acts) (imports more : MetImports) (met : Met) → AreRight shown maps old imports →
    AreFoundByFunction new.by_function new.acts.items → AreActs shown maps new.acts.items
    → ((k : ℕ) (a : BgpAct) → slice_get old.acts.items k ≡ Some a → slice_get new.acts.items k ≡ Some a)
    → IsActOfImport maps new.acts.items met.import met.act →
    more.met.items ≡ imports.met.items ++ met ∷ [] → AreRight shown maps new more
right_next shown maps old new imports more met right listed acts kept is last = record {
  acts = acts;
  listed = listed;
  met = λ place m at. elim (front_or_last imports.met.items met place m (ap (λ (l : List Met). slice_get l place) (sym last) ∙ at)) [
    | inl before ↦ for_kept maps old.acts.items new.acts.items m.import m.act kept (right.met place m before)
    | inr is_last ↦ subst (λ (x : Met). IsActOfImport maps new.acts.items x.import x.act) is_last.1 is
  ];
}

-- an import that was met
pub met_before : (maps : List Plain) (acts : List BgpAct) (met : List Met) (m : Met) (import : ImportByMaps) → AreMet maps acts met → Contains met m →
    m.import ≡ import → IsActOfImport maps acts import m.act
met_before maps acts met m import are has same =
    subst (λ (s : ImportByMaps). IsActOfImport maps acts s m.act) same (are has.0 m (slice_get_read met (length met) has.0 m refl has.1 (sym has.2)))

-- at most one act came
pub one_more : (old new : List BgpAct) (hop : Hop) (import : ImportByMaps) (act : Option ℕ) → IsMaybeNew old new hop import act →
    length new ≤ length old + 1
one_more old new hop import None same = (let a = ap (λ (l : List BgpAct). length l) same in omega arith)
one_more old new hop import (Some number) (inl same) = (let a = ap (λ (l : List BgpAct). length l) same in omega arith)
one_more old new hop import (Some number) (inr came) =
    (let a = ap (λ (l : List BgpAct). length l) came.last in let b = length_last old came.act in omega arith)

-- nothing came for an import that was met
pub none_came : (acts : List BgpAct) (hop : Hop) (import : ImportByMaps) (act : Option ℕ) → IsMaybeNew acts acts hop import act
none_came acts hop import None = refl
none_came acts hop import (Some number) = inl refl

pub right_at_first : (shown : Shown) (maps : List Plain) (table : Acts) (imports : MetImports) → table.acts.items ≡ [] → imports.met.items ≡ [] →
    AreRight shown maps table imports
right_at_first shown maps table imports no_acts no_imports = record {
  acts = record {
    functions = λ number act at. nothing number act at;
    accept = λ number act at. nothing number act at;
    differ = λ i j a b at at'. nothing i a at;
  };
  listed = subst (AreFoundByFunction table.by_function) (sym no_acts) (none_listed table.by_function);
  met = λ place m at. (let none = ap (λ (l : List Met). slice_get l place) no_imports in cc);
}
  where
    nothing : {Y : Type 0} (number : ℕ) (act : BgpAct) → slice_get table.acts.items number ≡ Some act → Y
    nothing number act at = (let none = ap (λ (l : List BgpAct). slice_get l number) no_acts in absurd cc)
