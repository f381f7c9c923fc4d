-- The entry that a head of a route map opens has no line yet.
use Rattle.std.proofs.Common.{◌≡◌, ℕ, Bool, true, false, List, [], ◌∷◌, Option, Some, None, Result, Ok, Err, refl, subst, if◌then◌else◌}
use Rattle.std.specs.Option.{option_map}
use Rattle.cfg_ast.specs.declared.policy.MapEntry.{MapEntry}
use Rattle.cfg_ast.specs.declared.items.PolicyScope.{PolicyScope}
use Rattle.cfg_ast.specs.declared.items.PolicyItem.{PolicyItem}
use Rattle.cfg_ast.specs.declared.items.PolicyItem.TheVariants as item
use Rattle.cfg_ast.specs.declared.heads.HeadClass.{HeadClass}
use Rattle.cfg_ast.specs.declared.heads.HeadClass.TheVariants as class
use Rattle.cfg_ast.specs.declared.heads.PolicyForm.{PolicyForm}
use Rattle.cfg_ast.specs.declared.heads.PolicyForm.TheVariants as form
use Rattle.cfg_ast.specs.declared.refusal.FormFault.{FormFault}
use Rattle.cfg_ast.specs.text.FormSteps.{or_bad, bad_unless}
use Rattle.cfg_ast.specs.text.Steps.{◌>>=◌}
use Rattle.cfg_ast.specs.text.Words.{number_word}
use Rattle.cfg_ast.specs.text.Heads.{class_in, policy_heads_of}
use Rattle.cfg_ast.specs.text.PolicyForms.{empty_entry, community_line, comms_match, policy_form, policy_item_by, policy_item_of}
use Rattle.reading_laws.specs.FormFaults.{StanzaPart, match_prefixes}
use Rattle.reading_laws.proofs.Given.{entry_has}

-- a head that is read opens an empty entry
abbrev OpensEmpty : Result PolicyItem FormFault → Type 0
OpensEmpty (Ok (item.MapHead name e)) = (p : StanzaPart) → entry_has e p ≡ false
OpensEmpty (Ok _) = Unit {0}
OpensEmpty (Err fault) = Unit {0}

bind : {A : Type 0} (r : Result A FormFault) (f : A → Result PolicyItem FormFault) → ((a : A) → OpensEmpty (f a)) → OpensEmpty (r >>= f)
bind (Ok a) f holds = holds a
bind (Err fault) f holds = tt

fits : (b : Bool) (r : Result PolicyItem FormFault) → OpensEmpty r → OpensEmpty (bad_unless b r)
fits true r holds = holds
fits false r holds = tt

preference : (o : Option ℕ) → OpensEmpty (or_bad (option_map item.Lp o))
preference (Some n) = tt
preference None = tt

choice : (b : Bool) (r s : Result PolicyItem FormFault) → OpensEmpty r → OpensEmpty s → OpensEmpty (if b then r else s)
choice true r s left right = left
choice false r s left right = right

community : (n : ℕ) (name act : List ℕ) (words : List (List ℕ)) → OpensEmpty (community_line n name act words)
unfolding community_line
community n name act words = search (bind)

empty_has : (seq n : ℕ) (permit : Bool) (p : StanzaPart) → entry_has (empty_entry seq permit n) p ≡ false
empty_has seq n permit match_prefixes = refl
empty_has seq n permit _ = refl

matched : (n : ℕ) (exact : Bool) (words : List (List ℕ)) → OpensEmpty (comms_match n exact words)
unfolding comms_match
matched n exact words = search (bind)

by_form : (f : PolicyForm) (n : ℕ) (words : List (List ℕ)) → OpensEmpty (policy_form f n words)
unfolding policy_form
by_form form.PrefixEntry n (_ ∷ _ ∷ name ∷ word ∷ number ∷ act ∷ prefix ∷ options) =
    search (fits, bind) depth 12
by_form form.CommunityLine n (_ ∷ _ ∷ word ∷ next ∷ third ∷ words) = search (choice, fits, community)
by_form form.MapHead n (_ ∷ name ∷ act ∷ number ∷ []) = search (bind, empty_has)
by_form form.MatchPrefixes n (_ ∷ _ ∷ _ ∷ _ ∷ words) = search (bind)
by_form form.MatchComms n (_ ∷ _ ∷ words) = search (choice, matched)
by_form form.Lp n (_ ∷ _ ∷ number ∷ []) = preference (number_word number)
by_form form.Comms n (_ ∷ _ ∷ words) = search (bind)
by_form form.Delete n (_ ∷ _ ∷ name ∷ word ∷ []) = search (fits, bind)
by_form form.Prepend n (_ ∷ _ ∷ _ ∷ words) = search (fits)
by_form _ n _ = tt

by_class : (c : Option HeadClass) (n : ℕ) (words : List (List ℕ)) → OpensEmpty (policy_item_by c n words)
unfolding policy_item_by
by_class None n words = tt
by_class (Some class.Refused) n words = tt
by_class (Some class.Ignored) n words = tt
by_class (Some (class.Router f)) n words = tt
by_class (Some (class.Policy f)) n words = by_form f n words

pub head_is_empty : (scope : PolicyScope) (n : ℕ) (words : List (List ℕ)) (name : List ℕ) (e : MapEntry) →
    policy_item_of scope n words ≡ Ok (item.MapHead name e) → (p : StanzaPart) → entry_has e p ≡ false
head_is_empty scope n words name e read = subst OpensEmpty read (by_class (class_in (policy_heads_of scope) words) n words)
