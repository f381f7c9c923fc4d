-- The text that is printed of labels gives these labels.
use Rattle.std.proofs.Common.{◌≡◌, ℕ, Bool, true, false, ◌||◌, List, [], ◌∷◌, length, map, filter, refl, sym, ap, ◌∙◌, arith, Option, Some, None, Ok}
use Rattle.std.specs.Prelude.{bytes_eq}
use Rattle.std.specs.List.{AllByRecursion, list_any}
use Rattle.std.proofs.lemmas.Slice.Eq.{bytes_eq-Decides}
use Rattle.base_kit.specs.declared.protocol.Protocol.{Protocol}
use Rattle.base_kit.specs.declared.protocol.Protocol.TheVariants.{Bgp as OverBgp, Ospf as OverOspf}
use Rattle.cfg_ast.specs.text.Members.{all_lines_of}
use Rattle.cfg_ast.specs.text.TextLines.{TextLine, text_line}
use Rattle.cfg_ast.specs.text.Words.{is_router_name}
use Rattle.cfg_ast.specs.printing.Bare.{bare_line}
use Rattle.cfg_ast.specs.printing.Printed.{lines_text}
use Rattle.cfg_round_trip.proofs.TextLines.{all_lines_back}
use Rattle.srp_core.specs.declared.route.Route.{Route}
use Rattle.srp_core.specs.declared.route.Route.TheVariants.{Bgp, Ospf}
use Rattle.solution_text.specs.Forms.{NamedLabel, saying, named_label_of}
use Rattle.solution_text.specs.Printed.{label_words, label_lines, labels_text}
use Rattle.solution_text.specs.Solutions.{are_some, has_words, solution_lines, named_labels, is_foreign, first_fault, said_of, labels_by, labels_of_text}
use Rattle.base_kit.specs.Names.{AreApart}
use Rattle.base_kit.specs.Options.{all_given}
use Rattle.numbered_names.proofs.Positions.{bytes_eq-sym}
use Rattle.solution_round_trip.specs.Laws.{IsLabelInRange, AreNames, PrintedSolutionIsReadBack}
use Rattle.solution_round_trip.proofs.LabelsBack.{words_back}
use Rattle.solution_round_trip.proofs.LinesBack.{lines_print}

-- ---- what the lines say

abbrev words_of : List TextLine → List (List (List ℕ))
words_of ls = map (λ (l : TextLine). l.words) ls

abbrev says_of : List (List ℕ) → List (Option Route) → List NamedLabel
says_of [] labels = []
says_of (name ∷ names) [] = []
says_of (name ∷ names) (label ∷ labels) = saying name label ∷ says_of names labels

-- each line says what stands at its place
abbrev Say : List TextLine → List NamedLabel → Type 0
Say [] [] = Unit {0}
Say [] (s ∷ ss) = ⊥
Say (l ∷ ls) [] = ⊥
Say (l ∷ ls) (s ∷ ss) = ((named_label_of l.words ≡ Some s) × (are_some l.words ≡ true)) × Say ls ss

words_are : (ls ks : List TextLine) → map bare_line ls ≡ map bare_line ks → words_of ls ≡ words_of ks
words_are ls ks same = sym (bare_words ls) ∙ ap words_of same ∙ bare_words ks
  where
    bare_words : (ls : List TextLine) → words_of (map bare_line ls) ≡ words_of ls
    bare_words [] = refl
    bare_words (l ∷ ls) = ap (λ (ws : List (List (List ℕ))). l.words ∷ ws) (bare_words ls)

first_of : {X : Type 0} (x y : X) (xs ys : List X) → x ∷ xs ≡ y ∷ ys → x ≡ y
first_of x y xs ys same = cc

rest_of : {X : Type 0} (x y : X) (xs ys : List X) → x ∷ xs ≡ y ∷ ys → xs ≡ ys
rest_of x y xs ys same = cc

printed_say : (protocol : Protocol) (names : List (List ℕ)) (labels : List (Option Route)) (ls : List TextLine)
    → AllByRecursion (λ (name : List ℕ). is_router_name name ≡ true) names → AllByRecursion (IsLabelInRange protocol) labels
    → words_of ls ≡ words_of (label_lines names labels) → Say ls (says_of names labels)
printed_say protocol [] labels [] named range same = tt
printed_say protocol [] labels (l ∷ ls) named range same = cc
printed_say protocol (name ∷ names) [] [] named range same = tt
printed_say protocol (name ∷ names) [] (l ∷ ls) named range same = cc
printed_say protocol (name ∷ names) (label ∷ labels) [] named range same = cc
printed_say protocol (name ∷ names) (label ∷ labels) (l ∷ ls) named range same =
    let here : l.words ≡ name ∷ label_words label = first_of l.words (name ∷ label_words label) (words_of ls) (words_of (label_lines names labels)) same in (
      (ap named_label_of here ∙ words_back protocol name label named.0 range.0, ap are_some here),
      printed_say protocol names labels ls named.1 range.1
          (rest_of l.words (name ∷ label_words label) (words_of ls) (words_of (label_lines names labels)) same),
    )

all_kept : (ls : List TextLine) (ss : List NamedLabel) → Say ls ss → filter has_words ls ≡ ls
all_kept [] [] say = refl
all_kept [] (s ∷ ss) say = absurd say
all_kept (l ∷ ls) [] say = absurd say
all_kept (l ∷ ls) (s ∷ ss) say = rw (say.0.1) (ap (λ (ks : List TextLine). l ∷ ks) (all_kept ls ss say.1))

all_said : (ls : List TextLine) (ss : List NamedLabel) → Say ls ss → named_labels ls ≡ ss
all_said [] [] say = refl
all_said [] (s ∷ ss) say = absurd say
all_said (l ∷ ls) [] say = absurd say
all_said (l ∷ ls) (s ∷ ss) say = rw (say.0.0) (ap (λ (more : List NamedLabel). s ∷ more) (all_said ls ss say.1))

-- ---- no line is at fault

own : (name : List ℕ) → bytes_eq name name ≡ true
own name = (bytes_eq-Decides name name).1 refl

abbrev AreKnown : List (List ℕ) → List (List ℕ) → Type 0
AreKnown all names = AllByRecursion (λ (name : List ℕ). list_any (bytes_eq name) all ≡ true) names

abbrev AreNew : List (List ℕ) → List (List ℕ) → Type 0
AreNew earlier names = AllByRecursion (λ (name : List ℕ). list_any (bytes_eq name) earlier ≡ false) names

or_true : (b : Bool) → (b || true) ≡ true
or_true true = refl
or_true false = refl

known_more : (one : List ℕ) (all names : List (List ℕ)) → AreKnown all names → AreKnown (one ∷ all) names
known_more one all [] known = tt
known_more one all (name ∷ names) known = (rw (known.0) (or_true (bytes_eq name one)), known_more one all names known.1)

all_known : (names : List (List ℕ)) → AreKnown names names
all_known [] = tt
all_known (name ∷ names) = (rw (own name) refl, known_more name names names (all_known names))

others_first : (name other : List ℕ) (names : List (List ℕ)) (b : Bool) → bytes_eq name other ≡ b → list_any (bytes_eq name) (other ∷ names) ≡ false →
    bytes_eq name other ≡ false
others_first name other names true e none = cc
others_first name other names false e none = e

others_rest : (name other : List ℕ) (names : List (List ℕ)) (b : Bool) → bytes_eq name other ≡ b → list_any (bytes_eq name) (other ∷ names) ≡ false →
    list_any (bytes_eq name) names ≡ false
others_rest name other names true e none = cc
others_rest name other names false e none = sym (rw e refl) ∙ none

new_more : (one : List ℕ) (earlier names : List (List ℕ)) → list_any (bytes_eq one) names ≡ false → AreNew earlier names → AreNew (one ∷ earlier) names
new_more one earlier [] none new = tt
new_more one earlier (name ∷ names) none new = (
  rw (bytes_eq-sym name one, others_first one name names (bytes_eq one name) refl none) new.0,
  new_more one earlier names (others_rest one name names (bytes_eq one name) refl none) new.1,
)

all_new : (names : List (List ℕ)) → AreNew [] names
all_new [] = tt
all_new (name ∷ names) = (refl, all_new names)

own_protocol : (protocol : Protocol) (label : Option Route) → IsLabelInRange protocol label → is_foreign protocol label ≡ false
own_protocol protocol None range = refl
own_protocol OverBgp (Some (Bgp lp path comms)) range = refl
own_protocol OverBgp (Some (Ospf cost)) range = absurd range.0
own_protocol OverOspf (Some (Bgp lp path comms)) range = absurd range.0
own_protocol OverOspf (Some (Ospf cost)) range = refl

no_fault : (protocol : Protocol) (all earlier names : List (List ℕ)) (labels : List (Option Route)) (ls : List TextLine) → Say ls (says_of names labels)
    → AreKnown all names → AreNew earlier names → AreApart names → AllByRecursion (IsLabelInRange protocol) labels → first_fault protocol all earlier ls ≡ None
unfolding first_fault
no_fault protocol all earlier [] labels [] say known new apart range = refl
no_fault protocol all earlier [] labels (l ∷ ls) say known new apart range = absurd say
no_fault protocol all earlier (name ∷ names) [] [] say known new apart range = refl
no_fault protocol all earlier (name ∷ names) [] (l ∷ ls) say known new apart range = absurd say
no_fault protocol all earlier (name ∷ names) (label ∷ labels) [] say known new apart range = absurd say
no_fault protocol all earlier (name ∷ names) (label ∷ labels) (l ∷ ls) say known new apart range =
    rw (say.0.0, known.0, new.0, own_protocol protocol label range.0)
    (no_fault protocol all (name ∷ earlier) names labels ls say.1 known.1 (new_more name earlier names apart.0 new.1) apart.1 range.1)

-- ---- each name has its label

said_other : (name : List ℕ) (label : Option Route) (ss : List NamedLabel) (names : List (List ℕ)) → list_any (bytes_eq name) names ≡ false →
    map (said_of (saying name label ∷ ss)) names ≡ map (said_of ss) names
said_other name label ss [] none = refl
said_other name label ss (other ∷ names) none =
    rw (others_first name other names (bytes_eq name other) refl none)
    (ap (λ (more : List (Option (Option Route))). said_of ss other ∷ more)
    (said_other name label ss names (others_rest name other names (bytes_eq name other) refl none)))

given_front : (x : Option (Option Route)) (label : Option Route) (xs : List (Option (Option Route))) (labels : List (Option Route)) → x ≡ Some label →
    all_given xs ≡ Some labels → all_given (x ∷ xs) ≡ Some (label ∷ labels)
given_front x label xs labels here more = rw (here, more) refl

said_own : (name : List ℕ) (label : Option Route) (ss : List NamedLabel) → said_of (saying name label ∷ ss) name ≡ Some label
said_own name label ss = rw (own name) refl

all_labels : (names : List (List ℕ)) (labels : List (Option Route)) → length labels ≡ length names → AreApart names →
    all_given (map (said_of (says_of names labels)) names) ≡ Some labels
all_labels [] [] total apart = refl
all_labels [] (label ∷ labels) total apart = absurd (omega (arith, total))
all_labels (name ∷ names) [] total apart = absurd (omega (arith, total))
all_labels (name ∷ names) (label ∷ labels) total apart =
    given_front (said_of (says_of (name ∷ names) (label ∷ labels)) name) label (map (said_of (says_of (name ∷ names) (label ∷ labels))) names) labels
    (said_own name label (says_of names labels))
    (ap all_given (said_other name label (says_of names labels) names apart.0) ∙ all_labels names labels (omega (arith, total)) apart.1)

-- ---- the text

labels_as : (says : List NamedLabel) (names : List (List ℕ)) (labels : List (Option Route)) → all_given (map (said_of says) names) ≡ Some labels →
    labels_by says names ≡ Some labels
unfolding labels_by
labels_as says names labels given = given

text_as : (protocol : Protocol) (names : List (List ℕ)) (labels : List (Option Route)) (bs : List ℕ) →
    first_fault protocol names [] (solution_lines bs) ≡ None → labels_by (named_labels (solution_lines bs)) names ≡ Some labels
    → labels_of_text protocol names bs ≡ Ok labels
unfolding labels_of_text
text_as protocol names labels bs none given = rw (none, given) refl

lines_as : (bs : List ℕ) (ss : List NamedLabel) → Say (map (text_line bs) (all_lines_of bs)) ss → solution_lines bs ≡ map (text_line bs) (all_lines_of bs)
unfolding solution_lines
lines_as bs ss say = all_kept (map (text_line bs) (all_lines_of bs)) ss say

read_text : (protocol : Protocol) (names : List (List ℕ)) (labels : List (Option Route)) → AreNames names → length labels ≡ length names →
    AllByRecursion (IsLabelInRange protocol) labels
    → labels_of_text protocol names (lines_text (label_lines names labels)) ≡ Ok labels
read_text protocol names labels are total range =
    let bs = lines_text (label_lines names labels) in
    let ls = map (text_line bs) (all_lines_of bs) in
    let same = words_are ls (label_lines names labels) (all_lines_back (label_lines names labels) (lines_print protocol names labels are.each range)) in
    let say = printed_say protocol names labels ls are.each range same in
    let lines = lines_as bs (says_of names labels) say in
    text_as protocol names labels bs
    (ap (first_fault protocol names []) lines ∙ no_fault protocol names [] names labels ls say (all_known names) (all_new names) are.apart range)
    (labels_as (named_labels (solution_lines bs)) names labels (ap (λ (ks : List TextLine). all_given (map (said_of (named_labels ks)) names)) lines
    ∙ ap (λ (ss : List NamedLabel). all_given (map (said_of ss) names)) (all_said ls (says_of names labels) say) ∙ all_labels names labels total are.apart))

pub printed_is_read_back : PrintedSolutionIsReadBack
unfolding labels_text
printed_is_read_back protocol names labels are total range = read_text protocol names labels are total range
