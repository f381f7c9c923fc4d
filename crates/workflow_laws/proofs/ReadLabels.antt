-- A text gives labels of a problem, or has a line at fault.
--
-- 1. What is said of a router has its communities in order, so all labels have them in order.
-- 2. The fault of a text is that of a line.
use Rattle.std.proofs.Common.{◌≡◌, ℕ, zero, suc, ◌+◌, ◌<◌, ◌&&◌, Bool, true, false, cond, List, [], ◌∷◌, All, length, refl, sym, ap, ◌∙◌, subst}
use Rattle.std.proofs.Common.{arith, Option, Some, None, Ok, Err, codes, map}
use Rattle.std.specs.Prelude.{bytes_eq, find, nat_lt, option_and_then, option_map}
use Rattle.std.specs.List.{AllByRecursion, cons_option}
use Rattle.std.proofs.lemmas.Bool.Decides.{nat_tests}
use Rattle.base_kit.specs.declared.protocol.Protocol.{Protocol}
use Rattle.base_kit.specs.Options.{all_given}
use Rattle.base_kit.specs.Sets.{AllAbove, IsAscending}
use Rattle.cfg_ast.specs.text.Members.{all_lines_of}
use Rattle.cfg_ast.specs.text.TextLines.{TextLine}
use Rattle.cfg_ast.specs.text.Words.{community_word, is_router_name, number_word}
use Rattle.srp_core.specs.declared.route.Route.{Route}
use Rattle.srp_core.specs.declared.route.Route.TheVariants.{Bgp, Ospf}
use Rattle.srp_core.specs.Labels.{HasSet}
use Rattle.srp_core.specs.Problem.{Problem, HasTables}
use Rattle.srp_core.specs.Stability.{AreLabels}
use Rattle.solution_text.specs.declared.refusal.SolKind.{SolKind}
use Rattle.solution_text.specs.declared.refusal.SolRefusal.{SolRefusal}
use Rattle.solution_text.specs.declared.refusal.SolRefusal.TheVariants as sol_refusal
use Rattle.solution_text.specs.Forms.{above, bgp_label_form, bgp_route, communities_above, community_above, label_form, named_label_of, none_form}
use Rattle.solution_text.specs.Forms.{ospf_label_form, path_of_words, saying, NamedLabel}
use Rattle.solution_text.specs.Solutions.{first_at_line, first_fault, kind_of, labels_by, labels_of_text, labels_unless, named_labels, named_too}
use Rattle.solution_text.specs.Solutions.{said_of, solution_lines}
use Rattle.solution_text.proofs.Kept.{labels_routes, labels_total}

-- ---- communities in order

abbrev AreOver : ℕ → List ℕ → Type 0
AreOver bound comms = AllAbove bound comms × IsAscending comms

over_lower : (low high : ℕ) → low < high → (comms : List ℕ) → AllAbove high comms → AllAbove low comms
over_lower low high less [] all = tt
over_lower low high less (c ∷ comms) all = (let first = all.0 in omega (arith, less, first), over_lower low high less comms all.1)

above_is : (bound community c : ℕ) → above bound community ≡ Some c → bound < c
above_is bound community c e = by (nat_lt bound community) refl (nat_lt community 4294901760) e
  where
    by : (a : Bool) → nat_lt bound community ≡ a → (b : Bool) → cond (a && b) (Some community) None ≡ Some c → bound < c
    by true less true e = (let same : community ≡ c = cc in let is : bound < community = grind (arith, nat_tests) in omega (arith, same, is))
    by true less false e = absurd cc
    by false less b e = absurd cc

word_over : (bound : ℕ) (word : List ℕ) (c : ℕ) → community_above bound word ≡ Some c → bound < c
unfolding community_above
word_over bound word c e = by (community_word word) e
  where
    by : (o : Option ℕ) → option_and_then (above bound) o ≡ Some c → bound < c
    by (Some community) e = above_is bound community c e
    by None e = absurd cc

all_over : (words : List (List ℕ)) (bound : ℕ) (comms : List ℕ) → communities_above bound words ≡ Some comms → AreOver bound comms
unfolding communities_above
all_over [] bound comms e = (let none : [] ≡ comms = cc in subst (AreOver bound) none (tt, tt))
all_over (word ∷ words) bound comms e = by (λ c rest. all_over words c rest) (community_above bound word) refl e
  where
    more : (c : ℕ) → bound < c → (o : Option (List ℕ)) → ((rest : List ℕ) → o ≡ Some rest → AreOver c rest) → option_map (λ rest. c ∷ rest) o ≡ Some comms
        → AreOver bound comms
    more c less (Some rest) all e =
        let same : c ∷ rest ≡ comms = cc in
        let over = all rest refl in
        subst (AreOver bound) same ((less, over_lower bound c less rest over.0), (over.0, over.1))
    more c less None all e = absurd cc

    by : ((c : ℕ) (rest : List ℕ) → communities_above c words ≡ Some rest → AreOver c rest) → (o : Option ℕ) → community_above bound word ≡ o
        → option_and_then (λ community. option_map (λ rest. community ∷ rest) (communities_above community words)) o ≡ Some comms → AreOver bound comms
    by all (Some c) is e = more c (word_over bound word c is) (communities_above c words) (all c) e
    by all None is e = absurd cc

-- ---- labels of forms

bgp_set : (words : List (List ℕ)) (r : Route) → bgp_label_form words ≡ Some r → HasSet (Some r)
unfolding bgp_label_form
bgp_set (preference ∷ mark ∷ words) r e = by (bytes_eq mark (codes "path")) (number_word preference) (path_of_words words) e
  where
    over : (lp : ℕ) (path : List ℕ) (rest : List (List ℕ)) (o : Option (List ℕ)) → communities_above 0 rest ≡ o
        → option_map (λ comms. Bgp lp path comms) o ≡ Some r → HasSet (Some r)
    over lp path rest (Some comms) is e = (let same : Bgp lp path comms ≡ r = cc in subst (λ s. HasSet (Some s)) same (all_over rest 0 comms is).1)
    over lp path rest None is e = absurd cc

    by : (b : Bool) (n : Option ℕ) (p : Option (List ℕ × List (List ℕ)))
        → cond b (option_and_then (λ lp. option_and_then (bgp_route lp) p) n) None ≡ Some r → HasSet (Some r)
    by true (Some lp) (Some (path, rest)) e = over lp path rest (communities_above 0 rest) refl e
    by true (Some lp) None e = absurd cc
    by true None p e = absurd cc
    by false n p e = absurd cc
bgp_set [] r e = absurd cc
bgp_set (preference ∷ []) r e = absurd cc

-- the communities of what is said are in order
form_set : (word : List ℕ) (words : List (List ℕ)) (l : Option Route) → label_form word words ≡ Some l → HasSet l
unfolding label_form
form_set word words l e = by (bytes_eq word (codes "none")) (bytes_eq word (codes "cost")) (bytes_eq word (codes "bgp")) e
  where
    of_none : (ws : List (List ℕ)) → none_form ws ≡ Some l → HasSet l
    of_none [] e = (let same : None ≡ l = cc in subst HasSet same tt)
    of_none (w ∷ ws) e = absurd cc

    of_cost : (ws : List (List ℕ)) → option_map (λ r. Some r) (ospf_label_form ws) ≡ Some l → HasSet l
    of_cost (cost ∷ []) e = given (number_word cost) e
      where
        given : (o : Option ℕ) → option_map (λ r. Some r) (option_map (λ c. Ospf c) o) ≡ Some l → HasSet l
        given (Some c) e = (let same : Some (Ospf c) ≡ l = cc in subst HasSet same tt)
        given None e = absurd cc
    of_cost [] e = absurd cc
    of_cost (a ∷ b ∷ ws) e = absurd cc

    of_bgp : (o : Option Route) → bgp_label_form words ≡ o → option_map (λ r. Some r) o ≡ Some l → HasSet l
    of_bgp (Some r) is e = (let same : Some r ≡ l = cc in subst HasSet same (bgp_set words r is))
    of_bgp None is e = absurd cc

    by : (a b c : Bool)
        → cond a (none_form words) (cond b (option_map (λ r. Some r) (ospf_label_form words)) (cond c (option_map (λ r. Some r) (bgp_label_form words)) None))
        ≡ Some l → HasSet l
    by true b c e = of_none words e
    by false true c e = of_cost words e
    by false false true e = of_bgp (bgp_label_form words) refl e
    by false false false e = absurd cc

line_set : (words : List (List ℕ)) (s : NamedLabel) → named_label_of words ≡ Some s → HasSet s.label
unfolding named_label_of
line_set (name ∷ word ∷ words) s e = by (is_router_name name) (label_form word words) refl e
  where
    by : (b : Bool) (o : Option (Option Route)) → label_form word words ≡ o → cond b (option_map (saying name) o) None ≡ Some s → HasSet s.label
    by true (Some l) is e = (let same : saying name l ≡ s = cc in subst (λ (t : NamedLabel). HasSet t.label) same (form_set word words l is))
    by true None is e = absurd cc
    by false o is e = absurd cc
line_set [] s e = absurd cc
line_set (name ∷ []) s e = absurd cc

abbrev HaveSets : List NamedLabel → Type 0
HaveSets says = AllByRecursion (λ (s : NamedLabel). HasSet s.label) says

lines_sets : (ls : List TextLine) → HaveSets (named_labels ls)
lines_sets [] = tt
lines_sets (l ∷ ls) = by (named_label_of l.words) refl (lines_sets ls)
  where
    by : (o : Option NamedLabel) → named_label_of l.words ≡ o → HaveSets (named_labels ls) → HaveSets (cons_option o (named_labels ls))
    by (Some s) is rest = (line_set l.words s is, rest)
    by None is rest = rest

said_set : (says : List NamedLabel) → HaveSets says → (name : List ℕ) (l : Option Route) → said_of says name ≡ Some l → HasSet l
said_set [] sets name l e = absurd cc
said_set (s ∷ says) sets name l e = by (said_set says sets.1 name l) (bytes_eq s.name name) e
  where
    by : (said_of says name ≡ Some l → HasSet l) → (b : Bool)
        → option_map (λ (t : NamedLabel). t.label) (cond b (Some s) (find (λ (t : NamedLabel). bytes_eq t.name name) says)) ≡ Some l → HasSet l
    by rest true e = (let same : s.label ≡ l = cc in subst HasSet same sets.0)
    by rest false e = rest e

given_sets : (says : List NamedLabel) → HaveSets says → (names : List (List ℕ)) (labels : List (Option Route))
    → all_given (map (said_of says) names) ≡ Some labels → AllByRecursion HasSet labels
given_sets says sets [] labels e = (let none : [] ≡ labels = cc in subst (AllByRecursion HasSet) none tt)
given_sets says sets (name ∷ names) labels e = by (said_of says name) refl (all_given (map (said_of says) names)) refl (given_sets says sets names) e
  where
    by : (o : Option (Option Route)) → said_of says name ≡ o → (rest : Option (List (Option Route))) → all_given (map (said_of says) names) ≡ rest
        → ((ls : List (Option Route)) → all_given (map (said_of says) names) ≡ Some ls → AllByRecursion HasSet ls)
        → all_given (o ∷ map (said_of says) names) ≡ Some labels → AllByRecursion HasSet labels
    by (Some l) is (Some ls) are all e =
        let both : option_map (λ more. l ∷ more) (Some ls) ≡ Some labels = ap (option_map (λ more. l ∷ more)) (sym are) ∙ e in
        let same : l ∷ ls ≡ labels = cc in
        subst (AllByRecursion HasSet) same (said_set says sets name l is, all ls are)
    by (Some l) is None are all e =
        absurd (let none : option_map (λ (more : List (Option Route)). l ∷ more) None ≡ Some labels = ap (option_map (λ more. l ∷ more)) (sym are) ∙ e in cc)
    by None is rest are all e = absurd cc

each_set : (labels : List (Option Route)) → AllByRecursion HasSet labels → All HasSet labels
each_set [] all k d h = absurd (omega (arith, h))
each_set (l ∷ labels) all zero d h = all.0
each_set (l ∷ labels) all (suc k) d h = each_set labels all.1 k d (omega (arith, h))

labels_given : (fault : Option SolRefusal) (line : ℕ) (found : Option (List (Option Route))) (labels : List (Option Route))
    → labels_unless fault line found ≡ Ok labels → found ≡ Some labels
labels_given None line (Some found) labels e = (let same : found ≡ labels = cc in ap (λ (ls : List (Option Route)). Some ls) same)
labels_given None line None labels e = absurd cc
labels_given (Some fault) line found labels e = absurd cc

pub are_labels : (P : Problem) → HasTables P → (text : List ℕ) (labels : List (Option Route)) → labels_of_text P.protocol P.names text ≡ Ok labels
    → AreLabels P labels
unfolding labels_of_text labels_by
are_labels P tables text labels e =
    let given =
    labels_given (first_fault P.protocol P.names [] (solution_lines text)) (length (all_lines_of text) + 1)
    (labels_by (named_labels (solution_lines text)) P.names) labels e in
    let sets = given_sets (named_labels (solution_lines text)) (lines_sets (solution_lines text)) P.names labels given in
    record {
      total = labels_total P.protocol P.names text labels e ∙ tables.names;
      routes = labels_routes P.protocol P.names text labels e (each_set labels sets);
    }

-- ---- faults

not_memory : (protocol : Protocol) (names earlier : List (List ℕ)) (ls : List TextLine) → first_fault protocol names earlier ls ≡ Some sol_refusal.Memory → ⊥
unfolding first_fault
not_memory protocol names earlier [] e = cc
not_memory protocol names earlier (l ∷ ls) e =
    by (kind_of protocol names earlier (named_label_of l.words)) (not_memory protocol names (named_too (named_label_of l.words) earlier) ls) e
  where
    by : (o : Option SolKind) → (first_fault protocol names (named_too (named_label_of l.words) earlier) ls ≡ Some sol_refusal.Memory → ⊥)
        → first_at_line l.number o (first_fault protocol names (named_too (named_label_of l.words) earlier) ls) ≡ Some sol_refusal.Memory → ⊥
    by None rest e = rest e
    by (Some kind) rest e = cc

pub no_memory : (protocol : Protocol) (names : List (List ℕ)) (text : List ℕ) → labels_of_text protocol names text ≡ Err sol_refusal.Memory → ⊥
unfolding labels_of_text
no_memory protocol names text e = by (first_fault protocol names [] (solution_lines text)) refl (labels_by (named_labels (solution_lines text)) names) e
  where
    by : (fault : Option SolRefusal) → first_fault protocol names [] (solution_lines text) ≡ fault → (found : Option (List (Option Route)))
        → labels_unless fault (length (all_lines_of text) + 1) found ≡ Err sol_refusal.Memory → ⊥
    by None is (Some labels) e = cc
    by None is None e = cc
    by (Some sol_refusal.Memory) is found e = not_memory protocol names [] (solution_lines text) is
    by (Some (sol_refusal.At line kind)) is found e = cc
