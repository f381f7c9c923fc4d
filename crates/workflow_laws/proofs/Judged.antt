-- Each text is read, or refused for a line and a kind.
use Rattle.std.proofs.Common.{◌≡◌, ℕ, Bool, true, false, cond, List, [], ◌∷◌, refl, sym, ap, ◌∙◌, subst, Option, Some, None, Result, Ok, Err}
use Rattle.std.specs.Prelude.{◌-◌, filter, length, map, slice_get, ◌==◌, ◌&&◌, IfSome}
use Rattle.std.specs.List.{cons_option, AllByRecursion}
use Rattle.std.specs.Option.{option_map}
use Rattle.cfg_ast.specs.declared.items.PolicyScope.TheVariants as policy_scope
use Rattle.cfg_ast.specs.declared.items.Scope.TheVariants as scope
use Rattle.cfg_ast.specs.declared.line.Line.{Line}
use Rattle.cfg_ast.specs.declared.network.Network.{Network}
use Rattle.cfg_ast.specs.declared.refusal.Fault.{Fault}
use Rattle.cfg_ast.specs.declared.refusal.FormFault.{FormFault}
use Rattle.cfg_ast.specs.declared.refusal.FormFault.TheVariants as fault
use Rattle.cfg_ast.specs.declared.refusal.Kind.{Kind}
use Rattle.cfg_ast.specs.declared.refusal.Kind.TheVariants.{NoEnd}
use Rattle.cfg_ast.specs.declared.refusal.ReadRefusal.{ReadRefusal}
use Rattle.cfg_ast.specs.declared.refusal.ReadRefusal.TheVariants.{At, Memory}
use Rattle.cfg_ast.specs.meaning.Meaning.{judged, least_fault, meaning_faults, refused_by}
use Rattle.cfg_ast.specs.text.Heads.{class_in, heads_of, policy_heads_of}
use Rattle.cfg_ast.specs.text.Lines.{is_kept, kind_at, line_faults, line_of, lines_in, lines_of, pieces_from, unless_refused, Piece}
use Rattle.cfg_ast.specs.text.PolicyForms.{policy_item_of}
use Rattle.cfg_ast.specs.text.PolicyLines.{is_policy_line}
use Rattle.cfg_ast.specs.text.Reading.{end_at, ending, is_end, network_of_text, reading_of, texts_of}
use Rattle.cfg_ast.specs.text.RouterForms.{router_item_of}
use Rattle.cfg_ast.specs.text.Stanzas.{refusal_of}
use Rattle.cfg_ast.specs.text.Steps.{◌>>=◌}
use Rattle.cfg_ast.specs.text.TextLines.{TextLine}
use Rattle.reading_laws.specs.FormFaults.{bgp_saying, entry_saying, fault_in, fault_of, first_form_fault, homeless, inner_says, interface_saying, is_given, is_top}
use Rattle.reading_laws.specs.FormFaults.{list_saying, means, nameless, open_of, fault_or_else, ospf_saying, repeated, saying_fault, says, stanza_says, stranger}
use Rattle.reading_laws.specs.FormFaults.{text_fault, top_saying, top_says, when, Open, Saying, TextFaultDecides, Thing, What}
use Rattle.reading_laws.specs.FormFaults as form
use Rattle.workflow_laws.specs.Existence.{EachTextIsJudged}
use Rattle.workflow_laws.proofs.CalmForms.{policy_item_calm, router_item_calm, Calm, IsNamed}

-- a refusal for a line and a kind
abbrev IsAt : ReadRefusal → Type 0
IsAt (At line kind) = Unit {0}
IsAt Memory = ⊥

or_at : (a b : Option ReadRefusal) → IfSome a IsAt → IfSome b IsAt → IfSome (fault_or_else a b) IsAt
or_at None b first second = second
or_at (Some r) b first second = first

-- ---- faults of lines as such

one_fault : (n : ℕ) (o : Option Kind) (rest : List ReadRefusal) → AllByRecursion IsAt rest → AllByRecursion IsAt (cons_option (option_map (At n) o) rest)
one_fault n None rest all = all
one_fault n (Some kind) rest all = (tt, all)

faults_at : (bs : List ℕ) (ps : List Piece) → AllByRecursion IsAt (line_faults bs ps)
faults_at bs [] = tt
faults_at bs (p ∷ ps) = one_fault p.number (kind_at bs p) (line_faults bs ps) (faults_at bs ps)

lines_at : (bs : List ℕ) (ps : List Piece) (r : ReadRefusal) → lines_in bs ps ≡ Err r → IsAt r
unfolding lines_in
lines_at bs ps r e = by (line_faults bs ps) (faults_at bs ps) e
  where
    by : (faults : List ReadRefusal) → AllByRecursion IsAt faults → unless_refused faults (map (line_of bs) (filter (is_kept bs) ps)) ≡ Err r → IsAt r
    by [] all e = absurd cc
    by (x ∷ faults) all e = (let same : x ≡ r = cc in subst IsAt same all.0)

-- ---- faults of form

named_at : (n : ℕ) (f : FormFault) → IsNamed f → IsAt (refusal_of n f)
named_at n fault.UnknownLine is = tt
named_at n fault.Unsupported is = tt
named_at n fault.BadForm is = tt
named_at n fault.WellKnown is = tt
named_at n fault.Memory is = absurd is

means_calm : {X : Type 0} (saying : X → Saying) (r : Result X FormFault) → Calm r → Calm (means saying r)
means_calm saying (Ok x) calm = tt
means_calm saying (Err f) calm = calm

top_calm : (l : TextLine) → Calm (top_says l)
top_calm l = by (is_policy_line l.words)
  where
    by : (b : Bool)
        → Calm (cond b (means list_saying (policy_item_of policy_scope.Top l.number l.words)) (means top_saying (router_item_of scope.Top l.number l.words)))
    by true = means_calm list_saying _ (policy_item_calm (class_in (policy_heads_of policy_scope.Top) l.words) l.number l.words)
    by false = means_calm top_saying _ (router_item_calm (class_in (heads_of scope.Top) l.words) l.number l.words)

stanza_calm : (l : TextLine) (t : Thing) → Calm (stanza_says l t)
stanza_calm l (form.interface name) =
    means_calm (interface_saying (form.interface name)) _ (router_item_calm (class_in (heads_of scope.Interface) l.words) l.number l.words)
stanza_calm l form.bgp = means_calm bgp_saying _ (router_item_calm (class_in (heads_of scope.Bgp) l.words) l.number l.words)
stanza_calm l form.ospf = means_calm ospf_saying _ (router_item_calm (class_in (heads_of scope.Ospf) l.words) l.number l.words)
stanza_calm l (form.map_entry name seq) =
    means_calm (entry_saying (form.map_entry name seq)) _ (policy_item_calm (class_in (policy_heads_of policy_scope.Entry) l.words) l.number l.words)
stanza_calm l form.host_name = tt
stanza_calm l (form.prefix_entry name seq) = tt

inner_calm : (l : TextLine) (o : Open) → Calm (inner_says l o)
inner_calm l form.nothing = tt
inner_calm l form.unread = tt
inner_calm l (form.within t) = stanza_calm l t

says_calm : (past : List TextLine) (l : TextLine) → Calm (says past l)
unfolding says
says_calm past l = by (is_top l)
  where
    by : (b : Bool) → Calm (cond b (top_says l) (inner_says l (open_of past)))
    by true = top_calm l
    by false = inner_calm l (open_of past)

when_at : (b : Bool) (n : ℕ) (kind : Kind) → IfSome (when b (At n kind)) IsAt
when_at true n kind = tt
when_at false n kind = tt

unless_at : (b : Bool) (n : ℕ) (kind : Kind) → IfSome (cond b None (Some (At n kind))) IsAt
unless_at true n kind = tt
unless_at false n kind = tt

stranger_at : (past : List TextLine) (n : ℕ) (peer : Option ℕ) → IfSome (stranger past n peer) IsAt
stranger_at past n None = tt
stranger_at past n (Some addr) = unless_at (is_given past (form.part form.bgp (form.remote_as addr))) n _

repeated_at : (past : List TextLine) (n : ℕ) (gives : Option What) → IfSome (repeated past n gives) IsAt
repeated_at past n None = tt
repeated_at past n (Some w) = when_at (is_given past w) n _

nameless_at : (past : List TextLine) (n : ℕ) (ends : Bool) → IfSome (nameless past n ends) IsAt
nameless_at past n false = tt
nameless_at past n true = unless_at (is_given past (form.whole form.host_name)) n _

saying_at : (past : List TextLine) (n : ℕ) (r : Result Saying FormFault) → Calm r → IfSome (saying_fault past n r) IsAt
saying_at past n (Err f) calm = named_at n f calm
saying_at past n (Ok s) calm =
    or_at (stranger past n s.peer) _ (stranger_at past n s.peer) (or_at (repeated past n s.gives) _ (repeated_at past n s.gives) (nameless_at past n s.ends))

homeless_at : (n : ℕ) (o : Open) → IfSome (homeless n o) IsAt
homeless_at n form.nothing = tt
homeless_at n form.unread = tt
homeless_at n (form.within t) = tt

one_at : (past : List TextLine) (l : TextLine) → IfSome (fault_of past l) IsAt
unfolding fault_of
one_at past l = or_at (cond (is_top l) None (homeless l.number (open_of past))) _ (by (is_top l)) (saying_at past l.number (says past l) (says_calm past l))
  where
    by : (b : Bool) → IfSome (cond b None (homeless l.number (open_of past))) IsAt
    by true = tt
    by false = homeless_at l.number (open_of past)

first_at : (past ls : List TextLine) → IfSome (first_form_fault past ls) IsAt
first_at past [] = tt
first_at past (l ∷ ls) = or_at (fault_of past l) _ (one_at past l) (first_at (l ∷ past) ls)

end_found : (o : Option TextLine) → IfSome (fault_in (end_at o)) IsAt
end_found None = tt
end_found (Some l) = by (l.indent == 0 && is_end l.words)
  where
    by : (b : Bool) → IfSome (fault_in (let r : Result (Unit {0}) ReadRefusal = cond b (Ok tt) (Err (At l.number NoEnd)) in r)) IsAt
    by true = tt
    by false = tt

-- ---- a text

text_at : (bs : List ℕ) (r : Result (List Line) ReadRefusal) → lines_of bs ≡ r → IfSome (text_fault bs r) IsAt
unfolding ending
text_at bs (Err x) e = lines_at bs (pieces_from bs 1 0) x e
text_at bs (Ok ls) e =
    let lines = texts_of bs ls in
    or_at (first_form_fault [] lines) _ (first_at [] lines) (end_found (slice_get lines (length lines - 1)))

pub each_text_is_judged : TextFaultDecides → EachTextIsJudged
unfolding reading_of judged
each_text_is_judged decides text e = by (network_of_text text) refl e
  where
    some_at : (x : ReadRefusal) → network_of_text text ≡ Err x → IsAt x
    some_at x is =
        let same : Some x ≡ text_fault text (lines_of text) = sym (ap fault_in is) ∙ decides text in
        subst (λ (o : Option ReadRefusal). IfSome o IsAt) (sym same) (text_at text (lines_of text) refl)

    by_fault : (n : Network) (o : Option Fault) → refused_by n o ≡ Err Memory → ⊥
    by_fault n None e = cc
    by_fault n (Some f) e = cc

    by : (r : Result Network ReadRefusal) → network_of_text text ≡ r → (r >>= judged) ≡ Err Memory → ⊥
    by (Ok n) is e = by_fault n (least_fault (meaning_faults n)) e
    by (Err x) is e = (let same : x ≡ Memory = cc in subst IsAt same (some_at x is))
