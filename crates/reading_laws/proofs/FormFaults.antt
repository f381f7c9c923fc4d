-- Reading stops at the first line that has a fault by the lines before it.
use Rattle.std.proofs.Common.{◌≡◌, ℕ, Bool, true, false, List, [], ◌∷◌, Option, None, Result, Ok, Err, refl, ap, ◌∙◌, inl, inr}
use Rattle.cfg_ast.specs.declared.network.Network.{Network}
use Rattle.cfg_ast.specs.declared.line.Line.{Line}
use Rattle.cfg_ast.specs.declared.items.Scope.TheVariants as scope
use Rattle.cfg_ast.specs.declared.items.PolicyScope.TheVariants as policy_scope
use Rattle.cfg_ast.specs.declared.refusal.Kind.TheVariants as kind
use Rattle.cfg_ast.specs.declared.refusal.ReadRefusal.{ReadRefusal}
use Rattle.cfg_ast.specs.declared.refusal.ReadRefusal.TheVariants as refusal
use Rattle.cfg_ast.specs.text.TextLines.{TextLine}
use Rattle.cfg_ast.specs.text.Lines.{lines_of}
use Rattle.cfg_ast.specs.text.RouterForms.{router_item_of}
use Rattle.cfg_ast.specs.text.PolicyForms.{policy_item_of}
use Rattle.cfg_ast.specs.text.PolicyLines.{is_policy_line, has_prefix_entry, has_map_entry}
use Rattle.cfg_ast.specs.text.Steps.{◌>>=◌}
use Rattle.cfg_ast.specs.text.Reading.{Stanza, closed, ignored, in_interface, in_bgp, in_ospf, in_entry, State, at_start, has_interface, with_closed, take_inner, steps, ending, network_of_lines, texts_of, network_of_text}
use Rattle.reading_laws.specs.FormFaults.{Thing, host_name, interface, bgp, ospf, prefix_entry, map_entry, whole, Open, nothing, unread, within, silent, is_top, open_of, is_given, fault_of, fault_or_else, first_form_fault, fault_in, FirstFaultDecides, text_fault, TextFaultDecides}
use Rattle.reading_laws.proofs.Given.{has_thing, IsOf, SameOpen, Agrees, Outcome, agrees_next, says_within, open_inner}
use Rattle.reading_laws.proofs.TopLines.{top_case}
use Rattle.reading_laws.proofs.StanzaLines.{Within, with_stanza, inner_step, interface_case, ospf_case, entry_case}
use Rattle.reading_laws.proofs.BgpLines.{bgp_case}

-- ---- indented lines

-- no stanza is open
homeless_case : (past : List TextLine) (l : TextLine) (s : State) → is_top l ≡ false → s.draft.stanza ≡ closed → open_of past ≡ nothing → Outcome past l s
unfolding take_inner fault_of
homeless_case past l s inner stands opened = inl (refusal.At l.number kind.Misplaced, inner_step s l closed inner stands, rw (inner, opened) refl)

-- a line of a stanza that is not read
unread_fault : (past : List TextLine) (l : TextLine) → is_top l ≡ false → open_of past ≡ unread → fault_of past l ≡ None
unfolding fault_of
unread_fault past l inner opened = rw (says_within past l unread (Ok silent) inner opened refl, inner, opened) refl

unread_things : (s : State) (u : Thing) → s.draft.stanza ≡ ignored → has_thing (with_closed (with_stanza s ignored).draft) u ≡ has_thing (with_closed s.draft) u
unfolding with_closed
unread_things s u stands = rw stands refl

unread_case : (past : List TextLine) (l : TextLine) (s : State) → Agrees past s → is_top l ≡ false → s.draft.stanza ≡ ignored → open_of past ≡ unread →
    Outcome past l s
unfolding take_inner
unread_case past l s ag inner stands opened =
    inr (
      with_stanza s ignored,
      inner_step s l ignored inner stands,
      unread_fault past l inner opened,
      agrees_next past l s (with_stanza s ignored) silent None ag (says_within past l unread (Ok silent) inner opened refl) refl refl tt
          (λ u. unread_things s u stands) (rw (open_inner past l inner, opened) refl),
    )

within_case : (past : List TextLine) (l : TextLine) (s : State) (t : Thing) (st : Stanza) → Within past l s t st → IsOf st t → Outcome past l s
within_case past l s (interface name) (in_interface i) w is = interface_case past l s i name w is (router_item_of scope.Interface l.number l.words) refl
within_case past l s bgp (in_bgp b) w is = bgp_case past l s b w (router_item_of scope.Bgp l.number l.words) refl
within_case past l s ospf (in_ospf o) w is = ospf_case past l s o w (router_item_of scope.Ospf l.number l.words) refl
within_case past l s (map_entry name seq) (in_entry map e) w is =
    entry_case past l s map e name seq w is.0 is.1 (policy_item_of policy_scope.Entry l.number l.words) refl
within_case past l s host_name closed w is = absurd is
within_case past l s (prefix_entry name seq) closed w is = absurd is
within_case past l s _ _ w is = absurd is

inner_case : (past : List TextLine) (l : TextLine) (s : State) → Agrees past s → is_top l ≡ false → (o : Open) → open_of past ≡ o →
    SameOpen past s.draft.stanza o → Outcome past l s
inner_case past l s ag inner nothing opened same = homeless_case past l s inner same opened
inner_case past l s ag inner unread opened same = unread_case past l s ag inner same opened
inner_case past l s ag inner (within t) opened same =
    within_case past l s t s.draft.stanza (record { agrees = ag; inner = inner; opened = opened; stands = refl; stood = same.1; parts = same.2 }) same.0

-- ---- all lines

one_line : (past : List TextLine) (l : TextLine) (s : State) → Agrees past s → (b : Bool) → is_top l ≡ b → Outcome past l s
one_line past l s ag true top = top_case past l s ag top (is_policy_line l.words) refl
one_line past l s ag false top = inner_case past l s ag top (open_of past) refl ag.open_is

all_lines : (ls past : List TextLine) (s : State) → Agrees past s → fault_in (steps s ls) ≡ first_form_fault past ls
unfolding steps
all_lines [] past s ag = refl
all_lines (l ∷ ls) past s ag =
    elim (one_line past l s ag (is_top l) refl) [
      | inl o ↦ rw (o.1, o.2) refl
      | inr o ↦ rw (o.1, o.2) (all_lines ls (l ∷ past) o.0 o.3)
    ]

start_things : (t : Thing) → has_thing (with_closed at_start.draft) t ≡ is_given [] (whole t)
unfolding with_closed is_given has_interface has_prefix_entry has_map_entry
start_things host_name = refl
start_things _ = refl

start_agrees : Agrees [] at_start
unfolding is_given
start_agrees = record { things = start_things; open_is = refl; fresh = λ t p not. refl }

pub first_fault_decides : FirstFaultDecides
first_fault_decides ls = all_lines ls [] at_start start_agrees

-- ---- a text

either : (r : Result State ReadRefusal) (end : Result (Unit {0}) ReadRefusal) →
    fault_in {X = Network} (r >>= (λ (s : State). end >>= (λ _. Ok (record { routers = s.routers })))) ≡ fault_or_else (fault_in r) (fault_in end)
either (Err fault) end = refl
either (Ok s) (Err fault) = refl
either (Ok s) (Ok _) = refl

lines_case : (ls : List TextLine) → fault_in (network_of_lines ls) ≡ fault_or_else (first_form_fault [] ls) (fault_in (ending ls))
unfolding network_of_lines
lines_case ls = either (steps at_start ls) (ending ls) ∙ ap (λ (o : Option ReadRefusal). fault_or_else o (fault_in (ending ls))) (first_fault_decides ls)

text_case : (bs : List ℕ) (r : Result (List Line) ReadRefusal) → fault_in (r >>= (λ (ls : List Line). network_of_lines (texts_of bs ls))) ≡ text_fault bs r
text_case bs (Err fault) = refl
text_case bs (Ok ls) = lines_case (texts_of bs ls)

pub text_fault_decides : TextFaultDecides
unfolding network_of_text
text_fault_decides bs = text_case bs (lines_of bs)
